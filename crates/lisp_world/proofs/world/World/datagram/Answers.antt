use Rattle.std.proofs.Common.{List, ap, ◌∙◌}
use Rattle.std.specs.Prelude.{slice_get}
use Rattle.lisp_refinement.specs.World.{DatagramValue, WorldState}
use Rattle.lisp_world.proofs.Taking.{element_read}
use Rattle.lisp_world.proofs.world.World.datagram.Goals as goal

pub returns : goal.returns
returns g c =
    element_read c.deref.result.now c.args.k c.get.result c.get.ensures.lookup.0 c.get.ensures.lookup.1
    ∙ ap (λ (bag : List DatagramValue). slice_get bag c.args.k) (c.deref.ensures.value ∙ ap (λ (w : WorldState). w.bag) c.self.view_is)
