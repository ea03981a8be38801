use Rattle.lisp_refinement.proofs.Headlines.{networks_promise}
use Rattle.lisp_world.proofs.Taking.{parts}
use Rattle.lisp_world.proofs.world.World.step.Goals as goal

pub returns : goal.returns
returns g c =
    let p = parts _ _ _ _ _ _ c.take.ensures in
    record { stands = p.stands; headline = networks_promise _; fault = p.fault; err = p.left; memory = p.memory; tells = p.tells; calm = p.calm }
