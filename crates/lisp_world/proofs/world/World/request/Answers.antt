use Rattle.std.proofs.Common.{refl, sym, ap}
use Rattle.std.proofs.lemmas.Bool.{ltb-true}
use Rattle.std.proofs.lemmas.Option.{slice_get_read, slice_get_past}
use Rattle.std.specs.Option.{option_map}
use Rattle.lisp_refinement.specs.World.{ServerNodeState}
use Rattle.lisp_world.proofs.Taking.{network_promises, network_replies}
use Rattle.lisp_world.proofs.world.World.request.Goals as goal

pub returns-clause-replies : goal.returns-clause-replies
returns-clause-replies g c =
    let found = rw c.deref.ensures.value at c.in_ok-get.ensures.lookup in
    rw (← c.self.view_is)
    (network_replies _ _ _ _ _ (slice_get_read c.self.inside.servers.items _ _ c.in_ok-get.field-0.now refl (ltb-true _ _ (sym found.0)) found.1) c.reply_to.result c.reply_to.ensures.reply)

pub returns-clause-promised : goal.returns-clause-promised
returns-clause-promised g c =
    let found = rw c.deref.ensures.value at c.in_ok-get.ensures.lookup in
    rw (← c.self.view_is)
    (network_promises _ _ _ _ _ (slice_get_read c.self.inside.servers.items _ _ c.in_ok-get.field-0.now refl (ltb-true _ _ (sym found.0)) found.1) c.reply_to.result c.reply_to.ensures.reply)

pub returns-in_err-get-clause-missing : goal.returns-in_err-get-clause-missing
returns-in_err-get-clause-missing g c = λ none. (
    let past = rw c.deref.ensures.value at c.in_err-get.ensures.lookup.3 in
    rw (← c.self.view_is) (ap (option_map (λ (n : ServerNodeState). n.core)) (slice_get_past c.self.inside.servers.items _ past)))
