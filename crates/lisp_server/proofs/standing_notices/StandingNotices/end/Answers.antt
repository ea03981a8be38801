use Rattle.std.proofs.Common.{arith}
use Rattle.lisp_server.proofs.StandingLaws.{place_within, notice_ended, none_ended, rises_remove}
use Rattle.lisp_server.proofs.standing_notices.StandingNotices.end.Goals as goal

pub remove-requires : goal.remove-requires
remove-requires g c = omega (arith, place_within c.self.inside.items.items c.args.router.now _ (rw c.deref.ensures.value at c.in-Ok.ensures.found))

pub invariant_of-self : goal.invariant_of-self
invariant_of-self g c = rw c.remove.ensures.items (rises_remove c.self.inside.items.items c.in-Ok.place c.self.invariant)

pub returns-in-Ok : goal.returns-in-Ok
returns-in-Ok g c = rw (← c.self.view_is, c.remove.ensures.items) (notice_ended c.self.inside.items.items c.args.router.now c.in-Ok.place c.remove.result c.self.invariant (rw c.deref.ensures.value at c.in-Ok.ensures.found))

pub returns-in_default : goal.returns-in_default
returns-in_default g c = rw (← c.self.view_is) (none_ended c.self.inside.items.items c.args.router.now _ (rw c.deref.ensures.value at c.in_default.ensures.gap))
