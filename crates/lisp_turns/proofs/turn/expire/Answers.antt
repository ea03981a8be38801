use Rattle.std.proofs.Common.{refl, rules}
use Rattle.lisp_turns.proofs.DeadRows.{told_none, told_more, told_all}
use Rattle.lisp_turns.proofs.turn.expire.Goals as goal

pub loop-router-init : goal.loop-router-init
loop-router-init g c = told_none _ _ _

pub loop-router-preserved : goal.loop-router-preserved
loop-router-preserved g c = told_more _ _ c.loop-router.invariant c.in-Some.ensures.drops (search rules)

pub returns : goal.returns
returns g c = told_all c.loop-router.invariant (c.in_default.ensures.none refl)
