use Rattle.std.proofs.Common.{refl}
use Rattle.lisp_turns.proofs.DeadRows.{dropped_more, dropped_passes}
use Rattle.lisp_turns.proofs.turn.drop_withdrawn.Goals as goal

pub loop-withdrawn-preserved : goal.loop-withdrawn-preserved
loop-withdrawn-preserved g c = dropped_more _ c.loop-withdrawn.invariant c.in-Some.ensures.drops

pub returns : goal.returns
returns g c = dropped_passes c.loop-withdrawn.invariant (c.in_default.ensures.none refl)
