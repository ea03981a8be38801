use Rattle.std.proofs.Common.{sym, ◌∙◌, arith}
use Rattle.lisp_turns.proofs.Turning.{turns_more, uncut_more, starts, loses}
use Rattle.lisp_turns.proofs.Running.{starts_as_part, loses_as_part}
use Rattle.lisp_turns.proofs.turn.take_turns.Goals as goal

pub returns-then-not-turn-clause-turns : goal.returns-then-not-turn-clause-turns
returns-then-not-turn-clause-turns g c =
    rw (sym c.loop-number.invariant.place, sym c.loop-number.invariant.places)
    (loses _ _ _ _ _ _ _ _ _ _ _ _ _ (omega (arith, c.loop-number-test.true)) c.loop-number.invariant.took c.loop-number.invariant.uncut (rw c.if-not-turn.true at c.turn.ensures.turn))

pub returns-then-not-turn-clause-part : goal.returns-then-not-turn-clause-part
returns-then-not-turn-clause-part g c = loses_as_part (returns-then-not-turn-clause-turns g c)

pub returns-then-is_cut-clause-turns : goal.returns-then-is_cut-clause-turns
returns-then-is_cut-clause-turns g c =
    rw (sym c.loop-number.invariant.place, sym c.loop-number.invariant.places)
    (starts _ _ _ _ _ _ _ _ _ _ _ _ _ _ (omega (arith, c.loop-number-test.true)) (λ fewer. sym c.if-is_cut.ensures)
    (turns_more _ _ _ _ _ _ _ _ c.loop-number.invariant.took c.loop-number.invariant.uncut (rw c.if-not-turn.false at c.turn.ensures.turn)))

pub returns-then-is_cut-clause-part : goal.returns-then-is_cut-clause-part
returns-then-is_cut-clause-part g c = starts_as_part (returns-then-is_cut-clause-turns g c)

pub loop-number-preserved : goal.loop-number-preserved
loop-number-preserved g c = record {
  placed = rw c.turn.ensures.place c.turn.ensures.placed;
  place = c.turn.ensures.place ∙ c.loop-number.invariant.place;
  places = c.turn.ensures.places ∙ c.loop-number.invariant.places;
  took = rw (c.turn.ensures.place, c.turn.ensures.places)
      (turns_more _ _ _ _ _ _ _ _ c.loop-number.invariant.took c.loop-number.invariant.uncut (rw c.if-not-turn.false at c.turn.ensures.turn));
  uncut = uncut_more _ _ (sym c.if-is_cut.ensures);
}

pub returns-clause-turns : goal.returns-clause-turns
returns-clause-turns g c =
    rw (sym c.loop-number.invariant.place, sym c.loop-number.invariant.places)
    (starts _ _ _ _ _ _ _ _ _ _ _ _ _ _ c.loop-number.auto.number-end (λ fewer. absurd (omega (arith, fewer, c.loop-number-test.false))) c.loop-number.invariant.took)

pub returns-clause-part : goal.returns-clause-part
returns-clause-part g c = starts_as_part (returns-clause-turns g c)
