use Rattle.std.proofs.Common.{sym}
use Rattle.lisp_turns.proofs.Turning.{turn_made, turn_lost}
use Rattle.lisp_turns.proofs.turn.turn.Goals as goal

pub returns-then-not-take_in-clause-turn : goal.returns-then-not-take_in-clause-turn
returns-then-not-take_in-clause-turn g c =
    turn_lost _ _ _ _ _ _ _ _ _ _ _ _ _ _ _ _ _ _ _ _ _ c.receive-received.ensures.asked c.receive-received.ensures.apart c.now-now.ensures c.expire.ensures c.take_in.ensures.takes c.if-not-take_in.true

pub returns-clause-turn : goal.returns-clause-turn
returns-clause-turn g c =
    turn_made _ _ _ _ _ _ _ _ _ _ _ _ _ _ _ _ _ _ _ _ _ c.receive-received.ensures.asked c.receive-received.ensures.apart c.now-now.ensures c.expire.ensures
    (rw (sym c.serve_due.ensures.receives) at c.take_in.ensures.takes) _ _ _ _ _ _ _ _ _ _ _ c.if-not-take_in.false
    c.drop_withdrawn.ensures
    (rw (c.take_in.ensures.place, c.take_in.ensures.sends) at c.serve_due.ensures.serves)
    (rw (c.serve_due.ensures.place, c.serve_due.ensures.places, c.serve_due.ensures.resolving, c.take_in.ensures.place, c.take_in.ensures.places, c.take_in.ensures.resolving) at c.answer_waiting.ensures)
    (c.rest.ensures c.receive-received.new.buffer)
