use Rattle.std.proofs.lemmas.Result.{IfErr-weaker}
use Rattle.lisp_player.proofs.Taking.{at_ok}
use Rattle.lisp_player.proofs.Beginning.{of_input}
use Rattle.lisp_player.proofs.schedule.play_noting.Goals as goal

pub returns-clause-plays : goal.returns-clause-plays
returns-clause-plays g c = at_ok c.play_input.result _ _ (λ played. of_input _ c.in_ok-input.input.items _ c.in_ok-input.ensures.whole (rw c.deref.ensures.value at played)) c.play_input.ensures.plays

pub returns-clause-stops : goal.returns-clause-stops
returns-clause-stops g c = λ memory. of_input _ c.in_ok-input.input.items _ c.in_ok-input.ensures.whole (rw c.deref.ensures.value at (c.play_input.ensures.stops memory))

pub returns-clause-breaks : goal.returns-clause-breaks
returns-clause-breaks g c = λ cut. of_input _ c.in_ok-input.input.items _ c.in_ok-input.ensures.whole (rw c.deref.ensures.value at (c.play_input.ensures.breaks cut))

pub returns-clause-refuses : goal.returns-clause-refuses
returns-clause-refuses g c = IfErr-weaker c.play_input.result _ _ (λ fault refuses. of_input _ c.in_ok-input.input.items _ c.in_ok-input.ensures.whole (rw c.deref.ensures.value at refuses)) c.play_input.ensures.refuses
