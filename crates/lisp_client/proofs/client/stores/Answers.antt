use Rattle.std.proofs.Common.{ℕ, ◌∷◌, [], ◌++◌, replicate, ap, ◌∙◌, arith}
use Rattle.std.proofs.lemmas.List.{replicate-append-replicate}
use Rattle.lisp_client.specs.Stores.{fresh}
use Rattle.lisp_client.proofs.client.stores.Goals as goal

pub loop-preserved : goal.loop-preserved
loop-preserved g c = c.in_ok-try_push.ensures.items ∙ (λ i. c.loop.invariant i ++ c.new.ensures i ∷ []) ∙ replicate-append-replicate c.loop.counter 1 fresh

pub returns-clause-empty : goal.returns-clause-empty
returns-clause-empty g c = c.loop.invariant ∙ ap (λ (n : ℕ). replicate n fresh) (omega (arith, c.loop-test.false, c.loop.auto.counter-end))
