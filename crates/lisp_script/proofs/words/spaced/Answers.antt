use Rattle.std.proofs.Common.{ap, ◌∙◌, List, ℕ, Bor}
use Rattle.std.proofs.lemmas.List.{take_all}
use Rattle.lisp_script.specs.Words.{texts, spaced}
use Rattle.lisp_script.proofs.Spaced.{one_more}
use Rattle.lisp_script.proofs.words.spaced.Goals as goal

pub loop-word-preserved : goal.loop-word-preserved
loop-word-preserved g c = one_more c.args.words.now c.loop-word.word-index _ _ _ c.loop-word-test.true c.loop-word.invariant c.in_ok-try_write.ensures.bytes

pub returns-clause-text : goal.returns-clause-text
returns-clause-text g c =
    c.loop-word.invariant ∙ ap (λ (ws : List (Bor (List ℕ))). spaced (texts ws)) (take_all c.loop-word.word-index c.args.words.now c.loop-word-test.false)
