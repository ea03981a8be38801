use Rattle.std.proofs.Common.{◌≡◌, map}
use Rattle.lisp_lemmas.proofs.Filled.{filled}
use Rattle.lispd_cli.proofs.explanation.words_of.Given as goal

-- the words so far are those pieces so far that aren't empty
abbrev pub invariant-loop-word : goal.invariant-loop-word
invariant-loop-word g l = map (λ w. w.now) l.words.items ≡ filled (map (λ w. w.now) l.yielded)
