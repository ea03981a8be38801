use Rattle.std.proofs.Common.{◌≡◌, map}
use Rattle.lisp_lemmas.proofs.Filled.{filled}
use Rattle.lisp_script.proofs.words.words.Given as goal

-- the words so far are those pieces so far that aren't empty
abbrev pub invariant-loop-word : goal.invariant-loop-word
invariant-loop-word g l = map (λ w. w.now) l.words.items ≡ filled (map (λ w. w.now) l.yielded)
