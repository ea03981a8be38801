use Rattle.std.proofs.Common.{◌≡◌, [], map}
use Rattle.lisp_lemmas.proofs.Filled.{filled}
use Rattle.lisp_script.proofs.line_numbers.has_words.Given as goal

-- the pieces so far are empty
abbrev pub invariant-loop-word : goal.invariant-loop-word
invariant-loop-word l = filled (map (λ w. w.now) l.yielded) ≡ []
