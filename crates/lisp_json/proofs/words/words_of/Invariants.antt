use Rattle.std.proofs.Common.{◌≡◌}
use Rattle.lisp_json.specs.Words.{texts}
use Rattle.lisp_json.proofs.words.words_of.Given as goal

-- the pieces so far
abbrev pub invariant-loop-word : goal.invariant-loop-word
invariant-loop-word g l = texts l.words.items ≡ texts l.yielded
