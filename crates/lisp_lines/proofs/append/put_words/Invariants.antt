use Rattle.std.proofs.Common.{◌≡◌, ◌++◌, List, ℕ}
use Rattle.std.specs.String.{string_bytes}
use Rattle.lisp_lines.proofs.append.put_words.Given as goal

-- a front is appended, and the iterator has the rest
abbrev pub invariant-loop-character : goal.invariant-loop-character
invariant-loop-character g l = (front : List ℕ) × (l.words ≡ front ++ l.character-iterator.rest.now) × (string_bytes l.text ≡ string_bytes l.fn.text ++ front)
