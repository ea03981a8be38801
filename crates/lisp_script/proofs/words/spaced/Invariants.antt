use Rattle.std.proofs.Common.{◌≡◌, take}
use Rattle.std.specs.Prelude.{string_bytes}
use Rattle.lisp_script.specs.Words.{texts, spaced}
use Rattle.lisp_script.proofs.words.spaced.Given as goal

-- the words so far, a space behind each
abbrev pub invariant-loop-word : goal.invariant-loop-word
invariant-loop-word g l = string_bytes l.line ≡ spaced (texts (take l.word-index l.words))
