use Rattle.std.proofs.Common.{subst, sym}
use Rattle.std.specs.Str.{IsUtf8}
use Rattle.lisp_upkeep.proofs.Lines.{digits_are_text}
use Rattle.lisp_upkeep.proofs.line.write_digits.Goals as goal

pub returns-clause-text : goal.returns-clause-text
returns-clause-text c = let written = rw c.unwrap.ensures at c.encode_to_slice.ensures.written in subst IsUtf8 (sym written) (digits_are_text _)
