use Rattle.std.proofs.Common.{◌≡◌, ◌++◌}
use Rattle.std.specs.Prelude.{string_bytes}
use Rattle.std.specs.List.{join_with_byte}
use Rattle.lisp_texts.specs.Written.{groups_text}
use Rattle.lisp_texts.proofs.WrittenGroups.{later}
use Rattle.lisp_texts.proofs.text.put_v6.Given as goal

-- what is written, and what is still to write
abbrev pub invariant-loop-at : goal.invariant-loop-at
invariant-loop-at g l = string_bytes l.text ++ later l.octets l.at ≡ string_bytes l.fn.text ++ join_with_byte 58 (groups_text l.octets)
