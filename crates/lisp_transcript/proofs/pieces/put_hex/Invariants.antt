use Rattle.std.proofs.Common.{◌≡◌, ◌++◌, take}
use Rattle.std.specs.Prelude.{string_bytes}
use Rattle.lisp_transcript.specs.Pieces.{hex_bytes}
use Rattle.lisp_transcript.proofs.pieces.put_hex.Given as goal

-- the bytes so far
abbrev pub invariant-loop-byte : goal.invariant-loop-byte
invariant-loop-byte g l = string_bytes l.text ≡ string_bytes l.fn.text ++ hex_bytes (take l.byte-index l.bytes)
