-- The Key ID and the nonce of a message, where they stand in its bytes (RFC 9301 sections 5.6 and 5.7).
use Rattle.std.specs.Prelude.{ℕ, nat_lt, List, length, Option, Some, None, slice_index, if◌then◌else◌}
use Rattle.lisp_messages.specs.declared.head.Head.{Head}
use Rattle.lisp_messages.specs.Reading.{nonce_of}

unfoldable pub head_at : List ℕ → Option Head
head_at bytes = if nat_lt (length bytes) 32 then None else Some (record { key_id = slice_index bytes 12; nonce = nonce_of bytes })
