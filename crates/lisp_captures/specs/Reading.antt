-- Steps of reading from left to right, with the first reason that is met.
use Rattle.std.specs.Prelude.{ℕ, List, length, drop, Result, Ok, Err, Bool, true, nat_lt, if◌then◌else◌}
use Rattle.lisp_captures.specs.declared.datagram.Unread.{Unread}

-- the bytes after a field of so many
abbrev pub after : Unread → ℕ → List ℕ → Result (List ℕ) Unread
after why n bytes = if nat_lt (length bytes) n then Err why else Ok (drop n bytes)

-- the reason, unless the test holds
abbrev pub require : Unread → Bool → Result Bool Unread
require why holds = if holds then Ok true else Err why
