-- Authentication of a message by its tag (RFC 9301 sections 5.6 and 5.7).
use Rattle.std.specs.Prelude.{◌≡◌, ℕ, ◌≤◌, nat_le, Bool, ◌&&◌, List, ◌++◌, length, replicate, slice_range, take, drop}
use Rattle.std.specs.Str.{bytes_eq}
use Rattle.lisp_hmac.specs.Tag.{tag}
use Rattle.lisp_messages.specs.Message.{MapRegisterValue, MapNotifyValue}
use Rattle.lisp_messages.specs.Written.{written_register, written_notify}

-- the Authentication Data is the tag of the whole payload under the secret
abbrev pub IsAuthentic : List ℕ → List ℕ → Type 0
IsAuthentic bytes secret = (32 ≤ length bytes) × (slice_range bytes 16 32 ≡ tag secret bytes 16)

-- the same as a test
abbrev pub is_authentic : List ℕ → List ℕ → Bool
is_authentic bytes secret = nat_le 32 (length bytes) && bytes_eq (slice_range bytes 16 32) (tag secret bytes 16)

-- a message with its own tag in its Authentication Data
abbrev pub with_tag : List ℕ → List ℕ → List ℕ
with_tag secret message = take 16 message ++ tag secret message 16 ++ drop 32 message

-- a spelling, given as a function of its Authentication Data, with its own tag in that place
abbrev pub signed : List ℕ → (List ℕ → List ℕ) → List ℕ
signed secret spelling = spelling (tag secret (spelling (replicate 16 0)) 16)

-- the written spelling of a Map-Register, and of a Map-Notify or Map-Notify-Ack, with its tag
abbrev pub signed_register : List ℕ → MapRegisterValue → List ℕ
signed_register secret m = signed secret (written_register m)

abbrev pub signed_notify : List ℕ → MapNotifyValue → List ℕ
signed_notify secret m = signed secret (written_notify m)
