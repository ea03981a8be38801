-- What a look has outside, a socket and a clock, and what was asked of them and answered.
use Rattle.std.specs.Prelude.{◌≡◌, ℕ, ◌≤◌, Bool, List, [], ◌∷◌, ◌++◌, length, take, Option}
use Rattle.std.specs.Option.{option_map}
use Rattle.lisp_records.specs.declared.address.Addr.{Addr}
use Rattle.lisp_look.specs.declared.outside.Received.{Received}
use Rattle.lisp_look.specs.declared.outside.Received.TheVariants as received

-- what came of waiting for a datagram: one from an address; none in time; or the socket failed
pub data Reception : Type 0 where
  Datagram : Addr → List ℕ → Reception
  Nothing : Reception
  Failed : Reception

-- something that was asked, with the answer: a send of bytes to an address and a port, and whether the socket took them; a receive that
-- waits for so many ms; a reading of the clock, in ms
pub data Call : Type 0 where
  Sends : Addr → ℕ → List ℕ → Bool → Call
  Receives : ℕ → Reception → Call
  Reads : ℕ → Call

-- all that was asked, the newest first, where that is known
abbrev pub Log : Type 0
Log = Option (List Call)

-- what was asked goes on by these calls, the newest first
abbrev pub logged : List Call → Log → Log
logged calls log = option_map (λ earlier. calls ++ earlier) log

-- a call was made
abbrev pub Logs : Log → Log → Call → Type 0
Logs old new call = new ≡ logged (call ∷ []) old

-- what was received, in a buffer
abbrev pub reception : Received → List ℕ → Reception
reception (received.Datagram from count) buffer = Datagram from (take count buffer)
reception received.Nothing buffer = Nothing
reception received.Failed buffer = Failed

-- a datagram lies within the buffer
abbrev pub FitsBuffer : Received → List ℕ → Type 0
FitsBuffer (received.Datagram from count) buffer = count ≤ length buffer
FitsBuffer _ buffer = Unit {0}
