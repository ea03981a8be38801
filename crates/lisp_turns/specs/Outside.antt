-- What a node has outside: its socket, its clock, the commits of its store, its lines and its users; and what was asked of them and
-- answered.
use Rattle.std.specs.Prelude.{◌≡◌, ℕ, ◌≤◌, Bool, true, false, List, [], ◌∷◌, ◌++◌, length, take, Option, Result}
use Rattle.std.specs.Option.{option_map}
use Rattle.lisp_records.specs.declared.address.Addr.{Addr}
use Rattle.lisp_records.specs.Moment.{max_moment}
use Rattle.lisp_model.specs.declared.line.Line.{Line}
use Rattle.lisp_model.specs.declared.world_fault.WorldFault.{WorldFault}
use Rattle.lisp_requests.specs.MessageType.{is_request}
use Rattle.lisp_mapping.specs.Sends.{DatagramValue}
use Rattle.lisp_turns.specs.Node.{CoreState}
use Rattle.lisp_turns.specs.declared.order.Order.{Order}
use Rattle.lisp_turns.specs.declared.outside.Printed.{Printed}
use Rattle.lisp_turns.specs.declared.outside.Received.{Received}
use Rattle.lisp_turns.specs.declared.outside.Received.TheVariants as received
use Rattle.lisp_turns.specs.declared.outside.Request.{Request}
use Rattle.lisp_turns.specs.declared.outside.SocketCall.{SocketCall}
use Rattle.lisp_turns.specs.declared.outside.SocketCall.TheVariants as calls

-- what came of waiting for a datagram: one from an address; none in time; or the socket failed
pub data Reception : Type 0 where
  Datagram : Addr → List ℕ → Reception
  Nothing : Reception
  Failed : Reception

-- the number of a call of a socket that failed, as operators see it
abbrev pub call_number : SocketCall → ℕ
call_number calls.Receive = 90
call_number calls.Send = 91

-- a Map-Request that waits: the address and the UDP port that it comes from, and its bytes
pub record CameValue : Type 0 where
  pub from : Addr
  pub port : ℕ
  pub bytes : List ℕ

-- something that was asked of what is outside, with the answer: a receive; a poll, which waits for nothing; a reading of the clock; a
-- wait, in ms; a commit of what was saved, and whether that was done; a line; a send of bytes to an address, and whether the socket
-- took them; a look for what a user tells the node, with the order, if there is one; an answer to the user, by the node's core at a
-- moment, and what came of the order; a look for a Map-Request that waits, and a datagram that is sent for one, with whether the socket took
-- it
pub data Call : Type 0 where
  Receives : Reception → Call
  Polls : Reception → Call
  Reads : ℕ → Call
  Waits : ℕ → Call
  Commits : Bool → Call
  Prints : Printed → Call
  Sends : Addr → List ℕ → Bool → Call
  Listens : Option Order → Call
  Answers : CoreState → ℕ → Option (Result Line WorldFault) → Call
  Requests : Option CameValue → Call
  Replies : DatagramValue → Bool → Call

-- all that was asked, the newest first, where that is known; the last moment that the clock told, in ms, 0 before; and
-- whether a line couldn't be printed; and whether Map-Requests wait apart from what else is received
pub record OutsideState : Type 0 where
  pub log : Option (List Call)
  pub moment : ℕ
  pub is_cut : Bool
  pub is_asked : Bool

-- what was asked goes on by these calls, the newest first
abbrev pub logged : List Call → Option (List Call) → Option (List Call)
logged calls log = option_map (λ earlier. calls ++ earlier) log

-- a call was made
abbrev pub Logs : OutsideState → OutsideState → Call → Type 0
Logs old new call = new ≡ record old { log = logged (call ∷ []) old.log }

-- a line was to be printed, and perhaps couldn't
abbrev pub LogsLine : OutsideState → OutsideState → Printed → Type 0
LogsLine old new line = new ≡ record old { log = logged (Prints line ∷ []) old.log; is_cut = new.is_cut }

-- the clock was read: moments don't fall, and have an end
pub record ReadsClock (old new : OutsideState) (now : ℕ) : Type 0 where
  pub later : old.moment ≤ now
  pub bound : now ≤ max_moment
  pub left : new ≡ record old { log = logged (Reads now ∷ []) old.log; moment = now }

-- what was received, in a buffer
abbrev pub reception : Received → List ℕ → Reception
reception (received.Datagram from count) buffer = Datagram from (take count buffer)
reception received.Nothing buffer = Nothing
reception received.Failed buffer = Failed

-- where Map-Requests wait apart, nothing else that is received is one
abbrev pub IsApart : Bool → Reception → Type 0
IsApart true (Datagram from bytes) = is_request bytes ≡ false
IsApart _ _ = Unit {0}

-- the Map-Request that waits, in a buffer
abbrev pub came_in : List ℕ → Request → CameValue
came_in buffer request = record { from = request.from; port = request.port; bytes = take request.count buffer }

abbrev pub came : Option Request → List ℕ → Option CameValue
came request buffer = option_map (came_in buffer) request

-- a datagram lies within the buffer
abbrev pub FitsBuffer : Received → List ℕ → Type 0
FitsBuffer (received.Datagram from count) buffer = count ≤ length buffer
FitsBuffer _ buffer = Unit {0}
