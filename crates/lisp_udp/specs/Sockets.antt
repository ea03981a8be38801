-- A network's sockets: what it comes to that a datagram is waited for, and that one is sent.
use Rattle.std.specs.Prelude.{◌≡◌, ◌≢◌, ◌⊎◌, ℕ, ◌<◌, true, false, Bool, List, [], length, slice_get, slice_set, Some}
use Rattle.lisp_policy.specs.Configuration.{ConfigValue}
use Rattle.lisp_records.specs.declared.address.Addr.{Addr}
use Rattle.lisp_refinement.specs.World.{DatagramValue}
use Rattle.lisp_turns.specs.Outside.{Call, OutsideState, Logs, Receives, Sends, Reception, Datagram, Nothing, Failed}
use Rattle.lisp_turns.specs.declared.outside.SocketCall.TheVariants as calls
use Rattle.lisp_sites.specs.Numbers.{node_count, name_at, address_at}
use Rattle.lisp_udp.specs.Printing.{failed_text, lost_text}

-- the socket of a node, with the node's name and address
pub record SocketValue : Type 0 where
  pub name : List ℕ
  pub address : Addr
  pub seen : OutsideState

-- the socket is that of the node with a number
pub record IsSocketAt (config : ConfigValue) (number : ℕ) (s : SocketValue) : Type 0 where
  pub name : name_at config number ≡ Some s.name
  pub address : address_at config number ≡ Some s.address

-- these are those of all nodes
pub record AreSockets (config : ConfigValue) (sockets : List SocketValue) : Type 0 where
  pub count : length sockets ≡ node_count config
  pub each : (k : ℕ) (s : SocketValue) → slice_get sockets k ≡ Some s → IsSocketAt config k s

-- no node has the address; the node at a place has it
abbrev pub IsNowhere : List SocketValue → Addr → Type 0
IsNowhere sockets address = (k : ℕ) (s : SocketValue) → slice_get sockets k ≡ Some s → s.address ≢ address

abbrev pub IsPlaceOf : List SocketValue → Addr → ℕ → Type 0
IsPlaceOf sockets address k = (k < length sockets) × ((s : SocketValue) → slice_get sockets k ≡ Some s → s.address ≡ address)

-- a call was made of a socket, and nothing else
pub record Asks (old new : SocketValue) (call : Call) : Type 0 where
  pub name : new.name ≡ old.name
  pub address : new.address ≡ old.address
  pub logs : Logs old.seen new.seen call

-- this came of the socket of the node with an address, and nothing of another socket
pub record AtOne (old new : List SocketValue) (address : Addr) (At : SocketValue → SocketValue → Type 0) : Type 0 where
  pub place : ℕ
  pub asked : SocketValue
  pub was : slice_get old place ≡ Some asked
  pub address_is : asked.address ≡ address
  pub left : SocketValue
  pub at : At asked left
  pub is : new ≡ slice_set old place left

-- whether what was received is the datagram, byte for byte; and what is printed where it isn't: that datagram k is lost, or
-- that the socket of the node with a name failed
abbrev pub TellsReception : ℕ → List ℕ → List ℕ → Reception → Bool → List ℕ → Type 0
TellsReception k bytes name (Datagram from received) arrived text =
    ((received ≡ bytes) × (arrived ≡ true) × (text ≡ [])) ⊎ ((received ≢ bytes) × (arrived ≡ false) × (text ≡ lost_text k))
TellsReception k bytes name Nothing arrived text = (arrived ≡ false) × (text ≡ lost_text k)
TellsReception k bytes name Failed arrived text = (arrived ≡ false) × (text ≡ failed_text name calls.Receive)

-- one receive was asked of a socket, and datagram k came of it or not
abbrev pub ArrivesAt : SocketValue → SocketValue → ℕ → List ℕ → Bool → List ℕ → Type 0
ArrivesAt old new k bytes arrived text = (reception : Reception) × Asks old new (Receives reception) × TellsReception k bytes old.name reception arrived text

-- whether datagram k arrived; one to no node arrives at once. Else one receive is asked of its node's socket
abbrev pub TellsArrival : List SocketValue → List SocketValue → ℕ → DatagramValue → Bool → List ℕ → Type 0
TellsArrival old new k d arrived text = (IsNowhere old d.to × (new ≡ old) × (arrived ≡ true) × (text ≡ []))
    ⊎ AtOne old new d.to (λ asked left. ArrivesAt asked left k d.bytes arrived text)

-- what is printed once a message was sent: that the socket failed, where it did
abbrev pub sent_text : List ℕ → Bool → List ℕ
sent_text name true = []
sent_text name false = failed_text name calls.Send

-- a datagram was sent from a socket
abbrev pub SendsAt : SocketValue → SocketValue → DatagramValue → List ℕ → Type 0
SendsAt old new d text = (taken : Bool) × Asks old new (Sends d.to d.bytes taken) × (text ≡ sent_text old.name taken)

-- a datagram from a node to a node is sent from its node's socket; another isn't sent
abbrev pub SendsOne : List SocketValue → List SocketValue → DatagramValue → List ℕ → Type 0
SendsOne old new d text = ((IsNowhere old d.to ⊎ IsNowhere old d.from) × (new ≡ old) × (text ≡ []))
    ⊎ AtOne old new d.from (λ asked left. SendsAt asked left d text)
