-- The datagrams of a node that wait, of which no source takes more than its share while others wait; Map-Requests may wait apart.
use Rattle.std.specs.Prelude.{◌≡◌, ℕ, nat_lt, Bool, true, false, List, [], ◌++◌, length, Option, Some, None, unwrap_or, if◌then◌else◌}
use Rattle.std.specs.Option.{option_map}
use Rattle.lisp_policy.specs.Configuration.{ConfigValue}
use Rattle.lisp_records.specs.declared.address.Addr.{Addr}
use Rattle.lisp_records.specs.Address.{PrefixValue}
use Rattle.lisp_queue.specs.Queue.{QueueState, WaitingValue, taken_after, TakesInto}
use Rattle.lisp_queue.specs.declared.incoming.Incoming.{Incoming}
use Rattle.lisp_queue.specs.declared.kind.Kind.{Kind}
use Rattle.lisp_queue.specs.declared.kind.Kind.TheVariants as kinds
use Rattle.lisp_sites.specs.Numbers.{NodeValue, node_at}
use Rattle.lisp_sites.specs.Numbers as nodes
use Rattle.lisp_turns.specs.Outside.{FitsBuffer, IsApart, reception}
use Rattle.lisp_turns.specs.declared.outside.Received.{Received}
use Rattle.lisp_turns.specs.declared.outside.Received.TheVariants as received
use Rattle.lisp_turns.specs.declared.outside.Request.{Request}
use Rattle.lisp_udp.specs.declared.inbox.Inbox.{Inbox}

-- the source of a datagram that was received takes a place of the group
abbrev pub sources_after : QueueState → Received → List Addr
sources_after q (received.Datagram from count) = taken_after q from
sources_after q _ = q.taken

-- and as the first of a group that begins
abbrev pub first_sources : QueueState → Received → List Addr
first_sources q received = sources_after (record q { taken = [] }) received

-- of Map-Requests, too, where they wait apart
abbrev pub sources_with : QueueState → Option Request → List Addr
sources_with q (Some request) = taken_after q request.from
sources_with q None = q.taken

abbrev pub SharesAsked : Option QueueState → Option QueueState → Option Request → Type 0
SharesAsked (Some old) (Some new) request = new.taken ≡ sources_with old request
SharesAsked None None request = request ≡ None
SharesAsked _ _ _ = ⊥

-- a Map-Request is taken into a buffer, as the queue of those gives the next one: from the address and the UDP port from which it came
abbrev pub incoming_of : Request → Incoming
incoming_of request = record { from = request.from; port = request.port; count = request.count }

abbrev pub TakesAsked : Option QueueState → Option QueueState → List ℕ → Option Request → Type 0
TakesAsked (Some old) (Some new) buffer request = TakesInto old new buffer (option_map incoming_of request)
TakesAsked None None buffer request = request ≡ None
TakesAsked _ _ _ _ = ⊥

-- so is a datagram that the core hears, whatever port it came from
abbrev pub TakesHeard : QueueState → QueueState → List ℕ → Received → Type 0
TakesHeard old new buffer (received.Datagram from count) = (port : ℕ) × TakesInto old new buffer (Some (record { from = from; port = port; count = count }))
TakesHeard old new buffer received.Nothing = TakesInto old new buffer None
TakesHeard old new buffer received.Failed = ⊥

-- datagrams came, and wait behind the others
pub record Grows (old new : QueueState) : Type 0 where
  pub came : List WaitingValue
  pub is : new ≡ record old { waiting = old.waiting ++ came }

-- the first datagram of a turn is taken, once others came; where the socket failed, none waits
abbrev pub TakesFirst : QueueState → QueueState → List ℕ → Received → Type 0
TakesFirst old new buffer received.Failed = TakesInto old new buffer None
TakesFirst old new buffer received = TakesHeard old new buffer received

abbrev pub HearsGrown : QueueState → QueueState → List ℕ → Received → Type 0
HearsGrown old new buffer received = (grown : QueueState) × Grows old grown × TakesFirst grown new buffer received

-- as a group begins
abbrev pub HearsFirst : QueueState → QueueState → List ℕ → Received → Type 0
HearsFirst old new buffer received = HearsGrown (record old { taken = [] }) new buffer received

-- the core hears all that comes, or what is no Map-Request
abbrev pub heard_kind : Bool → Kind
heard_kind is_asked = if is_asked then kinds.Others else kinds.All

abbrev pub leaves_requests : Kind → Bool
leaves_requests kinds.Others = true
leaves_requests _ = false

-- whether Map-Requests wait apart; where nothing waits, none do
abbrev pub keeps_apart : Option Inbox → Bool
keeps_apart (Some inbox) = leaves_requests inbox.heard.kind
keeps_apart None = false

-- what it takes and of which kind stays; nothing is taken but into the buffer, and where Map-Requests wait apart none is
abbrev pub KeepsRest : QueueState → QueueState → Type 0
KeepsRest old new = (new.places ≡ old.places) × (new.kind ≡ old.kind)

abbrev pub IsInto : Bool → List ℕ → List ℕ → Received → Type 0
IsInto apart was buffer received = IsApart apart (reception received buffer) × FitsBuffer received buffer × (length buffer ≡ length was)

-- a node answers Map-Requests where its entry in the configuration lists prefixes of ITR-RLOCs
abbrev pub resolve_of : NodeValue → List PrefixValue
resolve_of (nodes.Server entry) = entry.resolve
resolve_of (nodes.Router entry) = entry.resolve

abbrev pub resolve_at : ConfigValue → ℕ → List PrefixValue
resolve_at config number = unwrap_or (option_map resolve_of (node_at config number)) []

abbrev pub answers_requests : ConfigValue → ℕ → Bool
answers_requests config number = nat_lt 0 (length (resolve_at config number))
