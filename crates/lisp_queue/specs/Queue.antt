-- Datagrams that wait, and which of them a group takes next.
use Rattle.std.specs.Prelude.{◌≡◌, ◌⊎◌, ℕ, ◌+◌, ◌/◌, ◌<◌, ◌≤◌, Bool, true, false, nat_lt, List, [], ◌∷◌, ◌++◌, length, count_by, min, take, remove, slice_get, position, Option, Some, None, unwrap_or, if◌then◌else◌}
use Rattle.lisp_records.specs.declared.address.Addr.{Addr}
use Rattle.lisp_records.specs.Address.{addr_eq}
use Rattle.lisp_queue.specs.Kind.{is_of}
use Rattle.lisp_queue.specs.declared.incoming.Incoming.{Incoming}
use Rattle.lisp_queue.specs.declared.kind.Kind.{Kind}

-- a datagram that waits: the address and the UDP port that it comes from, and its bytes
pub record WaitingValue : Type 0 where
  pub from : Addr
  pub port : ℕ
  pub bytes : List ℕ

-- which datagrams it takes; those that wait, in the order in which they came; the sources of those that the present group took; and how many
-- that may take
pub record QueueState : Type 0 where
  pub kind : Kind
  pub waiting : List WaitingValue
  pub taken : List Addr
  pub places : ℕ

-- how many wait at most, and of one source
abbrev pub room : ℕ
room = 256

abbrev pub most_of_one : ℕ
most_of_one = 128

-- how many datagrams of a source wait, and how many places of the group it has
abbrev pub waiting_of : List WaitingValue → Addr → ℕ
waiting_of waiting from = count_by (λ w. addr_eq w.from from) waiting

abbrev pub places_of : List Addr → Addr → ℕ
places_of taken from = count_by (λ a. addr_eq a from) taken

-- half the places of a group, rounded up
abbrev pub half : QueueState → ℕ
half q = (q.places + 1) / 2

-- a source has fewer
abbrev pub may_take : QueueState → Addr → Bool
may_take q from = nat_lt (places_of q.taken from) (half q)

-- a datagram finds room, or none
abbrev pub FindsRoom : QueueState → WaitingValue → Type 0
FindsRoom q w = (length q.waiting < room) × (waiting_of q.waiting w.from < most_of_one)

abbrev pub FindsNone : QueueState → WaitingValue → Type 0
FindsNone q w = (room ≤ length q.waiting) ⊎ (most_of_one ≤ waiting_of q.waiting w.from)

-- a datagram is offered: it waits behind the others; or it is of another kind, or finds no room, or memory was refused
abbrev pub Offers : Type 0 → QueueState → QueueState → WaitingValue → Type 0
Offers may_refuse old new w =
    ((is_of old.kind w.bytes ≡ true) × FindsRoom old w × (new ≡ record old { waiting = old.waiting ++ w ∷ [] }))
    ⊎ (((is_of old.kind w.bytes ≡ false) ⊎ (FindsNone old w ⊎ may_refuse)) × (new ≡ old))

-- a source takes a place of the group, if there is one
abbrev pub taken_after : QueueState → Addr → List Addr
taken_after q from = if nat_lt (length q.taken) q.places then q.taken ++ from ∷ [] else q.taken

-- the place of the datagram that is next: the first whose source has fewer than half the places; else the first of all
abbrev pub next_place : QueueState → ℕ
next_place q = unwrap_or (position (λ w. may_take q w.from) q.waiting) 0

-- the next datagram is taken, and takes a place of the group; the others keep their order
abbrev pub TakesNext : QueueState → QueueState → Option WaitingValue → Type 0
TakesNext old new None = (old.waiting ≡ []) × (new ≡ old)
TakesNext old new (Some w) = (slice_get old.waiting (next_place old) ≡ Some w)
    × (new ≡ record old { waiting = remove old.waiting (next_place old); taken = taken_after old w.from })

-- it is taken into a buffer: as much of it as that holds
pub record IsInBuffer (w : WaitingValue) (buffer : List ℕ) (incoming : Incoming) : Type 0 where
  pub from : incoming.from ≡ w.from
  pub port : incoming.port ≡ w.port
  pub count : incoming.count ≡ min (length w.bytes) (length buffer)
  pub bytes : take incoming.count buffer ≡ take incoming.count w.bytes

abbrev pub TakesInto : QueueState → QueueState → List ℕ → Option Incoming → Type 0
TakesInto old new buffer None = TakesNext old new None
TakesInto old new buffer (Some incoming) = (w : WaitingValue) × TakesNext old new (Some w) × IsInBuffer w buffer incoming

-- and its source takes a place of the group
abbrev pub taken_with : QueueState → Option Incoming → List Addr
taken_with q (Some incoming) = taken_after q incoming.from
taken_with q None = q.taken
