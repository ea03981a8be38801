-- What a node prints and sends is a legal trace's part of it.
use Rattle.std.specs.Prelude.{◌≡◌, ◌⊎◌, ℕ, List, [], ◌∷◌, ◌++◌, map, reverse, Some}
use Rattle.std.specs.List.{AllByRecursion, Contains}
use Rattle.lisp_records.specs.declared.address.Addr.{Addr}
use Rattle.lisp_policy.specs.Configuration.{ConfigValue}
use Rattle.lisp_nonces.specs.declared.fate.Fate.TheVariants.{Done}
use Rattle.lisp_model.specs.declared.event.Event.TheVariants as events
use Rattle.lisp_model.specs.declared.line.Line.{Line}
use Rattle.lisp_model.specs.declared.line.Line.TheVariants as lines
use Rattle.lisp_model.specs.declared.refusal.Refusal.TheVariants as refusals
use Rattle.lisp_model.specs.Trace.{EventValue, Step, Opening}
use Rattle.lisp_refinement.specs.World.{DatagramValue, WorldState}
use Rattle.lisp_refinement.specs.Events.{address_of}
use Rattle.lisp_refinement.specs.Stands.{Stands}
use Rattle.lisp_turns.specs.Act.{numbered}
use Rattle.lisp_turns.specs.Acts.{TurnAct}
use Rattle.lisp_turns.specs.Node.{HasNode}
use Rattle.lisp_turns.specs.Outside.{Call, Receives, Polls, Listens, Prints, Sends, Datagram, logged}
use Rattle.lisp_turns.specs.Turn.{TurnState, Turns}
use Rattle.lisp_turns.specs.declared.order.Order.TheVariants as orders
use Rattle.lisp_turns.specs.declared.outside.Printed.TheVariants as printed

-- the events of one node of a network: time passes, bytes from anywhere arrive at it, it sends a Map-Register, or sends a
-- notice again; and what a user tells it
abbrev pub IsOwn : ℕ → EventValue → Type 0
IsOwn number (events.Tick ms) = Unit {0}
IsOwn number (events.Junk to from bytes) = to ≡ number
IsOwn number (events.Send router server part Done) = router ≡ number
IsOwn number (events.Resend server router) = server ≡ number
IsOwn number (events.Notice server router Done) = server ≡ number
IsOwn number (events.Change router db) = router ≡ number
IsOwn number (events.Rotate router key Done) = router ≡ number
IsOwn number (events.Reload server sites) = server ≡ number
IsOwn number _ = ⊥

-- a line that need not be printed: time passed; or what was due was refused, perhaps not for the first time in a minute
abbrev pub IsQuiet : Line → Type 0
IsQuiet (lines.Ticked ms now) = Unit {0}
IsQuiet (lines.Refused node (refusals.Send why)) = Unit {0}
IsQuiet (lines.Refused node (refusals.Notice why)) = Unit {0}
IsQuiet _ = ⊥

-- these lines are those of the steps, with 0 in the place of a datagram's number, and but for some that need not be printed
abbrev pub ArePrinted : List Step → List Line → Type 0
ArePrinted [] lines = lines ≡ []
ArePrinted (s ∷ T) lines = (IsQuiet s.line × ArePrinted T lines)
    ⊎ ((line : Line) × (rest : List Line) × (lines ≡ line ∷ rest) × (line ≡ numbered 0 s.line) × ArePrinted T rest)

-- what arrived in the steps from outside, and from which address
abbrev pub arrival : EventValue → List (Addr × List ℕ)
arrival (events.Junk to from bytes) = (from, bytes) ∷ []
arrival _ = []

abbrev pub arrivals : List Step → List (Addr × List ℕ)
arrivals [] = []
arrivals (s ∷ T) = arrival s.event ++ arrivals T

-- and in acts
abbrev pub arrived_in : List TurnAct → List (Addr × List ℕ)
arrived_in [] = []
arrived_in (a ∷ earlier) = arrival a.event ++ arrived_in earlier

-- of what was asked outside, the newest first: the events' lines that were printed; what was sent, and to which address;
-- what was received, and from which address
abbrev pub lines_of : List Call → List Line
lines_of [] = []
lines_of (Prints (printed.Event line) ∷ calls) = line ∷ lines_of calls
lines_of (Prints (printed.Heard line from) ∷ calls) = line ∷ lines_of calls
lines_of (_ ∷ calls) = lines_of calls

abbrev pub sent_of : List Call → List (Addr × List ℕ)
sent_of [] = []
sent_of (Sends to bytes taken ∷ calls) = (to, bytes) ∷ sent_of calls
sent_of (_ ∷ calls) = sent_of calls

abbrev pub received_of : List Call → List (Addr × List ℕ)
received_of [] = []
received_of (Receives (Datagram from bytes) ∷ calls) = (from, bytes) ∷ received_of calls
received_of (Polls (Datagram from bytes) ∷ calls) = (from, bytes) ∷ received_of calls
received_of (_ ∷ calls) = received_of calls

-- what a user tells a node was told: it was heard outside
abbrev pub WasOrdered : List Call → EventValue → Type 0
WasOrdered calls (events.Notice server router fate) = Contains calls (Listens (Some (orders.Notice router)))
WasOrdered calls (events.Change router db) = Contains calls (Listens (Some (orders.Change db)))
WasOrdered calls (events.Rotate router key fate) = Contains calls (Listens (Some (orders.Rotate key)))
WasOrdered calls (events.Reload server sites) = Contains calls (Listens (Some (orders.Reload sites)))
WasOrdered calls _ = Unit {0}

-- a message as a datagram of a network
abbrev pub datagram_from : Addr → Addr × List ℕ → DatagramValue
datagram_from from message = record { from = from; to = message.0; bytes = message.1 }

-- a network went on by steps of the node with a number: the events' lines that were printed are theirs, the datagrams that were
-- sent are those of the network, in their order, what arrived is what was received, and what a user tells was told
pub record IsPart (number : ℕ) (calls : List Call) (old new : WorldState) (o : Opening) (T steps : List Step) : Type 0 where
  pub stands : Stands new o (steps ++ T)
  pub own : AllByRecursion (λ s. IsOwn number s.event) steps
  pub printed : ArePrinted steps (lines_of calls)
  pub sent : new.bag ≡ old.bag ++ map (datagram_from (address_of old number)) (reverse (sent_of calls))
  pub heard : arrivals steps ≡ received_of calls
  pub ordered : AllByRecursion (λ s. WasOrdered calls s.event) steps

-- a network that stands for a trace, and has a node that takes turns, stands for the trace followed by steps of that node
pub record GoesOn (number : ℕ) (s t : TurnState) (w : WorldState) (o : Opening) (T : List Step) : Type 0 where
  pub calls : List Call
  pub asked : t.outside.log ≡ logged calls s.outside.log
  pub steps : List Step
  pub left : WorldState
  pub part : IsPart number calls w left o T steps
  pub node : HasNode left number t.node
  pub clock : left.clock ≡ t.outside.moment

-- so it is with each network and however many turns
abbrev pub TurnsAreParts : Type 0 → Type 0
TurnsAreParts A = (config : ConfigValue) (number places count : ℕ) (s t : TurnState) → Turns A config number places count s t
    → (w : WorldState) (o : Opening) (T : List Step) → Stands w o T → o.config ≡ config → HasNode w number s.node
    → w.clock ≡ s.outside.moment → GoesOn number s t w o T
