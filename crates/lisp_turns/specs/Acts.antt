-- What a node does, event by event, and what is told of it outside.
use Rattle.std.specs.Prelude.{◌≡◌, ℕ, Bool, true, false, List, [], ◌∷◌, ◌++◌, length, Option, Some, None, if◌then◌else◌}
use Rattle.lisp_records.specs.declared.address.Addr.{Addr}
use Rattle.lisp_policy.specs.Configuration.{ConfigValue}
use Rattle.lisp_model.specs.declared.event.Event.TheVariants as events
use Rattle.lisp_model.specs.declared.line.Line.{Line}
use Rattle.lisp_model.specs.Trace.{EventValue, Step, Opening}
use Rattle.lisp_refinement.specs.World.{DatagramValue, WorldState}
use Rattle.lisp_refinement.specs.Events.{address_of}
use Rattle.lisp_refinement.specs.Stands.{Stands}
use Rattle.lisp_refinement.specs.Taking.{NetworkTakes}
use Rattle.lisp_turns.specs.Act.{ActValue, numbered}
use Rattle.lisp_turns.specs.Made.{IsMade}
use Rattle.lisp_turns.specs.Node.{NodeState, HasNode, with_node, IsPlaced}
use Rattle.lisp_turns.specs.Outside.{Call, Prints, Sends}
use Rattle.lisp_turns.specs.declared.outside.Printed.{Printed}
use Rattle.lisp_turns.specs.declared.outside.Printed.TheVariants as printed
use Rattle.lisp_turns.specs.declared.outside.SocketCall.TheVariants as calls

-- the message as a datagram of a network
abbrev pub datagrams : Addr → Option (Addr × List ℕ) → List DatagramValue
datagrams from None = []
datagrams from (Some message) = record { from = from; to = message.0; bytes = message.1 } ∷ []

-- the network once its node with a number did this
abbrev pub with_act : WorldState → ℕ → NodeState → ActValue → WorldState
with_act w number node act = record (with_node w number node) { bag = w.bag ++ datagrams (address_of w number) act.message }

-- the node with a number did this at a moment: each network of the configuration that has this node then, and stands for a
-- trace, took the event, with this line and this message
abbrev pub Does : Type 0 → ConfigValue → ℕ → NodeState → NodeState → ℕ → EventValue → ActValue → Type 0
Does A config number old new now event act = (w : WorldState) (o : Opening) (T : List Step) → Stands w o T
    → o.config ≡ config → HasNode w number old → w.clock ≡ now
    → NetworkTakes A w (with_act w number new act) event (numbered (length w.bag) act.line)

-- the node with a number did this at a moment: so it is in a network, and by its core over any store; the node keeps its
-- place, and its line has no number for a datagram, which a node that runs doesn't know
pub record DoesOne (A : Type 0) (config : ConfigValue) (number : ℕ) (old new : NodeState) (now : ℕ) (event : EventValue)
    (act : ActValue) : Type 0 where
  pub does : Does A config number old new now event act
  pub made : IsMade A config number old new now event act
  pub placed : IsPlaced config number new
  pub plain : act.line ≡ numbered 0 act.line

-- an act of a turn: its event; whether it was told; and whether the socket took its message
pub record TurnAct : Type 0 where
  pub event : EventValue
  pub act : ActValue
  pub told : Bool
  pub taken : Bool

-- the node did these, the newest of them first
abbrev pub DoesAll : Type 0 → ConfigValue → ℕ → NodeState → NodeState → ℕ → List TurnAct → Type 0
DoesAll A config number old new now [] = new ≡ old
DoesAll A config number old new now (a ∷ earlier) = (between : NodeState)
    × DoesAll A config number old between now earlier × DoesOne A config number between new now a.event a.act

-- the line of a socket that failed, where it did
abbrev pub send_failed : Bool → List Call
send_failed true = []
send_failed false = Prints (printed.Failed calls.Send) ∷ []

-- a message goes out, if there is one
abbrev pub send_calls : Option (Addr × List ℕ) → Bool → List Call
send_calls None taken = []
send_calls (Some message) taken = send_failed taken ++ Sends message.0 message.1 taken ∷ []

-- the line of an event, with the source address of a datagram
abbrev pub printed_of : EventValue → Line → Printed
printed_of (events.Junk to from bytes) line = printed.Heard line from
printed_of _ line = printed.Event line

-- what is asked outside for an act, the newest first: its line, then its message. Of one that isn't told nothing is asked
abbrev pub act_calls : TurnAct → List Call
act_calls a = if a.told then send_calls a.act.message a.taken ++ Prints (printed_of a.event a.act.line) ∷ [] else []

abbrev pub acts_calls : List TurnAct → List Call
acts_calls [] = []
acts_calls (a ∷ earlier) = act_calls a ++ acts_calls earlier
