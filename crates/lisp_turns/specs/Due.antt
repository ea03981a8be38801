-- What is due at a node (RFC 9301 sections 5.7 and 8.2).
use Rattle.std.specs.Prelude.{◌≡◌, ℕ, ◌<◌, ◌≤◌, true, false, slice_get, Some, None}
use Rattle.lisp_records.specs.declared.router.RouterId.{RouterId}
use Rattle.lisp_records.specs.Parts.{part_count}
use Rattle.lisp_nonces.specs.declared.fate.Fate.TheVariants.{Done}
use Rattle.lisp_etr.specs.Etr.{EtrState, due_at}
use Rattle.lisp_etr.specs.declared.round.Round.{Round}
use Rattle.lisp_etr.specs.declared.rounds.Rounds.{Rounds}
use Rattle.lisp_server.specs.Notices.{notice_at, is_due_at}
use Rattle.lisp_model.specs.declared.event.Event.TheVariants as events
use Rattle.lisp_model.specs.declared.line.Line.{Line}
use Rattle.lisp_model.specs.declared.line.Line.TheVariants as lines
use Rattle.lisp_model.specs.Trace.{EventValue}
use Rattle.lisp_refinement.specs.Nodes.{up_in}
use Rattle.lisp_refinement.specs.World.{RouterNodeState}
use Rattle.lisp_refinement.specs.Events.{place_of}
use Rattle.lisp_policy.specs.Configuration.{ConfigValue}
use Rattle.lisp_turns.specs.Act.{ActValue}
use Rattle.lisp_turns.specs.Acts.{DoesOne}
use Rattle.lisp_turns.specs.Node.{NodeState, Server, Router}
use Rattle.lisp_turns.specs.Serving.{number_of}

-- a Map-Register of a part is due to the Map-Server with a number
pub record IsRegisterDue (n : RouterNodeState) (server part now : ℕ) : Type 0 where
  pub etr : EtrState
  pub up : up_in n.core ≡ Some etr
  pub rounds : Rounds
  pub with_server : slice_get etr.rounds (place_of n.servers server) ≡ Some rounds
  pub round : Round
  pub of_part : slice_get rounds.parts part ≡ Some round
  pub there : part < part_count etr.database
  pub due : round.due ≤ now

-- the event sends a Map-Register that is due at the node with a number
abbrev pub SendsDue : NodeState → ℕ → ℕ → EventValue → Type 0
SendsDue (Router n) number now (events.Send router server part Done) = (router ≡ number) × IsRegisterDue n server part now
SendsDue _ number now _ = ⊥

-- the event sends a notice again that is due at the Map-Server, to the router with its number
abbrev pub ResendsDue : ConfigValue → NodeState → ℕ → EventValue → Type 0
ResendsDue config (Server n) now (events.Resend server router) = (me : RouterId) × (router ≡ number_of config me) × (is_due_at now (notice_at n.core.notices me) ≡ true)
ResendsDue config _ now _ = ⊥

-- the event sends a Map-Register; it sends a notice again
abbrev pub IsSend : EventValue → Type 0
IsSend (events.Send router server part fate) = Unit {0}
IsSend _ = ⊥

abbrev pub IsResend : EventValue → Type 0
IsResend (events.Resend server router) = Unit {0}
IsResend _ = ⊥

-- no Map-Register and no notice is due
abbrev pub NothingDue : NodeState → ℕ → Type 0
NothingDue (Server n) now = (router : RouterId) → is_due_at now (notice_at n.core.notices router) ≡ false
NothingDue (Router n) now = (etr : EtrState) → up_in n.core ≡ Some etr → due_at etr now ≡ None

-- the node refused
abbrev pub IsRefused : Line → Type 0
IsRefused (lines.Refused node what) = Unit {0}
IsRefused _ = ⊥

-- the node with the number sends a Map-Register, or sends a notice again
abbrev pub IsDuty : ℕ → EventValue → Type 0
IsDuty number (events.Send router server part Done) = router ≡ number
IsDuty number (events.Resend server router) = server ≡ number
IsDuty number _ = ⊥

-- what a node did that was due: once it sent a Map-Register, that isn't due; and no Map-Register and no notice is that wasn't
pub record DoesDuty (A : Type 0) (config : ConfigValue) (number : ℕ) (old new : NodeState) (now : ℕ) (act : ActValue) : Type 0 where
  pub event : EventValue
  pub does : DoesOne A config number old new now event act
  pub duty : IsDuty number event
  pub was_due : IsSend event → SendsDue old number now event
  pub notice_was_due : IsResend event → ResendsDue config old now event
  pub done : (IsRefused act.line → ⊥) → SendsDue new number now event → ⊥
  pub others : (other : EventValue) → SendsDue new number now other → SendsDue old number now other
  pub other_notices : (other : EventValue) → ResendsDue config new now other → ResendsDue config old now other
