-- What commands print: the text of a legal trace, a line for each event, and the lines of each query.
use Rattle.std.specs.Prelude.{◌≡◌, ◌⊎◌, ℕ, ◌<◌, List, [], ◌∷◌, ◌++◌, length, take, slice_get, Option, Some, Result, OnErr}
use Rattle.std.specs.Io.KnownBytes.{Appends}
use Rattle.lisp_nonces.specs.declared.fate.Fate.TheVariants.{Done}
use Rattle.lisp_model.specs.Trace.{EventValue, Step, Opening, addresses, shown_store, fate_of}
use Rattle.lisp_model.specs.Legal.{Legal}
use Rattle.lisp_model.specs.Memory.{MayTell}
use Rattle.lisp_refinement.specs.World.{WorldState}
use Rattle.lisp_refinement.specs.Stands.{Stands}
use Rattle.lisp_world.specs.Quiet.{AllCalm, stores_of}
use Rattle.lisp_world.specs.Faults.{fault_of}
use Rattle.lisp_model.specs.declared.world_fault.WorldFault.{WorldFault}
use Rattle.lisp_model.specs.declared.world_fault.WorldFault.TheVariants.{OutOfMemory}
use Rattle.lisp_lines.specs.declared.datagram_place.DatagramPlace.TheVariants.{Shown}
use Rattle.lisp_lines.specs.declared.wording.Wording.TheVariants.{Schedule}
use Rattle.lisp_lines.specs.Line.{line_text}
use Rattle.lisp_lines.specs.Output.{WroteFront}
use Rattle.lisp_script.specs.declared.command.Command.TheVariants.{Act, Hold, Acks, Ask, Request, Due}
use Rattle.lisp_script.specs.declared.command.Command.{Command}
use Rattle.lisp_script.specs.Command.{CommandValue, command_value}
use Rattle.lisp_policy.specs.Configuration.{ConfigValue}
use Rattle.lisp_player.specs.declared.outcome.Outcome.{Outcome}
use Rattle.lisp_player.specs.Asked.{OfTraces, fault_text, Holds, Asks, Requests, Acknowledges, IsDue}

-- In what follows A is where answers lie; `nodes` says that memory may be refused to the nodes, `stores` that it may be
-- to their stores.

-- what keeps a network that stands for the trace from taking an event; memory only where it may be refused
abbrev pub IsFaultOf : Type 0 → Opening → List Step → EventValue → WorldFault → Type 0
IsFaultOf nodes o T event fault =
    ((w : WorldState) × Stands w o T × (fault_of w event ≡ Some fault)) ⊎ ((fault ≡ OutOfMemory) × nodes)

-- an event after a trace was taken, and its line is the text, which tells of memory only where it may be refused; or it
-- was not taken, and the text says why
pub record EventIsTaken (nodes stores : Type 0) (o : Opening) (T : List Step) (event : EventValue) (text : List ℕ) (after : List Step) : Type 0 where
  pub step : Step
  pub of : step.event ≡ event
  pub legal : Legal o T step
  pub tells : MayTell nodes stores step.line
  pub said : text ≡ line_text o.config (Schedule Shown) step.line
  pub next : after ≡ step ∷ T

pub record EventIsRefused (nodes : Type 0) (o : Opening) (T : List Step) (event : EventValue) (text : List ℕ) (after : List Step) : Type 0 where
  pub fault : WorldFault
  pub why : IsFaultOf nodes o T event fault
  pub said : text ≡ fault_text fault
  pub same : after ≡ T

-- the text of a command after a trace, and the trace that it leads to: a query leads nowhere
abbrev pub Tells : Type 0 → Type 0 → Type 0 → Opening → List Step → CommandValue → List ℕ → List Step → Type 0
Tells A nodes stores o T (Act event) text after = EventIsTaken nodes stores o T event text after ⊎ EventIsRefused nodes o T event text after
Tells A nodes stores o T (Hold server) text after = Holds o T server text × (after ≡ T)
Tells A nodes stores o T (Acks router) text after = Acknowledges o T router text × (after ≡ T)
Tells A nodes stores o T (Ask server addr) text after = Asks A o T server addr text × (after ≡ T)
Tells A nodes stores o T (Request server asked from) text after = Requests A o T server asked from text × (after ≡ T)
Tells A nodes stores o T (Due node) text after = IsDue o T node text × (after ≡ T)

-- and of commands, one after the other
pub record TellsFirst (Others : List Step → List ℕ → Type 0) (First : List ℕ → List Step → Type 0) (text : List ℕ) : Type 0 where
  pub told : List ℕ
  pub next : List Step
  pub rest : List ℕ
  pub said : text ≡ told ++ rest
  pub first : First told next
  pub others : Others next rest

abbrev pub Plays : Type 0 → Type 0 → Type 0 → Opening → List Step → List CommandValue → List ℕ → List Step → Type 0
Plays A nodes stores o T [] text after = (text ≡ []) × (after ≡ T)
Plays A nodes stores o T (order ∷ orders) text after =
    TellsFirst (λ next rest. Plays A nodes stores o next orders rest after) (λ told next. Tells A nodes stores o T order told next) text

-- no store failed, but where an event's fate asks for that
abbrev pub FailsAsAsked : Opening → List Step → Type 0
FailsAsAsked o [] = Unit {0}
FailsAsAsked o (s ∷ T) = (fate_of s.event ≡ Done → (node : ℕ) → node < length (addresses o.config) → (shown_store o (s ∷ T) node).faults ≡ (shown_store o T node).faults) × FailsAsAsked o T

-- a network that stood for a trace stands for one that comes of it. Its stores, where they were calm, failed as asked
pub record Comes (old new : WorldState) (o : Opening) (T : List Step) (Tell : List Step → Type 0) : Type 0 where
  pub after : List Step
  pub told : Tell after
  pub stands : Stands new o after
  pub failures : AllCalm (stores_of old) → FailsAsAsked o T → FailsAsAsked o after

-- this is so of each trace of a configuration that it stood for; and calm stores are calm again
pub record Moves (old new : WorldState) (c : ConfigValue) (Tell : Opening → List Step → List Step → Type 0) : Type 0 where
  pub calm : AllCalm (stores_of old) → AllCalm (stores_of new)
  pub comes : OfTraces old c (λ o T. Comes old new o T (Tell o T))

-- what a command printed, and where it led the network; and commands
abbrev pub CommandLeads : Type 0 → Type 0 → Type 0 → WorldState → WorldState → ConfigValue → CommandValue → List ℕ → Type 0
CommandLeads A nodes stores old new c order text = Moves old new c (λ o T after. Tells A nodes stores o T order text after)

abbrev pub CommandsLead : Type 0 → Type 0 → Type 0 → WorldState → WorldState → ConfigValue → List CommandValue → List ℕ → Type 0
CommandsLead A nodes stores old new c orders text = Moves old new c (λ o T after. Plays A nodes stores o T orders text after)

-- a command was not taken, or its text was lost
abbrev pub Loses : Type 0 → Type 0 → Type 0 → WorldState → WorldState → ConfigValue → CommandValue → Type 0
Loses A nodes stores old new c order = (new ≡ old) ⊎ ((text : List ℕ) × CommandLeads A nodes stores old new c order text)

-- at Err a command was not taken, or its text was lost
abbrev pub LosesText : {F E Z : Type 0} → Result (Outcome Z) E → Type 0 → Type 0 → Type 0 → WorldState → WorldState → ConfigValue → Command F → Type 0
LosesText result A nodes stores old new c command = OnErr result (Loses A nodes stores old new c (command_value command))

-- what was written is the text of a command; and of commands
pub record WroteOne (A nodes stores : Type 0) (old new : WorldState) (c : ConfigValue) (order : CommandValue) (before after : Option (List ℕ)) : Type 0 where
  pub text : List ℕ
  pub written : Appends before after text
  pub turns : CommandLeads A nodes stores old new c order text

pub record Wrote (A nodes stores : Type 0) (old new : WorldState) (c : ConfigValue) (orders : List CommandValue) (before after : Option (List ℕ)) : Type 0 where
  pub text : List ℕ
  pub written : Appends before after text
  pub leads : CommandsLead A nodes stores old new c orders text

-- out of memory in one of the commands: the text of those before it was written, and it may be that its own was lost
pub record StopsAt (A nodes stores : Type 0) (old new : WorldState) (c : ConfigValue) (orders : List CommandValue) (before after : Option (List ℕ)) : Type 0 where
  pub place : ℕ
  pub order : CommandValue
  pub there : slice_get orders place ≡ Some order
  pub between : WorldState
  pub wrote : Wrote A nodes stores old between c (take place orders) before after
  pub lost : Loses A nodes stores between new c order

-- the text of a command could not be written whole: a proper front of it went out. The network stands behind the command
pub record BreaksOne (A nodes stores : Type 0) (old new : WorldState) (c : ConfigValue) (order : CommandValue) (before after : Option (List ℕ)) : Type 0 where
  pub text : List ℕ
  pub turns : CommandLeads A nodes stores old new c order text
  pub written : WroteFront before after text

-- and so it is of one of the commands, behind the text of those before it
pub record Breaks (A nodes stores : Type 0) (old new : WorldState) (c : ConfigValue) (orders : List CommandValue) (before after : Option (List ℕ)) : Type 0 where
  pub place : ℕ
  pub order : CommandValue
  pub there : slice_get orders place ≡ Some order
  pub between : WorldState
  pub middle : Option (List ℕ)
  pub wrote : Wrote A nodes stores old between c (take place orders) before middle
  pub next : BreaksOne A nodes stores between new c order middle after
