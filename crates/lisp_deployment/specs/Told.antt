-- What operators see of a deployment whose trace is clean: of what is registered and counted, the lines.
use Rattle.std.specs.Prelude.{◌≡◌, ℕ, ◌<◌, List, length, Option}
use Rattle.std.specs.List.{Contains}
use Rattle.lisp_records.specs.Row.{RowValue}
use Rattle.lisp_policy.specs.Configuration.{ConfigValue}
use Rattle.lisp_lookup.specs.Table.{IsHeld}
use Rattle.lisp_nonces.specs.Store.{StoreState}
use Rattle.lisp_model.specs.declared.line.Line.{Line}
use Rattle.lisp_model.specs.declared.line.Line.TheVariants as lines
use Rattle.lisp_model.specs.Network.{IsNetwork}
use Rattle.lisp_model.specs.Trace.{Step, Opening, router_at}
use Rattle.lisp_refinement.specs.World.{ServerNodeState, WorldState}
use Rattle.lisp_client.specs.Promised.{WasRegistered, RowsAgree}
use Rattle.lisp_turns.specs.Act.{numbered}
use Rattle.lisp_turns.specs.Node.{Server}
use Rattle.lisp_turns.specs.Outside.{Call}
use Rattle.lisp_deployment.specs.Deeds.{Deed, DoDeeds}
use Rattle.lisp_deployment.specs.Deployment.{DeploymentState, TakesTurn}
use Rattle.lisp_deployment.specs.Opening.{DeploymentBegins, DeploymentOpens}
use Rattle.lisp_deployment.specs.Printed.{all_lines}
use Rattle.lisp_deployment.specs.Received.{ReceivesUnforged, HasCleanTrace}

-- the rows that a Map-Server of a deployment holds at the deployment's moment
pub record Holds (config : ConfigValue) (d : DeploymentState) (server : ℕ) (held : List RowValue) : Type 0 where
  pub known : server < length config.servers
  pub node : ServerNodeState
  pub running : (d.nodes server).node ≡ Server node
  pub rows : IsHeld node.core.rows d.moment held

-- What a user of a Map-Server is shown in a turn, of its core between what it took in and what was due, it holds at the turn's end: behind
-- the answer it drops dead rows, and sends notices again.
abbrev pub AnswersShowHeld : Type 0 → Type 0
AnswersShowHeld A = (config : ConfigValue) (server : ℕ) (calls : List Call) (old new : DeploymentState)
    → (takes : TakesTurn A config server calls old new) → server < length config.servers
    → (shown : ServerNodeState) (held : List RowValue) → takes.turn.between ≡ Server shown → IsHeld shown.core.rows takes.turn.now held
    → Holds config new server held

-- A row that a Map-Server holds: it accepted a Map-Register that a router sent before, whose database had the row's record then. The lines
-- of both were printed: what a crash swallowed nobody received, and of what was accepted there no row is left.
pub record RowWasSent (o : Opening) (T : List Step) (printed : List Line) (server : ℕ) (row : RowValue) : Type 0 where
  pub was : WasRegistered o T server row
  pub accepted : Contains printed (numbered 0 was.accepting.line)
  pub sent : Contains printed (numbered 0 was.sending.line)

-- so is each that a Map-Server of a deployment holds, where nothing that was received is forged
abbrev pub HeldRowsWereSent : Type 0 → Type 0
HeldRowsWereSent A = (config : ConfigValue) (stores : ℕ → StoreState) (begun d : DeploymentState) (deeds : List Deed)
    → IsNetwork config → DeploymentBegins config stores begun → (did : DoDeeds A config deeds begun d)
    → ReceivesUnforged A config deeds begun d did
    → (first : WorldState) × (o : Opening) × DeploymentOpens config stores begun first o
    × (clean : HasCleanTrace config deeds d first o)
    × ((server : ℕ) (held : List RowValue) → Holds config d server held → (row : RowValue) → Contains held row
    → RowWasSent o clean.has.trace (all_lines deeds) server row)

-- and rows of one router and prefix that two of them hold, sent in steps with no change of the router's database between, have equal records
abbrev pub HeldRowsAgree : Type 0 → Type 0
HeldRowsAgree A = (config : ConfigValue) (stores : ℕ → StoreState) (begun d : DeploymentState) (deeds : List Deed)
    → IsNetwork config → DeploymentBegins config stores begun → (did : DoDeeds A config deeds begun d)
    → ReceivesUnforged A config deeds begun d did
    → (first : WorldState) × (o : Opening) × DeploymentOpens config stores begun first o
    × (clean : HasCleanTrace config deeds d first o)
    × ((one other : ℕ) (held held_by_other : List RowValue) → Holds config d one held → Holds config d other held_by_other
    → RowsAgree o clean.has.trace one other held held_by_other)

-- For each line of a part that a router counted there is a line of its Map-Server that accepted the nonce under that key, and it was
-- printed: a reply goes out only where that line does.
abbrev pub CountedLinesWereAccepted : Type 0 → Type 0
CountedLinesWereAccepted A = (config : ConfigValue) (stores : ℕ → StoreState) (begun d : DeploymentState) (deeds : List Deed)
    → IsNetwork config → DeploymentBegins config stores begun → (did : DoDeeds A config deeds begun d)
    → ReceivesUnforged A config deeds begun d did
    → (node server part key nonce : ℕ) → Contains (all_lines deeds) (lines.Counted node server part key nonce)
    → (reply : Option ℕ) × Contains (all_lines deeds) (lines.Accepted server (router_at config node).me key nonce reply)
