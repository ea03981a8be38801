-- What becomes of a deployment, one deed after another: its nodes take turns, crash, and begin again.
use Rattle.std.specs.Prelude.{◌≡◌, ℕ, List, [], ◌∷◌, ◌++◌}
use Rattle.lisp_policy.specs.Configuration.{ConfigValue}
use Rattle.lisp_nonces.specs.Store.{StoreState}
use Rattle.lisp_model.specs.Network.{IsNetwork}
use Rattle.lisp_model.specs.Trace.{Step, Opening}
use Rattle.lisp_refinement.specs.World.{WorldState}
use Rattle.lisp_refinement.specs.Headline.{Headline}
use Rattle.lisp_turns.specs.Acts.{TurnAct}
use Rattle.lisp_turns.specs.Outside.{Call}
use Rattle.lisp_turns.specs.Part.{IsPart}
use Rattle.lisp_deployment.specs.Deployment.{DeploymentState, TakesTurn, DeploymentStands}
use Rattle.lisp_deployment.specs.Lives.{BeginsLife, EndsAsConfigured, IsLife}
use Rattle.lisp_deployment.specs.Opening.{DeploymentBegins, DeploymentOpens}

-- the node with a number took a turn, in which it asked this of what is outside; or it crashed once it had told this of its last turn,
-- and began again
pub data Deed : Type 0 where
  Turn : ℕ → List Call → Deed
  Life : ℕ → List TurnAct → Deed

-- a node begins again: a router that is as it is configured, or a Map-Server
pub record BeginsAgain (A : Type 0) (config : ConfigValue) (number : ℕ) (told : List TurnAct) (old new : DeploymentState)
    : Type 0 where
  pub life : BeginsLife A config number told old new
  pub configured : EndsAsConfigured config number life.last

abbrev pub DoesDeed : Type 0 → ConfigValue → Deed → DeploymentState → DeploymentState → Type 0
DoesDeed A config (Turn number calls) old new = TakesTurn A config number calls old new
DoesDeed A config (Life number told) old new = BeginsAgain A config number told old new

-- deeds one after another, the newest first
abbrev pub DoDeeds : Type 0 → ConfigValue → List Deed → DeploymentState → DeploymentState → Type 0
DoDeeds A config [] old new = new ≡ old
DoDeeds A config (deed ∷ earlier) old new = (between : DeploymentState) × DoDeeds A config earlier old between
    × DoesDeed A config deed between new

-- the network went on by what was printed and sent in a turn; or by a life that began
abbrev pub IsOf : Deed → WorldState → WorldState → Opening → List Step → List Step → Type 0
IsOf (Turn number calls) old new o T steps = IsPart number calls old new o T steps
IsOf (Life number told) old new o T steps = IsLife number told steps

-- so it did deed by deed
abbrev pub AreOf : List Deed → WorldState → WorldState → Opening → List Step → List Step → Type 0
AreOf [] old new o T steps = (steps ≡ []) × (new ≡ old)
AreOf (deed ∷ earlier) old new o T steps = (between : WorldState) × (first second : List Step) × AreOf earlier old between o T first
    × IsOf deed between new o (first ++ T) second × (steps ≡ second ++ first)

-- A deployment has a trace: from the network that it was at its opening it went on, deed by deed, to a network that matches the trace,
-- and of which the headline holds.
pub record HasTrace (config : ConfigValue) (deeds : List Deed) (d : DeploymentState) (first : WorldState) (o : Opening) : Type 0 where
  pub trace : List Step
  pub network : WorldState
  pub are_of : AreOf deeds first network o [] trace
  pub stands : DeploymentStands config d network o trace
  pub headline : Headline network o trace

-- So has each that began, each node over an honest store of its own, whatever its nodes did since, and whichever crashed.
abbrev pub DeploymentsHaveTraces : Type 0 → Type 0
DeploymentsHaveTraces A = (config : ConfigValue) (stores : ℕ → StoreState) (begun d : DeploymentState) (deeds : List Deed)
    → IsNetwork config → DeploymentBegins config stores begun → DoDeeds A config deeds begun d
    → (first : WorldState) × (o : Opening) × DeploymentOpens config stores begun first o × HasTrace config deeds d first o
