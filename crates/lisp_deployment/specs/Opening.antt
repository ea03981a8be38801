-- How a deployment begins: each of its nodes over a store of its own.
use Rattle.std.specs.Prelude.{◌≡◌, ℕ, ◌<◌, IsTrue, List, []}
use Rattle.lisp_policy.specs.Configuration.{ConfigValue}
use Rattle.lisp_nonces.specs.Kept.{KeepsSome}
use Rattle.lisp_nonces.specs.Store.{StoreState}
use Rattle.lisp_model.specs.Network.{IsNetwork}
use Rattle.lisp_model.specs.Trace.{Opening, shown_store}
use Rattle.lisp_refinement.specs.World.{WorldState}
use Rattle.lisp_turns.specs.Beginning.{Begins}
use Rattle.lisp_turns.specs.Outside.{Call}
use Rattle.lisp_deployment.specs.Deployment.{DeploymentState, node_count, TakeTurns, DeploymentStands, DeploymentGoesOn}

-- each node begins with its network, over an honest store, a Map-Server under the sites of the configuration; nothing was sent
pub record DeploymentBegins (config : ConfigValue) (stores : ℕ → StoreState) (d : DeploymentState) : Type 0 where
  pub nodes : (k : ℕ) → k < node_count config → Begins config config.sites k (stores k) 0 (d.nodes k).node
  pub honest : (k : ℕ) → k < node_count config → IsTrue (stores k).is_honest
  pub moment : d.moment ≡ 0
  pub unsent : d.sent ≡ []

-- There is one over each stores that are honest, and keep something for each pair: a node idles so until its first life, whenever that begins.
abbrev pub DeploymentsBegin : Type 0
DeploymentsBegin = (config : ConfigValue) (stores : ℕ → StoreState)
    → ((k : ℕ) → k < node_count config → IsTrue (stores k).is_honest × KeepsSome (stores k).kept)
    → (d : DeploymentState) × DeploymentBegins config stores d

-- then it is a network at its opening, whose stores keep what these kept, and whose bag is empty
pub record DeploymentOpens (config : ConfigValue) (stores : ℕ → StoreState) (d : DeploymentState) (w : WorldState) (o : Opening)
    : Type 0 where
  pub stands : DeploymentStands config d w o []
  pub kept : (k : ℕ) → k < node_count config → (shown_store o [] k).kept ≡ (stores k).kept
  pub bag : w.bag ≡ []

-- All that the nodes of a configuration do from their start on, whichever takes a turn when: there is a network of them at its opening, and
-- one legal trace of it, whose steps are those of their turns, one turn after another.
abbrev pub DeploymentsAreNetworks : Type 0 → Type 0
DeploymentsAreNetworks A = (config : ConfigValue) (stores : ℕ → StoreState) (begun d : DeploymentState) (turns : List (ℕ × List Call))
    → IsNetwork config → DeploymentBegins config stores begun → TakeTurns A config turns begun d
    → (w : WorldState) × (o : Opening) × DeploymentOpens config stores begun w o × DeploymentGoesOn config turns d w o []
