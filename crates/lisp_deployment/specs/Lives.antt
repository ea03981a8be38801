-- The lives of a node in a deployment: it starts, takes turns, and stops, perhaps in the middle of one.
use Rattle.std.specs.Prelude.{◌≡◌, ◌≢◌, ◌⊎◌, ℕ, ◌<◌, ◌≤◌, IsTrue, true, false, List, [], ◌∷◌, ◌++◌, map, None}
use Rattle.std.specs.List.{AllByRecursion, Contains}
use Rattle.lisp_records.specs.Moment.{max_moment}
use Rattle.lisp_policy.specs.Configuration.{ConfigValue}
use Rattle.lisp_policy.specs.Site.{SiteValue}
use Rattle.lisp_nonces.specs.Kept.{NarrowsEach}
use Rattle.lisp_nonces.specs.Store.{StoreState}
use Rattle.lisp_model.specs.declared.event.Event.TheVariants as events
use Rattle.lisp_model.specs.declared.line.Line.TheVariants as lines
use Rattle.lisp_model.specs.Trace.{router_at, etr_config_of, EventValue, Step, Opening}
use Rattle.lisp_refinement.specs.Calls.{config_of, database_of}
use Rattle.lisp_refinement.specs.World.{RouterNodeState, WorldState}
use Rattle.lisp_nodes.specs.Cores.{first_used}
use Rattle.lisp_turns.specs.Acts.{TurnAct, DoesAll, acts_calls}
use Rattle.lisp_turns.specs.Beginning.{Begins, TakesSites}
use Rattle.lisp_turns.specs.Due.{IsDuty, IsRefused}
use Rattle.lisp_turns.specs.Node.{NodeState, Server, Router, Passes}
use Rattle.lisp_turns.specs.Part.{IsOwn, ArePrinted, arrivals, arrived_in, lines_of}
use Rattle.lisp_turns.specs.Outside.{OutsideState}
use Rattle.lisp_turns.specs.Stretch.{beginning}
use Rattle.lisp_turns.specs.Turn.{TurnState, acts_of, IsLostTurn}
use Rattle.lisp_deployment.specs.Deployment.{DeploymentState, node_count, sent_by, DeploymentStands}

-- A store as the next life opens it: it is honest, and of what may have been kept for a pair something is kept, and nothing else. No
-- schedule says what.
pub record Survives (last next : StoreState) : Type 0 where
  pub honest : IsTrue last.is_honest × IsTrue next.is_honest
  pub unscheduled : (last.is_obedient ≡ false) × (next.is_obedient ≡ false)
  pub narrows : NarrowsEach last.kept next.kept

abbrev pub store_of : NodeState → StoreState
store_of (Server n) = n.store
store_of (Router n) = n.store

-- What is left of a turn that a crash cut off at a moment, the newest act first. The older acts were told, unless they were due and
-- refused, and their messages sent; of those behind them the store keeps what they saved, and nobody was told.
pub record IsCut (A : Type 0) (config : ConfigValue) (number : ℕ) (old last : NodeState) (now : ℕ) (untold told : List TurnAct)
    : Type 0 where
  pub passed : NodeState
  pub passes : Passes old passed now ⊎ (passed ≡ old)
  pub did : DoesAll A config number passed last now (untold ++ told)
  pub own : AllByRecursion (λ a. IsOwn number a.event) (untold ++ told)
  pub are_told : AllByRecursion (λ a. (a.told ≡ true) ⊎ (IsDuty number a.event × IsRefused a.act.line)) told

-- A turn that is lost is cut off so: the store keeps all that it saved, or nothing.
abbrev pub LostTurnsAreCuts : Type 0 → Type 0
LostTurnsAreCuts A = (config : ConfigValue) (number places : ℕ) (s : TurnState) (left : NodeState) (outside : OutsideState)
    → (lost : IsLostTurn A config number places s left outside)
    → IsCut A config number s.node left lost.now (acts_of number lost.intake) [] × IsCut A config number s.node s.node lost.now [] []

-- A node's life ends, at the end of a turn or in one, and its next life begins over what its store kept, that of a Map-Server under these
-- sites; the others do nothing.
pub record BeginsLife (A : Type 0) (config : ConfigValue) (number : ℕ) (told : List TurnAct) (old new : DeploymentState)
    : Type 0 where
  pub known : number < node_count config
  pub last : NodeState
  pub ended : ℕ
  pub untold : List TurnAct
  pub cut : IsCut A config number (old.nodes number).node last ended untold told
  pub store : StoreState
  pub survives : Survives (store_of last) store
  pub later : (old.moment ≤ ended) × (ended ≤ new.moment)
  pub bound : new.moment ≤ max_moment
  pub sites : List SiteValue
  pub begins : Begins config sites number store new.moment (new.nodes number).node
  pub fresh : new.nodes number ≡ beginning (new.nodes number).node (new.nodes number).resolving (new.nodes number).outside
  pub others : (k : ℕ) → k ≢ number → new.nodes k ≡ old.nodes k
  pub sent : new.sent ≡ old.sent ++ sent_by config number (acts_calls told)

-- A router is as it is configured: it went over to no other key, and was given no other database.
pub record IsAsConfigured (config : ConfigValue) (number : ℕ) (n : RouterNodeState) : Type 0 where
  pub settings : config_of n.core ≡ etr_config_of config (router_at config number)
  pub database : database_of n.core ≡ (router_at config number).database
  pub used : n.used ≡ first_used (router_at config number).key_id

abbrev pub EndsAsConfigured : ConfigValue → ℕ → NodeState → Type 0
EndsAsConfigured config number (Server n) = Unit {0}
EndsAsConfigured config number (Router n) = IsAsConfigured config number n

-- the sites that a Map-Server took in acts, each time all of them
abbrev pub sites_taken_in : EventValue → List (List SiteValue)
sites_taken_in (events.Reload server sites) = sites ∷ []
sites_taken_in _ = []

abbrev pub sites_taken : List TurnAct → List (List SiteValue)
sites_taken [] = []
sites_taken (a ∷ earlier) = sites_taken_in a.event ++ sites_taken earlier

-- a Map-Server takes no sites but some of these
abbrev pub TakesOneOf : List (List SiteValue) → EventValue → Type 0
TakesOneOf given (events.Reload server sites) = Contains given sites
TakesOneOf given _ = Unit {0}

-- The steps of a life that begins: first what was told of the last turn, of which the lines are those that were printed; then what nobody
-- was told: the rest of that turn, time that passes, and that a Map-Server takes the sites of its next life; and last the restart.
pub record IsLife (number : ℕ) (told : List TurnAct) (steps : List Step) : Type 0 where
  pub first : List Step
  pub printed : ArePrinted first (lines_of (acts_calls told))
  pub untold : List Step
  pub own : AllByRecursion (λ s. IsOwn number s.event) (untold ++ first)
  pub restart : Step
  pub event : restart.event ≡ events.Restart number 0 None
  pub line : restart.line ≡ lines.Restarted number
  pub is : steps ≡ restart ∷ untold ++ first

-- A deployment that is a network went on to be one by them. What arrived in them is what arrived in the acts, and the lines of what nobody
-- was told are those of the acts of which nobody was told; but a Map-Server takes the sites of its next life. It takes no other sites than
-- those, and those that it took in the acts.
pub record LifeGoesOn (config : ConfigValue) (sites : List SiteValue) (number : ℕ) (untold told : List TurnAct) (new : DeploymentState)
    (o : Opening) (T : List Step) : Type 0 where
  pub steps : List Step
  pub left : WorldState
  pub life : IsLife number told steps
  pub heard : arrivals steps ≡ arrived_in (untold ++ told)
  pub reloads : List Step
  pub rest : List Step
  pub parts : life.untold ≡ reloads ++ rest
  pub takes_sites : TakesSites number sites reloads
  pub swallowed : ArePrinted rest (map (λ a. a.act.line) untold)
  pub takes : AllByRecursion (λ s. TakesOneOf (sites ∷ sites_taken (untold ++ told)) s.event) steps
  pub stands : DeploymentStands config new left o (steps ++ T)

-- A node's next life is a restart, where a router ended as it is configured.
abbrev pub LivesStand : Type 0 → Type 0
LivesStand A = (config : ConfigValue) (number : ℕ) (told : List TurnAct) (old new : DeploymentState)
    → (life : BeginsLife A config number told old new) → EndsAsConfigured config number life.last
    → (w : WorldState) (o : Opening) (T : List Step) → DeploymentStands config old w o T
    → LifeGoesOn config life.sites number life.untold told new o T
