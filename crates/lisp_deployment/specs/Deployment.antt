-- A deployment: nodes of one configuration that run each by itself, and what it means that all of them are one network.
use Rattle.std.specs.Prelude.{◌≡◌, ◌≢◌, ◌⊎◌, ℕ, ◌+◌, ◌<◌, ◌≤◌, List, [], ◌∷◌, ◌++◌, length, map, reverse}
use Rattle.lisp_policy.specs.Configuration.{ConfigValue}
use Rattle.lisp_model.specs.Trace.{Step, Opening, address_at}
use Rattle.lisp_refinement.specs.World.{DatagramValue, WorldState}
use Rattle.lisp_refinement.specs.Stands.{Stands}
use Rattle.lisp_turns.specs.Node.{HasNode}
use Rattle.lisp_turns.specs.Outside.{Call}
use Rattle.lisp_turns.specs.Part.{sent_of, datagram_from, IsPart}
use Rattle.lisp_turns.specs.Requests.{answered_calls}
use Rattle.lisp_turns.specs.Turn.{TurnState, IsTurn, turn_calls}

-- a deployment between turns: the moment that a clock was read at last, in ms; each node, by its number; and the datagrams that were
-- sent, the oldest first
pub record DeploymentState : Type 0 where
  pub moment : ℕ
  pub nodes : ℕ → TurnState
  pub sent : List DatagramValue

-- how many nodes there are
abbrev pub node_count : ConfigValue → ℕ
node_count c = length c.servers + length c.routers

-- what a node asked of what is outside in its turn, the newest first
abbrev pub calls_in : (A : Type 0) (config : ConfigValue) (number places : ℕ) (old new : TurnState)
    → IsTurn A config number places old new → List Call
calls_in A config number places old new turn =
    turn_calls number turn.reception old.receives turn.now turn.dead turn.intake turn.between turn.served (answered_calls turn.ended turn.deeds)

-- the datagrams that a node sent, the oldest first
abbrev pub sent_by : ConfigValue → ℕ → List Call → List DatagramValue
sent_by config number calls = map (datagram_from (address_at config number)) (reverse (sent_of calls))

-- A node takes a turn, and the others do nothing. Its clock isn't behind that of a node that took a turn before.
pub record TakesTurn (A : Type 0) (config : ConfigValue) (number : ℕ) (calls : List Call) (old new : DeploymentState)
    : Type 0 where
  pub known : number < node_count config
  pub places : ℕ
  pub turn : IsTurn A config number places (old.nodes number) (new.nodes number)
  pub asked : calls ≡ calls_in A config number places (old.nodes number) (new.nodes number) turn
  pub later : old.moment ≤ turn.now
  pub moment : new.moment ≡ turn.now
  pub others : (k : ℕ) → k ≢ number → new.nodes k ≡ old.nodes k
  pub sent : new.sent ≡ old.sent ++ sent_by config number calls

-- turns in any order, each with its node and what that asked, the newest first
abbrev pub TakeTurns : Type 0 → ConfigValue → List (ℕ × List Call) → DeploymentState → DeploymentState → Type 0
TakeTurns A config [] old new = new ≡ old
TakeTurns A config (turn ∷ earlier) old new = (between : DeploymentState) × TakeTurns A config earlier old between
    × TakesTurn A config turn.0 turn.1 between new

-- all of a list are among another one, in their order there
abbrev pub IsAmong : {X : Type 0} → List X → List X → Type 0
IsAmong [] ys = Unit {0}
IsAmong (x ∷ xs) [] = ⊥
IsAmong (x ∷ xs) (y ∷ ys) = ((y ≡ x) × IsAmong xs ys) ⊎ IsAmong (x ∷ xs) ys

-- A deployment is a network that matches a trace: that has each of its nodes, its moment, and what they sent. It may have sent more: a
-- node that crashed may have saved the nonce of a message that it didn't send.
pub record DeploymentStands (config : ConfigValue) (d : DeploymentState) (w : WorldState) (o : Opening) (T : List Step) : Type 0 where
  pub stands : Stands w o T
  pub config_is : o.config ≡ config
  pub nodes : (k : ℕ) → k < node_count config → HasNode w k (d.nodes k).node
  pub clock : w.clock ≡ d.moment
  pub sent : IsAmong d.sent w.bag

-- a network went on by what nodes asked in their turns, turn by turn
abbrev pub AreParts : List (ℕ × List Call) → WorldState → WorldState → Opening → List Step → List Step → Type 0
AreParts [] old new o T steps = (steps ≡ []) × (new ≡ old)
AreParts (turn ∷ earlier) old new o T steps = (between : WorldState) × (first second : List Step) × AreParts earlier old between o T first
    × IsPart turn.0 turn.1 between new o (first ++ T) second × (steps ≡ second ++ first)

-- so a deployment went on, too
pub record DeploymentGoesOn (config : ConfigValue) (turns : List (ℕ × List Call)) (new : DeploymentState) (w : WorldState) (o : Opening)
    (T : List Step) : Type 0 where
  pub steps : List Step
  pub left : WorldState
  pub parts : AreParts turns w left o T steps
  pub stands : DeploymentStands config new left o (steps ++ T)

-- turns of several nodes are one legal trace's
abbrev pub TurnsAreOneTrace : Type 0 → Type 0
TurnsAreOneTrace A = (config : ConfigValue) (turns : List (ℕ × List Call)) (old new : DeploymentState)
    → TakeTurns A config turns old new → (w : WorldState) (o : Opening) (T : List Step) → DeploymentStands config old w o T
    → DeploymentGoesOn config turns new w o T
