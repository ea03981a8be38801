-- A node of either kind, and its place in a network.
use Rattle.std.specs.Prelude.{◌≡◌, ◌≢◌, ◌↔◌, ℕ, ◌+◌, ◌-◌, ◌<◌, false, List, length, slice_get, slice_set, Option, Some}
use Rattle.std.specs.List.{AllPairs, Contains}
use Rattle.std.specs.Option.{option_map}
use Rattle.lisp_records.specs.declared.router.RouterId.{RouterId}
use Rattle.lisp_records.specs.Address.{PrefixValue}
use Rattle.lisp_records.specs.Row.{RowValue, is_alive}
use Rattle.lisp_lookup.specs.Table.{row_at, DropsDead}
use Rattle.lisp_policy.specs.Configuration.{ConfigValue, RouterEntryValue}
use Rattle.lisp_etr.specs.Etr.{EtrState}
use Rattle.lisp_server.specs.Server.{ServerState}
use Rattle.lisp_refinement.specs.Nodes.{up_in}
use Rattle.lisp_refinement.specs.World.{ServerNodeState, RouterNodeState, WorldState}
use Rattle.lisp_refinement.specs.Events.{ExpiresNode}
use Rattle.lisp_turns.specs.declared.node_core.NodeCore.{NodeCore}
use Rattle.lisp_turns.specs.declared.node_core.NodeCore.TheVariants as cores

pub data NodeState : Type 0 where
  Server : ServerNodeState → NodeState
  Router : RouterNodeState → NodeState

-- the core of a node, which its users ask; of a router that is down there is none
pub data CoreState : Type 0 where
  ServerCore : ServerState → CoreState
  RouterCore : Option EtrState → CoreState

abbrev pub core_of : NodeState → CoreState
core_of (Server n) = ServerCore n.core
core_of (Router n) = RouterCore (up_in n.core)

abbrev pub core_value : NodeCore → CoreState
core_value (cores.Server core) = ServerCore core.now
core_value (cores.Router core) = RouterCore (option_map (λ etr. etr.now) core)

-- the node has this number in a network: Map-Servers first, then routers
abbrev pub HasNode : WorldState → ℕ → NodeState → Type 0
HasNode w number (Server n) = slice_get w.servers number ≡ Some n
HasNode w number (Router n) = (place : ℕ) × (number ≡ length w.servers + place) × (slice_get w.routers place ≡ Some n)

-- the network with this node in the place of the one with the number
abbrev pub with_node : WorldState → ℕ → NodeState → WorldState
with_node w number (Server n) = record w { servers = slice_set w.servers number n }
with_node w number (Router n) = record w { routers = slice_set w.routers (number - length w.servers) n }

-- where a router is up, it keeps rounds for each of its Map-Servers
abbrev pub HasRounds : RouterNodeState → Type 0
HasRounds n = (etr : EtrState) → up_in n.core ≡ Some etr → length etr.rounds ≡ length n.servers

-- the number is that of such a node in a configuration, and the router registers with the Map-Servers that stand there
abbrev pub IsPlaced : ConfigValue → ℕ → NodeState → Type 0
IsPlaced config number (Server n) = number < length config.servers
IsPlaced config number (Router n) = (place : ℕ) × (entry : RouterEntryValue) × (number ≡ length config.servers + place)
    × (slice_get config.routers place ≡ Some entry) × (n.servers ≡ entry.servers) × HasRounds n

-- time passes: a Map-Server drops the rows that are dead at a moment
abbrev pub Passes : NodeState → NodeState → ℕ → Type 0
Passes (Server old) (Server new) now = ExpiresNode old new now
Passes (Router old) (Router new) now = new ≡ old
Passes _ _ now = ⊥

-- a Map-Server holds a row of a router and an EID-Prefix, which is dead at a moment
abbrev pub IsDead : NodeState → ℕ → RouterId × PrefixValue → Type 0
IsDead (Server n) now key = (row : RowValue) × (row_at n.core.rows key.0 key.1 ≡ Some row) × (is_alive row now ≡ false)
IsDead (Router n) now key = ⊥

-- no row is dead
abbrev pub NoneDead : NodeState → ℕ → Type 0
NoneDead node now = (key : RouterId × PrefixValue) → IsDead node now key → ⊥

-- a Map-Server drops the row of a router and an EID-Prefix, which is dead at a moment, and nothing else
abbrev pub DropsRow : NodeState → NodeState → ℕ → RouterId × PrefixValue → Type 0
DropsRow (Server old) (Server new) now key = DropsDead old.core.rows new.core.rows now key
    × (new ≡ record old { core = record old.core { rows = new.core.rows } })
DropsRow _ _ now key = ⊥

-- time passes, and the rows that are dead are told, each once
pub record TellsDead (old new : NodeState) (now : ℕ) (told : List (RouterId × PrefixValue)) : Type 0 where
  pub passes : Passes old new now
  pub each : (key : RouterId × PrefixValue) → Contains told key ↔ IsDead old now key
  pub once : AllPairs (λ a b. a ≢ b) told
