-- A router of a network, up or down, as contracts see it.
use Rattle.std.specs.Prelude.{◌≡◌, ℕ, ◌<◌, ◌||◌, Bool, true, false, List, replicate, slice_set}
use Rattle.lisp_records.specs.Record.{MapRecordValue}
use Rattle.lisp_nonces.specs.Store.{StoreState}
use Rattle.lisp_etr.specs.Config.{EtrConfigValue, with_key}
use Rattle.lisp_refinement.specs.Calls.{config_of, database_of}
use Rattle.lisp_nodes.specs.declared.router_core.RouterCore.{RouterCore as DeclaredCore}
use Rattle.lisp_nodes.specs.declared.router_core.RouterCore.TheVariants as cores
use Rattle.lisp_refinement.specs.World.{RouterCoreState, RouterNodeState, Up, Down, UsedKeysState, key_count, is_used}

abbrev pub core_of : {A : Type 0} → DeclaredCore A → RouterCoreState
core_of (cores.Up etr) = Up etr
core_of (cores.Down config database) = Down config database

-- the keys of a router that was started under one and no other
abbrev pub first_used : ℕ → UsedKeysState
first_used key = record {
  since_loss = slice_set (replicate key_count false) key true;
  before_loss = replicate key_count false;
}

-- keys that count as used are added to others
abbrev pub AddsAll : List Bool → List Bool → List Bool → Type 0
AddsAll old more new = (k : ℕ) → k < key_count → is_used new k ≡ (is_used more k || is_used old k)

-- a router that is down, over its store
abbrev pub down_over : List ℕ → EtrConfigValue → List MapRecordValue → StoreState → RouterNodeState
down_over servers config database store =
    record {
      me = config.me;
      servers = servers;
      used = first_used config.key_id;
      core = Down config database;
      store = store;
    }

-- a router that stopped and has another key to start under
abbrev pub stopped_under : RouterNodeState → ℕ → List ℕ → RouterNodeState
stopped_under node key secret =
    record node { core = Down (with_key (config_of node.core) key secret) (database_of node.core) }
