-- A running network, as contracts see it: its nodes with their stores, its clock, and the datagrams that were sent.
use Rattle.std.specs.Prelude.{◌≡◌, ℕ, ◌<◌, ◌==◌, ◌||◌, Bool, false, List, slice_index_or}
use Rattle.lisp_records.specs.declared.address.Addr.{Addr}
use Rattle.lisp_records.specs.declared.router.RouterId.{RouterId}
use Rattle.lisp_records.specs.Record.{MapRecordValue}
use Rattle.lisp_policy.specs.Site.{SiteValue}
use Rattle.lisp_nonces.specs.Store.{StoreState}
use Rattle.lisp_etr.specs.Config.{EtrConfigValue}
use Rattle.lisp_etr.specs.Etr.{EtrState}
use Rattle.lisp_server.specs.Server.{ServerState}

-- a datagram as it is kept
pub record DatagramValue : Type 0 where
  pub from : Addr
  pub to : Addr
  pub bytes : List ℕ

-- a Map-Server with its store, and the moment, in ms, at which its life began
pub record ServerNodeState : Type 0 where
  pub core : ServerState
  pub store : StoreState
  pub started : ℕ

-- a router: up, or down with its configuration and its database
pub data RouterCoreState : Type 0 where
  Up : EtrState → RouterCoreState
  Down : EtrConfigValue → List MapRecordValue → RouterCoreState

-- by Key ID, the keys that a router was started under or went over to, a start that was refused counting: those since its
-- store was lost last, and those before that
pub record UsedKeysState : Type 0 where
  pub since_loss : List Bool
  pub before_loss : List Bool

-- how many Key IDs there are
abbrev pub key_count : ℕ
key_count = 256

abbrev pub is_used : List Bool → ℕ → Bool
is_used used key = slice_index_or used key false

-- the router goes over to a key
pub record UsesKey (old new : UsedKeysState) (key : ℕ) : Type 0 where
  pub since_loss : (k : ℕ) → k < key_count → is_used new.since_loss k ≡ (k == key || is_used old.since_loss k)
  pub before_loss : new.before_loss ≡ old.before_loss

-- its store is lost, and it is to start under a key
pub record UsesKeyAfterLoss (old new : UsedKeysState) (key : ℕ) : Type 0 where
  pub since_loss : (k : ℕ) → k < key_count → is_used new.since_loss k ≡ (k == key)
  pub before_loss : (k : ℕ) → k < key_count
      → is_used new.before_loss k ≡ (is_used old.since_loss k || is_used old.before_loss k)

-- a router with its store: who it is, the numbers of its Map-Servers in its order, and its keys
pub record RouterNodeState : Type 0 where
  pub me : RouterId
  pub servers : List ℕ
  pub used : UsedKeysState
  pub core : RouterCoreState
  pub store : StoreState

-- the sites; the addresses of the nodes, Map-Servers first; the moment, in ms; what was sent; the nodes
pub record WorldState : Type 0 where
  pub sites : List SiteValue
  pub addresses : List Addr
  pub clock : ℕ
  pub bag : List DatagramValue
  pub servers : List ServerNodeState
  pub routers : List RouterNodeState
