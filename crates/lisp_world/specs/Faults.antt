-- A network's faults: what keeps it from taking an event.
use Rattle.std.specs.Prelude.{◌≡◌, ◌<◌, ℕ, ◌+◌, ◌&&◌, ◌||◌, nat_le, nat_lt, not, is_none, is_some, Bool, List, length, slice_get, Option, Some, None, Result, Ok, Err, IfErr, if◌then◌else◌}
use Rattle.std.specs.Option.{option_or, option_and_then}
use Rattle.lisp_records.specs.Moment.{max_moment}
use Rattle.lisp_admission.specs.Checks.{secret_at as known_secret}
use Rattle.lisp_model.specs.Trace.{EventValue}
use Rattle.lisp_model.specs.declared.event.Event.TheVariants as events
use Rattle.lisp_refinement.specs.World.{UsedKeysState, is_used, RouterNodeState, WorldState}
use Rattle.lisp_refinement.specs.Nodes.{router_at}
use Rattle.lisp_model.specs.declared.world_fault.WorldFault.{WorldFault}
use Rattle.lisp_model.specs.declared.world_fault.WorldFault.TheVariants as faults

-- no node has the number; a Map-Server has it
abbrev pub is_missing : WorldState → ℕ → Bool
is_missing w node = nat_le (length w.addresses) node

abbrev pub is_server : WorldState → ℕ → Bool
is_server w node = nat_lt node (length w.servers)

-- the place of a router among the routers
abbrev pub IsRouterPlace : WorldState → ℕ → ℕ → Type 0
IsRouterPlace w router place = (router ≡ length w.servers + place) × (place < length w.routers)

-- a router used the key since its store was lost last, or before; only before
abbrev pub used_ever : ℕ → UsedKeysState → Bool
used_ever key used = is_used used.since_loss key || is_used used.before_loss key

abbrev pub used_before_loss : ℕ → UsedKeysState → Bool
used_before_loss key used = is_used used.before_loss key

-- a router's site has no such key, or the router used it
abbrev pub key_fault : WorldState → ℕ → (UsedKeysState → Bool) → RouterNodeState → Option WorldFault
key_fault w key was_used node =
    if is_none (known_secret w.sites node.me.site key) then Some faults.UnknownKey
    else if was_used node.used then Some faults.KeyUsed
    else None

-- the fault of an event: of one node; of a Map-Server; of a router; of a router and a key; of a router and a Map-Server; of a
-- restart; of a datagram; of time
abbrev pub node_fault : WorldState → ℕ → Option WorldFault
node_fault w node = if is_missing w node then Some faults.NoNode else None

abbrev pub server_fault : WorldState → ℕ → Option WorldFault
server_fault w server =
    if is_missing w server then Some faults.NoNode
    else if not (is_server w server) then Some faults.WrongKind
    else None

abbrev pub router_fault : WorldState → ℕ → Option WorldFault
router_fault w router =
    if is_missing w router then Some faults.NoNode
    else if is_server w router then Some faults.WrongKind
    else None

abbrev pub router_key_fault : WorldState → ℕ → ℕ → (UsedKeysState → Bool) → Option WorldFault
router_key_fault w router key was_used =
    option_or (router_fault w router) (option_and_then (key_fault w key was_used) (router_at w router))

-- the place of a router whose site has a key, and its secret
pub record IsPlaceWithKey (w : WorldState) (router key place : ℕ) (secret : List ℕ) : Type 0 where
  pub is_place : IsRouterPlace w router place
  pub none : router_fault w router ≡ None
  pub node : RouterNodeState
  pub there : slice_get w.routers place ≡ Some node
  pub known : known_secret w.sites node.me.site key ≡ Some secret

-- there is none, whatever keys a router used
abbrev pub RefusesKey : WorldState → ℕ → ℕ → WorldFault → Type 0
RefusesKey w router key why = (was_used : UsedKeysState → Bool) → router_key_fault w router key was_used ≡ Some why

abbrev pub pair_fault : WorldState → ℕ → ℕ → Option WorldFault
pair_fault w router server =
    if is_missing w router || is_missing w server then Some faults.NoNode
    else if is_server w router || not (is_server w server) then Some faults.WrongKind
    else None

abbrev pub restart_fault : {X : Type 0} → WorldState → ℕ → Option X → Option WorldFault
restart_fault w node db =
    if is_missing w node then Some faults.NoNode
    else if is_server w node && is_some db then Some faults.WrongKind
    else None

abbrev pub datagram_fault : WorldState → ℕ → Option WorldFault
datagram_fault w k = if nat_le (length w.bag) k then Some faults.NoDatagram else None

abbrev pub tick_fault : WorldState → ℕ → Option WorldFault
tick_fault w ms = if nat_lt max_moment (w.clock + ms) then Some faults.Clock else None

abbrev pub fault_of : WorldState → EventValue → Option WorldFault
fault_of w (events.Change router db) = router_fault w router
fault_of w (events.Send router server part fate) = pair_fault w router server
fault_of w (events.Deliver k fate) = datagram_fault w k
fault_of w (events.Junk to from bytes) = node_fault w to
fault_of w (events.Tick ms) = tick_fault w ms
fault_of w (events.Restart node pick db) = restart_fault w node db
fault_of w (events.Rotate router key fate) = router_key_fault w router key (used_before_loss key)
fault_of w (events.Lose router key db) = router_key_fault w router key (used_ever key)
fault_of w (events.Notice server router fate) = pair_fault w router server
fault_of w (events.Resend server router) = pair_fault w router server
fault_of w (events.Reload server sites) = server_fault w server

-- an event that has a fault is refused with it; another may be refused for want of memory alone
abbrev pub Faults : {X : Type 0} → Option WorldFault → Result X WorldFault → Type 0
Faults (Some fault) result = result ≡ Err fault
Faults None result = IfErr result (λ fault. fault ≡ faults.OutOfMemory)

-- the refusal of a call that takes no memory
abbrev pub refusal_of : {X : Type 0} → Result X WorldFault → Option WorldFault
refusal_of (Ok x) = None
refusal_of (Err fault) = Some fault
