-- How a network is made: its nodes over their stores before the routers start, and routers that start.
use Rattle.std.specs.Prelude.{◌≡◌, ◌≢◌, ◌⊎◌, ◌<◌, ◌≤◌, ℕ, ◌+◌, ◌-◌, ◌^◌, true, List, [], ◌∷◌, ◌++◌, length, map, slice_get, slice_index_or, Some, None, Result, Ok, IfErr, IsErrOf}
use Rattle.lisp_records.specs.declared.address.Addr.{Addr}
use Rattle.lisp_records.specs.declared.address.Addr.TheVariants.{V4}
use Rattle.lisp_policy.specs.Configuration.{ConfigValue, RouterEntryValue}
use Rattle.lisp_nonces.specs.Store.{StoreState, Rose, Proceeds}
use Rattle.lisp_nonces.specs.declared.fault.StoreFault.{StoreFault}
use Rattle.lisp_nonces.specs.declared.fault.StoreFault.TheVariants as faults
use Rattle.lisp_etr.specs.Config.{EtrConfigValue}
use Rattle.lisp_etr.specs.declared.start_fault.StartFault.{StartFault}
use Rattle.lisp_etr.specs.declared.start_fault.StartFault.TheVariants as start_faults
use Rattle.lisp_model.specs.Trace.{etr_config_of}
use Rattle.lisp_refinement.specs.World.{ServerNodeState, RouterNodeState}
use Rattle.lisp_refinement.specs.Nodes.{fresh_server}
use Rattle.lisp_refinement.specs.Calls.{NodeStarts}
use Rattle.lisp_nodes.specs.Cores.{down_over}
use Rattle.lisp_model.specs.declared.world_fault.WorldFault.{WorldFault}
use Rattle.lisp_model.specs.declared.world_fault.WorldFault.TheVariants.{Start}
use Rattle.lisp_model.specs.declared.world_fault.WorldFault.TheVariants as world_faults
use Rattle.lisp_world.specs.Openings.{repeats}
use Rattle.lisp_world.specs.Quiet.{AllCalm}

-- a Map-Server of a configuration that holds nothing, over its store, and whose life began at the moment 0
abbrev pub server_over : ConfigValue → StoreState → ServerNodeState
server_over c store = record { core = fresh_server c.sites; store = store; started = 0 }

-- a router of a configuration that is down, over its store
abbrev pub router_over : ConfigValue → RouterEntryValue → StoreState → RouterNodeState
router_over c r store = down_over r.servers (etr_config_of c r) r.database store

-- so is the one at a place of the configuration
abbrev pub IsRouterOver : ConfigValue → ℕ → StoreState → RouterNodeState → Type 0
IsRouterOver c place store n =
    (r : RouterEntryValue) × (slice_get c.routers place ≡ Some r) × (n ≡ router_over c r store)

-- a router is configured as the one at a place of the configuration
abbrev pub IsConfiguredAt : ConfigValue → ℕ → EtrConfigValue → Type 0
IsConfiguredAt c place settings =
    (r : RouterEntryValue) × (slice_get c.routers place ≡ Some r) × (settings ≡ etr_config_of c r)

-- the addresses at these places
abbrev pub addresses_at : List Addr → List ℕ → List Addr
addresses_at addresses places = map (λ place. slice_index_or addresses place (V4 [])) places

-- where there are all Map-Servers of the configuration, it has a router more
abbrev pub HasNodeLeft : ConfigValue → List ServerNodeState → List RouterNodeState → Type 0
HasNodeLeft c servers routers = length c.servers ≤ length servers → length routers < length c.routers

-- one more node over its store: a Map-Server as long as there are more of them, else a router
abbrev pub AddsNode : ConfigValue → StoreState → (made servers : List ServerNodeState)
    → (down routers : List RouterNodeState) → Type 0
AddsNode c s made servers down routers =
    ((length made < length c.servers) × (routers ≡ down)
    × ((n : ServerNodeState) × (servers ≡ made ++ n ∷ []) × (n ≡ server_over c s)))
    ⊎ ((length c.servers ≤ length made) × (servers ≡ made)
    × ((n : RouterNodeState) × (routers ≡ down ++ n ∷ []) × IsRouterOver c (length down) s n))

-- each Map-Server holds nothing, over its store
abbrev pub AreServers : ConfigValue → List StoreState → List ServerNodeState → Type 0
AreServers c stores servers = (k : ℕ) (n : ServerNodeState) → slice_get servers k ≡ Some n
    → (s : StoreState) × (slice_get stores k ≡ Some s) × (n ≡ server_over c s)

-- each router is down, over its store
abbrev pub AreRouters : ConfigValue → List StoreState → List RouterNodeState → Type 0
AreRouters c stores routers = (k : ℕ) (n : RouterNodeState) → slice_get routers k ≡ Some n
    → (s : StoreState) × (slice_get stores (length c.servers + k) ≡ Some s) × IsRouterOver c k s n

-- the nodes of a configuration before the routers start
pub record AreNodes (c : ConfigValue) (stores : List StoreState) (servers : List ServerNodeState)
    (routers : List RouterNodeState) : Type 0 where
  pub server_count : length servers ≡ length c.servers
  pub router_count : length routers ≡ length c.routers
  pub are_servers : AreServers c stores servers
  pub are_routers : AreRouters c stores routers

-- so are these, over stores as they are seen
abbrev pub AreMade : {X : Type 0} → ConfigValue → (X → StoreState) → List X → List ServerNodeState
    → List RouterNodeState → Type 0
AreMade c seen stores servers routers = AreNodes c (map seen stores) servers routers

-- a router started at a moment
pub record StartsAt (old new : RouterNodeState) (now : ℕ) : Type 0 where
  pub me : new.me ≡ old.me
  pub servers : new.servers ≡ old.servers
  pub used : new.used ≡ old.used
  pub starts : NodeStarts old new None now (Ok tt)

-- as its network begins
abbrev pub HasStarted : RouterNodeState → RouterNodeState → Type 0
HasStarted old new = StartsAt old new 0

-- so did each router
pub record HaveStarted (old new : List RouterNodeState) : Type 0 where
  pub count : length new ≡ length old
  pub each : (k : ℕ) (n : RouterNodeState) → slice_get new k ≡ Some n
      → (m : RouterNodeState) × (slice_get old k ≡ Some m) × HasStarted m n

-- so did each router before a place
abbrev pub HaveStartedBefore : ℕ → (old new : List RouterNodeState) → Type 0
HaveStartedBefore place old new = (k : ℕ) → k < place
    → (m n : RouterNodeState) × (slice_get old k ≡ Some m) × (slice_get new k ≡ Some n) × HasStarted m n

-- each router with a number below this one started over its store
abbrev pub HaveStartedBelow : ℕ → ConfigValue → List StoreState → Type 0
HaveStartedBelow node c stores = (place : ℕ) → length c.servers + place < node
    → (before : StoreState) × (slice_get stores (length c.servers + place) ≡ Some before)
    × (down n : RouterNodeState) × IsRouterOver c place before down × HasStarted down n

-- a router didn't start over its store: by the store's device only where that failed, and for want of memory only
-- where memory, or that of its store, may be refused
pub record IsUnstarted (before after : StoreState) (why : StartFault) (Refused StoreRefused : Type 0) : Type 0 where
  pub proceeds : Proceeds before after
  pub cause : (f : StoreFault) → why ≡ start_faults.Store f → f ≢ faults.OutOfMemory → Rose before after
  pub memory : why ≡ start_faults.OutOfMemory → Refused
  pub store_memory : why ≡ start_faults.Store faults.OutOfMemory → StoreRefused

-- so it is with this router
abbrev pub StaysDown : RouterNodeState → RouterNodeState → Type 0 → Type 0 → StartFault → Type 0
StaysDown old new Refused StoreRefused why = IsUnstarted old.store new.store why Refused StoreRefused

-- one of these routers, which are numbered from a number on, didn't start, and each before it did
pub record IsStartFault (first : ℕ) (old new : List RouterNodeState) (Refused StoreRefused : Type 0)
    (fault : WorldFault) : Type 0 where
  pub place : ℕ
  pub node : RouterNodeState
  pub there : slice_get old place ≡ Some node
  pub earlier : HaveStartedBefore place old new
  pub why : StartFault
  pub is : fault ≡ Start (first + place) why
  pub after : StoreState
  pub unstarted : IsUnstarted node.store after why Refused StoreRefused

-- why no network is made of a configuration over stores: nodes are alike; want of memory; or the first router, by its
-- number, that doesn't start over its store
abbrev pub IsNewFault : ConfigValue → List StoreState → Type 0 → Type 0 → WorldFault → Type 0
IsNewFault c stores Refused StoreRefused world_faults.Repeated = repeats c ≡ true
IsNewFault c stores Refused StoreRefused world_faults.OutOfMemory = Refused
IsNewFault c stores Refused StoreRefused (world_faults.Start node why) =
    (length c.servers ≤ node) × (before : StoreState) × (slice_get stores node ≡ Some before) × (after : StoreState)
    × IsUnstarted before after why Refused StoreRefused × HaveStartedBelow node c stores
IsNewFault c stores Refused StoreRefused _ = ⊥

-- so it is where none is made over stores as they are seen
abbrev pub FailsOver : {X Y : Type 0} → ConfigValue → (X → StoreState) → List X → Type 0 → Type 0 → Result Y WorldFault
    → Type 0
FailsOver c seen stores Refused StoreRefused result = IfErr result (IsNewFault c (map seen stores) Refused StoreRefused)

-- a router doesn't start for this reason only where that may be
abbrev pub FailsToStartOnlyIf : {Y : Type 0} → Result Y WorldFault → StartFault → Type 0 → Type 0
FailsToStartOnlyIf result why May = (node : ℕ) → IsErrOf result (Start node why) → May

-- the count of each store's faults is below its end
abbrev pub AllBelowEnd : List StoreState → Type 0
AllBelowEnd stores = (k : ℕ) (s : StoreState) → slice_get stores k ≡ Some s → s.faults < 2 ^ 64 - 1

-- why none is made over calm stores: nodes are alike, or want of memory
abbrev pub IsCalmFault : Type 0 → Type 0 → WorldFault → Type 0
IsCalmFault Refused StoreRefused world_faults.Repeated = Unit {0}
IsCalmFault Refused StoreRefused world_faults.OutOfMemory = Refused
IsCalmFault Refused StoreRefused (world_faults.Start _ start_faults.OutOfMemory) = Refused
IsCalmFault Refused StoreRefused (world_faults.Start _ (start_faults.Store faults.OutOfMemory)) = StoreRefused
IsCalmFault Refused StoreRefused _ = ⊥

-- so it is where none is made, over calm stores whose counts are below their ends
abbrev pub FailsCalm : {Y : Type 0} → List StoreState → Type 0 → Type 0 → Result Y WorldFault → Type 0
FailsCalm stores Refused StoreRefused result =
    AllCalm stores → AllBelowEnd stores → IfErr result (IsCalmFault Refused StoreRefused)
