-- Trace: what the nodes of a network did, event by event, and what their stores then show. Nodes are
-- numbered: servers, then routers, in the order of the configuration.
use Rattle.std.specs.Prelude.{ℕ, ◌+◌, ◌-◌, ◌==◌, ◌&&◌, nat_le, nat_lt, Bool, true, false, List, [], ◌∷◌, ◌++◌, length, map, position, slice_index_or, Option, Some, if◌then◌else◌}
use Rattle.std.specs.FinMap.{empty}
use Rattle.std.specs.List.{list_any}
use Rattle.std.specs.Option.{unwrap_or}
use Rattle.lisp_records.specs.declared.address.Addr.{Addr}
use Rattle.lisp_records.specs.declared.address.Addr.TheVariants.{V4}
use Rattle.lisp_records.specs.Address.{addr_eq}
use Rattle.lisp_records.specs.Record.{MapRecordValue}
use Rattle.lisp_policy.specs.Site.{SiteValue}
use Rattle.lisp_policy.specs.Configuration.{ConfigValue, RouterEntryValue}
use Rattle.lisp_nonces.specs.Kept.{Kept}
pub use Rattle.lisp_nonces.specs.declared.fate.Fate.{Fate}
use Rattle.lisp_nonces.specs.declared.fate.Fate.TheVariants.{Done}
use Rattle.lisp_etr.specs.Config.{EtrConfigValue}
use Rattle.lisp_admission.specs.Checks.{secret_at as known_secret}
pub use Rattle.lisp_model.specs.declared.event.Event.{Event}
use Rattle.lisp_model.specs.declared.event.Event.TheVariants as events
pub use Rattle.lisp_model.specs.declared.line.Line.{Line}
use Rattle.lisp_model.specs.declared.line.Line.TheVariants as lines
pub use Rattle.lisp_model.specs.declared.refusal.Refusal.{Refusal}

-- an event, wherever its parts lie in memory
abbrev pub EventValue : Type 0
EventValue = Event (Unit {0})

abbrev pub event_value : {A : Type 0} → Event A → EventValue
event_value (events.Change router db) = events.Change router db
event_value (events.Send router server part fate) = events.Send router server part fate
event_value (events.Deliver k fate) = events.Deliver k fate
event_value (events.Junk to from bytes) = events.Junk to from bytes
event_value (events.Tick ms) = events.Tick ms
event_value (events.Restart node pick db) = events.Restart node pick db
event_value (events.Rotate router key fate) = events.Rotate router key fate
event_value (events.Lose router key db) = events.Lose router key db
event_value (events.Notice server router fate) = events.Notice server router fate
event_value (events.Resend server router) = events.Resend server router
event_value (events.Reload server sites) = events.Reload server sites

-- what a store shows: its lists; how often its device failed; and whether it does what it is armed with
pub record ShownStore : Type 0 where
  pub kept : Kept
  pub faults : ℕ
  pub is_obedient : Bool

-- an event and its line; the node that acted; and what the store of that node shows afterwards
pub record Step : Type 0 where
  pub event : EventValue
  pub line : Line
  pub actor : ℕ
  pub shown : ShownStore

-- how a network begins: its configuration, and what the store of each node shows. The steps after that
-- are listed with the last one first
pub record Opening : Type 0 where
  pub config : ConfigValue
  pub stores : List ShownStore

abbrev pub is_server : ConfigValue → ℕ → Bool
is_server c node = nat_lt node (length c.servers)

abbrev pub is_router : ConfigValue → ℕ → Bool
is_router c node = nat_le (length c.servers) node && nat_lt node (length c.servers + length c.routers)

-- the addresses of the nodes, and the first node with an address
abbrev pub addresses : ConfigValue → List Addr
addresses c = map (λ s. s.address) c.servers ++ map (λ r. r.address) c.routers

abbrev pub address_at : ConfigValue → ℕ → Addr
address_at c node = slice_index_or (addresses c) node (V4 [])

abbrev pub node_at : ConfigValue → Addr → Option ℕ
node_at c address = position (λ a. addr_eq a address) (addresses c)

-- the router with a number; where there is none, one that registers nothing with nobody
abbrev pub router_at : ConfigValue → ℕ → RouterEntryValue
router_at c node = slice_index_or c.routers (node - length c.servers) (record { name = []; address = V4 []; me = record { site = 0; xtr = [] }; key_id = 0; servers = []; proxy = false; use_ttl = false; nonce_block = 1; database = []; resolve = [] })

-- the secret of a key of a site
abbrev pub secret_at : List SiteValue → ℕ → ℕ → List ℕ
secret_at sites site key = unwrap_or (known_secret sites site key) []

-- a router's settings under a key of its site
abbrev pub etr_config_under : ConfigValue → RouterEntryValue → ℕ → EtrConfigValue
etr_config_under c r key = record { me = r.me; key_id = key; secret = secret_at c.sites r.me.site key; servers = map (address_at c) r.servers; proxy = r.proxy; use_ttl = r.use_ttl; nonce_block = r.nonce_block }

-- what a router is configured with
abbrev pub etr_config_of : ConfigValue → RouterEntryValue → EtrConfigValue
etr_config_of c r = etr_config_under c r r.key_id

-- the key of a router: the last one that it went over to, or that it was to start under once its store was lost
abbrev pub key_after : EventValue → Line → ℕ → ℕ → ℕ
key_after (events.Rotate router key _) (lines.Rotated _ _) r old = if router == r then key else old
key_after (events.Lose router key _) _ r old = if router == r then key else old
key_after _ _ r old = old

-- at first the configured one
abbrev pub key : Opening → List Step → ℕ → ℕ
key o [] r = (router_at o.config r).key_id
key o (s ∷ T) r = key_after s.event s.line r (key o T r)

-- a router's key, its secret, and the rest of its settings after a trace
abbrev pub etr_config : Opening → List Step → ℕ → EtrConfigValue
etr_config o T r = etr_config_under o.config (router_at o.config r) (key o T r)

-- the sites of a Map-Server: the last ones that it took, at first those of the configuration
abbrev pub sites_after : EventValue → ℕ → List SiteValue → List SiteValue
sites_after (events.Reload server new) k old = if server == k then new else old
sites_after _ k old = old

abbrev pub sites : Opening → List Step → ℕ → List SiteValue
sites o [] k = o.config.sites
sites o (s ∷ T) k = sites_after s.event k (sites o T k)

-- the server is one of those that the router registers with
abbrev pub is_listed : ConfigValue → ℕ → ℕ → Bool
is_listed c router server = list_any (λ s. s == server) (router_at c router).servers

-- what a node's store shows
abbrev pub shown_store : Opening → List Step → ℕ → ShownStore
shown_store o [] node = slice_index_or o.stores node (record { kept = empty; faults = 0; is_obedient = false })
shown_store o (s ∷ T) node = if s.actor == node then s.shown else shown_store o T node

-- what becomes of the calls that an event makes of a store
abbrev pub fate_of : EventValue → Fate
fate_of (events.Send router server part fate) = fate
fate_of (events.Deliver k fate) = fate
fate_of (events.Notice server router fate) = fate
fate_of (events.Rotate router key fate) = fate
fate_of _ = Done

-- the moment, in ms: the sum of the ticks
abbrev pub time_of : EventValue → ℕ
time_of (events.Tick ms) = ms
time_of _ = 0

abbrev pub clock : List Step → ℕ
clock [] = 0
clock (s ∷ T) = clock T + time_of s.event

-- a router is down after a restart that was refused, also one after its store was lost, until one succeeds
abbrev pub up_after : EventValue → Line → ℕ → Bool → Bool
up_after (events.Restart _ _ _) (lines.Refused node _) r old = if node == r then false else old
up_after (events.Restart _ _ _) (lines.Restarted node) r old = if node == r then true else old
up_after (events.Lose _ _ _) (lines.Refused node _) r old = if node == r then false else old
up_after (events.Lose _ _ _) (lines.Emptied node _) r old = if node == r then true else old
up_after _ _ r old = old

abbrev pub is_up : List Step → ℕ → Bool
is_up [] r = true
is_up (s ∷ T) r = up_after s.event s.line r (is_up T r)

-- a router's database: the last one that it was given while it was up or by a restart, or that of the
-- configuration
abbrev pub database_after : EventValue → Line → ℕ → List MapRecordValue → List MapRecordValue
database_after (events.Change router db) (lines.Changed _ _) r old = if router == r then db else old
database_after (events.Restart node _ (Some db)) _ r old = if node == r then db else old
database_after (events.Lose node _ (Some db)) _ r old = if node == r then db else old
database_after _ _ r old = old

abbrev pub database : Opening → List Step → ℕ → List MapRecordValue
database o [] r = (router_at o.config r).database
database o (s ∷ T) r = database_after s.event s.line r (database o T r)
