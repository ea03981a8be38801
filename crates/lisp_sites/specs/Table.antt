-- The configuration's table: its fields, each with its name, its key, its form and its default, and
-- the entries that a document has, read in order, or the first fault.
use Rattle.std.specs.Prelude.{◌≡◌, ℕ, ◌+◌, Bool, true, false, ◌==◌, ◌++◌, ◌||◌, List, [], ◌∷◌, Option, Some, None, Result, Ok, Err, codes, position, is_some, ok_or, option_and_then, if◌then◌else◌}
use Rattle.std.specs.List.{list_any}
use Rattle.std.specs.Result.{result_ok}
use Rattle.std.specs.Str.{bytes_eq}
use Rattle.toml.specs.Data.{Data, table, Items, no_items, item, Members, get, as_str, as_bool, as_array, as_table}
use Rattle.lisp_records.specs.declared.address.Addr.{Addr}
use Rattle.lisp_records.specs.declared.router.RouterId.{RouterId}
use Rattle.lisp_records.specs.Address.{PrefixValue, prefix_eq}
use Rattle.lisp_records.specs.Record.{MapRecordValue}
use Rattle.lisp_records.specs.Result.{◌>>=◌}
use Rattle.lisp_records.specs.Database.{database_of}
use Rattle.lisp_texts.specs.Reading.{if_so, address_of, prefix_of, record_text_of}
use Rattle.lisp_texts.specs.Form.{site_id_of, xtr_of, secret_text_of}
use Rattle.lisp_sites.specs.declared.field.Field.{Field}
use Rattle.lisp_sites.specs.declared.field.Field.TheVariants as fields
use Rattle.lisp_sites.specs.declared.fault.ConfigFault.{ConfigFault}
use Rattle.lisp_sites.specs.declared.place.Place.{Place}
use Rattle.lisp_sites.specs.declared.place.PlacedFault.{PlacedFault}
use Rattle.lisp_sites.specs.declared.fault.ConfigFault.TheVariants.{Toml, Missing, BadValue, Repeated, OutOfMemory}
use Rattle.lisp_policy.specs.declared.site.SitePrefix.{SitePrefix}
use Rattle.lisp_policy.specs.Limits.{LimitsValue, lists_router, is_at_most}
use Rattle.lisp_policy.specs.Site.{SiteKeyValue, SiteValue, site_of, has_key}
use Rattle.lisp_policy.specs.Configuration.{ServerEntryValue, RouterEntryValue, ConfigValue}
use Rattle.lisp_sites.specs.Form.{name_of, text_as, byte_as, nonce_block_as, minutes_as, jump_as, held_as}

-- a field that has to be there: its name, its key in the entry, and the form of its value; Missing
-- where it is absent, BadValue where it isn't of the form
abbrev pub required_at : {X : Type 0} → Field → (Data → Option X) → Option Data → Result X ConfigFault
required_at name form None = Err (Missing name)
required_at name form (Some v) = ok_or (form v) (BadValue name)

abbrev pub required : {X : Type 0} → Field → List ℕ → (Data → Option X) → Data → Result X ConfigFault
required name key form entry = required_at name form (get key entry)

-- a field that a default stands for where it is absent
abbrev pub optional_at : {X : Type 0} → Field → (Data → Option X) → X → Option Data → Result X ConfigFault
optional_at name form default None = Ok default
optional_at name form default (Some v) = ok_or (form v) (BadValue name)

abbrev pub optional : {X : Type 0} → Field → List ℕ → (Data → Option X) → X → Data → Result X ConfigFault
optional name key form default entry = optional_at name form default (get key entry)

-- an array; none is as an empty one
abbrev pub items : Field → List ℕ → Data → Result Items ConfigFault
items name key entry = optional name key as_array no_items entry

-- no two alike: Repeated where an earlier one is the same
abbrev pub fresh : {X : Type 0} → Field → Bool → X → Result X ConfigFault
fresh name is_taken x = if is_taken then Err (Repeated name) else Ok x

-- an entry of an array of tables is a table
abbrev pub as_entry : Field → Data → Result Data ConfigFault
as_entry name d = if is_some (as_table d) then Ok d else Err (BadValue name)

-- a fault that is in no entry, or not known to be in one
abbrev pub nowhere : Place
nowhere = record { entry = None; part = None }

abbrev pub placed_nowhere : {X : Type 0} → Result X ConfigFault → Result X PlacedFault
placed_nowhere (Ok x) = Ok x
placed_nowhere (Err fault) = Err (record { fault = fault; place = nowhere })

-- a fault in an entry of an array: the entry is its place, and the entry that was its place is the part of it
abbrev pub within : Field → ℕ → PlacedFault → PlacedFault
within array number f = record { fault = f.fault; place = record { entry = Some (record { array = array; number = number }); part = f.place.entry } }

abbrev pub in_entry : {X : Type 0} → Field → ℕ → Result X PlacedFault → Result X PlacedFault
in_entry array number (Ok x) = Ok x
in_entry array number (Err f) = Err (within array number f)

-- the items of an array from a number on, read one after the other, each knowing those before it
unfoldable pub each : {X : Type 0} → Field → (List X → Data → Result X PlacedFault) → List X → ℕ → Items → Result (List X) PlacedFault
each array read before number no_items = Ok before
each array read before number (item d ds) = do
  x ← in_entry array number (read before d)
  each array read (before ++ x ∷ []) (number + 1) ds

-- one more item, behind those before it
abbrev pub one_more : {X : Type 0} → (List X → Data → Result X PlacedFault) → List X → Data → Result (List X) PlacedFault
one_more read before d = read before d >>= λ x. Ok (before ++ x ∷ [])

-- the items of an array, none where it is absent, read so
abbrev pub each_item : {X : Type 0} → Field → List ℕ → (List X → Data → Result X PlacedFault) → List X → Data → Result (List X) PlacedFault
each_item name key read before d = placed_nowhere (items name key d) >>= each name read before 1

-- an item that has no entries of its own
abbrev pub flat : {X : Type 0} → (List X → Data → Result X ConfigFault) → List X → Data → Result X PlacedFault
flat read before d = placed_nowhere (read before d)

-- site.key: id, no two alike in a site; secret
abbrev pub fresh_key_id : List SiteKeyValue → Data → Result ℕ ConfigFault
fresh_key_id before d = required fields.SiteKeyId (codes "id") byte_as d >>= λ id. fresh fields.SiteKeyId (has_key before id) id

unfoldable pub key_at : List SiteKeyValue → Data → Result SiteKeyValue ConfigFault
key_at before d = do
  entry ← as_entry fields.SiteKey d
  id ← fresh_key_id before entry
  secret ← required fields.SiteKeySecret (codes "secret") (text_as secret_text_of) entry
  Ok (record { id = id; secret = secret })

-- site.prefix: eid, no two alike in a site; more_specifics
abbrev pub has_eid : List SitePrefix → PrefixValue → Bool
has_eid prefixes eid = list_any (λ p. prefix_eq p.eid eid) prefixes

abbrev pub fresh_eid : List SitePrefix → Data → Result PrefixValue ConfigFault
fresh_eid before d = required fields.SitePrefixEid (codes "eid") (text_as prefix_of) d >>= λ eid. fresh fields.SitePrefixEid (has_eid before eid) eid

unfoldable pub prefix_at : List SitePrefix → Data → Result SitePrefix ConfigFault
prefix_at before d = do
  entry ← as_entry fields.SitePrefix d
  eid ← fresh_eid before entry
  more_specifics ← optional fields.SitePrefixMoreSpecifics (codes "more_specifics") as_bool false entry
  Ok (record { eid = eid; more_specifics = more_specifics })

-- prefixes in a list, of any addresses
abbrev pub listed_prefix_at : Field → List PrefixValue → Data → Result PrefixValue ConfigFault
listed_prefix_at name before d = ok_or (text_as prefix_of d) (BadValue name)

-- the array of a limit: none where it is absent. One that is there and empty would say the opposite of what it does
abbrev pub some_items : Items → Option Items
some_items no_items = None
some_items (item d ds) = Some (item d ds)

abbrev pub limit_items : Field → List ℕ → Data → Result Items ConfigFault
limit_items name key entry = optional name key (λ d. option_and_then some_items (as_array d)) no_items entry

-- site.routers: xTR-IDs, no two alike in a site
abbrev pub listed_xtr : Data → Result (List ℕ) ConfigFault
listed_xtr d = ok_or (text_as xtr_of d) (BadValue fields.SiteRouters)

abbrev pub xtr_at : List (List ℕ) → Data → Result (List ℕ) ConfigFault
xtr_at before d = listed_xtr d >>= λ xtr. fresh fields.SiteRouters (lists_router before xtr) xtr

abbrev pub site_routers_of : Data → Result (List (List ℕ)) PlacedFault
site_routers_of entry = placed_nowhere (limit_items fields.SiteRouters (codes "routers") entry) >>= each fields.SiteRouters (flat xtr_at) [] 1

-- site.from: prefixes of source addresses
abbrev pub site_from_of : Data → Result (List PrefixValue) PlacedFault
site_from_of entry = placed_nowhere (limit_items fields.SiteFrom (codes "from") entry) >>= each fields.SiteFrom (flat (listed_prefix_at fields.SiteFrom)) [] 1

-- site.least_ttl; site.most_ttl, which is not less
abbrev pub are_bounds : Option ℕ → Option ℕ → Bool
are_bounds None most = true
are_bounds (Some least) most = is_at_most most least

unfoldable pub site_ttls_of : Data → Result (Option ℕ × Option ℕ) ConfigFault
site_ttls_of entry = do
  least ← optional fields.SiteLeastTtl (codes "least_ttl") minutes_as None entry
  most ← optional fields.SiteMostTtl (codes "most_ttl") minutes_as None entry
  if are_bounds least most then Ok (least, most) else Err (BadValue fields.SiteMostTtl)

-- site.most_jump
abbrev pub most_jump_of : Data → Result (Option ℕ) ConfigFault
most_jump_of entry = optional fields.SiteMostJump (codes "most_jump") jump_as None entry

-- site.most_routers, site.most_rows
unfoldable pub most_held_of : Data → Result (Option ℕ × Option ℕ) ConfigFault
most_held_of entry = do
  routers ← optional fields.SiteMostRouters (codes "most_routers") held_as None entry
  rows ← optional fields.SiteMostRows (codes "most_rows") held_as None entry
  Ok (routers, rows)

unfoldable pub limits_of : Data → Result LimitsValue PlacedFault
limits_of entry = do
  routers ← site_routers_of entry
  from ← site_from_of entry
  ttls ← placed_nowhere (site_ttls_of entry)
  most_jump ← placed_nowhere (most_jump_of entry)
  held ← placed_nowhere (most_held_of entry)
  Ok (record { routers = routers; from = from; least_ttl = ttls.0; most_ttl = ttls.1; most_jump = most_jump; most_routers = held.0; most_rows = held.1 })

-- site: id, no two alike; its keys; its prefixes; its limits
abbrev pub has_site : List SiteValue → ℕ → Bool
has_site sites id = list_any (λ s. s.id == id) sites

abbrev pub fresh_site_id : List SiteValue → Data → Result ℕ ConfigFault
fresh_site_id before d = required fields.SiteId (codes "id") (text_as site_id_of) d >>= λ id. fresh fields.SiteId (has_site before id) id

abbrev pub keys_of : Data → Result (List SiteKeyValue) PlacedFault
keys_of d = each_item fields.SiteKey (codes "key") (flat key_at) [] d

abbrev pub prefixes_of : Data → Result (List SitePrefix) PlacedFault
prefixes_of d = each_item fields.SitePrefix (codes "prefix") (flat prefix_at) [] d

unfoldable pub site_at : List SiteValue → Data → Result SiteValue PlacedFault
site_at before d = do
  entry ← placed_nowhere (as_entry fields.Site d)
  id ← placed_nowhere (fresh_site_id before entry)
  keys ← keys_of entry
  prefixes ← prefixes_of entry
  limits ← limits_of entry
  Ok (record { id = id; keys = keys; prefixes = prefixes; limits = limits })

-- resolve: prefixes of ITR-RLOCs
abbrev pub resolve_of : Field → Data → Result (List PrefixValue) PlacedFault
resolve_of name entry = each_item name (codes "resolve") (flat (listed_prefix_at name)) [] entry

-- server: name, no two nodes alike; address; resolve
abbrev pub has_server : List ServerEntryValue → List ℕ → Bool
has_server servers name = list_any (λ s. bytes_eq s.name name) servers

abbrev pub fresh_server_name : List ServerEntryValue → Data → Result (List ℕ) ConfigFault
fresh_server_name before d = required fields.ServerName (codes "name") (text_as name_of) d >>= λ name. fresh fields.ServerName (has_server before name) name

unfoldable pub server_at : List ServerEntryValue → Data → Result ServerEntryValue PlacedFault
server_at before d = do
  entry ← placed_nowhere (as_entry fields.Server d)
  name ← placed_nowhere (fresh_server_name before entry)
  address ← placed_nowhere (required fields.ServerAddress (codes "address") (text_as address_of) entry)
  resolve ← resolve_of fields.ServerResolve entry
  Ok (record { name = name; address = address; resolve = resolve })

-- router: name, no two nodes alike; address
abbrev pub has_router : List RouterEntryValue → List ℕ → Bool
has_router routers name = list_any (λ r. bytes_eq r.name name) routers

abbrev pub fresh_router_name : List ServerEntryValue → List RouterEntryValue → Data → Result (List ℕ) ConfigFault
fresh_router_name servers before d = required fields.RouterName (codes "name") (text_as name_of) d >>= λ name. fresh fields.RouterName (has_server servers name || has_router before name) name

unfoldable pub router_node : List ServerEntryValue → List RouterEntryValue → Data → Result (List ℕ × Addr) ConfigFault
router_node servers before d = do
  entry ← as_entry fields.Router d
  name ← fresh_router_name servers before entry
  address ← required fields.RouterAddress (codes "address") (text_as address_of) entry
  Ok (name, address)

-- site, a configured one; xtr; key, one of that site
abbrev pub router_site : List SiteValue → Data → Result SiteValue ConfigFault
router_site sites entry = required fields.RouterSite (codes "site") (λ d. option_and_then (site_of sites) (text_as site_id_of d)) entry

abbrev pub router_key : SiteValue → Data → Result ℕ ConfigFault
router_key site entry = required fields.RouterKey (codes "key") (λ d. option_and_then (λ id. if_so (has_key site.keys id) id) (byte_as d)) entry

unfoldable pub router_identity : List SiteValue → Data → Result (RouterId × ℕ) ConfigFault
router_identity sites entry = do
  site ← router_site sites entry
  xtr ← required fields.RouterXtr (codes "xtr") (text_as xtr_of) entry
  key_id ← router_key site entry
  Ok (record { site = site.id; xtr = xtr }, key_id)

-- servers: names of servers, no two alike, kept as their places
abbrev pub server_place : List ServerEntryValue → List ℕ → Option ℕ
server_place servers name = position (λ s. bytes_eq s.name name) servers

abbrev pub place_of : List ServerEntryValue → Data → Result ℕ ConfigFault
place_of servers d = ok_or (option_and_then (server_place servers) (as_str d)) (BadValue fields.RouterServers)

abbrev pub place_at : List ServerEntryValue → List ℕ → Data → Result ℕ ConfigFault
place_at servers before d = place_of servers d >>= λ place. fresh fields.RouterServers (list_any (λ p. p == place) before) place

abbrev pub places_of : List ServerEntryValue → Data → Result (List ℕ) PlacedFault
places_of servers entry = placed_nowhere (required fields.RouterServers (codes "servers") as_array entry) >>= each fields.RouterServers (flat (place_at servers)) [] 1

-- proxy, use_ttl
unfoldable pub router_flags : Data → Result (Bool × Bool) ConfigFault
router_flags entry = do
  proxy ← optional fields.RouterProxy (codes "proxy") as_bool false entry
  use_ttl ← optional fields.RouterUseTtl (codes "use_ttl") as_bool false entry
  Ok (proxy, use_ttl)

-- nonce_block
abbrev pub router_nonce_block : Data → Result ℕ ConfigFault
router_nonce_block entry = optional fields.RouterNonceBlock (codes "nonce_block") nonce_block_as 1 entry

-- records: texts of records that make a database
abbrev pub record_at : List MapRecordValue → Data → Result MapRecordValue ConfigFault
record_at before d = ok_or (text_as record_text_of d) (BadValue fields.RouterRecords)

abbrev pub as_database : List MapRecordValue → Result (List MapRecordValue) ConfigFault
as_database records = ok_or (result_ok (database_of records)) (BadValue fields.RouterRecords)

unfoldable pub database_at : Data → Result (List MapRecordValue) PlacedFault
database_at entry = do
  texts ← placed_nowhere (items fields.RouterRecords (codes "records") entry)
  records ← each fields.RouterRecords (flat record_at) [] 1 texts
  placed_nowhere (as_database records)

unfoldable pub router_at : List SiteValue → List ServerEntryValue → List RouterEntryValue → Data → Result RouterEntryValue PlacedFault
router_at sites servers before d = do
  node ← placed_nowhere (router_node servers before d)
  identity ← placed_nowhere (router_identity sites d)
  places ← places_of servers d
  flags ← placed_nowhere (router_flags d)
  nonce_block ← placed_nowhere (router_nonce_block d)
  database ← database_at d
  resolve ← resolve_of fields.RouterResolve d
  Ok (record {
    name = node.0;
    address = node.1;
    me = identity.0;
    key_id = identity.1;
    servers = places;
    proxy = flags.0;
    use_ttl = flags.1;
    nonce_block = nonce_block;
    database = database;
    resolve = resolve;
  })

-- the whole document: sites, then servers, then routers
abbrev pub sites_of : Data → Result (List SiteValue) PlacedFault
sites_of d = each_item fields.Site (codes "site") site_at [] d

abbrev pub servers_of : Data → Result (List ServerEntryValue) PlacedFault
servers_of d = each_item fields.Server (codes "server") server_at [] d

abbrev pub routers_of : List SiteValue → List ServerEntryValue → Data → Result (List RouterEntryValue) PlacedFault
routers_of sites servers d = each_item fields.Router (codes "router") (router_at sites servers) [] d

unfoldable pub configuration_of : Data → Result ConfigValue PlacedFault
configuration_of d = do
  sites ← sites_of d
  servers ← servers_of d
  routers ← routers_of sites servers d
  Ok (record { sites = sites; servers = servers; routers = routers })

-- a text that was read as a table, or is not valid TOML
abbrev pub document_of : Option Members → Result Data ConfigFault
document_of None = Err Toml
document_of (Some ms) = Ok (table ms)

-- the configuration that a text says, as `toml` reads it, or its first fault with the place
abbrev pub placed_config_of : Option Members → Result ConfigValue PlacedFault
placed_config_of read = placed_nowhere (document_of read) >>= configuration_of

-- the same without the place
abbrev pub unplaced : {X : Type 0} → Result X PlacedFault → Result X ConfigFault
unplaced (Ok x) = Ok x
unplaced (Err e) = Err e.fault

abbrev pub config_of : Option Members → Result ConfigValue ConfigFault
config_of read = unplaced (placed_config_of read)

-- the sites alone that a text says, whatever else it says, or their first fault
abbrev pub placed_sites_in : Option Members → Result (List SiteValue) PlacedFault
placed_sites_in read = placed_nowhere (document_of read) >>= sites_of

abbrev pub sites_in : Option Members → Result (List SiteValue) ConfigFault
sites_in read = unplaced (placed_sites_in read)

-- what a function answers, seen by view, is what the table gives; out of memory may come at any time
abbrev pub Fails : {Y : Type 0} → ConfigFault → Result Y ConfigFault → Type 0
Fails Toml read = read ≡ Err Toml
Fails (Missing name) read = read ≡ Err (Missing name)
Fails (BadValue name) read = read ≡ Err (BadValue name)
Fails (Repeated name) read = read ≡ Err (Repeated name)
Fails OutOfMemory read = Unit {0}

abbrev pub Gives : {X Y : Type 0} → (X → Y) → Result X ConfigFault → Result Y ConfigFault → Type 0
Gives view (Ok x) read = read ≡ Ok (view x)
Gives view (Err e) read = Fails e read

-- the same of what is answered with the place of a fault
abbrev pub FailsAt : {Y : Type 0} → ConfigFault → Place → Result Y PlacedFault → Type 0
FailsAt Toml place read = read ≡ Err (record { fault = Toml; place = place })
FailsAt (Missing name) place read = read ≡ Err (record { fault = Missing name; place = place })
FailsAt (BadValue name) place read = read ≡ Err (record { fault = BadValue name; place = place })
FailsAt (Repeated name) place read = read ≡ Err (record { fault = Repeated name; place = place })
FailsAt OutOfMemory place read = Unit {0}

abbrev pub GivesAt : {X Y : Type 0} → (X → Y) → Result X PlacedFault → Result Y PlacedFault → Type 0
GivesAt view (Ok x) read = read ≡ Ok (view x)
GivesAt view (Err f) read = FailsAt f.fault f.place read
