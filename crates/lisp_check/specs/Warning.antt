-- What in a configuration may not be meant, though it can be read.
use Rattle.std.specs.Prelude.{◌≡◌, ◌≢◌, ◌↔◌, ℕ, ◌+◌, ◌==◌, nat_lt, Bool, true, false, not, ◌&&◌, ◌||◌, List, [], ◌∷◌, ◌++◌, count_by, length, IsTrue, is_some, is_none, slice_get, slice_index, position, Option, Some, None, unwrap_or, Result, OnOk, Vec}
use Rattle.std.specs.List.{AllPairs, Contains, find, list_all, list_any}
use Rattle.std.specs.Int.{is_in_range}
use Rattle.std.specs.Option.{option_map}
use Rattle.lisp_records.specs.declared.address.Addr.{Addr}
use Rattle.lisp_records.specs.declared.address.Addr.TheVariants.{V4, V6}
use Rattle.lisp_records.specs.Address.{PrefixValue, addr_eq, prefix_eq, covers}
use Rattle.lisp_records.specs.Record.{MapRecordValue}
use Rattle.lisp_records.specs.Router.{router_eq}
use Rattle.lisp_policy.specs.declared.site.SitePrefix.{SitePrefix}
use Rattle.lisp_policy.specs.Limits.{LimitsValue, is_at_most, lets_router, lets_source, lets_ttl}
use Rattle.lisp_policy.specs.Site.{SiteValue, is_allowed, site_of}
use Rattle.lisp_policy.specs.Configuration.{ConfigValue, ServerEntryValue, RouterEntryValue}
use Rattle.lisp_sites.specs.Numbers.{NodeValue, Server, Router, address_of, addresses, node_at}
use Rattle.lisp_check.specs.declared.warning.PrefixPlace.{PrefixPlace}
use Rattle.lisp_check.specs.declared.warning.Warning.{Warning}
use Rattle.lisp_check.specs.declared.warning.Warning.TheVariants.{NoNodes, NoKeys, NoPrefixes, SamePrefix, Inside, NoUnicast, SameAddress, AnyItrRloc, NoItrRloc, SameIdentity, NotAllowed, OtherFamily, SameKey, NoServers, NoMostRows, ManyRouters, NotListed, OtherSource, OutOfBounds, ManyRows}

-- ---- what of an entry may not be meant

-- an address that no node has: unspecified (all zero), broadcast, or multicast (224.0.0.0/4, ff00::/8)
abbrev pub is_no_unicast : Addr → Bool
is_no_unicast (V4 bytes) = list_all (λ b. b == 0) bytes || list_all (λ b. b == 255) bytes || is_in_range 224 239 (slice_index bytes 0)
is_no_unicast (V6 bytes) = list_all (λ b. b == 0) bytes || (slice_index bytes 0 == 255)

-- the prefixes of the ITR-RLOCs that a node replies to
abbrev pub resolve_of : NodeValue → List PrefixValue
resolve_of (Server entry) = entry.resolve
resolve_of (Router entry) = entry.resolve

-- the first of them that has every address of its family
abbrev pub is_any : PrefixValue → Bool
is_any p = p.mask_len == 0

abbrev pub any_of : NodeValue → Option PrefixValue
any_of node = find is_any (resolve_of node)

-- two addresses of one family
abbrev pub same_family : Addr → Addr → Bool
same_family (V4 _) (V4 _) = true
same_family (V6 _) (V6 _) = true
same_family _ _ = false

-- there are such prefixes, and none is of the family of the node's own address: Map-Replies go to no other family
abbrev pub lists_no_own : NodeValue → Bool
lists_no_own node = not (length (resolve_of node) == 0) && not (list_any (λ p. same_family p.addr (address_of node)) (resolve_of node))

-- a site has a prefix; a prefix with more-specifics is around another one; and a site but that of a Site-ID has such a prefix
abbrev pub has_prefix : PrefixValue → SiteValue → Bool
has_prefix eid s = list_any (λ p. prefix_eq p.eid eid) s.prefixes

abbrev pub is_around : PrefixValue → SitePrefix → Bool
is_around eid p = p.more_specifics && covers p.eid eid && not (prefix_eq p.eid eid)

abbrev pub has_around : ℕ → PrefixValue → SiteValue → Bool
has_around id eid s = not (s.id == id) && list_any (is_around eid) s.prefixes

-- a site that may get many rows: a prefix of it has more-specifics, or it has several keys
abbrev pub may_get_many : SiteValue → Bool
may_get_many s = list_any (λ p. p.more_specifics) s.prefixes || nat_lt 1 (length s.keys)

-- and it has no bound on them
abbrev pub is_unbounded : SiteValue → Bool
is_unbounded s = may_get_many s && is_none s.limits.most_rows

-- how many routers of a site there are, and that these are more than may have rows
abbrev pub routers_of : List RouterEntryValue → ℕ → ℕ
routers_of routers site = count_by (λ r. r.me.site == site) routers

abbrev pub has_more_routers : List RouterEntryValue → SiteValue → Bool
has_more_routers routers s = not (is_at_most s.limits.most_routers (routers_of routers s.id))

-- another router of a router's site uses its key
abbrev pub same_key : RouterEntryValue → RouterEntryValue → Bool
same_key router other = (other.me.site == router.me.site) && (other.key_id == router.key_id)

-- there is something of which a test is true
abbrev pub is_there : {X : Type 0} → Option X → (X → Bool) → Bool
is_there (Some x) test = test x
is_there None test = false

-- the site of a Site-ID allows a prefix
abbrev pub may_register : List SiteValue → ℕ → PrefixValue → Bool
may_register sites id eid = is_there (site_of sites id) (λ site. is_allowed site eid)

-- a router's Map-Server at a place is of another address family
abbrev pub is_of_other_family : List ServerEntryValue → RouterEntryValue → ℕ → Bool
is_of_other_family servers router place = is_there (slice_get servers place) (λ server. not (same_family server.address router.address))

-- the limits of a router's site don't let something of it through
abbrev pub limits_of : List SiteValue → RouterEntryValue → Option LimitsValue
limits_of sites router = option_map (λ s. s.limits) (site_of sites router.me.site)

abbrev pub is_barred : List SiteValue → RouterEntryValue → (LimitsValue → Bool) → Bool
is_barred sites router lets = is_there (limits_of sites router) (λ limits. not (lets limits))

-- its xTR-ID, its address, and the TTL of a record
abbrev pub is_not_listed : List SiteValue → RouterEntryValue → Bool
is_not_listed sites router = is_barred sites router (λ limits. lets_router limits router.me.xtr)

abbrev pub is_of_other_source : List SiteValue → RouterEntryValue → Bool
is_of_other_source sites router = is_barred sites router (λ limits. lets_source limits router.address)

abbrev pub is_out_of_bounds : List SiteValue → RouterEntryValue → ℕ → Bool
is_out_of_bounds sites router ttl = is_barred sites router (λ limits. lets_ttl limits router.use_ttl ttl)

-- nor all of its rows: one for each record that withdraws nothing
abbrev pub row_count : List MapRecordValue → ℕ
row_count records = count_by (λ r. not (r.ttl == 0)) records

abbrev pub has_many_rows : List SiteValue → RouterEntryValue → Bool
has_many_rows sites router = is_barred sites router (λ limits. is_at_most limits.most_rows (row_count router.database))

-- ---- when a configuration has a warning

-- of the entry at a place something is true
abbrev pub At : {X : Type 0} → List X → ℕ → (X → Type 0) → Type 0
At {X} xs place P = (x : X) × (slice_get xs place ≡ Some x) × P x

-- the first entry that is like the one at a place, by a test, is another one
abbrev pub IsOther : {X : Type 0} → List X → (X → X → Bool) → ℕ → ℕ → Type 0
IsOther xs test place first = (first ≢ place) × At xs place (λ x. position (test x) xs ≡ Some first)

-- of a prefix of a site something is true, and of a record of a router
abbrev pub AtPrefix : List SiteValue → ℕ → ℕ → (SiteValue → SitePrefix → Type 0) → Type 0
AtPrefix sites site place P = At sites site (λ s. At s.prefixes place (P s))

abbrev pub AtRecord : List RouterEntryValue → ℕ → ℕ → (RouterEntryValue → MapRecordValue → Type 0) → Type 0
AtRecord routers router place P = At routers router (λ r. At r.database place (P r))

-- and of a node, by its number
abbrev pub AtNode : ConfigValue → ℕ → (NodeValue → Type 0) → Type 0
AtNode c node P = (n : NodeValue) × (node_at c node ≡ Some n) × P n

-- the nodes with an address, and the routers with an identity
abbrev pub has_address : Addr → Addr → Bool
has_address address other = addr_eq other address

abbrev pub is_twin : RouterEntryValue → RouterEntryValue → Bool
is_twin router other = router_eq other.me router.me

-- nodes are numbered as in a network, Map-Servers first
abbrev pub IsWarned : ConfigValue → Warning → Type 0
IsWarned c NoNodes = IsTrue (length (addresses c) == 0)
IsWarned c (NoKeys site) = At c.sites site (λ s. IsTrue (length s.keys == 0))
IsWarned c (NoPrefixes site) = At c.sites site (λ s. IsTrue (length s.prefixes == 0))
IsWarned c (SamePrefix first at) = (first ≢ at.site) × AtPrefix c.sites at.site at.prefix (λ s p. position (has_prefix p.eid) c.sites ≡ Some first)
IsWarned c (Inside around at) = AtPrefix c.sites at.site at.prefix (λ s p. position (has_around s.id p.eid) c.sites ≡ Some around)
IsWarned c (NoUnicast node) = At (addresses c) node (λ a. IsTrue (is_no_unicast a))
IsWarned c (SameAddress first node) = IsOther (addresses c) has_address node first
IsWarned c (AnyItrRloc node) = AtNode c node (λ n. IsTrue (is_some (any_of n)))
IsWarned c (NoItrRloc node) = AtNode c node (λ n. IsTrue (lists_no_own n))
IsWarned c (SameIdentity first router) = IsOther c.routers is_twin router first
IsWarned c (NotAllowed router place) = AtRecord c.routers router place (λ r m. IsTrue (not (may_register c.sites r.me.site m.eid)))
IsWarned c (OtherFamily router server) = At c.routers router (λ r. Contains r.servers server × IsTrue (is_of_other_family c.servers r server))
IsWarned c (SameKey first router) = IsOther c.routers same_key router first
IsWarned c (NoServers router) = At c.routers router (λ r. IsTrue (length r.servers == 0))
IsWarned c (NoMostRows site) = At c.sites site (λ s. IsTrue (is_unbounded s))
IsWarned c (ManyRouters site) = At c.sites site (λ s. IsTrue (has_more_routers c.routers s))
IsWarned c (NotListed router) = At c.routers router (λ r. IsTrue (is_not_listed c.sites r))
IsWarned c (OtherSource router) = At c.routers router (λ r. IsTrue (is_of_other_source c.sites r))
IsWarned c (OutOfBounds router place) = AtRecord c.routers router place (λ r m. IsTrue (is_out_of_bounds c.sites r m.ttl))
IsWarned c (ManyRows router) = At c.routers router (λ r. IsTrue (has_many_rows c.sites r))

-- no address is warned of as that of two nodes exactly where no two nodes have one
abbrev pub AddressesAreWarned : ConfigValue → Type 0
AddressesAreWarned c = ((first node : ℕ) → ¬ IsWarned c (SameAddress first node)) ↔ AllPairs (λ a b. a ≢ b) (addresses c)

-- and so are identities of routers
abbrev pub IdentitiesAreWarned : ConfigValue → Type 0
IdentitiesAreWarned c = ((first router : ℕ) → ¬ IsWarned c (SameIdentity first router)) ↔ AllPairs (λ a b. a.me ≢ b.me) c.routers

-- ---- all warnings of a configuration, in their order

-- a warning, where it is to be given
abbrev pub given_if : Bool → Warning → List Warning
given_if true warning = warning ∷ []
given_if false warning = []

abbrev pub given_of : List (Bool × Warning) → List Warning
given_of [] = []
given_of (one ∷ others) = given_if one.0 one.1 ++ given_of others

-- that of the first of a kind, unless it is the entry at the place itself
abbrev pub of_first : (ℕ → Warning) → Option ℕ → ℕ → List Warning
of_first make found place = given_if (not (unwrap_or found place == place)) (make (unwrap_or found place))

-- those of each entry of a list, by its place
abbrev pub each_from : {X : Type 0} → (ℕ → X → List Warning) → ℕ → List X → List Warning
each_from of place [] = []
each_from of place (x ∷ xs) = of place x ++ each_from of (place + 1) xs

abbrev pub each : {X : Type 0} → (ℕ → X → List Warning) → List X → List Warning
each of xs = each_from of 0 xs

-- of a prefix of a site: the first site that has it, and the first other one with one around it
abbrev pub inside_of : PrefixPlace → Option ℕ → List Warning
inside_of at (Some around) = Inside around at ∷ []
inside_of at None = []

abbrev pub of_prefix : List SiteValue → ℕ → ℕ → ℕ → SitePrefix → List Warning
of_prefix sites site id place p = of_first (λ first. SamePrefix first (record { site = site; prefix = place })) (position (has_prefix p.eid) sites) site
    ++ inside_of (record { site = site; prefix = place }) (position (has_around id p.eid) sites)

-- of a site: its keys and prefixes, then how many rows and routers it may have
abbrev pub of_site : List SiteValue → List RouterEntryValue → ℕ → SiteValue → List Warning
of_site sites routers site s = given_if (length s.keys == 0) (NoKeys site) ++ (given_if (length s.prefixes == 0) (NoPrefixes site)
    ++ (each (of_prefix sites site s.id) s.prefixes ++ (given_if (is_unbounded s) (NoMostRows site) ++ given_if (has_more_routers routers s) (ManyRouters site))))

-- of a node: its address, then what it replies to
abbrev pub of_address : List Addr → ℕ → Addr → List Warning
of_address addrs node a = given_if (is_no_unicast a) (NoUnicast node) ++ of_first (λ first. SameAddress first node) (position (has_address a) addrs) node

abbrev pub of_resolve : ℕ → Option NodeValue → List Warning
of_resolve node (Some n) = given_if (is_some (any_of n)) (AnyItrRloc node) ++ given_if (lists_no_own n) (NoItrRloc node)
of_resolve node None = []

abbrev pub of_node : ConfigValue → List Addr → ℕ → Addr → List Warning
of_node c addrs node a = of_address addrs node a ++ of_resolve node (node_at c node)

-- of a router: its identity, its records, its Map-Servers, its key, and what its site's limits don't let through
abbrev pub of_record : List SiteValue → ℕ → RouterEntryValue → ℕ → MapRecordValue → List Warning
of_record sites router r place m = given_if (not (may_register sites r.me.site m.eid)) (NotAllowed router place)
    ++ given_if (is_out_of_bounds sites r m.ttl) (OutOfBounds router place)

abbrev pub of_server : List ServerEntryValue → ℕ → RouterEntryValue → ℕ → ℕ → List Warning
of_server servers router r place server = given_if (is_of_other_family servers r server) (OtherFamily router server)

abbrev pub of_limits : List SiteValue → ℕ → RouterEntryValue → List Warning
of_limits sites router r = given_if (is_not_listed sites r) (NotListed router)
    ++ (given_if (is_of_other_source sites r) (OtherSource router) ++ given_if (has_many_rows sites r) (ManyRows router))

abbrev pub of_router : ConfigValue → ℕ → RouterEntryValue → List Warning
of_router c router r = of_first (λ first. SameIdentity first router) (position (is_twin r) c.routers) router
    ++ (each (of_record c.sites router r) r.database ++ (each (of_server c.servers router r) r.servers
    ++ (of_first (λ first. SameKey first router) (position (same_key r) c.routers) router
    ++ (given_if (length r.servers == 0) (NoServers router) ++ of_limits c.sites router r))))

-- of all sites, of all nodes, and of all routers
abbrev pub all_warnings : ConfigValue → List Warning
all_warnings c = given_if (length (addresses c) == 0) NoNodes
    ++ (each (of_site c.sites c.routers) c.sites ++ (each (of_node c (addresses c)) (addresses c) ++ each (of_router c) c.routers))

-- these were added, where the call succeeds
abbrev pub Adds : {X T E Z : Type 0} → Result T E → Vec X Z → Vec X Z → List X → Type 0
Adds result old new those = OnOk result (new.items ≡ old.items ++ those)
