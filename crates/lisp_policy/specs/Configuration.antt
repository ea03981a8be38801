-- What a configuration says: the sites, and the nodes that serve and register them; and what is true
-- of each configuration that was read.
use Rattle.std.specs.Prelude.{◌≡◌, ◌≢◌, ℕ, ◌^◌, ◌<◌, ◌≤◌, ◌&&◌, ◌||◌, ◌==◌, Bool, true, List, ◌++◌, length, map, nat_le, IsSomeAnd, Ok}
use Rattle.std.specs.Char.{is_ascii_digit}
use Rattle.std.specs.Int.{is_in_range}
use Rattle.std.specs.List.{AllByRecursion, AllPairs, list_all}
use Rattle.lisp_records.specs.declared.address.Addr.{Addr}
use Rattle.lisp_records.specs.declared.router.RouterId.{RouterId}
use Rattle.lisp_records.specs.Address.{PrefixValue, IsPrefix, IsWhole}
use Rattle.lisp_records.specs.Record.{MapRecordValue, IsMapRecord}
use Rattle.lisp_records.specs.Database.{database_of}
use Rattle.lisp_policy.specs.declared.site.SitePrefix.{SitePrefix}
use Rattle.lisp_policy.specs.Site.{SiteKeyValue, SiteValue, site_of, has_key}

-- a name: 1 to 32 of a to z (97 to 122), 0 to 9, and the hyphen (45)
abbrev pub is_name_letter : ℕ → Bool
is_name_letter c = is_in_range 97 122 c || is_ascii_digit c || (c == 45)

abbrev pub is_name : List ℕ → Bool
is_name text = nat_le 1 (length text) && nat_le (length text) 32 && list_all is_name_letter text

-- a Map-Server, and the prefixes of the ITR-RLOCs that it replies to (RFC 9301 section 8.3)
pub record ServerEntryValue : Type 0 where
  pub name : List ℕ
  pub address : Addr
  pub resolve : List PrefixValue

-- a site router: who it is, the key that it uses, the places of its Map-Servers, what it asks for
-- (bits P and T), how many nonces one save serves, what it registers, and the prefixes of the
-- ITR-RLOCs that it replies to
pub record RouterEntryValue : Type 0 where
  pub name : List ℕ
  pub address : Addr
  pub me : RouterId
  pub key_id : ℕ
  pub servers : List ℕ
  pub proxy : Bool
  pub use_ttl : Bool
  pub nonce_block : ℕ
  pub database : List MapRecordValue
  pub resolve : List PrefixValue

pub record ConfigValue : Type 0 where
  pub sites : List SiteValue
  pub servers : List ServerEntryValue
  pub routers : List RouterEntryValue

-- a key: a Key ID of one byte, and a secret of 1 to 256 bytes
pub record IsKey (k : SiteKeyValue) : Type 0 where
  pub id : k.id < 256
  pub some : 1 ≤ length k.secret
  pub few : length k.secret ≤ 256
  pub bytes : AllByRecursion (λ n. n < 256) k.secret

-- a prefix of a site: a whole address, with no bit set past the mask
pub record IsSitePrefix (p : SitePrefix) : Type 0 where
  pub whole : IsWhole p.eid.addr
  pub block : IsPrefix p.eid

-- a site: a Site-ID of 64 bits; keys, no two of one Key ID; prefixes, no two alike
pub record IsSite (s : SiteValue) : Type 0 where
  pub id : s.id < 2 ^ 64
  pub keys : AllByRecursion IsKey s.keys
  pub key_ids : AllPairs (λ a b. a.id ≢ b.id) s.keys
  pub prefixes : AllByRecursion IsSitePrefix s.prefixes
  pub eids : AllPairs (λ a b. a.eid ≢ b.eid) s.prefixes

-- a Map-Server: a name, and a whole address
pub record IsServerEntry (s : ServerEntryValue) : Type 0 where
  pub name : is_name s.name ≡ true
  pub address : IsWhole s.address

-- a router registers with Map-Servers of the list, by their places there, and with none twice
pub record HasServers (servers : List ServerEntryValue) (r : RouterEntryValue) : Type 0 where
  pub there : AllByRecursion (λ place. place < length servers) r.servers
  pub once : AllPairs (λ a b. a ≢ b) r.servers

-- a router: a name, a whole address, an xTR-ID of 16 bytes; a key of its site, which is there; its
-- Map-Servers; 1 to 1,024 nonces for a save; and records that fit the format and make a database
pub record IsRouterEntry (c : ConfigValue) (r : RouterEntryValue) : Type 0 where
  pub name : is_name r.name ≡ true
  pub address : IsWhole r.address
  pub xtr : length r.me.xtr ≡ 16
  pub xtr_bytes : AllByRecursion (λ n. n < 256) r.me.xtr
  pub key_id : r.key_id < 256
  pub key : IsSomeAnd (site_of c.sites r.me.site) (λ s. has_key s.keys r.key_id ≡ true)
  pub servers : HasServers c.servers r
  pub some_nonces : 1 ≤ r.nonce_block
  pub few_nonces : r.nonce_block ≤ 1024
  pub records : AllByRecursion IsMapRecord r.database
  pub database : database_of r.database ≡ Ok r.database

-- the names of all nodes: those of Map-Servers, then those of routers
abbrev pub names : ConfigValue → List (List ℕ)
names c = map (λ s. s.name) c.servers ++ map (λ r. r.name) c.routers

-- what each configuration is that was read: no two sites of one Site-ID, no two nodes of one name
pub record IsConfig (c : ConfigValue) : Type 0 where
  pub sites : AllByRecursion IsSite c.sites
  pub site_ids : AllPairs (λ a b. a.id ≢ b.id) c.sites
  pub servers : AllByRecursion IsServerEntry c.servers
  pub routers : AllByRecursion (IsRouterEntry c) c.routers
  pub names : AllPairs (λ a b. a ≢ b) (names c)
