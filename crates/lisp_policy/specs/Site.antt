-- The sites of a Map-Server: their secrets, and what their routers may register (RFC 9301 section 8.2).
use Rattle.std.specs.Prelude.{◌≡◌, ◌⊎◌, ℕ, Bool, true, ◌&&◌, ◌||◌, ◌==◌, List, [], ◌∷◌, Option}
use Rattle.std.specs.List.{Any, find, list_any}
use Rattle.std.specs.Option.{option_map}
use Rattle.lisp_records.specs.declared.address.Addr.{Addr}
use Rattle.lisp_records.specs.Address.{PrefixValue, Covers, prefix_eq, covers, holds}
use Rattle.lisp_policy.specs.declared.site.SitePrefix.{SitePrefix}
use Rattle.lisp_policy.specs.Limits.{LimitsValue, no_limits}

-- a pre-shared secret under its Key ID
pub record SiteKeyValue : Type 0 where
  pub id : ℕ
  pub secret : List ℕ

-- a site: its Site-ID, its keys and its prefixes, in the order of the configuration, and its limits
pub record SiteValue : Type 0 where
  pub id : ℕ
  pub keys : List SiteKeyValue
  pub prefixes : List SitePrefix
  pub limits : LimitsValue

-- the site of a Site-ID, keys and prefixes, without limits
abbrev pub site_with : ℕ → List SiteKeyValue → List SitePrefix → SiteValue
site_with id keys prefixes = record { id = id; keys = keys; prefixes = prefixes; limits = no_limits }

-- Allowed: some prefix of the site equals the given one, or has more-specifics and covers it
abbrev pub LetsIn : SitePrefix → PrefixValue → Type 0
LetsIn p b = (p.eid ≡ b) ⊎ ((p.more_specifics ≡ true) × Covers p.eid b)

abbrev pub Allowed : SiteValue → PrefixValue → Type 0
Allowed site b = Any (λ p. LetsIn p b) site.prefixes

-- the same as a test
abbrev pub lets_in : SitePrefix → PrefixValue → Bool
lets_in p b = prefix_eq p.eid b || (p.more_specifics && covers p.eid b)

abbrev pub is_allowed : SiteValue → PrefixValue → Bool
is_allowed site b = list_any (λ p. lets_in p b) site.prefixes

-- the first site with a Site-ID
abbrev pub site_of : List SiteValue → ℕ → Option SiteValue
site_of sites id = find (λ s. s.id == id) sites

-- the first key of a site with a Key ID
abbrev pub key_of : List SiteKeyValue → ℕ → Option SiteKeyValue
key_of keys id = find (λ k. k.id == id) keys

abbrev pub has_key : List SiteKeyValue → ℕ → Bool
has_key keys id = list_any (λ k. k.id == id) keys

abbrev pub secret_of : SiteValue → ℕ → Option (List ℕ)
secret_of site id = option_map (λ k. k.secret) (key_of site.keys id)

-- the address is one of some prefix of the site
abbrev pub has_address : SiteValue → Addr → Bool
has_address site a = list_any (λ p. holds p.eid a) site.prefixes

abbrev pub is_configured : List SiteValue → Addr → Bool
is_configured sites a = list_any (λ s. has_address s a) sites

-- one site with one key and one prefix
abbrev pub single : ℕ → ℕ → List ℕ → PrefixValue → Bool → List SiteValue
single id key_id secret eid more_specifics = record {
  id = id;
  keys = record { id = key_id; secret = secret } ∷ [];
  prefixes = record { eid = eid; more_specifics = more_specifics } ∷ [];
  limits = no_limits;
} ∷ []
