-- A mapping record: an EID-Prefix, and the locators that it is reached by (RFC 9301 section 5.4).
use Rattle.std.specs.Prelude.{◌≡◌, ℕ, ◌^◌, ◌<◌, Bool, true, false, List, length, Option, IfSome}
use Rattle.std.specs.List.{AllByRecursion}
use Rattle.lisp_records.specs.declared.locator.Locator.{Locator}
use Rattle.lisp_records.specs.Address.{PrefixValue, IsPrefix, IsWhole}

-- what a record says
pub record MapRecordValue : Type 0 where
  pub ttl : ℕ
  pub act : ℕ
  pub authoritative : Bool
  pub version : ℕ
  pub eid : PrefixValue
  pub locators : List Locator

-- a locator's numbers are bytes, and its address is whole
pub record IsLocator (l : Locator) : Type 0 where
  pub priority : l.priority < 256
  pub weight : l.weight < 256
  pub m_priority : l.m_priority < 256
  pub m_weight : l.m_weight < 256
  pub addr : IsWhole l.addr

-- what has a spelling: each number fits its place, the EID-Prefix is a block, and each address is whole
pub record IsMapRecord (m : MapRecordValue) : Type 0 where
  pub ttl : m.ttl < 2 ^ 32
  pub act : m.act < 8
  pub version : m.version < 4096
  pub block : IsPrefix m.eid
  pub eid : IsWhole m.eid.addr
  pub count : length m.locators < 256
  pub locators : AllByRecursion IsLocator m.locators

-- ACT, the Map-Version number and the count of the locators fit their places in a record
abbrev pub FitRecord : ℕ → ℕ → List Locator → Type 0
FitRecord act version locators = (act < 8) × (version < 4096) × (length locators < 256)

-- what is made of these fields, where anything is, is the record of them
abbrev pub MakesRecord : Option MapRecordValue → ℕ → ℕ → Bool → ℕ → PrefixValue → List Locator → Type 0
MakesRecord made ttl act authoritative version eid locators = IfSome made (λ r. r ≡ record { ttl = ttl; act = act; authoritative = authoritative; version = version; eid = eid; locators = locators })

-- a flag as a bit
abbrev pub bit : Bool → ℕ
bit true = 1
bit false = 0
