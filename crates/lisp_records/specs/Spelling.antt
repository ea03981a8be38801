-- Which bytes spell a record: an equation for the whole list, then one for each field. Bits that
-- stand in no equation are free, as the reserved ones are, and the EID's bits past its mask.
use Rattle.std.specs.Prelude.{◌≡◌, ℕ, ◌+◌, ◌*◌, ◌/◌, ◌%◌, ◌^◌, ◌<◌, ◌≤◌, List, [], ◌∷◌, ◌++◌, length, slice_index_or, slice_range}
use Rattle.std.specs.Int.{w16, w32, to_be_bytes}
use Rattle.lisp_records.specs.declared.address.Addr.{Addr}
use Rattle.lisp_records.specs.declared.locator.Locator.{Locator}
use Rattle.lisp_records.specs.Address.{afi, family, octets, HasWidth, cleared, PrefixValue, IsPrefix}
use Rattle.lisp_records.specs.Record.{MapRecordValue, bit}

-- each item is a byte
abbrev pub IsBytes : List ℕ → Type 0
IsBytes bytes = (i : ℕ) → slice_index_or bytes i 0 < 256

-- a locator (RFC 9301 section 5.4): priorities and weights, the flags L, p and R, the address
pub record SpellsLocator (bytes : List ℕ) (l : Locator) : Type 0 where
  pub unused : ℕ
  pub flags : ℕ
  pub parts : bytes ≡ l.priority ∷ l.weight ∷ l.m_priority ∷ l.m_weight ∷ unused ∷ flags ∷ to_be_bytes w16 (afi (family l.addr)) ++ octets l.addr
  pub local : flags / 4 % 2 ≡ bit l.local
  pub probe : flags / 2 % 2 ≡ bit l.probe
  pub reachable : flags % 2 ≡ bit l.reachable
  pub addr : HasWidth l.addr

-- locators, one after the other
abbrev pub SpellsLocators : List ℕ → List Locator → Type 0
SpellsLocators bytes [] = bytes ≡ []
SpellsLocators bytes (l ∷ ls) = (first : List ℕ) × (others : List ℕ) × (bytes ≡ first ++ others) × SpellsLocator first l × SpellsLocators others ls

-- the EID-Prefix: any address of the block
pub record SpellsEid (bytes : List ℕ) (b : PrefixValue) : Type 0 where
  pub written : Addr
  pub parts : bytes ≡ octets written
  pub addr : HasWidth written
  pub masked : cleared written b.mask_len ≡ b.addr
  pub block : IsPrefix b

-- a record (RFC 9301 section 5.4)
pub record Spells (bytes : List ℕ) (m : MapRecordValue) : Type 0 where
  pub flags : ℕ
  pub reserved : ℕ
  pub high : ℕ
  pub low : ℕ
  pub eid : List ℕ
  pub locators : List ℕ
  pub parts : bytes ≡ to_be_bytes w32 m.ttl ++ length m.locators ∷ m.eid.mask_len ∷ flags ∷ reserved ∷ high ∷ low ∷ to_be_bytes w16 (afi (family m.eid.addr)) ++ eid ++ locators
  pub ttl : m.ttl < 2 ^ 32
  pub act : flags / 32 ≡ m.act
  pub authoritative : flags / 16 % 2 ≡ bit m.authoritative
  pub version : high % 16 * 256 + low ≡ m.version
  pub prefix : SpellsEid eid m.eid
  pub each : SpellsLocators locators m.locators

-- the bytes from one place to another, which is not past their end, spell a record
abbrev pub SpellsBetween : List ℕ → ℕ → ℕ → MapRecordValue → Type 0
SpellsBetween bytes at next m = (at ≤ next) × (next ≤ length bytes) × Spells (slice_range bytes at next) m
