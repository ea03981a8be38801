-- What bytes spell fits the format.
use Rattle.std.proofs.Common.{◌≡◌, ℕ, ◌+◌, ◌*◌, ◌/◌, ◌%◌, ◌<◌, List, [], ◌∷◌, ◌++◌, length, refl, subst, arith}
use Rattle.std.specs.Int.{w16, w32, to_be_bytes}
use Rattle.std.specs.List.{AllByRecursion}
use Rattle.lisp_records.specs.declared.address.Addr.{Addr}
use Rattle.lisp_records.specs.declared.locator.Locator.{Locator}
use Rattle.lisp_records.specs.Address.{afi, family, octets, HasWidth, IsWhole}
use Rattle.lisp_records.specs.Record.{MapRecordValue, IsLocator, IsMapRecord}
use Rattle.lisp_records.specs.Spelling.{IsBytes, SpellsLocator, SpellsLocators, Spells}
use Rattle.lisp_records.proofs.AddressLemmas.{IsWhole-cleared}
use Rattle.lisp_records.proofs.Fields.{IsBytes-first, IsBytes-rest, each_byte}

-- an address behind something in bytes is whole
address_fits : (front : List ℕ) (a : Addr) → IsBytes (front ++ octets a) → HasWidth a → IsWhole a
address_fits front a fits wide = record { width = wide; bytes = each_byte (octets a) (IsBytes-rest (front ++ octets a) front (octets a) refl fits) }

locator_fits : (bytes : List ℕ) (l : Locator) → IsBytes bytes → SpellsLocator bytes l → IsLocator l
locator_fits bytes l fits s =
    let whole = subst IsBytes s.parts fits in
    record {
      priority = whole 0;
      weight = whole 1;
      m_priority = whole 2;
      m_weight = whole 3;
      addr = address_fits (l.priority ∷ l.weight ∷ l.m_priority ∷ l.m_weight ∷ s.unused ∷ s.flags ∷ to_be_bytes w16 (afi (family l.addr))) l.addr whole s.addr;
    }

locators_fit : (bytes : List ℕ) (ls : List Locator) → IsBytes bytes → SpellsLocators bytes ls → AllByRecursion IsLocator ls
locators_fit bytes [] fits s = tt
locators_fit bytes (l ∷ ls) fits (first, others, parts, one, rest) = (locator_fits first l (IsBytes-first first others (subst IsBytes parts fits)) one, locators_fit others ls (IsBytes-rest bytes first others parts fits) rest)

eighth : (n k : ℕ) → n / 32 ≡ k → n < 256 → k < 8
eighth n k e lt = omega (arith, e, lt)

twelve_bits : (high low n : ℕ) → high % 16 * 256 + low ≡ n → low < 256 → n < 4096
twelve_bits high low n e lt = omega (arith, e, lt)

pub record_fits : (bytes : List ℕ) (m : MapRecordValue) → IsBytes bytes → Spells bytes m → IsMapRecord m
record_fits bytes m fits s =
    let head : List ℕ = to_be_bytes w32 m.ttl ++ length m.locators ∷ m.eid.mask_len ∷ s.flags ∷ s.reserved ∷ s.high ∷ s.low ∷ to_be_bytes w16 (afi (family m.eid.addr)) in
    let whole = subst IsBytes s.parts fits in
    let eid = IsBytes-first (head ++ s.eid) s.locators whole in
    let written = address_fits head s.prefix.written (subst (λ (t : List ℕ). IsBytes (head ++ t)) s.prefix.parts eid) s.prefix.addr in
    record {
      ttl = s.ttl;
      act = eighth s.flags m.act s.act (whole 6);
      version = twelve_bits s.high s.low m.version s.version (whole 9);
      block = s.prefix.block;
      eid = subst IsWhole s.prefix.masked (IsWhole-cleared s.prefix.written m.eid.mask_len written);
      count = whole 4;
      locators = locators_fit s.locators m.locators (IsBytes-rest (head ++ s.eid ++ s.locators) (head ++ s.eid) s.locators refl whole) s.each;
    }
