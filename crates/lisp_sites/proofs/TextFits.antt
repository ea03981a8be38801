-- What a text spells fits the format: an address, a prefix and a record.
use Rattle.std.proofs.Common.{◌≡◌, ℕ, ◌*◌, ◌<◌, inl, inr, List, [], ◌∷◌, length, Some, Ok, refl, sym, ap, subst, ◌∙◌, arith}
use Rattle.std.specs.List.{AllByRecursion, AllZip, flat_map}
use Rattle.lisp_records.specs.declared.address.Addr.{Addr}
use Rattle.lisp_records.specs.declared.address.Addr.TheVariants.{V4, V6}
use Rattle.lisp_records.specs.declared.locator.Locator.{Locator}
use Rattle.lisp_records.specs.Address.{PrefixValue, IsPrefix, IsWhole}
use Rattle.lisp_records.specs.Record.{MapRecordValue, IsLocator, IsMapRecord}
use Rattle.lisp_records.proofs.AddressLemmas.{IsWhole-cleared, IsBlock-cleared}
use Rattle.lisp_texts.specs.Text.{group_octets, IsAddressText, IsPrefixText, IsByteText, numbers_of_locator, IsLocatorText, IsRecordText}
use Rattle.lisp_texts.specs.Reading.{address_of, prefix_of, record_text_of}
use Rattle.lisp_texts.proofs.AddressLaws.{address_takes}
use Rattle.lisp_texts.proofs.PrefixLaws.{prefix_takes}
use Rattle.lisp_texts.proofs.RecordLaws.{record_found}
use Rattle.lisp_sites.specs.declared.fault.ConfigFault.{ConfigFault}

length-groups : (groups : List (List ℕ)) → length (flat_map group_octets groups) ≡ 2 * length groups
length-groups [] = refl
length-groups (g ∷ groups) = omega (arith, length-groups groups)

groups-bytes : (groups : List (List ℕ)) → AllByRecursion (λ n. n < 256) (flat_map group_octets groups)
groups-bytes [] = tt
groups-bytes (g ∷ groups) = (omega arith, (omega arith, groups-bytes groups))

-- an address that a text spells is whole
whole : (text : List ℕ) (a : Addr) → IsAddressText text a → IsWhole a
whole text (V4 octets) s = record { width = s.four; bytes = s.each }
whole text (V6 octets) s = record {
  width = ap length s.value ∙ length-groups s.groups ∙ ap (λ (n : ℕ). 2 * n) s.eight;
  bytes = subst (AllByRecursion (λ n. n < 256)) (sym s.value) (groups-bytes s.groups);
}

pub address_fits : (text : List ℕ) (a : Addr) → address_of text ≡ Some a → IsWhole a
address_fits text a e = whole text a (address_takes text a e)

prefix_whole : (text : List ℕ) (b : PrefixValue) → IsPrefixText text b → IsWhole b.addr × IsPrefix b
prefix_whole text b s = (
  subst IsWhole s.masked (IsWhole-cleared s.written b.mask_len (whole s.address s.written s.spelled)),
  subst (λ (a : Addr). IsPrefix (record { addr = a; mask_len = b.mask_len })) s.masked (IsBlock-cleared s.written b.mask_len s.mask),
)

pub prefix_fits : (text : List ℕ) (b : PrefixValue) → prefix_of text ≡ Some b → IsWhole b.addr × IsPrefix b
prefix_fits text b e = prefix_whole text b (prefix_takes text b e)

each_byte : (pieces : List (List ℕ)) (numbers : List ℕ) → AllZip IsByteText pieces numbers → AllByRecursion (λ n. n < 256) numbers
each_byte [] [] each = tt
each_byte [] (n ∷ numbers) each = absurd each
each_byte (p ∷ pieces) [] each = absurd each
each_byte (p ∷ pieces) (n ∷ numbers) each = (each.0.1, each_byte pieces numbers each.1)

locator_whole : (text : List ℕ) (l : Locator) → IsLocatorText text l → IsLocator l
locator_whole text l s =
    let bytes : AllByRecursion (λ n. n < 256) (numbers_of_locator l) = elim s.numbers [
      | inl given ↦ each_byte given.pieces (numbers_of_locator l) given.each
      | inr none ↦ subst (AllByRecursion (λ n. n < 256)) (sym none.1) (omega arith, (omega arith, (omega arith, (omega arith, tt))))
    ] in
    record { priority = bytes.0; weight = bytes.1.0; m_priority = bytes.1.1.0; m_weight = bytes.1.1.1.0; addr = whole s.address l.addr s.spelled }

locators_whole : (pieces : List (List ℕ)) (ls : List Locator) → AllZip IsLocatorText pieces ls → AllByRecursion IsLocator ls
locators_whole [] [] each = tt
locators_whole [] (l ∷ ls) each = absurd each
locators_whole (p ∷ pieces) [] each = absurd each
locators_whole (p ∷ pieces) (l ∷ ls) each = (locator_whole p l each.0, locators_whole pieces ls each.1)

record_whole : (text : List ℕ) (m : MapRecordValue) → IsRecordText text m → IsMapRecord m
record_whole text m s =
    let act : m.act ≡ 0 = ap (λ (x : MapRecordValue). x.act) s.flags in
    let version : m.version ≡ 0 = ap (λ (x : MapRecordValue). x.version) s.flags in
    let eid = prefix_whole s.prefix m.eid s.spelled in
    record {
      ttl = s.fits;
      act = omega arith;
      version = omega arith;
      block = eid.1;
      eid = eid.0;
      count = s.count;
      locators = locators_whole s.pieces m.locators s.each;
    }

pub record_fits : (text : List ℕ) (m : MapRecordValue) → record_text_of text ≡ Some m → IsMapRecord m
record_fits text m e = record_whole text m (record_found {E = ConfigFault} text (Ok (Some m)) (sym e))
