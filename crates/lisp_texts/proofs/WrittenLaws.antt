-- What is written of an address, a prefix or a record is a text of it.
use Rattle.std.proofs.Common.{◌≡◌, ℕ, zero, suc, ◌+◌, ◌*◌, ◌/◌, ◌%◌, ◌<◌, inl, List, [], ◌∷◌, ◌++◌, length, map, Some, refl, sym, ap, ◌∙◌, arith}
use Rattle.std.specs.Char.{digit_value, digit_char}
use Rattle.std.specs.Fmt.{decimal}
use Rattle.std.specs.Int.{w16, to_be_bytes, from_be_bytes}
use Rattle.std.specs.List.{AllByRecursion, AllZip, flat_map}
use Rattle.std.specs.Str.Parse.{digits_value}
use Rattle.std.proofs.lemmas.List.{length-map}
use Rattle.std.proofs.lemmas.Str.{digit_value-digit_char}
use Rattle.lisp_records.specs.declared.address.Addr.{Addr}
use Rattle.lisp_records.specs.declared.address.Addr.TheVariants.{V4, V6}
use Rattle.lisp_records.specs.declared.locator.Locator.{Locator}
use Rattle.lisp_records.specs.Address.{PrefixValue, IsPrefix, IsWhole}
use Rattle.lisp_records.specs.Record.{MapRecordValue, IsLocator, IsMapRecord}
use Rattle.lisp_texts.specs.Text.{IsAddressText, IsGroup, group_octets, IsPrefixText, IsByteText, IsNumbersText, numbers_of_locator, shown_locator, IsLocatorText, IsRecordText}
use Rattle.lisp_texts.specs.Reading.{record_text_of}
use Rattle.lisp_texts.specs.Written.{hex_text, groups_text, addr_text, prefix_text, numbers_text, locator_text, record_text, shown}
use Rattle.lisp_texts.proofs.ByteNumbers.{number_again}
use Rattle.lisp_texts.proofs.RecordLaws.{record_again}
use Rattle.lisp_texts.proofs.WrittenGroups.{marked}

-- ---- addresses

-- the value of a digit that is written
digit_of_half : (n : ℕ) → n < 16 → digit_value (digit_char n) ≡ n
digit_of_half n lt = digit_value-digit_char n (omega arith)

four_value : (a b c d high low : ℕ) → digit_value a ≡ high / 16 → digit_value b ≡ high % 16 → digit_value c ≡ low / 16 → digit_value d ≡ low % 16
    → digits_value 16 (a ∷ b ∷ c ∷ d ∷ []) ≡ from_be_bytes w16 (high ∷ low ∷ [])
four_value a b c d high low ea eb ec ed = rw (ea, eb, ec, ed) (omega arith)

-- two bytes of a number are its bytes
two_bytes : (high low : ℕ) → high < 256 → low < 256 → to_be_bytes w16 (from_be_bytes w16 (high ∷ low ∷ [])) ≡ high ∷ low ∷ []
two_bytes high low h l =
    let first : (high * 256 + low) / 256 % 256 ≡ high = omega arith in
    let second : (high * 256 + low) % 256 ≡ low = omega arith in
    λ i. first i ∷ second i ∷ []

group_is : (high low : ℕ) → high < 256 → low < 256 → IsGroup (hex_text high ++ hex_text low)
group_is high low h l =
    let first = digit_of_half (high / 16) (omega arith) in
    let second = digit_of_half (high % 16) (omega arith) in
    let third = digit_of_half (low / 16) (omega arith) in
    let fourth = digit_of_half (low % 16) (omega arith) in
    ((omega arith, (omega (arith, first), (omega (arith, second), (omega (arith, third), (omega (arith, fourth), tt))))), omega arith)

group_value : (high low : ℕ) → high < 256 → low < 256 → group_octets (hex_text high ++ hex_text low) ≡ high ∷ low ∷ []
group_value high low h l =
    let value : digits_value 16 (hex_text high ++ hex_text low) ≡ from_be_bytes w16 (high ∷ low ∷ []) =
    four_value (digit_char (high / 16)) (digit_char (high % 16)) (digit_char (low / 16)) (digit_char (low % 16)) high low
    (digit_of_half (high / 16) (omega arith)) (digit_of_half (high % 16) (omega arith)) (digit_of_half (low / 16) (omega arith)) (digit_of_half (low % 16) (omega arith)) in
    ap (λ (n : ℕ). to_be_bytes w16 n) value ∙ two_bytes high low h l

record AreGroups (n : ℕ) (octets : List ℕ) : Type 0 where
  count : length (groups_text octets) ≡ n
  each : AllByRecursion IsGroup (groups_text octets)
  value : octets ≡ flat_map group_octets (groups_text octets)

are_groups : (n : ℕ) (octets : List ℕ) → length octets ≡ 2 * n → AllByRecursion (λ k. k < 256) octets → AreGroups n octets
are_groups zero [] len bytes = record { count = refl; each = tt; value = refl }
are_groups zero (a ∷ octets) len bytes = absurd (omega (arith, len))
are_groups (suc n) [] len bytes = absurd (omega (arith, len))
are_groups (suc n) (a ∷ []) len bytes = absurd (omega (arith, len))
are_groups (suc n) (a ∷ b ∷ octets) len bytes =
    let others = are_groups n octets (omega (arith, len)) bytes.1.1 in
    record {
      count = ap suc others.count;
      each = (group_is a b bytes.0 bytes.1.0, others.each);
      value = ap (λ (t : List ℕ). a ∷ b ∷ t) others.value ∙ ap (λ (t : List ℕ). t ++ flat_map group_octets (groups_text octets)) (sym (group_value a b bytes.0 bytes.1.0));
    }

-- the written text of an address is one of its texts
pub written_address : (a : Addr) → IsWhole a → IsAddressText (addr_text a) a
written_address (V4 octets) has = record { four = has.width; each = has.bytes; parts = refl }
written_address (V6 octets) has =
    let groups = are_groups 8 octets has.width has.bytes in
    record { groups = groups_text octets; eight = groups.count; each = groups.each; parts = refl; value = groups.value }

-- ---- prefixes

-- the written text of a prefix is one of its texts
pub written_prefix : (b : PrefixValue) → IsPrefix b → IsWhole b.addr → IsPrefixText (prefix_text b) b
written_prefix b block has = record {
  address = addr_text b.addr;
  written = b.addr;
  parts = refl;
  spelled = written_address b.addr has;
  mask = block.0;
  masked = block.1;
}

-- ---- records

byte_spelled : (n : ℕ) → n < 256 → IsByteText (decimal n) n
byte_spelled n lt = (number_again n (omega arith), lt)

numbers_spelled : (l : Locator) → IsLocator l → IsNumbersText (numbers_text l) (numbers_of_locator l)
numbers_spelled l has = record {
  pieces = map decimal (numbers_of_locator l);
  parts = refl;
  each = (byte_spelled l.priority has.priority, (byte_spelled l.weight has.weight, (byte_spelled l.m_priority has.m_priority, (byte_spelled l.m_weight has.m_weight, tt))));
}

locator_spelled : (l : Locator) → IsLocator l → IsLocatorText (locator_text l) (shown_locator l)
locator_spelled l has = record {
  address = addr_text l.addr;
  behind = numbers_text l;
  parts = refl;
  spelled = written_address l.addr has.addr;
  numbers = inl (numbers_spelled l has);
  flags = refl;
}

locators_spelled : (ls : List Locator) → AllByRecursion IsLocator ls → AllZip IsLocatorText (map locator_text ls) (map shown_locator ls)
locators_spelled [] has = tt
locators_spelled (l ∷ ls) has = (locator_spelled l has.0, locators_spelled ls has.1)

marked-map : (ls : List Locator) → flat_map (λ l. 43 ∷ locator_text l) ls ≡ marked 43 (map locator_text ls)
marked-map [] = refl
marked-map (l ∷ ls) = ap (λ (t : List ℕ). 43 ∷ (locator_text l ++ t)) (marked-map ls)

-- the written text of a record is a text of what it shows
pub written_record : (m : MapRecordValue) → IsMapRecord m → IsRecordText (record_text m) (shown m)
written_record m has = record {
  prefix = prefix_text m.eid;
  ttl = decimal m.ttl;
  pieces = map locator_text m.locators;
  parts = ap (λ (t : List ℕ). prefix_text m.eid ++ 61 ∷ [] ++ decimal m.ttl ++ t) (marked-map m.locators);
  spelled = written_prefix m.eid has.block has.eid;
  number = number_again m.ttl (omega (arith, has.ttl));
  fits = has.ttl;
  each = locators_spelled m.locators has.locators;
  count = rw (length-map m.locators shown_locator) has.count;
  flags = refl;
}

-- what is written of a record is read again
pub reads_back : (m : MapRecordValue) → IsMapRecord m → record_text_of (record_text m) ≡ Some (shown m)
reads_back m has = record_again (record_text m) (shown m) (written_record m has)
