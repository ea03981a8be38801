-- Which texts spell an address, a prefix or a record: a grammar of whole texts. The numbers of
-- addresses and prefixes are `decimal`'s, which have no leading zeros, and those of records are
-- `number_of`'s, which may have them; nowhere is a sign, a space or `::`.
use Rattle.std.specs.Prelude.{◌≡◌, ℕ, ◌<◌, ◌≤◌, ◌^◌, ◌⊎◌, true, false, List, [], ◌∷◌, ◌++◌, length, map, Some, codes}
use Rattle.std.specs.Fmt.{decimal}
use Rattle.std.specs.Int.{w16, to_be_bytes}
use Rattle.std.specs.List.{AllByRecursion, AllZip, flat_map, join_with_byte}
use Rattle.std.specs.Str.Parse.{IsNumeral, digits_value}
use Rattle.lisp_records.specs.declared.address.Addr.{Addr}
use Rattle.lisp_records.specs.declared.address.Addr.TheVariants.{V4, V6}
use Rattle.lisp_records.specs.declared.locator.Locator.{Locator}
use Rattle.lisp_records.specs.Address.{PrefixValue, max_len, cleared}
use Rattle.lisp_records.specs.Record.{MapRecordValue}
use Rattle.lisp_texts.specs.Number.{number_of}

-- the octets of an IPv4 address in decimal, joined by dots (46)
pub record IsV4Text (text octets : List ℕ) : Type 0 where
  pub four : length octets ≡ 4
  pub each : AllByRecursion (λ n. n < 256) octets
  pub parts : text ≡ join_with_byte 46 (map decimal octets)

-- one to four hexadecimal digits, of either letter case
abbrev pub IsGroup : List ℕ → Type 0
IsGroup group = IsNumeral 16 group × (length group ≤ 4)

-- the two octets of a group, the high one first
abbrev pub group_octets : List ℕ → List ℕ
group_octets group = to_be_bytes w16 (digits_value 16 group)

-- eight groups, joined by colons (58)
pub record IsV6Text (text octets : List ℕ) : Type 0 where
  pub groups : List (List ℕ)
  pub eight : length groups ≡ 8
  pub each : AllByRecursion IsGroup groups
  pub parts : text ≡ join_with_byte 58 groups
  pub value : octets ≡ flat_map group_octets groups

abbrev pub IsAddressText : List ℕ → Addr → Type 0
IsAddressText text (V4 octets) = IsV4Text text octets
IsAddressText text (V6 octets) = IsV6Text text octets

-- an address, a slash, and the mask length in decimal: the block is of the address, its bits past
-- the mask cleared
pub record IsPrefixText (text : List ℕ) (b : PrefixValue) : Type 0 where
  pub address : List ℕ
  pub written : Addr
  pub parts : text ≡ address ++ codes "/" ++ decimal b.mask_len
  pub spelled : IsAddressText address written
  pub mask : b.mask_len ≤ max_len written
  pub masked : cleared written b.mask_len ≡ b.addr

-- a number below 256
abbrev pub IsByteText : List ℕ → ℕ → Type 0
IsByteText text n = (number_of text ≡ Some n) × (n < 256)

-- numbers below 256, each after a slash (47)
pub record IsNumbersText (text numbers : List ℕ) : Type 0 where
  pub pieces : List (List ℕ)
  pub parts : text ≡ flat_map (λ piece. 47 ∷ piece) pieces
  pub each : AllZip IsByteText pieces numbers

-- the numbers of a locator: priority and weight, multicast priority and weight
abbrev pub numbers_of_locator : Locator → List ℕ
numbers_of_locator l = l.priority ∷ l.weight ∷ l.m_priority ∷ l.m_weight ∷ []

-- a locator with the flags that a text stands for: L and R are set, p is clear
abbrev pub shown_locator : Locator → Locator
shown_locator l = record l { local = true; probe = false; reachable = true }

-- an address, and the numbers, which are these where they are left out
pub record IsLocatorText (text : List ℕ) (l : Locator) : Type 0 where
  pub address : List ℕ
  pub behind : List ℕ
  pub parts : text ≡ address ++ behind
  pub spelled : IsAddressText address l.addr
  pub numbers : IsNumbersText behind (numbers_of_locator l) ⊎ (behind ≡ []) × (numbers_of_locator l ≡ 1 ∷ 100 ∷ 255 ∷ 0 ∷ [])
  pub flags : l ≡ shown_locator l

-- a prefix, `=`, the TTL, and the locators, each after a plus sign (43)
pub record IsRecordText (text : List ℕ) (m : MapRecordValue) : Type 0 where
  pub prefix : List ℕ
  pub ttl : List ℕ
  pub pieces : List (List ℕ)
  pub parts : text ≡ prefix ++ codes "=" ++ ttl ++ flat_map (λ piece. 43 ∷ piece) pieces
  pub spelled : IsPrefixText prefix m.eid
  pub number : number_of ttl ≡ Some m.ttl
  pub fits : m.ttl < 2 ^ 32
  pub each : AllZip IsLocatorText pieces m.locators
  pub count : length m.locators < 256
  pub flags : m ≡ record m { act = 0; authoritative = true; version = 0 }
