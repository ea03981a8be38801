-- The written text of an address, a prefix and a record.
use Rattle.std.specs.Prelude.{◌≡◌, ℕ, ◌/◌, ◌%◌, true, List, [], ◌∷◌, ◌++◌, Some, map, codes}
use Rattle.std.specs.Char.{digit_char}
use Rattle.std.specs.Fmt.{decimal}
use Rattle.std.specs.List.{flat_map, join_with_byte}
use Rattle.lisp_records.specs.declared.address.Addr.{Addr}
use Rattle.lisp_records.specs.declared.address.Addr.TheVariants.{V4, V6}
use Rattle.lisp_records.specs.declared.locator.Locator.{Locator}
use Rattle.lisp_records.specs.Address.{PrefixValue}
use Rattle.lisp_records.specs.Record.{MapRecordValue}
use Rattle.lisp_texts.specs.Text.{numbers_of_locator, shown_locator}
use Rattle.lisp_texts.specs.Reading.{record_text_of}

-- an octet as two lower case hexadecimal digits
abbrev pub hex_text : ℕ → List ℕ
hex_text octet = digit_char (octet / 16) ∷ digit_char (octet % 16) ∷ []

-- the groups of an IPv6 address, of two octets and so of four digits each
abbrev pub groups_text : List ℕ → List (List ℕ)
groups_text (high ∷ low ∷ octets) = (hex_text high ++ hex_text low) ∷ groups_text octets
groups_text _ = []

-- the octets of an IPv4 address in decimal, joined by dots (46)
abbrev pub v4_text : List ℕ → List ℕ
v4_text octets = join_with_byte 46 (map decimal octets)

-- the groups of an IPv6 address, joined by colons (58)
abbrev pub v6_text : List ℕ → List ℕ
v6_text octets = join_with_byte 58 (groups_text octets)

abbrev pub addr_text : Addr → List ℕ
addr_text (V4 octets) = v4_text octets
addr_text (V6 octets) = v6_text octets

abbrev pub prefix_text : PrefixValue → List ℕ
prefix_text b = addr_text b.addr ++ codes "/" ++ decimal b.mask_len

-- the four numbers of a locator, each after a slash (47)
abbrev pub numbers_text : Locator → List ℕ
numbers_text l = flat_map (λ n. 47 ∷ decimal n) (numbers_of_locator l)

abbrev pub locator_text : Locator → List ℕ
locator_text l = addr_text l.addr ++ numbers_text l

-- locators, each after a plus sign (43)
abbrev pub locators_text : List Locator → List ℕ
locators_text ls = flat_map (λ l. 43 ∷ locator_text l) ls

-- a prefix, `=`, the TTL, and the locators
abbrev pub record_text : MapRecordValue → List ℕ
record_text m = prefix_text m.eid ++ codes "=" ++ decimal m.ttl ++ locators_text m.locators

-- what a record's text shows of it
abbrev pub shown : MapRecordValue → MapRecordValue
shown m = record m { act = 0; authoritative = true; version = 0; locators = map shown_locator m.locators }

-- what is written of a record is read again: all that its text shows
abbrev pub ReadsBack : MapRecordValue → Type 0
ReadsBack m = record_text_of (record_text m) ≡ Some (shown m)
