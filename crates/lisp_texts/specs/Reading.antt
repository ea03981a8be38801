-- Reading a text from left to right: what the grammar's relations come to as functions.
use Rattle.std.specs.Prelude.{ℕ, zero, suc, ◌+◌, ◌^◌, List, [], ◌∷◌, ◌++◌, length, map, take, drop, slice_index, Bool, true, false, ◌&&◌, nat_lt, nat_le, ◌==◌, if◌then◌else◌, Option, Some, None, Vec}
use Rattle.std.specs.Borrow.{Bor}
use Rattle.std.specs.Char.{digit_value}
use Rattle.std.specs.Int.{w16, to_be_bytes}
use Rattle.std.specs.List.{position, list_all, slice_split}
use Rattle.std.specs.Option.{option_map}
use Rattle.std.specs.Str.Parse.{digits_value}
use Rattle.lisp_records.specs.declared.address.Addr.{Addr}
use Rattle.lisp_records.specs.declared.address.Addr.TheVariants.{V4, V6}
use Rattle.lisp_records.specs.declared.locator.Locator.{Locator}
use Rattle.lisp_records.specs.Address.{PrefixValue, max_len, prefix_around}
use Rattle.lisp_records.specs.Record.{MapRecordValue}
use Rattle.lisp_texts.specs.Number.{number_of}

infixl 10 ◌>>=◌
abbrev pub ◌>>=◌ : {A B : Type 0} → Option A → (A → Option B) → Option B
(Some x) >>= f = f x
None >>= f = None

-- the texts that references show
abbrev pub texts : List (Bor (List ℕ)) → List (List ℕ)
texts references = map (λ x. x.now) references

abbrev pub four_texts : Bor (List ℕ) × Bor (List ℕ) × Bor (List ℕ) × Bor (List ℕ) → List ℕ × List ℕ × List ℕ × List ℕ
four_texts q = (q.0.now, q.1.now, q.2.now, q.3.now)

-- the elements of a vector, where there is one
abbrev pub items_of : {X Z : Type 0} → Option (Vec X Z) → Option (List X)
items_of found = option_map (λ v. v.items) found

-- the parts before and after the first mark
unfoldable pub cut : ℕ → List ℕ → Option (List ℕ × List ℕ)
cut mark text = option_map (λ i. (take i text, drop (i + 1) text)) (position (λ b. b == mark) text)

-- the four parts that the first three marks part
unfoldable pub quarters_of : ℕ → List ℕ → Option (List ℕ × List ℕ × List ℕ × List ℕ)
quarters_of mark text = do
  first ← cut mark text
  second ← cut mark first.1
  third ← cut mark second.1
  Some (first.0, second.0, third.0, third.1)

-- a value that passes a test
abbrev pub if_so : {A : Type 0} → Bool → A → Option A
if_so test x = if test then Some x else None

-- a number below a limit; leading zeros are allowed
unfoldable pub number_below : ℕ → List ℕ → Option ℕ
number_below limit text = do
  number ← number_of text
  if_so (nat_lt number limit) number

-- the text begins with a zero, and goes on
abbrev pub is_padded : List ℕ → Bool
is_padded (c ∷ d ∷ text) = c == 48
is_padded text = false

-- a number from 0 to 255 in decimal, without leading zeros
unfoldable pub byte_of : List ℕ → Option ℕ
byte_of text = if is_padded text then None else number_below 256 text

unfoldable pub v4_of : List ℕ → Option (List ℕ)
v4_of text = do
  parts ← quarters_of 46 text
  a ← byte_of parts.0
  b ← byte_of parts.1
  c ← byte_of parts.2
  d ← byte_of parts.3
  Some (a ∷ b ∷ c ∷ d ∷ [])

-- the value of a hexadecimal digit
abbrev pub digit_of : ℕ → Option ℕ
digit_of c = if_so (nat_lt (digit_value c) 16) (digit_value c)

-- the number that one to four hexadecimal digits stand for
unfoldable pub group_of : List ℕ → Option ℕ
group_of text = if_so (nat_lt 0 (length text) && nat_le (length text) 4 && list_all (λ c. nat_lt (digit_value c) 16) text) (digits_value 16 text)

-- the octets of so many groups that a colon follows, and of a last one
unfoldable pub groups_at : ℕ → List ℕ → Option (List ℕ)
groups_at zero text = do
  group ← group_of text
  Some (to_be_bytes w16 group)
groups_at (suc n) text = do
  pieces ← cut 58 text
  group ← group_of pieces.0
  others ← groups_at n pieces.1
  Some (to_be_bytes w16 group ++ others)

abbrev pub v6_of : List ℕ → Option (List ℕ)
v6_of text = groups_at 7 text

-- the first of two that is there
abbrev pub first_of : {A : Type 0} → Option A → Option A → Option A
first_of (Some x) other = Some x
first_of None other = other

unfoldable pub address_of : List ℕ → Option Addr
address_of text = first_of (option_map V4 (v4_of text)) (option_map V6 (v6_of text))

unfoldable pub prefix_of : List ℕ → Option PrefixValue
prefix_of text = do
  pieces ← cut 47 text
  addr ← address_of pieces.0
  mask_len ← byte_of pieces.1
  if_so (nat_le mask_len (max_len addr)) (prefix_around addr mask_len)

-- four numbers below 256, joined by slashes
unfoldable pub numbers_of : List ℕ → Option (List ℕ)
numbers_of text = do
  parts ← quarters_of 47 text
  a ← number_below 256 parts.0
  b ← number_below 256 parts.1
  c ← number_below 256 parts.2
  d ← number_below 256 parts.3
  Some (a ∷ b ∷ c ∷ d ∷ [])

-- the locator with this address and these numbers
abbrev pub located : Addr → List ℕ → Locator
located addr numbers = record {
  priority = slice_index numbers 0;
  weight = slice_index numbers 1;
  m_priority = slice_index numbers 2;
  m_weight = slice_index numbers 3;
  local = true;
  probe = false;
  reachable = true;
  addr = addr;
}

-- a locator whose numbers, if it has some, are cut off
abbrev pub locator_of_parts : List ℕ → Option (List ℕ × List ℕ) → Option Locator
locator_of_parts text None = do
  addr ← address_of text
  Some (located addr (1 ∷ 100 ∷ 255 ∷ 0 ∷ []))
locator_of_parts text (Some parts) = do
  addr ← address_of parts.0
  numbers ← numbers_of parts.1
  Some (located addr numbers)

unfoldable pub locator_of : List ℕ → Option Locator
locator_of text = locator_of_parts text (cut 47 text)

unfoldable pub locators_of : List (List ℕ) → Option (List Locator)
locators_of [] = Some []
locators_of (piece ∷ pieces) = do
  first ← locator_of piece
  others ← locators_of pieces
  Some (first ∷ others)

-- a prefix and a TTL
unfoldable pub front_of : List ℕ → Option (PrefixValue × ℕ)
front_of text = do
  parts ← cut 61 text
  eid ← prefix_of parts.0
  ttl ← number_below (2 ^ 32) parts.1
  Some (eid, ttl)

abbrev pub map_record_of : PrefixValue → ℕ → List Locator → MapRecordValue
map_record_of eid ttl locators = record { ttl = ttl; act = 0; authoritative = true; version = 0; eid = eid; locators = locators }

-- a record from its pieces
unfoldable pub record_of : List (List ℕ) → Option MapRecordValue
record_of [] = None
record_of (piece ∷ pieces) = do
  front ← front_of piece
  locators ← locators_of pieces
  if_so (nat_lt (length locators) 256) (map_record_of front.0 front.1 locators)

-- the pieces between plus signs
abbrev pub pieces_of : List ℕ → List (List ℕ)
pieces_of text = slice_split (λ b. b == 43) text

abbrev pub record_text_of : List ℕ → Option MapRecordValue
record_text_of text = record_of (pieces_of text)
