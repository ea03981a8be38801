-- Reading a record from left to right, with the first fault that is met.
use Rattle.std.specs.Prelude.{◌≡◌, ℕ, zero, suc, ◌+◌, ◌*◌, ◌/◌, ◌%◌, ◌<◌, List, [], ◌∷◌, ◌++◌, length, take, drop, Result, Ok, Err, Bool, nat_lt, ◌==◌, if◌then◌else◌, slice_index, IsErrOf}
use Rattle.std.specs.Int.{w16, w32, from_be_bytes}
use Rattle.lisp_records.specs.declared.address.Addr.{Addr}
use Rattle.lisp_records.specs.declared.address.Addr.TheVariants.{V4, V6}
use Rattle.lisp_records.specs.declared.address.Family.{Family}
use Rattle.lisp_records.specs.declared.address.Family.TheVariants.{Ipv4, Ipv6}
use Rattle.lisp_records.specs.declared.locator.Locator.{Locator}
use Rattle.lisp_records.specs.Result.{◌>>=◌}
use Rattle.lisp_records.specs.declared.fault.RecordFault.{RecordFault}
use Rattle.lisp_records.specs.declared.fault.RecordFault.TheVariants.{Short, Afi, Mask, OutOfMemory}
use Rattle.lisp_records.specs.Address.{width, prefix_around}
use Rattle.lisp_records.specs.Record.{MapRecordValue}
use Rattle.lisp_records.specs.Spelling.{Spells}
use Rattle.lisp_records.specs.Written.{written}

-- a fault is the one that reading meets, except that out of memory may come at any time
abbrev pub Fails : {Y : Type 0} → RecordFault → Result Y RecordFault → Type 0
Fails OutOfMemory read = Unit {0}
Fails Short read = read ≡ Err Short
Fails Afi read = read ≡ Err Afi
Fails Mask read = read ≡ Err Mask

-- what a function answers, seen by view, is what reading gives
abbrev pub Gives : {X Y : Type 0} → (X → Y) → Result X RecordFault → Result Y RecordFault → Type 0
Gives view (Ok x) read = read ≡ Ok (view x)
Gives view (Err e) read = Fails e read

-- what holds where a function answers that it is out of memory
abbrev pub IfOutOfMemory : {X : Type 0} → Result X RecordFault → Type 0 → Type 0
IfOutOfMemory result P = IsErrOf result OutOfMemory → P

-- the bytes after a field of so many
abbrev pub after : ℕ → List ℕ → Result (List ℕ) RecordFault
after n bytes = if nat_lt (length bytes) n then Err Short else Ok (drop n bytes)

-- two bytes as a number
abbrev pub number_at : List ℕ → ℕ → ℕ
number_at bytes at = from_be_bytes w16 (slice_index bytes at ∷ slice_index bytes (at + 1) ∷ [])

abbrev pub family_of : ℕ → Result Family RecordFault
family_of number = if number == 1 then Ok Ipv4 else (if number == 2 then Ok Ipv6 else Err Afi)

abbrev pub address_of : Family → List ℕ → Addr
address_of Ipv4 bytes = V4 (take 4 bytes)
address_of Ipv6 bytes = V6 (take 16 bytes)

-- an address of a family, and the bytes after it
unfoldable pub address_at : Family → List ℕ → Result (Addr × List ℕ) RecordFault
address_at f bytes = do
  rest ← after (width f) bytes
  Ok (address_of f bytes, rest)

-- a mask that fits its family
abbrev pub mask_of : Family → ℕ → Result ℕ RecordFault
mask_of f mask_len = if nat_lt (8 * width f) mask_len then Err Mask else Ok mask_len

-- an address of the family that an AFI field names, where a mask of so many bits fits it
abbrev pub named_at : ℕ → ℕ → List ℕ → Result (Addr × List ℕ) RecordFault
named_at number mask_len bytes = do
  f ← family_of number
  _ ← mask_of f mask_len
  address_at f bytes

-- whether a bit of the flags is set, by what it is worth
abbrev pub is_set : ℕ → ℕ → Bool
is_set flags worth = flags / worth % 2 == 1

abbrev pub locator_of : List ℕ → Addr → Locator
locator_of bytes addr = record {
  priority = slice_index bytes 0;
  weight = slice_index bytes 1;
  m_priority = slice_index bytes 2;
  m_weight = slice_index bytes 3;
  local = is_set (slice_index bytes 5) 4;
  probe = is_set (slice_index bytes 5) 2;
  reachable = is_set (slice_index bytes 5) 1;
  addr = addr;
}

unfoldable pub locator_at : List ℕ → Result (Locator × List ℕ) RecordFault
locator_at bytes = do
  rest ← after 8 bytes
  f ← family_of (number_at bytes 6)
  addr ← address_at f rest
  Ok (locator_of bytes addr.0, addr.1)

unfoldable pub locators_at : ℕ → List ℕ → Result (List Locator × List ℕ) RecordFault
locators_at zero bytes = Ok ([], bytes)
locators_at (suc n) bytes = do
  first ← locator_at bytes
  others ← locators_at n first.1
  Ok (first.0 ∷ others.0, others.1)

abbrev pub map_record_of : List ℕ → Addr → List Locator → MapRecordValue
map_record_of bytes addr locators = record {
  ttl = from_be_bytes w32 (take 4 bytes);
  act = slice_index bytes 6 / 32;
  authoritative = is_set (slice_index bytes 6) 16;
  version = slice_index bytes 8 % 16 * 256 + slice_index bytes 9;
  eid = prefix_around addr (slice_index bytes 5);
  locators = locators;
}

-- the address of a record's EID-Prefix, and the bytes after it, which are those of its locators; nothing takes memory
-- so far
unfoldable pub start_at : List ℕ → Result (Addr × List ℕ) RecordFault
start_at bytes = do
  rest ← after 12 bytes
  f ← family_of (number_at bytes 10)
  mask_len ← mask_of f (slice_index bytes 5)
  address_at f rest

unfoldable pub record_at : List ℕ → Result (MapRecordValue × List ℕ) RecordFault
record_at bytes = do
  addr ← start_at bytes
  locators ← locators_at (slice_index bytes 4) addr.1
  Ok (map_record_of bytes addr.0 locators.0, locators.1)

-- a function gives each record that is spelled at a place, whatever follows it, with the place after it
abbrev pub GivesSpelling : List ℕ → ℕ → Result (MapRecordValue × ℕ) RecordFault → Type 0
GivesSpelling bytes at result = (m : MapRecordValue) (text rest : List ℕ) → Spells text m → drop at bytes ≡ text ++ rest → Gives (λ x. x) result (Ok (m, at + length text))

-- what is written of a record is read again, and what follows it is left
abbrev pub ReadsBack : MapRecordValue → List ℕ → Type 0
ReadsBack m rest = record_at (written m ++ rest) ≡ Ok (m, rest)

-- the Locator Count is not 0: only then reading a record takes memory
abbrev pub HasLocators : List ℕ → Type 0
HasLocators bytes = 0 < slice_index bytes 4
