-- Parts: a message carries at most 255 records, so that a large database is registered in several messages, each with
-- one part of it (RFC 9301 section 5.6). At most 16,384 bytes of records go into one is this project's profile.
use Rattle.std.specs.Prelude.{◌≡◌, ◌≢◌, ℕ, ◌+◌, ◌<◌, ◌≤◌, nat_le, ⊤, Bool, true, false, ◌&&◌, List, [], ◌∷◌, ◌++◌, length, take, slice_range, slice_index, slice_index_or, if◌then◌else◌}
use Rattle.std.specs.List.{AllByRecursion, Contains, flat_map, sum_by}
use Rattle.lisp_records.specs.Record.{MapRecordValue}
use Rattle.lisp_records.specs.Written.{written}

-- the bytes of the written spellings of records
abbrev pub size : List MapRecordValue → ℕ
size ms = sum_by (λ m. length (written m)) ms

-- one message can carry them
abbrev pub fits_message : List MapRecordValue → Bool
fits_message ms = nat_le (length ms) 255 && nat_le (size ms) 16384

-- a database has at most so many parts
abbrev pub most_parts : ℕ
most_parts = 16

-- parts are full: none but the last could also take the first record of the next one
unfoldable pub AreFull : List (List MapRecordValue) → Type 0
AreFull [] = ⊤
AreFull (part ∷ []) = ⊤
AreFull (part ∷ next ∷ parts) = (fits_message (part ++ take 1 next) ≡ false) × AreFull (next ∷ parts)

-- parts are those of records: joined they are the records in their order, each fits a message and is full, and none is
-- empty, but that no records have one empty part
pub record IsCut (ms : List MapRecordValue) (parts : List (List MapRecordValue)) : Type 0 where
  pub joined : flat_map (λ part. part) parts ≡ ms
  pub fit : AllByRecursion (λ part. fits_message part ≡ true) parts
  pub full : AreFull parts
  pub some : ms ≢ [] → AllByRecursion (λ part. part ≢ []) parts
  pub none : ms ≡ [] → parts ≡ [] ∷ []

-- the parts of records of which the first begins with these: a record goes into the present part where one message can
-- still carry it, and else begins the next one
unfoldable pub cut_from : List MapRecordValue → List MapRecordValue → List (List MapRecordValue)
cut_from part [] = part ∷ []
cut_from part (m ∷ ms) = if fits_message (part ++ m ∷ []) then cut_from (part ++ m ∷ []) ms else part ∷ cut_from (m ∷ []) ms

-- the parts of a database
unfoldable pub cut : List MapRecordValue → List (List MapRecordValue)
cut ms = cut_from [] ms

-- how many there are
abbrev pub part_count : List MapRecordValue → ℕ
part_count ms = length (cut ms)

-- one of them, from 0 on
abbrev pub part_at : List MapRecordValue → ℕ → List MapRecordValue
part_at ms part = slice_index_or (cut ms) part []

-- each record fits a message alone
abbrev pub EachFitsAlone : List MapRecordValue → Type 0
EachFitsAlone ms = AllByRecursion (λ m. fits_message (m ∷ []) ≡ true) ms

-- a record is in one of the parts, and in no other
abbrev pub IsInOnePart : List MapRecordValue → MapRecordValue → Type 0
IsInOnePart ms m = (part : ℕ) × (part < part_count ms) × Contains (part_at ms part) m × ((other : ℕ) → Contains (part_at ms other) m → other ≡ part)

-- a part is the records from one place to another
pub record IsRange (ms part : List MapRecordValue) (start end : ℕ) : Type 0 where
  pub is : part ≡ slice_range ms start end
  pub rises : start ≤ end
  pub within : end ≤ length ms

-- numbers say where each part of records begins, and where the last one ends
pub record AreStarts (ms : List MapRecordValue) (starts : List ℕ) (parts : ℕ) : Type 0 where
  pub count : parts ≡ part_count ms
  pub ranges : (part : ℕ) → part < parts → IsRange ms (part_at ms part) (slice_index starts part) (slice_index starts (part + 1))
