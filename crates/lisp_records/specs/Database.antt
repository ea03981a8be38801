-- What a router registers: at most 1,024 records of different EID-Prefixes, in at most 16 parts.
use Rattle.std.specs.Prelude.{◌≡◌, ◌≢◌, ℕ, ◌<◌, nat_lt, Bool, false, ◌||◌, List, [], ◌∷◌, length, map, reverse, Option, Some, Result, Ok, Err, if◌then◌else◌}
use Rattle.std.specs.List.{AllPairs, find, list_any}
use Rattle.std.specs.declared.cmp.Ordering.TheVariants.{Less}
use Rattle.lisp_records.specs.declared.database.DatabaseFault.{DatabaseFault}
use Rattle.lisp_records.specs.declared.database.DatabaseFault.TheVariants.{RepeatedPrefix, TooLarge}
use Rattle.lisp_records.specs.Address.{PrefixValue, prefix_eq, prefix_cmp}
use Rattle.lisp_records.specs.Record.{MapRecordValue}
use Rattle.lisp_records.specs.Parts.{fits_message, most_parts, part_count, part_at, EachFitsAlone, AreStarts}

-- whether a record is of this EID-Prefix
abbrev pub has_prefix : PrefixValue → List MapRecordValue → Bool
has_prefix eid ms = list_any (λ m. prefix_eq eid m.eid) ms

-- whether some record's EID-Prefix occurs again later
unfoldable pub repeats : List MapRecordValue → Bool
repeats [] = false
repeats (m ∷ ms) = has_prefix m.eid ms || repeats ms

-- the EID-Prefixes of each two records differ
abbrev pub PrefixesDiffer : List MapRecordValue → Type 0
PrefixesDiffer ms = AllPairs (λ a b. a ≢ b) (map (λ m. m.eid) ms)

-- records stand in rising order of their EID-Prefixes
abbrev pub PrefixesRise : List MapRecordValue → Type 0
PrefixesRise ms = AllPairs (λ a b. prefix_cmp a.eid b.eid ≡ Less) ms

-- two lists of records, where both rise, are one
abbrev pub SameIfRising : List MapRecordValue → List MapRecordValue → Type 0
SameIfRising one other = PrefixesRise one → PrefixesRise other → one ≡ other

-- the records that a router may register, or why it may not
abbrev pub database_of : List MapRecordValue → Result (List MapRecordValue) DatabaseFault
database_of ms = if nat_lt 1024 (length ms) then Err TooLarge else (if repeats ms then Err RepeatedPrefix else (if nat_lt most_parts (part_count ms) then Err TooLarge else Ok ms))

-- the record that a database has for a prefix: of several the last one
abbrev pub record_for : List MapRecordValue → PrefixValue → Option MapRecordValue
record_for ms eid = find (λ m. prefix_eq m.eid eid) (reverse ms)

-- a part has this record for a prefix
abbrev pub IsFoundInAPart : List MapRecordValue → PrefixValue → MapRecordValue → Type 0
IsFoundInAPart ms eid m = (part : ℕ) × (part < part_count ms) × (record_for (part_at ms part) eid ≡ Some m)

-- one message can carry the second list where it can carry the first, and no other way
abbrev pub FitAlike : List MapRecordValue → List MapRecordValue → Type 0
FitAlike one other = fits_message other ≡ fits_message one

-- what a database keeps: records that a router may register, which each fit a message, and where their parts begin
pub record IsDatabase (ms : List MapRecordValue) (starts : List ℕ) (parts : ℕ) : Type 0 where
  pub known : database_of ms ≡ Ok ms
  pub alone : EachFitsAlone ms
  pub begun : AreStarts ms starts parts
