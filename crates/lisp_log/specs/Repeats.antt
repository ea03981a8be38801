-- Lines of one second that repeat: of each thing with each source the first is told, and the others are counted.
use Rattle.std.specs.Prelude.{◌≡◌, ◌⊎◌, ℕ, ◌+◌, ◌-◌, ◌^◌, ◌<◌, ◌≤◌, Bool, true, false, List, [], ◌∷◌, ◌++◌, length, slice_get, slice_set, Some}
use Rattle.std.specs.List.{Contains}
use Rattle.lisp_records.specs.declared.address.Addr.{Addr}
use Rattle.lisp_log.specs.declared.repeats.Repeat.{Repeat}
use Rattle.lisp_log.specs.declared.repeats.Repeated.{Repeated}
use Rattle.lisp_log.specs.declared.repeats.Source.{Source}
use Rattle.lisp_log.specs.declared.repeats.Source.TheVariants.{Address, Others}

-- how many addresses are told apart, and how many entries there are, at most
abbrev pub most_addresses : ℕ
most_addresses = 64

abbrev pub most_entries : ℕ
most_entries = 144

-- the entry is that of what repeats with a source; and there is one
abbrev pub IsOf : Repeated → Source → Repeat → Type 0
IsOf what source r = (r.what ≡ what) × (r.source ≡ source)

abbrev pub HasEntry : List Repeat → Repeated → Source → Type 0
HasEntry entries what source = (r : Repeat) × Contains entries r × IsOf what source r

abbrev pub HasEntryAt : List Repeat → Repeated → Source → ℕ → Type 0
HasEntryAt entries what source place = (r : Repeat) × (slice_get entries place ≡ Some r) × IsOf what source r

-- an address is told apart if it was before, or if few are; else it is one of the others
abbrev pub IsSource : List Repeat → Repeated → Addr → Source → Type 0
IsSource entries what from (Address a) = (a ≡ from) × (HasEntry entries what (Address from) ⊎ (length entries < most_addresses))
IsSource entries what from Others = (HasEntry entries what (Address from) → ⊥) × (most_addresses ≤ length entries)

-- an entry is made, where there is room
abbrev pub Notes : List Repeat → List Repeat → Repeated → Source → Type 0
Notes old new what source = (new ≡ old ++ record { what = what; source = source; times = 0 } ∷ []) ⊎ ((most_entries ≤ length old) × (new ≡ old))

-- a line is the first of what repeats with its source; where there is no room for it, it is told all the same
pub record IsFirst (old new : List Repeat) (what : Repeated) (source : Source) : Type 0 where
  pub first : HasEntry old what source → ⊥
  pub noted : Notes old new what source

-- it is counted; where the count is at its end, it is told
pub record IsCounted (old new : List Repeat) (what : Repeated) (source : Source) : Type 0 where
  pub place : ℕ
  pub entry : Repeat
  pub there : slice_get old place ≡ Some entry
  pub its : IsOf what source entry
  pub counted : new ≡ slice_set old place (record entry { times = entry.times + 1 })

pub record IsUncountable (old new : List Repeat) (what : Repeated) (source : Source) : Type 0 where
  pub entry : Repeat
  pub there : Contains old entry
  pub its : IsOf what source entry
  pub full : entry.times ≡ 2 ^ 64 - 1
  pub same : new ≡ old

abbrev pub TellsOf : List Repeat → List Repeat → Repeated → Source → Bool → Type 0
TellsOf old new what source true = IsFirst old new what source ⊎ IsUncountable old new what source
TellsOf old new what source false = IsCounted old new what source

-- whether a line of what repeats, which names an address, is told
abbrev pub TellsEvent : List Repeat → List Repeat → Repeated → Addr → Bool → Type 0
TellsEvent old new what from told = (source : Source) × IsSource old what from source × TellsOf old new what source told

-- an event of a second that may repeat others: what it is, the address that its line names, and whether it was told
pub record Event : Type 0 where
  pub what : Repeated
  pub from : Addr
  pub told : Bool

-- the events of a second, the newest first, leave these entries
abbrev pub Leaves : List Event → List Repeat → Type 0
Leaves [] entries = entries ≡ []
Leaves (e ∷ earlier) entries = (before : List Repeat) × Leaves earlier before × TellsEvent before entries e.what e.from e.told

-- To be said of them by a law: of each thing that repeats the entries' times make up just how many of its events weren't told; and before
-- each that wasn't told, one of the same was.
