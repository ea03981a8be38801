-- What the entries of a second tell of its events, and what becomes of it where there is no room for it.
use Rattle.std.specs.Prelude.{◌≡◌, ℕ, ◌+◌, ◌^◌, ◌<◌, ◌≤◌, nat_eq, Bool, true, false, not, ◌&&◌, List, [], ◌∷◌, ◌++◌, sum_by, count_by, if◌then◌else◌}
use Rattle.std.specs.Bool.{⊤, Decides}
use Rattle.std.specs.List.{AllPairs, Contains, flat_map}
use Rattle.lisp_records.specs.declared.address.Addr.{Addr}
use Rattle.lisp_records.specs.Address.{addr_eq}
use Rattle.lisp_log.specs.declared.repeats.Repeat.{Repeat}
use Rattle.lisp_log.specs.declared.repeats.Repeated.{Repeated}
use Rattle.lisp_log.specs.declared.repeats.Repeated.TheVariants.{Refused, Replied, Negative, Forwarded, Unanswered}
use Rattle.lisp_log.specs.declared.repeats.Source.{Source}
use Rattle.lisp_log.specs.declared.repeats.Source.TheVariants.{Address, Others}
use Rattle.lisp_log.specs.Repeats.{Event, Leaves, HasEntry, IsOf, most_addresses}
use Rattle.lisp_log.specs.Waiting.{WaitingState}
use Rattle.lisp_log.specs.Log.{Sum, PutsAll, sums as sums_of}

-- whether both are the same; and that it says so
abbrev pub repeated_eq : Repeated → Repeated → Bool
repeated_eq (Refused number) (Refused other) = nat_eq number other
repeated_eq Replied Replied = true
repeated_eq Negative Negative = true
repeated_eq Forwarded Forwarded = true
repeated_eq Unanswered Unanswered = true
repeated_eq _ _ = false

abbrev pub EqualIsSame : Type 0
EqualIsSame = (one other : Repeated) → Decides (repeated_eq one other) (one ≡ other)

-- how many events weren't told; how many of what repeats; and how many of those name an address
abbrev pub count_all_untold : List Event → ℕ
count_all_untold events = count_by (λ e. not e.told) events

abbrev pub count_untold : Repeated → List Event → ℕ
count_untold what events = count_by (λ e. repeated_eq e.what what && not e.told) events

abbrev pub count_untold_from : Repeated → Addr → List Event → ℕ
count_untold_from what from events = count_by (λ e. repeated_eq e.what what && addr_eq e.from from && not e.told) events

-- whether a source names an address; and whether it names this one
abbrev pub names_one : Source → Bool
names_one (Address a) = true
names_one Others = false

abbrev pub names : Addr → Source → Bool
names from (Address a) = addr_eq a from
names from Others = false

-- the times of what repeats; and those with an address
abbrev pub times_of : Repeated → List Repeat → ℕ
times_of what entries = sum_by (λ e. if repeated_eq e.what what then e.times else 0) entries

abbrev pub times_from : Repeated → Addr → List Repeat → ℕ
times_from what from entries = sum_by (λ e. if repeated_eq e.what what && names from e.source then e.times else 0) entries

-- how many events sums tell
abbrev pub events_in : List Sum → ℕ
events_in all = sum_by (λ s. s.events) all

-- an event of what repeats was told
abbrev pub WasTold : List Event → Repeated → Type 0
WasTold events what = (e : Event) × Contains events e × (e.what ≡ what) × (e.told ≡ true)

-- each that wasn't told repeats an earlier one of the same that was
abbrev pub EachRepeats : List Event → Type 0
EachRepeats [] = ⊤
EachRepeats (e ∷ earlier) = (e.told ≡ false → WasTold earlier e.what) × EachRepeats earlier

-- nothing is lost: the times of each thing that repeats make up how many of its events weren't told, and so do those with each address
-- that is told apart; and the sums tell just so many events as weren't told
pub record TellAll (events : List Event) (entries : List Repeat) : Type 0 where
  pub repeats : EachRepeats events
  pub sums : (what : Repeated) → times_of what entries ≡ count_untold what events
  pub sums_from : (what : Repeated) (from : Addr) → HasEntry entries what (Address from) → times_from what from entries ≡ count_untold_from what from events
  pub all : (name : List ℕ) → events_in (sums_of name entries) ≡ count_all_untold events
  pub one_each : AllPairs (λ one other. IsOf one.what one.source other → ⊥) entries
  pub few : count_by (λ e. names_one e.source) entries ≤ most_addresses

abbrev pub SumsTellAll : Type 0
SumsTellAll = (events : List Event) (entries : List Repeat) → Leaves events entries → TellAll events entries

-- where sums are put in turn, the first of them wait, whole, and the events of the others are counted as dropped
pub record Waits (old new : WaitingState) (all : List Sum) : Type 0 where
  pub first : List Sum
  pub others : List Sum
  pub all_are : all ≡ first ++ others
  pub bytes : new.bytes ≡ old.bytes ++ flat_map (λ s. s.text) first
  pub dropped : new.dropped ≡ old.dropped + events_in others

-- so where the sums of a second are put, each event that wasn't told is in a sum that waits, or is counted as dropped
pub record CountsAll (events : List Event) (old new : WaitingState) (all : List Sum) : Type 0 where
  pub waits : Waits old new all
  pub none_lost : events_in waits.first + events_in waits.others ≡ count_all_untold events

abbrev pub DroppedSumsAreCounted : Type 0 → Type 0
DroppedSumsAreCounted may_refuse = (events : List Event) (entries : List Repeat) (name : List ℕ) (old new : WaitingState) → Leaves events entries
    → PutsAll may_refuse old new (sums_of name entries) → old.dropped + count_all_untold events < 2 ^ 64 → CountsAll events old new (sums_of name entries)
