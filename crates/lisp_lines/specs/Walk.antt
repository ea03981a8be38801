-- How far the live rows of a Map-Server were looked at, one after the other.
use Rattle.std.specs.Prelude.{◌≡◌, ℕ, Bool, IsTrue, ◌+◌, ◌-◌, ◌^◌, ◌<◌, ◌≤◌, nat_lt, min, List, [], ◌∷◌, ◌++◌, length, Option, Some, None}
use Rattle.lisp_lookup.specs.Table.{live_from}
use Rattle.lisp_records.specs.Row.{RowValue}
use Rattle.lisp_lines.specs.declared.walk.Walk.{Walk}

-- each row has a place that is a number of 64 bits; no memory has more rows
abbrev pub HavePlaces : List RowValue → Type 0
HavePlaces rows = length rows < 2 ^ 64

-- a count stops at 2^64 - 1
abbrev pub up_to_most : ℕ → ℕ
up_to_most n = min n (2 ^ 64 - 1)

-- of the rows that are alive at a moment none was looked at
abbrev pub walk_start : ℕ → Walk
walk_start now = record { moment = now; place = 0; rows = 0 }

-- the live rows that were not looked at yet
abbrev pub left_of : List RowValue → Walk → List RowValue
left_of rows walk = live_from rows walk.place walk.moment

-- the moment stays, and so many more were looked at
abbrev pub GoesOn : Walk → Walk → ℕ → Type 0
GoesOn old new more = new ≡ record old { place = new.place; rows = up_to_most (old.rows + more) }

-- the next live row was looked at; or there is none
abbrev pub LooksAt : List RowValue → Walk → Walk → Option RowValue → Type 0
LooksAt rows old new (Some h) = GoesOn old new 1 × (HavePlaces rows → left_of rows old ≡ h ∷ left_of rows new)
LooksAt rows old new None = (new ≡ old) × (left_of rows old ≡ [])

-- these are the next live rows, so many; or fewer, and then none is left
pub record Takes (rows : List RowValue) (old new : Walk) (most : ℕ) (is_end : Bool) (taken : List RowValue) : Type 0 where
  pub left : HavePlaces rows → left_of rows old ≡ taken ++ left_of rows new
  pub goes_on : GoesOn old new (length taken)
  pub few : length taken ≤ most
  pub fewer : is_end ≡ nat_lt (length taken) most
  pub end : IsTrue is_end → left_of rows new ≡ []

abbrev pub TakesSome : List RowValue → Walk → Walk → ℕ → Bool → Type 0
TakesSome rows old new most is_end = (taken : List RowValue) × Takes rows old new most is_end taken
