-- Index: the rows in order of prefix and of deadline, as lists of their numbers (RFC 9301 section 8.2).
use Rattle.std.specs.Prelude.{◌≡◌, ◌≢◌, ℕ, ◌+◌, ◌-◌, ◌^◌, ◌<◌, ◌≤◌, ◌==◌, Bool, true, false, if◌then◌else◌, min, List, ◌∷◌, length, slice_index, slice_index_or, slice_set, Option}
use Rattle.std.specs.List.{All, Contains, position, swap_remove}
use Rattle.std.specs.List.Sorted.{IsPermutation}
use Rattle.std.specs.declared.cmp.Ordering.{Ordering}
use Rattle.std.specs.declared.cmp.Ordering.TheVariants.{Less}
use Rattle.std.specs.Ordering.{nat_cmp, ordering_then, is_lt}
use Rattle.lisp_records.specs.Address.{PrefixValue, IsPrefix, prefix_cmp}
use Rattle.lisp_records.specs.Router.{router_cmp}
use Rattle.lisp_records.specs.Row.{RowValue, is_alive}
use Rattle.lisp_lookup.specs.Table.{is_row_of, row_key}
use Rattle.lisp_lookup.specs.declared.order.Order.{Order}
use Rattle.lisp_lookup.specs.declared.order.Order.TheVariants.{ByPrefix, ByDeadline}
use Rattle.lisp_lookup.specs.declared.probe.Probe.{Probe}
use Rattle.lisp_lookup.specs.declared.probe.Probe.TheVariants.{Prefix, Row}

-- from when on a row is dead, in ms: always, where it has no life
abbrev pub deadline : RowValue → ℕ
deadline h = if h.life == 0 then 0 else min (h.accepted + h.life) (2 ^ 64 - 1)

-- the order of rows by prefix, then router
abbrev pub row_prefix_cmp : RowValue → RowValue → Ordering
row_prefix_cmp a b = ordering_then (prefix_cmp a.mapping.eid b.mapping.eid) (router_cmp a.router b.router)

-- the order of rows by deadline; of equal ones by prefix, then router
abbrev pub row_deadline_cmp : RowValue → RowValue → Ordering
row_deadline_cmp a b = ordering_then (nat_cmp (deadline a) (deadline b)) (row_prefix_cmp a b)

abbrev pub order_cmp : Order → RowValue → RowValue → Ordering
order_cmp ByPrefix = row_prefix_cmp
order_cmp ByDeadline = row_deadline_cmp

-- the row whose number stands at a place
abbrev pub row_at_place : List RowValue → List ℕ → ℕ → RowValue → RowValue
row_at_place rows numbers place d = slice_index_or rows (slice_index numbers place) d

-- rows, and the numbers of some of them in an order
pub record CountedRowsValue : Type 0 where
  pub rows : List RowValue
  pub numbers : List ℕ

-- the row is the one at a place in their order
abbrev pub IsRowAt : CountedRowsValue → ℕ → RowValue → Type 0
IsRowAt counted place h = (d : RowValue) → h ≡ row_at_place counted.rows counted.numbers place d

-- each is the number of a row
abbrev pub AreNumbersOf : List RowValue → List ℕ → Type 0
AreNumbersOf rows numbers = (k : ℕ) → k < length numbers → slice_index numbers k < length rows

-- numbers of rows, in rising order of these rows
pub record Rises (cmp : RowValue → RowValue → Ordering) (rows : List RowValue) (numbers : List ℕ) : Type 0 where
  pub below : AreNumbersOf rows numbers
  pub rising : (i j : ℕ) (d : RowValue) → i < j → j < length numbers → cmp (row_at_place rows numbers i d) (row_at_place rows numbers j d) ≡ Less

-- the number of each row, in rising order of the rows
pub record IsIndex (cmp : RowValue → RowValue → Ordering) (rows : List RowValue) (numbers : List ℕ) : Type 0 where
  pub rises : Rises cmp rows numbers
  pub each : (n : ℕ) → n < length rows → Contains numbers n

-- both orders of the rows, whose prefixes are blocks
pub record Indexed (rows : List RowValue) (prefixes deadlines : List ℕ) : Type 0 where
  pub eids : All (λ h. IsPrefix h.mapping.eid) rows
  pub by_prefix : IsIndex row_prefix_cmp rows prefixes
  pub by_deadline : IsIndex row_deadline_cmp rows deadlines

-- the number of the row of the same router and prefix
abbrev pub own_number : List RowValue → RowValue → Option ℕ
own_number rows h = position (is_row_of h.router h.mapping.eid) rows

-- a row at this place, if there is one, is of another router or prefix
abbrev pub IsAnotherAt : List RowValue → List ℕ → ℕ → RowValue → Type 0
IsAnotherAt rows numbers place h = place < length numbers → is_row_of h.router h.mapping.eid (row_at_place rows numbers place h) ≡ false

-- the number is that of a row which is dead at a moment
abbrev pub IsDeadAt : List RowValue → ℕ → ℕ → Type 0
IsDeadAt rows now number = number < length rows × ((d : RowValue) → is_alive (slice_index_or rows number d) now ≡ false)

-- a row stands before what is sought
abbrev pub is_before : {A : Type 0} → Probe A → RowValue → Bool
is_before (Prefix eid) h = is_lt (prefix_cmp h.mapping.eid eid)
is_before (Row order sought) h = is_lt (order_cmp order h sought.now)

-- what stands before a row that stands before what is sought does so too
abbrev pub Falls : {A : Type 0} → Probe A → List RowValue → List ℕ → Type 0
Falls probe rows numbers = (i j : ℕ) (d : RowValue) → i < j → j < length numbers → is_before probe (row_at_place rows numbers j d) ≡ true → is_before probe (row_at_place rows numbers i d) ≡ true

-- the first place whose row doesn't stand before what is sought
pub record IsBound {A : Type 0} (probe : Probe A) (rows : List RowValue) (numbers : List ℕ) (place : ℕ) : Type 0 where
  pub within : place ≤ length numbers
  pub before : (i : ℕ) (d : RowValue) → i < place → is_before probe (row_at_place rows numbers i d) ≡ true
  pub after : (i : ℕ) (d : RowValue) → place ≤ i → i < length numbers → is_before probe (row_at_place rows numbers i d) ≡ false

-- the first place whose row doesn't stand before a prefix
abbrev pub IsFirstOf : PrefixValue → List RowValue → List ℕ → ℕ → Type 0
IsFirstOf eid = IsBound {A = Unit {0}} (Prefix eid)

-- a number was taken out, and no other
pub record IsTakenOut (order : Order) (rows : List RowValue) (old new : List ℕ) (number : ℕ) : Type 0 where
  pub rises : Rises (order_cmp order) rows new
  pub others : (n : ℕ) → Contains old n → n ≢ number → Contains new n
  pub gone : (k : ℕ) → k < length new → slice_index new k ≢ number

-- no number is that of a row of the same router and prefix
abbrev pub IsFresh : List RowValue → List ℕ → ℕ → Type 0
IsFresh rows numbers number = (k : ℕ) (d : RowValue) → k < length numbers → row_key (row_at_place rows numbers k d) ≢ row_key (slice_index_or rows number d)

-- a number was put in
pub record IsPutIn (order : Order) (rows : List RowValue) (old new : List ℕ) (number : ℕ) : Type 0 where
  pub rises : Rises (order_cmp order) rows new
  pub others : (n : ℕ) → Contains old n → Contains new n
  pub here : Contains new number

-- a number was put in the place of another
pub record IsRenumbered (old new : List ℕ) (from to : ℕ) : Type 0 where
  pub place : ℕ
  pub within : place < length old
  pub was : slice_index old place ≡ from
  pub is : new ≡ slice_set old place to

-- the numbers in an order of the rows that are left where one is taken out and the last one gets its number
abbrev pub IsIndexWithout : Order → List RowValue → List ℕ → ℕ → Type 0
IsIndexWithout order rows numbers number = (d : RowValue) → IsIndex (order_cmp order) (swap_remove rows number d) numbers

-- the row of a number was taken out; the rest may stand in another order
pub record IsRemoved (old new : List RowValue) (number : ℕ) : Type 0 where
  pub row : RowValue
  pub was : row ≡ slice_index_or old number row
  pub moved : IsPermutation old (row ∷ new)
