-- The rows that a Map-Server holds, one for each router and EID-Prefix (RFC 9301 section 8.2).
use Rattle.std.specs.Prelude.{◌≡◌, ◌≢◌, ◌↔◌, ℕ, Bool, false, ◌&&◌, ◌<◌, ◌≤◌, ◌+◌, List, ◌∷◌, drop, length, reverse, slice_get, if◌then◌else◌, Option, Some, None}
use Rattle.std.specs.List.{AllPairs, Contains, count_by, filter, find}
use Rattle.std.specs.Option.{option_or, option_and_then}
use Rattle.std.specs.declared.cmp.Ordering.{Ordering}
use Rattle.std.specs.declared.cmp.Ordering.TheVariants.{Less}
use Rattle.std.specs.Ordering.{is_lt, ordering_then}
use Rattle.lisp_records.specs.declared.router.RouterId.{RouterId}
use Rattle.lisp_records.specs.Address.{PrefixValue, prefix_eq, prefix_cmp}
use Rattle.lisp_records.specs.Router.{router_eq, router_cmp}
use Rattle.lisp_records.specs.Row.{RowValue, IsAlive, is_alive}

-- the rows, and how many more there is room for
pub record TableState : Type 0 where
  pub rows : List RowValue
  pub spare : ℕ

-- the row is that of a router and a prefix
abbrev pub is_row_of : RouterId → PrefixValue → RowValue → Bool
is_row_of router eid h = router_eq h.router router && prefix_eq h.mapping.eid eid

-- the row of a router and a prefix
unfoldable pub row_at : List RowValue → RouterId → PrefixValue → Option RowValue
row_at rows router eid = find (is_row_of router eid) rows

-- what there is one row for
abbrev pub row_key : RowValue → RouterId × PrefixValue
row_key h = (h.router, h.mapping.eid)

-- no two rows are of one router and prefix
abbrev pub OneEach : List RowValue → Type 0
OneEach rows = AllPairs (λ a b. row_key a ≢ row_key b) rows

-- of several rows for a router and a prefix the last
abbrev pub last_of : List RowValue → RouterId → PrefixValue → Option RowValue
last_of given router eid = find (is_row_of router eid) (reverse given)

-- the given rows were set, of several for a router and a prefix the last; all others are as they were
abbrev pub Sets : List RowValue → List RowValue → List RowValue → Type 0
Sets old new given = (router : RouterId) (eid : PrefixValue) → row_at new router eid ≡ option_or (last_of given router eid) (row_at old router eid)

-- a row, where it is alive
abbrev pub if_alive : ℕ → RowValue → Option RowValue
if_alive now h = if is_alive h now then Some h else None

-- the dead rows were taken out, and no other
abbrev pub Expires : List RowValue → List RowValue → ℕ → Type 0
Expires old new now = (router : RouterId) (eid : PrefixValue) → row_at new router eid ≡ option_and_then (if_alive now) (row_at old router eid)

-- the row of a router and a prefix, which was dead, was taken out, and no other
pub record DropsDead (old new : List RowValue) (now : ℕ) (key : RouterId × PrefixValue) : Type 0 where
  pub row : RowValue
  pub was : row_at old key.0 key.1 ≡ Some row
  pub dead : is_alive row now ≡ false
  pub gone : row_at new key.0 key.1 ≡ None
  pub others : (router : RouterId) (eid : PrefixValue) → (router, eid) ≢ key → row_at new router eid ≡ row_at old router eid
  pub fewer : length new < length old

-- the order of rows: by router, then by prefix
abbrev pub row_cmp : RowValue → RowValue → Ordering
row_cmp a b = ordering_then (router_cmp a.router b.router) (prefix_cmp a.mapping.eid b.mapping.eid)

-- the list has exactly the live rows, by router, then prefix
pub record IsHeld (rows : List RowValue) (now : ℕ) (held : List RowValue) : Type 0 where
  pub rising : AllPairs (λ a b. row_cmp a b ≡ Less) held
  pub each : (h : RowValue) → Contains held h ↔ ((row_at rows h.router h.mapping.eid ≡ Some h) × IsAlive h now)

-- how many rows have a lesser prefix
abbrev pub count_lesser : List RowValue → PrefixValue → ℕ
count_lesser rows eid = count_by (λ h. is_lt (prefix_cmp h.mapping.eid eid)) rows

-- ---- row by row

-- the live rows from a place of the list on
abbrev pub live_from : List RowValue → ℕ → ℕ → List RowValue
live_from rows place now = filter (λ h. is_alive h now) (drop place rows)

-- at a place from this one on is the first of them, and the others are from the next place on
pub record IsNextLive (rows : List RowValue) (place now found : ℕ) (h : RowValue) : Type 0 where
  pub on : place ≤ found
  pub there : slice_get rows found ≡ Some h
  pub first : live_from rows place now ≡ h ∷ live_from rows (found + 1) now
