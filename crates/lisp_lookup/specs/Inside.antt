-- The longer prefixes inside a prefix that have a live row: a Map-Reply for it has them all (RFC 9301 section 5.5).
use Rattle.std.specs.Prelude.{◌≡◌, ◌≢◌, ℕ, ◌<◌, ◌≤◌, Bool, ◌&&◌, true, nat_lt, List, length, Option, Some, None}
use Rattle.std.specs.List.{All, AllPairs, Contains}
use Rattle.std.specs.declared.cmp.Ordering.TheVariants.{Less, Greater}
use Rattle.lisp_records.specs.Address.{PrefixValue, IsPrefix, covers, prefix_cmp}
use Rattle.lisp_records.specs.Row.{RowValue, is_alive}
use Rattle.lisp_lookup.specs.Answer.{rank_cmp}
use Rattle.lisp_lookup.specs.Index.{row_prefix_cmp, row_at_place, IsFirstOf, IsIndex}

-- the second prefix is longer, and lies inside the first
abbrev pub is_inside : PrefixValue → PrefixValue → Bool
is_inside outer eid = covers outer eid && nat_lt outer.mask_len eid.mask_len

-- no row has the prefix
abbrev pub HasNoRow : List RowValue → PrefixValue → Type 0
HasNoRow rows eid = (h : RowValue) → Contains rows h → h.mapping.eid ≢ eid

-- nor where a place is the first one of a longer prefix inside it
abbrev pub HasNoRowFrom : List RowValue → List ℕ → ℕ → PrefixValue → Type 0
HasNoRowFrom rows numbers place eid = (longer : PrefixValue) → is_inside eid longer ≡ true → IsFirstOf longer rows numbers place → HasNoRow rows eid

-- a live row of a longer prefix inside
abbrev pub is_live_inside : PrefixValue → ℕ → RowValue → Bool
is_live_inside outer now h = is_alive h now && is_inside outer h.mapping.eid

-- the row is the greatest of the live rows of its own prefix
pub record IsBestOfOwn (rows : List RowValue) (now : ℕ) (h : RowValue) : Type 0 where
  pub held : Contains rows h
  pub alive : is_alive h now ≡ true
  pub most : (other : RowValue) → Contains rows other → is_alive other now ≡ true → other.mapping.eid ≡ h.mapping.eid → rank_cmp other h ≢ Greater

-- it is that of the next prefix inside, of those that stand behind a given one in their order
pub record IsNextInside (rows : List RowValue) (outer after : PrefixValue) (now : ℕ) (h : RowValue) : Type 0 where
  pub best : IsBestOfOwn rows now h
  pub inside : is_inside outer h.mapping.eid ≡ true
  pub behind : prefix_cmp after h.mapping.eid ≡ Less
  pub first : (other : RowValue) → Contains rows other → is_live_inside outer now other ≡ true → prefix_cmp after other.mapping.eid ≡ Less → prefix_cmp h.mapping.eid other.mapping.eid ≢ Greater

-- no prefix inside stands behind it
abbrev pub NoneInside : List RowValue → PrefixValue → PrefixValue → ℕ → Type 0
NoneInside rows outer after now = (h : RowValue) → Contains rows h → is_live_inside outer now h ≡ true → prefix_cmp after h.mapping.eid ≢ Less

abbrev pub IsNextInsideOf : List RowValue → PrefixValue → PrefixValue → ℕ → Option RowValue → Type 0
IsNextInsideOf rows outer after now (Some h) = IsNextInside rows outer after now h
IsNextInsideOf rows outer after now None = NoneInside rows outer after now

-- ---- a walk over them: behind which one it is
pub record InsideValue : Type 0 where
  pub rows : List RowValue
  pub outer : PrefixValue
  pub moment : ℕ
  pub after : PrefixValue

-- it goes on behind the one that was shown
abbrev pub moved : InsideValue → Option RowValue → InsideValue
moved walk None = walk
moved walk (Some h) = record { rows = walk.rows; outer = walk.outer; moment = walk.moment; after = h.mapping.eid }

-- rows in their order, of which none before a place is to be shown, and none from there on stands before the outer prefix
pub record IsWalk (walk : InsideValue) (numbers : List ℕ) (place : ℕ) : Type 0 where
  pub eids : All (λ h. IsPrefix h.mapping.eid) walk.rows
  pub index : IsIndex row_prefix_cmp walk.rows numbers
  pub within : place ≤ length numbers
  pub passed : (k : ℕ) (d : RowValue) → k < place → is_live_inside walk.outer walk.moment (row_at_place walk.rows numbers k d) ≡ true → prefix_cmp walk.after (row_at_place walk.rows numbers k d).mapping.eid ≢ Less
  pub onward : (k : ℕ) (d : RowValue) → place ≤ k → k < length numbers → prefix_cmp walk.outer (row_at_place walk.rows numbers k d).mapping.eid ≢ Greater

-- ---- all of them: of each such prefix its best row, in rising order
pub record AreInside (rows : List RowValue) (outer : PrefixValue) (now : ℕ) (inside : List RowValue) : Type 0 where
  pub rising : AllPairs (λ a b. prefix_cmp a.mapping.eid b.mapping.eid ≡ Less) inside
  pub best : (h : RowValue) → Contains inside h → IsBestOfOwn rows now h × (is_inside outer h.mapping.eid ≡ true)
  pub all : (h : RowValue) → Contains rows h → is_live_inside outer now h ≡ true → (own : RowValue) × Contains inside own × (own.mapping.eid ≡ h.mapping.eid)
