-- The longer prefixes inside a prefix, walked one by one in their order (RFC 9301 section 5.5).
use Rattle.std.specs.Prelude.{◌≡◌, ◌≢◌, ℕ, ◌<◌, true, List, ◌∷◌, length, map}
use Rattle.std.specs.List.{AllPairs, Contains}
use Rattle.std.specs.declared.cmp.Ordering.TheVariants.{Less}
use Rattle.lisp_records.specs.Address.{PrefixValue, prefix_cmp}
use Rattle.lisp_records.specs.Record.{MapRecordValue}
use Rattle.lisp_records.specs.Row.{RowValue}
use Rattle.lisp_lookup.specs.Inside.{is_inside, is_live_inside, IsBestOfOwn, AreInside}
use Rattle.lisp_lookup.specs.Replies.{record_of}

-- what was seen on the way up to a prefix: of each prefix inside up to there its best row, in rising order
pub record AreSeen (rows : List RowValue) (outer : PrefixValue) (now : ℕ) (after : PrefixValue) (seen : List RowValue) : Type 0 where
  pub rising : AllPairs (λ a b. prefix_cmp a.mapping.eid b.mapping.eid ≡ Less) seen
  pub best : (h : RowValue) → Contains seen h → IsBestOfOwn rows now h × (is_inside outer h.mapping.eid ≡ true)
  pub up_to : (h : RowValue) → Contains seen h → prefix_cmp after h.mapping.eid ≢ Less
  pub all : (h : RowValue) → Contains rows h → is_live_inside outer now h ≡ true → prefix_cmp after h.mapping.eid ≢ Less
      → (own : RowValue) × Contains seen own × (own.mapping.eid ≡ h.mapping.eid)

-- the prefixes inside are so many at least
abbrev pub HasMoreThan : ℕ → List RowValue → PrefixValue → ℕ → Type 0
HasMoreThan count rows outer now = (inside : List RowValue) → AreInside rows outer now inside → count < length inside

-- the records for a prefix, of the row that answers for it and of those of the prefixes inside
abbrev pub records_of : ℕ → PrefixValue → RowValue → List RowValue → List MapRecordValue
records_of ttl eid best inside = record_of ttl eid best ∷ map (λ h. record_of ttl h.mapping.eid h) inside
