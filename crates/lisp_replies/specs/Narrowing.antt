-- Narrowing: where the records for a prefix don't fit one message, a longer one is taken, toward the one that was asked for.
use Rattle.std.specs.Prelude.{◌≡◌, ℕ, ◌<◌, true, false, List}
use Rattle.lisp_records.specs.Address.{PrefixValue, prefix_around}
use Rattle.lisp_records.specs.Parts.{fits_message}
use Rattle.lisp_records.specs.Record.{MapRecordValue}
use Rattle.lisp_records.specs.Row.{RowValue}
use Rattle.lisp_lookup.specs.Replies.{AreRecords, IsNarrowed}

-- one message carries these records for a prefix
abbrev pub FitFor : List RowValue → PrefixValue → ℕ → RowValue → List MapRecordValue → Type 0
FitFor rows eid now best records = AreRecords rows eid now best records × (fits_message records ≡ true)

-- none carries the records for it
abbrev pub NoneFitFor : List RowValue → PrefixValue → ℕ → RowValue → Type 0
NoneFitFor rows eid now best = (records : List MapRecordValue) → AreRecords rows eid now best records → fits_message records ≡ false

-- records for the widest prefix for which one does, from that of the row to the one that was asked for
pub record AreWidest (rows : List RowValue) (asked : PrefixValue) (now : ℕ) (best : RowValue) (records : List MapRecordValue) : Type 0 where
  pub eid : PrefixValue
  pub narrowed : IsNarrowed asked best eid
  pub fit : FitFor rows eid now best records
  pub widest : (wider : PrefixValue) → IsNarrowed asked best wider → wider.mask_len < eid.mask_len → NoneFitFor rows wider now best

-- for none of these prefixes does one
abbrev pub FitNowhere : List RowValue → PrefixValue → ℕ → RowValue → Type 0
FitNowhere rows asked now best = (eid : PrefixValue) → IsNarrowed asked best eid → NoneFitFor rows eid now best

-- where none does for a prefix, none does for a wider one
abbrev pub WiderFitsNot : List RowValue → Type 0
WiderFitsNot rows = (asked : PrefixValue) (now : ℕ) (best : RowValue) (narrow wide : ℕ) → IsNarrowed asked best (prefix_around asked.addr narrow) → IsNarrowed asked best (prefix_around asked.addr wide)
    → wide < narrow → NoneFitFor rows (prefix_around asked.addr narrow) now best → NoneFitFor rows (prefix_around asked.addr wide) now best
