-- What a Map-Server can tell a router: the records of its live rows (RFC 9301 section 5.7).
use Rattle.std.specs.Prelude.{◌≡◌, ℕ, Bool, ◌&&◌, List, map, length}
use Rattle.std.specs.List.{AllPairs, filter}
use Rattle.std.specs.List.Sorted.{IsPermutation}
use Rattle.std.specs.declared.cmp.Ordering.TheVariants.{Less}
use Rattle.lisp_records.specs.declared.router.RouterId.{RouterId}
use Rattle.lisp_records.specs.Address.{prefix_cmp}
use Rattle.lisp_records.specs.Parts.{fits_message}
use Rattle.lisp_records.specs.Record.{MapRecordValue}
use Rattle.lisp_records.specs.Router.{router_eq}
use Rattle.lisp_records.specs.Row.{RowValue, is_alive}

-- the row is one of the router, and alive
abbrev pub is_live_of : RouterId → ℕ → RowValue → Bool
is_live_of router now h = router_eq h.router router && is_alive h now

-- the records of the router's live rows, in the order of the table
abbrev pub live_of : List RowValue → RouterId → ℕ → List MapRecordValue
live_of rows router now = map (λ h. h.mapping) (filter (is_live_of router now) rows)

-- the given records, by prefix
pub record ByPrefix (given records : List MapRecordValue) : Type 0 where
  pub same : IsPermutation given records
  pub rising : AllPairs (λ a b. prefix_cmp a.eid b.eid ≡ Less) records

-- a list has the records of the router's live rows, by prefix
abbrev pub ListsLive : List RowValue → RouterId → ℕ → List MapRecordValue → Type 0
ListsLive rows router now listed = ByPrefix (live_of rows router now) listed

-- how many records of the router are alive
abbrev pub live_count : List RowValue → RouterId → ℕ → ℕ
live_count rows router now = length (live_of rows router now)

-- one message can carry the router's live records
abbrev pub live_fit : List RowValue → RouterId → ℕ → Bool
live_fit rows router now = fits_message (live_of rows router now)
