-- The rows once given ones are set, as a list.
use Rattle.std.specs.Prelude.{◌≡◌, ℕ, Bool, not, ◌&&◌, ◌||◌, ◌==◌, List, [], ◌∷◌, ◌++◌, if◌then◌else◌}
use Rattle.std.specs.BTreeSet.{BTreeSet, contains}
use Rattle.std.specs.List.{filter, list_any}
use Rattle.std.specs.Option.{is_some}
use Rattle.lisp_records.specs.declared.router.RouterId.{RouterId}
use Rattle.lisp_records.specs.Router.{router_eq, router_cmp}
use Rattle.lisp_records.specs.Row.{RowValue, is_alive}
use Rattle.lisp_lookup.specs.Table.{is_row_of}
use Rattle.lisp_lookup.specs.Growth.{live_rows}

-- the row is one of the site, and alive
abbrev pub is_live_in : ℕ → ℕ → RowValue → Bool
is_live_in site now h = (h.router.site == site) && is_alive h now

-- one of the given rows is of the same router and prefix
abbrev pub is_set_by : List RowValue → RowValue → Bool
is_set_by given h = list_any (is_row_of h.router h.mapping.eid) given

-- of the given rows the last of each router and prefix
abbrev pub last_rows : List RowValue → List RowValue
last_rows [] = []
last_rows (h ∷ later) = if is_set_by later h then last_rows later else h ∷ last_rows later

-- the rows that none of the given ones replaces
abbrev pub kept_rows : List RowValue → List RowValue → List RowValue
kept_rows rows given = filter (λ h. not (is_set_by given h)) rows

abbrev pub set_rows : List RowValue → List RowValue → List RowValue
set_rows rows given = kept_rows rows given ++ last_rows given

-- the row is one of the site, and alive, and none of the given ones replaces it
abbrev pub stays_live : List RowValue → ℕ → ℕ → RowValue → Bool
stays_live given site now h = is_live_in site now h && not (is_set_by given h)

-- the router and prefix of a row have a live row
abbrev pub has_live : List RowValue → ℕ → RowValue → Bool
has_live rows now h = is_some (live_rows rows now h.router h.mapping.eid)

-- the row is one of the site, and alive, and the first such row of its router and prefix
abbrev pub is_new : List RowValue → ℕ → ℕ → RowValue → Bool
is_new rows site now h = is_live_in site now h && not (has_live rows now h)

-- one of the rows is such a row of the router
abbrev pub has_router : List RowValue → ℕ → ℕ → RouterId → Bool
has_router rows site now router = list_any (λ h. is_live_in site now h && router_eq h.router router) rows

-- these are the routers that have such rows
abbrev pub AreRouters : BTreeSet RouterId → ℕ → ℕ → List RowValue → Type 0
AreRouters routers site now rows = (router : RouterId) → contains router_cmp routers router ≡ has_router rows site now router

-- those that have such rows were added
abbrev pub AddsRouters : BTreeSet RouterId → BTreeSet RouterId → ℕ → ℕ → List RowValue → Type 0
AddsRouters old new site now rows = (router : RouterId) → contains router_cmp new router ≡ (contains router_cmp old router || has_router rows site now router)
