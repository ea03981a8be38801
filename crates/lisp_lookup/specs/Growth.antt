-- How many routers and live rows a site has, and whether rows that are to be set let it grow beyond a limit.
use Rattle.std.specs.Prelude.{◌≡◌, ◌≢◌, ◌<◌, ◌≤◌, ◌⊎◌, ℕ, List, length, Option, Some, None}
use Rattle.std.specs.List.{All, AllPairs, Contains}
use Rattle.std.specs.Option.{IsSome, option_and_then, option_or}
use Rattle.lisp_records.specs.declared.router.RouterId.{RouterId}
use Rattle.lisp_records.specs.Address.{PrefixValue}
use Rattle.lisp_records.specs.Row.{RowValue}
use Rattle.lisp_policy.specs.declared.full.Full.{Full}
use Rattle.lisp_policy.specs.declared.full.Full.TheVariants.{Routers, Rows}
use Rattle.lisp_lookup.specs.Table.{row_at, last_of, if_alive}

-- ---- at most so many things

-- at most so many are such: a list of so many has them all
abbrev pub AtMost : {K : Type 0} → (K → Type 0) → ℕ → Type 0
AtMost {K} Is most = (listed : List K) × (length listed ≤ most) × ((k : K) → Is k → Contains listed k)

-- more are: a list of more has each of them once, and no others
abbrev pub MoreThan : {K : Type 0} → (K → Type 0) → ℕ → Type 0
MoreThan {K} Is most = (listed : List K) × (most < length listed) × AllPairs (λ a b. a ≢ b) listed × All Is listed

-- from those that were such to those that are, a limit, where there is one, isn't passed: none is new, or at most so many are
abbrev pub StaysWithin : {K : Type 0} → Option ℕ → (K → Type 0) → (K → Type 0) → Type 0
StaysWithin None Was Is = Unit {0}
StaysWithin {K} (Some most) Was Is = ((k : K) → Is k → Was k) ⊎ AtMost Is most

-- it is passed: one is new, and more are
abbrev pub GrowsBeyond : {K : Type 0} → Option ℕ → (K → Type 0) → (K → Type 0) → Type 0
GrowsBeyond None Was Is = ⊥
GrowsBeyond {K} (Some most) Was Is = (k : K) × Is k × ((Was k → ⊥) × MoreThan Is most)

-- ---- the routers and rows of a site

-- the live row of each router and prefix, where there is one
abbrev pub LiveRows : Type 0
LiveRows = RouterId → PrefixValue → Option RowValue

abbrev pub live_rows : List RowValue → ℕ → LiveRows
live_rows rows now router eid = option_and_then (if_alive now) (row_at rows router eid)

-- the same once the given rows are set
abbrev pub live_rows_with : List RowValue → List RowValue → ℕ → LiveRows
live_rows_with rows given now router eid = option_and_then (if_alive now) (option_or (last_of given router eid) (row_at rows router eid))

-- a router of the site and a prefix that have a live row
abbrev pub HasRow : LiveRows → ℕ → RouterId × PrefixValue → Type 0
HasRow live site key = (key.0.site ≡ site) × IsSome (live key.0 key.1)

-- a router of the site that has one
abbrev pub HasRouter : LiveRows → ℕ → RouterId → Type 0
HasRouter live site router = (router.site ≡ site) × (eid : PrefixValue) × IsSome (live router eid)

-- ---- the limits of the site on both

abbrev pub RoutersFit : Option ℕ → ℕ → LiveRows → LiveRows → Type 0
RoutersFit most site before after = StaysWithin most (HasRouter before site) (HasRouter after site)

abbrev pub RowsFit : Option ℕ → ℕ → LiveRows → LiveRows → Type 0
RowsFit most site before after = StaysWithin most (HasRow before site) (HasRow after site)

abbrev pub RoutersExceed : Option ℕ → ℕ → LiveRows → LiveRows → Type 0
RoutersExceed most site before after = GrowsBeyond most (HasRouter before site) (HasRouter after site)

abbrev pub RowsExceed : Option ℕ → ℕ → LiveRows → LiveRows → Type 0
RowsExceed most site before after = GrowsBeyond most (HasRow before site) (HasRow after site)

-- both limits are kept
pub record Fits (most_routers most_rows : Option ℕ) (site : ℕ) (before after : LiveRows) : Type 0 where
  pub routers : RoutersFit most_routers site before after
  pub rows : RowsFit most_rows site before after

-- or the first that isn't
abbrev pub IsFull : Option ℕ → Option ℕ → ℕ → LiveRows → LiveRows → Full → Type 0
IsFull most_routers most_rows site before after Routers = RoutersExceed most_routers site before after
IsFull most_routers most_rows site before after Rows = RoutersFit most_routers site before after × RowsExceed most_rows site before after
