-- What is counted of the rows of a Map-Server, part by part.
use Rattle.std.specs.Prelude.{◌≡◌, ℕ, ◌+◌, Bool, true, false, List, [], ◌∷◌, ◌++◌, length, reverse, Some, None, if◌then◌else◌}
use Rattle.std.specs.Bool.{MatchBool}
use Rattle.std.specs.BTreeSet.{BTreeSet, Updates, contains}
use Rattle.std.specs.Ordering.{nat_cmp}
use Rattle.lisp_records.specs.declared.router.RouterId.{RouterId}
use Rattle.lisp_records.specs.Row.{RowValue}
use Rattle.lisp_lookup.specs.Table.{live_from}
use Rattle.lisp_lines.specs.Walk.{HavePlaces, LooksAt, Takes, left_of, up_to_most}
use Rattle.lisp_statistics.specs.Routers.{CountsRows, rows_in, rows_of}
use Rattle.lisp_statistics.specs.Sites.{has_site, site_count}
use Rattle.lisp_statistics.specs.declared.gathering.Gathering.{Gathering}

-- the most rows of a part
abbrev pub most_counted : ℕ
most_counted = 512

-- there is one more row of a site
abbrev pub AddsSite : BTreeSet ℕ → BTreeSet ℕ → ℕ → ℕ → ℕ → Type 0
AddsSite known new sites more site = Updates nat_cmp known new site true × (more ≡ (if contains nat_cmp known site then sites else up_to_most (sites + 1)))

-- these rows were counted, the last one first: how many there are, and of each router, and of how many sites
pub record Counted {A : Type 0} (g : Gathering A) (seen : List RowValue) : Type 0 where
  pub rows : g.walk.rows ≡ up_to_most (length seen)
  pub routers : (router : RouterId) → rows_in g.routers router ≡ up_to_most (rows_of router seen)
  pub known : (site : ℕ) → contains nat_cmp g.known_sites site ≡ has_site site seen
  pub sites : g.sites ≡ up_to_most (site_count seen)

-- one more was counted, the next live row; or there is none
abbrev pub CountsNext : {A : Type 0} → List RowValue → Gathering A → Gathering A → Bool → Type 0
CountsNext rows old new true = (h : RowValue) × LooksAt rows old.walk new.walk (Some h) × ((seen : List RowValue) → Counted old seen → Counted new (h ∷ seen))
CountsNext rows old new false = LooksAt rows old.walk new.walk None × (new ≡ old)

-- the next live rows were counted
abbrev pub Gathers : {A : Type 0} → List RowValue → Gathering A → Gathering A → Bool → Type 0
Gathers rows old new is_end = (taken : List RowValue) × Takes rows old.walk new.walk most_counted is_end taken × ((seen : List RowValue) → Counted old seen → Counted new (reverse taken ++ seen))

-- ---- of rows that stay as they are

-- all of the live rows that are not left were counted
abbrev pub IsPartOf : {A : Type 0} → List RowValue → Gathering A → Type 0
IsPartOf rows g = (seen : List RowValue) × Counted g seen × (HavePlaces rows → live_from rows 0 g.walk.moment ≡ reverse seen ++ left_of rows g.walk)

-- the counts are those of these rows
pub record CountsAll {A : Type 0} (g : Gathering A) (all : List RowValue) : Type 0 where
  pub rows : g.walk.rows ≡ length all
  pub routers : CountsRows g.routers all
  pub sites : g.sites ≡ site_count all

-- part by part the counts become those of all live rows, the last one first
abbrev pub StaysExact : {A : Type 0} → List RowValue → Gathering A → Gathering A → Bool → Type 0
StaysExact rows old new is_end = HavePlaces rows → IsPartOf rows old → MatchBool is_end (CountsAll new (reverse (live_from rows 0 old.walk.moment))) (IsPartOf rows new)
