-- Of how many sites rows are.
use Rattle.std.specs.Prelude.{ℕ, ◌+◌, Bool, List, [], ◌∷◌, if◌then◌else◌}
use Rattle.std.specs.List.{list_any}
use Rattle.std.specs.Ordering.{eq_by_cmp, nat_cmp}
use Rattle.lisp_records.specs.Row.{RowValue}

-- a row is of a site
abbrev pub has_site : ℕ → List RowValue → Bool
has_site site rows = list_any (λ h. eq_by_cmp nat_cmp h.router.site site) rows

-- each site counts once, at the last of its rows
abbrev pub site_count : List RowValue → ℕ
site_count [] = 0
site_count (h ∷ more) = (if has_site h.router.site more then 0 else 1) + site_count more
