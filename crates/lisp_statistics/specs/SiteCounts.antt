-- What is held of sites: how many live rows, and how many routers have them.
use Rattle.std.specs.Prelude.{◌≡◌, ℕ, ◌<◌, ◌==◌, Bool, true, ◌||◌, List, [], ◌++◌, length, replicate, if◌then◌else◌}
use Rattle.std.specs.BTreeMap.Range.{entries_between}
use Rattle.std.specs.List.{AllByRecursion, filter, flat_map, sum_by}
use Rattle.std.specs.Option.{is_some}
use Rattle.std.specs.declared.ops.Bound.TheVariants.{Included}
use Rattle.lisp_policy.specs.Site.{SiteValue}
use Rattle.lisp_records.specs.declared.router.RouterId.{RouterId}
use Rattle.lisp_records.specs.Router.{router_cmp}
use Rattle.lisp_lines.specs.Walk.{up_to_most}
use Rattle.lisp_statistics.specs.declared.counts.Format.{Format}
use Rattle.lisp_statistics.specs.declared.counts.Format.TheVariants as formats
use Rattle.lisp_statistics.specs.declared.metrics.TheConstants.{SITE_ROUTERS, SITE_ROWS}
use Rattle.lisp_statistics.specs.declared.sample.Label.TheVariants.{Site}
use Rattle.lisp_statistics.specs.declared.site_counts.Held.{Held}
use Rattle.lisp_statistics.specs.declared.site_counts.SiteShape.{SiteShape}
use Rattle.lisp_statistics.specs.declared.site_counts.SiteShape.TheVariants as shapes
use Rattle.lisp_statistics.specs.Metric.{Texts, texts}
use Rattle.lisp_statistics.specs.Sample.{count_text, head_text}

-- a site has a limit on its routers or rows
abbrev pub is_limited : SiteValue → Bool
is_limited site = is_some site.limits.most_routers || is_some site.limits.most_rows

-- ---- what is held of a site, by how many rows each router has

-- the first and the last router that a site may have, in the order of routers
abbrev pub first_router : ℕ → RouterId
first_router site = record { site = site; xtr = replicate 16 0 }

abbrev pub last_router : ℕ → RouterId
last_router site = record { site = site; xtr = replicate 16 255 }

-- the routers of a site, with the rows of each
abbrev pub routers_of : List (RouterId × ℕ) → ℕ → List (RouterId × ℕ)
routers_of counts site = entries_between router_cmp (Included (first_router site)) (Included (last_router site)) counts

-- the site has the rows of all of them; up to 2^64 - 1
abbrev pub site_rows : List (RouterId × ℕ) → ℕ → ℕ
site_rows counts site = up_to_most (sum_by (λ e. e.1) (routers_of counts site))

-- and so many routers
abbrev pub site_routers : List (RouterId × ℕ) → ℕ → ℕ
site_routers counts site = up_to_most (length (routers_of counts site))

abbrev pub held_of : List (RouterId × ℕ) → ℕ → Held
held_of counts site = record { rows = site_rows counts site; routers = site_routers counts site }

-- an xTR-ID has 16 bytes
pub record IsXtr (xtr : List ℕ) : Type 0 where
  pub long : length xtr ≡ 16
  pub bytes : AllByRecursion (λ n. n < 256) xtr

-- the routers of a site are those with its Site-ID, in their order
abbrev pub RoutersOfSite : Type 0
RoutersOfSite = (counts : List (RouterId × ℕ)) (site : ℕ) → AllByRecursion (λ e. IsXtr e.0.xtr) counts → routers_of counts site ≡ filter (λ e. e.0.site == site) counts

-- ---- its text

abbrev pub held_text : SiteShape → List ℕ → ℕ → Held → List ℕ
held_text shapes.Lines node site held = count_text formats.Lines (texts SITE_ROWS) node (Site site) held.rows ++ count_text formats.Lines (texts SITE_ROUTERS) node (Site site) held.routers
held_text shapes.Rows node site held = count_text formats.Prometheus (texts SITE_ROWS) node (Site site) held.rows
held_text shapes.Routers node site held = count_text formats.Prometheus (texts SITE_ROUTERS) node (Site site) held.routers

-- of a site without such a limit nothing is printed but the sample of its rows
abbrev pub is_told : SiteShape → SiteValue → Bool
is_told shapes.Rows site = true
is_told _ site = is_limited site

abbrev pub site_text : SiteShape → List ℕ → List (RouterId × ℕ) → SiteValue → List ℕ
site_text shape node counts site = if is_told shape site then held_text shape node site.id (held_of counts site.id) else []

-- ---- the text of all sites, in their order

abbrev pub site_family : SiteShape → Texts → List ℕ → List SiteValue → List (RouterId × ℕ) → List ℕ
site_family shape metric node sites counts = head_text formats.Prometheus metric ++ flat_map (site_text shape node counts) sites

abbrev pub site_samples : List ℕ → List SiteValue → List (RouterId × ℕ) → List ℕ
site_samples node sites counts = site_family shapes.Rows (texts SITE_ROWS) node sites counts ++ site_family shapes.Routers (texts SITE_ROUTERS) node sites counts

abbrev pub site_counts_text : Format → List ℕ → List SiteValue → List (RouterId × ℕ) → List ℕ
site_counts_text formats.Lines node sites counts = flat_map (site_text shapes.Lines node counts) sites
site_counts_text formats.Prometheus node sites counts = site_samples node sites counts
