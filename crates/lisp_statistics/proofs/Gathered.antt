-- One more row that is counted.
use Rattle.std.proofs.Common.{◌≡◌, ℕ, suc, ◌+◌, ◌-◌, ◌^◌, ◌<◌, ◌≤◌, min, Bool, true, false, cond, List, [], ◌∷◌, ◌++◌, length, reverse, drop, Option, Some, None, refl, sym, ap, subst, ◌∙◌, append_assoc, arith}
use Rattle.std.specs.Bool.{MatchBool}
use Rattle.std.specs.BTreeMap.{get}
use Rattle.std.specs.BTreeSet.{contains}
use Rattle.std.specs.Cmp.{Equal-is}
use Rattle.std.specs.List.{filter}
use Rattle.std.specs.Option.{unwrap_or}
use Rattle.std.specs.Ordering.{eq_by_cmp, nat_cmp}
use Rattle.std.specs.Prelude.{if◌then◌else◌, ◌||◌, IsTrue}
use Rattle.std.proofs.Math.Nat.{min-eq_left}
use Rattle.std.proofs.lemmas.List.{append-nil, length-reverse, reverse-append, reverse-reverse}
use Rattle.std.proofs.lemmas.List.Sums.{count_by-le-length, length-filter, sum_by-cons}
use Rattle.lisp_lookup.proofs.Orders.{same_router}
use Rattle.lisp_lookup.specs.Table.{live_from}
use Rattle.lisp_records.specs.declared.router.RouterId.{RouterId}
use Rattle.lisp_records.specs.Router.{router_cmp}
use Rattle.lisp_records.specs.Row.{RowValue, is_alive}
use Rattle.lisp_lines.specs.Walk.{GoesOn, HavePlaces, LooksAt, Takes, left_of, up_to_most}
use Rattle.lisp_lines.specs.declared.walk.Walk.{Walk}
use Rattle.lisp_lines.proofs.Walking.{Taken, all_taken, no_more, none_taken, one_taken}
use Rattle.lisp_statistics.specs.Gathering.{AddsSite, Counted, CountsAll, CountsNext, Gathers, IsPartOf, StaysExact, most_counted}
use Rattle.lisp_statistics.specs.Routers.{AddsRow, rows_in, rows_of}
use Rattle.lisp_statistics.specs.Sites.{has_site, site_count}
use Rattle.lisp_statistics.specs.declared.gathering.Gathering.{Gathering}

one_up : (n : ℕ) → up_to_most (up_to_most n + 1) ≡ up_to_most (1 + n)
one_up n = omega arith

none_up : (n : ℕ) → up_to_most n ≡ up_to_most (0 + n)
none_up n = omega arith

next_up : (n : ℕ) → up_to_most (up_to_most n + 1) ≡ up_to_most (suc n)
next_up n = omega arith

or_is : (b c : Bool) → cond b true c ≡ (b || c)
or_is true c = refl
or_is false c = refl

module _ {A : Type 0} (old new : Gathering A) (h : RowValue) (seen : List RowValue) (was : Counted old seen) where
  of_router : (router : RouterId) → AddsRow old.routers new.routers h.router → rows_in new.routers router ≡ up_to_most (rows_of router (h ∷ seen))
  of_router router adds = by (eq_by_cmp router_cmp h.router router) refl ∙ ap up_to_most (sym (sum_by-cons (λ (r : RowValue). cond (eq_by_cmp router_cmp r.router router) 1 0) h seen))
    where
      more : Option ℕ
      more = Some (min (rows_in old.routers h.router + 1) (2 ^ 64 - 1))

      by : (b : Bool) → eq_by_cmp router_cmp h.router router ≡ b → rows_in new.routers router ≡ up_to_most (cond b 1 0 + rows_of router seen)
      by true its =
          let own : h.router ≡ router = same_router h.router router ((Equal-is (router_cmp h.router router)).0 its) in
          ap (λ (o : Option ℕ). unwrap_or o 0) (adds.0 router ∙ ap (λ (b : Bool). cond b more (get router_cmp old.routers router)) its)
          ∙ ap (λ (n : ℕ). up_to_most (n + 1)) (was.routers h.router ∙ ap (λ (r : RouterId). up_to_most (rows_of r seen)) own) ∙ one_up (rows_of router seen)
      by false other =
          ap (λ (o : Option ℕ). unwrap_or o 0) (adds.0 router ∙ ap (λ (b : Bool). cond b more (get router_cmp old.routers router)) other) ∙ was.routers router ∙ none_up (rows_of router seen)

  of_sites : AddsSite old.known_sites new.known_sites old.sites new.sites h.router.site → new.sites ≡ up_to_most (site_count (h ∷ seen))
  of_sites adds = adds.1 ∙ ap (λ (b : Bool). if b then old.sites else up_to_most (old.sites + 1)) (was.known h.router.site) ∙ by (has_site h.router.site seen)
    where
      by : (b : Bool) → (if b then old.sites else up_to_most (old.sites + 1)) ≡ up_to_most ((if b then 0 else 1) + site_count seen)
      by true = was.sites ∙ none_up (site_count seen)
      by false = ap (λ (n : ℕ). up_to_most (n + 1)) was.sites ∙ one_up (site_count seen)

  pub counted_one : new.walk.rows ≡ up_to_most (old.walk.rows + 1) → AddsRow old.routers new.routers h.router → AddsSite old.known_sites new.known_sites old.sites new.sites h.router.site → Counted new (h ∷ seen)
  counted_one rows routers sites = record {
    rows = rows ∙ ap (λ (n : ℕ). up_to_most (n + 1)) was.rows ∙ next_up (length seen);
    routers = λ router. of_router router routers;
    known = λ site. sites.0.0 site ∙ ap (cond (eq_by_cmp nat_cmp h.router.site site) true) (was.known site) ∙ or_is (eq_by_cmp nat_cmp h.router.site site) (has_site site seen);
    sites = of_sites sites;
  }

-- the rows so far
abbrev pub HasCounted : {A : Type 0} → List RowValue → Gathering A → Gathering A → ℕ → Type 0
HasCounted rows old new many = (taken : List RowValue) × Taken rows old.walk new.walk taken many × ((seen : List RowValue) → Counted old seen → Counted new (reverse taken ++ seen))

pub none_counted : {A : Type 0} (rows : List RowValue) (old : Gathering A) → old.walk.rows < 2 ^ 64 → HasCounted rows old old 0
none_counted rows old few = ([], none_taken rows old.walk few, λ seen was. was)

pub one_counted : {A : Type 0} (rows : List RowValue) (old mid new : Gathering A) (many : ℕ) → HasCounted rows old mid many → CountsNext rows mid new true → HasCounted rows old new (many + 1)
one_counted rows old mid new many so_far next = (
  so_far.0 ++ next.0 ∷ [],
  one_taken rows old.walk mid.walk new.walk so_far.0 next.0 many so_far.1 next.1,
  λ seen was. subst (λ (hs : List RowValue). Counted new (hs ++ seen)) (sym (reverse-append so_far.0 (next.0 ∷ []))) (next.2 (reverse so_far.0 ++ seen) (so_far.2 seen was)),
)

pub last_counted : {A : Type 0} (rows : List RowValue) (old mid new : Gathering A) (many : ℕ) → HasCounted rows old mid many → many < most_counted → CountsNext rows mid new false → Gathers rows old new true
last_counted rows old mid new many so_far few next = (
  so_far.0,
  no_more rows old.walk mid.walk new.walk so_far.0 many most_counted so_far.1 few next.0,
  λ seen was. subst (λ (g : Gathering _). Counted g (reverse so_far.0 ++ seen)) (sym next.1) (so_far.2 seen was),
)

pub all_counted : {A : Type 0} (rows : List RowValue) (old new : Gathering A) (many : ℕ) → HasCounted rows old new many → many ≡ most_counted → Gathers rows old new false
all_counted rows old new many so_far full = (so_far.0, all_taken rows old.walk new.walk so_far.0 many most_counted so_far.1 full, so_far.2)

-- ---- of rows that stay as they are

few_live : (rows : List RowValue) (now : ℕ) → length (live_from rows 0 now) ≤ length rows
few_live rows now = omega (arith, length-filter (λ h. is_alive h now) rows, count_by-le-length (λ h. is_alive h now) rows)

few_sites : (rows : List RowValue) → site_count rows ≤ length rows
few_sites [] = omega arith
few_sites (h ∷ more) = by (has_site h.router.site more) (few_sites more)
  where
    by : (b : Bool) → site_count more ≤ length more → (if b then 0 else 1) + site_count more ≤ suc (length more)
    by true few = omega (arith, few)
    by false few = omega (arith, few)

counts_all : {A : Type 0} (g : Gathering A) (seen : List RowValue) → length seen < 2 ^ 64 → Counted g seen → CountsAll g seen
counts_all g seen few counted = record {
  rows = counted.rows ∙ min-eq_left (omega (arith, few));
  routers = λ router. counted.routers router ∙ min-eq_left (omega (arith, few, count_by-le-length (λ (h : RowValue). eq_by_cmp router_cmp h.router router) seen));
  sites = counted.sites ∙ min-eq_left (omega (arith, few, few_sites seen));
}

pub stays_exact : {A : Type 0} (rows : List RowValue) (old new : Gathering A) (is_end : Bool) → Gathers rows old new is_end → StaysExact rows old new is_end
stays_exact {A = A} rows old new is_end gathers places part = by is_end refl
  where
    taken : List RowValue
    taken = gathers.0

    seen : List RowValue
    seen = reverse taken ++ part.0

    live : List RowValue
    live = live_from rows 0 old.walk.moment

    left : List RowValue
    left = left_of rows new.walk

    moment : new.walk.moment ≡ old.walk.moment
    moment = ap (λ (w : Walk). w.moment) gathers.1.goes_on

    ordered : reverse seen ≡ reverse part.0 ++ taken
    ordered = reverse-append (reverse taken) part.0 ∙ ap (λ (hs : List RowValue). reverse part.0 ++ hs) (reverse-reverse taken)

    whole : live ≡ reverse seen ++ left
    whole = part.2 places ∙ ap (λ (hs : List RowValue). reverse part.0 ++ hs) (gathers.1.left places) ∙ sym (append_assoc (reverse part.0) taken left) ∙ ap (λ (hs : List RowValue). hs ++ left) (sym ordered)

    counted : Counted new seen
    counted = gathers.2 part.0 part.1

    by : (b : Bool) → is_end ≡ b → MatchBool b (CountsAll new (reverse live)) (IsPartOf rows new)
    by true its =
        let all : live ≡ reverse seen = whole ∙ ap (λ (hs : List RowValue). reverse seen ++ hs) (gathers.1.end its) ∙ append-nil (reverse seen) in
        let long : length seen ≡ length live = sym (length-reverse seen) ∙ ap length (sym all) in
        subst (λ (hs : List RowValue). CountsAll new hs) (sym (reverse-reverse seen) ∙ ap reverse (sym all)) (counts_all new seen (omega (arith, long, few_live rows old.walk.moment, places)) counted)
    by false its = (seen, counted, λ same. ap (live_from rows 0) moment ∙ whole)
