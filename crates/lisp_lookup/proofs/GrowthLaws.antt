-- The limits on the routers and rows of a site: they are kept or passed, and not both.
use Rattle.std.proofs.Common.{◌↔◌, ◌≡◌, ◌≢◌, inl, inr, ℕ, ◌≤◌, Bool, true, false, ◌&&◌, List, length, Option, Some, None, refl, sym, ap, subst, arith, ◌⊎◌, suc, ◌+◌, ◌-◌, ◌^◌, min, ◌<◌, ◌==◌, not, ◌||◌, cond, [], ◌∷◌, ◌++◌, map, reverse, take, slice_index_or, ◌∙◌, true≢false}
use Rattle.std.proofs.lemmas.Bool.{and_from, and_parts, cond_both, not-true}
use Rattle.std.proofs.lemmas.Bool.Decides.{Decides-and, Decides-eqb, Decides-like, same_from_decides}
use Rattle.std.proofs.lemmas.List.Elements.{All-contains, All-append, All-cons, All-contains_itself, All-map, Contains-append_cases, Contains-append_right, Contains-get_or, filter_more}
use Rattle.std.proofs.lemmas.List.{get_or-map, length-map, reverse-append}
use Rattle.std.proofs.lemmas.List.Folds.{Any-from_list_any, find-append, list_any-append, list_any_at}
use Rattle.std.proofs.lemmas.List.Kept.{AllPairs-cons, AllPairs-filter}
use Rattle.std.proofs.lemmas.List.Sums.{length-filter, sum_by-append, sum_by-cons}
use Rattle.std.proofs.lemmas.Map.Made.{IsDistinct-from_AllPairs, is_member-Decides, length-le_from_is_member, AllPairs-from_IsDistinct}
use Rattle.std.proofs.lemmas.Map.Keys.{IsDistinct-from_sorted}
use Rattle.std.proofs.lemmas.Map.Views.{btree_set_contains_iff, tells_apart}
use Rattle.std.proofs.lemmas.List.Sorted.{IsPermutation-reverse, list_any-IsPermutation}
use Rattle.std.proofs.lemmas.Cmp.{eq_by_cmp_equiv}
use Rattle.std.specs.Bool.{Decides}
use Rattle.std.specs.Cmp.{IsEquivalence}
use Rattle.std.specs.List.{AllPairs, Contains, All, count_by, filter, find, list_any, position}
use Rattle.std.specs.Option.{IsSome, is_some, option_and_then, option_or}
use Rattle.std.specs.BTreeSet.{BTreeSet, IsOrdered, IsSubset, Updates, contains}
use Rattle.std.specs.Ordering.{eq_by_cmp}
use Rattle.lisp_records.proofs.DatabaseLaws.{block_eq-Decides}
use Rattle.lisp_records.proofs.RouterLaws.{router_eq-Decides}
use Rattle.lisp_records.specs.declared.router.RouterId.{RouterId}
use Rattle.lisp_records.specs.Address.{PrefixValue, prefix_eq}
use Rattle.lisp_records.specs.Router.{router_eq, router_cmp}
use Rattle.lisp_records.specs.Row.{RowValue, is_alive}
use Rattle.lisp_policy.specs.declared.full.Full.{Full}
use Rattle.lisp_policy.specs.declared.full.Full.TheVariants.{Routers, Rows}
use Rattle.lisp_policy.proofs.Found.{at_place, nowhere}
use Rattle.lisp_lookup.specs.Growth.{AtMost, MoreThan, StaysWithin, GrowsBeyond, LiveRows, HasRow, HasRouter, RoutersFit, RowsFit, RoutersExceed, RowsExceed, Fits, IsFull, live_rows, live_rows_with}
use Rattle.lisp_lookup.specs.Setting.{AddsRouters, AreRouters, has_live, has_router, is_live_in, is_new, is_set_by, kept_rows, last_rows, set_rows, stays_live}
use Rattle.lisp_lookup.specs.Table.{OneEach, if_alive, is_row_of, last_of, row_at, row_key}
use Rattle.lisp_lookup.proofs.Apart.{on_either, any_is_found}
use Rattle.lisp_lookup.proofs.Orders.{router_total, same_router}
use Rattle.lisp_lookup.proofs.TableLaws.{filter_holds, filtered_holds, found_holds, found_own, has_key}

-- ---- a limit is kept or passed, and not both

-- a test that decides whether two are the same is an equivalence
equivalence : {K : Type 0} (eq : K → K → Bool) → ((a b : K) → Decides (eq a b) (a ≡ b)) → IsEquivalence eq
equivalence {K} eq decides = record {
  refl = λ x. (decides x x).1 refl;
  symm = λ x y. same_from_decides (eq x y) (eq y x) (decides x y) (Decides-like (eq y x) (λ e. sym e) (λ e. sym e) (decides y x));
  congr = λ x y z t. ap (λ (k : K). eq k z) ((decides x y).0 t);
}

-- a list has as many as another without repeats whose elements it has
pub at_least : {K : Type 0} (eq : K → K → Bool) (decides : (a b : K) → Decides (eq a b) (a ≡ b)) (few many : List K) → AllPairs (λ a b. a ≢ b) many → ((k : K) → Contains many k → Contains few k) → length many ≤ length few
at_least eq decides few many apart there = length-le_from_is_member (equivalence eq decides) many few (IsDistinct-from_AllPairs decides many apart) (λ k held. (is_member-Decides decides few k).1 (there k ((is_member-Decides decides many k).0 held)))

-- there aren't at most so many and more
few_or_many : {K : Type 0} (eq : K → K → Bool) (decides : (a b : K) → Decides (eq a b) (a ≡ b)) (most : ℕ) (Is : K → Type 0) → AtMost Is most → MoreThan Is most → ⊥
few_or_many eq decides most Is (few, small, has_all) (many, large, apart, are) = (let long = at_least eq decides few many apart (λ k held. has_all k (All-contains Is many k are held)) in omega (arith, small, large, long))

-- a limit isn't both kept and passed
pub fits_or_grows : {K : Type 0} (eq : K → K → Bool) (decides : (a b : K) → Decides (eq a b) (a ≡ b)) (most : Option ℕ) (Was Is : K → Type 0) → StaysWithin most Was Is → GrowsBeyond most Was Is → ⊥
fits_or_grows eq decides None Was Is fits grows = grows
fits_or_grows eq decides (Some most) Was Is (inl none_new) (k, is, (new, many)) = new (none_new k is)
fits_or_grows eq decides (Some most) Was Is (inr few) (k, is, (new, many)) = few_or_many eq decides most Is few many

-- whether two keys of rows are the same
abbrev pub key_eq : RouterId × PrefixValue → RouterId × PrefixValue → Bool
key_eq a b = router_eq a.0 b.0 && prefix_eq a.1 b.1

pub key_eq-Decides : (a b : RouterId × PrefixValue) → Decides (key_eq a b) (a ≡ b)
key_eq-Decides a b =
    let both = Decides-and _ _ (router_eq-Decides a.0 b.0) (block_eq-Decides a.1 b.1) in
    (λ t. (let e = both.0 t in λ i. (e.0 i, e.1 i)), λ e. both.1 (ap (λ (k : RouterId × PrefixValue). k.0) e, ap (λ (k : RouterId × PrefixValue). k.1) e))

-- a site isn't full where both limits are kept
pub full_or_fits : (most_routers most_rows : Option ℕ) (site : ℕ) (before after : LiveRows) (full : Full) → Fits most_routers most_rows site before after → IsFull most_routers most_rows site before after full → ⊥
full_or_fits most_routers most_rows site before after Routers fits full = fits_or_grows router_eq router_eq-Decides most_routers (HasRouter before site) (HasRouter after site) fits.routers full
full_or_fits most_routers most_rows site before after Rows fits full = fits_or_grows key_eq key_eq-Decides most_rows (HasRow before site) (HasRow after site) fits.rows full.1

-- ---- rows that are the same at each router and prefix

abbrev pub AlikeLive : LiveRows → LiveRows → Type 0
AlikeLive live other = (router : RouterId) (eid : PrefixValue) → live router eid ≡ other router eid

-- limits are kept and passed alike
alike : (P : LiveRows → LiveRows → Type 0) (before after before2 after2 : LiveRows) → AlikeLive before before2 → AlikeLive after after2 → P before after → P before2 after2
alike P before after before2 after2 was is holds = subst (λ (p : LiveRows × LiveRows). P p.0 p.1) (λ i. (λ r e. was r e i, λ r e. is r e i)) holds

pub fits_alike : (most_routers most_rows : Option ℕ) (site : ℕ) (before after before2 after2 : LiveRows) → AlikeLive before before2 → AlikeLive after after2 → Fits most_routers most_rows site before after → Fits most_routers most_rows site before2 after2
fits_alike most_routers most_rows site = alike (Fits most_routers most_rows site)

pub full_alike : (most_routers most_rows : Option ℕ) (site : ℕ) (before after before2 after2 : LiveRows) (full : Full) → AlikeLive before before2 → AlikeLive after after2 → IsFull most_routers most_rows site before after full → IsFull most_routers most_rows site before2 after2 full
full_alike most_routers most_rows site before after before2 after2 full = alike (λ was is. IsFull most_routers most_rows site was is full) before after before2 after2

-- ---- a limit that was kept is kept still

-- where none is new
pub renewed_fits : {K : Type 0} (most : ℕ) (Was Is : K → Type 0) → AtMost Was most → ((k : K) → Is k → Was k) → AtMost Is most
renewed_fits most Was Is (few, small, has_all) none_new = (few, small, λ k is. has_all k (none_new k is))

-- and where the limit is
pub fits_at_most : {K : Type 0} (most : ℕ) (Was Is : K → Type 0) → AtMost Was most → StaysWithin (Some most) Was Is → AtMost Is most
fits_at_most most Was Is old (inl none_new) = renewed_fits most Was Is old none_new
fits_at_most most Was Is old (inr few) = few

-- ---- The rows once given ones are set: whose they are, how many are alive, and what their routers are.

-- ---- tests

alive_or_not : (h : RowValue) (b : Bool) → is_some (cond b (Some h) None) ≡ b
alive_or_not h b = grind arith

and_not : (a b : Bool) → (a && not b) ≡ false → a ≡ true → b ≡ true
and_not a b e t = grind arith

-- ---- what is found among the rows once given ones are set

-- whether one of the given rows has a row's key is whether one is found by it
set_by_own : (router : RouterId) (eid : PrefixValue) (given : List RowValue) (h : RowValue) → is_row_of router eid h ≡ true → is_set_by given h ≡ list_any (is_row_of router eid) given
set_by_own router eid given h own = ap (λ (k : RouterId × PrefixValue). list_any (is_row_of k.0 k.1) given) ((has_key (router, eid) h).0 own)

any_is_last : (router : RouterId) (eid : PrefixValue) (given : List RowValue) → list_any (is_row_of router eid) given ≡ is_some (last_of given router eid)
any_is_last router eid given = list_any-IsPermutation (is_row_of router eid) given (reverse given) (IsPermutation-reverse given) ∙ any_is_found (is_row_of router eid) (reverse given)

last_case : (p : RowValue → Bool) (h : RowValue) (last : List RowValue) (o : Option RowValue) (set : Bool) → find p last ≡ o → (p h ≡ true → set ≡ is_some o) → find p (cond set last (h ∷ last)) ≡ option_or o (cond (p h) (Some h) None)
last_case p h last o set later own = grind arith

-- of the given rows the last of a router and prefix is found
find_last : (router : RouterId) (eid : PrefixValue) (given : List RowValue) → find (is_row_of router eid) (last_rows given) ≡ last_of given router eid
find_last router eid [] = refl
find_last router eid (h ∷ later) = last_case (is_row_of router eid) h (last_rows later) (last_of later router eid) (is_set_by later h) (find_last router eid later) (λ own. set_by_own router eid later h own ∙ any_is_last router eid later)
    ∙ sym (ap (find (is_row_of router eid)) (reverse-append (h ∷ []) later) ∙ find-append (is_row_of router eid) (reverse later) (h ∷ []))

filter_case : {X : Type 0} (p : X → Bool) (x : X) (kept : List X) (o : Option X) (keep b : Bool) → (p x ≡ true → keep ≡ b) → find p kept ≡ cond b o None → find p (cond keep (x ∷ kept) kept) ≡ cond b (cond (p x) (Some x) o) None
filter_case p x kept o keep b keeps later = grind arith

-- a filter that keeps all that a test finds, or nothing of it
find_filter : {X : Type 0} (p q : X → Bool) (b : Bool) → ((x : X) → p x ≡ true → q x ≡ b) → (xs : List X) → find p (filter q xs) ≡ cond b (find p xs) None
find_filter p q true keeps [] = refl
find_filter p q false keeps [] = refl
find_filter p q b keeps (x ∷ xs) = filter_case p x (filter q xs) (find p xs) (q x) b (keeps x) (find_filter p q b keeps xs)

or_last : {X : Type 0} (old last : Option X) → option_or (cond (not (is_some last)) old None) last ≡ option_or last old
or_last old last = grind arith

-- the row of a router and prefix is the last that was given, or else the one that was there
pub row_at_set : (rows given : List RowValue) (router : RouterId) (eid : PrefixValue) → row_at (set_rows rows given) router eid ≡ option_or (last_of given router eid) (row_at rows router eid)
unfolding row_at
row_at_set rows given router eid =
    let p = is_row_of router eid in
    let kept = find_filter p (λ h. not (is_set_by given h)) (not (list_any p given)) (λ h own. ap not (set_by_own router eid given h own)) rows in
    find-append p (kept_rows rows given) (last_rows given)
    ∙ (λ i. option_or (kept i) (find_last router eid given i))
    ∙ ap (λ (b : Bool). option_or (cond (not b) (find p rows) None) (last_of given router eid)) (any_is_last router eid given)
    ∙ or_last (find p rows) (last_of given router eid)

live_rows_set : (rows given : List RowValue) (now : ℕ) → live_rows (set_rows rows given) now ≡ live_rows_with rows given now
live_rows_set rows given now = λ i router eid. option_and_then (if_alive now) (row_at_set rows given router eid i)

-- ---- one row each

any_holds : (p : RowValue → Bool) (rows : List RowValue) (h : RowValue) → Contains rows h → p h ≡ true → list_any p rows ≡ true
any_holds p rows h held own = list_any_at p rows held.0 h held.1 (ap p held.2 ∙ own)

last_all : (P : RowValue → Type 0) (given : List RowValue) → All P given → All P (last_rows given)
last_all P [] all = all
last_all P (h ∷ later) all =
    let rest = last_all P later (λ k d lt. all (suc k) d (omega (arith, lt))) in
    cond_both (is_set_by later h) (last_rows later) (h ∷ last_rows later) (All P) (λ set. rest) (λ unset. All-cons P h (last_rows later) (all 0 h (omega arith)) rest)

last_holds : (given : List RowValue) (h : RowValue) → Contains (last_rows given) h → Contains given h
last_holds given h held = All-contains (Contains given) (last_rows given) h (last_all (Contains given) given (All-contains_itself given)) held

-- a row that none of the given ones replaces has another key than each of them
unset_differs : (given : List RowValue) (h other : RowValue) → is_set_by given h ≡ false → Contains given other → row_key h ≢ row_key other
unset_differs given h other unset held same = true≢false (sym (any_holds (is_row_of h.router h.mapping.eid) given other held ((has_key (row_key h) other).1 (sym same))) ∙ unset)

one_each_last : (given : List RowValue) → OneEach (last_rows given)
one_each_last [] = λ i j d less within. absurd (omega (arith, within))
one_each_last (h ∷ later) = cond_both (is_set_by later h) (last_rows later) (h ∷ last_rows later) OneEach (λ set. one_each_last later)
    (λ is. AllPairs-cons (λ a b. row_key a ≢ row_key b) h (last_rows later) (last_all (λ b. row_key h ≢ row_key b) later (λ k d lt. unset_differs later h (slice_index_or later k d) is (Contains-get_or later k d lt))) (one_each_last later))

apart_append : (xs ys : List RowValue) → OneEach xs → OneEach ys → ((a b : RowValue) → Contains xs a → Contains ys b → row_key a ≢ row_key b) → OneEach (xs ++ ys)
apart_append [] ys one_x one_y apart = one_y
apart_append (x ∷ xs) ys one_x one_y apart =
    AllPairs-cons (λ a b. row_key a ≢ row_key b) x (xs ++ ys) (All-append (λ b. row_key x ≢ row_key b) xs ys (λ k d lt. one_x 0 (suc k) d (omega arith) (omega (arith, lt))) (λ k d lt. apart x (slice_index_or ys k d) (0, omega arith, refl) (Contains-get_or ys k d lt)))
    (apart_append xs ys (λ i j d less within. one_x (suc i) (suc j) d (omega (arith, less)) (omega (arith, within))) one_y (λ a b held_a held_b. apart a b (suc held_a.0, omega (arith, held_a.1), held_a.2) held_b))

kept_unset : (rows given : List RowValue) (h : RowValue) → Contains (kept_rows rows given) h → Contains rows h × (is_set_by given h ≡ false)
kept_unset rows given h held = (let was = filtered_holds (λ x. not (is_set_by given x)) rows h held in (was.0, not-true (is_set_by given h) was.1))

pub one_each_set : (rows given : List RowValue) → OneEach rows → OneEach (set_rows rows given)
one_each_set rows given one = apart_append (kept_rows rows given) (last_rows given) (AllPairs-filter (λ a b. row_key a ≢ row_key b) (λ h. not (is_set_by given h)) rows one) (one_each_last given) (λ a b held_a held_b. unset_differs given a b (kept_unset rows given a held_a).1 (last_holds given b held_b))

-- ---- the keys of a site's live rows

-- a live row that is held is one of its router and prefix
pub has_row_of : (rows : List RowValue) (site now : ℕ) (h : RowValue) → OneEach rows → Contains rows h → is_live_in site now h ≡ true → HasRow (live_rows rows now) site (row_key h)
has_row_of rows site now h one held lives = (
  (Decides-eqb h.router.site site).0 (and_parts (h.router.site == site) (is_alive h now) lives).0,
  ap (λ (o : Option RowValue). is_some (option_and_then (if_alive now) o)) (found_own rows h one held) ∙ alive_or_not h (is_alive h now) ∙ (and_parts (h.router.site == site) (is_alive h now) lives).1,
)

-- and there is no other
pub row_of_has : (rows : List RowValue) (site now : ℕ) (k : RouterId × PrefixValue) → HasRow (live_rows rows now) site k → (h : RowValue) × (Contains rows h × ((is_live_in site now h ≡ true) × (row_key h ≡ k)))
unfolding row_at
row_of_has rows site now k has = by (find (is_row_of k.0 k.1) rows) refl has.1
  where
    by : (o : Option RowValue) → find (is_row_of k.0 k.1) rows ≡ o → IsSome (option_and_then (if_alive now) o) → (h : RowValue) × (Contains rows h × ((is_live_in site now h ≡ true) × (row_key h ≡ k)))
    by None at some = absurd (true≢false (sym some))
    by (Some h) at some =
        let held = found_holds (is_row_of k.0 k.1) rows h at in
        let own : row_key h ≡ k = (has_key k h).0 held.1 in
        (h, (held.0, (and_from (h.router.site == site) (is_alive h now) ((Decides-eqb h.router.site site).1 (ap (λ (x : RouterId × PrefixValue). x.0.site) own ∙ has.0)) (sym (alive_or_not h (is_alive h now)) ∙ some), own)))

abbrev live_keys : List RowValue → ℕ → ℕ → List (RouterId × PrefixValue)
live_keys rows site now = map row_key (filter (is_live_in site now) rows)

contains_map : {X Y : Type 0} (f : X → Y) (xs : List X) (x : X) → Contains xs x → Contains (map f xs) (f x)
contains_map f xs x (k, lt, at) = (k, omega (arith, lt, length-map xs f), get_or-map f xs k x (f x) lt ∙ ap f at)

keys_listed : (rows : List RowValue) (site now : ℕ) (k : RouterId × PrefixValue) → HasRow (live_rows rows now) site k → Contains (live_keys rows site now) k
keys_listed rows site now k has =
    let (h, (held, (lives, own))) = row_of_has rows site now k has in
    subst (Contains (live_keys rows site now)) own (contains_map row_key (filter (is_live_in site now) rows) h (filter_holds (is_live_in site now) rows h held lives))

keys_have : (rows : List RowValue) (site now : ℕ) → OneEach rows → All (HasRow (live_rows rows now) site) (live_keys rows site now)
keys_have rows site now one = All-map (HasRow (live_rows rows now) site) row_key (filter (is_live_in site now) rows) (λ k d lt. (
    let h = slice_index_or (filter (is_live_in site now) rows) k d in
    let held = filtered_holds (is_live_in site now) rows h (Contains-get_or (filter (is_live_in site now) rows) k d lt) in
    has_row_of rows site now h one held.0 held.1
    ))

apart_keys : (rows : List RowValue) → OneEach rows → AllPairs (λ a b. a ≢ b) (map row_key rows)
apart_keys [] one = λ i j d less within. absurd (omega (arith, within))
apart_keys (x ∷ xs) one = λ i j d less within same. (
    let lt_j : j < length (x ∷ xs) = omega (arith, within, length-map (x ∷ xs) row_key) in
    one i j x less lt_j (sym (get_or-map row_key (x ∷ xs) i x d (omega (arith, less, lt_j))) ∙ same ∙ get_or-map row_key (x ∷ xs) j x d lt_j)
    )

long_keys : (rows : List RowValue) (site now : ℕ) → length (live_keys rows site now) ≡ count_by (is_live_in site now) rows
long_keys rows site now = length-map (filter (is_live_in site now) rows) row_key ∙ length-filter (is_live_in site now) rows

few_rows : (rows : List RowValue) (site now most : ℕ) → count_by (is_live_in site now) rows ≤ most → AtMost (HasRow (live_rows rows now) site) most
few_rows rows site now most few = (live_keys rows site now, omega (arith, few, long_keys rows site now), keys_listed rows site now)

many_rows : (rows : List RowValue) (site now most : ℕ) → OneEach rows → most < count_by (is_live_in site now) rows → MoreThan (HasRow (live_rows rows now) site) most
many_rows rows site now most one many = (live_keys rows site now, omega (arith, many, long_keys rows site now), apart_keys (filter (is_live_in site now) rows) (AllPairs-filter (λ a b. row_key a ≢ row_key b) (is_live_in site now) rows one), keys_have rows site now one)

-- ---- how many there are once given rows are set

count_case : (p : RowValue → Bool) (h : RowValue) (rows : List RowValue) (keep : Bool) → count_by p (cond keep (h ∷ rows) rows) ≡ cond (p h && keep) 1 0 + count_by p rows
count_case p h rows keep = grind (arith, sum_by-cons (λ x. cond (p x) 1 0) h rows)

count_kept : (rows given : List RowValue) (site now : ℕ) → count_by (stays_live given site now) rows ≡ count_by (is_live_in site now) (kept_rows rows given)
count_kept [] given site now = refl
count_kept (h ∷ rows) given site now =
    sum_by-cons (λ x. cond (stays_live given site now x) 1 0) h rows
    ∙ ap (λ (n : ℕ). cond (stays_live given site now h) 1 0 + n) (count_kept rows given site now)
    ∙ sym (count_case (is_live_in site now) h (kept_rows rows given) (not (is_set_by given h)))

pub count_set : (rows given : List RowValue) (site now : ℕ) → count_by (is_live_in site now) (set_rows rows given) ≡ count_by (stays_live given site now) rows + count_by (is_live_in site now) (last_rows given)
count_set rows given site now = sum_by-append (λ x. cond (is_live_in site now x) 1 0) (kept_rows rows given) (last_rows given) ∙ ap (λ (n : ℕ). n + count_by (is_live_in site now) (last_rows given)) (sym (count_kept rows given site now))

pub count_after : (rows given : List RowValue) (site now kept last sum : ℕ) → kept ≡ count_by (stays_live given site now) rows → last ≡ count_by (is_live_in site now) (last_rows given) → sum ≡ min (kept + last) (2 ^ 64 - 1) → sum ≡ min (count_by (is_live_in site now) (set_rows rows given)) (2 ^ 64 - 1)
count_after rows given site now kept last sum e f total = total ∙ ap (λ (n : ℕ). min n (2 ^ 64 - 1)) ((λ i. e i + f i) ∙ sym (count_set rows given site now))

-- ---- whether one is new

new_row : (rows given : List RowValue) (site now : ℕ) → OneEach rows → list_any (is_new rows site now) (last_rows given) ≡ true → (k : RouterId × PrefixValue) × (HasRow (live_rows (set_rows rows given) now) site k × (HasRow (live_rows rows now) site k → ⊥))
new_row rows given site now one any =
    let (place, h, lt, at, new) = Any-from_list_any (is_new rows site now) (last_rows given) any in
    let held : Contains (set_rows rows given) h = Contains-append_right (kept_rows rows given) (last_rows given) h (place, lt, at) in
    let (lives, fresh) = and_parts (is_live_in site now h) (not (has_live rows now h)) new in
    (row_key h, (has_row_of (set_rows rows given) site now h (one_each_set rows given one) held lives, λ was. true≢false (sym was.1 ∙ not-true (has_live rows now h) fresh)))

pub none_new : (rows given : List RowValue) (site now : ℕ) → OneEach rows → list_any (is_new rows site now) (last_rows given) ≡ false → (k : RouterId × PrefixValue) → HasRow (live_rows (set_rows rows given) now) site k → HasRow (live_rows rows now) site k
none_new rows given site now one none k has = by (row_of_has (set_rows rows given) site now k has)
  where
    by : (h : RowValue) × (Contains (set_rows rows given) h × ((is_live_in site now h ≡ true) × (row_key h ≡ k))) → HasRow (live_rows rows now) site k
    by (h, (held, (lives, own))) = subst (HasRow (live_rows rows now) site) own (on_either (Contains-append_cases (kept_rows rows given) (last_rows given) h held)
        (λ kept. has_row_of rows site now h one (kept_unset rows given h kept).0 lives)
        (λ last. ((Decides-eqb h.router.site site).0 (and_parts (h.router.site == site) (is_alive h now) lives).0, old (never_new last (is_new rows site now h) refl))))
      where
        old : is_new rows site now h ≡ false → has_live rows now h ≡ true
        old never = and_not (is_live_in site now h) (has_live rows now h) never lives

        never_new : Contains (last_rows given) h → (b : Bool) → is_new rows site now h ≡ b → is_new rows site now h ≡ false
        never_new last true new = absurd (true≢false (sym (any_holds (is_new rows site now) (last_rows given) h last new) ∙ none))
        never_new last false new = new

-- ---- the limit on rows

pub rows_fit_none_new : (rows given : List RowValue) (site now most : ℕ) → OneEach rows → list_any (is_new rows site now) (last_rows given) ≡ false → RowsFit (Some most) site (live_rows rows now) (live_rows_with rows given now)
rows_fit_none_new rows given site now most one none = subst (RowsFit (Some most) site (live_rows rows now)) (live_rows_set rows given now) (inl (none_new rows given site now one none))

pub rows_fit_few : (rows given : List RowValue) (site now most : ℕ) → count_by (is_live_in site now) (set_rows rows given) ≤ most → RowsFit (Some most) site (live_rows rows now) (live_rows_with rows given now)
rows_fit_few rows given site now most few = subst (RowsFit (Some most) site (live_rows rows now)) (live_rows_set rows given now) (inr (few_rows (set_rows rows given) site now most few))

pub rows_exceed : (rows given : List RowValue) (site now most : ℕ) → OneEach rows → list_any (is_new rows site now) (last_rows given) ≡ true → most < count_by (is_live_in site now) (set_rows rows given) → RowsExceed (Some most) site (live_rows rows now) (live_rows_with rows given now)
rows_exceed rows given site now most one any many =
    let (k, (has, fresh)) = new_row rows given site now one any in
    subst (RowsExceed (Some most) site (live_rows rows now)) (live_rows_set rows given now) (k, has, (fresh, many_rows (set_rows rows given) site now most (one_each_set rows given one) many))

-- ---- the routers of a site's live rows

tie-Decides : (a b : RouterId) → Decides (eq_by_cmp router_cmp a b) (a ≡ b)
tie-Decides a b = (λ t. tells_apart same_router a b t, λ e. subst (λ (r : RouterId). eq_by_cmp router_cmp a r ≡ true) e ((eq_by_cmp_equiv router_total).refl a))

router_of_row : (rows : List RowValue) (site now : ℕ) (h : RowValue) → OneEach rows → Contains rows h → is_live_in site now h ≡ true → HasRouter (live_rows rows now) site h.router
router_of_row rows site now h one held lives = (let has = has_row_of rows site now h one held lives in (has.0, h.mapping.eid, has.1))

-- the site's routers that have live rows are those that a test finds
router_tested : (rows : List RowValue) (site now : ℕ) (router : RouterId) → HasRouter (live_rows rows now) site router → has_router rows site now router ≡ true
router_tested rows site now router (own, eid, some) = by (row_of_has rows site now (router, eid) (own, some))
  where
    by : (h : RowValue) × (Contains rows h × ((is_live_in site now h ≡ true) × (row_key h ≡ (router, eid)))) → has_router rows site now router ≡ true
    by (h, (held, (lives, key))) = any_holds (λ x. is_live_in site now x && router_eq x.router router) rows h held (and_from (is_live_in site now h) (router_eq h.router router) lives ((router_eq-Decides h.router router).1 (ap (λ (k : RouterId × PrefixValue). k.0) key)))

tested_router : (rows : List RowValue) (site now : ℕ) (router : RouterId) → OneEach rows → has_router rows site now router ≡ true → HasRouter (live_rows rows now) site router
tested_router rows site now router one any =
    let (place, h, lt, at, passes) = Any-from_list_any (λ x. is_live_in site now x && router_eq x.router router) rows any in
    let (lives, own) = and_parts (is_live_in site now h) (router_eq h.router router) passes in
    subst (HasRouter (live_rows rows now) site) ((router_eq-Decides h.router router).0 own) (router_of_row rows site now h one (place, lt, at) lives)

-- what a set of routers has
set_has : (routers : BTreeSet RouterId) (router : RouterId) → (contains router_cmp routers router ≡ true) ↔ Contains routers.keys router
set_has routers router = btree_set_contains_iff router_total same_router routers router

module _ (rows : List RowValue) (site now : ℕ) (routers : BTreeSet RouterId) (are : AreRouters routers site now rows) where
  routers_listed : (router : RouterId) → HasRouter (live_rows rows now) site router → Contains routers.keys router
  routers_listed router has = (set_has routers router).0 (are router ∙ router_tested rows site now router has)

  listed_routers : OneEach rows → (router : RouterId) → contains router_cmp routers router ≡ true → HasRouter (live_rows rows now) site router
  listed_routers one router has = tested_router rows site now router one (sym (are router) ∙ has)

  few_routers : (most : ℕ) → length routers.keys ≤ most → AtMost (HasRouter (live_rows rows now) site) most
  few_routers most few = (routers.keys, few, routers_listed)

  many_routers : (most : ℕ) → OneEach rows → IsOrdered router_cmp routers → most < length routers.keys → MoreThan (HasRouter (live_rows rows now) site) most
  many_routers most one ordered many = (routers.keys, many, AllPairs-from_IsDistinct tie-Decides routers.keys (IsDistinct-from_sorted router_cmp routers.keys ordered), λ k d lt. listed_routers one (slice_index_or routers.keys k d) ((set_has routers (slice_index_or routers.keys k d)).1 (Contains-get_or routers.keys k d lt)))

-- a set that isn't in another has a router that the other lacks
lacking : (after before : BTreeSet RouterId) → (IsSubset router_cmp after before → ⊥) → (router : RouterId) × ((contains router_cmp after router ≡ true) × (contains router_cmp before router ≡ false))
lacking after before apart = by (list_any (λ router. not (contains router_cmp before router)) after.keys) refl
  where
    held : (router : RouterId) (b : Bool) → contains router_cmp before router ≡ b → list_any (λ r. not (contains router_cmp before r)) after.keys ≡ false → Contains after.keys router → contains router_cmp before router ≡ true
    held router true has none listed = has
    held router false lacks none listed = absurd (true≢false (sym (list_any_at (λ r. not (contains router_cmp before r)) after.keys listed.0 router listed.1 (ap (λ (r : RouterId). not (contains router_cmp before r)) listed.2 ∙ ap not lacks)) ∙ none))

    by : (b : Bool) → list_any (λ router. not (contains router_cmp before router)) after.keys ≡ b → (router : RouterId) × ((contains router_cmp after router ≡ true) × (contains router_cmp before router ≡ false))
    by true any =
        let (place, router, lt, at, lacks) = Any-from_list_any (λ r. not (contains router_cmp before r)) after.keys any in
        (router, ((set_has after router).1 (place, lt, at), not-true (contains router_cmp before router) lacks))
    by false none = absurd (apart (λ router has. held router (contains router_cmp before router) refl none ((set_has after router).0 has)))

-- nothing given changes nothing
set_alike : (P : LiveRows → LiveRows → Type 0) (rows given : List RowValue) (now : ℕ) → P (live_rows (set_rows rows []) now) (live_rows (set_rows rows given) now) → P (live_rows rows now) (live_rows_with rows given now)
set_alike P rows given now holds = subst (λ (p : LiveRows × LiveRows). P p.0 p.1) (λ i. (live_rows_set rows [] now i, live_rows_set rows given now i)) holds

-- ---- the limit on routers

pub routers_fit_none_new : (rows given : List RowValue) (site now most : ℕ) → OneEach rows → list_any (is_new rows site now) (last_rows given) ≡ false → RoutersFit (Some most) site (live_rows rows now) (live_rows_with rows given now)
routers_fit_none_new rows given site now most one none = subst (RoutersFit (Some most) site (live_rows rows now)) (live_rows_set rows given now) (inl (λ router has. (
    let was = none_new rows given site now one none (router, has.1) (has.0, has.2) in
    (was.0, has.1, was.1)
    )))

pub routers_fit_few : (rows given : List RowValue) (site now most : ℕ) (after : BTreeSet RouterId) → AreRouters after site now (set_rows rows given) → length after.keys ≤ most → RoutersFit (Some most) site (live_rows rows now) (live_rows_with rows given now)
routers_fit_few rows given site now most after are few = subst (RoutersFit (Some most) site (live_rows rows now)) (live_rows_set rows given now) (inr (few_routers (set_rows rows given) site now after are most few))

pub routers_fit_old : (rows given : List RowValue) (site now most : ℕ) (after before : BTreeSet RouterId) → OneEach rows → AreRouters after site now (set_rows rows given) → AreRouters before site now (set_rows rows []) → IsSubset router_cmp after before → RoutersFit (Some most) site (live_rows rows now) (live_rows_with rows given now)
routers_fit_old rows given site now most after before one are were subset = set_alike (RoutersFit (Some most) site) rows given now (inl (λ router has. listed_routers (set_rows rows []) site now before were (one_each_set rows [] one) router (subset router (are router ∙ router_tested (set_rows rows given) site now router has))))

pub routers_exceed : (rows given : List RowValue) (site now most : ℕ) (after before : BTreeSet RouterId) → OneEach rows → IsOrdered router_cmp after → AreRouters after site now (set_rows rows given) → AreRouters before site now (set_rows rows []) → most < length after.keys → (IsSubset router_cmp after before → ⊥) → RoutersExceed (Some most) site (live_rows rows now) (live_rows_with rows given now)
routers_exceed rows given site now most after before one ordered are were many apart =
    let (router, (has, lacks)) = lacking after before apart in
    set_alike (RoutersExceed (Some most) site) rows given now (
      router,
      listed_routers (set_rows rows given) site now after are (one_each_set rows given one) router has,
      (
        λ was. true≢false (sym (were router ∙ router_tested (set_rows rows []) site now router was) ∙ lacks),
        many_routers (set_rows rows given) site now after are most (one_each_set rows given one) ordered many,
      ),
    )

-- ---- going through the given rows, and through the rows

pub has_live_found : (rows : List RowValue) (now number : ℕ) (h found : RowValue) → Some number ≡ position (is_row_of h.router h.mapping.eid) rows → found ≡ slice_index_or rows number found → is_alive found now ≡ has_live rows now h
unfolding row_at
has_live_found rows now number h found at is = sym (ap (λ (o : Option RowValue). is_some (option_and_then (if_alive now) o)) (at_place (is_row_of h.router h.mapping.eid) rows number found (sym at)) ∙ ap (λ (x : RowValue). is_some (if_alive now x)) (sym is) ∙ alive_or_not found (is_alive found now))

pub has_live_nowhere : (rows : List RowValue) (now : ℕ) (h : RowValue) → None ≡ position (is_row_of h.router h.mapping.eid) rows → false ≡ has_live rows now h
unfolding row_at
has_live_nowhere rows now h at = sym (ap (λ (o : Option RowValue). is_some (option_and_then (if_alive now) o)) (nowhere (is_row_of h.router h.mapping.eid) rows (sym at)))

any_case : (p : RowValue → Bool) (h : RowValue) (rows : List RowValue) (set : Bool) → list_any p (cond set rows (h ∷ rows)) ≡ ((p h && not set) || list_any p rows)
any_case p h rows set = grind arith

-- whether a test finds a row among the last of each router and prefix, by the first of the given ones
pub any_last : (p : RowValue → Bool) (rest later : List RowValue) (h : RowValue) → rest ≡ h ∷ later → list_any p (last_rows rest) ≡ ((p h && not (is_set_by later h)) || list_any p (last_rows later))
any_last p rest later h split = ap (λ (rows : List RowValue). list_any p (last_rows rows)) split ∙ any_case p h (last_rows later) (is_set_by later h)

turned : {X : Type 0} (b : Bool) (x y : X) → cond b x y ≡ cond (not b) y x
turned b x y = grind arith

count_last : (site now : ℕ) (rest later : List RowValue) (h : RowValue) → rest ≡ h ∷ later → count_by (is_live_in site now) (last_rows rest) ≡ cond (stays_live later site now h) 1 0 + count_by (is_live_in site now) (last_rows later)
count_last site now rest later h split = ap (λ (rows : List RowValue). count_by (is_live_in site now) (last_rows rows)) split ∙ ap (count_by (is_live_in site now)) (turned (is_set_by later h) (last_rows later) (h ∷ last_rows later)) ∙ count_case (is_live_in site now) h (last_rows later) (not (is_set_by later h))

-- one of the given rows was counted, or isn't to be
abbrev pub CountsOne : Bool → ℕ → ℕ → Type 0
CountsOne counted count next = ((counted ≡ true) × (next ≡ count + 1)) ⊎ ((counted ≡ false) × (next ≡ count))

one_more : (counted : Bool) (count next rest : ℕ) → CountsOne counted count next → next + rest ≡ count + (cond counted 1 0 + rest)
one_more counted count next rest counts = grind arith

pub count_last_next : (site now : ℕ) (rest later : List RowValue) (h : RowValue) (count next : ℕ) → rest ≡ h ∷ later → CountsOne (stays_live later site now h) count next → next + count_by (is_live_in site now) (last_rows later) ≡ count + count_by (is_live_in site now) (last_rows rest)
count_last_next site now rest later h count next split counts = one_more (stays_live later site now h) count next (count_by (is_live_in site now) (last_rows later)) counts ∙ ap (λ (n : ℕ). count + n) (sym (count_last site now rest later h split))

-- the router of a row was added, or isn't to be
abbrev pub AddsOne : Bool → RouterId → BTreeSet RouterId → BTreeSet RouterId → Type 0
AddsOne added router old new = ((added ≡ true) × Updates router_cmp old new router true) ⊎ ((added ≡ false) × (new.keys ≡ old.keys))

tie_is_same : (a b : RouterId) → eq_by_cmp router_cmp a b ≡ router_eq a b
tie_is_same a b = same_from_decides (eq_by_cmp router_cmp a b) (router_eq a b) (tie-Decides a b) (router_eq-Decides a b)

added_case : (live same set old new : Bool) → (((live && not set) ≡ true) × (new ≡ cond same true old)) ⊎ (((live && not set) ≡ false) × (new ≡ old)) → new ≡ (old || ((live && same) && not set))
added_case live same set old new either = grind arith

-- what the set has after one row
one_added : (given : List RowValue) (site now : ℕ) (h : RowValue) (old new : BTreeSet RouterId) (router : RouterId) → AddsOne (stays_live given site now h) h.router old new → contains router_cmp new router ≡ (contains router_cmp old router || ((is_live_in site now h && router_eq h.router router) && not (is_set_by given h)))
one_added given site now h old new router adds = added_case (is_live_in site now h) (router_eq h.router router) (is_set_by given h) (contains router_cmp old router) (contains router_cmp new router) (on_either adds
    (λ (is, updates). inl (is, updates.0 router ∙ ap (λ (b : Bool). cond b true (contains router_cmp old router)) (tie_is_same h.router router)))
    (λ (is, same). inr (is, ap (λ (keys : List RouterId). list_any (eq_by_cmp router_cmp router) keys) same)))

or_assoc : (a b c : Bool) → ((a || b) || c) ≡ (a || (b || c))
or_assoc a b c = grind arith

pub add_last_next : (site now : ℕ) (rest later : List RowValue) (h : RowValue) (old new : BTreeSet RouterId) → rest ≡ h ∷ later → AddsOne (stays_live later site now h) h.router old new → (router : RouterId) → (contains router_cmp new router || has_router (last_rows later) site now router) ≡ (contains router_cmp old router || has_router (last_rows rest) site now router)
add_last_next site now rest later h old new split adds router =
    ap (λ (b : Bool). b || has_router (last_rows later) site now router) (one_added later site now h old new router adds)
    ∙ or_assoc (contains router_cmp old router) ((is_live_in site now h && router_eq h.router router) && not (is_set_by later h)) (has_router (last_rows later) site now router)
    ∙ ap (λ (b : Bool). contains router_cmp old router || b) (sym (any_last (λ x. is_live_in site now x && router_eq x.router router) rest later h split))

any_kept : (p : RowValue → Bool) (h : RowValue) (set : Bool) → list_any p (cond (not set) (h ∷ []) []) ≡ (p h && not set)
any_kept p h set = grind arith

pub add_kept_next : (rows given : List RowValue) (i site now : ℕ) (h : RowValue) (first old new : BTreeSet RouterId) → i < length rows → h ≡ slice_index_or rows i h → AddsRouters first old site now (kept_rows (take i rows) given) → AddsOne (stays_live given site now h) h.router old new → AddsRouters first new site now (kept_rows (take (i + 1) rows) given)
add_kept_next rows given i site now h first old new lt at so_far adds router =
    let p = λ (x : RowValue). is_live_in site now x && router_eq x.router router in
    let kept = λ (x : RowValue). not (is_set_by given x) in
    let more : kept_rows (take (i + 1) rows) given ≡ kept_rows (take i rows) given ++ cond (not (is_set_by given h)) (h ∷ []) [] = filter_more kept rows i h lt ∙ ap (λ (x : RowValue). kept_rows (take i rows) given ++ cond (not (is_set_by given x)) (x ∷ []) []) (sym at) in
    one_added given site now h old new router adds
    ∙ ap (λ (b : Bool). b || (p h && not (is_set_by given h))) (so_far router)
    ∙ or_assoc (contains router_cmp first router) (has_router (kept_rows (take i rows) given) site now router) (p h && not (is_set_by given h))
    ∙ ap (λ (b : Bool). contains router_cmp first router || (has_router (kept_rows (take i rows) given) site now router || b)) (sym (any_kept p h (is_set_by given h)))
    ∙ ap (λ (b : Bool). contains router_cmp first router || b) (sym (list_any-append p (kept_rows (take i rows) given) (cond (not (is_set_by given h)) (h ∷ []) [])) ∙ ap (list_any p) (sym more))
