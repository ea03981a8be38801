-- The routers after those that were listed.
use Rattle.std.proofs.Common.{◌≡◌, ℕ, ◌+◌, ◌^◌, ◌<◌, Bool, true, false, cond, All, List, [], ◌∷◌, ◌++◌, length, refl, sym, ap, subst, ◌∙◌, append_assoc, arith}
use Rattle.std.specs.Prelude.{◌&&◌, ⊤}
use Rattle.std.specs.BTreeMap.Range.{entries_between, range_contains}
use Rattle.std.specs.Cmp.{IsTotalOrder, tied_itself}
use Rattle.std.specs.List.{filter, flat_map}
use Rattle.std.specs.List.Sorted.{IsStrictlySortedBy}
use Rattle.std.specs.Map.{keys_of}
use Rattle.std.specs.Ordering.{is_le, is_lt, ordering_reverse}
use Rattle.std.specs.declared.cmp.Ordering.{Ordering}
use Rattle.std.specs.declared.cmp.Ordering.TheVariants.{Less, Equal, Greater}
use Rattle.std.specs.declared.ops.Bound.{Bound}
use Rattle.std.specs.declared.ops.Bound.TheVariants.{Included, Excluded, Unbounded}
use Rattle.std.proofs.lemmas.Bool.{lt-ltb, le-ltb}
use Rattle.std.proofs.lemmas.List.{append-nil, flat_map_more, length-append}
use Rattle.std.proofs.lemmas.List.Elements.{All-head, All-tail}
use Rattle.std.proofs.lemmas.Map.Keys.{sorted_tail}
use Rattle.std.proofs.lemmas.Map.Views.{All-after_first}
use Rattle.lisp_records.specs.declared.router.RouterId.{RouterId}
use Rattle.lisp_statistics.specs.declared.hearing.Hearing.{Hearing}
use Rattle.lisp_statistics.specs.declared.gathering.Gathering.{Gathering}
use Rattle.lisp_statistics.specs.declared.router_list.RouterList.{RouterList}
use Rattle.lisp_lines.specs.Walk.{up_to_most}
use Rattle.lisp_statistics.specs.RouterList.{MoreListed, PutsRouter, PutsRouters, most_routers, routers_left}

and_true : (b : Bool) → (b && true) ≡ b
and_true true = refl
and_true false = refl

le_from_lt : (r : Ordering) → is_lt r ≡ true → is_le r ≡ true
le_from_lt Less less = refl
le_from_lt Equal less = absurd (let clash : false ≡ true = less in cc)
le_from_lt Greater less = absurd (let clash : false ≡ true = less in cc)

abbrev rest : {X : Type 0} → List X → List X
rest [] = []
rest (x ∷ xs) = xs

abbrev first_or : {X : Type 0} → X → List X → X
first_or d [] = d
first_or d (x ∷ xs) = x

-- ---- the entries after one of a map

module _ {K : Type 0} {R : K → K → Ordering} (o : IsTotalOrder R) where
  less_after : (l a b : K) (r : Ordering) → R l a ≡ r → is_le r ≡ true → R a b ≡ Less → R l b ≡ Less
  less_after l a b Less is le less = o.trans l a b is less
  less_after l a b Equal is le less = o.congr l a b is ∙ less
  less_after l a b Greater is le less = absurd (let clash : false ≡ true = le in cc)

  -- what is after a key that is inside a bound is inside it too
  still_from : (from : Bound K) (a b : K) → R a b ≡ Less → range_contains R from Unbounded a ≡ true → range_contains R from Unbounded b ≡ true
  still_from (Included l) a b less inside = ap (λ (r : Ordering). is_le r && true) (less_after l a b (R l a) refl (sym (and_true (is_le (R l a))) ∙ inside) less)
  still_from (Excluded l) a b less inside = ap (λ (r : Ordering). is_lt r && true) (less_after l a b (R l a) refl (le_from_lt (R l a) (sym (and_true (is_lt (R l a))) ∙ inside)) less)
  still_from Unbounded a b less inside = refl

module _ {K X : Type 0} {R : K → K → Ordering} (o : IsTotalOrder R) where
  -- all entries are after a key
  abbrev After : K → List (K × X) → Type 0
  After k [] = ⊤
  After k (e ∷ es) = (R k e.0 ≡ Less) × After k es

  after_from : (k : K) (es : List (K × X)) → All (λ (q : K). R k q ≡ Less) (keys_of es) → After k es
  after_from k [] all = tt
  after_from k (e ∷ es) all = (All-head (λ (q : K). R k q ≡ Less) e.0 (keys_of es) all, after_from k es (All-tail (λ (q : K). R k q ≡ Less) e.0 (keys_of es) all))

  all_inside : (from : Bound K) (k : K) (es : List (K × X)) → range_contains R from Unbounded k ≡ true → After k es → entries_between R from Unbounded es ≡ es
  all_inside from k [] inside after = refl
  all_inside from k (e ∷ es) inside after =
      ap (λ (b : Bool). cond b (e ∷ entries_between R from Unbounded es) (entries_between R from Unbounded es)) (still_from o from k e.0 after.0 inside)
      ∙ ap (λ (t : List (K × X)). e ∷ t) (all_inside from k es inside after.1)

  first_after : (k : K) (p : K × X → Bool) (es t : List (K × X)) (first : K × X) → After k es → filter p es ≡ first ∷ t → R k first.0 ≡ Less
  first_after k p [] t first after is = absurd cc
  first_after k p (e ∷ es) t first after is = by (p e) refl (first_after k p es t first after.1)
    where
      by : (b : Bool) → p e ≡ b → (filter p es ≡ first ∷ t → R k first.0 ≡ Less) → R k first.0 ≡ Less
      by true its further =
          let found : e ∷ filter p es ≡ first ∷ t = ap (λ (b : Bool). cond b (e ∷ filter p es) (filter p es)) (sym its) ∙ is in
          ap (λ (es : List (K × X)). R k (first_or e es).0) (sym found) ∙ after.0
      by false its further = further (ap (λ (b : Bool). cond b (e ∷ filter p es) (filter p es)) (sym its) ∙ is)

  pub past_first : (from : Bound K) (first : K × X) (es t : List (K × X)) → IsStrictlySortedBy R (keys_of es) → entries_between R from Unbounded es ≡ first ∷ t → entries_between R (Excluded first.0) Unbounded es ≡ t
  past_first from first [] t sorted is = absurd cc
  past_first from first (e ∷ es) t sorted is = by (range_contains R from Unbounded e.0) refl (past_first from first es t (sorted_tail R e.0 (keys_of es) sorted))
    where
      those : Bound K → List (K × X)
      those from = entries_between R from Unbounded es

      after : After e.0 es
      after = after_from e.0 es (All-after_first R e.0 (keys_of es) sorted)

      by : (b : Bool) → range_contains R from Unbounded e.0 ≡ b → (those from ≡ first ∷ t → those (Excluded first.0) ≡ t) → entries_between R (Excluded first.0) Unbounded (e ∷ es) ≡ t
      by true its further =
          let found : e ∷ those from ≡ first ∷ t = ap (λ (b : Bool). cond b (e ∷ those from) (those from)) (sym its) ∙ is in
          let itself : entries_between R (Excluded e.0) Unbounded (e ∷ es) ≡ those (Excluded e.0) = ap (λ (r : Ordering). cond (is_lt r && true) (e ∷ those (Excluded e.0)) (those (Excluded e.0))) (tied_itself o e.0) in
          let all : those (Excluded e.0) ≡ es = later e.0 es after in
          ap (λ (f : List (K × X)). entries_between R (Excluded (first_or e f).0) Unbounded (e ∷ es)) (sym found) ∙ itself ∙ all ∙ sym (all_inside from e.0 es its after) ∙ ap rest found
        where
          later : (k : K) (fs : List (K × X)) → After k fs → entries_between R (Excluded k) Unbounded fs ≡ fs
          later k [] after = refl
          later k (f ∷ fs) after =
              ap (λ (r : Ordering). cond (is_lt r && true) (f ∷ entries_between R (Excluded k) Unbounded fs) (entries_between R (Excluded k) Unbounded fs)) after.0
              ∙ ap (λ (t : List (K × X)). f ∷ t) (later k fs after.1)
      by false its further =
          let found : those from ≡ first ∷ t = ap (λ (b : Bool). cond b (e ∷ those from) (those from)) (sym its) ∙ is in
          let before : R first.0 e.0 ≡ Greater = o.antisymm first.0 e.0 ∙ ap ordering_reverse (first_after e.0 (λ (f : K × X). range_contains R from Unbounded f.0) es t first after found) in
          ap (λ (r : Ordering). cond (is_lt r && true) (e ∷ those (Excluded first.0)) (those (Excluded first.0))) before ∙ further found

-- ---- the routers so far

-- these were listed, so many
pub record Listed {A : Type 0} (heard : List (RouterId × Hearing)) (old new : RouterList A) (taken : List (RouterId × Hearing)) (many : ℕ) : Type 0 where
  pub left : routers_left old heard ≡ taken ++ routers_left new heard
  pub goes_on : MoreListed old new (length taken)
  pub long : length taken ≡ many

-- and their lines come after a text
abbrev pub HasPut : {A : Type 0} → (Gathering A → RouterId × Hearing → List ℕ) → List (RouterId × Hearing) → RouterList A → RouterList A → List ℕ → List ℕ → ℕ → Type 0
HasPut shown heard old new before after many = (taken : List (RouterId × Hearing)) × Listed heard old new taken many × (after ≡ before ++ flat_map (shown old.rows) taken)

most_again : (lines n : ℕ) → up_to_most (up_to_most (lines + n) + 1) ≡ up_to_most (lines + (n + 1))
most_again lines n = omega arith

module _ {A : Type 0} (shown : Gathering A → RouterId × Hearing → List ℕ) (heard : List (RouterId × Hearing)) (old : RouterList A) (before : List ℕ) where
  pub nothing_put : old.lines < 2 ^ 64 → HasPut shown heard old old before before 0
  nothing_put most = ([], record { left = refl; goes_on = ap (λ (n : ℕ). record old { lines = n }) (omega (arith, most)); long = refl }, sym (append-nil before))

  pub line_put : (mid new : RouterList A) (between after : List ℕ) (many : ℕ) → HasPut shown heard old mid before between many → PutsRouter (shown mid.rows) heard mid new between after true → HasPut shown heard old new before after (many + 1)
  line_put mid new between after many so_far puts = (
    taken ++ h ∷ [],
    record {
      left = so_far.1.left ∙ ap (λ (hs : List (RouterId × Hearing)). taken ++ hs) puts.1.1 ∙ sym (append_assoc taken (h ∷ []) (routers_left new heard));
      goes_on = subst (λ (n : ℕ). MoreListed old new n) (sym longer) goes_on;
      long = longer ∙ ap (λ (n : ℕ). n + 1) so_far.1.long;
    },
    puts.2 ∙ ap (λ (rows : Gathering A). between ++ shown rows h) rows ∙ ap (λ (t : List ℕ). t ++ shown old.rows h) so_far.2 ∙ flat_map_more (shown old.rows) before taken h,
  )
    where
      taken : List (RouterId × Hearing)
      taken = so_far.0

      h : RouterId × Hearing
      h = puts.0

      longer : length (taken ++ h ∷ []) ≡ length taken + 1
      longer = length-append taken (h ∷ [])

      rows : mid.rows ≡ old.rows
      rows = ap (λ (l : RouterList A). l.rows) so_far.1.goes_on

      goes_on : MoreListed old new (length taken + 1)
      goes_on = puts.1.0 ∙ ap (λ (m : RouterList A). record m { left = new.left; lines = up_to_most (m.lines + 1) }) so_far.1.goes_on
          ∙ ap (λ (n : ℕ). record old { left = new.left; lines = n }) (most_again old.lines (length taken))

  pub last_put : (mid new : RouterList A) (between after : List ℕ) (many : ℕ) → HasPut shown heard old mid before between many → many < most_routers → PutsRouter (shown mid.rows) heard mid new between after false → PutsRouters (shown old.rows) heard old new before after true
  last_put mid new between after many so_far few puts = (
    taken,
    record {
      left = so_far.1.left ∙ ap (λ (l : RouterList A). taken ++ routers_left l heard) (sym puts.0.0);
      goes_on = subst (λ (l : RouterList A). MoreListed old l (length taken)) (sym puts.0.0) so_far.1.goes_on;
      few = omega (arith, so_far.1.long, few);
      fewer = sym (lt-ltb (length taken) most_routers (omega (arith, so_far.1.long, few)));
      end = λ is. ap (λ (l : RouterList A). routers_left l heard) puts.0.0 ∙ puts.0.1;
    },
    puts.1 ∙ so_far.2,
  )
    where
      taken : List (RouterId × Hearing)
      taken = so_far.0

  pub all_put : (new : RouterList A) (after : List ℕ) (many : ℕ) → HasPut shown heard old new before after many → many ≡ most_routers → PutsRouters (shown old.rows) heard old new before after false
  all_put new after many so_far full = (
    so_far.0,
    record {
      left = so_far.1.left;
      goes_on = so_far.1.goes_on;
      few = omega (arith, so_far.1.long, full);
      fewer = sym (le-ltb (length so_far.0) most_routers (omega (arith, so_far.1.long, full)));
      end = λ is. absurd (let clash : false ≡ true = is in cc);
    },
    so_far.2,
  )
