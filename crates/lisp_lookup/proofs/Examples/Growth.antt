-- Which rows let a site grow beyond a limit on its rows or on their routers, and which don't.
use Rattle.std.proofs.Common.{Bool, List, None, Option, Some, [], ap, arith, false, inl, inr, length, map, refl, subst, sym, true, true≢false, ℕ, ◌++◌, ◌∙◌, ◌∷◌, ◌≡◌, ◌≢◌, ◌≤◌, ◌⊎◌, cond}
use Rattle.std.proofs.lemmas.List.Elements.{All-contains, All-from_recursion}
use Rattle.std.proofs.lemmas.Map.Made.{AllPairs-from_IsDistinct}
use Rattle.std.specs.List.{All, AllPairs, Contains, IsDistinct, find}
use Rattle.std.specs.Option.{IsSome, option_and_then, option_or}
use Rattle.lisp_records.proofs.RouterLaws.{router_eq-Decides}
use Rattle.lisp_records.specs.Address.{PrefixValue}
use Rattle.lisp_records.specs.Router.{router_eq}
use Rattle.lisp_records.specs.Row.{RowValue}
use Rattle.lisp_records.specs.declared.router.RouterId.{RouterId}
use Rattle.lisp_policy.specs.declared.full.Full.{Full}
use Rattle.lisp_policy.specs.declared.full.Full.TheVariants.{Routers, Rows}
use Rattle.lisp_lookup.specs.Growth.{Fits, HasRouter, HasRow, IsFull, live_rows, live_rows_with}
use Rattle.lisp_lookup.specs.Table.{if_alive, is_row_of, row_at, row_key}
use Rattle.lisp_lookup.proofs.GrowthLaws.{at_least, key_eq, key_eq-Decides}
use Rattle.lisp_lookup.proofs.TableLaws.{has_key}
use Rattle.lisp_lookup.proofs.Examples.Rows.{block, dead, no, router, row}

-- ---- rows of the site 1 at the moment 1, and what is said of them

-- two rows of the first router, and one of the second
abbrev first : RowValue
first = row 1 (block 10 1 1 0 24) 60

abbrev second : RowValue
second = row 1 (block 10 1 2 0 24) 60

abbrev third : RowValue
third = row 2 (block 10 1 3 0 24) 60

abbrev two : List RowValue
two = first ∷ second ∷ []

abbrev three : List RowValue
three = first ∷ second ∷ third ∷ []

-- the row of a Map-Register that arrives now; of one with TTL 0
abbrev renewed : RowValue → RowValue
renewed h = record h { accepted = 1 }

abbrev withdrawn : RowValue → RowValue
withdrawn h = record h { accepted = 1; life = 0 }

-- a row of another site
abbrev elsewhere : RowValue → RowValue
elsewhere h = record h { router = record h.router { site = 2 } }

-- a router and a prefix of the site have a live row; would have one with the given rows
abbrev HasBefore : List RowValue → RouterId × PrefixValue → Type 0
HasBefore rows = HasRow (live_rows rows 1) 1

abbrev HasAfter : List RowValue → List RowValue → RouterId × PrefixValue → Type 0
HasAfter rows given = HasRow (live_rows_with rows given 1) 1

-- a router has one
abbrev RoutersBefore : List RowValue → RouterId → Type 0
RoutersBefore rows = HasRouter (live_rows rows 1) 1

abbrev RoutersAfter : List RowValue → List RowValue → RouterId → Type 0
RoutersAfter rows given = HasRouter (live_rows_with rows given 1) 1

-- beside the rows that are held given ones keep a limit on rows, or pass it
abbrev FitRows : ℕ → List RowValue → List RowValue → Type 0
FitRows most rows given = Fits None (Some most) 1 (live_rows rows 1) (live_rows_with rows given 1)

abbrev ExceedRows : ℕ → List RowValue → List RowValue → Type 0
ExceedRows most rows given = IsFull None (Some most) 1 (live_rows rows 1) (live_rows_with rows given 1) Rows

-- the same of a limit on routers
abbrev FitRouters : ℕ → List RowValue → List RowValue → Type 0
FitRouters most rows given = Fits (Some most) None 1 (live_rows rows 1) (live_rows_with rows given 1)

abbrev ExceedRouters : ℕ → List RowValue → List RowValue → Type 0
ExceedRouters most rows given = IsFull (Some most) None 1 (live_rows rows 1) (live_rows_with rows given 1) Routers

-- what follows from a row's being found follows from each row that may be the first of its key
abbrev Key : Type 0
Key = RouterId × PrefixValue

abbrev ByRow : (RowValue → Bool) → (RowValue → Option RowValue) → Type 0 → List RowValue → Type 0
ByRow is shown Q [] = Unit {0}
ByRow is shown Q (h ∷ hs) = (is h ≡ true → IsSome (shown h) → Q) × (is h ≡ false → ByRow is shown Q hs)

by_row : (is : RowValue → Bool) (shown : RowValue → Option RowValue) (Q : Type 0) (given rows : List RowValue) → IsSome (option_and_then shown (option_or (find is given) (find is rows))) → ByRow is shown Q (given ++ rows) → Q
by_row is shown Q [] [] some ways = no some
by_row is shown Q [] (h ∷ hs) some ways = at (is h) refl some (λ later. by_row is shown Q [] hs later)
  where
    at : (b : Bool) → is h ≡ b → IsSome (option_and_then shown (cond b (Some h) (find is hs))) → (IsSome (option_and_then shown (find is hs)) → ByRow is shown Q hs → Q) → Q
    at true own found next = ways.0 own found
    at false own found next = next found (ways.1 own)
by_row is shown Q (h ∷ hs) rows some ways = at (is h) refl some (λ later. by_row is shown Q hs rows later)
  where
    at : (b : Bool) → is h ≡ b → IsSome (option_and_then shown (option_or (cond b (Some h) (find is hs)) (find is rows))) → (IsSome (option_and_then shown (option_or (find is hs) (find is rows))) → ByRow is shown Q (hs ++ rows) → Q) → Q
    at true own found next = ways.0 own found
    at false own found next = next found (ways.1 own)

of_row : (h : RowValue) (k : Key) → is_row_of k.0 k.1 h ≡ true → row_key h ≡ k
of_row h k own = (has_key k h).0 own

-- the keys of rows
abbrev keys : List RowValue → List Key
keys rows = map row_key rows

two_differ : AllPairs (λ a b. a ≢ b) (keys two)
unfolding IsDistinct
two_differ = AllPairs-from_IsDistinct key_eq-Decides (keys two) ((refl, tt), (tt, tt))

three_differ : AllPairs (λ a b. a ≢ b) (keys three)
unfolding IsDistinct
three_differ = AllPairs-from_IsDistinct key_eq-Decides (keys three) ((refl, (refl, tt)), ((refl, tt), (tt, tt)))

routers_differ : AllPairs (λ a b. a ≢ b) (router 1 ∷ router 2 ∷ [])
unfolding IsDistinct
routers_differ = AllPairs-from_IsDistinct router_eq-Decides (router 1 ∷ router 2 ∷ []) ((refl, tt), (tt, tt))

-- ---- which rows of the site are alive, and would be with the given ones

-- those that are held, and those that are given
held_and_given : All (HasAfter two (third ∷ [])) (keys three)
unfolding row_at
held_and_given = All-from_recursion (HasAfter two (third ∷ [])) (keys three) ((refl, refl), ((refl, refl), ((refl, refl), tt)))

no_others : (k : Key) → HasAfter (first ∷ []) (second ∷ []) k → Contains (keys two) k
unfolding row_at
no_others k has = by_row (is_row_of k.0 k.1) (if_alive 1) (Contains (keys two) k) (second ∷ []) (first ∷ []) has.1 (
  (λ own lives. (1, omega arith, of_row second k own)),
  (λ other. ((λ own lives. (0, omega arith, of_row first k own)), (λ others. tt))),
)

-- not one that is dead
dead_row_isnt_there : HasBefore (dead second ∷ []) (row_key second) → ⊥
unfolding row_at
dead_row_isnt_there was = no was.1

dead_row_is_left_out : (k : Key) → HasAfter (first ∷ dead second ∷ []) (third ∷ []) k → Contains (keys (first ∷ third ∷ [])) k
unfolding row_at
dead_row_is_left_out k has = by_row (is_row_of k.0 k.1) (if_alive 1) (Contains (keys (first ∷ third ∷ [])) k) (third ∷ []) (first ∷ dead second ∷ []) has.1 (
  (λ own lives. (1, omega arith, of_row third k own)),
  (λ other. ((λ own lives. (0, omega arith, of_row first k own)), (λ others. ((λ own lives. no lives), (λ rest. tt))))),
)

-- nor one of another site
anothers_is_left_out : (k : Key) → HasAfter (elsewhere second ∷ []) (first ∷ []) k → Contains (keys (first ∷ [])) k
unfolding row_at
anothers_is_left_out k has = by_row (is_row_of k.0 k.1) (if_alive 1) (Contains (keys (first ∷ [])) k) (first ∷ []) (elsewhere second ∷ []) has.1 (
  (λ own lives. (0, omega arith, of_row first k own)),
  (λ other. ((λ own lives. absurd (let site : ◌≡◌ {A = ℕ} 2 1 = ap (λ (x : Key). x.0.site) (of_row (elsewhere second) k own) ∙ has.0 in omega (arith, site))), (λ others. tt))),
)

-- a withdrawal is no row, and takes the place of the one that is held
withdrawn_is_left_out : (k : Key) → HasAfter two (withdrawn first ∷ third ∷ []) k → Contains (keys (second ∷ third ∷ [])) k
unfolding row_at
withdrawn_is_left_out k has = by_row (is_row_of k.0 k.1) (if_alive 1) (Contains (keys (second ∷ third ∷ [])) k) (third ∷ withdrawn first ∷ []) two has.1 (
  (λ own lives. (1, omega arith, of_row third k own)),
  (λ other. (
    (λ own lives. no lives),
    (λ kept. ((λ own lives. absurd (true≢false (sym own ∙ kept))), (λ others. ((λ own lives. (0, omega arith, of_row second k own)), (λ rest. tt))))),
  )),
)

-- a renewal is no new row
renewed_was_there : (k : Key) → HasAfter two (renewed first ∷ []) k → HasBefore two k
unfolding row_at
renewed_was_there k has = by_row (is_row_of k.0 k.1) (if_alive 1) (HasBefore two k) (renewed first ∷ []) two has.1 (
  (λ own lives. subst (HasBefore two) (of_row first k own) (refl, refl)),
  (λ other. ((λ own lives. subst (HasBefore two) (of_row first k own) (refl, refl)), (λ others. ((λ own lives. subst (HasBefore two) (of_row second k own) (refl, refl)), (λ rest. tt))))),
)

-- of two that are given for one prefix the last counts
last_given_is_withdrawn : (k : Key) → HasAfter (first ∷ []) (second ∷ withdrawn second ∷ []) k → HasBefore (first ∷ []) k
unfolding row_at
last_given_is_withdrawn k has = by_row (is_row_of k.0 k.1) (if_alive 1) (HasBefore (first ∷ []) k) (withdrawn second ∷ second ∷ []) (first ∷ []) has.1 (
  (λ own lives. no lives),
  (λ other. (
    (λ own lives. absurd (true≢false (sym own ∙ other))),
    (λ same. ((λ own lives. subst (HasBefore (first ∷ [])) (of_row first k own) (refl, refl)), (λ others. tt))),
  )),
)

last_given_is_there : HasAfter (first ∷ []) (withdrawn second ∷ second ∷ []) (row_key second)
unfolding row_at
last_given_is_there = (refl, refl)

-- once
given_twice_is_one : (k : Key) → HasAfter (first ∷ []) (second ∷ renewed second ∷ []) k → Contains (keys two) k
unfolding row_at
given_twice_is_one k has = by_row (is_row_of k.0 k.1) (if_alive 1) (Contains (keys two) k) (renewed second ∷ second ∷ []) (first ∷ []) has.1 (
  (λ own lives. (1, omega arith, of_row second k own)),
  (λ other. ((λ own lives. (1, omega arith, of_row second k own)), (λ same. ((λ own lives. (0, omega arith, of_row first k own)), (λ others. tt))))),
)

-- ---- a limit on rows

-- a new row at the limit is too many
new_row_is_too_many : ExceedRows 2 two (third ∷ [])
unfolding row_at
new_row_is_too_many = (tt, (row_key third, (refl, refl), ((λ was. no was.1), (keys three, omega arith, three_differ, held_and_given))))

new_row_doesnt_fit : FitRows 2 two (third ∷ []) → ⊥
unfolding row_at
new_row_doesnt_fit fits = by fits.rows
  where
    by : ((k : Key) → HasAfter two (third ∷ []) k → HasBefore two k) ⊎ ((few : List Key) × (length few ≤ 2) × ((k : Key) → HasAfter two (third ∷ []) k → Contains few k)) → ⊥
    by (inl none_new) = no (none_new (row_key third) (refl, refl)).1
    by (inr (few, small, has_all)) =
        let long : 3 ≤ length few = at_least key_eq key_eq-Decides few (keys three) three_differ (λ k held. has_all k (All-contains (HasAfter two (third ∷ [])) (keys three) k held_and_given held)) in
        absurd (omega (arith, small, long))

-- one below the limit fits
last_row_fits : FitRows 2 (first ∷ []) (second ∷ [])
last_row_fits = record { routers = tt; rows = inr (keys two, omega arith, no_others) }

last_row_isnt_too_many : ExceedRows 2 (first ∷ []) (second ∷ []) → ⊥
last_row_isnt_too_many (fit, (k, is, (new, (many, large, differ, are)))) =
    let short : length many ≤ 2 = at_least key_eq key_eq-Decides (keys two) many differ (λ k held. no_others k (All-contains (HasAfter (first ∷ []) (second ∷ [])) many k are held)) in
    absurd (omega (arith, large, short))

-- a renewal fits at the limit, and where more are held
renewed_fits : FitRows 2 two (renewed first ∷ [])
renewed_fits = record { routers = tt; rows = inl renewed_was_there }

renewed_fits_beyond : FitRows 1 two (renewed first ∷ [])
renewed_fits_beyond = record { routers = tt; rows = inl renewed_was_there }

renewed_isnt_too_many : ExceedRows 1 two (renewed first ∷ []) → ⊥
renewed_isnt_too_many (fit, (k, is, (new, more))) = new (renewed_was_there k is)

-- that of a dead row is a new one
dead_row_renewed_is_too_many : ExceedRows 1 (first ∷ dead second ∷ []) (renewed second ∷ [])
unfolding row_at
dead_row_renewed_is_too_many = (tt, (row_key second, (refl, refl), ((λ was. no was.1), (keys two, omega arith, two_differ, All-from_recursion (HasAfter (first ∷ dead second ∷ []) (renewed second ∷ [])) (keys two) ((refl, refl), ((refl, refl), tt))))))

-- beside a dead row there is space, and beside that of another site
beside_a_dead_row : FitRows 2 (first ∷ dead second ∷ []) (third ∷ [])
beside_a_dead_row = record { routers = tt; rows = inr (keys (first ∷ third ∷ []), omega arith, dead_row_is_left_out) }

beside_anothers : FitRows 1 (elsewhere second ∷ []) (first ∷ [])
beside_anothers = record { routers = tt; rows = inr (keys (first ∷ []), omega arith, anothers_is_left_out) }

-- a withdrawal and a new row in one message fit at the limit
exchange_fits : FitRows 2 two (withdrawn first ∷ third ∷ [])
exchange_fits = record { routers = tt; rows = inr (keys (second ∷ third ∷ []), omega arith, withdrawn_is_left_out) }

exchange_isnt_too_many : ExceedRows 2 two (withdrawn first ∷ third ∷ []) → ⊥
exchange_isnt_too_many (fit, (k, is, (new, (many, large, differ, are)))) =
    let short : length many ≤ 2 = at_least key_eq key_eq-Decides (keys (second ∷ third ∷ [])) many differ (λ k held. withdrawn_is_left_out k (All-contains (HasAfter two (withdrawn first ∷ third ∷ [])) many k are held)) in
    absurd (omega (arith, large, short))

-- a row that the same message withdraws fits at the limit, and not the other way round; twice it is one
withdrawn_again_fits : FitRows 1 (first ∷ []) (second ∷ withdrawn second ∷ [])
withdrawn_again_fits = record { routers = tt; rows = inl last_given_is_withdrawn }

given_again_is_too_many : ExceedRows 1 (first ∷ []) (withdrawn second ∷ second ∷ [])
unfolding row_at
given_again_is_too_many = (tt, (row_key second, last_given_is_there, ((λ was. no was.1), (keys two, omega arith, two_differ, All-from_recursion (HasAfter (first ∷ []) (withdrawn second ∷ second ∷ [])) (keys two) ((refl, refl), ((refl, refl), tt))))))

given_twice_fits : FitRows 2 (first ∷ []) (second ∷ renewed second ∷ [])
given_twice_fits = record { routers = tt; rows = inr (keys two, omega arith, given_twice_is_one) }

-- ---- a limit on routers

-- another router at the limit is too many, though it has one row
both_routers : All (RoutersAfter two (third ∷ [])) (router 1 ∷ router 2 ∷ [])
unfolding row_at
both_routers = All-from_recursion (RoutersAfter two (third ∷ [])) (router 1 ∷ router 2 ∷ []) ((refl, first.mapping.eid, refl), ((refl, third.mapping.eid, refl), tt))

another_router_is_too_many : ExceedRouters 1 two (third ∷ [])
unfolding row_at
another_router_is_too_many = (router 2, (refl, third.mapping.eid, refl), ((λ was. no was.2), (router 1 ∷ router 2 ∷ [], omega arith, routers_differ, both_routers)))

another_router_doesnt_fit : FitRouters 1 two (third ∷ []) → ⊥
unfolding row_at
another_router_doesnt_fit fits = by fits.routers
  where
    by : ((r : RouterId) → RoutersAfter two (third ∷ []) r → RoutersBefore two r) ⊎ ((few : List RouterId) × (length few ≤ 1) × ((r : RouterId) → RoutersAfter two (third ∷ []) r → Contains few r)) → ⊥
    by (inl none_new) = no (none_new (router 2) (refl, third.mapping.eid, refl)).2
    by (inr (few, small, has_all)) =
        let long : 2 ≤ length few = at_least router_eq router_eq-Decides few (router 1 ∷ router 2 ∷ []) routers_differ (λ r held. has_all r (All-contains (RoutersAfter two (third ∷ [])) (router 1 ∷ router 2 ∷ []) r both_routers held)) in
        absurd (omega (arith, small, long))

-- another row of a router that has one isn't
routers_row_is_no_router : (r : RouterId) → RoutersAfter (first ∷ []) (second ∷ []) r → Contains (router 1 ∷ []) r
unfolding row_at
routers_row_is_no_router r (own, eid, some) = by_row (is_row_of r eid) (if_alive 1) (Contains (router 1 ∷ []) r) (second ∷ []) (first ∷ []) some (
  (λ own lives. (0, omega arith, ap (λ (x : Key). x.0) (of_row second (r, eid) own))),
  (λ other. ((λ own lives. (0, omega arith, ap (λ (x : Key). x.0) (of_row first (r, eid) own))), (λ others. tt))),
)

routers_row_fits : FitRouters 1 (first ∷ []) (second ∷ [])
routers_row_fits = record { routers = inr (router 1 ∷ [], omega arith, routers_row_is_no_router); rows = tt }

routers_row_isnt_too_many : ExceedRouters 1 (first ∷ []) (second ∷ []) → ⊥
routers_row_isnt_too_many (r, is, (new, (many, large, differ, are))) =
    let short : length many ≤ 1 = at_least router_eq router_eq-Decides (router 1 ∷ []) many differ (λ r held. routers_row_is_no_router r (All-contains (RoutersAfter (first ∷ []) (second ∷ [])) many r are held)) in
    absurd (omega (arith, large, short))

-- a router whose row is dead doesn't count, nor one of another site
beside_a_dead_router : FitRouters 1 (dead first ∷ []) (third ∷ [])
unfolding row_at
beside_a_dead_router = record { routers = inr (router 2 ∷ [], omega arith, alone); rows = tt }
  where
    alone : (r : RouterId) → RoutersAfter (dead first ∷ []) (third ∷ []) r → Contains (router 2 ∷ []) r
    alone r (own, eid, some) = by_row (is_row_of r eid) (if_alive 1) (Contains (router 2 ∷ []) r) (third ∷ []) (dead first ∷ []) some (
      (λ own lives. (0, omega arith, ap (λ (x : Key). x.0) (of_row third (r, eid) own))),
      (λ other. ((λ own lives. no lives), (λ others. tt))),
    )

beside_anothers_router : FitRouters 1 (elsewhere first ∷ []) (third ∷ [])
unfolding row_at
beside_anothers_router = record { routers = inr (router 2 ∷ [], omega arith, alone); rows = tt }
  where
    alone : (r : RouterId) → RoutersAfter (elsewhere first ∷ []) (third ∷ []) r → Contains (router 2 ∷ []) r
    alone r (of_site, eid, some) = by_row (is_row_of r eid) (if_alive 1) (Contains (router 2 ∷ []) r) (third ∷ []) (elsewhere first ∷ []) some (
      (λ own lives. (0, omega arith, ap (λ (x : Key). x.0) (of_row third (r, eid) own))),
      (λ other. ((λ own lives. absurd (let site : ◌≡◌ {A = ℕ} 2 1 = ap (λ (x : Key). x.0.site) (of_row (elsewhere first) (r, eid) own) ∙ of_site in omega (arith, site))), (λ others. tt))),
    )

-- ---- both limits

-- without limits anything fits
unlimited_fits : Fits None None 1 (live_rows two 1) (live_rows_with two (third ∷ []) 1)
unlimited_fits = record { routers = tt; rows = tt }

unlimited_isnt_full : (full : Full) → IsFull None None 1 (live_rows two 1) (live_rows_with two (third ∷ []) 1) full → ⊥
unlimited_isnt_full Routers full = full
unlimited_isnt_full Rows full = full.1

-- where both are passed, that on routers is told
routers_are_told : IsFull (Some 1) (Some 2) 1 (live_rows two 1) (live_rows_with two (third ∷ []) 1) Routers
routers_are_told = another_router_is_too_many

rows_arent_told : IsFull (Some 1) (Some 2) 1 (live_rows two 1) (live_rows_with two (third ∷ []) 1) Rows → ⊥
rows_arent_told full = another_router_doesnt_fit (record { routers = full.0; rows = tt })

-- and that on rows where it alone is
rows_are_told : IsFull (Some 2) (Some 2) 1 (live_rows two 1) (live_rows_with two (third ∷ []) 1) Rows
unfolding row_at
rows_are_told = (inr (router 1 ∷ router 2 ∷ [], omega arith, two_routers), new_row_is_too_many.1)
  where
    two_routers : (r : RouterId) → RoutersAfter two (third ∷ []) r → Contains (router 1 ∷ router 2 ∷ []) r
    two_routers r (own, eid, some) = by_row (is_row_of r eid) (if_alive 1) (Contains (router 1 ∷ router 2 ∷ []) r) (third ∷ []) two some (
      (λ own lives. (1, omega arith, ap (λ (x : Key). x.0) (of_row third (r, eid) own))),
      (λ other. (
        (λ own lives. (0, omega arith, ap (λ (x : Key). x.0) (of_row first (r, eid) own))),
        (λ others. ((λ own lives. (0, omega arith, ap (λ (x : Key). x.0) (of_row second (r, eid) own))), (λ rest. tt))),
      )),
    )
