-- The best of some rows and one more.
use Rattle.std.proofs.Common.{◌≡◌, ◌≢◌, ◌⊎◌, inl, inr, ℕ, Bool, true, false, cond, List, Option, Some, None, refl, sym, ap, ◌∙◌, subst, true≢false, arith}
use Rattle.std.specs.List.{Contains}
use Rattle.std.specs.Ordering.{is_lt, ordering_reverse}
use Rattle.std.specs.Cmp.{IsTotalOrder, on_total, then_total, nat_cmp_total, bool_cmp_total}
use Rattle.std.specs.declared.cmp.Ordering.{Ordering}
use Rattle.std.specs.declared.cmp.Ordering.TheVariants.{Less, Equal, Greater}
use Rattle.std.specs.Option.{option_map}
use Rattle.lisp_records.specs.{declared.address.Addr.Addr, Row.RowValue}
use Rattle.lisp_lookup.specs.Answer.{may_answer, rank_cmp, greater, IsBest, NoneAnswers, IsBestOf}
use Rattle.lisp_lookup.proofs.Apart.{on_either}
use Rattle.lisp_lookup.proofs.Orders.{router_total}

rank_total : IsTotalOrder rank_cmp
rank_total = then_total (then_total (then_total (on_total (λ (h : RowValue). h.mapping.eid.mask_len) nat_cmp_total) (on_total (λ (h : RowValue). h.proxy) bool_cmp_total)) (on_total (λ (h : RowValue). h.accepted) nat_cmp_total)) (on_total (λ (h : RowValue). h.router) router_total)

module _ {K : Type 0} {R : K → K → Ordering} (total : IsTotalOrder R) where
  -- no row is above itself
  not_above_itself : (x : K) → R x x ≢ Greater
  not_above_itself x above = grind (arith, total.antisymm x x)

  chain : (x y z : K) (o : Ordering) → R x y ≡ o → o ≢ Greater → R y z ≡ Less → R x z ≢ Greater
  chain x y z Less first not_above second above = (let less = total.trans x y z first second in absurd cc)
  chain x y z Equal first not_above second above = (let same = total.congr x y z first in absurd cc)
  chain x y z Greater first not_above second above = absurd (not_above refl)

  -- what is not above one row is not above a greater one
  not_above : (x y z : K) → R x y ≢ Greater → R y z ≡ Less → R x z ≢ Greater
  not_above x y z first second = chain x y z (R x y) refl first second

  -- what a row is not less than is not above it
  turned : (x y : K) → is_lt (R y x) ≡ false → R x y ≢ Greater
  turned x y not_less above = grind (arith, total.antisymm x y)

pub less : (o : Ordering) → is_lt o ≡ true → o ≡ Less
less Less is = refl
less _ is = absurd cc

-- the row is the greatest of those that were seen and may answer
pub record IsBestIn (Seen : RowValue → Type 0) (addr : Addr) (now : ℕ) (h : RowValue) : Type 0 where
  pub held : Seen h
  pub may : may_answer addr now h ≡ true
  pub most : (other : RowValue) → Seen other → may_answer addr now other ≡ true → rank_cmp other h ≢ Greater

abbrev pub BestIn : (RowValue → Type 0) → Addr → ℕ → Option RowValue → Type 0
BestIn Seen addr now (Some h) = IsBestIn Seen addr now h
BestIn Seen addr now None = (h : RowValue) → Seen h → may_answer addr now h ≡ false

-- one row more was seen
module _ (Seen More : RowValue → Type 0) (x : RowValue) (addr : Addr) (now : ℕ) (keeps : (h : RowValue) → Seen h → More h) (has : More x) (splits : (h : RowValue) → More h → Seen h ⊎ (x ≡ h)) where
  -- what is above all that were seen, and not below the row, is above all
  most : (b : RowValue) → ((other : RowValue) → Seen other → may_answer addr now other ≡ true → rank_cmp other b ≢ Greater) → (may_answer addr now x ≡ true → rank_cmp x b ≢ Greater) → (other : RowValue) → More other → may_answer addr now other ≡ true → rank_cmp other b ≢ Greater
  most b old new other seen may = on_either (splits other seen)
      (λ was. old other was may) (λ same. subst (λ (y : RowValue). rank_cmp y b ≢ Greater) same (new (ap (may_answer addr now) same ∙ may)))

  -- a row that may not answer changes nothing
  best_passes : (best : Option RowValue) → may_answer addr now x ≡ false → BestIn Seen addr now best → BestIn More addr now best
  best_passes None never none = λ h seen. on_either (splits h seen)
      (λ was. none h was) (λ is. subst (λ (y : RowValue). may_answer addr now y ≡ false) is never)
  best_passes (Some b) never is = record { held = keeps b is.held; may = is.may; most = most b is.most (λ may. absurd (true≢false (sym may ∙ never))) }

  chosen : (b : RowValue) (above : Bool) → is_lt (rank_cmp b x) ≡ above → may_answer addr now x ≡ true → IsBestIn Seen addr now b → IsBestIn More addr now (cond above x b)
  chosen b true above can is = record { held = has; may = can; most = most x (λ other was may. not_above rank_total other b x (is.most other was may) (less (rank_cmp b x) above)) (λ may. not_above_itself rank_total x) }
  chosen b false above can is = record { held = keeps b is.held; may = is.may; most = most b is.most (λ may. turned rank_total x b above) }

  -- a row that may answer is the best now, or less than the best
  best_grows : (best : Option RowValue) → may_answer addr now x ≡ true → BestIn Seen addr now best → IsBestIn More addr now (greater best x)
  best_grows None can none = record { held = has; may = can; most = most x (λ other was may. absurd (true≢false (sym may ∙ none other was))) (λ may. not_above_itself rank_total x) }
  best_grows (Some b) can is = chosen b (is_lt (rank_cmp b x)) refl can is

  pub best_next : (old new : Option RowValue) → BestIn Seen addr now old → ((may_answer addr now x ≡ true) × (new ≡ Some (greater old x))) ⊎ ((may_answer addr now x ≡ false) × (new ≡ old)) → BestIn More addr now new
  best_next old new is (inl grows) = subst (λ (o : Option RowValue). BestIn More addr now o) (sym grows.1) (best_grows old grows.0 is)
  best_next old new is (inr stays) = subst (λ (o : Option RowValue). BestIn More addr now o) (sym stays.1) (best_passes old stays.0 is)

-- what was seen are the rows
pub best_of_all : (Seen : RowValue → Type 0) (rows : List RowValue) (addr : Addr) (now : ℕ) (best : Option RowValue) → ((h : RowValue) → Seen h → Contains rows h) → ((h : RowValue) → Contains rows h → Seen h) → BestIn Seen addr now best → IsBestOf rows addr now best
best_of_all Seen rows addr now None there back none = λ h held. none h (back h held)
best_of_all Seen rows addr now (Some b) there back is = record {
  held = there b is.held;
  may = is.may;
  most = λ other held may. is.most other (back other held) may;
}

module _ {R : Type 0} (view : R → RowValue) (rows seen : List RowValue) (addr : Addr) (now : ℕ) (result : Option R) (same : seen ≡ rows) (best : IsBestOf seen addr now (option_map view result)) where
  of_rows : (found : Option R) → result ≡ found → IsBestOf rows addr now (option_map view found)
  of_rows found is = subst (λ (o : Option R). IsBestOf rows addr now (option_map view o)) is (subst (λ (l : List RowValue). IsBestOf l addr now (option_map view result)) same best)

  -- the row that was found among equal rows is the best
  pub best_found : (row : R) → result ≡ Some row → IsBest rows addr now (view row)
  best_found row is = of_rows (Some row) is

  -- where none was found among equal rows, none answers
  pub none_found : result ≡ None → NoneAnswers rows addr now
  none_found is = of_rows None is

-- rows neither of which is above the other tie
tie_case : (o : Ordering) → o ≢ Greater → ordering_reverse o ≢ Greater → o ≡ Equal
tie_case o not_above not_below = grind arith

pub ranks_tie : (a b : RowValue) → rank_cmp a b ≢ Greater → rank_cmp b a ≢ Greater → rank_cmp a b ≡ Equal
ranks_tie a b not_above not_below = tie_case (rank_cmp a b) not_above (λ above. not_below (rank_total.antisymm b a ∙ above))
