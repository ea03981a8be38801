-- What lists of a store are after one was set, and steps that set one.
use Rattle.std.proofs.Common.{◌≡◌, ℕ, true≢false, Bool, true, false, List, [], ◌∷◌, Option, Some, None, cond, refl, sym, ap, subst, ◌∙◌, arith}
use Rattle.std.proofs.lemmas.Bool.{false_from_ne_true}
use Rattle.std.specs.Prelude.{◌≢◌}
use Rattle.std.specs.FinMap.{get, insert, empty, get-insert}
use Rattle.std.specs.List.{Contains}
use Rattle.std.specs.Option.{unwrap_or}
use Rattle.std.specs.Cmp.{eq_by_cmp_equiv}
use Rattle.std.specs.Ordering.{eq_by_cmp, is_eq}
use Rattle.std.specs.declared.cmp.Ordering.{Ordering}
use Rattle.std.specs.declared.cmp.Ordering.TheVariants.{Less, Equal, Greater}
use Rattle.lisp_nonces.specs.declared.pair.Pair.{Pair}
use Rattle.lisp_nonces.specs.Pair.{pair_cmp}
use Rattle.lisp_nonces.specs.Kept.{Kept, kept_at, SameElsewhere, Narrows}
use Rattle.lisp_nonces.proofs.Kept.{kept_at-empty}
use Rattle.lisp_nonces.proofs.Pairs.{pair_total, same_pair}
use Rattle.lisp_model.proofs.ListLemmas.{only}

-- a list was set
pub kept_at-insert : (kept : Kept) (pair : Pair) (values : List (Option ℕ)) (q : Pair) → kept_at (insert kept pair values) q ≡ cond (eq_by_cmp pair_cmp q pair) values (kept_at kept q)
unfolding kept_at
kept_at-insert kept pair values q = ap (λ o. unwrap_or o (None ∷ [])) (get-insert pair_total kept pair values q) ∙ chosen (eq_by_cmp pair_cmp q pair) (get kept q)
  where
    chosen : (b : Bool) (o : Option (List (Option ℕ))) → unwrap_or (cond b (Some values) o) (None ∷ []) ≡ cond b values (unwrap_or o (None ∷ []))
    chosen true o = refl
    chosen false o = refl

pub pair_itself : (q : Pair) → eq_by_cmp pair_cmp q q ≡ true
pair_itself q = (eq_by_cmp_equiv pair_total).refl q

ties : (o : Ordering) → is_eq o ≡ true → o ≡ Equal
ties Less e = absurd (true≢false (sym e))
ties Equal e = refl
ties Greater e = absurd (true≢false (sym e))

-- pairs that tie are equal
pub pair_same : (q p : Pair) → eq_by_cmp pair_cmp q p ≡ true → q ≡ p
pair_same q p e = same_pair q p (ties (pair_cmp q p) e)

pub pair_other : (q p : Pair) → q ≢ p → eq_by_cmp pair_cmp q p ≡ false
pair_other q p differ = false_from_ne_true (eq_by_cmp pair_cmp q p) (λ e. differ (pair_same q p e))

pub set_here : (kept : Kept) (pair : Pair) (values : List (Option ℕ)) → kept_at (insert kept pair values) pair ≡ values
set_here kept pair values = kept_at-insert kept pair values pair ∙ ap (λ b. cond b values (kept_at kept pair)) (pair_itself pair)

pub set_others : (kept : Kept) (pair : Pair) (values : List (Option ℕ)) → SameElsewhere kept (insert kept pair values) pair
set_others kept pair values q differ = kept_at-insert kept pair values q ∙ ap (λ b. cond b values (kept_at kept q)) (pair_other q pair differ)

-- the only value
pub only_value : (x v : Option ℕ) → Contains (x ∷ []) v → v ≡ x
only_value = only

-- each pair keeps something
abbrev pub IsFull : Kept → Type 0
IsFull kept = (q : Pair) → (v : Option ℕ) × Contains (kept_at kept q) v

pub empty_full : IsFull empty
empty_full q = (None, subst (λ (vs : List (Option ℕ)). Contains vs None) (sym (kept_at-empty q)) (0, omega arith, refl))

full_case : (b : Bool) (values old : List (Option ℕ)) → ((v : Option ℕ) × Contains values v) → ((v : Option ℕ) × Contains old v) → (v : Option ℕ) × Contains (cond b values old) v
full_case true values old new same = new
full_case false values old new same = same

pub insert_full : (kept : Kept) (pair : Pair) (values : List (Option ℕ)) → IsFull kept → ((v : Option ℕ) × Contains values v) → IsFull (insert kept pair values)
insert_full kept pair values full new q = subst (λ (vs : List (Option ℕ)). (v : Option ℕ) × Contains vs v) (sym (kept_at-insert kept pair values q)) (full_case (eq_by_cmp pair_cmp q pair) values (kept_at kept q) new (full q))

pub set_full : (kept : Kept) (pair : Pair) (v : Option ℕ) → IsFull kept → IsFull (insert kept pair (v ∷ []))
set_full kept pair v full = insert_full kept pair (v ∷ []) full (v, (0, omega arith, refl))

-- a restart that leaves all, and one that leaves one value of a pair
pub stays : (kept : Kept) → IsFull kept → (q : Pair) → Narrows (kept_at kept q) (kept_at kept q)
stays kept full q = record { some = full q; each = λ v has. has }

narrow_case : (b : Bool) (kept : Kept) (pair q : Pair) (v : Option ℕ) → eq_by_cmp pair_cmp q pair ≡ b → Contains (kept_at kept pair) v → IsFull kept → Narrows (kept_at kept q) (cond b (v ∷ []) (kept_at kept q))
narrow_case true kept pair q v same has full = record {
  some = (v, (0, omega arith, refl));
  each = λ w only. subst (λ (p : Pair). Contains (kept_at kept p) w) (sym (pair_same q pair same)) (subst (λ (x : Option ℕ). Contains (kept_at kept pair) x) (sym (only_value v w only)) has);
}
narrow_case false kept pair q v same has full = stays kept full q

pub narrows : (kept : Kept) (pair : Pair) (v : Option ℕ) → Contains (kept_at kept pair) v → IsFull kept → (q : Pair) → Narrows (kept_at kept q) (kept_at (insert kept pair (v ∷ [])) q)
narrows kept pair v has full q = subst (λ (vs : List (Option ℕ)). Narrows (kept_at kept q) vs) (sym (kept_at-insert kept pair (v ∷ []) q)) (narrow_case (eq_by_cmp pair_cmp q pair) kept pair q v refl has full)
