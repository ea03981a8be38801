-- One more row of a walk.
use Rattle.std.proofs.Common.{◌≡◌, ℕ, ◌+◌, ◌-◌, ◌^◌, ◌<◌, ◌≤◌, min, Bool, true, false, IsTrue, nat_lt, List, [], ◌∷◌, ◌++◌, length, Option, Some, None, refl, sym, ap, subst, ◌∙◌, append_assoc, arith}
use Rattle.std.specs.Option.{option_map, is_some}
use Rattle.std.proofs.lemmas.Bool.{lt-ltb, le-ltb}
use Rattle.std.proofs.lemmas.List.{length-append}
use Rattle.lisp_records.specs.Row.{RowValue}
use Rattle.lisp_lines.specs.Walk.{GoesOn, HavePlaces, LooksAt, Takes, left_of, up_to_most}
use Rattle.lisp_lines.specs.declared.walk.Walk.{Walk}

-- the rows so far, and how many
pub record Taken (rows : List RowValue) (old new : Walk) (taken : List RowValue) (many : ℕ) : Type 0 where
  pub left : HavePlaces rows → left_of rows old ≡ taken ++ left_of rows new
  pub goes_on : GoesOn old new (length taken)
  pub long : length taken ≡ many

most_again : (rows n : ℕ) → up_to_most (up_to_most (rows + n) + 1) ≡ up_to_most (rows + (n + 1))
most_again rows n = omega arith

one_longer : (taken : List RowValue) (h : RowValue) → length (taken ++ h ∷ []) ≡ length taken + 1
one_longer taken h = length-append taken (h ∷ [])

goes_on_more : (old mid new : Walk) (n : ℕ) → GoesOn old mid n → GoesOn mid new 1 → GoesOn old new (n + 1)
goes_on_more old mid new n first next =
    next ∙ ap (λ (m : Walk). record m { place = new.place; rows = up_to_most (m.rows + 1) }) first
    ∙ ap (λ (rows : ℕ). record old { place = new.place; rows = rows }) (most_again old.rows n)

pub none_taken : (rows : List RowValue) (walk : Walk) → walk.rows < 2 ^ 64 → Taken rows walk walk [] 0
none_taken rows walk most = record {
  left = λ places. refl;
  goes_on = ap (λ (n : ℕ). record walk { rows = n }) (omega (arith, most));
  long = refl;
}

pub one_taken : (rows : List RowValue) (old mid new : Walk) (taken : List RowValue) (h : RowValue) (many : ℕ) → Taken rows old mid taken many → LooksAt rows mid new (Some h) → Taken rows old new (taken ++ h ∷ []) (many + 1)
one_taken rows old mid new taken h many so_far looks = record {
  left = λ places. so_far.left places ∙ ap (λ (hs : List RowValue). taken ++ hs) (looks.1 places) ∙ sym (append_assoc taken (h ∷ []) (left_of rows new));
  goes_on = subst (λ (n : ℕ). GoesOn old new n) (sym (one_longer taken h)) (goes_on_more old mid new (length taken) so_far.goes_on looks.0);
  long = one_longer taken h ∙ ap (λ (n : ℕ). n + 1) so_far.long;
}

-- no row is left; or there were as many as there may be
pub no_more : (rows : List RowValue) (old mid new : Walk) (taken : List RowValue) (many most : ℕ) → Taken rows old mid taken many → many < most → LooksAt rows mid new None → Takes rows old new most true taken
no_more rows old mid new taken many most so_far few looks = record {
  left = λ places. so_far.left places ∙ ap (λ (walk : Walk). taken ++ left_of rows walk) (sym looks.0);
  goes_on = subst (λ (walk : Walk). GoesOn old walk (length taken)) (sym looks.0) so_far.goes_on;
  few = omega (arith, so_far.long, few);
  fewer = sym (lt-ltb (length taken) most (omega (arith, so_far.long, few)));
  end = λ is. ap (left_of rows) looks.0 ∙ looks.1;
}

pub all_taken : (rows : List RowValue) (old new : Walk) (taken : List RowValue) (many most : ℕ) → Taken rows old new taken many → many ≡ most → Takes rows old new most false taken
all_taken rows old new taken many most so_far full = record {
  left = so_far.left;
  goes_on = so_far.goes_on;
  few = omega (arith, so_far.long, full);
  fewer = sym (le-ltb (length taken) most (omega (arith, so_far.long, full)));
  end = λ is. absurd (let clash : false ≡ true = is in cc);
}

-- there was a row, or none
pub no_row : {X : Type 0} (rows : List RowValue) (old new : Walk) (row : X → RowValue) (found : Option X) → is_some found ≡ false → LooksAt rows old new (option_map row found) → LooksAt rows old new None
no_row rows old new row None none looks = looks
no_row rows old new row (Some x) none looks = absurd (let clash : true ≡ false = none in cc)

pub a_row : {X : Type 0} (rows : List RowValue) (old new : Walk) (row : X → RowValue) (found : Option X) → is_some found ≡ true → LooksAt rows old new (option_map row found) → (h : RowValue) × LooksAt rows old new (Some h)
a_row rows old new row None some looks = absurd (let clash : false ≡ true = some in cc)
a_row rows old new row (Some x) some looks = (row x, looks)
