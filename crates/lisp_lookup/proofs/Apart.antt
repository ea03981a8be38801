-- Lists whose elements differ by key, where a test decides whether an element has a key.
use Rattle.std.proofs.Common.{◌⊎◌, inl, inr, ◌||◌, ◌≡◌, ◌≢◌, ℕ, ◌<◌, Bool, true, false, cond, List, [], ◌∷◌, length, slice_index_or, Option, Some, None, refl, sym, ap, ◌∙◌, true≢false, arith}
use Rattle.std.proofs.lemmas.List.Folds.{list_any_at}
use Rattle.std.proofs.lemmas.List.Recursion.{found_at}
use Rattle.std.specs.Bool.{Decides}
use Rattle.std.specs.List.{AllPairs, Contains, find, list_any}
use Rattle.std.specs.Option.{is_some}
use Rattle.lisp_policy.proofs.Found.{not_true}

-- what follows from each of two
pub on_either : {A B C : Type 0} → A ⊎ B → (A → C) → (B → C) → C
on_either (inl a) left right = left a
on_either (inr b) left right = right b

-- what passes a test is found
found_case : {X : Type 0} (x : X) (any own : Bool) (later : Option X) → any ≡ is_some later → (own || any) ≡ is_some (cond own (Some x) later)
found_case x any own later same = grind arith

pub any_is_found : {X : Type 0} (p : X → Bool) (xs : List X) → list_any p xs ≡ is_some (find p xs)
any_is_found p [] = refl
any_is_found p (x ∷ xs) = found_case x (list_any p xs) (p x) (find p xs) (any_is_found p xs)

pub found : {X : Type 0} (p : X → Bool) (xs : List X) (k : ℕ) (d : X) → k < length xs → p (slice_index_or xs k d) ≡ true → find p xs ≢ None
found p xs k d lt passes none = true≢false (sym (list_any_at p xs k d lt passes) ∙ any_is_found p xs ∙ ap is_some none)

module _ {X K : Type 0} (key : X → K) (has : K → X → Bool) (decides : (k : K) (x : X) → Decides (has k x) (key x ≡ k)) where
  abbrev Apart : List X → Type 0
  Apart xs = AllPairs (λ a b. key a ≢ key b) xs

  -- an element is found by its key
  pub own_found : (xs : List X) (x : X) → Apart xs → Contains xs x → find (has (key x)) xs ≡ Some x
  own_found xs x apart (k, lt, at) =
      let earlier : (j : ℕ) → j < k → has (key x) (slice_index_or xs j x) ≡ false = λ j before. not_true (has (key x) (slice_index_or xs j x)) (λ t. apart j k x before lt ((decides (key x) (slice_index_or xs j x)).0 t ∙ ap key (sym at))) in
      let own : has (key x) (slice_index_or xs k x) ≡ true = (decides (key x) (slice_index_or xs k x)).1 (ap key at) in
      found_at (λ (ys : List X). find (has (key x)) ys) (has (key x)) Some None refl (λ y ys. refl) xs k x lt earlier own ∙ ap Some at
