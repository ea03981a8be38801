-- Looking up and adding keys.
use Rattle.std.proofs.Common.{◌≡◌, Bool, true, false, cond, ◌||◌, List, [], ◌∷◌, ◌++◌, Result, Ok, Err, refl, sym, ◌∙◌}
use Rattle.std.specs.Prelude.{OnOk, OnErr}
use Rattle.std.specs.BTreeSet.{BTreeSet, IsEmpty, IsUnchanged, Updates, contains}
use Rattle.std.specs.List.{list_any}
use Rattle.std.specs.Ordering.{is_eq}
use Rattle.std.specs.declared.cmp.Ordering.{Ordering}
use Rattle.std.proofs.lemmas.List.Folds.{list_any-append}
use Rattle.lisp_sites.specs.Keys.{AreKeys}

or_this : (this others : Bool) → cond this true others ≡ (others || (this || false))
or_this true true = refl
or_this true false = refl
or_this false true = refl
or_this false false = refl

module _ {X K : Type 0} (cmp : K → K → Ordering) (eq : K → K → Bool) (key : X → K) where
  pub no_keys : (keys : BTreeSet K) → IsEmpty keys → AreKeys cmp eq keys key []
  unfolding AreKeys
  no_keys keys empty k = rw empty refl

  pub is_key : (keys : BTreeSet K) (xs : List X) (k : K) → AreKeys cmp eq keys key xs → contains cmp keys k ≡ list_any (λ x. eq (key x) k) xs
  unfolding AreKeys
  is_key keys xs k are = are k

  -- one more element has its key
  pub one_more_key : ((a b : K) → eq a b ≡ is_eq (cmp a b)) → (old new : BTreeSet K) (xs : List X) (x : X) → AreKeys cmp eq old key xs → Updates cmp old new (key x) true → AreKeys cmp eq new key (xs ++ x ∷ [])
  unfolding AreKeys
  one_more_key matches old new xs x are updates k =
      updates.0 k ∙ (λ i. cond (sym (matches (key x) k) i) true (are k i)) ∙ or_this (eq (key x) k) (list_any (λ y. eq (key y) k) xs) ∙ sym (list_any-append (λ y. eq (key y) k) xs (x ∷ []))

  -- the same keys are those of the same elements
  pub same_keys : (old new : BTreeSet K) (xs : List X) → IsUnchanged old new → AreKeys cmp eq old key xs → AreKeys cmp eq new key xs
  unfolding AreKeys
  same_keys old new xs same are k = rw same (are k)

  -- whether or not an element and its key were added, the keys are those of the elements
  pub add_keeps : {V E : Type 0} → ((a b : K) → eq a b ≡ is_eq (cmp a b)) → (r : Result V E) (old new : BTreeSet K) (xs ys : List X) (x : X) (k : K) → k ≡ key x → OnOk r ((ys ≡ xs ++ x ∷ []) × Updates cmp old new k true) → OnErr r ((ys ≡ xs) × IsUnchanged old new) → AreKeys cmp eq old key xs → AreKeys cmp eq new key ys
  add_keeps matches (Ok v) old new xs ys x k is added same are = rw added.0 (one_more_key matches old new xs x are (rw is at added.1))
  add_keeps matches (Err e) old new xs ys x k is added same are = rw same.0 (same_keys old new xs same.1 are)
