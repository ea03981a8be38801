-- Sets of members, and the items among them.
use Rattle.std.proofs.Common.{◌≡◌, ℕ, ◌+◌, ◌<◌, ◌≤◌, Bool, true, false, cond, ◌||◌, List, [], ◌∷◌, ◌++◌, length, get_or, take, Option, Some, None, refl, sym, ap, ◌∙◌}
use Rattle.std.specs.BTreeSet.{BTreeSet, IsEmpty, Updates, contains}
use Rattle.std.specs.List.{filter, filter_map, list_any, cons_option}
use Rattle.std.specs.Option.{option_to_list}
use Rattle.std.specs.Ordering.{is_eq}
use Rattle.std.specs.declared.cmp.Ordering.{Ordering}
use Rattle.std.proofs.lemmas.List.{take_all, take_more}
use Rattle.std.proofs.lemmas.List.Elements.{filter_more, filter_map-append}
use Rattle.std.proofs.lemmas.List.Folds.{list_any-append}
use Rattle.lisp_upkeep.specs.Unheard.{AreMembers, members_of}

or_this : (this others : Bool) → cond this true others ≡ (others || (this || false))
or_this true true = refl
or_this true false = refl
or_this false true = refl
or_this false false = refl

module _ {X : Type 0} (cmp : X → X → Ordering) (eq : X → X → Bool) where
  pub no_members : (set : BTreeSet X) → IsEmpty set → AreMembers cmp eq set []
  unfolding AreMembers
  no_members set empty x = rw empty refl

  pub is_member : (set : BTreeSet X) (members : List X) (x : X) → AreMembers cmp eq set members → contains cmp set x ≡ list_any (λ member. eq member x) members
  unfolding AreMembers
  is_member set members x are = are x

  -- one more member
  pub one_more_member : ((a b : X) → eq a b ≡ is_eq (cmp a b)) → (old new : BTreeSet X) (members : List X) (i : ℕ) (member : X) → i < length members → member ≡ get_or members i member
      → AreMembers cmp eq old (take i members) → Updates cmp old new member true → AreMembers cmp eq new (take (i + 1) members)
  unfolding AreMembers
  one_more_member matches old new members i member inside here are updates x =
      let more : take i members ++ member ∷ [] ≡ take (i + 1) members = ap (λ (y : X). take i members ++ y ∷ []) here ∙ sym (take_more members i member inside) in
      updates.0 x
      ∙ (λ j. cond (sym (matches member x) j) true (are x j))
      ∙ or_this (eq member x) (list_any (λ y. eq y x) (take i members))
      ∙ sym (list_any-append (λ y. eq y x) (take i members) (member ∷ []))
      ∙ ap (λ (ys : List X). list_any (λ y. eq y x) ys) more

  pub all_members : (set : BTreeSet X) (members : List X) (i : ℕ) → length members ≤ i → AreMembers cmp eq set (take i members) → AreMembers cmp eq set members
  all_members set members i le are = rw (take_all i members le) at are

  -- one more item, which is added if it is a member
  pub one_more_item : (set : BTreeSet X) (members items : List X) (i : ℕ) (item : X) (before after : List X) (has : Bool) → i < length items → item ≡ get_or items i item → AreMembers cmp eq set members
      → has ≡ contains cmp set item → before ≡ members_of eq members (take i items) → after ≡ before ++ cond has (item ∷ []) [] → after ≡ members_of eq members (take (i + 1) items)
  one_more_item set members items i item before after has inside here are is so_far more =
      let test : X → Bool = λ x. list_any (λ member. eq member x) members in
      more
      ∙ ap (λ (b : Bool). before ++ cond b (item ∷ []) []) (is ∙ is_member set members item are)
      ∙ ap (λ (xs : List X). xs ++ cond (test item) (item ∷ []) []) so_far
      ∙ ap (λ (x : X). filter test (take i items) ++ cond (test x) (x ∷ []) []) here
      ∙ sym (filter_more test items i item inside)

  pub all_items : (members items : List X) (i : ℕ) (found : List X) → length items ≤ i → found ≡ members_of eq members (take i items) → found ≡ members_of eq members items
  all_items members items i found le is = is ∙ ap (λ (xs : List X). members_of eq members xs) (take_all i items le)

-- what one more element gives
one_alone : {Y : Type 0} (o : Option Y) → option_to_list o ≡ cons_option o []
one_alone (Some y) = refl
one_alone None = refl

pub one_more_mapped : {X Y : Type 0} (h : X → Option Y) (xs : List X) (i : ℕ) (d : X) (before after : List Y) → i < length xs → before ≡ filter_map h (take i xs) → after ≡ before ++ option_to_list (h (get_or xs i d)) → after ≡ filter_map h (take (i + 1) xs)
one_more_mapped h xs i d before after inside so_far more =
    more
    ∙ (λ j. so_far j ++ one_alone (h (get_or xs i d)) j)
    ∙ sym (filter_map-append h (take i xs) (get_or xs i d ∷ []))
    ∙ ap (filter_map h) (sym (take_more xs i d inside))

pub all_mapped : {X Y : Type 0} (h : X → Option Y) (xs : List X) (i : ℕ) (found : List Y) → length xs ≤ i → found ≡ filter_map h (take i xs) → found ≡ filter_map h xs
all_mapped {X = X} h xs i found le is = is ∙ ap (λ (ys : List X). filter_map h ys) (take_all i xs le)
