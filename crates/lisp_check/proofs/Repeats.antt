-- What is warned of where two elements of a list are alike, and that it is so of addresses and identities.
use Rattle.std.proofs.Common.{◌≡◌, ◌≢◌, ◌<◌, ◌⊎◌, ℕ, zero, suc, Bool, true, false, cond, List, [], ◌∷◌, Option, Some, None, length, get_or, inl, inr, subst, sym, ap, refl, ◌∙◌, arith}
use Rattle.std.specs.Prelude.{◌↔◌, slice_get}
use Rattle.std.specs.Bool.{Decides}
use Rattle.std.specs.List.{AllPairs, position, find}
use Rattle.std.proofs.lemmas.Bool.{cases_order}
use Rattle.std.proofs.lemmas.Option.{slice_get-get_or, slice_get_within, get_or_from_slice_get}
use Rattle.std.proofs.lemmas.List.Quantifiers.{position-Some}
use Rattle.lisp_records.specs.declared.address.Addr.{Addr}
use Rattle.lisp_records.specs.Address.{addr_eq}
use Rattle.lisp_records.specs.Router.{router_eq}
use Rattle.lisp_records.proofs.RouterLaws.{router_eq-Decides}
use Rattle.lisp_policy.proofs.Found.{nowhere}
use Rattle.lisp_policy.specs.Configuration.{ConfigValue, RouterEntryValue}
use Rattle.lisp_sites.specs.Numbers.{addresses}
use Rattle.lisp_check.specs.Warning.{AddressesAreWarned, IdentitiesAreWarned, IsOther}
use Rattle.lisp_check.proofs.Decided.{addr_eq-Decides}

not_first : {X : Type 0} (x : X) (others : Option X) (b : Bool) → cond b (Some x) others ≡ None → others ≡ None
not_first x others true none = absurd (let clash : Some x ≡ None = none in cc)
not_first x others false none = none

-- where an element passes, one is found
passes : {X : Type 0} (p : X → Bool) (xs : List X) (i : ℕ) (d : X) → i < length xs → p (get_or xs i d) ≡ true → ¬ (find p xs ≡ None)
passes p [] i d low e none = absurd (omega (arith, low))
passes p (x ∷ xs) zero d low e none = absurd (let clash : Some x ≡ None = rw e at none in cc)
passes p (x ∷ xs) (suc i) d low e none = passes p xs i d (omega (arith, low)) e (not_first x (find p xs) (p x) none)

module _ {X K : Type 0} (key : X → K) (eq : K → K → Bool) (decides : (a b : K) → Decides (eq a b) (a ≡ b)) (xs : List X) where
  abbrev Alike : X → X → Bool
  Alike x y = eq (key y) (key x)

  -- a place whose element is like the first one of its kind, which stands elsewhere
  abbrev Repeats : ℕ → ℕ → Type 0
  Repeats first place = IsOther xs Alike place first

  at_some : (o : Option ℕ) (i j : ℕ) (d : X) → i < j → j < length xs → key (get_or xs i d) ≡ key (get_or xs j d) → position (Alike (get_or xs j d)) xs ≡ o → ((first place : ℕ) → ¬ Repeats first place) → ⊥
  at_some None i j d low high same at never =
      passes (Alike (get_or xs j d)) xs i d (omega (arith, low, high)) ((decides _ _).1 same) (nowhere (Alike (get_or xs j d)) xs at)
  at_some (Some first) i j d low high same at never =
      never first j ((λ e. before e), (get_or xs j d, slice_get-get_or xs j d high, at)) where
        before : first ≡ j → ⊥
        before e =
            let passed : eq (key (get_or xs i d)) (key (get_or xs j d)) ≡ false = (position-Some (Alike (get_or xs j d)) xs first d at).2 i (subst (λ (n : ℕ). i < n) (sym e) low) in
            let clash : true ≡ false = sym ((decides _ _).1 same) ∙ passed in absurd cc

  to : ((first place : ℕ) → ¬ Repeats first place) → AllPairs (λ x y. key x ≢ key y) xs
  to never i j d low high same = at_some (position (Alike (get_or xs j d)) xs) i j d low high same refl never

  at_place : (first place : ℕ) (x : X) → slice_get xs place ≡ Some x → AllPairs (λ x y. key x ≢ key y) xs → first ≢ place → position (Alike x) xs ≡ Some first → ⊥
  at_place first place x at pairs ne h =
      let found = position-Some (Alike x) xs first x h in
      let here : get_or xs place x ≡ x = get_or_from_slice_get xs place x x at in
      let like : key (get_or xs first x) ≡ key (get_or xs place x) = (decides _ _).0 found.1 ∙ ap key (sym here) in
      let low : place < length xs = slice_get_within xs place x at in
      apart (order first place) low found.0 like where
        order : (a b : ℕ) → ((a < b) ⊎ (b < a)) ⊎ (a ≡ b)
        order a b = elim (cases_order a b) [ inl e ↦ inr e | inr less ↦ inl less ]

        apart : ((first < place) ⊎ (place < first)) ⊎ (first ≡ place) → place < length xs → first < length xs → key (get_or xs first x) ≡ key (get_or xs place x) → ⊥
        apart (inr e) low high like = ne e
        apart (inl (inl less)) low high like = pairs first place x less low like
        apart (inl (inr less)) low high like = pairs place first x less high (sym like)

  pub repeats : ((first place : ℕ) → ¬ Repeats first place) ↔ AllPairs (λ x y. key x ≢ key y) xs
  repeats = (to, λ pairs first place (ne, (x, at, h)). at_place first place x at pairs ne h)

pub addresses_are_warned : (c : ConfigValue) → AddressesAreWarned c
addresses_are_warned c = repeats (λ (a : Addr). a) addr_eq addr_eq-Decides (addresses c)

pub identities_are_warned : (c : ConfigValue) → IdentitiesAreWarned c
identities_are_warned c = repeats (λ (r : RouterEntryValue). r.me) router_eq router_eq-Decides c.routers
