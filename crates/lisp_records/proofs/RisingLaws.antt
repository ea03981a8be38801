-- Elements in strictly rising order have one order.
use Rattle.std.proofs.Common.{suc, ◌≡◌, ℕ, List, [], ◌∷◌, ◌++◌, ◌⊎◌, inl, inr, ⊎_elim, Contains, IsPermutation, Ordering, Less, Greater, nat_cmp, length, refl, sym, ap, subst, ◌∙◌, append-nil, arith}
use Rattle.std.specs.Bool.{⊤}
use Rattle.std.specs.Cmp.{IsTotalOrder, on_total, then_total, nat_cmp_total}
use Rattle.std.specs.Cmp.Lexicographic.{slice_cmp, nat_list_cmp_total}
use Rattle.std.specs.List.{AllPairs}
use Rattle.std.specs.Ordering.{ordering_reverse, ordering_then}
use Rattle.std.proofs.lemmas.List.{length-append}
use Rattle.std.proofs.lemmas.List.Sorted.{Contains-permutation, IsPermutation-sym}
use Rattle.lisp_records.specs.declared.address.Addr.{Addr}
use Rattle.lisp_records.specs.declared.address.Addr.TheVariants.{V4, V6}
use Rattle.lisp_records.specs.Address.{addr_cmp, octets, PrefixValue, prefix_cmp}
use Rattle.lisp_records.specs.Record.{MapRecordValue}
use Rattle.lisp_records.proofs.Elements.{first_or_later, later_in, none_in}

-- ---- of two lists in strictly rising order, one has those of the other that are low

module _ {X : Type 0} (R : X → X → Type 0) (strict : (a b : X) → R a b → R b a → ⊥) (Low : X → Type 0) (lower : (a b : X) → R a b → Low b → Low a) where
  above_first : (x : X) (xs : List X) (z : X) → AllPairs R (x ∷ xs) → Contains xs z → R x z
  above_first x xs z up (k, lt, at) = subst (R x) at (up 0 (suc k) z (omega arith) (omega (arith, lt)))

  rest_rises : (x : X) (xs : List X) → AllPairs R (x ∷ xs) → AllPairs R xs
  rest_rises x xs up i j d lt within = up (suc i) (suc j) d (omega (arith, lt)) (omega (arith, within))

  not_itself : (x z : X) → x ≡ z → R x z → ⊥
  not_itself x z same up = strict x x (subst (R x) (sym same) up) (subst (R x) (sym same) up)

  -- the first ones are the same
  same_first : (x y : X) (xs ys : List X) → AllPairs R (x ∷ xs) → AllPairs R (y ∷ ys) → Low x → (y ≡ x) ⊎ Contains ys x → (Low y → Contains (x ∷ xs) y) → y ≡ x
  same_first x y xs ys up all_up low (inl same) from = same
  same_first x y xs ys up all_up low (inr there) from = ⊎_elim (λ same. sym same) (λ here. absurd (strict x y (above_first x xs y up here) (above_first y ys x all_up there))) (first_or_later y x xs (from (lower y x (above_first y ys x all_up there) low)))

  -- an element above the first of one list isn't the first of the other
  passes_first : (x y : X) (xs ys : List X) (z : X) → x ≡ y → AllPairs R (x ∷ xs) → Contains xs z → (y ≡ z) ⊎ Contains ys z → Contains ys z
  passes_first x y xs ys z same up here (inr there) = there
  passes_first x y xs ys z same up here (inl is) = absurd (not_itself x z (same ∙ is) (above_first x xs z up here))

  pub begins_with : (xs ys : List X) → AllPairs R xs → AllPairs R ys → ((z : X) → Contains xs z → Low z) → ((z : X) → Contains xs z → Contains ys z) → ((z : X) → Contains ys z → Low z → Contains xs z) → (rest : List X) × (ys ≡ xs ++ rest)
  begins_with [] ys up all_up low to from = (ys, refl)
  begins_with (x ∷ xs) [] up all_up low to from = none_in x (to x (0, omega arith, refl))
  begins_with (x ∷ xs) (y ∷ ys) up all_up low to from =
      let first : y ≡ x = same_first x y xs ys up all_up (low x (0, omega arith, refl)) (first_or_later x y ys (to x (0, omega arith, refl))) (from y (0, omega arith, refl)) in
      let tails = begins_with xs ys (rest_rises x xs up) (rest_rises y ys all_up)
      (λ z here. low z (later_in z x xs here))
      (λ z here. passes_first x y xs ys z (sym first) up here (first_or_later z y ys (to z (later_in z x xs here))))
      (λ z there down. passes_first y x ys xs z first all_up there (first_or_later z x xs (from z (later_in z y ys there) down))) in
      (tails.0, λ i. first i ∷ tails.1 i)

nothing_left : {X : Type 0} (one other more less : List X) → other ≡ one ++ more → one ≡ other ++ less → one ≡ other
nothing_left one other [] less is also = sym (append-nil one) ∙ sym is
nothing_left one other (x ∷ xs) less is also = absurd (omega (arith, ap length is, ap length also, length-append one (x ∷ xs), length-append other less))

-- so lists of the same elements are one
pub one_order : {X : Type 0} (R : X → X → Type 0) (strict : (a b : X) → R a b → R b a → ⊥) (xs ys : List X) → AllPairs R xs → AllPairs R ys → ((z : X) → Contains xs z → Contains ys z) → ((z : X) → Contains ys z → Contains xs z) → xs ≡ ys
one_order R strict xs ys up other_up to from =
    let more = begins_with R strict (λ _. ⊤) (λ a b before low. tt) xs ys up other_up (λ z here. tt) to (λ z there low. from z there) in
    let less = begins_with R strict (λ _. ⊤) (λ a b before low. tt) ys xs other_up up (λ z here. tt) from (λ z there low. to z there) in
    nothing_left xs ys more.0 less.0 more.1 less.1

-- ---- the order of blocks

-- IPv4 before IPv6
abbrev family_number : Addr → ℕ
family_number (V4 _) = 0
family_number (V6 _) = 1

abbrev by_parts : Addr → Addr → Ordering
by_parts a b = ordering_then (nat_cmp (family_number a) (family_number b)) (slice_cmp nat_cmp (octets a) (octets b))

same_order : (a b : Addr) → by_parts a b ≡ addr_cmp a b
same_order a b = grind arith

pub addr_total : IsTotalOrder addr_cmp
addr_total = subst (λ (R : Addr → Addr → Ordering). IsTotalOrder R) (λ i a b. same_order a b i) (then_total (on_total family_number nat_cmp_total) (on_total octets nat_list_cmp_total))

pub block_total : IsTotalOrder prefix_cmp
block_total = then_total (on_total (λ (b : PrefixValue). b.addr) addr_total) (on_total (λ (b : PrefixValue). b.mask_len) nat_cmp_total)

-- of two blocks one alone is below the other
block_cmp-strict : (a b : PrefixValue) → prefix_cmp a b ≡ Less → prefix_cmp b a ≡ Less → ⊥
block_cmp-strict a b ab ba = absurd (let turned : prefix_cmp b a ≡ Greater = block_total.antisymm b a ∙ ap ordering_reverse ab in cc)

-- records in rising order of their EID-Prefixes have one order
pub one_rising_order : (one other : List MapRecordValue) → IsPermutation one other → AllPairs (λ a b. prefix_cmp a.eid b.eid ≡ Less) one → AllPairs (λ a b. prefix_cmp a.eid b.eid ≡ Less) other → one ≡ other
one_rising_order one other moved up other_up =
    one_order (λ a b. prefix_cmp a.eid b.eid ≡ Less) (λ a b. block_cmp-strict a.eid b.eid) one other up other_up (λ m. Contains-permutation one other m moved) (λ m. Contains-permutation other one m (IsPermutation-sym one other moved))
