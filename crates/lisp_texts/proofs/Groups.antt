-- Reading groups one after the other, as a loop does.
use Rattle.std.proofs.Common.{◌≡◌, ℕ, suc, ◌+◌, ◌-◌, ◌*◌, ◌<◌, ◌≤◌, List, [], ◌∷◌, ◌++◌, length, get_or, take, set, Option, Some, None, refl, sym, ap, ◌∙◌, append_assoc, arith, length-set}
use Rattle.std.specs.Int.{w16, to_be_bytes}
use Rattle.std.proofs.lemmas.List.{take_more_set, take_all}
use Rattle.lisp_texts.specs.Reading.{◌>>=◌, cut, group_of, groups_at}

-- what was read before, and what is still read
abbrev pub with_front : List ℕ → Option (List ℕ) → Option (List ℕ)
with_front front read = read >>= λ rest. Some (front ++ rest)

regrouped : (front bytes : List ℕ) (read : Option (List ℕ)) → with_front front (read >>= λ others. Some (bytes ++ others)) ≡ with_front (front ++ bytes) read
regrouped front bytes (Some others) = ap (λ (t : List ℕ). Some t) (sym (append_assoc front bytes others))
regrouped front bytes None = refl

-- two octets written behind the first ones
take-two_set : (octets : List ℕ) (k high low : ℕ) → k + 1 < length octets → take (k + 2) (set (set octets k high) (k + 1) low) ≡ take k octets ++ (high ∷ low ∷ [])
take-two_set octets k high low lt =
    let next : k + 2 ≡ (k + 1) + 1 = omega arith in
    let second : take ((k + 1) + 1) (set (set octets k high) (k + 1) low) ≡ take (k + 1) (set octets k high) ++ low ∷ [] = take_more_set (set octets k high) (k + 1) low (omega (arith, length-set octets k high)) in
    let first : take (k + 1) (set octets k high) ≡ take k octets ++ high ∷ [] = take_more_set octets k high (omega arith) in
    rw (next, second, first) (append_assoc (take k octets) (high ∷ []) (low ∷ []))

-- no colon follows
pub no_colon : (front rest : List ℕ) (i : ℕ) (total : Option (List ℕ)) → i < 7 → None ≡ cut 58 rest → with_front front (groups_at (7 - i) rest) ≡ total → None ≡ total
unfolding groups_at
no_colon front rest i total lt none so_far =
    let k : 7 - i ≡ suc (7 - (i + 1)) = omega arith in
    let one : with_front front (groups_at (7 - i) rest) ≡ None = rw (k, ← none) refl in
    sym one ∙ so_far

-- what stands before the colon is no group
pub no_group : (front rest digits behind : List ℕ) (i : ℕ) (total : Option (List ℕ)) → i < 7 → Some (digits, behind) ≡ cut 58 rest → None ≡ group_of digits → with_front front (groups_at (7 - i) rest) ≡ total → None ≡ total
unfolding groups_at
no_group front rest digits behind i total lt pieces none so_far =
    let k : 7 - i ≡ suc (7 - (i + 1)) = omega arith in
    let one : with_front front (groups_at (7 - i) rest) ≡ None = rw (k, ← pieces, ← none) refl in
    sym one ∙ so_far

-- one more group is read
pub goes_on : (octets rest digits behind bytes : List ℕ) (i group : ℕ) (total : Option (List ℕ)) → length octets ≡ 16 → i < 7 → Some (digits, behind) ≡ cut 58 rest → Some group ≡ group_of digits → bytes ≡ to_be_bytes w16 group
    → with_front (take (2 * i) octets) (groups_at (7 - i) rest) ≡ total
    → with_front (take (2 * (i + 1)) (set (set octets (2 * i) (get_or bytes 0 0)) (2 * i + 1) (get_or bytes 1 0))) (groups_at (7 - (i + 1)) behind) ≡ total
unfolding groups_at
goes_on octets rest digits behind bytes i group total len lt pieces read made so_far =
    let k : 7 - i ≡ suc (7 - (i + 1)) = omega arith in
    let two : 2 * (i + 1) ≡ 2 * i + 2 = omega arith in
    let written : take (2 * (i + 1)) (set (set octets (2 * i) (get_or bytes 0 0)) (2 * i + 1) (get_or bytes 1 0)) ≡ take (2 * i) octets ++ to_be_bytes w16 group = rw (two, made) (take-two_set octets (2 * i) _ _ (omega arith)) in
    let one : with_front (take (2 * i) octets) (groups_at (7 - i) rest) ≡ with_front (take (2 * i) octets ++ to_be_bytes w16 group) (groups_at (7 - (i + 1)) behind) =
    rw (k, ← pieces, ← read) (regrouped (take (2 * i) octets) (to_be_bytes w16 group) (groups_at (7 - (i + 1)) behind)) in
    ap (λ (t : List ℕ). with_front t (groups_at (7 - (i + 1)) behind)) written ∙ sym one ∙ so_far

-- what stands behind the last colon is no group
pub no_last : (front rest : List ℕ) (i : ℕ) (total : Option (List ℕ)) → 7 ≤ i → None ≡ group_of rest → with_front front (groups_at (7 - i) rest) ≡ total → None ≡ total
unfolding groups_at
no_last front rest i total le none so_far =
    let k : 7 - i ≡ 0 = omega arith in
    let one : with_front front (groups_at (7 - i) rest) ≡ None = rw (k, ← none) refl in
    sym one ∙ so_far

-- all groups are read
pub is_done : (octets rest bytes : List ℕ) (i group : ℕ) (total : Option (List ℕ)) → length octets ≡ 16 → i ≡ 7 → Some group ≡ group_of rest → bytes ≡ to_be_bytes w16 group
    → with_front (take (2 * i) octets) (groups_at (7 - i) rest) ≡ total → Some (set (set octets 14 (get_or bytes 0 0)) 15 (get_or bytes 1 0)) ≡ total
unfolding groups_at
is_done octets rest bytes i group total len seven read made so_far =
    let final : List ℕ = set (set octets 14 (get_or bytes 0 0)) 15 (get_or bytes 1 0) in
    let size : length final ≡ 16 = simp length-set len in
    let written : take 16 final ≡ take 14 octets ++ to_be_bytes w16 group = rw made (take-two_set octets 14 _ _ (omega arith)) in
    let all : final ≡ take 14 octets ++ to_be_bytes w16 group = sym (take_all 16 final (omega arith)) ∙ written in
    let one : with_front (take (2 * i) octets) (groups_at (7 - i) rest) ≡ Some (take 14 octets ++ to_be_bytes w16 group) = rw (seven, ← read) refl in
    ap (λ (t : List ℕ). Some t) all ∙ sym one ∙ so_far
