-- Writing groups one after the other, as a loop does.
use Rattle.std.proofs.Common.{◌≡◌, ℕ, ◌+◌, ◌*◌, ◌<◌, ◌≤◌, List, [], ◌∷◌, ◌++◌, length, get_or, drop, refl, sym, ap, ◌∙◌, add-one, append_assoc, drop-cons, arith}
use Rattle.std.specs.List.{flat_map, join_with_byte}
use Rattle.std.proofs.lemmas.List.{append-nil, drop_all}
use Rattle.lisp_texts.specs.Written.{hex_text, groups_text}

-- parts, each behind a mark
abbrev pub marked : ℕ → List (List ℕ) → List ℕ
marked mark parts = flat_map (λ part. mark ∷ part) parts

pub join-marked : (mark : ℕ) (x : List ℕ) (xs : List (List ℕ)) → join_with_byte mark (x ∷ xs) ≡ x ++ marked mark xs
join-marked mark x [] = sym (append-nil x)
join-marked mark x (y ∷ xs) = ap (λ (t : List ℕ). x ++ mark ∷ t) (join-marked mark y xs)

-- the groups from an octet on
abbrev pub later : List ℕ → ℕ → List ℕ
later octets at = marked 58 (groups_text (drop (2 * at) octets))

abbrev pub group_at : List ℕ → ℕ → List ℕ
group_at octets at = hex_text (get_or octets (2 * at) 0) ++ hex_text (get_or octets (2 * at + 1) 0)

one_less : (octets : List ℕ) (i j : ℕ) → i < length octets → j ≡ i + 1 → drop i octets ≡ get_or octets i 0 ∷ drop j octets
one_less octets i j lt next = drop-cons octets i 0 lt ∙ ap (λ (k : ℕ). get_or octets i 0 ∷ drop k octets) (sym (add-one i) ∙ sym next)

groups_step : (octets : List ℕ) (at : ℕ) → 2 * at + 1 < length octets → groups_text (drop (2 * at) octets) ≡ group_at octets at ∷ groups_text (drop (2 * (at + 1)) octets)
groups_step octets at lt =
    let one = one_less octets (2 * at) (2 * at + 1) (omega arith) refl in
    let two = one_less octets (2 * at + 1) (2 * (at + 1)) lt (omega arith) in
    rw (one, two) refl

-- one more group is written
pub groups_next : (old between new total octets : List ℕ) (at : ℕ) → length octets ≡ 16 → at < 8 → between ≡ old ++ 58 ∷ [] → new ≡ between ++ group_at octets at
    → old ++ later octets at ≡ total → new ++ later octets (at + 1) ≡ total
groups_next old between new total octets at len lt colon made so_far =
    let step : later octets at ≡ 58 ∷ (group_at octets at ++ later octets (at + 1)) = ap (marked 58) (groups_step octets at (omega arith)) in
    ap (λ (t : List ℕ). t ++ later octets (at + 1)) (made ∙ ap (λ (t : List ℕ). t ++ group_at octets at) colon)
    ∙ append_assoc (old ++ 58 ∷ []) (group_at octets at) (later octets (at + 1))
    ∙ append_assoc old (58 ∷ []) (group_at octets at ++ later octets (at + 1))
    ∙ ap (λ (t : List ℕ). old ++ t) (sym step) ∙ so_far

-- the first group is written
pub groups_first : (old new octets : List ℕ) → length octets ≡ 16 → new ≡ old ++ group_at octets 0 → new ++ later octets 1 ≡ old ++ join_with_byte 58 (groups_text octets)
groups_first old new octets len made =
    ap (λ (t : List ℕ). t ++ later octets 1) made
    ∙ append_assoc old (group_at octets 0) (later octets 1)
    ∙ ap (λ (t : List ℕ). old ++ t) (sym (join-marked 58 (group_at octets 0) (groups_text (drop 2 octets))) ∙ ap (join_with_byte 58) (sym (groups_step octets 0 (omega arith))))

-- all groups are written
pub groups_done : (new total octets : List ℕ) (at : ℕ) → length octets ≡ 16 → 8 ≤ at → new ++ later octets at ≡ total → new ≡ total
groups_done new total octets at len all so_far =
    let none : drop (2 * at) octets ≡ [] = drop_all (2 * at) octets (omega arith) in
    sym (append-nil new) ∙ ap (λ (t : List ℕ). new ++ marked 58 (groups_text t)) (sym none) ∙ so_far
