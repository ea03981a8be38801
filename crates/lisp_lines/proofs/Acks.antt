-- The lines of what was counted, a part after the other.
use Rattle.std.proofs.Common.{◌≡◌, ℕ, ◌+◌, ◌<◌, List, [], ◌∷◌, ◌++◌, length, get_or, take, drop, Option, sym, ap, ◌∙◌, append_assoc, arith}
use Rattle.std.proofs.lemmas.Grind.{common_steps}
use Rattle.std.proofs.lemmas.List.{append-nil, take_more}
use Rattle.lisp_policy.specs.Configuration.{ConfigValue}
use Rattle.lisp_lines.specs.Front.{LeavesFront}
use Rattle.lisp_lines.specs.Query.{ack_of_part, acks_from, ack_text}
use Rattle.lisp_lines.proofs.Fronts.{both, two_1, two_2}

module _ (c : ConfigValue) (router server : ℕ) where
  -- those of some parts, then those of others
  split : (part : ℕ) (xs ys : List (Option (ℕ × ℕ))) → acks_from c router server part (xs ++ ys) ≡ acks_from c router server part xs ++ acks_from c router server (part + length xs) ys
  split part [] ys =
      let same : part + 0 ≡ part = omega arith in
      ap (λ (n : ℕ). acks_from c router server n ys) (sym same)
  split part (x ∷ xs) ys =
      let same : (part + 1) + length xs ≡ part + length (x ∷ xs) = omega arith in
      ap (λ (t : List ℕ). ack_of_part c router server part x ++ t) (split (part + 1) xs ys ∙ ap (λ (n : ℕ). acks_from c router server (part + 1) xs ++ acks_from c router server n ys) same)
      ∙ sym (append_assoc (ack_of_part c router server part x) (acks_from c router server (part + 1) xs) (acks_from c router server (part + length (x ∷ xs)) ys))

  module _ (xs : List (Option (ℕ × ℕ))) (i : ℕ) (d : Option (ℕ × ℕ)) (inside : i < length xs) where
    abbrev its : List ℕ
    its = ack_of_part c router server i (get_or xs i d)

    -- that of one part more
    next : acks_from c router server 0 (take (i + 1) xs) ≡ acks_from c router server 0 (take i xs) ++ its
    next =
        let x = get_or xs i d in
        let size : 0 + length (take i xs) ≡ i = grind (arith, common_steps) in
        ap (acks_from c router server 0) (take_more xs i d inside) ∙ split 0 (take i xs) (x ∷ [])
        ∙ ap (λ (n : ℕ). acks_from c router server 0 (take i xs) ++ acks_from c router server n (x ∷ [])) size
        ∙ ap (λ (t : List ℕ). acks_from c router server 0 (take i xs) ++ t) (append-nil its)

    -- it was appended
    pub acks_more : (old mid new : List ℕ) → mid ≡ old ++ acks_from c router server 0 (take i xs) → new ≡ mid ++ its → new ≡ old ++ acks_from c router server 0 (take (i + 1) xs)
    acks_more old mid new so_far more = both old mid new (acks_from c router server 0 (take i xs)) its so_far more ∙ ap (λ (t : List ℕ). old ++ t) (sym next)

    -- a front of it was
    pub acks_front : (old mid new : List ℕ) → mid ≡ old ++ acks_from c router server 0 (take i xs) → LeavesFront mid new its → LeavesFront old new (ack_text c router server xs)
    acks_front old mid new so_far leaves =
        let rest = drop (i + 1) xs in
        let size : 0 + length (take (i + 1) xs) ≡ i + 1 = grind (arith, common_steps) in
        let all : acks_from c router server 0 (take i xs) ++ its ++ acks_from c router server (i + 1) rest ≡ ack_text c router server xs =
        ap (λ (t : List ℕ). t ++ acks_from c router server (i + 1) rest) (sym next) ∙ ap (λ (n : ℕ). acks_from c router server 0 (take (i + 1) xs) ++ acks_from c router server n rest) (sym size)
        ∙ sym (split 0 (take (i + 1) xs) rest) ∙ ap (acks_from c router server 0) (grind (arith, common_steps)) in
        rw (← all) (two_1 old (acks_from c router server 0 (take i xs) ++ its) (acks_from c router server (i + 1) rest) new
        (two_2 old (acks_from c router server 0 (take i xs)) its mid new so_far leaves))
