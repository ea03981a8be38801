-- What a sink takes, and what it leaves.
use Rattle.std.proofs.Common.{◌≡◌, ℕ, ◌≤◌, ◌<◌, List, [], ◌∷◌, ◌++◌, length, take, drop, Option, Some, None, refl, sym, ap, ◌∙◌, subst, inr, arith, append_assoc}
use Rattle.std.specs.Option.{option_map}
use Rattle.std.proofs.lemmas.List.{take-append-drop, append-nil}
use Rattle.lisp_log.specs.Waiting.{WaitingState, Takes, Gives, Pours, dropped_text}

-- a sink took a front of what it was offered, and the rest waits
pub gives : (bytes offered rest : List ℕ) (dropped : ℕ) (before after : Option (List ℕ)) (count : ℕ) → offered ≡ bytes → Takes before after count offered → rest ≡ drop count bytes
    → Gives (record { bytes = bytes; dropped = dropped }) (record { bytes = rest; dropped = dropped }) before after
gives bytes offered rest dropped before after count all takes is = record {
  poured = take count bytes;
  owed = ap (λ (more : List ℕ). take count bytes ++ more) is ∙ take-append-drop count bytes;
  same = refl;
  taken = subst (λ (xs : List ℕ). Takes before after count xs) all takes;
}

-- a sink that takes twice
twice : (before middle after : Option (List ℕ)) (one other : List ℕ) → middle ≡ option_map (λ taken. taken ++ one) before → after ≡ option_map (λ taken. taken ++ other) middle → after ≡ option_map (λ taken. taken ++ (one ++ other)) before
twice None middle after one other first second = second ∙ ap (λ (o : Option (List ℕ)). option_map (λ taken. taken ++ other) o) first
twice (Some taken) middle after one other first second =
    second ∙ ap (λ (o : Option (List ℕ)). option_map (λ taken. taken ++ other) o) first ∙ ap Some (append_assoc taken one other)

-- all that waited was taken, and then of the line that says how many were dropped
pub pours_both : (old middle told new : WaitingState) (before between after : Option (List ℕ)) → Gives old middle before between → middle.bytes ≡ [] → 0 < middle.dropped → told ≡ record { bytes = dropped_text middle.dropped; dropped = 0 } → Gives told new between after
    → Pours old new before after
pours_both old middle told new before between after first empty some tells second = record {
  poured = first.poured ++ second.poured;
  owed = inr (
    append_assoc first.poured second.poured new.bytes
        ∙ ap (λ (t : List ℕ). first.poured ++ t) (second.owed ∙ ap (λ (w : WaitingState). w.bytes) tells)
        ∙ ap (λ (t : List ℕ). t ++ dropped_text middle.dropped) (sym (append-nil first.poured) ∙ ap (λ (t : List ℕ). first.poured ++ t) (sym empty) ∙ first.owed)
        ∙ ap (λ (n : ℕ). old.bytes ++ dropped_text n) first.same,
    second.same ∙ ap (λ (w : WaitingState). w.dropped) tells,
    subst (λ (n : ℕ). 1 ≤ n) first.same (omega arith),
  );
  taken = twice before between after first.poured second.poured first.taken second.taken;
  told = λ missing. absurd (omega (arith, missing, second.same, ap (λ (w : WaitingState). w.dropped) tells));
}

-- a list whose length is 0
pub emptied : (xs : List ℕ) (n : ℕ) → n ≡ length xs → n ≡ 0 → xs ≡ []
emptied [] n counted zero = refl
emptied (x ∷ xs) n counted zero = absurd (omega arith)
