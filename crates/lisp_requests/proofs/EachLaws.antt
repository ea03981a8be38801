-- Items that are read one after the other are spelled so, and items that are spelled so are read.
use Rattle.std.proofs.Common.{◌≡◌, ℕ, zero, suc, List, [], ◌∷◌, ◌++◌, length, Result, Ok, refl, sym, ap, subst, ◌∙◌, append_assoc}
use Rattle.std.specs.List.{AllByRecursion, flat_map}
use Rattle.lisp_records.specs.Spelling.{IsBytes}
use Rattle.lisp_records.proofs.Fields.{Takes, IsBytes-rest}
use Rattle.lisp_records.specs.Result.{◌>>=◌}
use Rattle.lisp_requests.specs.declared.fault.RequestFault.{RequestFault}
use Rattle.lisp_requests.specs.Format.{SpellsEach}
use Rattle.lisp_requests.specs.Reading.{items_at}
use Rattle.lisp_requests.proofs.Fields.{bind_ok, done, ok_is}

-- what was read is spelled by the bytes in front
abbrev pub TakesItem : {X : Type 0} → (List ℕ → Result (X × List ℕ) RequestFault) → (List ℕ → X → Type 0) → Type 0
TakesItem {X} read Spells = (bytes : List ℕ) (x : X × List ℕ) → IsBytes bytes → read bytes ≡ Ok x → Takes (λ text. Spells text x.0) bytes x.1

-- what is spelled in front is read
abbrev pub ReadsItem : {X : Type 0} → (List ℕ → Result (X × List ℕ) RequestFault) → (List ℕ → X → Type 0) → Type 0
ReadsItem {X} read Spells = (text rest : List ℕ) (x : X) → Spells text x → read (text ++ rest) ≡ Ok (x, rest)

module _ {X : Type 0} (read : List ℕ → Result (X × List ℕ) RequestFault) (Spells : List ℕ → X → Type 0) where
  -- an item and then items are items
  joined : (bytes middle rest : List ℕ) (x : X) (xs : List X) → Takes (λ text. Spells text x) bytes middle → Takes (λ text. SpellsEach Spells text xs) middle rest → Takes (λ text. SpellsEach Spells text (x ∷ xs)) bytes rest
  joined bytes middle rest x xs first others = record {
    text = first.text ++ others.text;
    parts = first.parts ∙ ap (λ (t : List ℕ). first.text ++ t) others.parts ∙ sym (append_assoc first.text others.text rest);
    kind = (first.text, others.text, refl, first.kind, others.kind);
  }

  -- items that were read are spelled by the bytes in front, and are as many as were asked for
  pub items_take : TakesItem read Spells → (n : ℕ) (bytes : List ℕ) (x : List X × List ℕ) → IsBytes bytes → items_at read n bytes ≡ Ok x → Takes (λ text. SpellsEach Spells text x.0) bytes x.1 × (length x.0 ≡ n)
  unfolding items_at
  items_take one zero bytes x fits e =
      let made : List X × List ℕ = ([], bytes) in
      subst (λ (y : List X × List ℕ). Takes (λ text. SpellsEach Spells text y.0) bytes y.1 × (length y.0 ≡ 0)) {x = made} (ok_is made x e) (record { text = []; parts = refl; kind = refl }, refl)
  items_take one (suc n) bytes x fits e =
      let a = bind_ok (read bytes) (λ first. items_at read n first.1 >>= λ others. done (first.0 ∷ others.0, others.1)) x e in
      let b = bind_ok (items_at read n a.0.1) (λ others. done (a.0.0 ∷ others.0, others.1)) x a.2 in
      let first = one bytes a.0 fits a.1 in
      let others = items_take one n a.0.1 b.0 (IsBytes-rest bytes first.text a.0.1 first.parts fits) b.1 in
      let made : List X × List ℕ = (a.0.0 ∷ b.0.0, b.0.1) in
      subst (λ (y : List X × List ℕ). Takes (λ text. SpellsEach Spells text y.0) bytes y.1 × (length y.0 ≡ suc n)) {x = made} (ok_is made x b.2) (joined bytes a.0.1 b.0.1 a.0.0 b.0.0 first others.0, ap suc others.1)

  -- items that are spelled in front are read
  pub items_again : ReadsItem read Spells → (text rest : List ℕ) (xs : List X) → SpellsEach Spells text xs → items_at read (length xs) (text ++ rest) ≡ Ok (xs, rest)
  unfolding items_at
  items_again one text rest [] s = ap (λ (t : List ℕ). done ([], t ++ rest)) s
  items_again one text rest (x ∷ xs) s =
      let whole : text ++ rest ≡ s.0 ++ (s.1 ++ rest) = ap (λ (t : List ℕ). t ++ rest) s.2 ∙ append_assoc s.0 s.1 rest in
      ap (items_at read (suc (length xs))) whole ∙ rw (one s.0 (s.1 ++ rest) x s.3, items_again one s.1 rest xs s.4) refl

-- written items are spelled so, where each is
pub each_spelled : {X : Type 0} (Spells : List ℕ → X → Type 0) (write : X → List ℕ) (P : X → Type 0) → ((x : X) → P x → Spells (write x) x) → (xs : List X) → AllByRecursion P xs → SpellsEach Spells (flat_map write xs) xs
each_spelled Spells write P one [] all = refl
each_spelled Spells write P one (x ∷ xs) all = (write x, flat_map write xs, refl, one x all.0, each_spelled Spells write P one xs all.1)
