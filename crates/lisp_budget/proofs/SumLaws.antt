-- The bytes of those messages that pass a test.
use Rattle.std.proofs.Common.{◌≡◌, ℕ, ◌+◌, ◌<◌, ◌≤◌, Bool, true, false, cond, ◌||◌, List, [], ◌∷◌, ◌++◌, ◌⊎◌, inl, inr, refl, sym, ap, ◌∙◌, arith, true≢false}
use Rattle.std.specs.List.{All, filter, list_any}
use Rattle.std.proofs.lemmas.Bool.{or_left, or_right}
use Rattle.std.proofs.lemmas.List.Sums.{sum_by-cons, sum_by-append}
use Rattle.std.proofs.lemmas.List.Elements.{All-head, All-tail, filter-append}
use Rattle.lisp_budget.specs.Sent.{SentValue, bytes_of}
use Rattle.lisp_budget.specs.Budget.{bytes_where}

-- one message more, in front
in_front : (b : Bool) (s : SentValue) (xs : List SentValue) → bytes_of (cond b (s ∷ xs) xs) ≡ cond b s.bytes 0 + bytes_of xs
in_front true s xs = sum_by-cons (λ (x : SentValue). x.bytes) s xs
in_front false s xs = omega arith

pub where-cons : (p : SentValue → Bool) (s : SentValue) (xs : List SentValue) → bytes_where p (s ∷ xs) ≡ cond (p s) s.bytes 0 + bytes_where p xs
where-cons p s xs = in_front (p s) s (filter p xs)

-- and behind
pub where_push : (p : SentValue → Bool) (xs : List SentValue) (s : SentValue) → bytes_where p (xs ++ s ∷ []) ≡ bytes_where p xs + cond (p s) s.bytes 0
where_push p xs s =
    let one = where-cons p s [] in
    ap bytes_of (filter-append p xs (s ∷ [])) ∙ sum_by-append (λ (x : SentValue). x.bytes) (filter p xs) (filter p (s ∷ [])) ∙ ap (λ n. bytes_where p xs + n) (one ∙ omega arith)

-- tests that agree
pub where_agree : (p q : SentValue → Bool) (xs : List SentValue) → All (λ s. p s ≡ q s) xs → bytes_where p xs ≡ bytes_where q xs
where_agree p q [] each = refl
where_agree p q (s ∷ xs) each =
    let more = where_agree p q xs (All-tail (λ x. p x ≡ q x) s xs each) in
    where-cons p s xs ∙ (ap (λ b. cond b s.bytes 0 + bytes_where p xs) (All-head (λ x. p x ≡ q x) s xs each) ∙ (ap (λ n. cond (q s) s.bytes 0 + n) more ∙ sym (where-cons q s xs)))

-- a test that none passes
nothing : (xs : List SentValue) → bytes_where (λ _. false) xs ≡ 0
nothing [] = refl
nothing (s ∷ xs) = where-cons (λ _. false) s xs ∙ (let more = nothing xs in omega arith)

pub where_none : (p : SentValue → Bool) (xs : List SentValue) → All (λ s. p s ≡ false) xs → bytes_where p xs ≡ 0
where_none p xs each = where_agree p (λ _. false) xs each ∙ nothing xs

-- what passes one test passes one of two others
term_le : (a b c : Bool) (n : ℕ) → (a ≡ true → (b ≡ true) ⊎ (c ≡ true)) → cond a n 0 ≤ cond b n 0 + cond c n 0
term_le false b c n may = omega arith
term_le true true c n may = omega arith
term_le true false true n may = omega arith
term_le true false false n may = elim (may refl) [ inl e ↦ absurd (true≢false (sym e)) | inr e ↦ absurd (true≢false (sym e)) ]

pub where_le : (p q r : SentValue → Bool) (xs : List SentValue) → All (λ s. p s ≡ true → (q s ≡ true) ⊎ (r s ≡ true)) xs → bytes_where p xs ≤ bytes_where q xs + bytes_where r xs
where_le p q r [] each = omega arith
where_le p q r (s ∷ xs) each =
    let more = where_le p q r xs (All-tail (λ x. p x ≡ true → (q x ≡ true) ⊎ (r x ≡ true)) s xs each) in
    let one = term_le (p s) (q s) (r s) s.bytes (All-head (λ x. p x ≡ true → (q x ≡ true) ⊎ (r x ≡ true)) s xs each) in
    omega (arith, where-cons p s xs, where-cons q s xs, where-cons r s xs)

-- where there are bytes, a message passes
some_first : (a b rest : Bool) (n others : ℕ) → (a ≡ true → b ≡ true) → (0 < others → rest ≡ true) → 0 < cond a n 0 + others → (b || rest) ≡ true
some_first true b rest n others here there some = or_left b rest (here refl)
some_first false b rest n others here there some = or_right b rest (there (omega arith))

pub where_some : (p q : SentValue → Bool) → ((s : SentValue) → p s ≡ true → q s ≡ true) → (xs : List SentValue) → 0 < bytes_where p xs → list_any q xs ≡ true
where_some p q weaker [] some = absurd (omega arith)
where_some p q weaker (s ∷ xs) some =
    some_first (p s) (q s) (list_any q xs) s.bytes (bytes_where p xs) (weaker s) (where_some p q weaker xs) (let e = where-cons p s xs in omega arith)
