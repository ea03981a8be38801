-- Appending one text behind the other, where memory may run out.
use Rattle.std.proofs.Common.{◌≡◌, ℕ, ◌+◌, ◌<◌, ◌≤◌, ◌/◌, ◌%◌, ◌^◌, List, [], ◌∷◌, ◌++◌, refl, sym, ap, ◌∙◌, append_assoc}
use Rattle.std.proofs.lemmas.List.{append-nil}
use Rattle.std.specs.Fmt.{decimal}
use Rattle.std.proofs.lemmas.Fmt.{decimal_step, decimal_digit}
use Rattle.lisp_lines.specs.Front.{LeavesFront}

-- two texts were appended
pub both : (old mid new a b : List ℕ) → mid ≡ old ++ a → new ≡ mid ++ b → new ≡ old ++ (a ++ b)
both old mid new a b one other = other ∙ ap (λ t. t ++ b) one ∙ append_assoc old a b

-- nothing was
none : (old new a : List ℕ) → new ≡ old → LeavesFront old new a
none old new a same = ([], a, refl, same ∙ sym (append-nil old))

-- of two texts, a front of the first; the first, and a front of the second
module _ (old a b : List ℕ) where
  pub two_1 : (new : List ℕ) → LeavesFront old new a → LeavesFront old new (a ++ b)
  two_1 new leaves = (leaves.0, leaves.1 ++ b, ap (λ t. t ++ b) leaves.2 ∙ append_assoc leaves.0 leaves.1 b, leaves.3)

  pub two_2 : (mid new : List ℕ) → mid ≡ old ++ a → LeavesFront mid new b → LeavesFront old new (a ++ b)
  two_2 mid new one leaves = (a ++ leaves.0, leaves.1, ap (λ t. a ++ t) leaves.2 ∙ sym (append_assoc a leaves.0 leaves.1), leaves.3 ∙ ap (λ t. t ++ leaves.0) one ∙ append_assoc old a leaves.0)

-- of three
module _ (old a b c : List ℕ) where
  pub three_1 : (new : List ℕ) → LeavesFront old new a → LeavesFront old new (a ++ b ++ c)
  three_1 new leaves = two_1 old (a ++ b) c new (two_1 old a b new leaves)

  pub three_2 : (mid new : List ℕ) → mid ≡ old ++ a → LeavesFront mid new b → LeavesFront old new (a ++ b ++ c)
  three_2 mid new one leaves = two_1 old (a ++ b) c new (two_2 old a b mid new one leaves)

  pub three_3 : (mid next new : List ℕ) → mid ≡ old ++ a → next ≡ mid ++ b → LeavesFront next new c → LeavesFront old new (a ++ b ++ c)
  three_3 mid next new one other leaves = two_2 old (a ++ b) c next new (both old mid next a b one other) leaves

-- of four
module _ (old a b c d : List ℕ) where
  pub four_1 : (new : List ℕ) → LeavesFront old new a → LeavesFront old new (a ++ b ++ c ++ d)
  four_1 new leaves = two_1 old (a ++ b ++ c) d new (three_1 old a b c new leaves)

  pub four_2 : (mid new : List ℕ) → mid ≡ old ++ a → LeavesFront mid new b → LeavesFront old new (a ++ b ++ c ++ d)
  four_2 mid new one leaves = two_1 old (a ++ b ++ c) d new (three_2 old a b c mid new one leaves)

  pub four_3 : (mid next new : List ℕ) → mid ≡ old ++ a → next ≡ mid ++ b → LeavesFront next new c → LeavesFront old new (a ++ b ++ c ++ d)
  four_3 mid next new one other leaves = two_1 old (a ++ b ++ c) d new (three_3 old a b c mid next new one other leaves)

  pub four_4 : (mid next last new : List ℕ) → mid ≡ old ++ a → next ≡ mid ++ b → last ≡ next ++ c → LeavesFront last new d → LeavesFront old new (a ++ b ++ c ++ d)
  four_4 mid next last new one other third leaves = two_2 old (a ++ b ++ c) d last new (both old next last (a ++ b) c (both old mid next a b one other) third) leaves

  pub four : (mid next last new : List ℕ) → mid ≡ old ++ a → next ≡ mid ++ b → last ≡ next ++ c → new ≡ last ++ d → new ≡ old ++ (a ++ b ++ c ++ d)
  four mid next last new one other third fourth = both old last new (a ++ b ++ c) d (both old next last (a ++ b) c (both old mid next a b one other) third) fourth

-- of five
module _ (old a b c d e : List ℕ) where
  pub five_1 : (new : List ℕ) → LeavesFront old new a → LeavesFront old new (a ++ b ++ c ++ d ++ e)
  five_1 new leaves = two_1 old (a ++ b ++ c ++ d) e new (four_1 old a b c d new leaves)

  pub five_2 : (mid new : List ℕ) → mid ≡ old ++ a → LeavesFront mid new b → LeavesFront old new (a ++ b ++ c ++ d ++ e)
  five_2 mid new one leaves = two_1 old (a ++ b ++ c ++ d) e new (four_2 old a b c d mid new one leaves)

  pub five_3 : (mid next new : List ℕ) → mid ≡ old ++ a → next ≡ mid ++ b → LeavesFront next new c → LeavesFront old new (a ++ b ++ c ++ d ++ e)
  five_3 mid next new one other leaves = two_1 old (a ++ b ++ c ++ d) e new (four_3 old a b c d mid next new one other leaves)

  pub five_4 : (mid next last new : List ℕ) → mid ≡ old ++ a → next ≡ mid ++ b → last ≡ next ++ c → LeavesFront last new d → LeavesFront old new (a ++ b ++ c ++ d ++ e)
  five_4 mid next last new one other third leaves = two_1 old (a ++ b ++ c ++ d) e new (four_4 old a b c d mid next last new one other third leaves)

  pub five_5 : (mid next last end new : List ℕ) → mid ≡ old ++ a → next ≡ mid ++ b → last ≡ next ++ c → end ≡ last ++ d → LeavesFront end new e → LeavesFront old new (a ++ b ++ c ++ d ++ e)
  five_5 mid next last end new one other third fourth leaves = two_2 old (a ++ b ++ c ++ d) e end new (four old a b c d mid next last end one other third fourth) leaves

  pub five : (mid next last end new : List ℕ) → mid ≡ old ++ a → next ≡ mid ++ b → last ≡ next ++ c → end ≡ last ++ d → new ≡ end ++ e → new ≡ old ++ (a ++ b ++ c ++ d ++ e)
  five mid next last end new one other third fourth fifth = both old end new (a ++ b ++ c ++ d) e (four old a b c d mid next last end one other third fourth) fifth

-- the text of a number below 10 is its digit
pub one_digit : (n : ℕ) (old new : List ℕ) → n < 10 → new ≡ old ++ (48 + n) ∷ [] → new ≡ old ++ decimal n
one_digit n old new small is = is ∙ ap (λ t. old ++ t) (sym (decimal_digit n small))

-- that of any other is that of its tenth, and a digit
module _ (n : ℕ) (old : List ℕ) (more : 10 ≤ n) (fits : n < 2 ^ 64) where
  pub more_digits : (mid new : List ℕ) → mid ≡ old ++ decimal (n / 10) → new ≡ mid ++ (48 + n % 10) ∷ [] → new ≡ old ++ decimal n
  more_digits mid new front last = both old mid new (decimal (n / 10)) ((48 + n % 10) ∷ []) front last ∙ ap (λ t. old ++ t) (sym (decimal_step n more fits))

  -- a front of its tenth's, or all of that
  pub front_digits : (new : List ℕ) → LeavesFront old new (decimal (n / 10)) → LeavesFront old new (decimal n)
  front_digits new leaves = rw (decimal_step n more fits) (two_1 old (decimal (n / 10)) ((48 + n % 10) ∷ []) new leaves)

  pub last_digit : (mid new : List ℕ) → mid ≡ old ++ decimal (n / 10) → new ≡ mid → LeavesFront old new (decimal n)
  last_digit mid new front same = rw (decimal_step n more fits) (two_2 old (decimal (n / 10)) ((48 + n % 10) ∷ []) mid new front (none mid new _ same))
