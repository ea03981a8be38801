-- The numbers of records: what is read of their texts, and what text was read.
use Rattle.std.proofs.Common.{◌≡◌, ℕ, ◌^◌, ◌<◌, ◌≤◌, true, false, ◌&&◌, eqb, ltb, leb, List, [], ◌∷◌, ◌++◌, length, Some, refl, ap, subst, ◌∙◌, arith}
use Rattle.std.specs.Char.{is_ascii_digit}
use Rattle.std.specs.Int.{is_in_range}
use Rattle.std.specs.List.{AllByRecursion, AllZip, list_all}
use Rattle.std.specs.Str.Parse.{digits_value}
use Rattle.std.proofs.lemmas.Bool.{lt-ltb, ltb-true, leb-true, ne_eqb, and_parts}
use Rattle.std.proofs.lemmas.List.{append-nil}
use Rattle.std.proofs.lemmas.Option.{cond_some, same_Some}
use Rattle.lisp_records.specs.declared.address.Addr.{Addr}
use Rattle.lisp_texts.specs.Number.{is_number, number_of}
use Rattle.lisp_texts.specs.Text.{IsByteText, IsNumbersText, numbers_of_locator}
use Rattle.lisp_texts.specs.Reading.{quarters_of, if_so, number_below, numbers_of, located}
use Rattle.lisp_texts.proofs.Options.{bind_some}
use Rattle.lisp_texts.proofs.Cut.{IsFree, quarters-at, quarters_parts, free-append}
use Rattle.lisp_texts.proofs.WrittenGroups.{marked}

-- ---- one number

pub below_takes : (limit : ℕ) (text : List ℕ) (n : ℕ) → number_below limit text ≡ Some n → (number_of text ≡ Some n) × (n < limit)
unfolding number_below
below_takes limit text n e =
    let x = bind_some (number_of text) (λ k. if_so (ltb k limit) k) n e in
    let some = cond_some (ltb x.0 limit) x.0 n x.2 in
    (x.1 ∙ ap (λ (k : ℕ). Some k) some.1, omega (arith, ltb-true _ _ some.0, some.1))

pub below_again : (limit : ℕ) (text : List ℕ) (n : ℕ) → number_of text ≡ Some n → n < limit → number_below limit text ≡ Some n
unfolding number_below
below_again limit text n number lt = rw (number, lt-ltb n limit lt) refl

in_range : (low high c : ℕ) → is_in_range low high c ≡ true → (low ≤ c) × (c ≤ high)
in_range low high c test = let parts = and_parts (leb low c) (leb c high) test in (leb-true _ _ parts.0, leb-true _ _ parts.1)

free-all : (mark : ℕ) (text : List ℕ) → mark < 48 → list_all is_ascii_digit text ≡ true → IsFree mark text
free-all mark [] low all = tt
free-all mark (c ∷ cs) low all =
    let parts = and_parts (is_ascii_digit c) (list_all is_ascii_digit cs) all in
    let range = in_range 48 57 c parts.0 in
    (ne_eqb c mark (λ same. omega (arith, range.0, same)), free-all mark cs low parts.1)

-- no mark before the digits stands in a number
pub free-number : (mark : ℕ) (text : List ℕ) (n : ℕ) → mark < 48 → number_of text ≡ Some n → IsFree mark text
free-number mark text n low number =
    let some = cond_some (is_number text && ltb (digits_value 10 text) (2 ^ 64)) (digits_value 10 text) n number in
    let tests = and_parts (is_number text) (ltb (digits_value 10 text) (2 ^ 64)) some.0 in
    let all = and_parts (leb 1 (length text) && leb (length text) 20) (list_all is_ascii_digit text) tests.0 in
    free-all mark text low all.1

-- ---- four numbers

-- no mark stands in pieces behind another one
pub free-marked : (mark between : ℕ) (pieces : List (List ℕ)) → eqb between mark ≡ false → AllByRecursion (IsFree mark) pieces → IsFree mark (marked between pieces)
free-marked mark between [] other free = tt
free-marked mark between (x ∷ pieces) other free = (other, free-append mark x (marked between pieces) free.0 (free-marked mark between pieces other free.1))

free-bytes : (mark : ℕ) (pieces : List (List ℕ)) (ns : List ℕ) → mark < 48 → AllZip IsByteText pieces ns → AllByRecursion (IsFree mark) pieces
free-bytes mark [] ns low each = tt
free-bytes mark (p ∷ pieces) [] low each = absurd each
free-bytes mark (p ∷ pieces) (n ∷ ns) low each = (free-number mark p n low each.0.0, free-bytes mark pieces ns low each.1)

pub free-numbers : (mark : ℕ) (text ns : List ℕ) → mark < 47 → IsNumbersText text ns → IsFree mark text
free-numbers mark text ns low s = rw s.parts (free-marked mark 47 s.pieces (ne_eqb 47 mark (λ same. omega (arith, same))) (free-bytes mark s.pieces ns (omega arith) s.each))

numbers_made : (text ta tb tc td : List ℕ) (a b c d : ℕ) → text ≡ ta ++ 47 ∷ (tb ++ 47 ∷ (tc ++ 47 ∷ td))
    → IsByteText ta a → IsByteText tb b → IsByteText tc c → IsByteText td d → IsNumbersText (47 ∷ text) (a ∷ b ∷ c ∷ d ∷ [])
numbers_made text ta tb tc td a b c d whole na nb nc nd = record {
  pieces = ta ∷ tb ∷ tc ∷ td ∷ [];
  parts = rw (whole, append-nil td) refl;
  each = (na, (nb, (nc, (nd, tt))));
}

-- what is read behind a slash is four numbers
pub numbers_take : (addr : Addr) (text ns : List ℕ) → numbers_of text ≡ Some ns → IsNumbersText (47 ∷ text) (numbers_of_locator (located addr ns))
unfolding numbers_of
numbers_take addr text ns e =
    let q = bind_some (quarters_of 47 text) _ ns e in
    let a = bind_some (number_below 256 q.0.0) _ ns q.2 in
    let b = bind_some (number_below 256 q.0.1) _ ns a.2 in
    let c = bind_some (number_below 256 q.0.2) _ ns b.2 in
    let d = bind_some (number_below 256 q.0.3) _ ns c.2 in
    let value : a.0 ∷ b.0 ∷ c.0 ∷ d.0 ∷ [] ≡ ns = same_Some _ ns d.2 in
    subst (λ (xs : List ℕ). IsNumbersText (47 ∷ text) (numbers_of_locator (located addr xs))) value (numbers_made text q.0.0 q.0.1 q.0.2 q.0.3 a.0 b.0 c.0 d.0 (quarters_parts 47 text q.0 q.1)
    (below_takes 256 q.0.0 a.0 a.1) (below_takes 256 q.0.1 b.0 b.1) (below_takes 256 q.0.2 c.0 c.1) (below_takes 256 q.0.3 d.0 d.1))

pieces_again : (p q r s : List ℕ) (a b c d : ℕ) → IsByteText p a → IsByteText q b → IsByteText r c → IsByteText s d → numbers_of (p ++ 47 ∷ (q ++ 47 ∷ (r ++ 47 ∷ s))) ≡ Some (a ∷ b ∷ c ∷ d ∷ [])
unfolding numbers_of
pieces_again p q r s a b c d na nb nc nd =
    rw (
      quarters-at 47 p q r s (free-number 47 p a (omega arith) na.0) (free-number 47 q b (omega arith) nb.0) (free-number 47 r c (omega arith) nc.0),
      below_again 256 p a na.0 na.1,
      below_again 256 q b nb.0 nb.1,
      below_again 256 r c nc.0 nc.1,
      below_again 256 s d nd.0 nd.1,
    ) refl

-- a text of four numbers begins with a slash, and behind it they are read
pub record BehindSlash (text ns : List ℕ) : Type 0 where
  pub rest : List ℕ
  pub parts : text ≡ 47 ∷ rest
  pub read : numbers_of rest ≡ Some ns

pub numbers_again : (text : List ℕ) (pieces : List (List ℕ)) (a b c d : ℕ) → text ≡ marked 47 pieces → AllZip IsByteText pieces (a ∷ b ∷ c ∷ d ∷ []) → BehindSlash text (a ∷ b ∷ c ∷ d ∷ [])
numbers_again text [] a b c d parts each = absurd each
numbers_again text (p ∷ []) a b c d parts each = absurd each.1
numbers_again text (p ∷ q ∷ []) a b c d parts each = absurd each.1.1
numbers_again text (p ∷ q ∷ r ∷ []) a b c d parts each = absurd each.1.1.1
numbers_again text (p ∷ q ∷ r ∷ s ∷ t ∷ pieces) a b c d parts each = absurd each.1.1.1.1
numbers_again text (p ∷ q ∷ r ∷ s ∷ []) a b c d parts each = record {
  rest = p ++ 47 ∷ (q ++ 47 ∷ (r ++ 47 ∷ s));
  parts = parts ∙ rw (append-nil s) refl;
  read = pieces_again p q r s a b c d each.0 each.1.0 each.1.1.0 each.1.1.1.0;
}
