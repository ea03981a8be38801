-- What is closed is whole, and what lacks its end isn't.
use Rattle.std.proofs.Common.{◌≡◌, ◌≢◌, ℕ, ◌+◌, ◌-◌, ◌≤◌, ◌<◌, Bor, Bool, zero, suc, List, [], ◌∷◌, ◌++◌, length, Option, Some, None, refl, sym, ap, ◌∙◌, arith, length-append}
use Rattle.std.specs.Prelude.{◌==◌, take, drop, get_or, if◌then◌else◌}
use Rattle.std.specs.List.{ends_with}
use Rattle.std.specs.Option.{MatchOption, option_map}
use Rattle.std.proofs.Math.Nat.{lt_of_not-le}
use Rattle.std.proofs.lemmas.Bool.{false_from_ne_true}
use Rattle.std.proofs.lemmas.Bool.Decides.{Decides-eqb}
use Rattle.std.proofs.lemmas.Slice.Eq.{ends_is}
use Rattle.std.proofs.lemmas.List.{append_assoc, append_cancel_right, take_at, take-append-le, take-append-drop, get_or-append_right, get_or_append_left}
use Rattle.lisp_files.specs.Closing.{closing, closed, ending, whole, ClosedIsWhole, HasNoClosing, CutIsNotWhole}

-- what is read of an answer, by whether it ends so
abbrev read : List ℕ → Bool → Option (List ℕ)
read answer ends = if ends then Some (take (length answer - length ending) answer) else None

-- an answer that ends with the closing line, after a line
pub is_whole : (answer lines : List ℕ) → answer ≡ lines ++ ending → whole answer ≡ Some lines
is_whole answer lines is =
    let ends = (ends_is Decides-eqb answer ending _ refl).1 lines is in
    let taken = ap (take (length answer - 5)) is ∙ take_at lines ending (length answer - 5) (omega (arith, ap length is, length-append lines ending)) in
    ap (read answer) ends ∙ ap Some taken

-- and one that doesn't
pub is_cut : (answer : List ℕ) → ((lines : List ℕ) → answer ≢ lines ++ ending) → whole answer ≡ None
is_cut answer cut = ap (read answer) (false_from_ne_true (ends_with (λ a b. a == b) answer ending) (λ so. cut _ ((ends_is Decides-eqb answer ending _ refl).0 so)))

-- what stands before the closing line, where that is stripped, and before the line feed there
pub strips : (answer text : List ℕ) (lines : Option (Bor (List ℕ))) → answer ≡ text ++ closing → MatchOption lines ((front : List ℕ) → text ≢ front ++ 10 ∷ []) (λ front. text ≡ front.now ++ 10 ∷ []) → option_map (λ lines. lines.now) lines ≡ whole answer
strips answer text None is cut = sym (is_cut answer (λ lines ends. cut lines (append_cancel_right text (lines ++ 10 ∷ []) closing (sym is ∙ ends ∙ sym (append_assoc lines (10 ∷ []) closing)))))
strips answer text (Some lines) is before = sym (is_whole answer lines.now (is ∙ ap closed before ∙ append_assoc lines.now (10 ∷ []) closing))

pub closed_is_whole : ClosedIsWhole
closed_is_whole lines = is_whole (closed (lines ++ 10 ∷ [])) lines (append_assoc lines (10 ∷ []) closing)

-- the closing line has no line feed but at its end
no_feed : (k : ℕ) → get_or closing k 0 ≡ 10 → k < 3 → ⊥
no_feed zero is early = absurd (omega (arith, is))
no_feed (suc zero) is early = absurd (omega (arith, is))
no_feed (suc (suc zero)) is early = absurd (omega (arith, is))
no_feed (suc (suc (suc k))) is early = absurd (omega (arith, early))

some_length : (rest : List ℕ) → rest ≢ [] → 0 < length rest
some_length [] some = absurd (some refl)
some_length (b ∷ bs) some = omega arith

module _ (text front rest lines : List ℕ) (free : HasNoClosing text) (is : closed text ≡ front ++ rest) (some : rest ≢ []) (ends : front ≡ lines ++ ending) where
  lengths : length text + 4 ≡ length front + length rest
  lengths = sym (length-append text closing) ∙ ap length is ∙ length-append front rest

  long : length front ≡ length lines + 5
  long = ap length ends ∙ length-append lines ending

  last_place : length lines + 4 - length lines ≡ 4
  last_place = omega arith

  -- the last byte
  last : get_or (closed text) (length lines + 4) 0 ≡ 10
  last = ap (λ l. get_or l (length lines + 4) 0) is ∙ get_or_append_left front rest 0 (length lines + 4) (omega (arith, long)) ∙ ap (λ l. get_or l (length lines + 4) 0) ends
      ∙ get_or-append_right lines ending (length lines) (length lines + 4) 0 refl (omega arith) ∙ ap (λ k. get_or ending k 0) last_place

  -- the cut is within the closing line
  late : length text < length front → ⊥
  late past =
      let at = get_or-append_right text closing (length text) (length lines + 4) 0 refl (omega (arith, long, past)) in
      no_feed (length lines + 4 - length text) (sym at ∙ last) (omega (arith, lengths, long, some_length rest some))

  -- or before it
  early : length front ≤ length text → ⊥
  early within =
      let front_is = sym (take_at front rest (length front) refl) ∙ ap (take (length front)) (sym is) ∙ take-append-le (length front) text closing within in
      free lines (drop (length front) text) (sym (take-append-drop (length front) text) ∙ ap (λ l. l ++ drop (length front) text) (sym front_is ∙ ends))

  never : ⊥
  never = late (lt_of_not-le early)

pub cut_is_not_whole : CutIsNotWhole
cut_is_not_whole text front rest free is some = is_cut front (λ lines ends. never text front rest lines free is some ends)
