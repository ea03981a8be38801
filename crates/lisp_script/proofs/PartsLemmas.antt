-- The two parts of a text, found line by line.
use Rattle.std.proofs.Common.{◌≡◌, ◌≢◌, get_or, take, append-nil, ℕ, ◌+◌, ◌-◌, ◌<◌, Bool, true, false, List, [], ◌∷◌, ◌++◌, length, Option, Some, None, cond, refl, sym, ap, ◌∙◌, append_assoc, length-append, arith}
use Rattle.std.specs.List.{All, slice_split, join_with_byte}
use Rattle.std.specs.Bool.{then_some}
use Rattle.std.specs.Option.{option_map}
use Rattle.std.specs.Str.{IsUtf8, IsCharBoundary}
use Rattle.std.proofs.lemmas.Bool.{ne_eqb}
use Rattle.std.proofs.Math.Seq.{take-append_seam}
use Rattle.std.proofs.lemmas.List.{get_or_default}
use Rattle.std.proofs.lemmas.List.Splits.{slice_split_at, slice_split_none, join_with_byte-slice_split}
use Rattle.std.specs.Prelude.{◌==◌}
use Rattle.std.proofs.lemmas.Str.{IsCharBoundary-at_seam}
use Rattle.lisp_script.specs.Parts.{IsEndOf, is_mark, behind_line, parts_of, parted}

-- where the rest begins
pub before_rest : (text rest : List ℕ) → IsEndOf text rest → IsUtf8 rest → IsCharBoundary text (length text - length rest)
before_rest text rest ends utf8 =
    let size : length text ≡ length ends.0 + length rest = ap length ends.1 ∙ length-append ends.0 rest in
    let place : length text - length rest ≡ length ends.0 = omega arith in
    rw place (IsCharBoundary-at_seam text ends.0 rest ends.1 utf8)

-- the parts of the rest, behind a front
abbrev pub behind : List ℕ → List ℕ × List ℕ → List ℕ × List ℕ
behind front parts = (front ++ parts.0, parts.1)

-- a text has the parts of its rest, behind the front, which has no mark
pub record GoesOn (text rest : List ℕ) : Type 0 where
  pub front : List ℕ
  pub parts : text ≡ front ++ rest
  pub parted : parted text ≡ option_map (behind front) (parted rest)

-- a line feed ends a line
abbrev is_feed : ℕ → Bool
is_feed b = b == 10

-- no byte of a line is a line feed
abbrev HasNoFeed : List ℕ → Type 0
HasNoFeed line = (i : ℕ) → i < length line → get_or line i 0 ≢ 10

no_feeds : (line : List ℕ) → HasNoFeed line → All (λ b. is_feed b ≡ false) line
no_feeds line no_feed i d lt = rw (get_or_default line i d 0 lt) (ne_eqb (get_or line i 0) 10 (no_feed i lt))

-- the lines of a text are its first line and those of the others
lines_from : (rest line more : List ℕ) → rest ≡ line ++ 10 ∷ more → HasNoFeed line → slice_split is_feed rest ≡ line ∷ slice_split is_feed more
lines_from rest line more parts no_feed = rw parts (slice_split_at is_feed line 10 more (no_feeds line no_feed) refl)

-- what follows a front tells it
same_front : (front before rest text : List ℕ) → text ≡ front ++ rest → text ≡ before ++ rest → front ≡ before
same_front front before rest text one other =
    let size : length front + length rest ≡ length before + length rest = sym (length-append front rest) ∙ ap length (sym one ∙ other) ∙ length-append before rest in
    let same : length front ≡ length before = omega (arith, size) in
    sym (take-append_seam front rest) ∙ ap (λ t. take (length front) t) (sym one ∙ other) ∙ rw same (take-append_seam before rest)

-- a line and its feed go to the front
feed_after : (front line more : List ℕ) → front ++ (line ++ 10 ∷ more) ≡ (front ++ (line ++ 10 ∷ [])) ++ more
feed_after front line more = ap (λ t. front ++ t) (sym (append_assoc line (10 ∷ []) more)) ∙ sym (append_assoc front (line ++ 10 ∷ []) more)

-- behind one front and then another
behind_twice : (front line : List ℕ) (found : Option (List ℕ × List ℕ)) → option_map (behind front) (option_map (behind_line line) found) ≡ option_map (behind (front ++ (line ++ 10 ∷ []))) found
behind_twice front line None = refl
behind_twice front line (Some parts) = ap (λ t. Some (t, parts.1)) (feed_after front line parts.0)

-- the first line of the rest is the mark
pub mark_found : (text rest line more before : List ℕ) → GoesOn text rest → rest ≡ line ++ 10 ∷ more → HasNoFeed line → is_mark line ≡ true → text ≡ before ++ rest → Some (before, more) ≡ parted text
unfolding parted parts_of
mark_found text rest line more before on parts no_feed mark is_before =
    let here : parted rest ≡ Some ([], join_with_byte 10 (slice_split is_feed more)) = ap parts_of (lines_from rest line more parts no_feed) ∙ rw mark refl in
    let joined : parted rest ≡ Some ([], more) = here ∙ ap (λ behind. Some ([], behind)) (join_with_byte-slice_split 10 more) in
    let front : on.front ++ [] ≡ before = append-nil on.front ∙ same_front on.front before rest text on.parts is_before in
    sym (on.parted ∙ ap (option_map (behind on.front)) joined ∙ ap (λ front. Some (front, more)) front)

-- it is another line
pub line_passed : (text rest line more : List ℕ) → GoesOn text rest → rest ≡ line ++ 10 ∷ more → HasNoFeed line → is_mark line ≡ false → GoesOn text more
unfolding parted parts_of
line_passed text rest line more on parts no_feed mark =
    let here : parted rest ≡ option_map (behind_line line) (parted more) = ap parts_of (lines_from rest line more parts no_feed) ∙ rw mark refl in
    record {
      front = on.front ++ (line ++ 10 ∷ []);
      parts = on.parts ∙ ap (λ t. on.front ++ t) parts ∙ feed_after on.front line more;
      parted = on.parted ∙ ap (option_map (behind on.front)) here ∙ behind_twice on.front line (parted more);
    }

-- the last line, which no line feed ends
pub last_line : (text rest before : List ℕ) → GoesOn text rest → HasNoFeed rest → text ≡ before ++ rest → parted text ≡ cond (is_mark rest) (Some (before, [])) None
unfolding parted parts_of
last_line text rest before on no_feed before_is =
    let here : parted rest ≡ cond (is_mark rest) (Some ([], [])) None = ap parts_of (slice_split_none is_feed rest (no_feeds rest no_feed)) in
    let front : on.front ++ [] ≡ before = append-nil on.front ∙ same_front on.front before rest text on.parts before_is in
    on.parted ∙ ap (option_map (behind on.front)) here ∙ elim (is_mark rest) as (λ (m : Bool). option_map (behind on.front) (cond m (Some ([], [])) None) ≡ cond m (Some (before, [])) None) [ true ↦ ap (λ front. Some (front, [])) front | false ↦ refl ]

-- a value that is told only where a test holds
pub told_where : {X Y : Type 0} (f : X → Y) (test : Bool) (x : X) → option_map f (then_some test x) ≡ cond test (Some (f x)) None
told_where f true x = refl
told_where f false x = refl
