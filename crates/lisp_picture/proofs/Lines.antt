-- The first line of a text.
use Rattle.std.proofs.Common.{◌≡◌, ◌≢◌, get_or, ℕ, ◌<◌, false, List, ◌∷◌, ◌++◌, length, refl, ap}
use Rattle.std.specs.Prelude.{◌==◌}
use Rattle.std.specs.List.{All}
use Rattle.std.proofs.lemmas.Bool.{ne_eqb}
use Rattle.std.proofs.lemmas.List.{get_or_default}
use Rattle.std.proofs.lemmas.List.Splits.{slice_split_at, slice_split_none}
use Rattle.lisp_picture.specs.Picture.{first_of, first_line}

-- no byte of a line is a line feed
abbrev HasNoFeed : List ℕ → Type 0
HasNoFeed line = (i : ℕ) → i < length line → get_or line i 0 ≢ 10

no_feeds : (line : List ℕ) → HasNoFeed line → All (λ b. (b == 10) ≡ false) line
no_feeds line no_feed i d lt = rw (get_or_default line i d 0 lt) (ne_eqb (get_or line i 0) 10 (no_feed i lt))

pub first_before : (text line behind : List ℕ) → text ≡ line ++ 10 ∷ behind → HasNoFeed line → first_line text ≡ line
first_before text line behind parts no_feed = rw parts (ap first_of (slice_split_at (λ b. b == 10) line 10 behind (no_feeds line no_feed) refl))

pub first_alone : (text : List ℕ) → HasNoFeed text → first_line text ≡ text
first_alone text no_feed = ap first_of (slice_split_none (λ b. b == 10) text (no_feeds text no_feed))
