-- When an unsolicited Map-Notify (notice) is due again, by the times at which it was sent (RFC 9301 section 5.7).
use Rattle.std.specs.Prelude.{◌≡◌, ℕ, ◌+◌, ◌*◌, nat_le, Bool, false, List, [], ◌∷◌, length, slice_get, Option, Some, None}
use Rattle.std.specs.Option.{option_map}
use Rattle.lisp_records.specs.Moment.{second}

-- how long after a notice's first, second .. sixth sending the next one is due
abbrev pub gaps : List ℕ
gaps = 3 * second ∷ 3 * second ∷ 3 * second ∷ 6 * second ∷ 12 * second ∷ 24 * second ∷ []

-- when a notice is due, by the times at which it was sent, the last one first; after the seventh never
unfoldable pub due_after : List ℕ → Option ℕ
due_after [] = None
due_after (last ∷ before) = option_map (λ gap. last + gap) (slice_get gaps (length before))

-- it was sent first at that time, and then again each time when it was due
unfoldable pub IsPrompt : ℕ → List ℕ → Type 0
IsPrompt first [] = ⊥
IsPrompt first (last ∷ []) = last ≡ first
IsPrompt first (last ∷ before) = (due_after before ≡ Some last) × IsPrompt first before

-- the seconds from a notice's first sending to its first, second .. seventh, if all are made when due
abbrev pub elapsed : List ℕ
elapsed = 0 ∷ 3 ∷ 6 ∷ 9 ∷ 15 ∷ 27 ∷ 51 ∷ []

-- the sending that follows k others comes so long after the first, and there is no eighth
abbrev pub PromptNotices : Type 0
PromptNotices = (first last : ℕ) (before : List ℕ) → IsPrompt first (last ∷ before)
    → (s : ℕ) × (slice_get elapsed (length before) ≡ Some s) × (last ≡ first + s * second)

-- what is due at a moment, or before
abbrev pub has_come : ℕ → Option ℕ → Bool
has_come now None = false
has_come now (Some due) = nat_le due now
