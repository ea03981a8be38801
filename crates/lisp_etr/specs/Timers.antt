-- Timers: when a router's Map-Registers to one Map-Server are due, in ms (RFC 9301 section 8.2).
use Rattle.std.specs.Prelude.{◌≡◌, ℕ, ◌+◌, ◌*◌, ◌-◌, ◌^◌, ◌≤◌, min, List, [], ◌∷◌, length}
use Rattle.lisp_records.specs.Moment.{second, minute}

-- after a send that follows k others of its round: the gap doubles from a second up to a minute
abbrev pub gap : ℕ → ℕ
gap k = min (2 ^ k * second) minute

-- when the next send of a round is due, by the times of its sends, the last one first: at its
-- beginning the first, and a gap after the last each other
unfoldable pub due_after : ℕ → List ℕ → ℕ
due_after begin [] = begin
due_after begin (last ∷ before) = last + gap (length before)

-- each send of the round was made when it was due
unfoldable pub IsPrompt : ℕ → List ℕ → Type 0
IsPrompt begin [] = Unit {0}
IsPrompt begin (last ∷ before) = (last ≡ due_after begin before) × IsPrompt begin before

-- the seconds from a round's beginning to the send that follows k others, if all are made when due
pub record IsAfter (k elapsed : ℕ) : Type 0 where
  pub early : k ≤ 6 → elapsed ≡ 2 ^ k - 1
  pub late : 6 ≤ k → elapsed ≡ 63 + 60 * (k - 6)

-- a send that follows k others comes so long after the beginning
abbrev pub PromptSends : Type 0
PromptSends = (begin last : ℕ) (before : List ℕ) → IsPrompt begin (last ∷ before)
    → (elapsed : ℕ) × (last ≡ begin + elapsed * second) × IsAfter (length before) elapsed
