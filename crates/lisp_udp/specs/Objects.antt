-- The lines of a node as JSON objects, each with the time at which it was made.
use Rattle.std.specs.Prelude.{◌≡◌, ℕ, ◌+◌, ◌==◌, Bool, List, [], ◌∷◌, ◌++◌, length, take, drop, Option, Some}
use Rattle.std.specs.List.{position}
use Rattle.std.specs.Option.{option_map}
use Rattle.lisp_json.specs.Timed.{IsTimedObjectOf}

abbrev pub is_line_feed : ℕ → Bool
is_line_feed byte = byte == 10

-- a line and a line feed behind it are the first bytes
abbrev pub IsFirstLine : List ℕ → List ℕ → Type 0
IsFirstLine line bytes = (position is_line_feed bytes ≡ Some (length line)) × (line ≡ take (length line) bytes)

-- the object of a line at some time, and a line feed
abbrev pub IsWrittenFor : List ℕ → List ℕ → Type 0
IsWrittenFor line text = (ms : ℕ) × (object : List ℕ) × IsTimedObjectOf ms line object × (text ≡ object ++ 10 ∷ [])

-- those of these lines, which are the first ones of the bytes, before what is left of them
unfoldable pub AreWrittenFor : List (List ℕ) → List ℕ → List ℕ → List ℕ → Type 0
AreWrittenFor [] bytes left text = (left ≡ bytes) × (text ≡ [])
AreWrittenFor (line ∷ lines) bytes left text =
    (first : List ℕ) × (others : List ℕ) × IsFirstLine line bytes × IsWrittenFor line first
    × AreWrittenFor lines (drop (length line + 1) bytes) left others × (text ≡ first ++ others)

-- a sink took a front of what waits. `before` and `after` are what it took in all, where that is known
pub record TakesFront (before after : Option (List ℕ)) (old new : List ℕ) : Type 0 where
  pub front : List ℕ
  pub owed : front ++ new ≡ old
  pub taken : after ≡ option_map (λ taken. taken ++ front) before

-- the first lines of the bytes were taken; and of what waited and what is written for these, a sink took a front
pub record WritesObjects (before after : Option (List ℕ)) (old new bytes left : List ℕ) : Type 0 where
  pub lines : List (List ℕ)
  pub texts : List ℕ
  pub written : AreWrittenFor lines bytes left texts
  pub poured : TakesFront before after (old ++ texts) new
