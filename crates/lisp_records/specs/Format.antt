-- What holds of a format, given by which bytes spell which value.
use Rattle.std.specs.Prelude.{◌≡◌, ℕ, List, [], ◌++◌}
use Rattle.lisp_records.specs.Spelling.{IsBytes}

-- bytes spell at most one value
abbrev pub SpellsAtMostOne : {X : Type 0} → (List ℕ → X → Type 0) → Type 0
SpellsAtMostOne {X} Spells = (bytes : List ℕ) (x y : X) → Spells bytes x → Spells bytes y → x ≡ y

-- no spelling begins another
abbrev pub NoSpellingBeginsAnother : {X : Type 0} → (List ℕ → X → Type 0) → Type 0
NoSpellingBeginsAnother {X} Spells = (bytes more : List ℕ) (x y : X) → Spells bytes x → Spells (bytes ++ more) y → more ≡ []

-- each value that bytes spell has a property
abbrev pub SpellsOnly : {X : Type 0} → (X → Type 0) → (List ℕ → X → Type 0) → Type 0
SpellsOnly {X} P Spells = (bytes : List ℕ) (x : X) → IsBytes bytes → Spells bytes x → P x
