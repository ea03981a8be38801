-- Items one after the other.
use Rattle.std.specs.Prelude.{◌≡◌, ℕ, List, [], ◌∷◌, ◌++◌}

-- bytes spell items, one after the other
abbrev pub SpellsEach : {X : Type 0} → (List ℕ → X → Type 0) → List ℕ → List X → Type 0
SpellsEach Spells bytes [] = bytes ≡ []
SpellsEach Spells bytes (x ∷ xs) = (first : List ℕ) × (others : List ℕ) × (bytes ≡ first ++ others) × Spells first x × SpellsEach Spells others xs
