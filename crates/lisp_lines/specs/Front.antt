-- Appending to a text, and making one.
use Rattle.std.specs.Prelude.{◌≡◌, ℕ, List, ◌++◌, Result, String, string_bytes, IfOk, OnOk, OnErr}

-- a text has what it had, and a front of what was to be appended
abbrev pub LeavesFront : List ℕ → List ℕ → List ℕ → Type 0
LeavesFront old new more = (front : List ℕ) × (behind : List ℕ) × (more ≡ front ++ behind) × (new ≡ old ++ front)

-- at Ok the words were appended to the text
abbrev pub Adds : {X E Z : Type 0} → Result X E → String Z → String Z → List ℕ → Type 0
Adds result old new words = OnOk result (string_bytes new ≡ string_bytes old ++ words)

-- at Err a front of them was
abbrev pub AddsFront : {X E Z : Type 0} → Result X E → String Z → String Z → List ℕ → Type 0
AddsFront result old new words = OnErr result (LeavesFront (string_bytes old) (string_bytes new) words)

-- at Ok the text is these words
abbrev pub GivesText : {E Z : Type 0} → Result (String Z) E → List ℕ → Type 0
GivesText result words = IfOk result (λ text. string_bytes text ≡ words)
