-- What is appended to vectors and texts.
use Rattle.std.specs.Prelude.{◌≡◌, ℕ, List, ◌++◌, Option, Result, IfSome, is_ok, if◌then◌else◌, Vec, String, string_bytes}
use Rattle.std.specs.Fmt.{AppendsText}

-- where a call succeeds, these items stand behind those of a vector; where it fails, none do
abbrev pub VecAppends : {T E X Z : Type 0} → Result T E → Vec X Z → Vec X Z → List X → Type 0
VecAppends result old new items = new.items ≡ (if is_ok result then old.items ++ items else old.items)

-- where a call succeeds, these bytes stand behind those of a text; where it fails, none do
abbrev pub StringAppends : {T E Z : Type 0} → Result T E → String Z → String Z → List ℕ → Type 0
StringAppends result old new bytes = string_bytes new ≡ (if is_ok result then string_bytes old ++ bytes else string_bytes old)

-- these bytes stand behind those that a text had
abbrev pub StringGrowsBy : {Z : Type 0} → String Z → String Z → List ℕ → Type 0
StringGrowsBy old new bytes = string_bytes new ≡ string_bytes old ++ bytes

-- what a value prints stands behind what a text had; nothing is said where std doesn't say what it prints
abbrev pub StringGrowsByOutput : {Z : Type 0} → String Z → String Z → Option (List ℕ) → Type 0
StringGrowsByOutput old new output = AppendsText (string_bytes old) (string_bytes new) output

-- a text is what a value prints; nothing is said where std doesn't say what it prints
abbrev pub StringIsOutput : {Z : Type 0} → String Z → Option (List ℕ) → Type 0
StringIsOutput text output = IfSome output (λ bytes. string_bytes text ≡ bytes)
