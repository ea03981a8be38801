-- Reading an input to its end.
use Rattle.std.specs.Prelude.{◌≡◌, ℕ, ◌<◌, List, length, Option, Result, Vec, IfOk, IfSome}

-- the most bytes of an input
abbrev pub most_bytes : ℕ
most_bytes = 1048576

-- In what follows an input is what is left of a reader, where that is known.

-- it has more bytes
abbrev pub IsTooLong : Option (List ℕ) → Type 0
IsTooLong input = IfSome input (λ bytes. most_bytes < length bytes)

-- at Ok all of its bytes were read
abbrev pub ReadsAll : {E Z : Type 0} → Result (Vec ℕ Z) E → Option (List ℕ) → Type 0
ReadsAll result input = IfOk result (λ bytes. IfSome input (λ input. bytes.items ≡ input))
