-- What a writer has after a text was printed.
use Rattle.std.specs.Prelude.{ℕ, List, take, Option, Result, OnErr}
use Rattle.std.specs.Io.KnownBytes.{Appends}

-- a writer has what it had before, and a front of the bytes: none or all of them perhaps
abbrev pub WroteSome : Option (List ℕ) → Option (List ℕ) → List ℕ → Type 0
WroteSome before after bytes = (n : ℕ) × Appends before after (take n bytes)

-- In what follows `contents` tells what a writer has.
module _ {X E W : Type 0} where
  -- at Err a front of the bytes went out, none or all of them perhaps
  abbrev pub WritesSome : Result X E → (W → Option (List ℕ)) → W → W → List ℕ → Type 0
  WritesSome result contents before after bytes = OnErr result (WroteSome (contents before) (contents after) bytes)
