-- Writing bytes.
use Rattle.std.specs.Prelude.{ℕ, ◌<◌, List, length, take, Option, Result, OnOk, OnErr, IsErrOf}
use Rattle.std.specs.Io.KnownBytes.{Appends, Keeps}

-- a writer has what it had before, and a proper front of the bytes: less than the whole of it
abbrev pub WroteFront : Option (List ℕ) → Option (List ℕ) → List ℕ → Type 0
WroteFront before after bytes = (n : ℕ) × (n < length bytes) × Appends before after (take n bytes)

-- In what follows `contents` tells what a writer has.
module _ {X E W : Type 0} where
  -- at Ok the bytes went out, whole
  abbrev pub Writes : Result X E → (W → Option (List ℕ)) → W → W → List ℕ → Type 0
  Writes result contents before after bytes = OnOk result (Appends (contents before) (contents after) bytes)

  -- at Err a front of them did, but not the whole
  abbrev pub WritesFront : Result X E → (W → Option (List ℕ)) → W → W → List ℕ → Type 0
  WritesFront result contents before after bytes = OnErr result (WroteFront (contents before) (contents after) bytes)

  -- at this fault nothing went out
  abbrev pub IsSilentAt : Result X E → E → (W → Option (List ℕ)) → W → W → Type 0
  IsSilentAt result fault contents before after = IsErrOf result fault → Keeps (contents before) (contents after)
