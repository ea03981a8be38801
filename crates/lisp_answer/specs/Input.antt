-- Reading the first line of an input, as far as it is known what was left of that.
use Rattle.std.specs.Prelude.{◌≡◌, ℕ, ◌<◌, ◌≤◌, List, length, Option, Result, Vec, IfOk, IfSome, if◌then◌else◌}
use Rattle.std.specs.Io.BufRead.{take_through, ends_with_byte, strip_last}
use Rattle.std.specs.Io.KnownBytes.{Consumes}

-- the most bytes of a line, its line feed among them
abbrev pub most_bytes : ℕ
most_bytes = 1048576

-- a line is the first of an input: what is before its first line feed, and that
abbrev pub IsFirstLine : Option (List ℕ) → List ℕ → Type 0
IsFirstLine input line = IfSome input (λ bytes. line ≡ take_through 10 bytes)

-- the first line of an input is within the bound, or not
abbrev pub HasShortLine : Option (List ℕ) → Type 0
HasShortLine input = IfSome input (λ bytes. length (take_through 10 bytes) ≤ most_bytes)

abbrev pub HasLongLine : Option (List ℕ) → Type 0
HasLongLine input = IfSome input (λ bytes. most_bytes < length (take_through 10 bytes))

-- of an input, the first line was taken and no more
abbrev pub TakesLine : Option (List ℕ) → Option (List ℕ) → Type 0
TakesLine old new = IfSome old (λ bytes. Consumes old new (take_through 10 bytes))

-- of an input, the bytes that are given were taken and no more
abbrev pub TakesResult : {E Z : Type 0} → Result (Vec ℕ Z) E → Option (List ℕ) → Option (List ℕ) → Type 0
TakesResult result old new = IfOk result (λ line. Consumes old new line.items)

-- a line without the line feed at its end, and the carriage return before that
abbrev pub content : List ℕ → List ℕ
content line = if ends_with_byte 10 line then strip_last 13 (strip_last 10 line) else strip_last 10 line
