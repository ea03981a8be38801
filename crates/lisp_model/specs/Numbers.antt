-- The numbers of the parts of a database, from 0 on.
use Rattle.std.specs.Prelude.{ℕ, zero, suc, List, [], ◌∷◌}
use Rattle.lisp_records.specs.Parts.{most_parts}

-- so many numbers, from a first one on
abbrev pub numbers_from : ℕ → ℕ → List ℕ
numbers_from first zero = []
numbers_from first (suc n) = first ∷ numbers_from (suc first) n

-- the numbers below one
unfoldable pub numbers_below : ℕ → List ℕ
numbers_below n = numbers_from zero n

-- the numbers of all parts that a database may have
abbrev pub part_numbers : List ℕ
part_numbers = numbers_below most_parts
