-- The two parts of an input: a configuration, a line `---`, a script.
use Rattle.std.specs.Prelude.{◌≡◌, ℕ, ◌==◌, Bool, nat_eq, true, List, [], ◌∷◌, ◌++◌, codes, Option, Some, None, if◌then◌else◌}
use Rattle.std.specs.Cmp.Lexicographic.{pointwise}
use Rattle.std.specs.List.{join_with_byte, slice_split}
use Rattle.std.specs.Option.{option_map}

-- the line between the parts, which may end in a carriage return (13)
abbrev pub is_mark : List ℕ → Bool
is_mark line = if pointwise nat_eq line (codes "---") then true else pointwise nat_eq line (codes "---" ++ 13 ∷ [])

-- a line, with its line feed (10), comes before the parts of the lines behind it
abbrev pub behind_line : List ℕ → List ℕ × List ℕ → List ℕ × List ℕ
behind_line line parts = (line ++ 10 ∷ parts.0, parts.1)

-- the lines before the first such line, each with its line feed; and what is behind that line
unfoldable pub parts_of : List (List ℕ) → Option (List ℕ × List ℕ)
parts_of [] = None
parts_of (line ∷ lines) = if is_mark line then Some ([], join_with_byte 10 lines) else option_map (behind_line line) (parts_of lines)

unfoldable pub parted : List ℕ → Option (List ℕ × List ℕ)
parted text = parts_of (slice_split (λ b. b == 10) text)

-- the rest of a text, behind a front
abbrev pub IsEndOf : List ℕ → List ℕ → Type 0
IsEndOf text rest = (front : List ℕ) × (text ≡ front ++ rest)
