-- The type of a control message, in the first half of its first byte (RFC 9301 section 5.1).
use Rattle.std.specs.Prelude.{ℕ, ◌/◌, ◌==◌, ◌||◌, Bool, false, List, [], ◌∷◌}

-- a Map-Request, 1, or an Encapsulated Control Message, 8, which may have one inside it
abbrev pub is_request : List ℕ → Bool
is_request [] = false
is_request (first ∷ _) = (first / 16 == 1) || (first / 16 == 8)
