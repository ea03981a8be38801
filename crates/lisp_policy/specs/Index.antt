-- Where the elements of a list stand, by their numbers.
use Rattle.std.specs.Prelude.{◌≡◌, ◌==◌, ℕ, List, Bool, Option, Some, None, position, if◌then◌else◌}
use Rattle.std.specs.List.{find}
use Rattle.std.specs.Option.{option_map, option_or}
use Rattle.lisp_policy.specs.declared.index.Entry.{Entry}

-- the place that is kept for a number, where there is one
abbrev pub is_for : ℕ → Entry → Bool
is_for number e = e.number == number

unfoldable pub place_in : List Entry → ℕ → Option ℕ
place_in entries number = option_map (λ e. e.place) (find (is_for number) entries)

-- a number's place was added, unless it has one
abbrev pub Adds : List Entry → List Entry → ℕ → ℕ → Type 0
Adds old new number place = (n : ℕ) → place_in new n ≡ option_or (place_in old n) (if number == n then Some place else None)

-- for each number, the place of the first element that has it
unfoldable pub Indexes : {X : Type 0} → List Entry → (X → ℕ) → List X → Type 0
Indexes entries number xs = (n : ℕ) → place_in entries n ≡ position (λ x. number x == n) xs
