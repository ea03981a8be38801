-- Where nodes stand, by their names.
use Rattle.std.specs.Prelude.{◌≡◌, ℕ, false, List, String, Vec, position}
use Rattle.std.specs.BTreeMap.{BTreeMap, get_by_text}
use Rattle.std.specs.List.{list_any}
use Rattle.std.specs.Str.{bytes_eq}

-- for each name, the place of the first node that has it
unfoldable pub ArePlaces : {X Y : Type 0} → BTreeMap (String Y) ℕ → (X → List ℕ) → List X → Type 0
ArePlaces places name xs = (n : List ℕ) → get_by_text places n ≡ position (λ x. bytes_eq (name x) n) xs

-- places that were those of the nodes still are, where no node had the name of another
abbrev pub KeepsPlaces : {X Y Z : Type 0} → (X → List ℕ) → BTreeMap (String Y) ℕ → BTreeMap (String Y) ℕ → Vec X Z → Vec X Z → X → Type 0
KeepsPlaces name old_places new_places old new node = ArePlaces old_places name old.items → list_any (λ n. bytes_eq (name n) (name node)) old.items ≡ false → ArePlaces new_places name new.items
