-- Something is found where an element passes.
use Rattle.std.proofs.Common.{◌≡◌, Bool, true, false, cond, ◌||◌, List, [], ◌∷◌, Option, Some, None, refl}
use Rattle.std.specs.Prelude.{is_some}
use Rattle.std.specs.List.{find, list_any}
use Rattle.std.specs.Option.{option_map}

pub is_some-map : {X Y : Type 0} (f : X → Y) (o : Option X) → is_some o ≡ is_some (option_map f o)
is_some-map f None = refl
is_some-map f (Some x) = refl

first_or_later : {X : Type 0} (test later : Bool) (x : X) (rest : Option X) → is_some rest ≡ later → is_some (cond test (Some x) rest) ≡ (test || later)
first_or_later true later x rest same = refl
first_or_later false later x rest same = same

pub is_some-find : {X : Type 0} (p : X → Bool) (xs : List X) → is_some (find p xs) ≡ list_any p xs
is_some-find p [] = refl
is_some-find p (x ∷ xs) = first_or_later (p x) (list_any p xs) x (find p xs) (is_some-find p xs)
