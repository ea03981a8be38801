-- A table with the numbers has a row for exactly the known ones.
use Rattle.std.proofs.Common.{◌≡◌, ℕ, Bool, ◌||◌, List, [], ◌∷◌, map, nat_eq, refl, sym, ap, ◌∙◌}
use Rattle.std.specs.List.{list_any}
use Rattle.lisp_refusals.specs.declared.row.Section.{Section}
use Rattle.lisp_refusals.specs.Numbers.{is_known, section_numbers, HasNumbers}
use Rattle.lisp_refusals.specs.Table.{has_row, is_in}

any_map : {X Y : Type 0} (test : Y → Bool) (f : X → Y) (xs : List X) → list_any test (map f xs) ≡ list_any (λ x. test (f x)) xs
any_map test f [] = refl
any_map test f (x ∷ xs) = ap (λ (b : Bool). test (f x) || b) (any_map test f xs)

abbrev one_of : ℕ → List ℕ → Bool
one_of number ns = list_any (λ n. nat_eq n number) ns

in_numbers : (number : ℕ) (sections : List Section) → list_any (one_of number) (map section_numbers sections) ≡ is_in number sections
in_numbers number [] = refl
in_numbers number (section ∷ sections) =
    ap (λ (b : Bool). b || list_any (one_of number) (map section_numbers sections)) (any_map (λ n. nat_eq n number) (λ row. row.number) section.rows.now)
    ∙ ap (λ (b : Bool). has_row number section || b) (in_numbers number sections)

pub known : (number : ℕ) (sections : List Section) → HasNumbers sections → is_in number sections ≡ is_known number
unfolding is_known
known number sections has = sym (in_numbers number sections) ∙ ap (λ (ns : List (List ℕ)). list_any (one_of number) ns) has
