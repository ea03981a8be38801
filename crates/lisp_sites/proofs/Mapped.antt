-- Lists of nodes: what their elements are mapped to, and the first of them that has a name.
use Rattle.std.proofs.Common.{◌≡◌, ℕ, ◌+◌, ◌<◌, List, [], ◌∷◌, ◌++◌, length, map, get_or, take, sym, ap, ◌∙◌, add-one}
use Rattle.std.proofs.Math.Seq.{take-suc}
use Rattle.std.proofs.lemmas.List.{map-append, append_assoc}

module _ {X Y : Type 0} where
  -- one more element is mapped behind others
  pub more_mapped : (before : List Y) (f : X → Y) (xs : List X) (made next : List Y) (i : ℕ) (x : X) → i < length xs → x ≡ get_or xs i x
      → made ≡ before ++ map f (take i xs) → next ≡ made ++ f x ∷ [] → next ≡ before ++ map f (take (i + 1) xs)
  more_mapped before f xs made next i x low at so_far pushed =
      let taken : take (i + 1) xs ≡ take i xs ++ x ∷ [] = ap (λ n. take n xs) (add-one i) ∙ take-suc xs i x low ∙ ap (λ (y : X). take i xs ++ y ∷ []) (sym at) in
      let mapped : map f (take (i + 1) xs) ≡ map f (take i xs) ++ f x ∷ [] = ap (map f) taken ∙ map-append f (take i xs) (x ∷ []) in
      pushed ∙ ap (λ (l : List Y). l ++ f x ∷ []) so_far ∙ append_assoc before (map f (take i xs)) (f x ∷ []) ∙ ap (λ (l : List Y). before ++ l) (sym mapped)
