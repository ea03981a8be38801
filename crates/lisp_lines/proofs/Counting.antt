-- One line more.
use Rattle.std.proofs.Common.{◌≡◌, ℕ, suc, ◌+◌, ◌<◌, List, [], ◌++◌, length, take, get_or, ap, sym, ◌∙◌, arith}
use Rattle.std.specs.List.{flat_map}
use Rattle.std.proofs.Math.Seq.{take-suc}
use Rattle.std.proofs.lemmas.List.{flat_map_more}

pub counted_more : (f : ℕ → List ℕ) (servers : List ℕ) (place : ℕ) (before after : List ℕ) → place < length servers → before ≡ flat_map f (take place servers)
    → after ≡ before ++ f (get_or servers place 0) → after ≡ flat_map f (take (place + 1) servers)
counted_more f servers place before after within so_far grown =
    let next : suc place ≡ place + 1 = omega arith in
    grown ∙ ap (λ (t : List ℕ). t ++ f (get_or servers place 0)) so_far ∙ flat_map_more f [] (take place servers) (get_or servers place 0)
    ∙ ap (flat_map f) (sym (take-suc servers place 0 within)) ∙ ap (λ (n : ℕ). flat_map f (take n servers)) next
