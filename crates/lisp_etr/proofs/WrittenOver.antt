-- What a loop that writes each element anew leaves of a list.
use Rattle.std.proofs.Common.{◌≡◌, ◌++◌, ℕ, List, length, map, take, drop, length-append, length-drop, sym, ap, ◌∙◌, arith}
use Rattle.std.proofs.lemmas.List.{length-take, length-map}
use Rattle.std.proofs.Math.Seq.{take-append_seam}

-- as many rounds as before are left of those that were written over them
pub as_many : {X : Type 0} (n : ℕ) (old new : List X) → n ≡ length old → length new ≡ length old → length (take n (new ++ drop (length new) old)) ≡ length old
as_many n old new whole same =
    let left = length-take n (new ++ drop (length new) old) in
    let both = length-append new (drop (length new) old) in
    let rest = length-drop (length new) old in
    omega (arith, left, both, rest, whole, same)

-- and they are the ones that were written
pub all_written : {X : Type 0} (f : X → X) (n : ℕ) (old new : List X) → n ≡ length old → new ≡ map f old → take n (new ++ drop (length new) old) ≡ map f old
all_written f n old new whole is =
    let same : n ≡ length new = whole ∙ sym (length-map old f) ∙ sym (ap length is) in
    ap (λ (k : ℕ). take k (new ++ drop (length new) old)) same ∙ take-append_seam new (drop (length new) old) ∙ is
