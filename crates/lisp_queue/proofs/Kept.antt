-- What holds of each element of a list holds of each that is left where one is removed.
use Rattle.std.proofs.Common.{ℕ, ◌+◌, ◌<◌, List, length, ⊎_elim, arith}
use Rattle.std.specs.List.{All, remove}
use Rattle.std.proofs.lemmas.List.Edits.{get_or-remove_below, get_or-remove_above, length-remove}
use Rattle.std.proofs.lemmas.Bool.{cases_lt}

pub all_remove : {X : Type 0} (P : X → Type 0) (xs : List X) (i : ℕ) → i < length xs → All P xs → All P (remove xs i)
all_remove P xs i low all k d within =
    let long = length-remove xs i low in
    ⊎_elim
    (λ below. rw (get_or-remove_below xs i d k below low) (all k d (omega arith)))
    (λ above. rw (get_or-remove_above xs i d k above low) (all (k + 1) d (omega arith)))
    (cases_lt k i)
