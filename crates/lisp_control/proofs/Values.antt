-- What follows of the value of a result.
use Rattle.std.proofs.Common.{Result, Ok, Err, IfOk}

-- what follows of each value follows of that of a result
pub of_value : {X F : Type 0} (result : Result X F) (P Q : X → Type 0) → ((x : X) → P x → Q x) → IfOk result P → IfOk result Q
of_value (Ok x) P Q step holds = step x holds
of_value (Err fault) P Q step holds = tt
