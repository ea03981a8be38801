-- What was read up to a bound that left nothing out.
use Rattle.std.proofs.Common.{◌≡◌, ℕ, ◌<◌, ◌≤◌, List, Option, None, Some, IfSome, length, take, arith, ap, ◌∙◌, length-take, take_all}
use Rattle.std.specs.Option.{option_map}

-- it is all, where it is shorter than the bound
pub all_taken : (most limit : ℕ) (left : Option (List ℕ)) (got : List ℕ) → most < limit → IfSome (option_map (take limit) left) (λ taken. got ≡ taken) → length got ≤ most → IfSome left (λ all. got ≡ all)
all_taken most limit None got above is within = tt
all_taken most limit (Some all) got above is within =
    let short : length all ≤ limit = omega (arith, ap length is, length-take limit all) in
    is ∙ take_all limit all short
