-- Powers of the bases of resolutions.
use Rattle.std.proofs.Common.{ℕ, ◌^◌, ◌<◌, Bool, true, false, if◌then◌else◌, arith}
use Rattle.std.proofs.Math.Nat.{one-le-pow}
use Rattle.std.specs.Prelude.{nat_lt}
use Rattle.lisp_captures.specs.Moment.{base_of}

chosen_positive : (is_digits : Bool) → 0 < (if is_digits then 10 else 2)
chosen_positive true = omega arith
chosen_positive false = omega arith

-- a second has at least one tick
pub base_power_positive : (resolution k : ℕ) → 0 < base_of resolution ^ k
base_power_positive resolution k = one-le-pow k (base_of resolution) (chosen_positive (nat_lt resolution 128))
