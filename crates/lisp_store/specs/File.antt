-- How a store in files counts its faults.
use Rattle.std.specs.Prelude.{◌≡◌, ◌≢◌, ℕ, ◌+◌, ◌-◌, ◌^◌, min}
use Rattle.lisp_nonces.specs.declared.fault.StoreFault.{StoreFault}
use Rattle.lisp_nonces.specs.declared.fault.StoreFault.TheVariants.{OutOfMemory}

-- a fault other than out of memory is counted; the count stops at its end
abbrev pub CountsFault : ℕ → ℕ → StoreFault → Type 0
CountsFault old new fault = fault ≢ OutOfMemory → new ≡ min (old + 1) (2 ^ 64 - 1)
