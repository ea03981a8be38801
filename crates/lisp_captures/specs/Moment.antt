-- When a packet was captured.
use Rattle.std.specs.Prelude.{ℕ, ◌*◌, ◌/◌, ◌%◌, ◌^◌, nat_lt, Option, Some, None, option_and_then, if◌then◌else◌}

-- the number, where 64 bits hold it
abbrev pub fitted : ℕ → Option ℕ
fitted n = if nat_lt n (2 ^ 64) then Some n else None

-- a resolution counts digits, or with its highest bit set bits
abbrev pub base_of : ℕ → ℕ
base_of resolution = if nat_lt resolution 128 then 10 else 2

-- microseconds since 1970, of ticks of a resolution: base ^ (its other bits) of them are a second
unfoldable pub moment_of : ℕ → ℕ → Option ℕ
moment_of resolution ticks = option_and_then (λ per_second. fitted (ticks * 1000000 / per_second)) (fitted (base_of resolution ^ (resolution % 128)))
