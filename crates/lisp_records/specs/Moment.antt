-- Times, in ms. A caller gives none that is later than the latest.
use Rattle.std.specs.Prelude.{ℕ, ◌*◌, ◌^◌}

abbrev pub max_moment : ℕ
max_moment = 2 ^ 62

abbrev pub second : ℕ
second = 1000

abbrev pub minute : ℕ
minute = 60 * second
