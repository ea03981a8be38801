-- The moments of a node's clock.
use Rattle.std.specs.Prelude.{ℕ, min}
use Rattle.lisp_records.specs.Moment.{max_moment}

-- what it tells of so many ms since 1970
abbrev pub moment_of : ℕ → ℕ
moment_of ms = min ms max_moment
