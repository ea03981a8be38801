-- A buffer to which something was appended.
use Rattle.std.specs.Prelude.{◌≡◌, List, ◌++◌}

-- the new bytes begin with the old ones
pub record Grew {X : Type 0} (old new : List X) : Type 0 where
  pub more : List X
  pub parts : new ≡ old ++ more
