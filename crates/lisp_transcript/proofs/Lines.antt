-- The lines of packets.
use Rattle.std.proofs.Common.{◌≡◌, ◌<◌, List, ◌∷◌, length, ap, arith}

-- behind a packet there are fewer
pub shorter : {X : Type 0} (before after : List X) (x : X) → before ≡ x ∷ after → length after < length before
shorter before after x is = let long = ap length is in omega (arith, long)
