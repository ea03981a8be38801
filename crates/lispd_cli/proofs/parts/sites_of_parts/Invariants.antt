use Rattle.std.proofs.Common.{◌≡◌, ◌++◌, length, map}
use Rattle.std.specs.List.{flat_map}
use Rattle.std.specs.String.{string_bytes}
use Rattle.lispd_cli.specs.Reloading.{sites_of_part}
use Rattle.lispd_cli.proofs.parts.sites_of_parts.Given as goal

-- the sites so far, and those of the parts that are left
abbrev pub invariant-loop-rest : goal.invariant-loop-rest
invariant-loop-rest l = l.all ++ flat_map sites_of_part (map string_bytes l.rest) ≡ flat_map sites_of_part (map string_bytes l.parts)

abbrev pub decreases-loop-rest : goal.decreases-loop-rest
decreases-loop-rest l = length l.rest
