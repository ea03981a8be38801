use Rattle.std.proofs.Common.{◌≡◌, ◌++◌, length}
use Rattle.std.specs.List.{flat_map}
use Rattle.lisp_check.specs.Secret.{of_secret, of_secrets}
use Rattle.lisp_check.proofs.secret.secret_warnings.Given as goal

-- those that were added, and those of the secrets that are left
abbrev pub invariant-loop-rest : goal.invariant-loop-rest
invariant-loop-rest l = l.warnings.items ++ flat_map (of_secret l.secrets) l.rest ≡ of_secrets l.secrets

abbrev pub decreases-loop-rest : goal.decreases-loop-rest
decreases-loop-rest l = length l.rest
