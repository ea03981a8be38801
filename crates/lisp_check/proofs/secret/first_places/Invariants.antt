use Rattle.std.proofs.Common.{length}
use Rattle.lisp_check.proofs.SecretWarnings.{GoesOn}
use Rattle.lisp_check.proofs.secret.first_places.Given as goal

-- the first keys so far, and the secrets that are left
abbrev pub invariant-loop-rest : goal.invariant-loop-rest
invariant-loop-rest l = GoesOn l.firsts l.rest l.secrets

abbrev pub decreases-loop-rest : goal.decreases-loop-rest
decreases-loop-rest l = length l.rest
