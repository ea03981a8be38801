use Rattle.std.proofs.Common.{◌≡◌, drop, not}
use Rattle.std.specs.List.{position_from}
use Rattle.lisp_policy.specs.Limits.{lets_ttl}
use Rattle.lisp_admission.specs.Checks.{first_out_of_bounds}
use Rattle.lisp_admission.proofs.checks.first_out_of_bounds.Given as goal

-- the first of the records to come with a TTL out of bounds is the first of all
abbrev pub invariant-loop-place : goal.invariant-loop-place
invariant-loop-place g l = position_from (λ r. not (lets_ttl l.limits l.use_ttl r.ttl)) l.place (drop l.place l.records) ≡ first_out_of_bounds l.limits l.use_ttl l.records
