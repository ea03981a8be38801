use Rattle.std.proofs.Common.{◌≡◌, drop, not}
use Rattle.std.specs.List.{position_from}
use Rattle.lisp_policy.specs.Site.{is_allowed}
use Rattle.lisp_admission.specs.Checks.{first_not_allowed}
use Rattle.lisp_admission.proofs.checks.first_not_allowed.Given as goal

-- the first of the records to come that isn't allowed is the first of all
abbrev pub invariant-loop-place : goal.invariant-loop-place
invariant-loop-place g l = position_from (λ r. not (is_allowed l.site r.eid)) l.place (drop l.place l.records) ≡ first_not_allowed l.site l.records
