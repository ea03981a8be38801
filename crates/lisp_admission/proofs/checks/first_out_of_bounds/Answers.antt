use Rattle.std.proofs.Common.{not, refl}
use Rattle.lisp_policy.specs.Limits.{lets_ttl}
use Rattle.lisp_admission.proofs.Searching.{begins, is_found, goes_on, is_nowhere}
use Rattle.lisp_admission.proofs.checks.first_out_of_bounds.Goals as goal

pub loop-place-init : goal.loop-place-init
loop-place-init g c = begins (λ r. not (lets_ttl c.args.limits.now c.args.use_ttl r.ttl)) c.args.records.now

pub returns-then-not-lets_ttl : goal.returns-then-not-lets_ttl
returns-then-not-lets_ttl g c =
    is_found (λ r. not (lets_ttl c.args.limits.now c.args.use_ttl r.ttl)) c.args.records.now c.loop-place.place c.index-records-place.result c.loop-place-test.true (rw (← c.index-records-place.is, ← c.ttl.ensures, ← c.lets_ttl.ensures, c.if-not-lets_ttl.true) refl) c.loop-place.invariant

pub loop-place-preserved : goal.loop-place-preserved
loop-place-preserved g c =
    goes_on (λ r. not (lets_ttl c.args.limits.now c.args.use_ttl r.ttl)) c.args.records.now c.loop-place.place c.index-records-place.result c.loop-place-test.true (rw (← c.index-records-place.is, ← c.ttl.ensures, ← c.lets_ttl.ensures, c.if-not-lets_ttl.false) refl) c.loop-place.invariant

pub returns : goal.returns
returns g c = is_nowhere (λ r. not (lets_ttl c.args.limits.now c.args.use_ttl r.ttl)) c.args.records.now c.loop-place.place c.loop-place-test.false c.loop-place.invariant
