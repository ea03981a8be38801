use Rattle.std.proofs.Common.{not, refl}
use Rattle.lisp_policy.specs.Site.{is_allowed}
use Rattle.lisp_admission.proofs.Searching.{begins, is_found, goes_on, is_nowhere}
use Rattle.lisp_admission.proofs.checks.first_not_allowed.Goals as goal

pub loop-place-init : goal.loop-place-init
loop-place-init g c = begins (λ r. not (is_allowed c.args.site.now r.eid)) c.args.records.now

pub returns-then-not-allows : goal.returns-then-not-allows
returns-then-not-allows g c =
    is_found (λ r. not (is_allowed c.args.site.now r.eid)) c.args.records.now c.loop-place.place c.index-records-place.result c.loop-place-test.true (rw (← c.index-records-place.is, ← c.eid_ref.ensures, ← c.allows.ensures.test, c.if-not-allows.true) refl) c.loop-place.invariant

pub loop-place-preserved : goal.loop-place-preserved
loop-place-preserved g c =
    goes_on (λ r. not (is_allowed c.args.site.now r.eid)) c.args.records.now c.loop-place.place c.index-records-place.result c.loop-place-test.true (rw (← c.index-records-place.is, ← c.eid_ref.ensures, ← c.allows.ensures.test, c.if-not-allows.false) refl) c.loop-place.invariant

pub returns : goal.returns
returns g c = is_nowhere (λ r. not (is_allowed c.args.site.now r.eid)) c.args.records.now c.loop-place.place c.loop-place-test.false c.loop-place.invariant
