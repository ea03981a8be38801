use Rattle.std.proofs.Common.{None, Some, ap, subst, ◌∙◌}
use Rattle.std.specs.BTreeMap.{Updates}
use Rattle.lisp_policy.specs.Configuration.{RouterEntryValue}
use Rattle.lisp_records.specs.contracts.address.AddrOrd.TheImpl.{ghosts as derived}
use Rattle.lisp_records.specs.declared.address.Addr.{Addr}
use Rattle.lisp_statistics.proofs.Places.{one_more_place}
use Rattle.lisp_statistics.proofs.last_refusals.LastRefusals.start.Goals as goal

pub loop-router-preserved : goal.loop-router-preserved
loop-router-preserved g c =
    let updates : Addr → Type 0 = λ address. Updates derived.cmp c.loop-router.by_address c.try_insert.new.self address (Some None) in
    let adds = subst updates (ap (λ (r : RouterEntryValue). r.address) (c.router.view_is ∙ c.router-item.is)) c.in_ok-try_insert.ensures.updates in
    one_more_place c.args.routers.now c.loop-router.router-index c.router-item.result c.loop-router.by_address c.try_insert.new.self
    c.loop-router-test.true c.loop-router.invariant adds
