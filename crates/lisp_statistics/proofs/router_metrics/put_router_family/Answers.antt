use Rattle.std.proofs.Common.{ℕ, ◌++◌, List, ap, ◌∙◌, append_assoc}
use Rattle.std.specs.List.{flat_map}
use Rattle.std.specs.String.{string_bytes}
use Rattle.std.proofs.lemmas.List.{take_all}
use Rattle.lisp_policy.specs.Configuration.{RouterEntryValue}
use Rattle.lisp_statistics.specs.RouterMetrics.{registered_sample, router_metric}
use Rattle.lisp_statistics.specs.Sample.{head_text}
use Rattle.lisp_statistics.specs.declared.counts.Format.TheVariants.{Prometheus}
use Rattle.lisp_statistics.proofs.Counting.{one_more_here}
use Rattle.lisp_statistics.proofs.router_metrics.put_router_family.Goals as goal

pub loop-router-preserved : goal.loop-router-preserved
loop-router-preserved g c =
    let shown : RouterEntryValue → List ℕ = registered_sample c.args.metric c.args.node.now c.args.number c.args.statistics.now c.args.now in
    one_more_here shown (string_bytes c.args.text.now ++ head_text Prometheus (router_metric c.args.metric)) c.args.routers.now c.loop-router.router-index c.router-item.result _ _
    c.loop-router-test.true c.router-item.is c.loop-router.invariant c.in_ok-put_registered_sample.ensures.text

pub returns-clause-text : goal.returns-clause-text
returns-clause-text g c =
    let shown : RouterEntryValue → List ℕ = registered_sample c.args.metric c.args.node.now c.args.number c.args.statistics.now c.args.now in
    let front = string_bytes c.args.text.now in
    let head = head_text Prometheus (router_metric c.args.metric) in
    c.loop-router.invariant ∙ ap (λ (rs : List RouterEntryValue). (front ++ head) ++ flat_map shown rs) (take_all c.loop-router.router-index c.args.routers.now c.loop-router-test.false)
    ∙ append_assoc front head (flat_map shown c.args.routers.now)
