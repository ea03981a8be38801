use Rattle.std.proofs.Common.{◌≡◌, ℕ, List, ap, sym, subst, ◌∙◌}
use Rattle.lisp_lines.specs.Front.{Adds}
use Rattle.lisp_statistics.specs.RouterMetrics.{router_families, router_metrics_text}
use Rattle.lisp_statistics.specs.declared.counts.Format.{Format}
use Rattle.lisp_statistics.proofs.router_metrics.put_router_metrics.Goals as goal

-- those of the node's name and the configuration's routers
pub returns-in-Prometheus-clause-text : goal.returns-in-Prometheus-clause-text
returns-in-Prometheus-clause-text g c =
    let s = c.args.statistics.now in
    let told : router_families c.node_name-node.result.now c.args.number s c.args.now c.routers-routers.result.now ≡ router_metrics_text c.args.format c.args.config.now c.args.number s c.args.now
    = (λ i. router_families (c.node_name-node.ensures i) c.args.number s c.args.now (c.routers-routers.ensures.routers i))
    ∙ ap (λ (format : Format). router_metrics_text format c.args.config.now c.args.number s c.args.now) (sym c.in-Prometheus.is) in
    subst (λ (words : List ℕ). Adds c.put_router_families.result c.args.text.now c.put_router_families.new.text words) told c.put_router_families.ensures.text
