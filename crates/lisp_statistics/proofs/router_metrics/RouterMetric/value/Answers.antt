use Rattle.std.proofs.Common.{◌-◌, Some, ap, sym, ◌∙◌}
use Rattle.std.specs.Option.{option_map}
use Rattle.lisp_statistics.specs.RouterMetrics.{router_value}
use Rattle.lisp_statistics.specs.declared.hearing.Hearing.{Hearing}
use Rattle.lisp_statistics.proofs.router_metrics.RouterMetric.value.Goals as goal

pub returns-in_ok-hearing-in-Age : goal.returns-in_ok-hearing-in-Age
returns-in_ok-hearing-in-Age g c =
    ap Some c.saturating_sub.ensures ∙ ap (option_map (λ (h : Hearing). c.args.now - h.at)) c.in_ok-hearing-in-Age.ensures.value
    ∙ (λ i. router_value (sym c.in-Age.is i) c.args.statistics.now (c.router.view_is i) c.args.now)

pub returns-in_ok-get-in-LastNonce : goal.returns-in_ok-get-in-LastNonce
returns-in_ok-get-in-LastNonce g c =
    ap (option_map (λ (h : Hearing). h.nonce)) c.in_ok-get-in-LastNonce.ensures.value ∙ (λ i. router_value (sym c.in-LastNonce.is i) c.args.statistics.now (c.router.view_is i) c.args.now)
