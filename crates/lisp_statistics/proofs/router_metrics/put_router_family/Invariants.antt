use Rattle.std.proofs.Common.{◌≡◌, ◌++◌, take}
use Rattle.std.specs.List.{flat_map}
use Rattle.std.specs.String.{string_bytes}
use Rattle.lisp_statistics.specs.RouterMetrics.{registered_sample, router_metric}
use Rattle.lisp_statistics.specs.Sample.{head_text}
use Rattle.lisp_statistics.specs.declared.counts.Format.TheVariants.{Prometheus}
use Rattle.lisp_statistics.proofs.router_metrics.put_router_family.Given as goal

-- the routers so far
abbrev pub invariant-loop-router : goal.invariant-loop-router
invariant-loop-router g l = string_bytes l.text ≡ (string_bytes l.fn.text ++ head_text Prometheus (router_metric l.metric)) ++ flat_map (registered_sample l.metric l.node l.number l.statistics l.now) (take l.router-index l.routers)
