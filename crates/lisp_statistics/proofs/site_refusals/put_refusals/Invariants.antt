use Rattle.std.proofs.Common.{◌≡◌, ◌++◌}
use Rattle.std.specs.List.{flat_map}
use Rattle.std.specs.String.{string_bytes}
use Rattle.lisp_statistics.specs.declared.metrics.TheConstants.{SITE_REFUSALS}
use Rattle.lisp_statistics.specs.declared.sample.Label.TheVariants.{Limit}
use Rattle.lisp_statistics.specs.Metric.{texts}
use Rattle.lisp_statistics.specs.Sample.{count_text, head_text}
use Rattle.lisp_statistics.proofs.site_refusals.put_refusals.Given as goal

-- what is appended so far, and what is left to append
abbrev pub invariant-loop-refusal : goal.invariant-loop-refusal
invariant-loop-refusal g l = string_bytes l.text ++ flat_map (λ count. count_text l.format (texts SITE_REFUSALS) l.node (Limit count.0) count.1) l.refusal-iterator
    ≡ (string_bytes l.fn.text ++ head_text l.format (texts SITE_REFUSALS)) ++ flat_map (λ count. count_text l.format (texts SITE_REFUSALS) l.node (Limit count.0) count.1) l.by_site.entries
