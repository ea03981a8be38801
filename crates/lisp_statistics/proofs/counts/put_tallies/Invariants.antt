use Rattle.std.proofs.Common.{◌≡◌, ◌++◌}
use Rattle.std.specs.List.{flat_map}
use Rattle.std.specs.String.{string_bytes}
use Rattle.lisp_statistics.specs.Counts.{tally_text}
use Rattle.lisp_statistics.specs.Metric.{texts_of}
use Rattle.lisp_statistics.specs.Sample.{head_text}
use Rattle.lisp_statistics.proofs.counts.put_tallies.Given as goal

-- what is appended so far, and what is left to append
abbrev pub invariant-loop-kind : goal.invariant-loop-kind
invariant-loop-kind g l = string_bytes l.text ++ flat_map (tally_text l.format (texts_of l.metric) l.are_refusals l.node) l.kind-iterator
    ≡ (string_bytes l.fn.text ++ head_text l.format (texts_of l.metric)) ++ flat_map (tally_text l.format (texts_of l.metric) l.are_refusals l.node) l.tallies.entries
