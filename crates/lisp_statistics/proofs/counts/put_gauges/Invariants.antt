use Rattle.std.proofs.Common.{◌≡◌, ◌++◌, take}
use Rattle.std.specs.List.{flat_map}
use Rattle.std.specs.String.{string_bytes}
use Rattle.lisp_statistics.specs.Sample.{gauge_text}
use Rattle.lisp_statistics.proofs.counts.put_gauges.Given as goal

-- the gauges so far
abbrev pub invariant-loop-gauge : goal.invariant-loop-gauge
invariant-loop-gauge g l = string_bytes l.text ≡ string_bytes l.fn.text ++ flat_map (gauge_text l.format l.node) (take l.gauge-index l.gauges)
