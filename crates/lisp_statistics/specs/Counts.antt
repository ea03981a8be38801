-- The text of what is counted of a node: lines, or the text format of Prometheus.
use Rattle.std.specs.Prelude.{ℕ, Bool, true, false, List, [], ◌++◌, Option, Some, None}
use Rattle.std.specs.List.{flat_map}
use Rattle.lisp_statistics.specs.declared.counts.Format.{Format}
use Rattle.lisp_statistics.specs.declared.counts.Format.TheVariants as formats
use Rattle.lisp_statistics.specs.declared.kind.LineKind.{LineKind}
use Rattle.lisp_statistics.specs.declared.metrics.TheConstants.{LINES, REFUSALS, START_TIME}
use Rattle.lisp_statistics.specs.declared.gauge.Gauge.{Gauge}
use Rattle.lisp_statistics.specs.declared.sample.Label.TheVariants.{Line, Node, Number}
use Rattle.lisp_statistics.specs.Kind.{kind_number}
use Rattle.lisp_statistics.specs.Metric.{Texts, texts}
use Rattle.lisp_statistics.specs.Sample.{count_text, gauge_text, head_text}

-- how many lines there were of a kind, if these are refusals, or if they are not
abbrev pub numbered_text : Format → Texts → Bool → List ℕ → LineKind × ℕ → Option ℕ → List ℕ
numbered_text format metric true node tally (Some number) = count_text format metric node (Number number) tally.1
numbered_text format metric false node tally None = count_text format metric node (Line tally.0) tally.1
numbered_text format metric _ node tally _ = []

abbrev pub tally_text : Format → Texts → Bool → List ℕ → LineKind × ℕ → List ℕ
tally_text format metric are_refusals node tally = numbered_text format metric are_refusals node tally (kind_number tally.0)

-- all of them
abbrev pub tallies_text : Format → Texts → Bool → List ℕ → List (LineKind × ℕ) → List ℕ
tallies_text format metric are_refusals node tallies = head_text format metric ++ flat_map (tally_text format metric are_refusals node) tallies

-- when the node started, as a metric alone
abbrev pub start_time_text : Format → List ℕ → ℕ → List ℕ
start_time_text formats.Lines node ms = []
start_time_text formats.Prometheus node ms = head_text formats.Prometheus (texts START_TIME) ++ count_text formats.Prometheus (texts START_TIME) node Node ms

-- how many lines of each kind the node with a name printed, its gauges, and when it started
abbrev pub counts_text : Format → List ℕ → List (LineKind × ℕ) → List Gauge → ℕ → List ℕ
counts_text format node tallies gauges started = tallies_text format (texts LINES) false node tallies ++ tallies_text format (texts REFUSALS) true node tallies
    ++ flat_map (gauge_text format node) gauges ++ start_time_text format node started
