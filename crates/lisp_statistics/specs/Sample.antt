-- Counts in lines, or as samples of their metrics.
use Rattle.std.specs.Prelude.{ℕ, ◌-◌, false, List, [], ◌∷◌, ◌++◌, length, replicate, codes}
use Rattle.std.specs.Fmt.{decimal, digits}
use Rattle.lisp_statistics.specs.declared.counts.Format.{Format}
use Rattle.lisp_statistics.specs.declared.counts.Format.TheVariants as formats
use Rattle.lisp_statistics.specs.declared.gauge.Gauge.{Gauge}
use Rattle.lisp_statistics.specs.declared.sample.Label.{Label}
use Rattle.lisp_statistics.specs.declared.sample.Label.TheVariants as labels
use Rattle.lisp_statistics.specs.Gauge.{figure_metric}
use Rattle.lisp_statistics.specs.Kind.{kind_word}
use Rattle.lisp_statistics.specs.Metric.{Texts}

-- a Site-ID as 16 lower case hexadecimal digits: before those of the number come zeros (48)
abbrev pub site_id_text : ℕ → List ℕ
site_id_text site = replicate (16 - length (digits 16 false site)) 48 ++ digits 16 false site

-- what helps to read the samples of a metric, and their type
abbrev pub head_text : Format → Texts → List ℕ
head_text formats.Lines m = []
head_text formats.Prometheus m = codes "# HELP " ++ m.name ++ codes " " ++ m.help ++ codes "\n# TYPE " ++ m.name ++ codes " " ++ m.kind ++ 10 ∷ []

-- what is counted of a node, in a line
abbrev pub label_words : List ℕ → Label → List ℕ
label_words word labels.Node = codes " " ++ word
label_words word (labels.Line kind) = codes " " ++ kind_word kind
label_words word (labels.Number number) = codes " " ++ word ++ codes " " ++ decimal number
label_words word (labels.Site site) = codes " site " ++ site_id_text site ++ codes " " ++ word
label_words word (labels.Limit r) = codes " site " ++ site_id_text r.site ++ codes " " ++ word ++ codes " " ++ decimal r.number

abbrev pub line_text : List ℕ → List ℕ → Label → ℕ → List ℕ
line_text word node label count = codes "counts " ++ node ++ label_words word label ++ codes " " ++ decimal count ++ 10 ∷ []

-- and in a sample
abbrev pub label_text : Label → List ℕ
label_text labels.Node = []
label_text (labels.Line kind) = codes ",line=\"" ++ kind_word kind ++ codes "\""
label_text (labels.Number number) = codes ",number=\"" ++ decimal number ++ codes "\""
label_text (labels.Site site) = codes ",site=\"" ++ site_id_text site ++ codes "\""
label_text (labels.Limit r) = codes ",site=\"" ++ site_id_text r.site ++ codes "\",number=\"" ++ decimal r.number ++ codes "\""

abbrev pub node_text : Texts → List ℕ → List ℕ
node_text m node = m.name ++ codes "{node=\"" ++ node ++ codes "\""

abbrev pub value_text : Texts → ℕ → List ℕ
value_text m value = codes "} " ++ decimal value ++ m.unit ++ 10 ∷ []

abbrev pub sample_text : Texts → List ℕ → List ℕ → ℕ → List ℕ
sample_text m node label value = node_text m node ++ label ++ value_text m value

-- a count of a node
abbrev pub count_text : Format → Texts → List ℕ → Label → ℕ → List ℕ
count_text formats.Lines m node label count = line_text m.word node label count
count_text formats.Prometheus m node label count = sample_text m node (label_text label) count

-- what a node has now
abbrev pub gauge_text : Format → List ℕ → Gauge → List ℕ
gauge_text format node gauge = head_text format (figure_metric gauge.figure) ++ count_text format (figure_metric gauge.figure) node labels.Node gauge.value
