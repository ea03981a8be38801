-- The metrics of the configured routers that register with a Map-Server.
use Rattle.std.specs.Prelude.{ℕ, ◌-◌, List, [], ◌++◌, codes, Option, Some, None, if◌then◌else◌}
use Rattle.std.specs.BTreeMap.{get}
use Rattle.std.specs.List.{flat_map}
use Rattle.std.specs.Option.{option_map}
use Rattle.lisp_records.specs.Router.{router_cmp}
use Rattle.lisp_policy.specs.Configuration.{ConfigValue, RouterEntryValue}
use Rattle.lisp_lines.specs.Name.{node_name}
use Rattle.lisp_statistics.specs.LastRefusals.{last_refusal}
use Rattle.lisp_statistics.specs.Never.{registers_with}
use Rattle.lisp_statistics.specs.Metric.{Texts, texts}
use Rattle.lisp_statistics.specs.Sample.{head_text, sample_text}
use Rattle.lisp_statistics.specs.declared.counts.Format.{Format}
use Rattle.lisp_statistics.specs.declared.counts.Format.TheVariants as formats
use Rattle.lisp_statistics.specs.declared.metrics.TheConstants.{ROUTER_AGE, ROUTER_LAST_NONCE, ROUTER_LAST_REFUSAL}
use Rattle.lisp_statistics.specs.declared.router_metrics.RouterMetric.{RouterMetric}
use Rattle.lisp_statistics.specs.declared.router_metrics.RouterMetric.TheVariants.{Age, LastNonce, LastRefusal}
use Rattle.lisp_statistics.specs.declared.statistics.Statistics.{Statistics}

-- what a metric is to Prometheus
abbrev pub router_metric : RouterMetric → Texts
router_metric Age = texts ROUTER_AGE
router_metric LastNonce = texts ROUTER_LAST_NONCE
router_metric LastRefusal = texts ROUTER_LAST_REFUSAL

-- its value of a router at a moment, in ms; none where the router wasn't heard, or nothing from its address was refused
abbrev pub router_value : {A : Type 0} → RouterMetric → Statistics A → RouterEntryValue → ℕ → Option ℕ
router_value Age s r now = option_map (λ h. now - h.at) (get router_cmp s.heard r.me)
router_value LastNonce s r now = option_map (λ h. h.nonce) (get router_cmp s.heard r.me)
router_value LastRefusal s r now = last_refusal s.last_refusals.by_address r.address

-- the sample of a router; where it has no value, or registers elsewhere, there is none
abbrev pub router_label : List ℕ → List ℕ
router_label router = codes ",router=\"" ++ router ++ codes "\""

abbrev pub router_sample : RouterMetric → List ℕ → List ℕ → Option ℕ → List ℕ
router_sample metric node router (Some value) = sample_text (router_metric metric) node (router_label router) value
router_sample metric node router None = []

abbrev pub registered_sample : {A : Type 0} → RouterMetric → List ℕ → ℕ → Statistics A → ℕ → RouterEntryValue → List ℕ
registered_sample metric node number s now r = if registers_with number r then router_sample metric node r.name (router_value metric s r now) else []

-- those of all routers, in the order of the configuration, behind what helps to read them
abbrev pub router_family : {A : Type 0} → RouterMetric → List ℕ → ℕ → Statistics A → ℕ → List RouterEntryValue → List ℕ
router_family metric node number s now routers = head_text formats.Prometheus (router_metric metric) ++ flat_map (registered_sample metric node number s now) routers

-- each metric
abbrev pub router_families : {A : Type 0} → List ℕ → ℕ → Statistics A → ℕ → List RouterEntryValue → List ℕ
router_families node number s now routers = router_family Age node number s now routers ++ router_family LastNonce node number s now routers ++ router_family LastRefusal node number s now routers

-- as metrics alone
abbrev pub router_metrics_text : {A : Type 0} → Format → ConfigValue → ℕ → Statistics A → ℕ → List ℕ
router_metrics_text formats.Lines c number s now = []
router_metrics_text formats.Prometheus c number s now = router_families (node_name c number) number s now c.routers
