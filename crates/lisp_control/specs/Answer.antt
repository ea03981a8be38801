-- What a node that runs answers its user.
use Rattle.std.specs.Prelude.{◌≡◌, ℕ, List, [], ◌∷◌, ◌++◌, length, codes, Option, Some, None, Result, Ok, Err}
use Rattle.std.specs.Fmt.{decimal}
use Rattle.lisp_policy.specs.Configuration.{ConfigValue}
use Rattle.lisp_model.specs.Faults.{world_fault_number}
use Rattle.lisp_model.specs.declared.line.Line.{Line}
use Rattle.lisp_model.specs.declared.line.Line.TheVariants.{Down}
use Rattle.lisp_model.specs.declared.world_fault.WorldFault.{WorldFault}
use Rattle.lisp_script.specs.Fault.{what_number}
use Rattle.lisp_script.specs.declared.fault.ScriptWhat.{ScriptWhat}
use Rattle.lisp_script.specs.declared.fault.ScriptWhat.TheVariants.{Word}
use Rattle.lisp_etr.specs.Etr.{EtrState}
use Rattle.lisp_server.specs.Server.{ServerState}
use Rattle.lisp_lines.specs.Line.{line_text}
use Rattle.lisp_sites.specs.Numbers.{servers_of}
use Rattle.lisp_lines.specs.Name.{node_name}
use Rattle.lisp_lines.specs.Nodes.{nodes_text}
use Rattle.lisp_statistics.specs.Counts.{counts_text}
use Rattle.lisp_statistics.specs.declared.counts.Format.{Format}
use Rattle.lisp_statistics.specs.declared.gathering.Gathering.{Gathering}
use Rattle.lisp_statistics.specs.declared.gauge.Figure.{Figure}
use Rattle.lisp_statistics.specs.declared.gauge.Figure.TheVariants.{Records, Rows, Sites, StandingNotices, Replays, LongestSave, Requests, SlowestReply}
use Rattle.lisp_statistics.specs.declared.gauge.Gauge.{Gauge}
use Rattle.lisp_statistics.specs.declared.statistics.Statistics.{Statistics}
use Rattle.lisp_lines.specs.declared.wording.Wording.TheVariants.{Node}
use Rattle.lisp_lines.specs.Router.{TellsRouter}
use Rattle.lisp_control.specs.Disallowed.{disallowed_text}
use Rattle.lisp_control.specs.declared.question.Question.{Question}
use Rattle.lisp_control.specs.declared.question.Question.TheVariants.{Router, Counts, Disallowed, Nodes}

-- a fault's line
abbrev pub numbered : ℕ → List ℕ
numbered number = codes "fault " ++ decimal number ++ 10 ∷ []

abbrev pub fault_text : ScriptWhat → List ℕ
fault_text what = numbered (what_number what)

-- what came of an order: the line of the event, as the node prints it, or the fault
abbrev pub outcome_text : ConfigValue → Result Line WorldFault → List ℕ
outcome_text c (Ok line) = line_text c Node line
outcome_text c (Err fault) = numbered (world_fault_number fault)

-- what a node has: a Map-Server its rows, their sites, its notices and the runs of replays that last, a
-- router its records; and either its longest save, how many Map-Requests came, and the slowest answer to one
abbrev pub gauge : Figure → ℕ → Gauge
gauge figure value = record { figure = figure; value = value }

abbrev pub node_gauges : {A : Type 0} → Statistics A → List Gauge
node_gauges s = gauge LongestSave s.longest_save ∷ gauge Requests s.requests ∷ gauge SlowestReply s.slowest_reply ∷ []

abbrev pub server_gauges : {A B : Type 0} → Gathering A → ServerState → ℕ → Statistics B → List Gauge
server_gauges rows core replays s = gauge Rows rows.walk.rows ∷ gauge Sites rows.sites
    ∷ gauge StandingNotices (length core.notices) ∷ gauge Replays replays ∷ node_gauges s

abbrev pub router_gauges : {A : Type 0} → EtrState → Statistics A → List Gauge
router_gauges core s = gauge Records (length core.database) ∷ node_gauges s

-- what is counted of a node, what it has, and when it started
abbrev pub told_counts : {A : Type 0} → ConfigValue → ℕ → Statistics A → Format → List Gauge → List ℕ
told_counts c number s format gauges = counts_text format (node_name c number) s.tallies.entries gauges s.started

-- a router's; one that is down has no records
abbrev pub router_counts : {A : Type 0} → ConfigValue → ℕ → Option EtrState → Statistics A → Format → List ℕ
router_counts c number (Some core) s format = told_counts c number s format (router_gauges core s)
router_counts c number None s format = told_counts c number s format (node_gauges s)

-- the lines that answer a question to the router with a number at a moment, by its core, if it is up
abbrev pub AnswersRouter : {A : Type 0} → ConfigValue → ℕ → Option EtrState → Statistics A → Question → ℕ → List ℕ → Type 0
AnswersRouter c number (Some core) s (Router question) now text = TellsRouter c number (servers_of c number) core question now text
AnswersRouter c number None s (Router question) now text = text ≡ line_text c Node (Down number)
AnswersRouter c number core s (Disallowed records) now text = text ≡ disallowed_text c number records
AnswersRouter c number core s Nodes now text = text ≡ nodes_text c
AnswersRouter c number core s (Counts format) now text = text ≡ router_counts c number core s format
AnswersRouter c number core s _ now text = text ≡ fault_text Word
