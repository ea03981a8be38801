-- What a node that runs answers its user part by part.
use Rattle.std.specs.Prelude.{◌≡◌, ℕ, Bool, nat_lt, List, [], ◌++◌, length, Option, Some, None, if◌then◌else◌}
use Rattle.std.specs.Bool.{MatchBool}
use Rattle.std.specs.Global.{Global}
use Rattle.lisp_policy.specs.Configuration.{ConfigValue}
use Rattle.lisp_records.specs.Row.{RowValue}
use Rattle.lisp_lookup.specs.Table.{live_from}
use Rattle.lisp_server.specs.Server.{ServerState}
use Rattle.lisp_script.specs.declared.fault.ScriptWhat.TheVariants.{Word}
use Rattle.lisp_lines.specs.Name.{node_name}
use Rattle.lisp_lines.specs.Nodes.{nodes_text}
use Rattle.lisp_lines.specs.Query.{hold_by_parts}
use Rattle.lisp_log.specs.declared.replays.Replay.{Replay}
use Rattle.lisp_lines.specs.Listing.{ListsRows, most_rows}
use Rattle.lisp_lines.specs.Server.{TellsHeld, TellsServer}
use Rattle.lisp_lines.specs.Walk.{HavePlaces, walk_start}
use Rattle.lisp_lines.specs.declared.server.ServerQuestion.TheVariants.{Hold}
use Rattle.lisp_lines.specs.declared.walk.Walk.{Walk}
use Rattle.lisp_lines.specs.declared.wording.Wording.TheVariants.{Node}
use Rattle.lisp_statistics.specs.Gathering.{Counted, Gathers, StaysExact}
use Rattle.lisp_statistics.specs.Replays.{replay_count}
use Rattle.lisp_statistics.specs.RouterList.{ListsRouters, is_long_list, list_start, listed_text, routers_by_parts}
use Rattle.lisp_statistics.specs.RouterMetrics.{router_metrics_text}
use Rattle.lisp_statistics.specs.Routers.{routers_counted_text}
use Rattle.lisp_statistics.specs.SiteCounts.{site_counts_text}
use Rattle.lisp_statistics.specs.SiteRefusals.{site_refusals_text}
use Rattle.lisp_statistics.specs.declared.counts.Format.{Format}
use Rattle.lisp_statistics.specs.declared.gathering.Gathering.{Gathering}
use Rattle.lisp_statistics.specs.declared.router_list.RouterList.{RouterList}
use Rattle.lisp_statistics.specs.declared.statistics.Statistics.{Statistics}
use Rattle.lisp_turns.specs.Node.{CoreState, ServerCore, RouterCore}
use Rattle.lisp_control.specs.Answer.{AnswersRouter, fault_text, server_gauges, told_counts}
use Rattle.lisp_control.specs.Gathering.{compared_text}
use Rattle.lisp_control.specs.declared.part.Progress.{Progress}
use Rattle.lisp_control.specs.declared.part.Progress.TheVariants as progresses
use Rattle.lisp_control.specs.declared.question.Question.{Question}
use Rattle.lisp_control.specs.declared.question.Question.TheVariants as questions

-- ---- the rows that a Map-Server holds

-- more rows are held than a part has
abbrev pub IsLong : List RowValue → ℕ → Bool → Type 0
IsLong rows now is_long = HavePlaces rows → is_long ≡ nat_lt most_rows (length (live_from rows 0 now))

-- few come at once; before more a line says that they come by parts
abbrev pub BeginsHold : ConfigValue → ℕ → ServerState → ℕ → List ℕ → Option Progress → Type 0
BeginsHold c number core now text rest = (is_long : Bool) × IsLong core.rows now is_long
    × MatchBool is_long ((text ≡ hold_by_parts (node_name c number)) × (rest ≡ Some (progresses.Lists (walk_start now)))) (TellsHeld c Node number core now text × (rest ≡ None))

-- the next of them come, and with the last ones the line that says how many came
abbrev pub GoesOnHold : ConfigValue → ℕ → ServerState → Walk → List ℕ → Option Progress → Type 0
GoesOnHold c number core old text rest = (new : Walk) × (is_end : Bool) × ListsRows c number core.rows old new text is_end
    × (rest ≡ (if is_end then None else Some (progresses.Lists new)))

abbrev pub HoldPart : ConfigValue → ℕ → ServerState → Progress → ℕ → List ℕ → Option Progress → Type 0
HoldPart c number core (progresses.Lists walk) now text rest = GoesOnHold c number core walk text rest
HoldPart c number core _ now text rest = BeginsHold c number core now text rest

-- ---- what is counted of them

-- the counts go on, or begin at a moment
abbrev pub IsCountedSoFar : Progress → ℕ → Gathering Global → Type 0
IsCountedSoFar (progresses.Counts rows) now old = old ≡ rows
IsCountedSoFar _ now old = (old.walk ≡ walk_start now) × Counted old []

-- where all rows are counted the answer goes on by these counts; before that there is no text
pub record CountsPart (core : ServerState) (progress : Progress) (now : ℕ) (GoesOn : Gathering Global → List ℕ → Option Progress → Type 0) (text : List ℕ) (rest : Option Progress) : Type 0 where
  pub old : Gathering Global
  pub new : Gathering Global
  pub is_end : Bool
  pub so_far : IsCountedSoFar progress now old
  pub counts : Gathers core.rows old new is_end
  pub exact : StaysExact core.rows old new is_end
  pub told : MatchBool is_end (GoesOn new text rest) ((text ≡ []) × (rest ≡ Some (progresses.Counts new)))

-- the routers that it heard, with their rows, and those that it never heard; and its runs of replays
abbrev pub told_routers : {A : Type 0} → ConfigValue → ℕ → Statistics A → List Replay → ℕ → Gathering Global → List ℕ
told_routers c number s runs now rows = routers_counted_text c number now rows.routers s.heard.entries runs

-- few routers and runs come at once; before more a line says that they come by parts
abbrev pub BeginsRouters : {A : Type 0} → ConfigValue → ℕ → Statistics A → List Replay → ℕ → Gathering Global → List ℕ → Option Progress → Type 0
BeginsRouters c number s runs now rows text rest =
    MatchBool (is_long_list s.heard.entries runs) ((text ≡ routers_by_parts (node_name c number)) × (rest ≡ Some (progresses.Routers (list_start rows)))) ((text ≡ told_routers c number s runs now rows) × (rest ≡ None))

-- the next of them come, and with the last ones the routers that were never heard, the runs, and the line that says how many lines came
abbrev pub GoesOnRouters : {A : Type 0} → ConfigValue → ℕ → Statistics A → List Replay → RouterList Global → List ℕ → Option Progress → Type 0
GoesOnRouters c number s runs old text rest = (new : RouterList Global) × (is_end : Bool) × ListsRouters c number (listed_text c old.rows) s.heard.entries runs old new text is_end
    × (rest ≡ (if is_end then None else Some (progresses.Routers new)))

abbrev pub HeardPart : {A : Type 0} → ConfigValue → ℕ → ServerState → Statistics A → List Replay → Progress → ℕ → List ℕ → Option Progress → Type 0
HeardPart c number core s runs (progresses.Routers list) now text rest = GoesOnRouters c number s runs list text rest
HeardPart c number core s runs progress now text rest = CountsPart core progress now (BeginsRouters c number s runs now) text rest

-- what is counted of it, what it has, what it holds of sites, what the limits of sites refused, and the metrics of its routers
abbrev pub told_server : {A : Type 0} → ConfigValue → ℕ → ServerState → Statistics A → List Replay → Format → ℕ → Gathering Global → List ℕ
told_server c number core s runs format now rows = told_counts c number s format (server_gauges rows core (replay_count now runs) s)
    ++ site_counts_text format (node_name c number) core.sites rows.routers.entries ++ site_refusals_text format (node_name c number) s.by_site.entries
    ++ router_metrics_text format c number s now

abbrev pub TellsCounts : {A : Type 0} → ConfigValue → ℕ → ServerState → Statistics A → List Replay → Format → ℕ → Gathering Global → List ℕ → Option Progress → Type 0
TellsCounts c number core s runs format now rows text rest = (text ≡ told_server c number core s runs format now rows) × (rest ≡ None)

-- ---- a part of an answer, and how far the answer is then

abbrev pub ServerPart : {A : Type 0} → ConfigValue → ℕ → ServerState → Statistics A → List Replay → Question → Progress → ℕ → List ℕ → Option Progress → Type 0
ServerPart c number core s runs (questions.Server Hold) progress now text rest = HoldPart c number core progress now text rest
ServerPart c number core s runs (questions.Server question) progress now text rest = TellsServer Global c Node number core question now text × (rest ≡ None)
ServerPart c number core s runs questions.Routers progress now text rest = HeardPart c number core s runs progress now text rest
ServerPart c number core s runs (questions.Counts format) progress now text rest = CountsPart core progress now (TellsCounts c number core s runs format now) text rest
ServerPart c number core s runs questions.Nodes progress now text rest = (text ≡ nodes_text c) × (rest ≡ None)
ServerPart c number core s runs (questions.Compare sites) progress now text rest = (text ≡ compared_text (node_name c number) core.sites sites) × (rest ≡ None)
ServerPart c number core s runs _ progress now text rest = (text ≡ fault_text Word) × (rest ≡ None)

-- by the core of the node with a number at a moment, by what is counted of it, and by its runs of replays
abbrev pub AnswersPart : {A : Type 0} → ConfigValue → ℕ → CoreState → Statistics A → List Replay → Question → Progress → ℕ → List ℕ → Option Progress → Type 0
AnswersPart c number (ServerCore core) s runs question progress now text rest = ServerPart c number core s runs question progress now text rest
AnswersPart c number (RouterCore core) s runs question progress now text rest = AnswersRouter c number core s question now text × (rest ≡ None)
