-- What a line of a user's asks of a node: a line of a script, without the node's name.
use Rattle.std.specs.Prelude.{◌⊎◌, ℕ, ◌==◌, Bool, ◌&&◌, ◌||◌, nat_le, nat_lt, List, [], ◌∷◌, ◌++◌, length, codes, Option, Some, None, Result, Ok, Err, if◌then◌else◌}
use Rattle.std.specs.List.{before_first, after_first, find}
use Rattle.std.specs.Option.{option_map}
use Rattle.lisp_records.specs.Result.{◌>>=◌}
use Rattle.lisp_policy.specs.Configuration.{ConfigValue}
use Rattle.lisp_policy.specs.Site.{SiteValue}
use Rattle.lisp_nonces.specs.declared.fate.Fate.TheVariants.{Done}
use Rattle.lisp_model.specs.declared.event.Event.TheVariants as events
use Rattle.lisp_model.specs.Trace.{EventValue}
use Rattle.lisp_script.specs.Command.{CommandValue}
use Rattle.lisp_script.specs.Spelling.{script_of, HasReload}
use Rattle.lisp_script.specs.Words.{is_word}
use Rattle.lisp_script.specs.declared.command.Command.TheVariants as commands
use Rattle.lisp_script.specs.declared.fault.ScriptFault.{ScriptFault}
use Rattle.lisp_script.specs.declared.fault.ScriptWhat.{ScriptWhat}
use Rattle.lisp_script.specs.declared.fault.ScriptWhat.TheVariants as whats
use Rattle.lisp_texts.specs.Number.{number_of}
use Rattle.lisp_lines.specs.declared.server.ServerQuestion.TheVariants as of_server
use Rattle.lisp_lines.specs.declared.router.RouterQuestion.TheVariants as of_router
use Rattle.lisp_turns.specs.declared.order.Order.{Order}
use Rattle.lisp_turns.specs.declared.order.Order.TheVariants as orders
use Rattle.lisp_control.specs.declared.question.Question.{Question}
use Rattle.lisp_control.specs.declared.question.Question.TheVariants.{Server, Router, Routers, Counts, Disallowed, Nodes, Sites, Compare, Tell}
use Rattle.lisp_statistics.specs.declared.counts.Format.TheVariants as formats

-- what an event tells the node with a number to do: its store's calls are done. A node is told other sites once they were gathered, and by no event
abbrev pub order_of : ℕ → EventValue → Option Order
order_of number (events.Notice server router Done) = if server == number then Some (orders.Notice router) else None
order_of number (events.Change router db) = if router == number then Some (orders.Change db) else None
order_of number (events.Rotate router key Done) = if router == number then Some (orders.Rotate key) else None
order_of number _ = None

abbrev pub told : Option Order → Result Question ScriptWhat
told (Some order) = Ok (Tell order)
told None = Err whats.Word

-- what is due at it
abbrev pub due_at : ConfigValue → ℕ → Question
due_at c number = if nat_lt number (length c.servers) then Server of_server.Due else Router of_router.Due

-- what is asked of the node with the number, and of no other
abbrev pub asked_of : ℕ → ℕ → Question → Result Question ScriptWhat
asked_of number node question = if node == number then Ok question else Err whats.Word

-- what a command asks of the node with a number
abbrev pub question_of : ConfigValue → ℕ → CommandValue → Result Question ScriptWhat
question_of c number (commands.Hold server) = asked_of number server (Server of_server.Hold)
question_of c number (commands.Ask server addr) = asked_of number server (Server (of_server.Ask addr))
question_of c number (commands.Acks router) = asked_of number router (Router of_router.Acks)
question_of c number (commands.Due node) = asked_of number node (due_at c number)
question_of c number (commands.Request server asked from) = Err whats.Word
question_of c number (commands.Act event) = told (order_of number event)

-- a line of a script: the name of a node behind its first word, with spaces (32) between them
abbrev pub named : List ℕ → List ℕ → List ℕ → List ℕ
named name word rest = word ++ 32 ∷ name ++ 32 ∷ rest

-- what is wrong, whichever line it is in
abbrev pub what_of : {X : Type 0} → Result X ScriptFault → Result X ScriptWhat
what_of (Ok x) = Ok x
what_of (Err fault) = Err fault.what

-- the only one of some commands
abbrev pub only : List CommandValue → Result CommandValue ScriptWhat
only (command ∷ []) = Ok command
only _ = Err whats.Word

-- where memory may run out in a line: where it may be refused, or where the line tells sites
abbrev pub MayRunOut : Type 0 → List ℕ → List ℕ → Type 0
MayRunOut may name rest = may ⊎ ((word : List ℕ) × HasReload (named name word rest))

-- what a line asks as a script's, by its first word and what is behind it
abbrev pub question_in_script : ConfigValue → ℕ → List ℕ → List ℕ → List ℕ → Result Question ScriptWhat
question_in_script c number name word rest = do
  commands ← what_of (script_of c (named name word rest))
  command ← only commands
  question_of c number command

-- what is asked that no script has a word for
abbrev pub own_words : List (List ℕ × Question)
own_words = (codes "records", Router of_router.Records) ∷ (codes "routers", Routers) ∷ (codes "counts", Counts formats.Lines)
    ∷ (codes "counts --prometheus", Counts formats.Prometheus) ∷ (codes "nodes", Nodes) ∷ []

abbrev pub own_question : List ℕ → Option Question
own_question line = option_map (λ p. p.1) (find (λ p. is_word p.0 line) own_words)

abbrev pub or_read : Option Question → Result Question ScriptWhat → Result Question ScriptWhat
or_read (Some question) read = Ok question
or_read None read = read

-- the records of an order to register others; `disallowed` asks of them, and is read as that order
abbrev pub records_of_change : Question → Result Question ScriptWhat
records_of_change (Tell (orders.Change records)) = Ok (Disallowed records)
records_of_change _ = Err whats.Word

-- so many bytes of sites may follow a line: 1 to 4 MiB
abbrev pub are_bytes : ℕ → Bool
are_bytes bytes = nat_lt 0 bytes && nat_le bytes 4194304

abbrev pub part_question : Option ℕ → Result Question ScriptWhat
part_question None = Err whats.Number
part_question (Some bytes) = if are_bytes bytes then Ok (Sites bytes) else Err whats.Number

abbrev pub question_by_word : ConfigValue → ℕ → List ℕ → List ℕ → List ℕ → Result Question ScriptWhat
question_by_word c number name word rest =
    if is_word word (codes "disallowed") then question_in_script c number name (codes "change") rest >>= records_of_change
    else if is_word word (codes "sites") then part_question (number_of rest)
    else question_in_script c number name word rest

-- what a line asks that needs no gathered sites; its first word ends at a space
abbrev pub question_of_line : ConfigValue → ℕ → List ℕ → List ℕ → Result Question ScriptWhat
question_of_line c number name line = or_read (own_question line) (question_by_word c number name (before_first (λ b. b == 32) line) (after_first (λ b. b == 32) line))

-- ---- with the sites that were gathered

-- what taking them would do; and that the node is to take them. Nothing where there are none
abbrev pub compared : Option (List SiteValue) → Result Question ScriptWhat
compared (Some sites) = Ok (Compare sites)
compared None = Err whats.Word

abbrev pub reloaded : Option (List SiteValue) → Result Question ScriptWhat
reloaded (Some sites) = Ok (Tell (orders.Reload sites))
reloaded None = Err whats.Word

-- what a line asks of the node with a number and a name
abbrev pub question_in : ConfigValue → ℕ → List ℕ → Option (List SiteValue) → List ℕ → Result Question ScriptWhat
question_in c number name gathered line =
    if is_word (codes "compare") line then compared gathered
    else if is_word (codes "reload") line then reloaded gathered
    else question_of_line c number name line

-- the sites that it leaves: those two take them
abbrev pub takes_gathered : List ℕ → Bool
takes_gathered line = is_word (codes "compare") line || is_word (codes "reload") line

abbrev pub left_of : List ℕ → Option (List SiteValue) → Option (List SiteValue)
left_of line gathered = if takes_gathered line then None else gathered
