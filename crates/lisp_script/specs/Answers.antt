-- What the functions of this crate answer: commands, or why words and lines are none.
use Rattle.std.specs.Prelude.{◌≡◌, ◌≢◌, ◌⊎◌, ℕ, List, ◌∷◌, map, Result, Ok, Err, Vec}
use denote.Ref.{Bor}
use Rattle.lisp_records.specs.Result.{Reads}
use Rattle.lisp_policy.specs.Site.{SiteValue}
use Rattle.lisp_policy.specs.Configuration.{ConfigValue}
use Rattle.lisp_script.specs.declared.command.Command.{Command}
use Rattle.lisp_script.specs.declared.verb.Verb.{Verb}
use Rattle.lisp_script.specs.declared.verb.Verb.TheVariants as verbs
use Rattle.lisp_script.specs.declared.fault.ScriptWhat.{ScriptWhat}
use Rattle.lisp_script.specs.declared.fault.ScriptWhat.TheVariants as whats
use Rattle.lisp_script.specs.declared.fault.ScriptFault.{ScriptFault}
use Rattle.lisp_script.specs.Command.{CommandValue, command_value}
use Rattle.lisp_script.specs.Fault.{Gives}
use Rattle.lisp_script.specs.Words.{texts, words_of, sites_in_words}
use Rattle.lisp_script.specs.Spelling.{spelt, restart_with, lose_with, reload_of, command_of, with_line, with_words, script_of, TellsSites, HasReload, IsReached}

-- a command is what a definition gives; memory runs out only where it may
abbrev pub GivesCommand : {A : Type 0} → Type 0 → Result (Command A) ScriptWhat → Result CommandValue ScriptWhat → Type 0
GivesCommand may result read = Gives may command_value result read

-- a command that restarts a router with a database of records
abbrev pub GivesRestart : {A : Type 0} → Type 0 → ConfigValue → List ℕ → List ℕ → List (Bor (List ℕ)) → Result (Command A) ScriptWhat → Type 0
GivesRestart may c name pick records result = GivesCommand may result (restart_with c name pick (texts records))

-- one that starts a router so after its store was lost
abbrev pub GivesLose : {A : Type 0} → Type 0 → ConfigValue → List ℕ → List ℕ → List (Bor (List ℕ)) → Result (Command A) ScriptWhat → Type 0
GivesLose may c name id records result = GivesCommand may result (lose_with c name id (texts records))

-- sites are those that words tell; nothing is said of memory, since `toml` asks for it
abbrev pub GivesSites : Result (List SiteValue) ScriptWhat → List (List ℕ) → Type 0
GivesSites result words = Gives (Unit {0}) (λ sites. sites) result (sites_in_words words)

-- the same of a command that tells a Map-Server sites
abbrev pub GivesReload : {A : Type 0} → ConfigValue → List ℕ → List ℕ → List (Bor (List ℕ)) → Result (Command A) ScriptWhat → Type 0
GivesReload c name mark words result = GivesCommand (Unit {0}) result (reload_of c name mark (texts words))

-- the command that a verb, which no list follows, and its words spell
abbrev pub Spells : {A : Type 0} → Type 0 → ConfigValue → Verb → List (List ℕ) → Result (Command A) ScriptWhat → Type 0
Spells may c verb words result = verb ≢ verbs.Change → verb ≢ verbs.Restart → verb ≢ verbs.Lose → verb ≢ verbs.Reload → GivesCommand may result (spelt c verb words)

-- one that takes no memory
abbrev pub SpellsPlainly : {A : Type 0} → ConfigValue → Verb → List (List ℕ) → Result (Command A) ScriptWhat → Type 0
SpellsPlainly c verb words result = verb ≢ verbs.Change → verb ≢ verbs.Restart → verb ≢ verbs.Lose → verb ≢ verbs.Reload → Reads command_value result (spelt c verb words)

-- where memory may run out: where it may be refused, or in sites, of which nothing is said
abbrev pub MayRunOut : Type 0 → Verb → Type 0
MayRunOut may verb = may ⊎ (verb ≡ verbs.Reload)

abbrev pub MayRunOutIn : Type 0 → List (List ℕ) → Type 0
MayRunOutIn may words = may ⊎ TellsSites words

abbrev pub MayRunOutOf : Type 0 → List ℕ → Type 0
MayRunOutOf may text = may ⊎ HasReload text

-- the command of a verb, and of a first word, and the words behind it
abbrev pub GivesOfVerb : {A : Type 0} → Type 0 → ConfigValue → Verb → List (Bor (List ℕ)) → Result (Command A) ScriptWhat → Type 0
GivesOfVerb may c verb words result = GivesCommand (MayRunOut may verb) result (spelt c verb (texts words))

abbrev pub GivesOfWord : {A : Type 0} → Type 0 → ConfigValue → List ℕ → List (Bor (List ℕ)) → Result (Command A) ScriptWhat → Type 0
GivesOfWord may c word words result = GivesCommand (MayRunOutIn may (word ∷ texts words)) result (command_of c word (texts words))

-- the command of a line, or of words, was appended to commands, where there is one
abbrev pub AddsLine : {A X Z : Type 0} → Type 0 → ConfigValue → List ℕ → Vec (Command A) Z → Vec (Command A) Z → Result X ScriptWhat → Type 0
AddsLine may c line old new result = Gives (MayRunOutIn may (words_of line)) (λ _. map command_value new.items) result (with_line c (map command_value old.items) line)

abbrev pub AddsWords : {A X Z : Type 0} → Type 0 → ConfigValue → List (Bor (List ℕ)) → Vec (Command A) Z → Vec (Command A) Z → Result X ScriptWhat → Type 0
AddsWords may c words old new result = Gives (MayRunOutIn may (texts words)) (λ _. map command_value new.items) result (with_words c (map command_value old.items) (texts words))

-- the commands of a script
abbrev pub IsScript : {A : Type 0} → ConfigValue → List ℕ → List (Command A) → Type 0
IsScript c text commands = script_of c text ≡ Ok (map command_value commands)

-- a fault that isn't out of memory is the first of the script
abbrev pub IsFirstFault : ConfigValue → List ℕ → ScriptFault → Type 0
IsFirstFault c text fault = fault.what ≢ whats.Memory → script_of c text ≡ Err fault

-- one that is comes only where memory may be refused, or sites are told
abbrev pub RunsOutWhereItMay : Type 0 → List ℕ → ScriptFault → Type 0
RunsOutWhereItMay may text fault = fault.what ≡ whats.Memory → MayRunOutOf may text

-- and at a line that is reached
abbrev pub RunsOutWithinReach : ConfigValue → List ℕ → ScriptFault → Type 0
RunsOutWithinReach c text fault = fault.what ≡ whats.Memory → IsReached c text fault.line
