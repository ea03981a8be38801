-- On which lines of a script its commands stand.
use Rattle.std.specs.Prelude.{◌≡◌, ℕ, ◌+◌, ◌&&◌, not, nat_lt, Bool, List, [], ◌∷◌, ◌++◌, length, Option, Some, None, Ok, if◌then◌else◌}
use Rattle.std.specs.Str.{is_utf8}
use Rattle.std.specs.Str.Lines.{lines}
use Rattle.lisp_policy.specs.Configuration.{ConfigValue}
use Rattle.lisp_script.specs.Command.{CommandValue}
use Rattle.lisp_script.specs.Words.{words_of}
use Rattle.lisp_script.specs.Spelling.{is_comment, script_of}
use Rattle.lisp_script.specs.Parts.{parted}
use Rattle.lisp_script.specs.Schedule.{schedule_of}

-- a line has words; and a command, where it is no comment
abbrev pub has_words : List ℕ → Bool
has_words line = nat_lt 0 (length (words_of line))

abbrev pub has_command : List ℕ → Bool
has_command line = not (is_comment line) && has_words line

-- the number of a line that has a command
abbrev pub numbered : ℕ → List ℕ → List ℕ
numbered number line = if has_command line then number ∷ [] else []

-- the numbers of those that have one, counted from a number on
unfoldable pub numbers_from : ℕ → List (List ℕ) → List ℕ
numbers_from number [] = []
numbers_from number (line ∷ more) = numbered number line ++ numbers_from (number + 1) more

-- of a script, whose first line is line 1
abbrev pub command_lines : List ℕ → List ℕ
command_lines text = numbers_from 1 (lines text)

-- there are as many as commands, where the script is read
abbrev pub AsManyAsCommands : List ℕ → List ℕ → Type 0
AsManyAsCommands text numbers = (c : ConfigValue) (orders : List CommandValue) → script_of c text ≡ Ok orders → length numbers ≡ length orders

-- of the script of a schedule, whose first line stands right after the line ---; an input that has no script has none
abbrev pub lines_of_parts : Option (List ℕ × List ℕ) → List ℕ
lines_of_parts None = []
lines_of_parts (Some parts) = command_lines parts.1

abbrev pub schedule_lines : List ℕ → List ℕ
schedule_lines input = if is_utf8 input then lines_of_parts (parted input) else []

-- there are as many as commands, where the schedule is read
abbrev pub AsManyAsOrders : List ℕ → List ℕ → Type 0
AsManyAsOrders input numbers = (schedule : ConfigValue × List CommandValue) → schedule_of input ≡ Ok schedule → length numbers ≡ length schedule.1
