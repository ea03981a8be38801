-- Whether a node is asked a question, or told it; whether it answers that this is neither, or that it doesn't do it; what is printed of that.
use Rattle.std.specs.Prelude.{◌≡◌, ◌⊎◌, ℕ, ◌==◌, nat_lt, Bool, false, List, [], ◌∷◌, ◌++◌, codes, Option, Some, None, Result, Ok, Err, IsOk, if◌then◌else◌}
use Rattle.std.specs.Int.{is_in_range}
use Rattle.std.specs.Io.KnownBytes.{Appends}
use Rattle.std.specs.List.{after_first, before_first, list_any}
use Rattle.std.specs.Option.{MatchOption, option_and_then}
use Rattle.lisp_files.specs.Closing.{whole}
use Rattle.lisp_script.specs.Words.{is_word}
use Rattle.lisp_texts.specs.Number.{number_of}
use Rattle.lisp_answer.specs.declared.fault.AnswerFault.TheVariants.{Write}
use Rattle.lisp_json.specs.Object.{AreObjectsOf}
use Rattle.lispd_cli.specs.PrintedLine.{fault_of}
use Rattle.lispd_cli.specs.declared.asking.Advice.{Advice}
use Rattle.lispd_cli.specs.declared.asking.Advice.TheVariants.{Questions, Orders, Address, Records}
use Rattle.lispd_cli.specs.declared.asking.Errand.{Errand}
use Rattle.lispd_cli.specs.declared.asking.Errand.TheVariants.{Ask, Tell}
use Rattle.lispd_cli.specs.declared.fault.ProgramFault.{ProgramFault}
use Rattle.lispd_cli.specs.declared.fault.ProgramFault.TheVariants.{Answer, Refused, Run, Setup, Unanswered}
use Rattle.lispd_cli.specs.declared.fault.SetupFault.TheVariants as setups

-- the first word ends at a space (32)
abbrev pub first_word : List ℕ → List ℕ
first_word question = before_first (λ b. b == 32) question

-- it is told a word of these, and asked any other
abbrev pub orders : List (List ℕ)
orders = codes "backup" ∷ codes "change" ∷ codes "notice" ∷ codes "reload" ∷ codes "rotate" ∷ []

abbrev pub errand_of : List ℕ → Errand
errand_of question = if list_any (λ word. is_word word (first_word question)) orders then Tell else Ask

-- the faults of a line that is no question and no order are 80 to 86
abbrev pub line_fault : ℕ → Option ℕ
line_fault number = if nat_lt number 80 then None else if nat_lt 86 number then None else Some number

-- the one that an answer tells, a line `fault N`
abbrev pub fault_in : List ℕ → Option ℕ
fault_in lines = if is_word (codes "fault") (first_word lines) then option_and_then line_fault (number_of (after_first (λ b. b == 32) lines)) else None

-- the line that was asked is faulty
abbrev pub bad_line : ℕ → ProgramFault
bad_line number = Run (record { number = number; line = 0 })

-- what is advised where a line is no question or order, by its fault
abbrev pub listed : Errand → Advice
listed Ask = Questions
listed Tell = Orders

abbrev pub spelled : Errand → Advice
spelled Ask = Address
spelled Tell = Records

abbrev pub advice_of : Errand → ℕ → Option Advice
advice_of errand number = if is_in_range 80 82 number then Some (listed errand) else if number == 84 then Some (spelled errand) else None

-- a space (32) parts a line's words
abbrev pub behind_word : List ℕ → List ℕ
behind_word line = after_first (λ b. b == 32) line

abbrev pub second_word : List ℕ → List ℕ
second_word line = first_word (behind_word line)

abbrev pub third_word : List ℕ → List ℕ
third_word line = first_word (behind_word (behind_word line))

-- why a node doesn't do what it was told: the number behind `fault`, or behind `refused` and its name; that of a router that
-- didn't start where it is down
abbrev pub refused_in : List ℕ → Option ℕ
refused_in lines =
    if is_word (codes "fault") (first_word lines) then fault_of (second_word lines)
    else if is_word (codes "refused") (first_word lines) then fault_of (third_word lines)
    else if is_word (codes "down") (first_word lines) then Some 76 else None

abbrev pub refusal_of : Errand → List ℕ → Option ℕ
refusal_of Ask lines = None
refusal_of Tell lines = refused_in lines

-- the program ends so: with that refusal, if there is one
abbrev pub Ends : {X : Type 0} → Option ℕ → Result X ProgramFault → Type 0
Ends None result = IsOk result
Ends (Some number) result = result ≡ Err (Refused number)

-- lines are written, with the last one's line feed (10), or can't be
abbrev pub Writes : {X : Type 0} → Errand → List ℕ → Option (List ℕ) → Option (List ℕ) → Result X ProgramFault → Type 0
Writes errand lines old new result = (result ≡ Err (Answer Write)) ⊎ (Ends (refusal_of errand lines) result × Appends old new (lines ++ 10 ∷ []))

-- nothing is written, and the program ends with a fault
abbrev pub EndsAt : {X : Type 0} → ProgramFault → Option (List ℕ) → Option (List ℕ) → Result X ProgramFault → Type 0
EndsAt fault old new result = (result ≡ Err fault) × (new ≡ old)

-- the lines of an answer; where they are the fault of the line that was asked, it is the program's
abbrev pub PrintsLines : {X : Type 0} → Errand → List ℕ → Option (List ℕ) → Option (List ℕ) → Result X ProgramFault → Type 0
PrintsLines errand lines old new result = MatchOption (fault_in lines) (Writes errand lines old new result) (λ number. EndsAt (bad_line number) old new result)

-- an answer; one that is cut off is none
abbrev pub PrintsAnswer : {X : Type 0} → Errand → List ℕ → Option (List ℕ) → Option (List ℕ) → Result X ProgramFault → Type 0
PrintsAnswer errand answer old new result = MatchOption (whole answer) (EndsAt Unanswered old new result) (λ lines. PrintsLines errand lines old new result)

-- a router's site doesn't allow some records: `disallowed NAME N`, where N isn't 0
abbrev pub is_some_number : Option ℕ → Bool
is_some_number None = false
is_some_number (Some n) = nat_lt 0 n

abbrev pub disallows_in : List ℕ → Bool
disallows_in head = if is_word (codes "disallowed") (first_word head) then is_some_number (number_of (third_word head)) else false

-- in the first line of an answer, which ends at a line feed (10)
abbrev pub first_line : List ℕ → List ℕ
first_line answer = before_first (λ b. b == 10) answer

abbrev pub disallows : List ℕ → Bool
disallows answer = disallows_in (first_line answer)

-- as JSON, an object a line: the objects of these lines are written; or can't be; or memory is refused before any is
abbrev pub WritesObjects : {X : Type 0} → Type 0 → List ℕ → Option (List ℕ) → Option (List ℕ) → Result X ProgramFault → Type 0
WritesObjects may_refuse lines old new (Ok _) = (objects : List ℕ) × AreObjectsOf lines objects × Appends old new objects
WritesObjects may_refuse lines old new (Err (Answer Write)) = Unit {0}
WritesObjects may_refuse lines old new (Err (Setup setups.OutOfMemory)) = (new ≡ old) × may_refuse
WritesObjects may_refuse lines old new (Err _) = ⊥

-- where the lines are the fault of the line that was asked, it is the program's
abbrev pub PrintsObjectsOf : {X : Type 0} → Type 0 → List ℕ → Option (List ℕ) → Option (List ℕ) → Result X ProgramFault → Type 0
PrintsObjectsOf may_refuse lines old new result = MatchOption (fault_in lines) (WritesObjects may_refuse lines old new result) (λ number. EndsAt (bad_line number) old new result)

-- an answer; one that is cut off is none
abbrev pub PrintsObjects : {X : Type 0} → Type 0 → List ℕ → Option (List ℕ) → Option (List ℕ) → Result X ProgramFault → Type 0
PrintsObjects may_refuse answer old new result = MatchOption (whole answer) (EndsAt Unanswered old new result) (λ lines. PrintsObjectsOf may_refuse lines old new result)
