-- The object of a line that a running node prints.
use Rattle.std.specs.Prelude.{◌≡◌, ℕ, List, ◌++◌, codes, drop}
use Rattle.json.specs.Print.{quoted}
use Rattle.lisp_json.specs.Object.{IsObjectOf}
use Rattle.lisp_json.specs.Severity.{severity_of, severity_word}
use Rattle.lisp_json.specs.Time.{IsTimeOf}
use Rattle.lisp_json.specs.declared.severity.Severity.{Severity}

-- its begin: the time at which the line is printed, and how severe that is
abbrev pub head_text : List ℕ → Severity → List ℕ
head_text time severity = codes "{\"time\":\"" ++ time ++ codes "\",\"severity\":" ++ quoted (severity_word severity) ++ codes ","

-- then all of the line's own object behind its brace
abbrev pub timed_text : List ℕ → Severity → List ℕ → List ℕ
timed_text time severity object = head_text time severity ++ drop 1 object

abbrev pub IsTimedObjectOf : ℕ → List ℕ → List ℕ → Type 0
IsTimedObjectOf ms line text =
    (time : List ℕ) × (object : List ℕ) × IsTimeOf ms time × IsObjectOf line object × (text ≡ timed_text time (severity_of line) object)
