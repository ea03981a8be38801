-- How severe it is that a running node prints a line, in the words of RFC 5424 section 6.2.1.
use Rattle.std.specs.Prelude.{ℕ, ◌==◌, Bool, false, ◌||◌, List, [], ◌∷◌, codes, Option, Some, None, if◌then◌else◌}
use Rattle.std.specs.List.{list_any}
use Rattle.lisp_json.specs.declared.severity.Severity.{Severity}
use Rattle.lisp_json.specs.declared.severity.Severity.TheVariants.{Error, Warning, Info}
use Rattle.lisp_json.specs.Words.{is_among, number_in, words_of}
use Rattle.lisp_json.specs.Told.{take_names}

-- numbers of refusals whose cause is the node itself: its store fails, or has no nonce above the last one (35, 38, 41, 42, 56, 59, 64, 65, 68);
-- its memory ran out (9, 36, 48, 58, 66); its socket fails (90, 91)
abbrev pub failing_numbers : List ℕ
failing_numbers = 9 ∷ 35 ∷ 36 ∷ 38 ∷ 41 ∷ 42 ∷ 48 ∷ 56 ∷ 58 ∷ 59 ∷ 64 ∷ 65 ∷ 66 ∷ 68 ∷ 90 ∷ 91 ∷ []

abbrev pub is_failing : Option ℕ → Bool
is_failing (Some number) = list_any (λ failing. number == failing) failing_numbers
is_failing None = false

-- kinds of lines: a commit failed
abbrev pub failing_kinds : List (List ℕ)
failing_kinds = codes "restarted" ∷ []

-- lines are lost, a node goes away or is elsewhere, or messages are refused
abbrev pub warning_kinds : List (List ℕ)
warning_kinds = codes "dropped" ∷ codes "expired" ∷ codes "moved" ∷ codes "refused" ∷ codes "replays" ∷ codes "silent" ∷ []

-- that of a line of a kind, with the number of a refusal, if it has one
abbrev pub severity_of_kind : List ℕ → Option ℕ → Severity
severity_of_kind kind number =
    if is_failing number || is_among failing_kinds kind then Error
    else if is_among warning_kinds kind then Warning
    else Info

abbrev pub severity_of_words : List (List ℕ) → Severity
severity_of_words [] = Info
severity_of_words (kind ∷ words) = severity_of_kind kind (number_in kind (take_names kind words).1)

abbrev pub severity_of : List ℕ → Severity
severity_of line = severity_of_words (words_of line)

-- its word
abbrev pub severity_word : Severity → List ℕ
severity_word Error = codes "error"
severity_word Warning = codes "warning"
severity_word Info = codes "info"
