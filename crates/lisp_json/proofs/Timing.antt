-- The object of a line with a time.
use Rattle.std.proofs.Common.{◌≡◌, ℕ, List, ap, ◌∙◌, subst}
use Rattle.lisp_json.specs.Object.{IsObjectOfWords}
use Rattle.lisp_json.specs.Severity.{severity_of_words}
use Rattle.lisp_json.specs.Time.{IsTimeOf}
use Rattle.lisp_json.specs.Timed.{IsTimedObjectOf, timed_text}
use Rattle.lisp_json.specs.Words.{words_of}
use Rattle.lisp_json.specs.declared.severity.Severity.{Severity}

-- what was made of its words step by step
pub is_timed : (ms : ℕ) (line time object text : List ℕ) (words : List (List ℕ)) (severity : Severity) → words ≡ words_of line
    → IsTimeOf ms time → IsObjectOfWords words object → severity ≡ severity_of_words words → text ≡ timed_text time severity object → IsTimedObjectOf ms line text
is_timed ms line time object text words severity divided moment is severe writes =
    (time, object, moment, subst (λ (ws : List (List ℕ)). IsObjectOfWords ws object) divided is, writes ∙ ap (λ (s : Severity). timed_text time s object) (severe ∙ ap severity_of_words divided))
