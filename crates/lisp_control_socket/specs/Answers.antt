-- What a user's connection is to take of an answer.
use Rattle.std.specs.Prelude.{◌≡◌, ℕ, List, length, Option, Some, None, String}
use Rattle.std.specs.Global.{Global}
use Rattle.std.specs.Option.{MatchOption}
use Rattle.std.specs.String.{string_bytes}
use Rattle.lisp_policy.specs.Configuration.{ConfigValue}
use Rattle.lisp_policy.specs.Site.{SiteValue}
use Rattle.lisp_script.specs.declared.fault.ScriptWhat.TheVariants.{Record}
use Rattle.lisp_control.specs.Answer.{fault_text}
use Rattle.lisp_control.specs.Gathering.{gathered_text, gathered_with}
use Rattle.lisp_control.specs.declared.part.Part.{Part}
use Rattle.lisp_control.specs.declared.question.Question.{Question}
use Rattle.lisp_files.specs.Closing.{closed}
use Rattle.lisp_control_socket.specs.declared.connection.Next.{Next}
use Rattle.lisp_control_socket.specs.declared.connection.Next.TheVariants as nexts
use Rattle.lisp_control_socket.specs.declared.connection.Stage.{Stage}
use Rattle.lisp_control_socket.specs.declared.connection.Stage.TheVariants as stages

-- all that is left of an answer, closed, from its front on; nothing where memory for it was refused
abbrev pub ClosesWith : Type 0 → List ℕ → Stage → Type 0
ClosesWith may_refuse text (stages.Answered answer written next) = (string_bytes answer ≡ closed text) × (written ≡ 0) × (next ≡ nexts.End)
ClosesWith may_refuse text stages.Ended = may_refuse
ClosesWith may_refuse text _ = ⊥

-- a part of the answer to a question, and what is to come after it; the last part is closed
abbrev pub WritesPart : Type 0 → Question → Part → Stage → Type 0
WritesPart may_refuse question part stage = MatchOption part.rest (ClosesWith may_refuse (string_bytes part.text) stage)
    (λ progress. stage ≡ stages.Answered part.text 0 (nexts.Part (record { question = question; progress = progress })))

-- a text from its front on, after which the connection's next line comes
abbrev pub WritesBeforeLine : String Global → Stage → Type 0
WritesBeforeLine text stage = stage ≡ stages.Answered text 0 nexts.Line

-- what is written by which sites were gathered: how many they are, and the next line comes; the fault of sites where there are none to
-- gather, closed
abbrev pub AnswersWith : ConfigValue → ℕ → Option (List SiteValue) → List ℕ → ℕ → Next → Type 0
AnswersWith c number None text written next = (text ≡ closed (fault_text Record)) × (written ≡ 0) × (next ≡ nexts.End)
AnswersWith c number (Some sites) text written next = (text ≡ gathered_text c number (length sites)) × (written ≡ 0) × (next ≡ nexts.Line)

-- sites are gathered, and answered; or nothing more is written, where memory ran out
abbrev pub AnswersSites : ConfigValue → ℕ → Option (List SiteValue) → Option (List SiteValue) → List ℕ → Stage → Type 0
AnswersSites c number old new bytes (stages.Answered text written next) =
    MatchOption (gathered_with old bytes) (new ≡ old) (λ sites. new ≡ Some sites) × AnswersWith c number (gathered_with old bytes) (string_bytes text) written next
AnswersSites c number old new bytes stages.Ended = Unit {0}
AnswersSites c number old new bytes _ = ⊥
