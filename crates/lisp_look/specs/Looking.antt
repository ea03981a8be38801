-- What a look comes to: what it asks, and what it prints.
use Rattle.std.specs.Prelude.{◌≡◌, ℕ, Bool, List, Option, Some, None, Result, Ok, Err}
use Rattle.std.specs.Io.KnownBytes.{Appends, Keeps}
use Rattle.lisp_records.specs.declared.address.Addr.{Addr}
use Rattle.lisp_look.specs.Answer.{AnswerValue}
use Rattle.lisp_look.specs.Asking.{AsksFirst}
use Rattle.lisp_look.specs.Look.{LookValue, is_positive}
use Rattle.lisp_look.specs.Outside.{Log}
use Rattle.lisp_look.specs.Text.{answer_text}
use Rattle.lisp_look.specs.declared.fault.LookFault.{LookFault}
use Rattle.lisp_look.specs.declared.fault.LookFault.TheVariants.{Write}

-- a Map-Reply is printed, whole, and whether it is positive decides; nothing else is printed
abbrev pub Prints : LookValue → Option AnswerValue → Option (List ℕ) → Option (List ℕ) → Result Bool LookFault → Type 0
Prints look (Some answer) before after (Ok positive) = Appends before after (answer_text answer) × (positive ≡ is_positive look.eid answer.reply)
Prints look None before after (Ok positive) = ⊥
Prints look outcome before after (Err Write) = Unit {0}
Prints look outcome before after (Err _) = Keeps before after

-- at most so many Map-Requests are sent, and what is printed is of what came of them
pub record Looks (look : LookValue) (server : Addr) (tries : ℕ) (old new : Log) (before after : Option (List ℕ)) (result : Result Bool LookFault) : Type 0 where
  pub outcome : Option AnswerValue
  pub asks : AsksFirst look server tries old new outcome
  pub prints : Prints look outcome before after result
