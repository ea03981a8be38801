-- That rows have one answer for an address at a moment (RFC 9301 section 8.3).
use Rattle.std.specs.Prelude.{◌≡◌, ℕ, List}
use Rattle.lisp_records.specs.declared.address.Addr.{Addr}
use Rattle.lisp_records.specs.Record.{MapRecordValue}
use Rattle.lisp_records.specs.Row.{RowValue}
use Rattle.lisp_policy.specs.Site.{SiteValue}
use Rattle.lisp_lookup.specs.Answer.{Answers}
use Rattle.lisp_lookup.specs.declared.answer.Answer.{Answer}
use Rattle.lisp_lookup.specs.declared.answer.Answer.TheVariants as answers

-- an answer with the record of a reply in the place of a reference to it
pub data ShownAnswer : Type 0 where
  NoSite : ShownAnswer
  NotRegistered : ShownAnswer
  Reply : MapRecordValue → ShownAnswer
  Forward : Addr → ShownAnswer

-- what an answer shows: of a reply its record, wherever that lies
abbrev pub shown_of : {A : Type 0} → Answer A → ShownAnswer
shown_of answers.NoSite = NoSite
shown_of answers.NotRegistered = NotRegistered
shown_of (answers.Reply record_of) = Reply record_of.now
shown_of (answers.Forward to) = Forward to

-- all answers for an address at a moment show the same
abbrev pub AnswersAgree : Type 0 → Type 0 → List RowValue → List SiteValue → Addr → ℕ → Type 0
AnswersAgree A B rows sites addr now = (one : Answer A) (other : Answer B) → Answers rows sites addr now one → Answers rows sites addr now other → shown_of one ≡ shown_of other

-- they do so whatever sites, address and moment are asked for
abbrev pub HaveOneAnswer : Type 0 → Type 0 → List RowValue → Type 0
HaveOneAnswer A B rows = (sites : List SiteValue) (addr : Addr) (now : ℕ) → AnswersAgree A B rows sites addr now
