-- What came of a look.
use Rattle.std.specs.Prelude.{ℕ}
use Rattle.lisp_records.specs.declared.address.Addr.{Addr}
use Rattle.lisp_requests.specs.Reply.{MapReplyValue}

-- from whom, how many ms after the first Map-Request, and the Map-Reply
pub record AnswerValue : Type 0 where
  pub from : Addr
  pub ms : ℕ
  pub reply : MapReplyValue
