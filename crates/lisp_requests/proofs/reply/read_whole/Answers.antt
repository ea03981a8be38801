use Rattle.std.proofs.Common.{sym, ◌∙◌}
use Rattle.lisp_requests.proofs.GivenLaws.{gives_fault}
use Rattle.lisp_requests.proofs.ReplyLemmas.{head_fails, records_fail, trails, reply_is}
use Rattle.lisp_requests.proofs.reply.read_whole.Goals as goal

pub returns-in_err-rest-clause-exact : goal.returns-in_err-rest-clause-exact
returns-in_err-rest-clause-exact g c = gives_fault _ c.from_residual.result c.in_err-rest.field-0.0 _ c.from_residual.ensures.1 (λ other. head_fails c.args.bytes.now c.in_err-rest.field-0.0 c.in_err-rest.ensures.rest)

pub returns-in_err-records-clause-exact : goal.returns-in_err-records-clause-exact
returns-in_err-records-clause-exact g c =
    gives_fault _ c.from_residual-in_err-records.result c.in_err-records.field-0.0 _ c.from_residual-in_err-records.ensures.1 (λ other. records_fail c.args.bytes.now c.in_ok-rest.rest.now c.in_err-records.field-0.0 c.in_ok-rest.ensures.rest (c.in_err-records.ensures.records other))

pub returns-then-not-is_empty-clause-exact : goal.returns-then-not-is_empty-clause-exact
returns-then-not-is_empty-clause-exact g c other =
    trails c.args.bytes.now c.in_ok-rest.rest.now c.in_ok-records.records.items c.in_ok-records.tail.now c.in_ok-rest.ensures.rest c.in_ok-records.ensures.records (sym c.is_empty.ensures ∙ c.if-not-is_empty.true)

pub returns-clause-exact : goal.returns-clause-exact
returns-clause-exact g c =
    rw c.reply_of.ensures (reply_is c.args.bytes.now c.in_ok-rest.rest.now c.in_ok-records.records.items c.in_ok-records.tail.now c.in_ok-rest.ensures.rest c.in_ok-records.ensures.records (sym c.is_empty.ensures ∙ c.if-not-is_empty.false))
