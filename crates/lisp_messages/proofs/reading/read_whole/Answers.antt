use Rattle.std.proofs.Common.{arith}
use Rattle.lisp_records.proofs.Faults.{is_fault, of_fault, not_met}
use Rattle.lisp_messages.specs.Meaning.{message_value}
use Rattle.lisp_messages.proofs.Faults.{gives_fault, not_read, kind_plain, tail_plain}
use Rattle.lisp_messages.proofs.ReadLemmas.{whole_given, head_fails, head_holds, head_fault, record_fails, records_few}
use Rattle.lisp_messages.proofs.reading.read_whole.Goals as goal

pub returns-in_err-kind-clause-exact : goal.returns-in_err-kind-clause-exact
returns-in_err-kind-clause-exact g c = gives_fault message_value c.from_residual.result c.in_err-kind.field-0.0 _ c.from_residual.ensures.1 (head_fails c.in_err-kind.field-0.0 c.args.bytes.now c.in_err-kind.ensures.kind)

pub returns-in_err-kind-clause-early : goal.returns-in_err-kind-clause-early
returns-in_err-kind-clause-early g c fault fails =
    is_fault c.from_residual.result c.in_err-kind.field-0.0 fault c.from_residual.ensures.1 (head_fault c.args.bytes.now c.in_err-kind.field-0.0 fault c.in_err-kind.ensures.kind fails)

pub returns-in_err-kind-clause-memory : goal.returns-in_err-kind-clause-memory
returns-in_err-kind-clause-memory g c = not_met _ c.from_residual.result c.in_err-kind.field-0.0 _ (kind_plain c.args.bytes.now) c.from_residual.ensures.1 c.in_err-kind.ensures.kind

pub returns-in_err-records-clause-exact : goal.returns-in_err-records-clause-exact
returns-in_err-records-clause-exact g c =
    gives_fault message_value c.from_residual-in_err-records.result c.in_err-records.field-0.0 _ c.from_residual-in_err-records.ensures.1 (record_fails c.in_err-records.field-0.0 c.args.bytes.now c.in_ok-kind.kind c.in_ok-kind.ensures.kind c.in_err-records.ensures.records)

pub returns-in_err-records-clause-early : goal.returns-in_err-records-clause-early
returns-in_err-records-clause-early g c fault fails = absurd (head_holds c.args.bytes.now c.in_ok-kind.kind fault c.in_ok-kind.ensures.kind fails)

pub returns-in_err-records-clause-memory : goal.returns-in_err-records-clause-memory
returns-in_err-records-clause-memory g c =
    of_fault c.from_residual-in_err-records.result c.in_err-records.field-0.0 _ c.from_residual-in_err-records.ensures.1
    (λ out. let ran = c.in_err-records.ensures.memory out in (ran.0, ((λ fault fails. head_holds c.args.bytes.now c.in_ok-kind.kind fault c.in_ok-kind.ensures.kind fails), ran.1)))

pub read_tail-requires-clause-few : goal.read_tail-requires-clause-few
read_tail-requires-clause-few g c = records_few c.args.bytes.now c.in_ok-records.records.items c.in_ok-records.tail.now (λ i. omega (arith, c.type_inv.bytes i)) c.in_ok-records.ensures.records

pub returns-clause-exact : goal.returns-clause-exact
returns-clause-exact g c = whole_given message_value c.read_tail.result c.args.bytes.now c.in_ok-kind.kind c.in_ok-records.records.items c.in_ok-records.tail.now c.in_ok-kind.ensures.kind c.in_ok-records.ensures.records c.read_tail.ensures

pub returns-clause-early : goal.returns-clause-early
returns-clause-early g c fault fails = absurd (head_holds c.args.bytes.now c.in_ok-kind.kind fault c.in_ok-kind.ensures.kind fails)

pub returns-clause-memory : goal.returns-clause-memory
returns-clause-memory g c = not_read message_value c.read_tail.result _ _ (tail_plain c.in_ok-kind.kind c.args.bytes.now c.in_ok-records.records.items c.in_ok-records.tail.now) c.read_tail.ensures
