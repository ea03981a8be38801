use Rattle.std.proofs.Common.{ap, ◌∙◌, arith}
use Rattle.lisp_records.specs.Reading.{start_at}
use Rattle.lisp_records.proofs.Faults.{is_fault, gives_fault, of_fault, not_met, no_fault, start_plain}
use Rattle.lisp_records.proofs.Positions.{parts_are_read}
use Rattle.lisp_records.proofs.Steps.{start_fault, start_holds, record_stops, record_fails}
use Rattle.lisp_records.proofs.record.read_at.Goals as goal

pub returns-in_err-addr-clause-exact : goal.returns-in_err-addr-clause-exact
returns-in_err-addr-clause-exact g c =
    gives_fault _ c.from_residual.result c.in_err-addr.field-0.0 _ c.from_residual.ensures.1 (rw (← c.split_at.ensures.back) (record_stops _ c.in_err-addr.field-0.0 c.in_err-addr.ensures.start))

pub returns-in_err-addr-clause-early : goal.returns-in_err-addr-clause-early
returns-in_err-addr-clause-early g c fault fails =
    is_fault c.from_residual.result c.in_err-addr.field-0.0 fault c.from_residual.ensures.1 (start_fault _ c.in_err-addr.field-0.0 fault c.in_err-addr.ensures.start (ap start_at c.split_at.ensures.back ∙ fails))

pub returns-in_err-addr-clause-memory : goal.returns-in_err-addr-clause-memory
returns-in_err-addr-clause-memory g c = not_met _ c.from_residual.result c.in_err-addr.field-0.0 _ (start_plain _) c.from_residual.ensures.1 c.in_err-addr.ensures.start

pub returns-in_err-locators-clause-exact : goal.returns-in_err-locators-clause-exact
returns-in_err-locators-clause-exact g c =
    gives_fault _ c.from_residual-in_err-locators.result c.in_err-locators.field-0.0 _ c.from_residual-in_err-locators.ensures.1
    (rw (← c.split_at.ensures.back) (record_fails _ c.in_ok-addr.rest.now c.in_ok-addr.addr c.in_err-locators.field-0.0 c.in_ok-addr.ensures.start c.in_err-locators.ensures.locators))

pub returns-in_err-locators-clause-early : goal.returns-in_err-locators-clause-early
returns-in_err-locators-clause-early g c fault fails = absurd (start_holds _ (c.in_ok-addr.addr, c.in_ok-addr.rest.now) fault c.in_ok-addr.ensures.start (ap start_at c.split_at.ensures.back ∙ fails))

pub returns-in_err-locators-clause-memory : goal.returns-in_err-locators-clause-memory
returns-in_err-locators-clause-memory g c =
    of_fault c.from_residual-in_err-locators.result c.in_err-locators.field-0.0 _ c.from_residual-in_err-locators.ensures.1 (rw c.split_at.ensures.back at c.in_err-locators.ensures.memory)

pub record_of-requires-clause-fits : goal.record_of-requires-clause-fits
record_of-requires-clause-fits g c =
    (parts_are_read c.args.bytes.now _ c.in_ok-addr.rest.now c.in_ok-locators.rest.now c.args.at c.in_ok-addr.addr c.in_ok-locators.locators.items c.requires (λ i. omega (arith, c.type_inv.bytes i)) c.split_at.ensures.back c.in_ok-addr.ensures.start c.in_ok-locators.ensures.locators).fits

pub overflow_sub-result : goal.overflow_sub-result
overflow_sub-result g c =
    (parts_are_read c.args.bytes.now _ c.in_ok-addr.rest.now c.in_ok-locators.rest.now c.args.at c.in_ok-addr.addr c.in_ok-locators.locators.items c.requires (λ i. omega (arith, c.type_inv.bytes i)) c.split_at.ensures.back c.in_ok-addr.ensures.start c.in_ok-locators.ensures.locators).short

pub returns-clause-exact : goal.returns-clause-exact
returns-clause-exact g c =
    let read = parts_are_read c.args.bytes.now _ c.in_ok-addr.rest.now c.in_ok-locators.rest.now c.args.at c.in_ok-addr.addr c.in_ok-locators.locators.items c.requires (λ i. omega (arith, c.type_inv.bytes i)) c.split_at.ensures.back c.in_ok-addr.ensures.start c.in_ok-locators.ensures.locators in
    rw (read.behind, c.record_of.ensures) read.read

pub returns-clause-within : goal.returns-clause-within
returns-clause-within g c =
    let read = parts_are_read c.args.bytes.now _ c.in_ok-addr.rest.now c.in_ok-locators.rest.now c.args.at c.in_ok-addr.addr c.in_ok-locators.locators.items c.requires (λ i. omega (arith, c.type_inv.bytes i)) c.split_at.ensures.back c.in_ok-addr.ensures.start c.in_ok-locators.ensures.locators in
    (read.from, omega arith)

pub returns-clause-early : goal.returns-clause-early
returns-clause-early g c fault fails = absurd (start_holds _ (c.in_ok-addr.addr, c.in_ok-addr.rest.now) fault c.in_ok-addr.ensures.start (ap start_at c.split_at.ensures.back ∙ fails))

pub returns-clause-memory : goal.returns-clause-memory
returns-clause-memory g c is = no_fault _ _ is
