use Rattle.std.proofs.Common.{List, ap, ◌∙◌, arith}
use Rattle.lisp_records.specs.declared.locator.Locator.{Locator}
use Rattle.lisp_records.specs.Reading.{map_record_of}
use Rattle.lisp_records.proofs.LayoutLemmas.{bare_fits, lays_fault, layout_is, locators_lack, no_record, start_lacks, start_left}
use Rattle.lisp_records.proofs.Positions.{parts_are_read}
use Rattle.lisp_records.proofs.layout.record_layout.Goals as goal

pub returns-then-at-bytes : goal.returns-then-at-bytes
returns-then-at-bytes g c = no_record c.args.bytes.now c.args.at (omega (arith, c.if-at-bytes.true))

pub returns-in_err-addr : goal.returns-in_err-addr
returns-in_err-addr g c =
    lays_fault c.args.bytes.now c.args.at c.from_residual.result c.in_err-addr.field-0.0 c.from_residual.ensures.1 (start_lacks c.args.bytes.now _ c.args.at c.in_err-addr.field-0.0 c.split_at.ensures.back c.in_err-addr.ensures.start)

pub returns-in_err-rest : goal.returns-in_err-rest
returns-in_err-rest g c =
    lays_fault c.args.bytes.now c.args.at c.from_residual-in_err-rest.result c.in_err-rest.field-0.0 c.from_residual-in_err-rest.ensures.1
    (locators_lack c.args.bytes.now _ c.in_ok-addr.locators.now c.args.at c.in_ok-addr.addr c.in_err-rest.field-0.0 c.split_at.ensures.back c.in_ok-addr.ensures.start c.in_err-rest.ensures)

pub record_of-requires-clause-fits : goal.record_of-requires-clause-fits
record_of-requires-clause-fits g c =
    let ls : List Locator = c.in_ok-rest.ensures.0 in
    let read = parts_are_read c.args.bytes.now _ c.in_ok-addr.locators.now c.in_ok-rest.rest.now c.args.at c.in_ok-addr.addr ls (omega (arith, c.if-at-bytes.false)) (λ i. omega (arith, c.type_inv.bytes i)) c.split_at.ensures.back c.in_ok-addr.ensures.start c.in_ok-rest.ensures.1 in
    rw c.new.ensures.items (bare_fits c.split_at.result.1.now c.in_ok-addr.addr ls read.fits)

pub overflow_sub-result : goal.overflow_sub-result
overflow_sub-result g c = (start_left c.args.bytes.now _ c.in_ok-addr.locators.now c.args.at c.in_ok-addr.addr (omega (arith, c.if-at-bytes.false)) c.split_at.ensures.back c.in_ok-addr.ensures.start).short

pub overflow_sub-result-2 : goal.overflow_sub-result-2
overflow_sub-result-2 g c =
    let read = parts_are_read c.args.bytes.now _ c.in_ok-addr.locators.now c.in_ok-rest.rest.now c.args.at c.in_ok-addr.addr c.in_ok-rest.ensures.0 (omega (arith, c.if-at-bytes.false)) (λ i. omega (arith, c.type_inv.bytes i)) c.split_at.ensures.back c.in_ok-addr.ensures.start c.in_ok-rest.ensures.1 in
    read.short

pub returns : goal.returns
returns g c =
    let bare = c.record_of.ensures ∙ ap (map_record_of c.split_at.result.1.now c.in_ok-addr.addr) c.new.ensures.items in
    rw bare (layout_is c.args.bytes.now _ c.in_ok-addr.locators.now c.in_ok-rest.rest.now c.args.at c.in_ok-addr.addr c.in_ok-rest.ensures.0 (omega (arith, c.if-at-bytes.false)) (λ i. omega (arith, c.type_inv.bytes i)) c.split_at.ensures.back c.in_ok-addr.ensures.start c.in_ok-rest.ensures.1)
