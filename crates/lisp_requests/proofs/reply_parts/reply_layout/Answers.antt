use Rattle.std.proofs.Common.{Ok, ap, ◌∙◌}
use Rattle.lisp_requests.proofs.ReplyLemmas.{head_fails}
use Rattle.lisp_requests.proofs.ReplyLayouts.{lays_fault, lays_out, more, no_records}
use Rattle.lisp_requests.proofs.reply_parts.reply_layout.Goals as goal

pub returns-in_err-read_head : goal.returns-in_err-read_head
returns-in_err-read_head g c = lays_fault c.args.bytes.now c.from_residual.result c.in_err-read_head.field-0.0 c.from_residual.ensures.1 (head_fails c.args.bytes.now c.in_err-read_head.field-0.0 c.in_err-read_head.ensures.rest)

pub returns-in_err-end : goal.returns-in_err-end
returns-in_err-end g c =
    let passed = c.in_ok-read_head.ensures.rest ∙ ap Ok c.in_ok-read_head.ensures.skips in
    lays_fault c.args.bytes.now c.from_residual-in_err-end.result c.in_err-end.field-0.0 c.from_residual-in_err-end.ensures.1 (no_records c.args.bytes.now passed c.in_err-end.field-0.0 c.in_err-end.ensures.records)

pub returns-then-end-bytes : goal.returns-then-end-bytes
returns-then-end-bytes g c =
    let passed = c.in_ok-read_head.ensures.rest ∙ ap Ok c.in_ok-read_head.ensures.skips in
    more c.args.bytes.now passed c.in_ok-end.end c.in_ok-end.ensures.records.0 c.in_ok-end.ensures.within c.in_ok-end.ensures.records.1 c.if-end-bytes.true

pub returns : goal.returns
returns g c =
    let passed = c.in_ok-read_head.ensures.rest ∙ ap Ok c.in_ok-read_head.ensures.skips in
    let said = c.layout_of.ensures in
    lays_out c.args.bytes.now passed c.in_ok-end.end c.in_ok-end.ensures.records.0 c.in_ok-end.ensures.within c.in_ok-end.ensures.records.1 c.if-end-bytes.false c.layout_of.result said.fields said.count said.place
