use Rattle.std.proofs.Common.{length, refl}
use Rattle.lisp_lines.specs.Query.{row_text}
use Rattle.lisp_lines.proofs.Appends.{head_text, head_alone, one_more, all_rows}
use Rattle.lisp_lines.proofs.query.hold_text.Goals as goal

pub loop-row-init : goal.loop-row-init
loop-row-init g c = head_alone c.args.config.now c.args.server _ _ _ _ c.node_name.ensures refl c.in_ok-text.ensures.text

pub loop-row-preserved : goal.loop-row-preserved
loop-row-preserved g c =
    one_more (row_text c.args.config.now c.args.wording c.args.now) (head_text c.args.config.now c.args.server (length c.args.rows.now)) c.args.rows.now c.loop-row.row-index c.row-item.result _ _
    c.loop-row-test.true c.row-item.is c.loop-row.invariant c.in_ok-put_row.ensures.text

pub returns-clause-text : goal.returns-clause-text
returns-clause-text g c = all_rows c.args.config.now c.args.wording c.args.server c.args.now c.args.rows.now c.loop-row.row-index _ c.loop-row-test.false c.loop-row.invariant
