use Rattle.std.proofs.lemmas.Result.{on_ok_weaker}
use Rattle.lisp_lines.proofs.Appends.{row_line}
use Rattle.lisp_lines.proofs.query.put_row.Goals as goal

pub returns-clause-text : goal.returns-clause-text
returns-clause-text g c =
    on_ok_weaker c.try_write-2.result
    (row_line c.args.config.now c.args.wording c.args.now _ _ _ _ _ _ _ _ c.row.view_is c.in_ok-try_write.ensures.bytes c.in_ok-put_router_word.ensures.text c.in_ok-record.ensures.text c.saturating_sub-age.ensures)
    c.try_write-2.ensures.bytes
