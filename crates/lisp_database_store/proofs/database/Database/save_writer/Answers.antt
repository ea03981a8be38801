use Rattle.std.proofs.Common.{subst}
use Rattle.std.specs.Prelude.{OnOk}
use Rattle.lisp_database_store.proofs.Opened.{of_done, uses_if}
use Rattle.lisp_database_store.proofs.database.Database.save_writer.Goals as goal

pub returns-clause-saved : goal.returns-clause-saved
returns-clause-saved g c = of_done _ _ c.written.result (λ done is had.
    uses_if g.T.Table.means c.args.self.now.table c.written.new.self.table c.opened_to_write.result c.in_ok-table.table c.save_writer-answer.new.self
    (λ old new. g.T.Table.means.has_clean_disk new → g.T.Table.means.saves_writer old new c.args.writer.now) c.opened_to_write.ensures.same c.opened_to_write.ensures.tables c.in_ok-table.was had.2
    (λ clean. subst (λ answer. OnOk answer (g.T.Table.means.saves_writer c.in_ok-table.table c.save_writer-answer.new.self c.args.writer.now)) had.1 (c.save_writer-answer.ensures clean)))
    c.written.ensures.ok
