use Rattle.std.proofs.Common.{subst}
use Rattle.std.specs.Prelude.{OnOk}
use Rattle.lisp_database_store.proofs.Opened.{of_done, uses_if}
use Rattle.lisp_database_store.proofs.database.Database.forget.Goals as goal

pub returns-clause-forgotten : goal.returns-clause-forgotten
returns-clause-forgotten g c = of_done _ _ c.written.result (λ done is had.
    uses_if g.T.Table.means c.args.self.now.table c.written.new.self.table c.opened_to_write.result c.in_ok-table.table c.forget-answer.new.self
    (λ old new. g.T.Table.means.is_of_nonces old → g.T.Table.means.has_clean_disk new → g.T.Table.means.forgets old new c.args.pair.now) c.opened_to_write.ensures.same c.opened_to_write.ensures.tables c.in_ok-table.was had.2
    (λ has clean. subst (λ answer. OnOk answer (g.T.Table.means.forgets c.in_ok-table.table c.forget-answer.new.self c.args.pair.now)) had.1 (c.forget-answer.ensures has clean)))
    c.written.ensures.ok
