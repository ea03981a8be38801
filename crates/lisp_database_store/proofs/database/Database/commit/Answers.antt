use Rattle.std.proofs.Common.{subst}
use Rattle.std.specs.Prelude.{OnOk}
use Rattle.lisp_database_store.proofs.Opened.{of_done, uses_if}
use Rattle.lisp_database_store.proofs.database.Database.commit.Goals as goal

pub returns-clause-committed : goal.returns-clause-committed
returns-clause-committed g c = of_done _ _ c.written.result (λ done is had.
    uses_if g.T.Table.means c.args.self.now.table c.written.new.self.table c.opened_to_write.result c.in_ok-table.table c.commit_all-answer.new.table
    (λ old new. g.T.Table.means.has_tables old → g.T.Table.means.has_clean_disk new → g.T.Table.means.commits_group old new) c.opened_to_write.ensures.same c.opened_to_write.ensures.tables c.in_ok-table.was had.2
    (λ has clean. subst (λ answer. OnOk answer (g.T.Table.means.commits_group c.in_ok-table.table c.commit_all-answer.new.table)) had.1 (c.commit_all-answer.ensures.committed has clean)))
    c.written.ensures.ok

pub returns-clause-settled : goal.returns-clause-settled
returns-clause-settled g c = of_done _ _ c.written.result (λ done is had.
    (c.commit_all-answer.new.table, had.2, subst (λ answer. OnOk answer (g.T.Table.means.is_committed c.commit_all-answer.new.table)) had.1 c.commit_all-answer.ensures.settled))
    c.written.ensures.ok
