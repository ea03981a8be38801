use Rattle.std.proofs.Common.{IfOk, sym, subst, ◌∙◌}
use Rattle.lisp_database_store.proofs.Opened.{of_value, uses}
use Rattle.lisp_database_store.proofs.database.Database.load_writer.Goals as goal

pub returns-clause-found : goal.returns-clause-found
returns-clause-found g c = of_value _ _ c.answered.result (λ writer is now.
    uses g.T.Table.means c.args.self.now.table c.answered.new.self.table c.opened.result c.in_ok-table.table c.load_writer-answer.new.self
    (λ old new. g.T.Table.means.has_clean_disk new → g.T.Table.means.finds_writer old new writer) c.opened.ensures.same c.opened.ensures.tables c.in_ok-table.was now
    (λ clean. subst (λ answer. IfOk answer (g.T.Table.means.finds_writer c.in_ok-table.table c.load_writer-answer.new.self)) (sym c.answered.ensures.same ∙ is) (c.load_writer-answer.ensures clean)))
    c.answered.ensures.open
