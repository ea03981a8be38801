use Rattle.std.proofs.Common.{IfOk, sym, subst, ◌∙◌}
use Rattle.std.specs.Prelude.{OnOk}
use Rattle.lisp_database_store.proofs.Opened.{of_value, of_done, uses}
use Rattle.lisp_database_store.proofs.database.Database.load.Goals as goal

pub returns-clause-kept : goal.returns-clause-kept
returns-clause-kept g c = of_value _ _ c.answered.result (λ found is now.
    uses g.T.Table.means c.args.self.now.table c.answered.new.self.table c.opened.result c.in_ok-table.table c.load-answer.new.self
    (λ old new. g.T.Table.means.is_of_nonces old → g.T.Table.means.has_clean_disk new → g.T.Table.means.keeps old c.args.pair.now found) c.opened.ensures.same c.opened.ensures.tables c.in_ok-table.was now
    (λ has clean. subst (λ answer. IfOk answer (g.T.Table.means.keeps c.in_ok-table.table c.args.pair.now)) (sym c.answered.ensures.same ∙ is) (c.load-answer.ensures.kept has clean)))
    c.answered.ensures.open

pub returns-clause-unchanged : goal.returns-clause-unchanged
returns-clause-unchanged g c = of_done _ _ c.answered.result (λ found is now.
    uses g.T.Table.means c.args.self.now.table c.answered.new.self.table c.opened.result c.in_ok-table.table c.load-answer.new.self
    (λ old new. g.T.Table.means.has_tables old → g.T.Table.means.has_clean_disk new → g.T.Table.means.is_unchanged old new) c.opened.ensures.same c.opened.ensures.tables c.in_ok-table.was now
    (λ has clean. subst (λ answer. OnOk answer (g.T.Table.means.is_unchanged c.in_ok-table.table c.load-answer.new.self)) (sym c.answered.ensures.same ∙ is) (c.load-answer.ensures.unchanged has clean)))
    c.answered.ensures.open
