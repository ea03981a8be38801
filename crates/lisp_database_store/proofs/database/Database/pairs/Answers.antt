use Rattle.std.proofs.Common.{IfOk, sym, subst, ◌∙◌}
use Rattle.std.specs.Prelude.{OnOk}
use Rattle.lisp_database_store.proofs.Opened.{of_value, of_done, uses}
use Rattle.lisp_database_store.proofs.database.Database.pairs.Goals as goal

pub returns-clause-counted : goal.returns-clause-counted
returns-clause-counted g c = of_value _ _ c.answered.result (λ count is now.
    uses g.T.Table.means c.args.self.now.table c.answered.new.self.table c.opened.result c.in_ok-table.table c.count_pairs-answer.new.self
    (λ old new. g.T.Table.means.has_tables old → g.T.Table.means.has_clean_disk new → g.T.Table.means.counts_pairs old count) c.opened.ensures.same c.opened.ensures.tables c.in_ok-table.was now
    (λ has clean. subst (λ answer. IfOk answer (g.T.Table.means.counts_pairs c.in_ok-table.table)) (sym c.answered.ensures.same ∙ is) (c.count_pairs-answer.ensures.counted has clean)))
    c.answered.ensures.open

pub returns-clause-unchanged : goal.returns-clause-unchanged
returns-clause-unchanged g c = of_done _ _ c.answered.result (λ count is now.
    uses g.T.Table.means c.args.self.now.table c.answered.new.self.table c.opened.result c.in_ok-table.table c.count_pairs-answer.new.self
    (λ old new. g.T.Table.means.has_tables old → g.T.Table.means.has_clean_disk new → g.T.Table.means.is_unchanged old new) c.opened.ensures.same c.opened.ensures.tables c.in_ok-table.was now
    (λ has clean. subst (λ answer. OnOk answer (g.T.Table.means.is_unchanged c.in_ok-table.table c.count_pairs-answer.new.self)) (sym c.answered.ensures.same ∙ is) (c.count_pairs-answer.ensures.unchanged has clean)))
    c.answered.ensures.open
