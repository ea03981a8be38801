use Rattle.std.proofs.Common.{Some, IfOk, sym, subst, ◌∙◌}
use Rattle.std.specs.Prelude.{All, OnOk}
use Rattle.lisp_database_store.proofs.Opened.{of_value, of_done, uses}
use Rattle.lisp_database_store.proofs.database.Database.nonces.Goals as goal

pub returns-clause-kept : goal.returns-clause-kept
returns-clause-kept g c = of_value _ _ c.answered.result (λ found is now.
    uses g.T.Table.means c.args.self.now.table c.answered.new.self.table c.opened.result c.in_ok-table.table c.nonces-answer.new.self
    (λ old new. g.T.Table.means.is_of_nonces old → g.T.Table.means.has_clean_disk new → All (λ kept. g.T.Table.means.keeps old kept.pair (Some kept.nonce)) found.items) c.opened.ensures.same c.opened.ensures.tables c.in_ok-table.was now
    (λ has clean. subst (λ answer. IfOk answer (λ nonces. All (λ kept. g.T.Table.means.keeps c.in_ok-table.table kept.pair (Some kept.nonce)) nonces.items)) (sym c.answered.ensures.same ∙ is) (c.nonces-answer.ensures.kept has clean)))
    c.answered.ensures.open

pub returns-clause-unchanged : goal.returns-clause-unchanged
returns-clause-unchanged g c = of_done _ _ c.answered.result (λ found is now.
    uses g.T.Table.means c.args.self.now.table c.answered.new.self.table c.opened.result c.in_ok-table.table c.nonces-answer.new.self
    (λ old new. g.T.Table.means.has_tables old → g.T.Table.means.has_clean_disk new → g.T.Table.means.is_unchanged old new) c.opened.ensures.same c.opened.ensures.tables c.in_ok-table.was now
    (λ has clean. subst (λ answer. OnOk answer (g.T.Table.means.is_unchanged c.in_ok-table.table c.nonces-answer.new.self)) (sym c.answered.ensures.same ∙ is) (c.nonces-answer.ensures.unchanged has clean)))
    c.answered.ensures.open
