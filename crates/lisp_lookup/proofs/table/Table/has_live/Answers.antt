use Rattle.std.proofs.Common.{◌∙◌, subst, ◌≡◌, slice_index_or}
use Rattle.lisp_lookup.specs.Table.{TableState}
use Rattle.lisp_lookup.proofs.GrowthLaws.{has_live_found, has_live_nowhere}
use Rattle.lisp_lookup.proofs.table.Table.has_live.Goals as goal

pub returns-in-Some : goal.returns-in-Some
returns-in-Some g c =
    let read : c.index.result.now ≡ slice_index_or c.args.self.now.rows c.in-Some.number c.index.result.now = subst (λ (s : TableState). c.index.result.now ≡ slice_index_or s.rows c.in-Some.number c.index.result.now) c.self.view_is c.index.ensures in
    c.alive.ensures.test ∙ has_live_found c.args.self.now.rows c.args.now c.in-Some.number c.args.row.now c.index.result.now c.in-Some.ensures read

pub returns-in-None : goal.returns-in-None
returns-in-None g c = has_live_nowhere c.args.self.now.rows c.args.now c.args.row.now c.in-None.ensures
