use Rattle.std.proofs.Common.{List, ap, ◌∙◌, subst}
use Rattle.lisp_records.specs.Row.{RowValue}
use Rattle.lisp_lookup.specs.{Table.TableState, Hole.IsHoleOf}
use Rattle.lisp_lookup.proofs.table.Table.hole.Goals as goal

pub returns : goal.returns
returns g c = record { hole = subst (λ (rows : List RowValue). IsHoleOf rows c.args.sites.now c.args.addr.now c.args.now c.hole.result) (c.deref.ensures.value ∙ ap (λ (t : TableState). t.rows) c.self.view_is) c.hole.ensures }
