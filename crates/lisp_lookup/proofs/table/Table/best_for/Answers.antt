use Rattle.std.{proofs.Common.subst, specs.List.All}
use Rattle.lisp_records.specs.Address.{IsPrefix}
use Rattle.lisp_lookup.specs.Table.{TableState, OneEach}
use Rattle.lisp_lookup.proofs.PutLaws.{one_each}
use Rattle.lisp_lookup.proofs.table.Table.best_for.Goals as goal

pub returns-clause-one_each : goal.returns-clause-one_each
returns-clause-one_each g c = subst (λ (t : TableState). OneEach t.rows) c.self.view_is (one_each c.self.inside.items.items c.self.inside.by_prefix.items c.self.invariant.by_prefix)

pub returns-clause-blocks : goal.returns-clause-blocks
returns-clause-blocks g c = subst (λ (t : TableState). All (λ h. IsPrefix h.mapping.eid) t.rows) c.self.view_is c.self.invariant.eids
