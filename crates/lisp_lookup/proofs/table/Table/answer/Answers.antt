use Rattle.std.proofs.Common.{subst}
use Rattle.lisp_records.specs.{Address.IsPrefix, Row.RowValue}
use Rattle.lisp_lookup.specs.Table.{TableState, OneEach}
use Rattle.lisp_lookup.proofs.PutLaws.{one_each}
use Rattle.lisp_lookup.proofs.table.Table.answer.Goals as goal

pub returns-in-Some-clause-one_each : goal.returns-in-Some-clause-one_each
returns-in-Some-clause-one_each g c = subst (λ (t : TableState). OneEach t.rows) c.self.view_is (one_each c.self.inside.items.items c.self.inside.by_prefix.items c.self.invariant.by_prefix)

pub returns-in-Some-2-clause-one_each : goal.returns-in-Some-2-clause-one_each
returns-in-Some-2-clause-one_each g c = subst (λ (t : TableState). OneEach t.rows) c.self.view_is (one_each c.self.inside.items.items c.self.inside.by_prefix.items c.self.invariant.by_prefix)

pub returns-in-None-clause-one_each : goal.returns-in-None-clause-one_each
returns-in-None-clause-one_each g c = subst (λ (t : TableState). OneEach t.rows) c.self.view_is (one_each c.self.inside.items.items c.self.inside.by_prefix.items c.self.invariant.by_prefix)

pub returns-in-None-2-clause-one_each : goal.returns-in-None-2-clause-one_each
returns-in-None-2-clause-one_each g c = subst (λ (t : TableState). OneEach t.rows) c.self.view_is (one_each c.self.inside.items.items c.self.inside.by_prefix.items c.self.invariant.by_prefix)
