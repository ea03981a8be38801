use Rattle.lisp_lookup.proofs.PutLaws.{one_each}
use Rattle.lisp_lookup.proofs.table.Table.count_live.Goals as goal

pub returns-clause-one_each : goal.returns-clause-one_each
returns-clause-one_each g c = rw (← c.self.view_is) (one_each c.self.inside.items.items c.self.inside.by_prefix.items c.self.invariant.by_prefix)
