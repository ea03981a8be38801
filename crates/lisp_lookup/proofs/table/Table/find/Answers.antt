use Rattle.std.proofs.Common.{List, length, ap, subst, arith}
use Rattle.std.specs.Ordering.{is_lt}
use Rattle.lisp_records.specs.{Address.prefix_cmp, Row.RowValue}
use Rattle.lisp_lookup.specs.declared.probe.Probe.TheVariants.{Prefix}
use Rattle.lisp_lookup.specs.Index.{CountedRowsValue, IsBound}
use Rattle.lisp_lookup.proofs.IndexLaws.{falls_prefix}
use Rattle.lisp_lookup.proofs.PutLaws.{count_rows, long_index}
use Rattle.lisp_lookup.proofs.table.Table.find.Goals as goal

pub find-requires : goal.find-requires
find-requires g c = record { falls = rw c.new-rows.ensures (rw c.deref.ensures.value (falls_prefix c.args.prefix.now c.self.inside.items.items c.self.inside.by_prefix.items c.self.invariant.by_prefix.rises)) }

pub returns-clause-lesser : goal.returns-clause-lesser
returns-clause-lesser g c =
    let order = subst (λ (r : CountedRowsValue). IsBound (Prefix c.args.prefix.now) r.rows r.numbers c.find.result) c.new-rows.ensures c.find.ensures.bound in
    let bound = subst (λ (rows : List RowValue). IsBound (Prefix c.args.prefix.now) rows c.self.inside.by_prefix.items c.find.result) c.deref.ensures.value order in
    rw (← c.self.view_is) (count_rows c.self.inside.items.items c.self.inside.by_prefix.items (λ h. is_lt (prefix_cmp h.mapping.eid c.args.prefix.now)) c.find.result c.self.invariant.by_prefix bound.within bound.before bound.after)

pub returns-clause-cost : goal.returns-clause-cost
returns-clause-cost g c =
    let numbers = ap (λ (r : CountedRowsValue). length r.numbers) c.new-rows.ensures in
    rw (← c.self.view_is) (omega (arith, c.find.ensures.cost, numbers, long_index c.self.inside.items.items c.self.inside.by_prefix.items c.self.invariant.by_prefix))
