use Rattle.std.proofs.Common.{List, length, refl, sym, ap, ◌∙◌, subst, arith}
use Rattle.std.proofs.lemmas.Iterator.Adapters.{YieldsList-from_vec}
use Rattle.std.proofs.lemmas.Iterator.Consumers.{YieldsList-end}
use Rattle.std.proofs.lemmas.List.{map-id}
use Rattle.lisp_records.specs.Row.{RowValue}
use Rattle.lisp_lookup.specs.Table.{Sets}
use Rattle.lisp_lookup.proofs.TableLaws.{sets_more}
use Rattle.lisp_lookup.proofs.PutLaws.{one_each}
use Rattle.lisp_lookup.proofs.table.Table.put_all.Goals as goal

pub loop-row-preserved : goal.loop-row-preserved
loop-row-preserved g c = record {
  set = sets_more c.args.self.now.rows c.loop-row.self.rows c.put.new.self.rows c.loop-row.yielded c.in-Some.row c.loop-row.invariant.set c.put.ensures.row;
  room = (let rest = ap length c.in-Some.ensures.steps.0 in omega (arith, rest, c.loop-row.invariant.room, c.put.ensures.room));
}

pub returns-clause-one_each : goal.returns-clause-one_each
returns-clause-one_each g c = rw (← c.self.view_is) (one_each c.self.inside.items.items c.self.inside.by_prefix.items c.self.invariant.by_prefix)

pub loop-row-init : goal.loop-row-init
loop-row-init g c = record {
  set = λ router eid. refl;
  room = (let given = ap length c.into_iter-row-iterator.ensures.into_iter_gives.0 in omega (arith, given, c.requires));
}

pub returns-clause-sets : goal.returns-clause-sets
returns-clause-sets g c =
    let gives = c.into_iter-row-iterator.ensures.into_iter_gives in
    let end = YieldsList-end (YieldsList-from_vec c.args.rows.items gives.0 (gives.1 ∙ c.args.rows.ok.0)) c.loop-row.yielded c.loop-row.row-iterator c.loop-row.yielded_by
    c.next.result c.next.new.self c.in-None.is c.next.ensures.steps in
    subst (λ (given : List RowValue). Sets c.args.self.now.rows c.loop-row.self.rows given) (sym (map-id c.loop-row.yielded) ∙ end.0) c.loop-row.invariant.set
