use Rattle.std.proofs.Common.{◌≡◌, false, ap, ◌∙◌, subst, arith}
use Rattle.std.proofs.lemmas.List.Sorted.{length_permutation}
use Rattle.lisp_records.specs.Row.{RowValue, is_alive}
use Rattle.lisp_lookup.specs.Table.{TableState, OneEach}
use Rattle.lisp_lookup.proofs.PutLaws.{one_each, one_left, dropped_none, dropped_more, dropped_all}
use Rattle.lisp_lookup.proofs.table.Table.drop_dead.Goals as goal

pub loop-number-init : goal.loop-number-init
loop-number-init g c = record {
  dropped = dropped_none c.args.self.now.rows c.args.now;
  apart = subst (λ (s : TableState). OneEach s.rows) c.self.view_is (one_each c.self.inside.items.items c.self.inside.by_prefix.items c.self.invariant.by_prefix);
}

pub loop-number-preserved : goal.loop-number-preserved
loop-number-preserved g c =
    let removed = c.remove.ensures in
    let is : is_alive removed.row c.args.now ≡ false = ap (λ (h : RowValue). is_alive h c.args.now) removed.was ∙ c.in-Some.ensures.dead.1 removed.row in
    record {
      dropped = dropped_more c.args.self.now.rows c.loop-number.self.rows c.remove.new.self.rows c.args.now removed.row c.loop-number.invariant.dropped removed.moved is;
      apart = c.loop-number.invariant.apart;
    }

pub loop-number-smaller : goal.loop-number-smaller
loop-number-smaller g c = omega (arith, length_permutation c.loop-number.self.rows _ c.remove.ensures.moved)

pub returns-clause-expires : goal.returns-clause-expires
returns-clause-expires g c = dropped_all c.args.self.now.rows c.loop-number.self.rows c.args.now c.loop-number.invariant.apart c.loop-number.invariant.dropped (c.first_dead.ensures.alive c.in_default.is)

pub returns-clause-one_each : goal.returns-clause-one_each
returns-clause-one_each g c = one_left c.args.self.now.rows c.loop-number.self.rows c.args.now c.loop-number.invariant.apart c.loop-number.invariant.dropped
