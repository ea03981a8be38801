use Rattle.std.proofs.Common.{sym, ap, ◌∙◌}
use Rattle.lisp_registration.specs.Meaning.{each_in}
use Rattle.lisp_registration.proofs.Loops.{item_made, items_made, no_item, one_longer}
use Rattle.lisp_registration.proofs.items.items_of.Goals as goal

pub returns-in_default-clause-value : goal.returns-in_default-clause-value
returns-in_default-clause-value g c _ =
    no_item g.P.Says.said c.loop-one.items.items c.args.plain.now c.loop-one.one-index (each_in g.P.Says.said c.args.plain.now) c.loop-one.invariant.made c.one-item.result c.loop-one-test.true
    (ap g.P.Says.said (sym c.one-item.is) ∙ sym c.said.ensures ∙ c.in_default.is)

pub loop-one-preserved : goal.loop-one-preserved
loop-one-preserved g c = record {
  made = rw c.in_ok-try_push.ensures.items
      (item_made g.P.Says.said c.loop-one.items.items c.args.plain.now c.loop-one.one-index (each_in g.P.Says.said c.args.plain.now) c.loop-one.invariant.made c.one-item.result c.in-Some.item c.loop-one-test.true
      (ap g.P.Says.said (sym c.one-item.is) ∙ sym c.said.ensures ∙ c.in-Some.is));
  count = one_longer c.loop-one.items.items _ c.in-Some.item c.loop-one.one-index c.in_ok-try_push.ensures.items c.loop-one.invariant.count;
}

pub returns-clause-value : goal.returns-clause-value
returns-clause-value g c = items_made g.P.Says.said c.loop-one.items.items c.args.plain.now c.loop-one.one-index (each_in g.P.Says.said c.args.plain.now) c.loop-one.invariant.made c.loop-one-test.false
