use Rattle.lisp_upkeep.proofs.Members.{one_more_item, all_items}
use Rattle.lisp_upkeep.proofs.unheard_nonces.among.Goals as goal

pub loop-item-preserved : goal.loop-item-preserved
loop-item-preserved g c =
    one_more_item g.K.Ord.cmp g.K.PartialEq.eq c.in_ok-set.set c.args.members.now c.args.items.now c.loop-item.item-index c.item-item.result _ _ c.contains.result
    c.loop-item-test.true c.item-item.is c.in_ok-set.ensures.members c.contains.ensures c.loop-item.invariant c.in_ok-push_if.ensures.added

pub returns-clause-found : goal.returns-clause-found
returns-clause-found g c = all_items g.K.Ord.cmp g.K.PartialEq.eq c.args.members.now c.args.items.now c.loop-item.item-index _ c.loop-item-test.false c.loop-item.invariant
