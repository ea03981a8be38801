use Rattle.lisp_upkeep.proofs.Members.{no_members, one_more_member, all_members}
use Rattle.lisp_upkeep.proofs.unheard_nonces.set_of.Goals as goal

pub loop-member-init : goal.loop-member-init
loop-member-init g c = no_members _ _ _ c.new-set.ensures.empty

pub loop-member-preserved : goal.loop-member-preserved
loop-member-preserved g c =
    one_more_member _ _ g.met.K.Ord.matches_eq _ _ c.args.members.now c.loop-member.member-index c.member-item.result c.loop-member-test.true c.member-item.is c.loop-member.invariant c.in_ok-try_insert.ensures.updates

pub returns-clause-members : goal.returns-clause-members
returns-clause-members g c = all_members _ _ _ c.args.members.now c.loop-member.member-index c.loop-member-test.false c.loop-member.invariant
