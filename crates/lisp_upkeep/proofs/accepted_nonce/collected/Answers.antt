use Rattle.lisp_upkeep.specs.AcceptedNonce.{accepted_of}
use Rattle.lisp_upkeep.proofs.Members.{one_more_mapped, all_mapped}
use Rattle.lisp_upkeep.proofs.accepted_nonce.collected.Goals as goal

pub loop-nonce-preserved : goal.loop-nonce-preserved
loop-nonce-preserved g c = one_more_mapped accepted_of c.args.kept.now c.loop-nonce.nonce-index _ _ _ c.loop-nonce-test.true c.loop-nonce.invariant c.in_ok-add_accepted.ensures.added

pub returns-clause-nonces : goal.returns-clause-nonces
returns-clause-nonces g c = all_mapped accepted_of c.args.kept.now c.loop-nonce.nonce-index _ c.loop-nonce-test.false c.loop-nonce.invariant
