use Rattle.std.proofs.Common.{arith}
use Rattle.sqlite.specs.Held.{state}
use Rattle.lisp_database.proofs.Crashing.{if_both, keeps, others}
use Rattle.lisp_database.proofs.crash.save_and_crash.Goals as goal

pub returns-in-Ok-clause-kept : goal.returns-in-Ok-clause-kept
returns-in-Ok-clause-kept g c =
    if_both c.save_later.result _ _ _ (λ again clean left late.
    keeps (state g.S.Store c.args.connection) (state g.S.Store c.save_nonce.new.connection) c.args.pair.now c.args.first c.args.second (state g.S.Store again).now.trees c.requires.outside
    (c.in-Ok.ensures.saved c.requires.nonces (omega (arith, clean, late))) (left late))
    c.save_later.ensures.clean c.save_later.ensures.left

pub returns-in-Ok-clause-others : goal.returns-in-Ok-clause-others
returns-in-Ok-clause-others g c =
    if_both c.save_later.result _ _ _ (λ again clean left late.
    others (state g.S.Store c.args.connection) (state g.S.Store c.save_nonce.new.connection) c.args.pair.now c.args.first c.args.second (state g.S.Store again).now.trees c.requires.outside
    (c.in-Ok.ensures.saved c.requires.nonces (omega (arith, clean, late))) (left late))
    c.save_later.ensures.clean c.save_later.ensures.left
