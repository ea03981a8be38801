use Rattle.std.proofs.Common.{arith}
use Rattle.lisp_database.proofs.Crashing.{if_both}
use Rattle.lisp_database.proofs.crash.save_later.Goals as goal

pub returns-clause-left : goal.returns-clause-left
returns-clause-left g c =
    if_both c.crash.result _ _ _ (λ again clean left late. c.save_nonce.ensures.crash.crash (omega (arith, clean, late)) _ (left late)) c.crash.ensures.clean c.crash.ensures.left
