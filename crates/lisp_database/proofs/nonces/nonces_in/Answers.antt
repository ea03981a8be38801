use Rattle.std.proofs.Common.{All, arith, sym, subst}
use Rattle.lisp_database.specs.Columns.{IsTold}
use Rattle.lisp_database.proofs.Told.{one_more}
use Rattle.lisp_database.proofs.nonces.nonces_in.Goals as goal

pub loop-row-preserved : goal.loop-row-preserved
loop-row-preserved c = subst (All (IsTold c.args.rows.now)) (sym c.in_ok-try_push.ensures.items)
    (one_more c.args.rows.now c.loop-row.nonces.items c.in_ok-nonce_in.field-0 c.loop-row.row-index c.row-item.result (omega (arith, c.loop-row-test.true)) (let is = c.row-item.is in cc)
    c.in_ok-nonce_in.ensures c.loop-row.invariant)
