use Rattle.sqlite.specs.Held.{state}
use Rattle.lisp_database.proofs.Forgetting.{kept, failed, crash}
use Rattle.lisp_database.proofs.table.forget_nonce.Goals as goal

pub returns-clause-forgotten : goal.returns-clause-forgotten
returns-clause-forgotten g c has clean =
    kept (state g.S.Store c.args.connection.now) (state g.S.Store c.remove_row.new.connection) c.args.pair.now c.remove_row.result
    (g.met.S.Store.settled c.remove_row.new.connection.store) has c.known.ensures (c.remove_row.ensures.forgets clean)

pub returns-clause-failed : goal.returns-clause-failed
returns-clause-failed g c clean =
    failed (state g.S.Store c.args.connection.now) (state g.S.Store c.remove_row.new.connection) c.args.pair.now c.remove_row.result (c.remove_row.ensures.forgets clean)

pub returns-clause-crash : goal.returns-clause-crash
returns-clause-crash g c =
    crash (state g.S.Store c.args.connection.now) (state g.S.Store c.remove_row.new.connection) c.args.pair.now c.known.ensures c.remove_row.ensures.survives
