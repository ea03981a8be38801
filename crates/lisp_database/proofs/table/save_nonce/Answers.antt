use Rattle.sqlite.specs.Held.{state}
use Rattle.lisp_database.proofs.Calls.{kept, failed, crash}
use Rattle.lisp_database.proofs.table.save_nonce.Goals as goal

pub returns-clause-saved : goal.returns-clause-saved
returns-clause-saved g c has clean =
    kept (state g.S.Store c.args.connection.now) (state g.S.Store c.write_row.new.connection) c.args.pair.now c.args.nonce c.write_row.result
    (g.met.S.Store.settled c.write_row.new.connection.store) has c.known.ensures (c.write_row.ensures.saves clean)

pub returns-clause-failed : goal.returns-clause-failed
returns-clause-failed g c clean =
    failed (state g.S.Store c.args.connection.now) (state g.S.Store c.write_row.new.connection) c.args.pair.now c.args.nonce c.write_row.result (c.write_row.ensures.saves clean)

pub returns-clause-crash : goal.returns-clause-crash
returns-clause-crash g c =
    crash (state g.S.Store c.args.connection.now) (state g.S.Store c.write_row.new.connection) c.args.pair.now c.args.nonce c.known.ensures c.write_row.ensures.survives
