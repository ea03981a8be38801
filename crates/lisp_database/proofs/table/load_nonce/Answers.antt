use Rattle.sqlite.specs.Held.{state}
use Rattle.lisp_database.proofs.Loading.{kept, unchanged, failed, crash}
use Rattle.lisp_database.proofs.table.load_nonce.Goals as goal

pub returns-clause-kept : goal.returns-clause-kept
returns-clause-kept g c has clean =
    kept (state g.S.Store c.args.connection.now) (state g.S.Store c.read_nonce.new.connection) c.args.pair.now c.read_nonce.result has c.schema-schema.ensures.live (c.read_nonce.ensures.loads clean)

pub returns-clause-unchanged : goal.returns-clause-unchanged
returns-clause-unchanged g c has clean =
    unchanged (state g.S.Store c.args.connection.now) (state g.S.Store c.read_nonce.new.connection) c.args.pair.now c.read_nonce.result has (c.read_nonce.ensures.loads clean)

pub returns-clause-failed : goal.returns-clause-failed
returns-clause-failed g c has clean =
    failed (state g.S.Store c.args.connection.now) (state g.S.Store c.read_nonce.new.connection) c.args.pair.now c.read_nonce.result has (c.read_nonce.ensures.fails clean)

pub returns-clause-crash : goal.returns-clause-crash
returns-clause-crash g c = crash (state g.S.Store c.args.connection.now) (state g.S.Store c.read_nonce.new.connection) c.args.pair.now c.read_nonce.ensures.survives
