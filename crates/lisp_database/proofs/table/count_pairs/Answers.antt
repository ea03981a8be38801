use Rattle.sqlite.specs.Held.{state}
use Rattle.lisp_database.proofs.Counting.{counted, unchanged}
use Rattle.lisp_database.proofs.table.count_pairs.Goals as goal

pub returns-clause-counted : goal.returns-clause-counted
returns-clause-counted g c has clean =
    counted (state g.S.Store c.args.connection.now) (state g.S.Store c.read_count.new.connection) c.read_count.result has (c.read_count.ensures clean)

pub returns-clause-unchanged : goal.returns-clause-unchanged
returns-clause-unchanged g c has clean =
    unchanged (state g.S.Store c.args.connection.now) (state g.S.Store c.read_count.new.connection) c.read_count.result has (c.read_count.ensures clean)
