use Rattle.std.proofs.Common.{[]}
use Rattle.sqlite.specs.Held.{state}
use Rattle.lisp_database.specs.Group.{begin_text}
use Rattle.lisp_database.proofs.Calls.{if_failed, left_by_error}
use Rattle.lisp_database.proofs.Groups.{begins, begin_crash}
use Rattle.lisp_database.proofs.group.begin.Goals as goal

pub returns-clause-begun : goal.returns-clause-begun
returns-clause-begun g c has clean = begins (state g.S.Store c.args.connection.now) (state g.S.Store c.execute.new.self) _ has (c.in_ok-execute.ensures.runs clean)

pub returns-clause-crash : goal.returns-clause-crash
returns-clause-crash g c = begin_crash (state g.S.Store c.args.connection.now) (state g.S.Store c.execute.new.self) c.execute.ensures.survives

pub returns-in_err-execute-clause-failed : goal.returns-in_err-execute-clause-failed
returns-in_err-execute-clause-failed g c clean = if_failed c.from_residual.result _ (left_by_error begin_text [] (state g.S.Store c.args.connection.now) (state g.S.Store c.execute.new.self) _ (c.in_err-execute.ensures.runs clean))

pub returns-in_err-execute-clause-crash : goal.returns-in_err-execute-clause-crash
returns-in_err-execute-clause-crash g c = begin_crash (state g.S.Store c.args.connection.now) (state g.S.Store c.execute.new.self) c.execute.ensures.survives
