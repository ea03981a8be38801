use Rattle.std.proofs.Common.{[]}
use Rattle.sqlite.specs.Held.{state}
use Rattle.lisp_database.specs.Group.{commit_text}
use Rattle.lisp_database.proofs.Calls.{if_failed, left_by_error}
use Rattle.lisp_database.proofs.Groups.{commits, commit_crash}
use Rattle.lisp_database.proofs.group.commit.Goals as goal

pub returns-clause-committed : goal.returns-clause-committed
returns-clause-committed g c has clean = commits (state g.S.Store c.args.connection.now) (state g.S.Store c.execute.new.self) _ (g.met.S.Store.settled c.execute.new.self.store) has (c.in_ok-execute.ensures.runs clean)

pub returns-clause-crash : goal.returns-clause-crash
returns-clause-crash g c = commit_crash (state g.S.Store c.args.connection.now) (state g.S.Store c.execute.new.self) c.execute.ensures.survives

pub returns-in_err-execute-clause-failed : goal.returns-in_err-execute-clause-failed
returns-in_err-execute-clause-failed g c clean = if_failed c.from_residual.result _ (left_by_error commit_text [] (state g.S.Store c.args.connection.now) (state g.S.Store c.execute.new.self) _ (c.in_err-execute.ensures.runs clean))

pub returns-in_err-execute-clause-crash : goal.returns-in_err-execute-clause-crash
returns-in_err-execute-clause-crash g c = commit_crash (state g.S.Store c.args.connection.now) (state g.S.Store c.execute.new.self) c.execute.ensures.survives
