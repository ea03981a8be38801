use Rattle.std.proofs.Common.{◌↔◌, IsTrue}
use Rattle.lisp_database_log.proofs.Ends.{HasEnd, NoTwo}
use Rattle.lisp_database_log.proofs.damage.loses_two.Given as goal

abbrev pub invariant-loop-number : goal.invariant-loop-number
invariant-loop-number l = (IsTrue l.has_end ↔ HasEnd l.log l.front l.number) × NoTwo l.log l.front l.number
