use Rattle.lisp_check.proofs.Exact.{exact}
use Rattle.lisp_check.proofs.law.warnings_are_exact.Goals as goal

pub returns : goal.returns
returns c = exact
