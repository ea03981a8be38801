use Rattle.lisp_registration.proofs.Sending.{register_told}
use Rattle.lisp_registration.proofs.laws.registers_are_told_whole.Goals as goal

pub returns : goal.returns
returns c = register_told
