use Rattle.lisp_turns.proofs.AgreeingFaults.{faults_agree}
use Rattle.lisp_turns.proofs.laws.faults_agree.Goals as goal

pub returns : goal.returns
returns c = faults_agree
