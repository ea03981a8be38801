use Rattle.lisp_mapping.proofs.FaultLaws.{never}
use Rattle.lisp_mapping.proofs.asking.encapsulated_asked.Goals as goal

pub returns-in_err-around-clause-memory : goal.returns-in_err-around-clause-memory
returns-in_err-around-clause-memory g c = never c.from_residual.result c.in_err-around.field-0.0 c.args.bytes.now c.in_err-around.ensures.exact c.from_residual.ensures.1
