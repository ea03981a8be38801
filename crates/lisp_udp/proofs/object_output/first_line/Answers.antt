use Rattle.std.proofs.Common.{refl, sym}
use Rattle.lisp_udp.proofs.ObjectLines.{first_line_is}
use Rattle.lisp_udp.proofs.object_output.first_line.Goals as goal

pub returns-in-Ok-clause-line : goal.returns-in-Ok-clause-line
returns-in-Ok-clause-line c = first_line_is c.args.bytes.now c.in-Ok.line.now _ c.in_ok-end.end (sym c.in_ok-end.ensures.place) c.in_ok-end.ensures.within c.in-Ok.ensures.cases.0 refl
