use Rattle.std.proofs.Common.{arith}
use Rattle.lisp_transcript.proofs.Appends.{octets}
use Rattle.lisp_transcript.proofs.pieces.put_octet.Goals as goal

pub returns-clause-text : goal.returns-clause-text
returns-clause-text g c = grind (arith, octets)
