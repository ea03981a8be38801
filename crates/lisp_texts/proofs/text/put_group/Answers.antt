use Rattle.std.proofs.Common.{arith}
use Rattle.lisp_texts.proofs.Appends.{octets}
use Rattle.lisp_texts.proofs.text.put_group.Goals as goal

pub returns-clause-text : goal.returns-clause-text
returns-clause-text g c = grind (arith, octets)
