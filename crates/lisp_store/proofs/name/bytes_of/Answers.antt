use Rattle.std.proofs.Common.{◌≡◌, ◌∙◌, Some, Ok, Err, ap, sym}
use Rattle.std.proofs.lemmas.List.{length-replicate}
use Rattle.lisp_store.proofs.PairNames.{decodes}
use Rattle.lisp_store.proofs.name.bytes_of.Goals as goal

-- src/name.rt:128:1
pub returns-in-Ok : goal.returns-in-Ok
returns-in-Ok g c = λ bytes len all is. ap Some (decodes c.args.digits.now bytes c.decode_to_slice.new.out g.row.N _ c.decode_to_slice.result (length-replicate g.row.N 0) len all is c.decode_to_slice.ensures.value).1

-- src/name.rt:128:1
pub returns-in-Err : goal.returns-in-Err
returns-in-Err g c = λ bytes len all is. let r = (decodes c.args.digits.now bytes c.decode_to_slice.new.out g.row.N _ c.decode_to_slice.result (length-replicate g.row.N 0) len all is c.decode_to_slice.ensures.value).0 in let e : Err c.in-Err.field-0 ≡ Ok tt = sym c.in-Err.is ∙ r in absurd cc
