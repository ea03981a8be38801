use Rattle.lisp_texts.proofs.AddressLaws.{one_address}
use Rattle.lisp_texts.proofs.laws.one_address.Goals as goal

pub returns : goal.returns
returns c = one_address
