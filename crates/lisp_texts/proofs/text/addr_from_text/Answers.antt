use Rattle.std.proofs.Common.{◌∙◌}
use Rattle.lisp_texts.proofs.AddressLaws.{address_again, address_found}
use Rattle.lisp_texts.proofs.text.addr_from_text.Goals as goal

pub returns-clause-found : goal.returns-clause-found
returns-clause-found c = address_found c.args.text.now c.address.result c.address.ensures

pub returns-clause-only : goal.returns-clause-only
returns-clause-only c = λ a spelled. c.address.ensures ∙ address_again c.args.text.now a spelled
