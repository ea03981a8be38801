use Rattle.std.proofs.Common.{◌∙◌}
use Rattle.lisp_texts.proofs.PrefixLaws.{prefix_again, prefix_found}
use Rattle.lisp_texts.proofs.text.prefix_from_text.Goals as goal

pub returns-clause-found : goal.returns-clause-found
returns-clause-found c = prefix_found c.args.text.now c.prefix.result c.prefix.ensures

pub returns-clause-only : goal.returns-clause-only
returns-clause-only c = λ b spelled. c.prefix.ensures ∙ prefix_again c.args.text.now b spelled
