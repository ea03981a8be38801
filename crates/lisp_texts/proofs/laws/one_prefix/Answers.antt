use Rattle.lisp_texts.proofs.PrefixLaws.{one_prefix}
use Rattle.lisp_texts.proofs.laws.one_prefix.Goals as goal

pub returns : goal.returns
returns c = one_prefix
