use Rattle.lisp_mapping.proofs.SendsLaws.{replies_or_goes_on}
use Rattle.lisp_mapping.proofs.laws.replies_or_goes_on.Goals as goal

pub returns : goal.returns
returns g c = λ asked bytes replies. replies_or_goes_on _ asked bytes replies
