use Rattle.lisp_admission.proofs.Extended.{more_sites_admit_more as lemma}
use Rattle.lisp_admission.proofs.laws.more_sites_admit_more.Goals as goal

pub returns : goal.returns
returns c = lemma
