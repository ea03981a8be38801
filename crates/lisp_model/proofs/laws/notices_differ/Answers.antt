use Rattle.lisp_model.proofs.laws.notices_differ.Goals as goal
use Rattle.lisp_model.proofs.NoticeRising.{notices_differ}

pub returns : goal.returns
returns c = notices_differ
