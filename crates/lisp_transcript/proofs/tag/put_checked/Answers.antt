use Rattle.lisp_transcript.specs.Tag.{checked_text}
use Rattle.lisp_transcript.proofs.Appends.{two}
use Rattle.lisp_transcript.proofs.tag.put_checked.Goals as goal

pub returns-clause-text : goal.returns-clause-text
unfolding checked_text
returns-clause-text g c = two _ _ _ _ _ c.in_ok-try_write.ensures.bytes c.in_ok-put_site.ensures.text
