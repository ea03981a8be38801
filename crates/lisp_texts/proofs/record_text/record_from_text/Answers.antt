use Rattle.lisp_texts.proofs.RecordLaws.{record_found, record_only}
use Rattle.lisp_texts.proofs.record_text.record_from_text.Goals as goal

pub returns-clause-found : goal.returns-clause-found
returns-clause-found g c = record_found c.args.text.now c.record.result (rw (c.deref.ensures.value, c.in_ok-pieces.ensures.value) at c.record.ensures.value)

pub returns-clause-only : goal.returns-clause-only
returns-clause-only g c = record_only c.args.text.now c.record.result (rw (c.deref.ensures.value, c.in_ok-pieces.ensures.value) at c.record.ensures.value)
