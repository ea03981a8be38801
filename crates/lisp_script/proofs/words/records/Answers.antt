use Rattle.std.proofs.Common.{inr}
use Rattle.lisp_script.specs.Words.{texts, records_in}
use Rattle.lisp_script.proofs.Records.{no_record, goes_on, is_done}
use Rattle.lisp_script.proofs.words.records.Goals as goal

pub returns-in_default : goal.returns-in_default
returns-in_default g c = inr (no_record c.loop-word.records.items c.args.words.now c.loop-word.word-index _ (records_in (texts c.args.words.now)) c.loop-word-test.true (rw c.in_default.is at c.in_ok-record.ensures.exact) c.loop-word.invariant)

pub loop-word-preserved : goal.loop-word-preserved
loop-word-preserved g c = rw c.in_ok-try_push.ensures.items (goes_on c.loop-word.records.items c.args.words.now c.loop-word.word-index _ c.in-Some.record (records_in (texts c.args.words.now)) c.loop-word-test.true (rw c.in-Some.is at c.in_ok-record.ensures.exact) c.loop-word.invariant)

pub returns : goal.returns
returns g c = is_done c.loop-word.records.items c.args.words.now c.loop-word.word-index (records_in (texts c.args.words.now)) c.loop-word-test.false c.loop-word.invariant
