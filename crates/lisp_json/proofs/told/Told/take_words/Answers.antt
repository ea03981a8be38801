use Rattle.lisp_json.proofs.Taking.{take_more_words}
use Rattle.lisp_json.proofs.told.Told.take_words.Goals as goal

pub loop-word-preserved : goal.loop-word-preserved
loop-word-preserved g c = take_more_words _ c.args.words.now c.loop-word.word-index _ _ _ c.loop-word-test.true c.loop-word.invariant c.in_ok-key.ensures.told
