use Rattle.lisp_log.specs.Log.{sum_of}
use Rattle.lisp_log.proofs.Telling.{puts_more}
use Rattle.lisp_log.proofs.log.put_sums.Goals as goal

pub loop-repeat-preserved : goal.loop-repeat-preserved
loop-repeat-preserved g c =
    puts_more g.A.Memory.may_refuse c.args.waiting.now c.loop-repeat.waiting c.put_sum.new.waiting (sum_of c.args.name.now) c.args.entries.now c.loop-repeat.repeat-index _ c.loop-repeat-test.true c.loop-repeat.invariant c.put_sum.ensures
