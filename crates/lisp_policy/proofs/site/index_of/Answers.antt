use Rattle.std.proofs.Common.{arith}
use Rattle.lisp_policy.proofs.IndexLaws.{nothing_indexed, next_indexed}
use Rattle.lisp_policy.proofs.site.index_of.Goals as goal

pub loop-place-init : goal.loop-place-init
loop-place-init g c = grind (arith, nothing_indexed)

pub loop-place-preserved : goal.loop-place-preserved
loop-place-preserved g c = grind (arith, next_indexed)
