use Rattle.std.proofs.Common.{arith}
use Rattle.lisp_policy.proofs.IndexLaws.{nothing_indexed}
use Rattle.lisp_policy.proofs.sites.Sites.new.Goals as goal

pub invariant_of-result : goal.invariant_of-result
invariant_of-result g c = grind (arith, nothing_indexed)
