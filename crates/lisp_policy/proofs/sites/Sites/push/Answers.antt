use Rattle.std.proofs.Common.{arith}
use Rattle.lisp_policy.proofs.IndexLaws.{one_more}
use Rattle.lisp_policy.proofs.sites.Sites.push.Goals as goal

pub invariant_of-self-2 : goal.invariant_of-self-2
invariant_of-self-2 g c = grind (arith, one_more)
