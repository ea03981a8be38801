use Rattle.lisp_nodes.proofs.NodeCalls.{alone}
use Rattle.lisp_nodes.proofs.used_keys.only.Goals as goal

pub returns-clause-alone : goal.returns-clause-alone
returns-clause-alone c = λ k there. rw c.from.ensures (alone c.args.key k c.ranges.key.fits there)
