use Rattle.lisp_policy.proofs.Allowed.{decided}
use Rattle.lisp_policy.proofs.site.Site.allows.Goals as goal

pub returns-clause-allowed : goal.returns-clause-allowed
returns-clause-allowed g c = rw c.is_allowed.ensures (decided c.args.self.now c.args.prefix.now)
