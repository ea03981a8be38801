use Rattle.lisp_policy.proofs.Behind.{one_more_behind}
use Rattle.lisp_policy.proofs.sites.Sites.followed_by.Goals as goal

pub loop-site-preserved : goal.loop-site-preserved
loop-site-preserved g c = rw (c.in_ok-push.ensures.added, c.loop-site.invariant, c.in_ok-copy.ensures.equal, c.site-item.is, c.as_slice-site-items.ensures) (one_more_behind c.args.self _ _ c.site-item.result (rw c.as_slice-site-items.ensures at c.loop-site-test.true))
