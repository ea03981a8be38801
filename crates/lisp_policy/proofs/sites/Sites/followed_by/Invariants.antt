use Rattle.std.proofs.Common.{◌≡◌, ◌++◌, take}
use Rattle.lisp_policy.proofs.sites.Sites.followed_by.Given as goal

-- the others so far are copied
abbrev pub invariant-loop-site : goal.invariant-loop-site
invariant-loop-site g l = l.both ≡ l.fn.self ++ take l.site-index l.others
