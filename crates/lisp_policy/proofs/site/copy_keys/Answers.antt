use Rattle.std.proofs.Common.{sym}
use Rattle.std.proofs.lemmas.List.{take_more}
use Rattle.lisp_policy.proofs.site.copy_keys.Goals as goal

pub loop-key-preserved : goal.loop-key-preserved
loop-key-preserved g c = rw (c.in_ok-try_push.ensures.items, c.loop-key.invariant, c.in_ok-copy.ensures.equal, c.key-item.is) (sym (take_more _ _ _ c.loop-key-test.true))
