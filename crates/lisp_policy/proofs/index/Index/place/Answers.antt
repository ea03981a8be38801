use Rattle.std.proofs.Common.{sym}
use Rattle.lisp_policy.proofs.IndexLaws.{place_nowhere}
use Rattle.lisp_policy.proofs.index.Index.place.Goals as goal

pub returns-in-Err : goal.returns-in-Err
returns-in-Err g c = rw (← c.self.view_is, ← c.deref.ensures.value) (sym (place_nowhere _ _ _ c.in-Err.ensures.gap))
