use Rattle.lisp_server.proofs.StandingLaws.{no_notices}
use Rattle.lisp_server.proofs.standing_notices.StandingNotices.new.Goals as goal

pub invariant_of-result : goal.invariant_of-result
invariant_of-result g c = rw c.new.ensures.items no_notices
