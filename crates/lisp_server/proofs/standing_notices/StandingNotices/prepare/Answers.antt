use Rattle.lisp_server.proofs.StandingLaws.{notice_there}
use Rattle.lisp_server.proofs.standing_notices.StandingNotices.prepare.Goals as goal

pub returns-in-Ok-clause-room : goal.returns-in-Ok-clause-room
returns-in-Ok-clause-room g c = rw (← c.self.view_is) (λ none. absurd (notice_there _ _ _ (rw c.deref.ensures.value at c.in-Ok.ensures.found) none))
