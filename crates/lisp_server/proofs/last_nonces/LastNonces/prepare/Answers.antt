use Rattle.lisp_server.proofs.NonceLaws.{nonce_there}
use Rattle.lisp_server.proofs.last_nonces.LastNonces.prepare.Goals as goal

pub returns-in-Ok-clause-room : goal.returns-in-Ok-clause-room
returns-in-Ok-clause-room g c = rw (← c.self.view_is) (λ none. absurd (nonce_there _ _ _ (rw c.deref.ensures.value at c.in-Ok.ensures.found) none))
