use Rattle.lisp_server.proofs.ContactLaws.{contact_there}
use Rattle.lisp_server.proofs.contacts.Contacts.prepare.Goals as goal

pub returns-in-Ok-clause-room : goal.returns-in-Ok-clause-room
returns-in-Ok-clause-room g c = rw (← c.self.view_is) (λ none. absurd (contact_there _ _ _ (rw c.deref.ensures.value at c.in-Ok.ensures.found) none))
