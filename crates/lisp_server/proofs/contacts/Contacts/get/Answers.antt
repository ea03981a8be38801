use Rattle.std.proofs.Common.{sym}
use Rattle.lisp_server.proofs.ContactLaws.{contact_gap}
use Rattle.lisp_server.proofs.contacts.Contacts.get.Goals as goal

pub returns-in-Err : goal.returns-in-Err
returns-in-Err g c = rw (← c.self.view_is, ← c.deref.ensures.value) (sym (contact_gap _ _ _ c.in-Err.ensures.gap))
