use Rattle.lisp_registration.proofs.notices.lisp_registration_server_expire.Goals as goal

pub returns-in-Some : goal.returns-in-Some
returns-in-Some c = rw c.in-Some.ensures.value (c.expire-number.new.server, rw c.deref_mut.ensures.value at c.expire-number.ensures, c.of.ensures)
