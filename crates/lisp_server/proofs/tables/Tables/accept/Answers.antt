use Rattle.lisp_server.proofs.tables.Tables.accept.Goals as goal

pub set-requires : goal.set-requires
set-requires g c = c.requires.nonces

pub set-requires-2 : goal.set-requires-2
set-requires-2 g c = c.requires.contacts
