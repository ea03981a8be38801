use Rattle.std.proofs.lemmas.Result.{on_ok_weaker}
use Rattle.lisp_server.proofs.tables.Tables.prepare.Goals as goal

pub returns-clause-room : goal.returns-clause-room
returns-clause-room g c = on_ok_weaker c.prepare-3.result (λ room. record { rows = c.in_ok-prepare.ensures.room; nonces = c.in_ok-prepare-2.ensures.room; contacts = room }) c.prepare-3.ensures.room
