use Rattle.std.proofs.lemmas.Result.{on_ok_weaker}
use Rattle.lisp_server.proofs.tables.Tables.prepare_notice.Goals as goal

pub returns-clause-room : goal.returns-clause-room
returns-clause-room g c = on_ok_weaker c.prepare-2.result (λ room. record { nonces = c.in_ok-prepare.ensures.room; notices = room }) c.prepare-2.ensures.room
