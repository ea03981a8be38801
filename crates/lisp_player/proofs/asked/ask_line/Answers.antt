use Rattle.std.specs.String.{string_bytes}
use Rattle.std.proofs.lemmas.Result.{IfOk-weaker}
use Rattle.lisp_player.proofs.Queries.{ask_told, ask_missing}
use Rattle.lisp_player.proofs.asked.ask_line.Goals as goal

pub returns-in_default-clause-told : goal.returns-in_default-clause-told
returns-in_default-clause-told g c = IfOk-weaker c.missing_line.result _ _ (λ text is. ask_missing g.row.A.Denot c.args.world.now c.args.config.now c.args.server c.args.addr.now (string_bytes text) c.in_default.ensures is) c.missing_line.ensures.text

pub returns-clause-told : goal.returns-clause-told
returns-clause-told g c = IfOk-weaker c.server_answer.result _ _ (λ text told. ask_told g.row.A.Denot c.args.world.now c.args.config.now c.args.server c.in-Some.core.now c.args.addr.now c.clock.result told.0 (string_bytes text) c.in-Some.ensures c.clock.ensures told.1 told.2 told.3) c.server_answer.ensures.told
