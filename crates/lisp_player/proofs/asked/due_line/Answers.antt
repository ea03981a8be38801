use Rattle.std.specs.String.{string_bytes}
use Rattle.std.proofs.lemmas.Result.{IfOk-weaker}
use Rattle.lisp_player.proofs.Queries.{due_told, due_otherwise}
use Rattle.lisp_player.proofs.asked.due_line.Goals as goal

pub returns-in-Some-clause-told : goal.returns-in-Some-clause-told
returns-in-Some-clause-told g c = IfOk-weaker c.server_answer.result _ _ (λ text told. due_told c.args.world.now c.args.config.now c.args.node c.in-Some.core.now c.clock.result told.0 (string_bytes text) c.in-Some.ensures c.clock.ensures told.1 told.2 told.3) c.server_answer.ensures.told

pub returns-in-None-clause-told : goal.returns-in-None-clause-told
returns-in-None-clause-told g c = IfOk-weaker c.due_at_router.result _ _ (λ text is. due_otherwise c.args.world.now c.args.config.now c.args.node (string_bytes text) c.in-None.ensures is) c.due_at_router.ensures.told
