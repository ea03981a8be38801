use Rattle.std.proofs.Common.{refl}
use Rattle.std.specs.String.{string_bytes}
use Rattle.std.proofs.lemmas.Result.{IfOk-weaker}
use Rattle.lisp_player.proofs.Queries.{hold_told, hold_missing}
use Rattle.lisp_player.proofs.asked.hold_lines.Goals as goal

pub returns-in_default-clause-told : goal.returns-in_default-clause-told
returns-in_default-clause-told g c = IfOk-weaker c.missing_line.result _ _ (λ text is. hold_missing c.args.world.now c.args.config.now c.args.server (string_bytes text) c.in_default.ensures is) c.missing_line.ensures.text

pub returns-clause-told : goal.returns-clause-told
returns-clause-told g c = IfOk-weaker c.server_answer.result _ _ (λ text told. hold_told c.args.world.now c.args.config.now c.args.server c.in-Some.core.now c.clock.result told.0 told.0 (string_bytes text) c.in-Some.ensures c.clock.ensures refl told.1 told.2) c.server_answer.ensures.told
