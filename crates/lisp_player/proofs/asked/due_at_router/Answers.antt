use Rattle.std.proofs.Common.{rules, refl}
use Rattle.std.specs.String.{string_bytes}
use Rattle.std.proofs.lemmas.Result.{IfOk-weaker}
use Rattle.lisp_lines.specs.Router.{due_in}
use Rattle.lisp_player.proofs.Queries.{due_up, due_down, due_missing}
use Rattle.lisp_player.proofs.asked.due_at_router.Goals as goal

pub returns-in_default-clause-told : goal.returns-in_default-clause-told
returns-in_default-clause-told g c = IfOk-weaker c.missing_line.result _ _ (λ text is. due_missing c.args.world.now c.args.config.now c.args.node (string_bytes text) c.in_default.ensures is) c.missing_line.ensures.text

pub returns-in-Some-router-clause-told : goal.returns-in-Some-router-clause-told
returns-in-Some-router-clause-told g c = IfOk-weaker c.router_answer.result _ _ (λ text is. due_up c.args.world.now c.args.config.now c.args.node c.in-Some.entry.now c.in-Some-router.etr.now c.clock.result (due_in c.in-Some-router.etr.now c.as_slice.result.now c.clock.result) c.as_slice.result.now (string_bytes text) c.in-Some.ensures c.in-Some-router.ensures c.clock.ensures (search rules) refl is) c.router_answer.ensures.told

pub returns-in-None-clause-told : goal.returns-in-None-clause-told
returns-in-None-clause-told g c = IfOk-weaker c.line_text.result _ _ (λ text is. due_down c.args.world.now c.args.config.now c.args.node c.in-Some.entry.now (string_bytes text) c.in-Some.ensures c.in-None.ensures is) c.line_text.ensures.text
