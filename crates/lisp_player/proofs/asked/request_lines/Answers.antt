use Rattle.std.proofs.Common.{refl, sym}
use Rattle.std.specs.String.{string_bytes}
use Rattle.std.proofs.lemmas.Result.{IfOk-at_ok, IfOk-weaker}
use Rattle.lisp_player.proofs.Queries.{request_told, request_missing}
use Rattle.lisp_player.proofs.asked.request_lines.Goals as goal

pub returns-in_default-clause-told : goal.returns-in_default-clause-told
returns-in_default-clause-told g c = IfOk-weaker c.missing_line.result _ _ (λ text is. request_missing g.row.A.Denot c.args.world.now c.args.config.now c.args.server c.args.asked.now c.args.from (string_bytes text) (sym (c.in_default.ensures.missing refl)) is) c.missing_line.ensures.text

pub returns-clause-told : goal.returns-clause-told
returns-clause-told g c = IfOk-weaker c.request_text.result _ _ (λ text is. request_told g.row.A.Denot c.args.world.now c.args.config.now c.args.server c.args.asked.now c.args.from c.in_ok-reply.reply (string_bytes text) (IfOk-at_ok _ c.in_ok-reply.was c.in-Some.ensures.replies) (IfOk-at_ok _ c.in_ok-reply.was c.in-Some.ensures.promised) is) c.request_text.ensures.text
