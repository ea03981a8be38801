use Rattle.std.proofs.Common.{ℕ, ap, ◌∙◌}
use Rattle.lisp_turns.specs.Serving.{resend_act}
use Rattle.lisp_turns.proofs.ServingServer.{resend_does_one}
use Rattle.lisp_turns.proofs.server.resend.Goals as goal

pub returns-clause-does : goal.returns-clause-does
returns-clause-does g c =
    resend_does_one c.args.place.now.config.now c.args.place.now.number c.args.now c.args.server.now c.resend-answer.new.self c.args.router.now c.resend-answer.result c.act_of_resend.result
    c.resend-answer.ensures.rest c.resend-answer.ensures.resends c.requires.due
    (c.act_of_resend.ensures ∙ ap (λ (k : ℕ). resend_act c.args.place.now.number k c.resend-answer.result) c.number_of.ensures)
    c.requires.placed
