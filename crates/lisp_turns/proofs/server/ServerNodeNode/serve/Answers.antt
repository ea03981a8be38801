use Rattle.std.proofs.Common.{refl, sym, ap, ◌∙◌}
use Rattle.lisp_server.specs.Notices.{notice_at, is_due_at}
use Rattle.lisp_server.specs.Server.{ServerState}
use Rattle.lisp_model.specs.declared.event.Event.TheVariants as events
use Rattle.lisp_turns.specs.Serving.{number_of}
use Rattle.lisp_turns.proofs.ServingServer.{no_notice_came}
use Rattle.lisp_turns.proofs.server.ServerNodeNode.serve.Goals as goal

pub returns-clause-does : goal.returns-clause-does
returns-clause-does g c =
    let me = c.in_ok-router.router in
    let least = c.in_ok-router.ensures.due in
    record {
      event = events.Resend c.args.place.now.number (number_of c.args.place.now.config.now me);
      does = c.resend.ensures.does;
      duty = refl;
      was_due = λ is. absurd is;
      notice_was_due = λ is. (me, refl, ap (λ (core : ServerState). is_due_at c.args.now (notice_at core.notices me)) (sym c.core.ensures) ∙ ap (is_due_at c.args.now) least.stands ∙ least.due);
      done = λ some due. due;
      others = λ other due. absurd due;
      other_notices = no_notice_came c.args.place.now.config.now c.args.place.now.number _ _ c.args.now _ _ c.resend.ensures.does.made.1;
    }
