use Rattle.std.proofs.Common.{subst}
use Rattle.lisp_records.specs.declared.router.RouterId.{RouterId}
use Rattle.lisp_nonces.specs.declared.fate.Fate.TheVariants.{Done}
use Rattle.lisp_refinement.specs.Calls.{NodeNotifies}
use Rattle.lisp_world.proofs.Noticing.{notice_headed}
use Rattle.lisp_turns.proofs.ObeyingNodes.{notice_does_one}
use Rattle.lisp_turns.proofs.server.notify.Goals as goal

pub act_of_notice-requires : goal.act_of_notice-requires
act_of_notice-requires g c = notice_headed c.args.server.now c.notify-answer.new.self Done c.args.me.now c.args.now c.notify-answer.ensures.notifies

pub returns-clause-does : goal.returns-clause-does
returns-clause-does g c =
    notice_does_one c.args.place.now.config.now c.args.place.now.number c.args.router c.args.now c.args.server.now c.notify-answer.new.self c.notify-answer.result c.act_of_notice.result
    c.requires.router
    (subst (λ (me : RouterId). NodeNotifies c.args.server.now c.notify-answer.new.self Done me c.args.now c.notify-answer.result) c.requires.me c.notify-answer.ensures.notifies)
    c.act_of_notice.ensures c.requires.placed
