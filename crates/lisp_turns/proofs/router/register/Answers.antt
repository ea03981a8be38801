use Rattle.std.proofs.Common.{Some}
use Rattle.lisp_nonces.specs.declared.fate.Fate.TheVariants.{Done}
use Rattle.lisp_world.proofs.Sending.{sent_headed}
use Rattle.lisp_turns.proofs.ServingRouter.{sends_duty}
use Rattle.lisp_turns.proofs.router.register.Goals as goal

pub told-requires-clause-head : goal.told-requires-clause-head
told-requires-clause-head g c = sent_headed c.args.router.now c.send.new.self c.args.due.server c.args.due.part Done c.args.now (Some c.in_ok-answer.answer) c.in_ok-answer.ensures.up

pub returns-clause-does : goal.returns-clause-does
returns-clause-does g c =
    sends_duty c.args.place.now.config.now c.args.place.now.number c.args.due.server c.args.due.part c.args.now c.args.router.now c.send.new.self c.told.result c.in_ok-answer.answer
    c.in_ok-answer.ensures.up c.told.ensures c.requires.server c.requires.placed c.requires.due
