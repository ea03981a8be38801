use Rattle.lisp_turns.proofs.Asked.{send_act}
use Rattle.lisp_turns.proofs.router.told.Goals as goal

pub returns : goal.returns
returns g = send_act g.args.place.now.config.now g.args.place.now.number g.args.due.server g.args.due.part g.address_of_server.result g.args.answer g.sent-line.result g.answer.result
    g.sent-line.ensures g.answer.ensures g.address_of_server.ensures
