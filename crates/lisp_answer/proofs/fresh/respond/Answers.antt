use Rattle.lisp_answer.proofs.fresh.respond.Goals as goal

pub returns : goal.returns
returns g c = c.answered.ensures c.args.sites c.start-server.ensures c.new-store.ensures
