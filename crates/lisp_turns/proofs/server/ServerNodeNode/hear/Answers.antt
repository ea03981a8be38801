use Rattle.std.proofs.Common.{Global}
use Rattle.lisp_turns.proofs.Hearing.{server_does_one}
use Rattle.lisp_turns.proofs.server.ServerNodeNode.hear.Goals as goal

pub returns-clause-does : goal.returns-clause-does
returns-clause-does g c =
    server_does_one Global c.args.place.now.config.now c.args.place.now.number c.args.from c.args.bytes.now c.args.now c.server_hears-line.result.0 c.server_hears-line.result.1
    c.args.self.now c.server_hears-line.new.server c.answer.result c.answer.ensures c.server_hears-line.ensures.hears c.requires
