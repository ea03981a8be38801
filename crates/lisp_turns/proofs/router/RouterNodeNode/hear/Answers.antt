use Rattle.std.proofs.Common.{Global}
use Rattle.lisp_turns.proofs.Hearing.{router_does_one}
use Rattle.lisp_turns.proofs.router.RouterNodeNode.hear.Goals as goal

pub returns-clause-does : goal.returns-clause-does
returns-clause-does g c =
    router_does_one Global c.args.place.now.config.now c.args.place.now.number c.args.from c.args.bytes.now c.args.now c.router_hears-line.result.0 c.router_hears-line.result.1
    c.args.self.now c.router_hears-line.new.router c.answer.result c.answer.ensures c.router_hears-line.ensures.hears c.requires
