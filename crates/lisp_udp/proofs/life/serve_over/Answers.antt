use Rattle.std.proofs.Common.{Global, Ok}
use Rattle.lisp_turns.specs.Node.{Server}
use Rattle.lisp_udp.proofs.LifeBegins.{begins_over, runs_over, takes_turns}
use Rattle.lisp_udp.proofs.life.serve_over.Goals as goal

pub returns-clause-part : goal.returns-clause-part
returns-clause-part g c =
    let store = g.S.NonceStore.seen c.args.store in
    let begins = begins_over g.O.Outside.seen c.args.config.now c.args.sites c.args.number store c.moment-now.result (Unit {0}) Server (Ok c.start_server.result) c.args.outside c.moment-now.new.outside c.moment-now.ensures c.start_server.ensures in
    runs_over g.O.Outside.seen c.args.config.now c.args.sites c.args.number store c.moment-now.result c.args.outside c.moment-now.new.outside c.run_at.result c.moment-now.ensures (c.run_at.ensures.part c.args.sites store begins)

pub returns-clause-turns : goal.returns-clause-turns
returns-clause-turns g c =
    let store = g.S.NonceStore.seen c.args.store in
    let begins = begins_over g.O.Outside.seen c.args.config.now c.args.sites c.args.number store c.moment-now.result (Unit {0}) Server (Ok c.start_server.result) c.args.outside c.moment-now.new.outside c.moment-now.ensures c.start_server.ensures in
    takes_turns g.O.Outside.seen c.args.config.now c.args.sites c.args.number store c.moment-now.result Server Global c.args.places c.args.answering c.args.turns c.args.outside c.moment-now.new.outside c.run_at.result c.moment-now.ensures (c.run_at.ensures.turns c.args.sites store begins)
