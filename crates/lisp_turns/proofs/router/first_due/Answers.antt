use Rattle.std.proofs.Common.{sym}
use Rattle.lisp_turns.proofs.ServingDue.{register_due, server_within}
use Rattle.lisp_turns.proofs.router.first_due.Goals as goal

pub returns-clause-due : goal.returns-clause-due
returns-clause-due g c =
    register_due c.args.place.now.config.now c.args.place.now.number c.args.router.now c.requires c.servers.ensures.configuration c.servers.result.now c.servers.ensures.servers
    c.in_ok-at.at c.in_ok-server.field-0.now c.in_ok-server.ensures.lookup.3.0 c.in_ok-server.ensures.lookup.1
    c.in_ok-etr.field-0.now c.in_ok-at.part c.args.now (sym c.in_ok-etr.ensures) (sym c.in_ok-at.ensures.due)

pub returns-clause-server : goal.returns-clause-server
returns-clause-server g c =
    server_within c.args.place.now.config.now c.args.place.now.number c.args.router.now c.requires c.servers.ensures.configuration c.servers.result.now c.servers.ensures.servers
    c.in_ok-at.at c.in_ok-server.field-0.now c.in_ok-server.ensures.lookup.3.0 c.in_ok-server.ensures.lookup.1
