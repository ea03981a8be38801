use Rattle.lisp_look.proofs.Calls.{asks_awaits, asks_more, asks_once, awaits_more, awaits_read}
use Rattle.lisp_look.proofs.asking.ask_once.Goals as goal

pub returns-clause-asks : goal.returns-clause-asks
returns-clause-asks g c =
    asks_more c.args.look.now c.args.server.now c.args.started 1 0 _ _ _ _
    (asks_once c.args.look.now c.args.server.now c.args.started _ _ _ (rw c.requires at c.send.ensures))
    (asks_awaits c.args.look.now c.args.server.now c.args.started _ _ _ (awaits_more c.args.look.now c.args.started _ _ _ _ (awaits_read c.args.look.now c.args.started _ _ _ c.now.ensures) c.await_answer.ensures.awaits))
