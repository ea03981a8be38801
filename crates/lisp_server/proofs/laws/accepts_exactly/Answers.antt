use Rattle.lisp_server.proofs.AcceptLaws.{accepts}
use Rattle.lisp_server.proofs.laws.accepts_exactly.Goals as goal

pub returns-clause-accepts : goal.returns-clause-accepts
returns-clause-accepts g c = λ roomy keeps sound acceptable. accepts c.args.from c.args.now (g.S.NonceStore.seen c.receive.new.store) acceptable roomy keeps sound c.receive.result c.receive.ensures.refused c.receive.ensures.memory c.receive.ensures.load_memory c.receive.ensures.save_memory
