use Rattle.std.proofs.Common.{ℕ, refl, subst, ◌∙◌}
use Rattle.lisp_nodes.specs.Asked.{SaysSent}
use Rattle.lisp_world.proofs.Sending.{grows_by_send}
use Rattle.lisp_world.proofs.send.send_line.Goals as goal

pub returns : goal.returns
returns g c = grows_by_send c.args.bag.now.items c.post_reply.new.bag.items c.args.from c.args.to c.args.router c.args.server c.args.part c.sent-line.result c.sent-line.result.0
    refl c.post_reply.ensures c.args.answer
    (subst (λ (n : ℕ). SaysSent c.args.router c.args.server c.args.part n c.args.answer c.sent-line.result) (c.len.ensures ∙ c.args.bag.now.ok.0) c.sent-line.ensures)
