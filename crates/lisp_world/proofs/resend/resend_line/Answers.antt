use Rattle.std.proofs.Common.{ℕ, refl, ap, ◌∙◌}
use Rattle.lisp_nodes.specs.Asked.{said_resent}
use Rattle.lisp_world.proofs.Noticing.{grows_by_resend}
use Rattle.lisp_world.proofs.resend.resend_line.Goals as goal

pub returns : goal.returns
returns g c = grows_by_resend c.args.bag.now.items c.post_to.new.bag.items c.args.from c.args.server c.args.router c.resent-line.result c.resent-line.result.0
    refl c.post_to.ensures c.args.notice
    (c.resent-line.ensures ∙ ap (λ (n : ℕ). said_resent c.args.server c.args.router n c.args.notice) (c.len.ensures ∙ c.args.bag.now.ok.0))
