use Rattle.std.proofs.Common.{ℕ, refl, subst, ◌∙◌}
use Rattle.lisp_nodes.specs.Asked.{SaysNotice}
use Rattle.lisp_world.proofs.Noticing.{grows_by_notice}
use Rattle.lisp_world.proofs.notice.notice_line.Goals as goal

pub returns : goal.returns
returns g c = grows_by_notice c.args.bag.now.items c.post_to.new.bag.items c.args.from c.args.server c.args.router c.noticed-line.result c.noticed-line.result.0
    refl c.post_to.ensures c.args.notice
    (subst (λ (n : ℕ). SaysNotice c.args.server c.args.router n c.args.notice c.noticed-line.result) (c.len.ensures ∙ c.args.bag.now.ok.0) c.noticed-line.ensures)
