use Rattle.std.proofs.Common.{ap, ◌∙◌}
use Rattle.std.specs.List.{find}
use Rattle.lisp_server.specs.Notices.{awaits}
use Rattle.lisp_server.proofs.StandingLaws.{awaited}
use Rattle.lisp_server.proofs.standing_notices.StandingNotices.awaiting.Goals as goal

pub returns : goal.returns
returns g c = rw (← c.self.view_is) (awaited c.self.inside.items.items c.args.from.now c.args.key c.args.nonce _ c.self.invariant (c.first_awaiting.ensures ∙ ap (find (awaits c.args.from.now c.args.key c.args.nonce)) c.deref.ensures.value))
