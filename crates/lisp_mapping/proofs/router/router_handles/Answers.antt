use Rattle.std.proofs.Common.{sym, ap, ◌∙◌}
use Rattle.lisp_records.specs.declared.address.Family.{Family}
use Rattle.lisp_records.specs.Address.{family}
use Rattle.lisp_replies.specs.Own.{IsOwnReply}
use Rattle.lisp_mapping.specs.Asked.{router_asked}
use Rattle.lisp_mapping.specs.Handling.{probed}
use Rattle.lisp_mapping.proofs.HandlingLaws.{handles}
use Rattle.lisp_mapping.proofs.router.router_handles.Goals as goal

pub returns-in-Ok-clause-handles : goal.returns-in-Ok-clause-handles
returns-in-Ok-clause-handles g c =
    handles (λ asked eid reply. IsOwnReply c.args.router.now.database eid (probed asked c.args.own.now) reply) c.args.bytes.now (router_asked c.args.resolve.now (family c.args.own.now) c.args.port c.args.bytes.now) c.in_ok-asked.asked c.in-Ok.handled
    (ap (λ (f : Family). router_asked c.args.resolve.now f c.args.port c.args.bytes.now) (sym c.family.ensures) ∙ c.in_ok-asked.ensures.exact) c.in-Ok.ensures.handled
