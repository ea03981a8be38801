use Rattle.std.proofs.Common.{◌≡◌, length, sym, ap, ◌∙◌, arith}
use Rattle.lisp_messages.specs.Spelling.{notify_type}
use Rattle.lisp_messages.specs.Written.{kind_number}
use Rattle.lisp_messages.proofs.WrittenLemmas.{kind_small, notify_head, notify_fits}
use Rattle.lisp_messages.proofs.notify.head_of.Goals.{then-message, else-message}
use Rattle.lisp_messages.proofs.notify.head_of.Goals as goal

pub returns-clause-head : goal.returns-clause-head
returns-clause-head g c =
    let named : kind_number c.if-message.kind ≡ notify_type c.message.inside.ack = elim c.if-message.branch as (λ _. kind_number c.if-message.kind ≡ notify_type c.message.inside.ack) [ then-message w ↦ ap kind_number w.kind-is ∙ ap notify_type (sym w.if-message.true) | else-message w ↦ ap kind_number w.kind-is ∙ ap notify_type (sym w.if-message.false) ] in
    notify_head _ c.args.message.now c.head.result c.number.result c.as_slice-records.result.now c.message.view_is (c.number.ensures ∙ named) c.as_slice-records.ensures c.head.ensures.head

pub returns-clause-fits : goal.returns-clause-fits
returns-clause-fits g c = notify_fits _ c.args.message.now c.message.view_is c.head.ensures.fits c.message.invariant

pub overflow_cast-count : goal.overflow_cast-count
overflow_cast-count g c = omega (arith, c.message.invariant, ap length c.as_slice-records.ensures)

pub overflow_mul-number : goal.overflow_mul-number
overflow_mul-number g c = omega (arith, kind_small c.if-message.kind, c.number.ensures)
