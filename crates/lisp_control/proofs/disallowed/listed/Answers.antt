use Rattle.std.proofs.Common.{◌++◌, List, length, ap, sym, ◌∙◌}
use Rattle.std.specs.List.{flat_map}
use Rattle.std.proofs.lemmas.List.{append-nil, take_all}
use Rattle.lisp_records.specs.Address.{PrefixValue}
use Rattle.lisp_lines.proofs.Appends.{one_more}
use Rattle.lisp_control.specs.Disallowed.{disallowed_head, eid_line}
use Rattle.lisp_control.proofs.disallowed.listed.Goals as goal

pub loop-eid-init : goal.loop-eid-init
loop-eid-init c = c.in_ok-text.ensures.text ∙ sym (append-nil (disallowed_head c.args.router.now (length c.args.eids.now)))

pub loop-eid-preserved : goal.loop-eid-preserved
loop-eid-preserved c =
    one_more eid_line (disallowed_head c.args.router.now (length c.args.eids.now)) c.args.eids.now c.loop-eid.eid-index c.eid-item.result _ _
    c.loop-eid-test.true c.eid-item.is c.loop-eid.invariant c.in_ok-put_eid.ensures.text

pub returns-clause-text : goal.returns-clause-text
returns-clause-text c =
    c.loop-eid.invariant ∙ ap (λ (es : List PrefixValue). disallowed_head c.args.router.now (length c.args.eids.now) ++ flat_map eid_line es) (take_all c.loop-eid.eid-index c.args.eids.now c.loop-eid-test.false)
