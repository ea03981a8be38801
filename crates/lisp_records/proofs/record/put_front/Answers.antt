use Rattle.std.proofs.Common.{sym, ap, ◌∙◌}
use Rattle.lisp_records.specs.Address.{octets, PrefixValue}
use Rattle.lisp_records.proofs.WrittenLemmas.{front_appended}
use Rattle.lisp_records.proofs.record.put_front.Goals as goal

pub returns-in-V4-clause-items : goal.returns-in-V4-clause-items
returns-in-V4-clause-items g c =
    let own = ap (λ (b : PrefixValue). octets b.addr) (sym c.eid_ref.ensures) ∙ ap octets (sym c.first.ensures ∙ c.in-V4.is) in
    front_appended c.try_extend_from_slice.result c.args.out.now.items _ c.joined.result c.head_of-head.result _ c.in-V4.octets c.args.entry.now.eid.addr c.try_extend_from_slice.ensures.items c.joined.ensures c.head_of-head.ensures own

pub returns-in-V6-clause-items : goal.returns-in-V6-clause-items
returns-in-V6-clause-items g c =
    let own = ap (λ (b : PrefixValue). octets b.addr) (sym c.eid_ref.ensures) ∙ ap octets (sym c.first.ensures ∙ c.in-V6.is) in
    front_appended c.try_extend_from_slice-in-V6.result c.args.out.now.items _ c.joined-in-V6.result c.head_of-head.result _ c.in-V6.octets c.args.entry.now.eid.addr c.try_extend_from_slice-in-V6.ensures.items c.joined-in-V6.ensures c.head_of-head.ensures own
