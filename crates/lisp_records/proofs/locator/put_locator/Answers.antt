use Rattle.std.proofs.Common.{ap}
use Rattle.lisp_records.specs.Address.{octets}
use Rattle.lisp_records.proofs.WrittenLemmas.{front_appended}
use Rattle.lisp_records.proofs.locator.put_locator.Goals as goal

pub returns-in-V4-clause-items : goal.returns-in-V4-clause-items
returns-in-V4-clause-items g c =
    front_appended c.try_extend_from_slice.result _ _ _ _ _ c.in-V4.octets c.args.locator.now.addr c.try_extend_from_slice.ensures.items c.joined.ensures c.head_of-head.ensures (ap octets c.in-V4.is)

pub returns-in-V6-clause-items : goal.returns-in-V6-clause-items
returns-in-V6-clause-items g c =
    front_appended c.try_extend_from_slice-in-V6.result _ _ _ _ _ c.in-V6.octets c.args.locator.now.addr c.try_extend_from_slice-in-V6.ensures.items c.joined-in-V6.ensures c.head_of-head.ensures (ap octets c.in-V6.is)
