use Rattle.std.proofs.Common.{ap}
use Rattle.lisp_records.specs.declared.address.Addr.TheVariants.{V4, V6}
use Rattle.lisp_records.proofs.Numbers.{cleared_four, cleared_sixteen}
use Rattle.lisp_records.proofs.address.Addr.cleared.Goals as goal

pub returns-in-V4-clause-cleared : goal.returns-in-V4-clause-cleared
returns-in-V4-clause-cleared c =
    let whole = rw c.in-V4.is at c.octets.ensures.whole in
    rw (c.in-V4.is, c.to_be_bytes.ensures) (ap V4 (cleared_four c.in-V4.bytes _ c.args.mask_len whole.width whole.bytes c.first_bits_v4.ensures))

pub returns-in-V6-clause-cleared : goal.returns-in-V6-clause-cleared
returns-in-V6-clause-cleared c =
    let whole = rw c.in-V6.is at c.octets.ensures.whole in
    rw (c.in-V6.is, c.to_be_bytes-in-V6.ensures) (ap V6 (cleared_sixteen c.in-V6.bytes _ c.args.mask_len whole.width whole.bytes c.first_bits_v6.ensures))
