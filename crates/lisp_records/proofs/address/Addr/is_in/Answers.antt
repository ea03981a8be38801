use Rattle.lisp_records.proofs.Numbers.{in_four, in_sixteen}
use Rattle.lisp_records.proofs.address.Addr.is_in.Goals as goal

pub returns-in-V4-V4 : goal.returns-in-V4-V4
returns-in-V4-V4 c =
    let whole = rw c.in-V4-V4.is-0 at c.octets.ensures.whole in
    let first = rw c.in-V4-V4.is-1 at c.octets-2.ensures.whole in
    rw (c.in-V4-V4.is-0, c.in-V4-V4.is-1, c.from_be_bytes.ensures) (in_four _ _ _ c.args.mask_len whole.width whole.bytes first.width first.bytes c.first_bits_v4.ensures)

pub returns-in-V6-V6 : goal.returns-in-V6-V6
returns-in-V6-V6 c =
    let whole = rw c.in-V6-V6.is-0 at c.octets.ensures.whole in
    let first = rw c.in-V6-V6.is-1 at c.octets-2.ensures.whole in
    rw (c.in-V6-V6.is-0, c.in-V6-V6.is-1, c.from_be_bytes-in-V6-V6.ensures) (in_sixteen _ _ _ c.args.mask_len whole.width whole.bytes first.width first.bytes c.first_bits_v6.ensures)
