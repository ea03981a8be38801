use Rattle.lisp_records.proofs.Numbers.{four_in_order, sixteen_in_order}
use Rattle.lisp_records.proofs.address.Addr.order.Goals as goal

pub returns-in-V4-V4 : goal.returns-in-V4-V4
returns-in-V4-V4 c =
    let left = rw c.in-V4-V4.is-0 at c.requires.whole.0 in
    let right = rw c.in-V4-V4.is-1 at c.requires.whole.1 in
    rw (c.in-V4-V4.is-0, c.in-V4-V4.is-1, c.cmp.ensures, c.from_be_bytes.ensures, c.from_be_bytes-in-V4-V4.ensures) (four_in_order _ _ left.width right.width left.bytes right.bytes)

pub returns-in-V6-V6 : goal.returns-in-V6-V6
returns-in-V6-V6 c =
    let left = rw c.in-V6-V6.is-0 at c.requires.whole.0 in
    let right = rw c.in-V6-V6.is-1 at c.requires.whole.1 in
    rw (c.in-V6-V6.is-0, c.in-V6-V6.is-1, c.cmp-in-V6-V6.ensures, c.from_be_bytes-in-V6-V6.ensures, c.from_be_bytes-in-V6-V6-2.ensures) (sixteen_in_order _ _ left.width right.width left.bytes right.bytes)
