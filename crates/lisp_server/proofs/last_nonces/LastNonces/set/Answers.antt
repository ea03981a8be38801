use Rattle.std.proofs.Common.{arith}
use Rattle.lisp_server.proofs.NonceLaws.{nonce_gap, nonce_set, nonce_inserted}
use Rattle.lisp_server.proofs.last_nonces.LastNonces.set.Goals as goal

pub insert_reserved-requires : goal.insert_reserved-requires
insert_reserved-requires g c =
    let gap = rw c.deref.ensures.value at c.in-Err.ensures.gap in
    let room = (rw (← c.self.view_is) at c.requires) (nonce_gap _ _ _ gap) in
    record { within = omega (arith, c.deref.ensures.len, c.in-Err.ensures.gap.within); room = omega (arith, room) }

pub returns-in-Ok : goal.returns-in-Ok
returns-in-Ok g c = rw (← c.self.view_is) (nonce_set c.self.inside.items.items c.in-Ok.place (record { pair = c.args.pair; nonce = c.args.nonce }) (rw c.deref.ensures.value at c.in-Ok.ensures.found))

pub returns-in-Err : goal.returns-in-Err
returns-in-Err g c = rw (← c.self.view_is, c.insert_reserved.ensures) (nonce_inserted c.self.inside.items.items c.in-Err.gap (record { pair = c.args.pair; nonce = c.args.nonce }) (rw c.deref.ensures.value at c.in-Err.ensures.gap))
