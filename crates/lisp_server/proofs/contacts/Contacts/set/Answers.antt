use Rattle.std.proofs.Common.{arith}
use Rattle.lisp_server.proofs.ContactLaws.{contact_gap, contact_set, contact_inserted}
use Rattle.lisp_server.proofs.contacts.Contacts.set.Goals as goal

pub insert_reserved-requires : goal.insert_reserved-requires
insert_reserved-requires g c =
    let gap = rw c.deref.ensures.value at c.in-Err.ensures.gap in
    let room = (rw (← c.self.view_is) at c.requires) (contact_gap _ _ _ gap) in
    record { within = omega (arith, c.deref.ensures.len, c.in-Err.ensures.gap.within); room = omega (arith, room) }

pub returns-in-Ok : goal.returns-in-Ok
returns-in-Ok g c = rw (← c.self.view_is) (contact_set c.self.inside.items.items c.in-Ok.place c.args.contact (rw c.deref.ensures.value at c.in-Ok.ensures.found))

pub returns-in-Err : goal.returns-in-Err
returns-in-Err g c = rw (← c.self.view_is, c.insert_reserved.ensures) (contact_inserted c.self.inside.items.items c.in-Err.gap c.args.contact (rw c.deref.ensures.value at c.in-Err.ensures.gap))
