use Rattle.std.proofs.Common.{ap, arith}
use Rattle.lisp_server.specs.Notices.{StandingNoticeValue}
use Rattle.lisp_server.proofs.StandingLaws.{place_within, notice_gap, notice_set, notice_inserted, rises_set, rises_insert}
use Rattle.lisp_server.proofs.standing_notices.StandingNotices.keep.Goals as goal

pub invariant_of-self : goal.invariant_of-self
invariant_of-self g c = rises_set c.self.inside.items.items c.in-Ok.place c.args.notice (rw (c.deref.ensures.value, ap (λ (n : StandingNoticeValue). n.router) c.notice.view_is) at c.in-Ok.ensures.found) c.self.invariant

pub index_mut-requires : goal.index_mut-requires
index_mut-requires g c = omega (arith, place_within c.self.inside.items.items _ _ (rw c.deref.ensures.value at c.in-Ok.ensures.found))

pub returns-in-Ok : goal.returns-in-Ok
returns-in-Ok g c = rw (← c.self.view_is) (notice_set c.self.inside.items.items c.in-Ok.place c.args.notice (rw (c.deref.ensures.value, ap (λ (n : StandingNoticeValue). n.router) c.notice.view_is) at c.in-Ok.ensures.found))

pub insert_reserved-requires : goal.insert_reserved-requires
insert_reserved-requires g c =
    let gap = rw (c.deref.ensures.value, ap (λ (n : StandingNoticeValue). n.router) c.notice.view_is) at c.in-Err.ensures.gap in
    let room = (rw (← c.self.view_is) at c.requires) (notice_gap _ _ _ gap) in
    record { within = omega (arith, c.deref.ensures.len, c.in-Err.ensures.gap.within); room = omega (arith, room) }

pub invariant_of-self-in-Err : goal.invariant_of-self-in-Err
invariant_of-self-in-Err g c =
    let gap = rw (c.deref.ensures.value, ap (λ (n : StandingNoticeValue). n.router) c.notice.view_is) at c.in-Err.ensures.gap in
    rw c.insert_reserved.ensures (rises_insert c.self.inside.items.items c.in-Err.gap c.args.notice c.self.invariant gap)

pub returns-in-Err : goal.returns-in-Err
returns-in-Err g c =
    let gap = rw (c.deref.ensures.value, ap (λ (n : StandingNoticeValue). n.router) c.notice.view_is) at c.in-Err.ensures.gap in
    rw (← c.self.view_is, c.insert_reserved.ensures) (notice_inserted c.self.inside.items.items c.in-Err.gap c.args.notice gap)
