use Rattle.std.proofs.Common.{sym, ap}
use Rattle.lisp_server.specs.Notices.{StandingNoticeValue}
use Rattle.lisp_server.proofs.NoticeLaws.{due_found, none_found}
use Rattle.lisp_server.proofs.StandingLaws.{one_for_each}
use Rattle.lisp_server.proofs.standing_notices.StandingNotices.due.Goals as goal

pub returns-in-Some-clause-due : goal.returns-in-Some-clause-due
returns-in-Some-clause-due g c = rw (← c.self.view_is, ap (λ (n : StandingNoticeValue). n.router) c.notice.view_is) (due_found c.self.inside.items.items c.args.now c.in-Some.notice.now c.self.invariant (sym (rw c.deref.ensures.value at c.in-Some.ensures)))

pub returns-in-Some-clause-one_each : goal.returns-in-Some-clause-one_each
returns-in-Some-clause-one_each g c = rw (← c.self.view_is) (one_for_each _ c.self.invariant)

pub returns-in-None-clause-due : goal.returns-in-None-clause-due
returns-in-None-clause-due g c = rw (← c.self.view_is) (none_found c.self.inside.items.items c.args.now (sym (rw c.deref.ensures.value at c.in-None.ensures)))

pub returns-in-None-clause-one_each : goal.returns-in-None-clause-one_each
returns-in-None-clause-one_each g c = rw (← c.self.view_is) (one_for_each _ c.self.invariant)
