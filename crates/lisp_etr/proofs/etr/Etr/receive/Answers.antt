use Rattle.std.proofs.Common.{ap, is_ok, sym, ◌∙◌, Err, true≢false, ℕ, ◌<◌, ◌≤◌, inr, length, IfOk, subst}
use Rattle.std.proofs.lemmas.Result.{err_from_is_err_and, IfErr-at_err}
use Rattle.lisp_messages.specs.Message.{MapNotifyValue}
use Rattle.lisp_etr.specs.Etr.{EtrState}
use Rattle.lisp_etr.specs.Hearing.{notify_from, first_notice, AnswerFits}
use Rattle.lisp_etr.proofs.HearingLaws.{same_fault, noticed, counts, counted_fits}
use Rattle.lisp_etr.proofs.etr.Etr.receive.Goals as goal

pub returns-in_err-server-clause-early : goal.returns-in_err-server-clause-early
returns-in_err-server-clause-early g c fault kind =
    let p = err_from_is_err_and c.from_residual.result c.from_residual.ensures.1 in
    p.1 ∙ ap Err p.2 ∙ same_fault (c.in_err-server.ensures.early fault kind)

pub returns-then-notify-ge-FIRST_NOTICE_NONCE-clause-early : goal.returns-then-notify-ge-FIRST_NOTICE_NONCE-clause-early
returns-then-notify-ge-FIRST_NOTICE_NONCE-clause-early g c fault kind = absurd (true≢false (ap is_ok (c.in_ok-server.ensures.early fault kind)))

pub returns-clause-early : goal.returns-clause-early
returns-clause-early g c fault kind = absurd (true≢false (ap is_ok (c.in_ok-server.ensures.early fault kind)))

pub returns-then-notify-ge-FIRST_NOTICE_NONCE-clause-answer : goal.returns-then-notify-ge-FIRST_NOTICE_NONCE-clause-answer
returns-then-notify-ge-FIRST_NOTICE_NONCE-clause-answer g c =
    let own = ap (λ (m : MapNotifyValue). m.nonce) c.notify.view_is in
    let hears = ap (λ (e : EtrState). notify_from e.config c.args.from c.args.bytes.now) (sym c.self.view_is) ∙ c.in_ok-server.ensures.exact in
    noticed c.args.self.now (record { server = c.in_ok-server.server; message = c.in_ok-server.notify }) hears own c.if-notify-ge-FIRST_NOTICE_NONCE.true c.notice.result c.notice.ensures.notice c.notice.ensures.err

pub returns-clause-answer : goal.returns-clause-answer
returns-clause-answer g c =
    let own = ap (λ (m : MapNotifyValue). m.nonce) c.notify.view_is in
    let hears = ap (λ (e : EtrState). notify_from e.config c.args.from c.args.bytes.now) (sym c.self.view_is) ∙ c.in_ok-server.ensures.exact in
    counts c.args.self.now (record { server = c.in_ok-server.server; message = c.in_ok-server.notify }) hears own c.if-notify-ge-FIRST_NOTICE_NONCE.false c.count.result c.count.ensures.answer

pub returns-clause-fits : goal.returns-clause-fits
returns-clause-fits g c = counted_fits c.count.result c.args.self.now.rounds c.in_ok-server.server c.notify.inside.nonce c.args.self.now.config.key_id c.count.ensures.answer

pub returns-then-notify-ge-FIRST_NOTICE_NONCE-clause-fits : goal.returns-then-notify-ge-FIRST_NOTICE_NONCE-clause-fits
returns-then-notify-ge-FIRST_NOTICE_NONCE-clause-fits g c = subst (λ (key : ℕ). IfOk c.notice.result (λ seen. AnswerFits key seen)) (c.in_ok-server.ensures.key ∙ ap (λ (e : EtrState). e.config.key_id) c.self.view_is) c.notice.ensures.fits

pub count-requires : goal.count-requires
count-requires g c = subst (λ (e : EtrState). c.in_ok-server.server < length e.config.servers) c.self.view_is c.in_ok-server.ensures.server

pub returns-then-notify-ge-FIRST_NOTICE_NONCE-clause-grows : goal.returns-then-notify-ge-FIRST_NOTICE_NONCE-clause-grows
returns-then-notify-ge-FIRST_NOTICE_NONCE-clause-grows g c out =
    let hears = ap (λ (e : EtrState). notify_from e.config c.args.from c.args.bytes.now) (sym c.self.view_is) ∙ c.in_ok-server.ensures.exact in
    let late = subst (λ (nonce : ℕ). first_notice ≤ nonce) (ap (λ (m : MapNotifyValue). m.nonce) c.notify.view_is) c.if-notify-ge-FIRST_NOTICE_NONCE.true in
    (λ fault kind. true≢false (ap is_ok (c.in_ok-server.ensures.early fault kind)), inr (record { server = c.in_ok-server.server; message = c.in_ok-server.notify }, hears, late))

pub returns-clause-memory : goal.returns-clause-memory
returns-clause-memory g c out = absurd (c.count.ensures.plain out)

pub returns-then-notify-ge-FIRST_NOTICE_NONCE-clause-memory : goal.returns-then-notify-ge-FIRST_NOTICE_NONCE-clause-memory
returns-then-notify-ge-FIRST_NOTICE_NONCE-clause-memory g c out = IfErr-at_err (λ _. g.A.Memory.may_refuse) out c.notice.ensures.memory
