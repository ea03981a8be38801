use Rattle.std.proofs.Common.{sym, ap, subst, Option, Err, ℕ, ◌≤◌, ◌∙◌, length}
use Rattle.lisp_records.specs.declared.router.RouterId.{RouterId}
use Rattle.lisp_lookup.specs.Records.{live_of}
use Rattle.lisp_admission.specs.Nonces.{Follows}
use Rattle.lisp_server.specs.declared.contacts.Contact.{Contact}
use Rattle.lisp_server.specs.Server.{state_of}
use Rattle.lisp_server.proofs.ContactLaws.{contact_router}
use Rattle.lisp_server.proofs.ReceivingLaws.{proceeds_on, refused_for, unchanged}
use Rattle.lisp_server.proofs.SendNoticeLaws.{few_records, announces, refuses_unregistered, refuses_unfollowed, without_room, refuses_unsaved, told_unregistered, told_unfollowed, told_memory, told_unsaved}
use Rattle.lisp_server.proofs.send_notice.send_notice.Goals as goal

pub prepare-requires : goal.prepare-requires
prepare-requires g c =
    let found = c.in_ok-recipient.ensures.registered in
    let own = ap (λ (k : Contact). k.router) found.1 ∙ contact_router c.args.tables.now.contacts.contacts c.args.router.now found.0.heard.contact found.0.heard.heard in
    record { moment = c.requires.moment; few = subst (λ (q : RouterId). length (live_of c.args.tables.now.rows.rows q c.args.now) ≤ 255) (sym own) (few_records _ found.0.fits) }

pub keep_notice-requires : goal.keep_notice-requires
keep_notice-requires g c = rw c.in_ok-notice.ensures.notice.0 c.in_ok-notice.ensures.notice.2

pub returns-in_err-save_notice-clause-proceeds : goal.returns-in_err-save_notice-clause-proceeds
returns-in_err-save_notice-clause-proceeds g c = proceeds_on c.next_nonce.ensures.proceeds c.save_notice.ensures.proceeds

pub returns-clause-proceeds : goal.returns-clause-proceeds
returns-clause-proceeds g c = proceeds_on c.next_nonce.ensures.proceeds c.save_notice.ensures.proceeds

pub returns-in_err-recipient-clause-answer : goal.returns-in_err-recipient-clause-answer
returns-in_err-recipient-clause-answer g c =
    refused_for c.from_residual.result _ _ _ c.from_residual.ensures.1 (
      told_unregistered _ _ _ _ c.in_err-recipient.ensures.refused,
      refuses_unregistered (state_of c.args.sites.now c.args.tables.now) c.args.router.now c.args.now c.in_err-recipient.field-0.0 (g.S.NonceStore.seen c.args.store.now) c.in_err-recipient.ensures.refused,
      unchanged c.args.tables.now,
    )

pub returns-in_err-nonce-clause-answer : goal.returns-in_err-nonce-clause-answer
returns-in_err-nonce-clause-answer g c =
    refused_for c.from_residual-in_err-nonce.result _ _ _ c.from_residual-in_err-nonce.ensures.1 (
      told_unfollowed _ _ _ _ _ _ c.in_err-nonce.ensures.refused (λ is. c.in_err-nonce.ensures.store_memory (ap Err is)),
      refuses_unfollowed (state_of c.args.sites.now c.args.tables.now) c.args.router.now c.args.now c.in_err-nonce.field-0.0 _ _ _ c.get.ensures c.in_ok-recipient.ensures.registered.0 c.next_nonce.ensures.unasked c.next_nonce.ensures.same c.in_err-nonce.ensures.refused,
      unchanged c.args.tables.now,
    )

pub returns-in_err-notice-clause-answer : goal.returns-in_err-notice-clause-answer
returns-in_err-notice-clause-answer g c =
    refused_for c.from_residual-in_err-notice.result _ _ _ c.from_residual-in_err-notice.ensures.1 (
      told_memory _ _ c.in_err-notice.ensures.memory,
      without_room (state_of c.args.sites.now c.args.tables.now) c.args.router.now c.args.now _ _ _ c.in_ok-nonce.nonce c.get.ensures c.in_ok-recipient.ensures.registered.0 c.in_ok-nonce.ensures.next c.next_nonce.ensures.unasked c.next_nonce.ensures.same,
      c.prepare.ensures.same,
    )

pub returns-in_err-save_notice-clause-answer : goal.returns-in_err-save_notice-clause-answer
returns-in_err-save_notice-clause-answer g c =
    refused_for c.from_residual-in_err-save_notice.result _ _ _ c.from_residual-in_err-save_notice.ensures.1 (
      told_unsaved _ _ _ _ _ _ c.in_err-save_notice.ensures.refused (λ is. c.in_err-save_notice.ensures.store_memory (ap Err is)),
      refuses_unsaved (state_of c.args.sites.now c.args.tables.now) c.args.router.now c.args.now c.in_err-save_notice.field-0.0 _ _ _ _ c.in_ok-nonce.nonce c.get.ensures c.in_ok-recipient.ensures.registered.0 c.in_ok-nonce.ensures.next c.next_nonce.ensures.proceeds c.next_nonce.ensures.same c.save_notice.ensures.others c.in_err-save_notice.ensures.refused,
      c.prepare.ensures.same,
    )

pub returns-clause-answer : goal.returns-clause-answer
returns-clause-answer g c =
    let found = c.in_ok-recipient.ensures.registered in
    announces {mid = c.prepare.new.tables} {new = c.keep_notice.new.self} {between = g.S.NonceStore.seen c.next_nonce.new.store} {nonce = c.in_ok-nonce.nonce} {notice = c.in_ok-notice.notice} (record {
      registered = found.0;
      contact_is = found.1;
      secret_is = found.2;
      next = subst (λ (last : Option ℕ). Follows last (g.S.NonceStore.seen c.args.store.now) c.in_ok-nonce.nonce) c.get.ensures c.in_ok-nonce.ensures.next;
      tells = c.in_ok-notice.ensures.notice.1;
      notice_is = c.in_ok-notice.ensures.notice.0;
      same = c.prepare.ensures.same;
      rows = c.keep_notice.ensures.rows;
      nonces = c.keep_notice.ensures.nonces;
      contacts = c.keep_notice.ensures.contacts;
      notices = c.keep_notice.ensures.notices;
      loaded = c.next_nonce.ensures.same;
      went = c.next_nonce.ensures.proceeds;
      saves = c.in_ok-save_notice.ensures.saves;
      done = c.in_ok-save_notice.ensures.done;
      others = c.save_notice.ensures.others;
    })
