use Rattle.std.proofs.Common.{ℕ, Option, Err, ap, subst, ◌∙◌}
use Rattle.lisp_nonces.specs.declared.pair.Pair.{Pair}
use Rattle.lisp_admission.specs.Checks.{most_jump_at}
use Rattle.lisp_admission.specs.Nonces.{IsFresh, Unasked, Stops}
use Rattle.lisp_server.specs.Server.{state_of}
use Rattle.lisp_server.proofs.ReceivingLaws.{proceeds_on, accepts, save_fails, check_fails, stops, no_room, overflows, let_in, kept_out, refused_for, unchanged, told_stopped, told_memory, told_unsaved, told_kept_out}
use Rattle.lisp_server.proofs.receive_register.receive_register.Goals as goal

pub returns-in_err-key-clause-answer : goal.returns-in_err-key-clause-answer
returns-in_err-key-clause-answer g c =
    refused_for c.from_residual.result _ _ _ c.from_residual.ensures.1 (
      ((λ is. absurd (c.in_err-key.ensures.plain (ap Err is))), (λ is. absurd (c.in_err-key.ensures.storeless.0 (ap Err is))), (λ is. absurd (c.in_err-key.ensures.storeless.1 (ap Err is)))),
      check_fails c.args.sites.now c.args.arrival.from c.args.arrival.now c.args.arrival.bytes.now c.args.register c.in_err-key.field-0.0 _ _ c.in_err-key.ensures.secret,
      unchanged c.args.tables.now,
    )

pub returns-in_err-check_nonce-clause-answer : goal.returns-in_err-check_nonce-clause-answer
returns-in_err-check_nonce-clause-answer g c =
    let before = g.S.NonceStore.seen c.args.store.now in
    let after = g.S.NonceStore.seen c.check_nonce.new.store in
    let unasked = subst (λ (last : Option ℕ). Unasked last before after) c.get.ensures c.check_nonce.ensures.unasked in
    let why = subst (λ (x : Option ℕ × Option ℕ). Stops x.0 x.1 before after c.pair_of-pair.result c.nonce_of-nonce.result c.in_err-check_nonce.field-0.0) (λ i. ((c.most_jump_at-most_jump.ensures ∙ ap (λ (p : Pair). most_jump_at c.args.sites.now p.router.site) c.pair_of-pair.ensures) i, c.get.ensures i)) c.in_err-check_nonce.ensures.refused in
    refused_for c.from_residual-in_err-check_nonce.result _ _ _ c.from_residual-in_err-check_nonce.ensures.1 (
      told_stopped _ _ _ _ _ _ _ _ _ c.in_err-check_nonce.ensures.refused (λ is. c.in_err-check_nonce.ensures.store_memory (ap Err is)),
      stops c.args.sites.now c.args.arrival.from c.args.arrival.now c.args.arrival.bytes.now c.args.register c.in_ok-key.key.now (state_of c.args.sites.now c.args.tables.now) before after c.pair_of-pair.result c.nonce_of-nonce.result c.in_err-check_nonce.field-0.0 c.pair_of-pair.ensures c.nonce_of-nonce.ensures c.in_ok-key.ensures.secret c.check_nonce.ensures.same unasked why,
      unchanged c.args.tables.now,
    )

pub returns-in_err-rows-clause-answer : goal.returns-in_err-rows-clause-answer
returns-in_err-rows-clause-answer g c =
    let fresh = subst (λ (x : Option ℕ × Option ℕ). IsFresh x.0 x.1 (g.S.NonceStore.seen c.args.store.now) c.pair_of-pair.result c.nonce_of-nonce.result) (λ i. ((c.most_jump_at-most_jump.ensures ∙ ap (λ (p : Pair). most_jump_at c.args.sites.now p.router.site) c.pair_of-pair.ensures) i, c.get.ensures i)) c.in_ok-check_nonce.ensures.fresh in
    let unasked = subst (λ (last : Option ℕ). Unasked last (g.S.NonceStore.seen c.args.store.now) (g.S.NonceStore.seen c.check_nonce.new.store)) c.get.ensures c.check_nonce.ensures.unasked in
    refused_for c.from_residual-in_err-rows.result _ _ _ c.from_residual-in_err-rows.ensures.1 (
      told_memory _ _ c.in_err-rows.ensures.memory,
      no_room c.args.sites.now c.args.arrival.from c.args.arrival.bytes.now c.args.register c.in_ok-key.key.now (state_of c.args.sites.now c.args.tables.now) _ _ c.pair_of-pair.result c.nonce_of-nonce.result c.pair_of-pair.ensures c.nonce_of-nonce.ensures c.in_ok-key.ensures.secret fresh unasked c.check_nonce.ensures.same,
      c.prepared.ensures.same,
    )

pub returns-in_err-check_space-clause-answer : goal.returns-in_err-check_space-clause-answer
returns-in_err-check_space-clause-answer g c =
    let fresh = subst (λ (x : Option ℕ × Option ℕ). IsFresh x.0 x.1 (g.S.NonceStore.seen c.args.store.now) c.pair_of-pair.result c.nonce_of-nonce.result) (λ i. ((c.most_jump_at-most_jump.ensures ∙ ap (λ (p : Pair). most_jump_at c.args.sites.now p.router.site) c.pair_of-pair.ensures) i, c.get.ensures i)) c.in_ok-check_nonce.ensures.fresh in
    let unasked = subst (λ (last : Option ℕ). Unasked last (g.S.NonceStore.seen c.args.store.now) (g.S.NonceStore.seen c.check_nonce.new.store)) c.get.ensures c.check_nonce.ensures.unasked in
    let lacks = kept_out c.args.sites.now c.args.arrival.from c.args.arrival.now c.args.register c.args.tables.now c.prepared.new.tables c.prepared.ensures.same _ (c.deref.ensures.value ∙ c.in_ok-rows.ensures.ok.0) _ (ap (λ (p : Pair). p.router.site) c.pair_of-pair.ensures) c.in_err-check_space.field-0.0 c.in_err-check_space.ensures.refused in
    refused_for c.from_residual-in_err-check_space.result _ _ _ c.from_residual-in_err-check_space.ensures.1 (
      told_kept_out _ _ c.args.sites.now c.prepared.new.tables.rows.rows c.deref.result.now c.pair_of-pair.result.router.site c.args.arrival.now c.in_err-check_space.field-0.0 c.in_err-check_space.ensures.refused (λ is. c.in_err-check_space.ensures.memory (ap Err is)),
      overflows c.args.sites.now c.args.arrival.from c.args.arrival.now c.args.arrival.bytes.now c.args.register c.in_ok-key.key.now (state_of c.args.sites.now c.args.tables.now) _ _ c.pair_of-pair.result c.nonce_of-nonce.result c.pair_of-pair.ensures c.nonce_of-nonce.ensures c.in_ok-key.ensures.secret fresh unasked c.check_nonce.ensures.same c.in_err-check_space.field-0.0 lacks,
      c.prepared.ensures.same,
    )

pub returns-in_err-save_nonce-clause-answer : goal.returns-in_err-save_nonce-clause-answer
returns-in_err-save_nonce-clause-answer g c =
    refused_for c.from_residual-in_err-save_nonce.result _ _ _ c.from_residual-in_err-save_nonce.ensures.1 (
      told_unsaved _ _ _ _ _ _ _ c.in_err-save_nonce.ensures.refused (λ is. c.in_err-save_nonce.ensures.store_memory (ap Err is)),
      save_fails {old = c.args.tables.now} c.in_err-save_nonce.field-0.0 c.pair_of-pair.result c.nonce_of-nonce.result c.pair_of-pair.ensures c.nonce_of-nonce.ensures (record {
        secret = c.in_ok-key.key.now;
        checks = c.in_ok-key.ensures.secret;
        fresh = subst (λ (x : Option ℕ × Option ℕ). IsFresh x.0 x.1 (g.S.NonceStore.seen c.args.store.now) c.pair_of-pair.result c.nonce_of-nonce.result) (λ i. ((c.most_jump_at-most_jump.ensures ∙ ap (λ (p : Pair). most_jump_at c.args.sites.now p.router.site) c.pair_of-pair.ensures) i, c.get.ensures i)) c.in_ok-check_nonce.ensures.fresh;
        space = let_in c.args.sites.now c.args.arrival.from c.args.arrival.now c.args.register c.args.tables.now c.prepared.new.tables c.prepared.ensures.same _ (c.deref.ensures.value ∙ c.in_ok-rows.ensures.ok.0) _ (ap (λ (p : Pair). p.router.site) c.pair_of-pair.ensures) c.in_ok-check_space.ensures.fits;
        loaded = c.check_nonce.ensures.same;
        went = c.check_nonce.ensures.proceeds;
        not_kept = c.in_err-save_nonce.ensures.refused;
        others = c.save_nonce.ensures.others;
      }),
      c.prepared.ensures.same,
    )

pub returns-clause-answer : goal.returns-clause-answer
returns-clause-answer g c = accepts {new = c.accept.new.self} {between = g.S.NonceStore.seen c.check_nonce.new.store} c.pair_of-pair.result c.nonce_of-nonce.result c.pair_of-pair.ensures c.nonce_of-nonce.ensures (record {
  secret = c.in_ok-key.key.now;
  checks = c.in_ok-key.ensures.secret;
  fits = c.requires;
  fresh = subst (λ (x : Option ℕ × Option ℕ). IsFresh x.0 x.1 (g.S.NonceStore.seen c.args.store.now) c.pair_of-pair.result c.nonce_of-nonce.result) (λ i. ((c.most_jump_at-most_jump.ensures ∙ ap (λ (p : Pair). most_jump_at c.args.sites.now p.router.site) c.pair_of-pair.ensures) i, c.get.ensures i)) c.in_ok-check_nonce.ensures.fresh;
  space = let_in c.args.sites.now c.args.arrival.from c.args.arrival.now c.args.register c.args.tables.now c.prepared.new.tables c.prepared.ensures.same _ (c.deref.ensures.value ∙ c.in_ok-rows.ensures.ok.0) _ (ap (λ (p : Pair). p.router.site) c.pair_of-pair.ensures) c.in_ok-check_space.ensures.fits;
  loaded = c.check_nonce.ensures.same;
  went = c.check_nonce.ensures.proceeds;
  same = c.prepared.ensures.same;
  brings = c.in_ok-rows.ensures.ok.0;
  replies = c.in_ok-rows.ensures.ok.1;
  sets = c.accept.ensures.rows;
  nonces = c.accept.ensures.nonces;
  contacts = c.accept.ensures.contacts;
  notices = c.accept.ensures.notices;
  saves = c.in_ok-save_nonce.ensures.saves;
  done = c.in_ok-save_nonce.ensures.done;
  others = c.save_nonce.ensures.others;
})

pub returns-in_err-save_nonce-clause-proceeds : goal.returns-in_err-save_nonce-clause-proceeds
returns-in_err-save_nonce-clause-proceeds g c = proceeds_on c.check_nonce.ensures.proceeds c.save_nonce.ensures.proceeds

pub returns-clause-proceeds : goal.returns-clause-proceeds
returns-clause-proceeds g c = proceeds_on c.check_nonce.ensures.proceeds c.save_nonce.ensures.proceeds
