use Rattle.std.proofs.Common.{◌≡◌, ◌∷◌, [], ℕ, Some, arith, Err, inr, refl, sym, ap, ◌∙◌, subst, inl}
use Rattle.lisp_etr.proofs.SafeLaws.{none_below, alone}
use Rattle.lisp_nonces.specs.declared.pair.Pair.{Pair}
use Rattle.lisp_nonces.specs.Kept.{kept_at, with_value, InDoubt}
use Rattle.lisp_etr.specs.Config.{EtrConfigValue, sent_pair}
use Rattle.lisp_etr.specs.Sending.{block_end}
use Rattle.lisp_etr.proofs.Refusals.{store_fault, unsaved, apart}
use Rattle.lisp_etr.proofs.sending.keep_block.Goals as goal

-- what holds of the pair and the number of a save holds of a configuration's pair and the end of its block
saved : (P : Pair → ℕ → Type 0) (nonce : ℕ) {pair : Pair} {end : ℕ} {inside now : EtrConfigValue} → pair ≡ sent_pair now → end ≡ block_end nonce inside.nonce_block → inside ≡ now → P pair end → P (sent_pair now) (block_end nonce now.nonce_block)
saved P nonce {end = saves} {now = now} pair end same holds = subst (λ (s : EtrConfigValue). P (sent_pair now) (block_end nonce s.nonce_block)) same (subst (P (sent_pair now)) end (subst (λ (p : Pair). P p saves) pair holds))

pub returns-in-Err-clause-still_safe : goal.returns-in-Err-clause-still_safe
returns-in-Err-clause-still_safe g c honest none = none_below c.args.safe c.block_end-end.result _ _ (omega (arith, c.block_end-end.ensures, c.requires, c.if-nonce-safe.false)) (rw (← c.pair.ensures) (c.in-Err.ensures.doubt honest)) none

pub returns-in-Err-clause-keeps_safe : goal.returns-in-Err-clause-keeps_safe
returns-in-Err-clause-keeps_safe g c honest none = tt

pub returns-in-Err-clause-settles : goal.returns-in-Err-clause-settles
returns-in-Err-clause-settles g c honest = tt

pub returns-in-Ok-clause-keeps_safe : goal.returns-in-Ok-clause-keeps_safe
returns-in-Ok-clause-keeps_safe g c honest none = alone c.block_end-end.result _ (ap (λ (p : Pair). kept_at (g.S.NonceStore.seen c.save.new.self).kept p) (sym c.pair.ensures) ∙ c.in-Ok.ensures.done honest)

pub returns-in-Err-clause-leaves : goal.returns-in-Err-clause-leaves
returns-in-Err-clause-leaves g c honest = saved (λ p end. InDoubt (kept_at (g.S.NonceStore.seen c.args.store.now).kept p) (kept_at (g.S.NonceStore.seen c.save.new.self).kept p) end) c.args.nonce c.pair.ensures c.block_end-end.ensures c.config.view_is (c.in-Err.ensures.doubt honest)

pub returns-in-Ok-clause-saved : goal.returns-in-Ok-clause-saved
returns-in-Ok-clause-saved g c honest above = saved (λ p end. kept_at (g.S.NonceStore.seen c.save.new.self).kept p ≡ Some end ∷ []) c.args.nonce c.pair.ensures c.block_end-end.ensures c.config.view_is (c.in-Ok.ensures.done honest)

pub returns-in-Ok-clause-settles : goal.returns-in-Ok-clause-settles
returns-in-Ok-clause-settles g c honest = inr (returns-in-Ok-clause-saved g c honest (omega (arith, c.if-nonce-safe.false)))

pub returns-in-Err-clause-refused : goal.returns-in-Err-clause-refused
returns-in-Err-clause-refused g c = unsaved c.in-Err.fault c.in-Err.ensures.sound c.in-Err.ensures.refused

pub returns-in-Err-clause-store : goal.returns-in-Err-clause-store
returns-in-Err-clause-store g c = (c.in-Err.fault, refl, λ damaged. c.in-Err.ensures.sound (ap Err damaged))

pub returns-in-Err-clause-cause : goal.returns-in-Err-clause-cause
returns-in-Err-clause-cause g c failed = c.in-Err.ensures.cause (ap Err (store_fault failed))

pub returns-in-Err-clause-memory : goal.returns-in-Err-clause-memory
returns-in-Err-clause-memory g c out = c.in-Err.ensures.memory (ap Err (store_fault out))

pub returns-in-Ok-clause-cause : goal.returns-in-Ok-clause-cause
returns-in-Ok-clause-cause g c = apart _ _ (λ k. absurd (omega (arith, k)))

pub returns-in-Ok-clause-memory : goal.returns-in-Ok-clause-memory
returns-in-Ok-clause-memory g c = apart _ _ (λ k. absurd (omega (arith, k)))

pub returns-then-nonce-safe-clause-settles : goal.returns-then-nonce-safe-clause-settles
returns-then-nonce-safe-clause-settles g c honest = inl refl

pub returns-in-Err-clause-doubted : goal.returns-in-Err-clause-doubted
returns-in-Err-clause-doubted g c failed obedient = saved (λ p end. kept_at (g.S.NonceStore.seen c.save.new.self).kept p ≡ with_value (kept_at (g.S.NonceStore.seen c.args.store.now).kept p) end) c.args.nonce c.pair.ensures c.block_end-end.ensures c.config.view_is (c.in-Err.ensures.doubted (ap Err (store_fault failed)) obedient)

pub returns-in-Err-clause-save_fails : goal.returns-in-Err-clause-save_fails
returns-in-Err-clause-save_fails g c failed = c.in-Err.ensures.save_fails (ap Err (store_fault failed))
