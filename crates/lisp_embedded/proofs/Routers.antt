-- What a router over a store of one call gives, is given over what its program passed.
use Rattle.std.proofs.Common.{◌≡◌, ℕ, ◌+◌, ◌<◌, ◌≤◌, Bool, true, false, cond, length, Some, None, Result, Ok, Err, refl, sym, ap, ◌∙◌, arith}
use Rattle.std.specs.Prelude.{◌≢◌, ◌↔◌, nat_le, IsTrue}
use Rattle.std.proofs.lemmas.Bool.{leb-true, leb-false}
use Rattle.lisp_nonces.specs.declared.fault.StoreFault.TheVariants as faults
use Rattle.lisp_nonces.specs.declared.fate.Fate.TheVariants.{Done, LoadFails}
use Rattle.lisp_nonces.specs.Store.{StoreState}
use Rattle.lisp_etr.specs.Starting.{FailsAsArmed, IsOfFullStore}
use Rattle.lisp_etr.specs.Etr.{EtrState}
use Rattle.lisp_etr.specs.Sending.{NoServerAt, block_end, safe_after}
use Rattle.lisp_etr.specs.declared.send_fault.SendFault.{SendFault}
use Rattle.lisp_etr.specs.declared.send_fault.SendFault.TheVariants.{NoServer}
use Rattle.lisp_etr.specs.declared.start_fault.StartFault.{StartFault}
use Rattle.lisp_etr.specs.declared.start_fault.StartFault.TheVariants.{Store, OutOfMemory}
use Rattle.lisp_etr.specs.declared.start_fault.StartRefused.{StartRefused}
use Rattle.lisp_embedded.specs.Routers.{saved_first}

-- a router that doesn't start had no memory: its store was armed to nothing
pub start_memory : {A May : Type 0} (before : StoreState) (refused : StartRefused A) → IsTrue before.is_obedient → before.fate ≡ Done
    → (refused.fault ≡ OutOfMemory → May) → (IsOfFullStore refused.fault → May) → FailsAsArmed before refused → May
start_memory {May = May} before refused obeys done own stores armed = by refused.fault refl
  where
    armed_to_nothing : before.fate ≡ LoadFails → May
    armed_to_nothing fails = (let clash : Done ≡ LoadFails = sym done ∙ fails in absurd cc)

    by : (fault : StartFault) → refused.fault ≡ fault → May
    by OutOfMemory is = own is
    by (Store faults.OutOfMemory) is = stores is
    by (Store faults.Device) is = armed_to_nothing (armed faults.Device is (λ e. absurd cc) obeys)
    by (Store faults.Damaged) is = armed_to_nothing (armed faults.Damaged is (λ e. absurd cc) obeys)

-- what is safe is as it was where the next nonce was safe, and no other time
module _ (e : EtrState) (safe : ℕ) (is : safe ≡ safe_after e.safe (e.last + 1) e.config.nonce_block) (above : e.last + 1 ≤ safe) where
  pub was_safe : safe ≡ e.safe → None ≡ saved_first e
  was_safe same = by (nat_le (e.last + 1) e.safe) refl
    where
      by : (b : Bool) → nat_le (e.last + 1) e.safe ≡ b → None ≡ cond b None (Some (block_end (e.last + 1) e.config.nonce_block))
      by true holds = refl
      by false not = absurd (omega (arith, above, same, leb-false _ _ not))

  pub is_saved : safe ≢ e.safe → Some safe ≡ saved_first e
  is_saved differs = by (nat_le (e.last + 1) e.safe) is
    where
      by : (b : Bool) → safe ≡ cond b e.safe (block_end (e.last + 1) e.config.nonce_block) → Some safe ≡ cond b None (Some (block_end (e.last + 1) e.config.nonce_block))
      by true same = absurd (differs same)
      by false end = ap Some end

-- a Map-Register that was made has a Map-Server
pub has_server : {X : Type 0} (e : EtrState) (server : ℕ) (x : X) → ((◌≡◌ {A = Result X SendFault} (Ok x) (Err NoServer)) ↔ NoServerAt e server) → server < length e.config.servers
has_server {X = X} e server x refused = by (nat_le (length e.config.servers) server) refl
  where
    by : (b : Bool) → nat_le (length e.config.servers) server ≡ b → server < length e.config.servers
    by true holds = (let clash : ◌≡◌ {A = Result X SendFault} (Ok x) (Err NoServer) = refused.1 (leb-true _ _ holds) in absurd cc)
    by false not = leb-false _ _ not
