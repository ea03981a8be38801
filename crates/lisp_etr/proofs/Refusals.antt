-- What a send and a start answer, and what they don't.
use Rattle.std.proofs.Common.{◌≡◌, ◌≢◌, ℕ, Bool, true, false, Result, Ok, Err, refl, ap, true≢false}
use Rattle.lisp_nonces.specs.declared.fault.StoreFault.{StoreFault}
use Rattle.lisp_nonces.specs.declared.fault.StoreFault.TheVariants.{Device, Damaged}
use Rattle.lisp_nonces.specs.declared.fault.StoreFault.TheVariants as full
use Rattle.lisp_etr.specs.declared.start_fault.StartFault.{StartFault}
use Rattle.lisp_etr.specs.declared.start_fault.StartFault.TheVariants as starts
use Rattle.lisp_etr.specs.declared.send_fault.SendFault.{SendFault}
use Rattle.lisp_etr.specs.declared.send_fault.SendFault.TheVariants.{NoServer, NoPart, NonceSpent, Store, OutOfMemory}

-- the kind of an answer
abbrev pub kind : {X : Type 0} → Result X SendFault → ℕ
kind (Ok x) = 0
kind (Err NoServer) = 1
kind (Err NonceSpent) = 2
kind (Err (Store fault)) = 3
kind (Err OutOfMemory) = 4
kind (Err NoPart) = 5

-- answers of two kinds are not equal
pub apart : {X P : Type 0} (one other : Result X SendFault) → kind one ≢ kind other → one ≡ other → P
apart one other differ same = absurd (differ (ap kind same))

-- the fault in an answer
refused_for : {X : Type 0} → SendFault → Result X SendFault → SendFault
refused_for none (Err fault) = fault
refused_for none _ = none

pub send_fault : {X : Type 0} {a b : SendFault} → ◌≡◌ {A = Result X SendFault} (Err a) (Err b) → a ≡ b
unfolding refused_for
send_fault {a = a} same = ap (refused_for a) same

-- the store's fault in an answer
stored : {X : Type 0} → StoreFault → Result X SendFault → StoreFault
stored none (Err (Store fault)) = fault
stored none _ = none

pub store_fault : {X : Type 0} {a b : StoreFault} → ◌≡◌ {A = Result X SendFault} (Err (Store a)) (Err (Store b)) → a ≡ b
unfolding stored
store_fault {a = a} same = ap (stored a) same

-- the store's fault at a start
stored_start : StoreFault → StartFault → StoreFault
stored_start none (starts.Store fault) = fault
stored_start none _ = none

pub start_fault : {a b : StoreFault} → starts.Store a ≡ starts.Store b → a ≡ b
unfolding stored_start
start_fault {a = a} same = ap (stored_start a) same

is_stored : StartFault → Bool
is_stored (starts.Store fault) = true
is_stored starts.OutOfMemory = false

-- it isn't want of memory
pub not_stored : {P : Type 0} (fault : StoreFault) → starts.Store fault ≡ starts.OutOfMemory → P
unfolding is_stored
not_stored fault same = absurd (true≢false (ap is_stored same))

-- a save that failed otherwise than by the device left the store as it was
pub unsaved : {X P : Type 0} (fault : StoreFault) → (◌≡◌ {A = Result X StoreFault} (Err fault) (Err Damaged) → ⊥) → (◌≡◌ {A = Result X StoreFault} (Err fault) (Err full.OutOfMemory) → P) → Store fault ≢ Store Device → P
unsaved Device sound out other = absurd (other refl)
unsaved Damaged sound out other = absurd (sound refl)
unsaved full.OutOfMemory sound out other = out refl
