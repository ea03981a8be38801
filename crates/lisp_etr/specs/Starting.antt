-- What a start says of a router's store (RFC 9301 section 8.2).
use Rattle.std.specs.Prelude.{◌≡◌, Result, IsTrue, IfOk}
use Rattle.lisp_nonces.specs.declared.fault.StoreFault.{StoreFault}
use Rattle.lisp_nonces.specs.declared.fault.StoreFault.TheVariants as stores
use Rattle.lisp_nonces.specs.Kept.{kept_at, IsKept}
use Rattle.lisp_nonces.specs.Store.{StoreState}
use Rattle.lisp_nonces.specs.Promises.{IsOfDevice, LoadFailsAsArmed}
use Rattle.lisp_etr.specs.Config.{EtrConfigValue, sent_pair}
use Rattle.lisp_etr.specs.Etr.{EtrState}
use Rattle.lisp_etr.specs.declared.start_fault.StartFault.{StartFault}
use Rattle.lisp_etr.specs.declared.start_fault.StartFault.TheVariants.{Store, OutOfMemory}
use Rattle.lisp_etr.specs.declared.start_fault.StartRefused.{StartRefused}

-- of an honest store, a router that starts goes on from a nonce that may be kept for it
abbrev pub StartsIfHonest : {E : Type 0} → EtrConfigValue → StoreState → Result EtrState E → Type 0
StartsIfHonest config before answer = IsTrue before.is_honest → IfOk answer (λ e. IsKept (kept_at before.kept (sent_pair config)) e.last)

-- a start that has no memory doesn't ask the store
abbrev pub UnaskedIfNoMemory : {A : Type 0} → StoreState → StoreState → StartRefused A → Type 0
UnaskedIfNoMemory before after refused = refused.fault ≡ OutOfMemory → after ≡ before

-- the store had no memory for its load
abbrev pub IsOfFullStore : StartFault → Type 0
IsOfFullStore fault = fault ≡ Store stores.OutOfMemory

-- which leaves it as it was
abbrev pub SameIfFull : {A : Type 0} → StoreState → StoreState → StartRefused A → Type 0
SameIfFull before after refused = IsOfFullStore refused.fault → after ≡ before

-- but for memory, an obedient store fails to load only where it is armed to
abbrev pub FailsAsArmed : {A : Type 0} → StoreState → StartRefused A → Type 0
FailsAsArmed before refused = (f : StoreFault) → refused.fault ≡ Store f → LoadFailsAsArmed before f

-- a fault of the store other than out of memory is that of a device, which failed in between
abbrev pub FailsByDevice : {A : Type 0} → StoreState → StoreState → StartRefused A → Type 0
FailsByDevice before after refused = (f : StoreFault) → refused.fault ≡ Store f → IsOfDevice before after f
