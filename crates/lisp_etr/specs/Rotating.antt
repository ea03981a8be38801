-- What a change of the key says of a router and its store (RFC 9301 section 8.2).
use Rattle.std.specs.Prelude.{◌≡◌, ℕ, List, Result, Err, IsTrue}
use Rattle.lisp_nonces.specs.declared.fault.StoreFault.{StoreFault}
use Rattle.lisp_nonces.specs.declared.fault.StoreFault.TheVariants as stores
use Rattle.lisp_nonces.specs.Kept.{kept_at, IsKept}
use Rattle.lisp_nonces.specs.Store.{StoreState}
use Rattle.lisp_nonces.specs.Promises.{IsOfDevice, LoadFailsAsArmed}
use Rattle.lisp_etr.specs.Config.{sent_pair_under}
use Rattle.lisp_etr.specs.Etr.{EtrState, etr_rotated}
use Rattle.lisp_etr.specs.declared.rotate_fault.RotateFault.TheVariants.{SameKey, Store}
use Rattle.lisp_etr.specs.declared.rotate_fault.RotateRefused.{RotateRefused}

-- the router goes over to the key at a time, whatever its last nonce under it is
abbrev pub RotatesTo : EtrState → EtrState → ℕ → List ℕ → ℕ → Type 0
RotatesTo old new key_id secret now = new ≡ etr_rotated old key_id secret new.last now

-- of an honest store, it goes on from a nonce that may be kept for it under that key
abbrev pub GoesOnIfHonest : EtrState → EtrState → ℕ → StoreState → Type 0
GoesOnIfHonest old new key_id before = IsTrue before.is_honest → IsKept (kept_at before.kept (sent_pair_under old.config key_id)) new.last

-- the key is the one that the router has, and is given back
abbrev pub RefusesSameKey : {X : Type 0} → List ℕ → Result X RotateRefused → Type 0
RefusesSameKey secret answer = answer ≡ Err (record { fault = SameKey; key = secret })

-- the store had no memory for its load
abbrev pub IsOfFullStore : RotateRefused → Type 0
IsOfFullStore refused = refused.fault ≡ Store stores.OutOfMemory

-- which leaves it as it was
abbrev pub SameIfFull : StoreState → StoreState → RotateRefused → Type 0
SameIfFull before after refused = IsOfFullStore refused → after ≡ before

-- but for memory, an obedient store fails to load only where it is armed to
abbrev pub FailsAsArmed : StoreState → RotateRefused → Type 0
FailsAsArmed before refused = (f : StoreFault) → refused.fault ≡ Store f → LoadFailsAsArmed before f

-- a fault of the store other than out of memory is that of a device, which failed in between
abbrev pub FailsByDevice : StoreState → StoreState → RotateRefused → Type 0
FailsByDevice before after refused = (f : StoreFault) → refused.fault ≡ Store f → IsOfDevice before after f
