-- Nonces that are checked against a store, and saved in it (RFC 9301 sections 5.6 and 5.7).
use Rattle.std.specs.Prelude.{◌≡◌, ◌≢◌, ◌+◌, ◌-◌, ◌^◌, ◌<◌, ◌≤◌, max, ℕ, Option, Some, None, Result, IfSome, IfErr, IsTrue}
use Rattle.std.specs.List.{Contains}
use Rattle.lisp_nonces.specs.declared.pair.Pair.{Pair}
use Rattle.lisp_nonces.specs.declared.fault.StoreFault.{StoreFault}
use Rattle.lisp_nonces.specs.declared.fault.StoreFault.TheVariants as faults
use Rattle.lisp_nonces.specs.Kept.{kept_at, number, with_value, InDoubt}
use Rattle.lisp_nonces.specs.Store.{StoreState, MayLoad, MayFailSave}
use Rattle.lisp_nonces.specs.Promises.{KeepsListsIfHonest, IsOfDevice, LoadFailsAsArmed}
use Rattle.lisp_admission.specs.declared.refused.Refused.{Refused}
use Rattle.lisp_admission.specs.declared.refused.Refused.TheVariants.{StoreLoad, Replay, Jump, StoreSave}
use Rattle.lisp_admission.specs.declared.notice_fault.NoticeFault.{NoticeFault}
use Rattle.lisp_admission.specs.declared.notice_fault.NoticeFault.TheVariants as notices
use Rattle.lisp_admission.specs.Pairs.{notice_pair}

-- the store may answer a load so: an obedient one is armed to answer, and an honest one keeps the value
abbrev pub MayAnswer : StoreState → Pair → Option ℕ → Type 0
MayAnswer store pair value = MayLoad store × (IsTrue store.is_honest → Contains (kept_at store.kept pair) value)

-- the number that a nonce has to be above: the pair's last since the start, or where there is none
-- a value that the store may answer
abbrev pub IsBase : Option ℕ → StoreState → Pair → Option ℕ → Type 0
IsBase (Some last) store pair base = base ≡ Some last
IsBase None store pair base = MayAnswer store pair base

-- 'nothing' is below each nonce
abbrev pub IsBelow : Option ℕ → ℕ → Type 0
IsBelow None nonce = Unit {0}
IsBelow (Some base) nonce = base < nonce

-- the nonce is no further above its base than it may jump
abbrev pub IsNear : Option ℕ → Option ℕ → ℕ → Type 0
IsNear (Some jump) (Some base) nonce = nonce ≤ base + jump
IsNear _ _ nonce = Unit {0}

-- the nonce is above its base, and near it
abbrev pub IsFresh : Option ℕ → Option ℕ → StoreState → Pair → ℕ → Type 0
IsFresh jump last store pair nonce = (base : Option ℕ) × IsBase last store pair base × IsBelow base nonce × IsNear jump base nonce

-- the nonce is further above a base than it may jump
abbrev pub IsFar : Option ℕ → ℕ → ℕ → Type 0
IsFar (Some jump) base nonce = base + jump < nonce
IsFar None base nonce = ⊥

-- why a nonce of a site isn't let through over its base: it is not above it, or too far
abbrev pub IsAmiss : ℕ → Option ℕ → Option ℕ → ℕ → Refused → Type 0
IsAmiss site jump base nonce (Replay saved) = (base ≡ Some saved) × (nonce ≤ saved)
IsAmiss site jump base nonce (Jump its saved) = (its ≡ site) × (base ≡ Some saved) × IsFar jump saved nonce
IsAmiss site jump base nonce _ = ⊥

-- no list of an honest store changed
abbrev pub KeepsLists : StoreState → StoreState → Type 0
KeepsLists before after = KeepsListsIfHonest before after

-- where the last nonce is known the store is untouched
abbrev pub Unasked : Option ℕ → StoreState → StoreState → Type 0
Unasked last before after = IfSome last (λ _. after ≡ before)

-- a fault other than out of memory comes only where a device failed in between
abbrev pub HasCause : StoreFault → StoreState → StoreState → Type 0
HasCause fault before after = IsOfDevice before after fault

-- but for memory, an obedient store fails to load only where it is armed to
abbrev pub FailsToLoad : StoreFault → StoreState → Type 0
FailsToLoad fault before = LoadFailsAsArmed before fault

-- what an obedient store makes of a save that fails: it is armed to fail, and keeps the nonce too
pub record Doubts (before after : StoreState) (pair : Pair) (nonce : ℕ) : Type 0 where
  pub armed : MayFailSave before
  pub keeps : IsTrue before.is_honest → IsTrue before.is_obedient → kept_at after.kept pair ≡ with_value (kept_at before.kept pair) nonce

-- so it fails to save, but for memory
abbrev pub FailsToSave : StoreFault → StoreState → StoreState → Pair → ℕ → Type 0
FailsToSave fault before after pair nonce = fault ≢ faults.OutOfMemory → Doubts before after pair nonce

-- the pair's base is not in memory, and can't be loaded: a device failed, or memory ran out, which changes nothing
abbrev pub Unknown : Option ℕ → StoreState → StoreState → StoreFault → Type 0
Unknown last before after fault = (last ≡ None) × HasCause fault before after × (fault ≡ faults.OutOfMemory → after ≡ before) × FailsToLoad fault before

-- why a nonce is not let through: its base can't be loaded, is not below it, or is too far below
abbrev pub Stops : Option ℕ → Option ℕ → StoreState → StoreState → Pair → ℕ → Refused → Type 0
Stops jump last before after pair nonce (StoreLoad fault) = Unknown last before after fault
Stops jump last before after pair nonce (Replay saved) = IsBase last before pair (Some saved) × (nonce ≤ saved)
Stops jump last before after pair nonce (Jump site saved) = (site ≡ pair.router.site) × IsBase last before pair (Some saved) × IsFar jump saved nonce
Stops jump last before after pair nonce _ = ⊥

-- an answer that is a refusal is one of these
abbrev pub StopsNonce : {X : Type 0} → Option ℕ → Option ℕ → StoreState → StoreState → Pair → ℕ → Result X Refused → Type 0
StopsNonce jump last before after pair nonce answer = IfErr answer (Stops jump last before after pair nonce)

-- a nonce isn't saved, and what may be kept of it
abbrev pub Unsaved : StoreState → StoreState → Pair → ℕ → StoreFault → Type 0
Unsaved before after pair nonce fault = HasCause fault before after × (fault ≢ faults.Damaged) × (IsTrue before.is_honest → InDoubt (kept_at before.kept pair) (kept_at after.kept pair) nonce) × (fault ≡ faults.OutOfMemory → after ≡ before) × FailsToSave fault before after pair nonce

abbrev pub NotKept : StoreState → StoreState → Pair → ℕ → Refused → Type 0
NotKept before after pair nonce (StoreSave fault) = Unsaved before after pair nonce fault
NotKept before after pair nonce _ = ⊥

-- the nonce after the last one, where there is one: the lower half is the routers' own
abbrev pub nonce_after : Option ℕ → ℕ
nonce_after last = max (2 ^ 63) (number last + 1)

-- there is a nonce after it
abbrev pub IsUnspent : Option ℕ → Type 0
IsUnspent last = number last < 2 ^ 64 - 1

-- there is none: the last one is the greatest, and that is the fault
abbrev pub IsSpent : Option ℕ → NoticeFault → Type 0
IsSpent last fault = (last ≡ Some (2 ^ 64 - 1)) × (fault ≡ notices.NonceSpent)

-- the nonce is that of the next notice, by the last one in memory
abbrev pub Follows : Option ℕ → StoreState → ℕ → Type 0
Follows known store nonce = (last : Option ℕ) × IsBase known store notice_pair last × IsUnspent last × (nonce ≡ nonce_after last)

-- why there is no next nonce
abbrev pub FollowsNone : Option ℕ → StoreState → StoreState → NoticeFault → Type 0
FollowsNone known before after (notices.StoreLoad fault) = Unknown known before after fault
FollowsNone known before after notices.NonceSpent = IsBase known before notice_pair (Some (2 ^ 64 - 1))
FollowsNone known before after _ = ⊥

-- why the nonce of a notice isn't saved
abbrev pub NoticeNotKept : StoreState → StoreState → ℕ → NoticeFault → Type 0
NoticeNotKept before after nonce (notices.StoreSave fault) = Unsaved before after notice_pair nonce fault
NoticeNotKept before after nonce _ = ⊥
