-- What a call makes of a store, by what is seen of it before and after: of an honest store, of an obedient one, of any.
use Rattle.std.specs.Prelude.{◌≡◌, ◌≢◌, ℕ, [], ◌∷◌, Option, Some, Result, IsTrue, IfOk, OnOk, OnErr, IsErrOf}
use Rattle.std.specs.List.{Contains}
use Rattle.lisp_nonces.specs.declared.fate.Fate.{Fate}
use Rattle.lisp_nonces.specs.declared.fate.Fate.TheVariants.{Done}
use Rattle.lisp_nonces.specs.declared.fault.StoreFault.{StoreFault}
use Rattle.lisp_nonces.specs.declared.fault.StoreFault.TheVariants.{Device, OutOfMemory}
use Rattle.lisp_nonces.specs.declared.pair.Pair.{Pair}
use Rattle.lisp_nonces.specs.Kept.{kept_at, with_value, SameElsewhere, PairInDoubt, NarrowsEach, PicksEach, KeepsSome}
use Rattle.lisp_nonces.specs.Store.{StoreState, Rose, MayFailLoad}

-- of an honest store, a load that is answered gives a value that may be kept for the pair
abbrev pub LoadsIfHonest : StoreState → Pair → Result (Option ℕ) StoreFault → Type 0
LoadsIfHonest before pair answer = IsTrue before.is_honest → IfOk answer (λ value. Contains (kept_at before.kept pair) value)

-- of an honest store, no list changes
abbrev pub KeepsListsIfHonest : StoreState → StoreState → Type 0
KeepsListsIfHonest before after = IsTrue before.is_honest → after.kept ≡ before.kept

-- of an honest store, every other pair keeps what it kept
abbrev pub KeepsOthersIfHonest : StoreState → StoreState → Pair → Type 0
KeepsOthersIfHonest before after pair = IsTrue before.is_honest → SameElsewhere before.kept after.kept pair

-- of an honest store, a save that is done leaves the nonce alone for its pair
abbrev pub SavesIfHonest : {E : Type 0} → StoreState → StoreState → Pair → ℕ → Result (Unit {0}) E → Type 0
SavesIfHonest before after pair nonce answer = IsTrue before.is_honest → OnOk answer (kept_at after.kept pair ≡ Some nonce ∷ [])

-- of an honest store, a save that isn't done leaves its pair in doubt
abbrev pub DoubtsIfHonest : StoreState → StoreState → Pair → ℕ → Result (Unit {0}) StoreFault → Type 0
DoubtsIfHonest before after pair nonce answer = IsTrue before.is_honest → OnErr answer (PairInDoubt before.kept after.kept pair nonce)

-- of an obedient store, a save that fails keeps the nonce too, after what it kept, once
abbrev pub KeepsTooIfObedient : StoreState → StoreState → Pair → ℕ → Result (Unit {0}) StoreFault → Type 0
KeepsTooIfObedient before after pair nonce answer =
    IsErrOf answer Device → IsTrue before.is_obedient → kept_at after.kept pair ≡ with_value (kept_at before.kept pair) nonce

-- a fault other than out of memory is that of a device, which failed in between
abbrev pub IsOfDevice : StoreState → StoreState → StoreFault → Type 0
IsOfDevice before after fault = fault ≢ OutOfMemory → Rose before after

-- but for memory, an obedient store fails to load only where it is armed to
abbrev pub LoadFailsAsArmed : StoreState → StoreFault → Type 0
LoadFailsAsArmed before fault = fault ≢ OutOfMemory → MayFailLoad before

-- an obedient store stays obedient, and another one doesn't become it
abbrev pub SameObedience : StoreState → StoreState → Type 0
SameObedience before after = after.is_obedient ≡ before.is_obedient

-- an obedient store shows what it is armed with
abbrev pub ShowsFateIfObedient : StoreState → StoreState → Fate → Type 0
ShowsFateIfObedient before after fate = IsTrue before.is_obedient → after.fate ≡ fate

-- an obedient store that is armed with Done fails no more
abbrev pub QuietIfObedient : StoreState → StoreState → Fate → Type 0
QuietIfObedient before after fate = IsTrue before.is_obedient → fate ≡ Done → IsTrue after.is_quiet

-- of an honest store, a restart leaves some of each pair's values, and adds none
abbrev pub NarrowsIfHonest : StoreState → StoreState → Type 0
NarrowsIfHonest before after = IsTrue before.is_honest → NarrowsEach before.kept after.kept

-- of an obedient store, a restart leaves of each pair's values the one at a place, or the last
abbrev pub PicksIfObedient : StoreState → StoreState → ℕ → Type 0
PicksIfObedient before after pick = IsTrue before.is_obedient → PicksEach before.kept after.kept pick

-- of an honest store that was lost, some value may be kept for each pair: any
abbrev pub KeepsSomeIfHonest : StoreState → Type 0
KeepsSomeIfHonest after = IsTrue after.is_honest → KeepsSome after.kept

-- where neither memory nor a store's memory is ever refused
abbrev pub Unrefused : Type 0 → Type 0 → Type 0 → Type 0
Unrefused memory store P = (memory → ⊥) → (store → ⊥) → P
