-- A store in memory: the lists of its entries, and what each fate makes of a call.
use Rattle.std.specs.Prelude.{◌≡◌, ◌≢◌, ℕ, ◌+◌, ◌-◌, ◌^◌, min, Bool, true, false, List, [], ◌∷◌, Option, Some, None, Result, Ok, Err, slice_index_or}
use Rattle.lisp_nonces.specs.declared.fault.StoreFault.{StoreFault}
use Rattle.std.specs.FinMap.{empty}
use Rattle.lisp_nonces.specs.declared.fault.StoreFault.TheVariants.{Device, OutOfMemory}
use Rattle.lisp_nonces.specs.declared.fate.Fate.{Fate}
use Rattle.lisp_nonces.specs.declared.fate.Fate.TheVariants.{Done, Doubt, LoadFails}
use Rattle.lisp_nonces.specs.declared.pair.Pair.{Pair}
use Rattle.lisp_nonces.specs.Kept.{Kept, kept_at, with_value}
use Rattle.lisp_nonces.specs.Store.{StoreState, Rose, MayFailSave}
use Rattle.lisp_nonces.specs.Promises.{KeepsTooIfObedient}

-- what a store in memory is: the lists, the count of faults, and the fate that it is armed with
pub record MemoryStoreState : Type 0 where
  pub kept : Kept
  pub faults : ℕ
  pub fate : Fate

-- a store that keeps nothing, has no fault, and is armed with Done
abbrev pub empty_memory : MemoryStoreState
empty_memory = record { kept = empty; faults = 0; fate = Done }

-- by the fate: for Done, for Doubt, for LoadFails
abbrev pub match_fate : {X : Type 0} → Fate → X → X → X → X
match_fate Done a b c = a
match_fate Doubt a b c = b
match_fate LoadFails a b c = c

abbrev pub is_done : Fate → Bool
is_done Done = true
is_done _ = false

-- it is honest and obedient, and quiet where it is armed with Done
abbrev pub memory_state : MemoryStoreState → StoreState
memory_state m = record { kept = m.kept; faults = m.faults; is_honest = true; is_quiet = is_done m.fate; is_obedient = true; fate = m.fate }

-- what is seen of it is as it was
abbrev pub SeenAsBefore : MemoryStoreState → MemoryStoreState → Type 0
SeenAsBefore old new = memory_state new ≡ memory_state old

-- its device failed in between
abbrev pub DeviceFailed : MemoryStoreState → MemoryStoreState → Type 0
DeviceFailed old new = Rose (memory_state old) (memory_state new)

-- what a load answers: the first of the list, or a fault
abbrev pub loaded : Fate → List (Option ℕ) → Result (Option ℕ) StoreFault
loaded LoadFails vs = Err Device
loaded _ vs = Ok (slice_index_or vs 0 None)

-- the list that a save leaves, where there is memory for it
abbrev pub saved : Fate → List (Option ℕ) → ℕ → List (Option ℕ)
saved Doubt vs nonce = with_value vs nonce
saved _ vs nonce = Some nonce ∷ []

-- a device failed once more; the count stops at its end
abbrev pub failed_once : MemoryStoreState → MemoryStoreState
failed_once m = record m { faults = min (m.faults + 1) (2 ^ 64 - 1) }

-- what a load leaves of the store
abbrev pub after_load : MemoryStoreState → MemoryStoreState
after_load m = match_fate m.fate m m (failed_once m)

-- what a save answers, where there is memory for it
abbrev pub save_answer : Fate → Result (Unit {0}) StoreFault
save_answer fate = match_fate fate (Ok tt) (Err Device) (Ok tt)

-- the count after a save, where there is memory for it
abbrev pub faults_after_save : MemoryStoreState → ℕ
faults_after_save m = match_fate m.fate m.faults (failed_once m).faults m.faults

-- there was memory for the call
abbrev pub HasMemory : {X : Type 0} → Result X StoreFault → Type 0
HasMemory answer = answer ≢ Err OutOfMemory

-- the pair has the list that a save leaves by the fate
abbrev pub SavesByFate : MemoryStoreState → MemoryStoreState → Pair → ℕ → Type 0
SavesByFate old new pair nonce = kept_at new.kept pair ≡ saved old.fate (kept_at old.kept pair) nonce

-- its saves are armed to fail
abbrev pub IsArmedToDoubt : MemoryStoreState → Type 0
IsArmedToDoubt m = MayFailSave (memory_state m)

-- a save that fails keeps the nonce too
abbrev pub KeepsToo : MemoryStoreState → MemoryStoreState → Pair → ℕ → Result (Unit {0}) StoreFault → Type 0
KeepsToo old new pair nonce answer = KeepsTooIfObedient (memory_state old) (memory_state new) pair nonce answer
