-- A store of which one call fails.
use Rattle.std.specs.Prelude.{◌≡◌, ℕ, ◌-◌, ◌==◌, Bool, true, false, List, Option, Result, Err, if◌then◌else◌}
use Rattle.lisp_nonces.specs.declared.fault.StoreFault.{StoreFault}
use Rattle.lisp_nonces.specs.declared.fault.StoreFault.TheVariants.{Device}
use Rattle.lisp_nonces.specs.declared.fate.Fate.{Fate}
use Rattle.lisp_nonces.specs.declared.pair.Pair.{Pair}
use Rattle.std.specs.FinMap.{empty}
use Rattle.lisp_nonces.specs.Kept.{kept_at, PairInDoubt}
use Rattle.lisp_nonces.specs.Memory.{MemoryStoreState, loaded, after_load, saved, save_answer, faults_after_save, failed_once}
use Rattle.lisp_nonces.specs.Store.{StoreState, Rose}
use Rattle.lisp_nonces.specs.Promises.{IsOfDevice}

-- the store in memory that it stands round, and which of its next loads and saves fails, counted from 1; 0 where none does
pub record FailingState : Type 0 where
  pub memory : MemoryStoreState
  pub turn : ℕ

-- it is honest; that its calls don't fail, or only as it is armed, is never said of it
abbrev pub failing_state : FailingState → StoreState
failing_state f = record { kept = f.memory.kept; faults = f.memory.faults; is_honest = true; is_quiet = false; is_obedient = false; fate = f.memory.fate }

-- the next load or save is the one that fails
abbrev pub fails : FailingState → Bool
fails f = f.turn == 1

-- what is seen of it is as it was
abbrev pub SeenAsBefore : FailingState → FailingState → Type 0
SeenAsBefore old new = failing_state new ≡ failing_state old

-- a device failed in between
abbrev pub DeviceFailed : FailingState → FailingState → Type 0
DeviceFailed old new = Rose (failing_state old) (failing_state new)

-- a fault other than out of memory is that of a device, which failed in between
abbrev pub FailsByDevice : FailingState → FailingState → StoreFault → Type 0
FailsByDevice old new fault = IsOfDevice (failing_state old) (failing_state new) fault

-- the store in memory, once the call is counted
abbrev pub memory_counted : FailingState → MemoryStoreState
memory_counted f = if fails f then failed_once f.memory else f.memory

-- the store in memory is armed, and the turn stays
abbrev pub failing_armed : FailingState → Fate → FailingState
failing_armed f fate = record { memory = record f.memory { fate = fate }; turn = f.turn }

-- the store in memory keeps nothing of any pair, and the turn stays
abbrev pub failing_lost : FailingState → FailingState
failing_lost f = record { memory = record f.memory { kept = empty }; turn = f.turn }

-- what a load and a save answer
abbrev pub failing_load : FailingState → Pair → Result (Option ℕ) StoreFault
failing_load f pair = if fails f then Err Device else loaded f.memory.fate (kept_at f.memory.kept pair)

abbrev pub failing_save : FailingState → Result (Unit {0}) StoreFault
failing_save f = if fails f then Err Device else save_answer f.memory.fate

-- what a load leaves
abbrev pub failing_after_load : FailingState → FailingState
failing_after_load f = record { memory = if fails f then failed_once f.memory else after_load f.memory; turn = f.turn - 1 }

-- the list that a save leaves, and its count, where there is memory for it; the call that fails keeps nothing
abbrev pub failing_saved : FailingState → List (Option ℕ) → ℕ → List (Option ℕ)
failing_saved f vs nonce = if fails f then vs else saved f.memory.fate vs nonce

abbrev pub failing_faults : FailingState → ℕ
failing_faults f = if fails f then (failed_once f.memory).faults else faults_after_save f.memory

-- the pair has the list that a save leaves
abbrev pub SavesUnlessFailing : FailingState → FailingState → Pair → ℕ → Type 0
SavesUnlessFailing old new pair nonce = kept_at new.memory.kept pair ≡ failing_saved old (kept_at old.memory.kept pair) nonce

-- after a save that failed: the pair's list is as it was, or has the nonce too
abbrev pub LeavesInDoubt : FailingState → FailingState → Pair → ℕ → Type 0
LeavesInDoubt old new pair nonce = PairInDoubt old.memory.kept new.memory.kept pair nonce
