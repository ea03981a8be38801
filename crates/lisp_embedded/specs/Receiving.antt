-- What a Map-Server makes of a datagram, over the nonce that the program kept (RFC 9301 sections 5.6 and 8.2).
use Rattle.std.specs.Prelude.{◌≡◌, ℕ, ◌⊎◌, ⊤, List, Option}
use Rattle.lisp_records.specs.declared.address.Addr.{Addr}
use Rattle.lisp_nonces.specs.declared.fault.StoreFault.TheVariants as faults
use Rattle.lisp_nonces.specs.Store.{StoreState}
use Rattle.lisp_admission.specs.declared.refused.Refused.{Refused}
use Rattle.lisp_admission.specs.declared.refused.Refused.TheVariants.{OutOfMemory, StoreLoad, StoreSave}
use Rattle.lisp_server.specs.declared.took.Took.{Took}
use Rattle.lisp_server.specs.Receiving.{RefusesMessage, TakesMessage}
use Rattle.lisp_server.specs.Server.{ServerState}
use Rattle.lisp_embedded.specs.Host.{Passes, pair_in}

-- it is taken over a store that keeps what was passed
abbrev pub TakesKept : {A : Type 0} → Option ℕ → Addr → List ℕ → ServerState → ServerState → ℕ → Took A → Type 0
TakesKept kept from bytes old new now took = (before : StoreState) × (after : StoreState) × Passes (pair_in bytes) kept before × TakesMessage from bytes old new before after now took

-- it is refused over such a store, or memory ran out
abbrev pub RefusesKept : Option ℕ → Addr → List ℕ → ServerState → ℕ → Refused → Type 0
RefusesKept kept from bytes old now why = ((before : StoreState) × (after : StoreState) × Passes (pair_in bytes) kept before × RefusesMessage from bytes old before after now why) ⊎ (why ≡ OutOfMemory)

-- the store of a call lies in the memory of the call
abbrev pub of_this_call : Refused → Refused
of_this_call (StoreLoad faults.OutOfMemory) = OutOfMemory
of_this_call (StoreSave faults.OutOfMemory) = OutOfMemory
of_this_call why = why

-- a refusal is not of a store
abbrev pub IsOfNoStore : Refused → Type 0
IsOfNoStore (StoreLoad fault) = ⊥
IsOfNoStore (StoreSave fault) = ⊥
IsOfNoStore _ = ⊤
