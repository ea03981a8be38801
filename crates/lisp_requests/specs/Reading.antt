-- Steps of reading from left to right, with the first fault that is met.
use Rattle.std.specs.Prelude.{◌≡◌, ◌≢◌, ℕ, zero, suc, List, [], ◌∷◌, length, drop, Result, Ok, Err, Bool, true, nat_lt, if◌then◌else◌, IsErrOf}
use Rattle.lisp_records.specs.Result.{◌>>=◌}
use Rattle.lisp_records.specs.declared.fault.RecordFault.{RecordFault}
use Rattle.lisp_requests.specs.declared.fault.RequestFault.{RequestFault}
use Rattle.lisp_requests.specs.declared.fault.RequestFault.TheVariants as faults
use Rattle.lisp_requests.specs.Fault.{fault_of}

-- a fault is the one that reading meets, except that out of memory may come at any time
abbrev pub Fails : {Y : Type 0} → RequestFault → Result Y RequestFault → Type 0
Fails fault read = fault ≢ faults.OutOfMemory → read ≡ Err fault

-- what a function answers, seen by view, is what reading gives
abbrev pub Gives : {X Y : Type 0} → (X → Y) → Result X RequestFault → Result Y RequestFault → Type 0
Gives view (Ok x) read = read ≡ Ok (view x)
Gives view (Err fault) read = Fails fault read

-- what holds where a function answers that it is out of memory
abbrev pub IfOutOfMemory : {X : Type 0} → Result X RequestFault → Type 0 → Type 0
IfOutOfMemory result P = IsErrOf result faults.OutOfMemory → P

-- the bytes after a field of so many
abbrev pub after : ℕ → List ℕ → Result (List ℕ) RequestFault
after n bytes = if nat_lt (length bytes) n then Err faults.Short else Ok (drop n bytes)

-- the fault, unless the test holds
abbrev pub require : RequestFault → Bool → Result Bool RequestFault
require fault holds = if holds then Ok true else Err fault

-- what is read of a record, with its fault as one of the message
abbrev pub lifted : {X : Type 0} → Result X RecordFault → Result X RequestFault
lifted (Ok x) = Ok x
lifted (Err fault) = Err (fault_of fault)

-- so many items, one after the other, as a reader takes them
unfoldable pub items_at : {X : Type 0} → (List ℕ → Result (X × List ℕ) RequestFault) → ℕ → List ℕ → Result (List X × List ℕ) RequestFault
items_at read zero bytes = Ok ([], bytes)
items_at read (suc n) bytes = do
  first ← read bytes
  others ← items_at read n first.1
  Ok (first.0 ∷ others.0, others.1)
