-- Reading records one after the other, as a loop does.
use Rattle.std.proofs.Common.{◌≡◌, ℕ, suc, ◌-◌, ◌+◌, ◌≤◌, ◌<◌, List, [], ◌∷◌, ◌++◌, Result, Ok, Err, refl, sym, ap, ◌∙◌, append_assoc, arith}
use Rattle.std.specs.Result.{IsErrOf}
use Rattle.std.proofs.lemmas.List.{append-nil}
use Rattle.lisp_records.specs.declared.fault.RecordFault.{RecordFault}
use Rattle.lisp_records.specs.Record.{MapRecordValue}
use Rattle.lisp_records.specs.Reading.{record_at, Fails as FailsRecord}
use Rattle.lisp_records.specs.declared.fault.RecordFault.TheVariants as records
use Rattle.lisp_messages.specs.declared.fault.ReadFault.{ReadFault}
use Rattle.lisp_messages.specs.declared.fault.ReadFault.TheVariants.{Record, OutOfMemory}
use Rattle.lisp_messages.specs.Fault.{fault_at}
use Rattle.lisp_records.specs.Result.{◌>>=◌}
use Rattle.lisp_messages.specs.Reading.{Fails, records_at}

-- what was read before, and what is still read
abbrev pub with_front : List MapRecordValue → Result (List MapRecordValue × List ℕ) ReadFault → Result (List MapRecordValue × List ℕ) ReadFault
with_front front read = read >>= λ x. Ok (front ++ x.0, x.1)

regrouped : (front : List MapRecordValue) (m : MapRecordValue) (read : Result (List MapRecordValue × List ℕ) ReadFault) → with_front front (read >>= λ x. Ok (m ∷ x.0, x.1)) ≡ with_front (front ++ m ∷ []) read
regrouped front m (Ok x) = ap (λ (ms : List MapRecordValue). Ok (ms, x.1)) (simp append_assoc)
regrouped front m (Err f) = refl

-- one more record is read
pub goes_on : (front : List MapRecordValue) (count i : ℕ) (bytes : List ℕ) (m : MapRecordValue) (after : List ℕ) (total : Result (List MapRecordValue × List ℕ) ReadFault) → i < count → record_at bytes ≡ Ok (m, after)
    → with_front front (records_at i (count - i) bytes) ≡ total → with_front (front ++ m ∷ []) (records_at (i + 1) (count - (i + 1)) after) ≡ total
unfolding records_at
goes_on front count i bytes m after total lt h so_far =
    let k : count - i ≡ suc (count - (i + 1)) = omega arith in
    let next : suc i ≡ i + 1 = omega arith in
    let one : with_front front (records_at i (count - i) bytes) ≡ with_front (front ++ m ∷ []) (records_at (i + 1) (count - (i + 1)) after) = rw (k, h, next) (regrouped front m (records_at (i + 1) (count - (i + 1)) after)) in
    sym one ∙ so_far

-- the next record is not read
pub ends : (front : List MapRecordValue) (count i : ℕ) (bytes : List ℕ) (f : RecordFault) (total : Result (List MapRecordValue × List ℕ) ReadFault) → i < count → record_at bytes ≡ Err f
    → with_front front (records_at i (count - i) bytes) ≡ total → total ≡ Err (Record i f)
unfolding records_at
ends front count i bytes f total lt h so_far =
    let k : count - i ≡ suc (count - (i + 1)) = omega arith in
    let one : with_front front (records_at i (count - i) bytes) ≡ Err (Record i f) = rw (k, h) refl in
    sym so_far ∙ one

-- nor does the program's fault say otherwise
pub fails : (f : RecordFault) (front : List MapRecordValue) (count i : ℕ) (bytes : List ℕ) (total : Result (List MapRecordValue × List ℕ) ReadFault) → i < count → FailsRecord f (record_at bytes)
    → with_front front (records_at i (count - i) bytes) ≡ total → Fails (fault_at i f) total
fails records.Short front count i bytes total lt h so_far = ends front count i bytes records.Short total lt h so_far
fails records.Afi front count i bytes total lt h so_far = ends front count i bytes records.Afi total lt h so_far
fails records.Mask front count i bytes total lt h so_far = ends front count i bytes records.Mask total lt h so_far
fails records.OutOfMemory front count i bytes total lt h so_far = tt

-- all records are read
pub is_done : (front : List MapRecordValue) (count i : ℕ) (bytes : List ℕ) (total : Result (List MapRecordValue × List ℕ) ReadFault) → count ≤ i → with_front front (records_at i (count - i) bytes) ≡ total → total ≡ Ok (front, bytes)
unfolding records_at
is_done front count i bytes total le so_far =
    let k : count - i ≡ 0 = omega arith in
    let one : with_front front (records_at i (count - i) bytes) ≡ Ok (front, bytes) = rw k (ap (λ (ms : List MapRecordValue). Ok (ms, bytes)) (append-nil front)) in
    sym so_far ∙ one

-- out of memory of a record is that of the message, and of no other fault
pub ran_out : {X Y : Type 0} (i : ℕ) (f : RecordFault) → IsErrOf {T = X} (Err (fault_at i f)) OutOfMemory → IsErrOf {T = Y} (Err f) records.OutOfMemory
ran_out i records.OutOfMemory e = refl
ran_out i records.Short e = absurd cc
ran_out i records.Afi e = absurd cc
ran_out i records.Mask e = absurd cc
