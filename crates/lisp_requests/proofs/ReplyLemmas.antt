-- What reading a Map-Reply gives, by what is read of its parts.
use Rattle.std.proofs.Common.{◌≡◌, ℕ, List, true, false, eqb, length, Ok, Err, refl, ap}
use Rattle.std.specs.Prelude.{slice_index}
use Rattle.lisp_records.specs.declared.fault.RecordFault.{RecordFault}
use Rattle.lisp_records.specs.declared.fault.RecordFault.TheVariants as records
use Rattle.lisp_records.specs.Record.{MapRecordValue}
use Rattle.lisp_records.specs.Reading.{Fails as FailsRecord, record_at}
use Rattle.lisp_requests.specs.declared.fault.RequestFault.{RequestFault}
use Rattle.lisp_requests.specs.declared.fault.RequestFault.TheVariants.{OutOfMemory, Trailing}
use Rattle.lisp_requests.specs.Fault.{fault_of}
use Rattle.lisp_requests.specs.Reading.{lifted, items_at}
use Rattle.lisp_requests.specs.Reply.{reply_record_at, reply_head_at, map_reply_of, reply_at}

-- a record is not read
pub record_fails : (f : RecordFault) (bytes : List ℕ) → FailsRecord f (record_at bytes) → (fault_of f ≡ OutOfMemory → ⊥) → reply_record_at bytes ≡ Err (fault_of f)
record_fails records.Short bytes fails other = ap lifted fails
record_fails records.Afi bytes fails other = ap lifted fails
record_fails records.Mask bytes fails other = ap lifted fails
record_fails records.OutOfMemory bytes fails other = absurd (other refl)

-- what stands before the records is not read
pub head_fails : (bytes : List ℕ) (e : RequestFault) → reply_head_at bytes ≡ Err e → reply_at bytes ≡ Err e
unfolding reply_at
head_fails bytes e fails = rw fails refl

-- one of the records is not read
pub records_fail : (bytes rest : List ℕ) (e : RequestFault) → reply_head_at bytes ≡ Ok rest → items_at reply_record_at (slice_index bytes 3) rest ≡ Err e → reply_at bytes ≡ Err e
unfolding reply_at
records_fail bytes rest e head fails = rw (head, fails) refl

-- bytes stand after the records
pub trails : (bytes rest : List ℕ) (rs : List MapRecordValue) (tail : List ℕ) → reply_head_at bytes ≡ Ok rest → items_at reply_record_at (slice_index bytes 3) rest ≡ Ok (rs, tail) → eqb (length tail) 0 ≡ false → reply_at bytes ≡ Err Trailing
unfolding reply_at
trails bytes rest rs tail head listed more = rw (head, listed, more) refl

-- all is read
pub reply_is : (bytes rest : List ℕ) (rs : List MapRecordValue) (tail : List ℕ) → reply_head_at bytes ≡ Ok rest → items_at reply_record_at (slice_index bytes 3) rest ≡ Ok (rs, tail) → eqb (length tail) 0 ≡ true → reply_at bytes ≡ Ok (map_reply_of bytes rs)
unfolding reply_at
reply_is bytes rest rs tail head listed none = rw (head, listed, none) refl
