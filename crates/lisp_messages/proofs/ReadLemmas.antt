-- What is known of an answer of `read_message`.
use Rattle.std.proofs.Common.{◌≡◌, ℕ, ◌<◌, List, length, drop, Result, Ok, Err, is_ok, true≢false, refl, sym, ap, ◌∙◌, arith}
use Rattle.std.specs.Prelude.{IfOk, slice_index}
use Rattle.lisp_records.specs.Record.{MapRecordValue}
use Rattle.lisp_records.specs.Result.{Reads}
use Rattle.lisp_records.specs.Spelling.{IsBytes}
use Rattle.lisp_records.proofs.Faults.{fault_is}
use Rattle.lisp_messages.specs.declared.fault.ReadFault.{ReadFault}
use Rattle.lisp_messages.specs.declared.fault.ReadFault.TheVariants as faults
use Rattle.lisp_messages.specs.declared.kind.Kind.{Kind}
use Rattle.lisp_messages.specs.declared.message.Message.{Message}
use Rattle.lisp_messages.specs.Message.{MessageValue}
use Rattle.lisp_messages.specs.Meaning.{message_value}
use Rattle.lisp_messages.specs.Spelling.{Spells}
use Rattle.lisp_messages.specs.Reading.{Fails, Gives, kind_at, records_at, tail_at, message_at}
use Rattle.lisp_messages.proofs.Fields.{done, IsBytes-drop}
use Rattle.lisp_messages.proofs.RecordsLaws.{records_take}
use Rattle.lisp_messages.proofs.MessageLaws.{message_takes, message_again}

-- what is answered is spelled
pub message_found : {A : Type 0} (bytes : List ℕ) (r : Result (Message A) ReadFault) → IsBytes bytes → Gives message_value r (message_at bytes) → IfOk r (λ m. Spells bytes (message_value m))
message_found bytes (Ok m) fits given = message_takes bytes (message_value m) fits given
message_found bytes (Err e) fits given = tt

-- out of memory aside, a fault is none where reading succeeds
Fails-never : (e : ReadFault) (bytes : List ℕ) (x : MessageValue) → message_at bytes ≡ Ok x → Fails e (message_at bytes) → Fails e (done x)
Fails-never faults.OutOfMemory bytes x reads fails = tt
Fails-never faults.Short bytes x reads fails = sym reads ∙ fails
Fails-never faults.Kind bytes x reads fails = sym reads ∙ fails
Fails-never faults.Algorithm bytes x reads fails = sym reads ∙ fails
Fails-never faults.AuthLength bytes x reads fails = sym reads ∙ fails
Fails-never faults.NoIds bytes x reads fails = sym reads ∙ fails
Fails-never faults.Trailing bytes x reads fails = sym reads ∙ fails
Fails-never (faults.Record i f) bytes x reads fails = sym reads ∙ fails

-- what is spelled is answered
pub message_only : {A : Type 0} (bytes : List ℕ) (r : Result (Message A) ReadFault) → Gives message_value r (message_at bytes) → (x : MessageValue) → Spells bytes x → Gives message_value r (Ok x)
message_only bytes (Ok m) given x spells = sym (message_again bytes x spells) ∙ given
message_only bytes (Err e) given x spells = Fails-never e bytes x (message_again bytes x spells) given

-- a fault is the one that reading meets
Fails-met : {Y : Type 0} (e : ReadFault) (read : Result Y ReadFault) → read ≡ Err e → Fails e read
Fails-met faults.OutOfMemory read at = tt
Fails-met faults.Short read at = at
Fails-met faults.Kind read at = at
Fails-met faults.Algorithm read at = at
Fails-met faults.AuthLength read at = at
Fails-met faults.NoIds read at = at
Fails-met faults.Trailing read at = at
Fails-met (faults.Record i f) read at = at

-- a fault of a part is the fault of the whole, where each is passed on
Fails-passed : {X Y : Type 0} (e : ReadFault) (part : Result X ReadFault) (whole : Result Y ReadFault) → ((f : ReadFault) → part ≡ Err f → whole ≡ Err f) → Fails e part → Fails e whole
Fails-passed faults.OutOfMemory part whole pass fails = tt
Fails-passed faults.Short part whole pass fails = pass faults.Short fails
Fails-passed faults.Kind part whole pass fails = pass faults.Kind fails
Fails-passed faults.Algorithm part whole pass fails = pass faults.Algorithm fails
Fails-passed faults.AuthLength part whole pass fails = pass faults.AuthLength fails
Fails-passed faults.NoIds part whole pass fails = pass faults.NoIds fails
Fails-passed faults.Trailing part whole pass fails = pass faults.Trailing fails
Fails-passed (faults.Record i f) part whole pass fails = pass (faults.Record i f) fails

-- what is read with its fault is given
reads_gives : {X : Type 0} (view : X → MessageValue) (r : Result X ReadFault) (read : Result MessageValue ReadFault) → Reads view r read → Gives view r read
reads_gives view (Ok x) read is = is
reads_gives view (Err e) read is = Fails-met e read is

-- a message whose head, records and end are read
pub whole_given : {X : Type 0} (view : X → MessageValue) (r : Result X ReadFault) (bytes : List ℕ) (kind : Kind) (records : List MapRecordValue) (tail : List ℕ) → kind_at bytes ≡ Ok kind → records_at 0 (slice_index bytes 3) (drop 32 bytes) ≡ Ok (records, tail) → Reads view r (tail_at kind bytes records tail) → Gives view r (message_at bytes)
unfolding message_at
whole_given view r bytes kind records tail head body end = rw (head, body) (reads_gives view r (tail_at kind bytes records tail) end)

-- a message whose head has a fault
pub head_fails : (e : ReadFault) (bytes : List ℕ) → kind_at bytes ≡ Err e → Fails e (message_at bytes)
unfolding message_at
head_fails e bytes fails = Fails-passed e (kind_at bytes) (message_at bytes) (λ f at. rw at refl) (Fails-met e (kind_at bytes) fails)

-- a message of which a record has a fault
pub record_fails : (e : ReadFault) (bytes : List ℕ) (kind : Kind) → kind_at bytes ≡ Ok kind → Fails e (records_at 0 (slice_index bytes 3) (drop 32 bytes)) → Fails e (message_at bytes)
unfolding message_at
record_fails e bytes kind head = Fails-passed e (records_at 0 (slice_index bytes 3) (drop 32 bytes)) (message_at bytes) (λ f at. rw (head, at) refl)

-- a head that was read has no fault
pub head_holds : (bytes : List ℕ) (kind : Kind) (e : ReadFault) → kind_at bytes ≡ Ok kind → kind_at bytes ≡ Err e → ⊥
head_holds bytes kind e head fails = true≢false (ap is_ok (sym head ∙ fails))

-- a head that failed, failed once
pub head_fault : (bytes : List ℕ) (e f : ReadFault) → kind_at bytes ≡ Err e → kind_at bytes ≡ Err f → e ≡ f
head_fault bytes e f one two = fault_is e f (sym one ∙ two)

-- records that were read are few
pub records_few : (bytes : List ℕ) (ms : List MapRecordValue) (tail : List ℕ) → IsBytes bytes → records_at 0 (slice_index bytes 3) (drop 32 bytes) ≡ Ok (ms, tail) → length ms < 256
records_few bytes ms tail fits listed = omega (arith, (records_take 0 (slice_index bytes 3) (drop 32 bytes) (ms, tail) (IsBytes-drop 32 bytes fits) listed).1, fits 3)
