-- Reading a message from left to right, with the first fault that is met.
use Rattle.std.specs.Prelude.{◌≡◌, ◌≢◌, ℕ, zero, suc, ◌/◌, ◌<◌, List, [], ◌∷◌, length, take, drop, Result, Ok, Err, Bool, true, false, nat_lt, ◌==◌, ◌||◌, if◌then◌else◌, slice_index, IsErrOf}
use Rattle.std.specs.Int.{w64, from_be_bytes}
use Rattle.lisp_records.specs.Result.{◌>>=◌}
use Rattle.lisp_records.specs.declared.fault.RecordFault.{RecordFault}
use Rattle.lisp_records.specs.Record.{MapRecordValue}
use Rattle.lisp_records.specs.Reading.{is_set, number_at, record_at}
use Rattle.lisp_messages.specs.declared.kind.Kind.{Kind}
use Rattle.lisp_messages.specs.declared.kind.Kind.TheVariants as kinds
use Rattle.lisp_messages.specs.declared.fault.ReadFault.{ReadFault}
use Rattle.lisp_messages.specs.declared.fault.ReadFault.TheVariants as faults
use Rattle.lisp_messages.specs.Message.{MapRegisterValue, MapNotifyValue, MessageValue, Registers, Notifies}

-- a fault is the one that reading meets, except that out of memory may come at any time
abbrev pub Fails : {Y : Type 0} → ReadFault → Result Y ReadFault → Type 0
Fails faults.OutOfMemory read = Unit {0}
Fails faults.Short read = read ≡ Err faults.Short
Fails faults.Kind read = read ≡ Err faults.Kind
Fails faults.Algorithm read = read ≡ Err faults.Algorithm
Fails faults.AuthLength read = read ≡ Err faults.AuthLength
Fails faults.NoIds read = read ≡ Err faults.NoIds
Fails faults.Trailing read = read ≡ Err faults.Trailing
Fails (faults.Record i f) read = read ≡ Err (faults.Record i f)

-- what a function answers, seen by view, is what reading gives
abbrev pub Gives : {X Y : Type 0} → (X → Y) → Result X ReadFault → Result Y ReadFault → Type 0
Gives view (Ok x) read = read ≡ Ok (view x)
Gives view (Err e) read = Fails e read

-- what holds where a function answers that it is out of memory
abbrev pub IfOutOfMemory : {X : Type 0} → Result X ReadFault → Type 0 → Type 0
IfOutOfMemory result P = IsErrOf result faults.OutOfMemory → P

-- the bytes after a field of so many
abbrev pub after : ℕ → List ℕ → Result (List ℕ) ReadFault
after n bytes = if nat_lt (length bytes) n then Err faults.Short else Ok (drop n bytes)

-- the fault, unless the test holds
abbrev pub require : ReadFault → Bool → Result Bool ReadFault
require fault holds = if holds then Ok true else Err fault

-- the message type (RFC 9301 section 5.1): 3, 4 or 5
abbrev pub kind_of : ℕ → Result Kind ReadFault
kind_of number = if number == 3 then Ok kinds.Register else (if number == 4 then Ok kinds.Notify else (if number == 5 then Ok kinds.NotifyAck else Err faults.Kind))

-- a fault of a record, with its place among the records
abbrev pub at_place : {X : Type 0} → ℕ → Result X RecordFault → Result X ReadFault
at_place i (Ok x) = Ok x
at_place i (Err f) = Err (faults.Record i f)

-- so many records, the first of them at place i
unfoldable pub records_at : ℕ → ℕ → List ℕ → Result (List MapRecordValue × List ℕ) ReadFault
records_at i zero bytes = Ok ([], bytes)
records_at i (suc n) bytes = do
  first ← at_place i (record_at bytes)
  others ← records_at (suc i) n first.1
  Ok (first.0 ∷ others.0, others.1)

-- the records of a message, as many as its Record Count says, and the bytes after them
abbrev pub records_of : List ℕ → Result (List MapRecordValue × List ℕ) ReadFault
records_of bytes = records_at 0 (slice_index bytes 3) (drop 32 bytes)

-- xTR-ID and Site-ID, to the end
unfoldable pub ids_at : List ℕ → Result (List ℕ × ℕ) ReadFault
ids_at bytes = do
  rest ← after 16 bytes
  end ← after 8 rest
  if length end == 0 then Ok (take 16 bytes, from_be_bytes w64 (take 8 rest)) else Err faults.Trailing

abbrev pub nonce_of : List ℕ → ℕ
nonce_of bytes = from_be_bytes w64 (take 8 (drop 4 bytes))

abbrev pub map_register_of : List ℕ → List MapRecordValue → List ℕ → ℕ → MapRegisterValue
map_register_of bytes records xtr site = record {
  proxy = is_set (slice_index bytes 0) 8;
  sec = is_set (slice_index bytes 0) 4;
  eid_notify = is_set (slice_index bytes 2) 16;
  use_ttl = is_set (slice_index bytes 2) 8;
  merge = is_set (slice_index bytes 2) 4;
  want_notify = is_set (slice_index bytes 2) 1;
  nonce = nonce_of bytes;
  key_id = slice_index bytes 12;
  records = records;
  xtr = xtr;
  site = site;
}

abbrev pub map_notify_of : Bool → List ℕ → List MapRecordValue → MapNotifyValue
map_notify_of ack bytes records = record { ack = ack; nonce = nonce_of bytes; key_id = slice_index bytes 12; records = records }

-- what stands after the records of a Map-Register
unfoldable pub register_at : List ℕ → List MapRecordValue → List ℕ → Result MessageValue ReadFault
register_at bytes records tail = do
  _ ← require faults.NoIds (is_set (slice_index bytes 0) 2)
  ids ← ids_at tail
  Ok (Registers (map_register_of bytes records ids.0 ids.1))

-- what stands after the records of the other two: nothing, or 24 bytes that are ignored
unfoldable pub notify_at : Bool → List ℕ → List MapRecordValue → List ℕ → Result MessageValue ReadFault
notify_at ack bytes records tail = do
  _ ← require faults.Trailing (length tail == 0 || length tail == 24)
  Ok (Notifies (map_notify_of ack bytes records))

abbrev pub tail_at : Kind → List ℕ → List MapRecordValue → List ℕ → Result MessageValue ReadFault
tail_at kinds.Register bytes records tail = register_at bytes records tail
tail_at kinds.Notify bytes records tail = notify_at false bytes records tail
tail_at kinds.NotifyAck bytes records tail = notify_at true bytes records tail

-- the message type, where the 32 bytes before the records are as they must be
unfoldable pub kind_at : List ℕ → Result Kind ReadFault
kind_at bytes = do
  _ ← after 16 bytes
  kind ← kind_of (slice_index bytes 0 / 16)
  _ ← require faults.Algorithm (slice_index bytes 13 == 2)
  _ ← require faults.AuthLength (number_at bytes 14 == 16)
  _ ← after 32 bytes
  Ok kind

unfoldable pub message_at : List ℕ → Result MessageValue ReadFault
message_at bytes = do
  kind ← kind_at bytes
  records ← records_of bytes
  tail_at kind bytes records.0 records.1

-- the Record Count is not 0
abbrev pub HasRecords : List ℕ → Type 0
HasRecords bytes = 0 < slice_index bytes 3

-- the bytes before the records have no fault
abbrev pub HasHead : List ℕ → Type 0
HasHead bytes = (fault : ReadFault) → kind_at bytes ≢ Err fault

-- only then reading a message takes memory: the bytes before its records have no fault, and it has records
abbrev pub TakesMemory : List ℕ → Type 0
TakesMemory bytes = HasHead bytes × HasRecords bytes
