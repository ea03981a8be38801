-- What a call from C leaves: its number, and what stands behind the pointers that it was given.
use Rattle.std.specs.Prelude.{◌≡◌, ℕ, ◌≤◌, nat_lt, Bool, true, false, List, ◌++◌, length, drop, Result, Ok, Err, IfOk, if◌then◌else◌, []}
use Rattle.std.specs.Global.{Global}
use Rattle.lisp_records.specs.declared.fault.RecordFault.{RecordFault}
use Rattle.lisp_records.specs.declared.layout.RecordLayout.{RecordLayout}
use Rattle.lisp_records.specs.declared.locator.Locator.{Locator}
use Rattle.lisp_records.specs.Fault.{fault_number as record_fault_number}
use Rattle.lisp_records.specs.Layout.{LaysOut as LaysOutRecord}
use Rattle.lisp_records.specs.Reading.{locator_at}
use Rattle.lisp_records.specs.Result.{Reads}
use Rattle.lisp_messages.specs.declared.fault.ReadFault.{ReadFault}
use Rattle.lisp_messages.specs.declared.layout.MessageLayout.{MessageLayout}
use Rattle.lisp_messages.specs.Authentic.{with_tag}
use Rattle.lisp_messages.specs.Fault.{fault_number}
use Rattle.lisp_messages.specs.Layout.{LaysOut}
use Rattle.lisp_registration.specs.declared.fault.WriteFault.{WriteFault}
use Rattle.lisp_registration.specs.declared.record.PlainLocator.{PlainLocator}
use Rattle.lisp_registration.specs.declared.message.PlainMessage.{PlainMessage}
use Rattle.lisp_registration.specs.declared.record.PlainRecord.{PlainRecord}
use Rattle.lisp_registration.specs.Fault.{write_fault_number}
use Rattle.lisp_registration.specs.Meaning.{Makes}
use Rattle.lisp_records.specs.declared.address.Addr.{Addr}
use Rattle.lisp_records.specs.Address.{PrefixValue}
use Rattle.lisp_requests.specs.declared.fault.RequestFault.{RequestFault}
use Rattle.lisp_requests.specs.declared.layout.RequestLayout.{RequestLayout}
use Rattle.lisp_requests.specs.Fault.{fault_number as request_fault_number}
use Rattle.lisp_requests.specs.Layout.{LaysOut as LaysOutRequest}
use Rattle.lisp_requests.specs.Reading.{items_at}
use Rattle.lisp_requests.specs.Reply.{MapReplyValue, reply_record_at}
use Rattle.lisp_requests.specs.Request.{eid_at, rloc_at}
use Rattle.lisp_registration.specs.declared.address.PlainAddress.{PlainAddress}
use Rattle.lisp_registration.specs.declared.address.PlainPrefix.{PlainPrefix}
use Rattle.lisp_registration.specs.declared.requests.PlainReply.{PlainReply}
use Rattle.lisp_registration.specs.declared.requests.PlainRequest.{PlainRequest}
use Rattle.lisp_registration.specs.Plain.{plain_address, plain_locator, plain_message, plain_prefix, plain_record, plain_request}

-- 0, and what is told of an answer; or the number of its fault, and what stood there before
abbrev pub told : {X Y E : Type 0} → (X → Y) → (E → ℕ) → Result X E → Y → ℕ × Y
told tell number (Ok x) old = (0, tell x)
told tell number (Err e) old = (number e, old)

-- what reading a message leaves: its layout is told, or the fault that reading meets
abbrev pub TellsMessage : List ℕ → PlainMessage → ℕ → PlainMessage → Type 0
TellsMessage bytes old number new = (answer : Result (MessageLayout Global) ReadFault) × LaysOut bytes answer × ((number, new) ≡ told plain_message fault_number answer old)

-- the same of the record at a place
abbrev pub TellsRecord : List ℕ → ℕ → PlainRecord → ℕ → PlainRecord → Type 0
TellsRecord bytes at old number new = (answer : Result (RecordLayout Global) RecordFault) × LaysOutRecord bytes at answer × ((number, new) ≡ told plain_record record_fault_number answer old)

-- an answer is the item that is read at a place, with the place where it ends, or the fault that reading it meets
abbrev pub ReadsAt : {X E : Type 0} → (List ℕ → Result (X × List ℕ) E) → List ℕ → ℕ → Result (X × ℕ) E → Type 0
ReadsAt read bytes at answer = Reads (λ x. (x.0, drop x.1 bytes)) answer (read (drop at bytes)) × IfOk answer (λ x. (at ≤ x.1) × (x.1 ≤ length bytes))

-- the same of the locator at a place
abbrev pub TellsLocator : List ℕ → ℕ → PlainLocator → ℕ → PlainLocator → Type 0
TellsLocator bytes at old number new = (answer : Result (Locator × ℕ) RecordFault) × ReadsAt locator_at bytes at answer × ((number, new) ≡ told (λ x. plain_locator x.0 x.1) record_fault_number answer old)

-- what reading a Map-Request leaves: its layout is told, or the fault that reading meets
abbrev pub TellsRequest : List ℕ → PlainRequest → ℕ → PlainRequest → Type 0
TellsRequest bytes old number new = (answer : Result RequestLayout RequestFault) × LaysOutRequest bytes answer × ((number, new) ≡ told plain_request request_fault_number answer old)

-- the same of the ITR-RLOC at a place, and of the place where it ends
abbrev pub TellsRloc : List ℕ → ℕ → PlainAddress → ℕ → ℕ → PlainAddress → ℕ → Type 0
TellsRloc bytes at old old_end number new end = (answer : Result (Addr × ℕ) RequestFault) × ReadsAt rloc_at bytes at answer × ((number, (new, end)) ≡ told {Y = PlainAddress × ℕ} (λ x. (plain_address x.0, x.1)) request_fault_number answer (old, old_end))

-- the same of the EID-Prefix of the record at a place
abbrev pub TellsEid : List ℕ → ℕ → PlainPrefix → ℕ → ℕ → PlainPrefix → ℕ → Type 0
TellsEid bytes at old old_end number new end = (answer : Result (PrefixValue × ℕ) RequestFault) × ReadsAt eid_at bytes at answer × ((number, (new, end)) ≡ told {Y = PlainPrefix × ℕ} (λ x. (plain_prefix x.0, x.1)) request_fault_number answer (old, old_end))

-- the records of the Map-Reply that is read stand where it is told that they do, to the end
abbrev pub RecordsStand : List ℕ → PlainReply → Result MapReplyValue RequestFault → Type 0
RecordsStand bytes found read = IfOk read (λ m. items_at reply_record_at found.record_count (drop found.records_at bytes) ≡ Ok (m.records, []))

-- a message with its own tag, or the number of `Short` and what stood there before
abbrev pub signed_in_place : List ℕ → List ℕ → ℕ × List ℕ
signed_in_place secret bytes = if nat_lt (length bytes) 32 then (1, bytes) else (0, with_tag secret bytes)

-- whether a buffer has room for bytes, or a list for others; they are in front of it then
abbrev pub put_in : {X : Type 0} → List X → List X → Bool × List X
put_in bytes buffer = if nat_lt (length buffer) (length bytes) then (false, buffer) else (true, bytes ++ drop (length bytes) buffer)

-- how many bytes of the buffer are an answer: none where it has no room for it
abbrev pub length_in : List ℕ → List ℕ → ℕ
length_in reply buffer = if nat_lt (length buffer) (length reply) then 0 else length reply

-- so many bytes in front of a buffer are these, and the others are as they were
abbrev pub IsInFront : List ℕ → List ℕ → ℕ → List ℕ → Type 0
IsInFront bytes old size new = (size ≡ length bytes) × (new ≡ bytes ++ drop (length bytes) old)

-- bytes are told whole: how many they are, and they stand in front of the buffer
abbrev pub ToldWhole : List ℕ → List ℕ → Type 0
ToldWhole bytes buffer = IsInFront bytes buffer (length_in bytes buffer) (put_in bytes buffer).1

-- the number, the buffer and the length that writing leaves
abbrev pub left_by : Result (List ℕ) WriteFault → List ℕ → ℕ → ℕ × List ℕ × ℕ
left_by (Ok bytes) buffer old = if nat_lt (length buffer) (length bytes) then (102, buffer, length bytes) else (0, bytes ++ drop (length bytes) buffer, length bytes)
left_by (Err e) buffer old = (write_fault_number e, buffer, old)

-- what writing a datagram leaves: the datagram where there is room for it, or why not
abbrev pub TellsWritten : Result (List ℕ) WriteFault → List ℕ → ℕ → ℕ → List ℕ → ℕ → Type 0
TellsWritten datagram buffer old number new length = (answer : Result (List ℕ) WriteFault) × Makes (λ bytes. bytes) answer datagram × ((number, new, length) ≡ left_by answer buffer old)
