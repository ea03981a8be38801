-- What a call from C asks before the node that a handle holds, and what it leaves: its number, what the handle holds, the caller's buffer and a struct.
use Rattle.std.specs.Prelude.{◌≡◌, ℕ, nat_lt, List, length, Option, Some, None, Result, Ok, Err, ⊤, MatchResult, if◌then◌else◌}
use Rattle.std.specs.Option.{MatchOption}
use Rattle.lisp_records.specs.declared.address.Addr.{Addr}
use Rattle.lisp_records.specs.Moment.{max_moment}
use Rattle.lisp_records.specs.Result.{◌>>=◌}
use Rattle.lisp_registration.specs.declared.address.PlainAddress.{PlainAddress}
use Rattle.lisp_registration.specs.declared.fault.HandleFault.{HandleFault}
use Rattle.lisp_registration.specs.declared.fault.HandleFault.TheVariants.{Clock, Field, Null, Room}
use Rattle.lisp_registration.specs.Fault.{handle_fault_number}
use Rattle.lisp_registration.specs.Meaning.{address_in, or_fault}
use Rattle.lisp_registration.specs.Told.{length_in, put_in}

-- ---- before it is asked

-- the most bytes of a message: those of its records, and those before and behind them
abbrev pub message_room : ℕ
message_room = 16440

-- a time is not too late
abbrev pub in_time : ℕ → Result ⊤ HandleFault
in_time now = if nat_lt max_moment now then Err Clock else Ok tt

-- a buffer has room for every message, and a time is not too late
abbrev pub ready : List ℕ → ℕ → Result ⊤ HandleFault
ready buffer now = if nat_lt (length buffer) message_room then Err Room else in_time now

-- the source of a datagram, where that is an address and the buffer has as much room as the datagram
abbrev pub source_of : PlainAddress → List ℕ → List ℕ → Result Addr HandleFault
source_of from bytes buffer = or_fault Field (address_in from) >>= λ a. if nat_lt (length buffer) (length bytes) then Err Room else Ok a

-- ---- what it leaves

-- all that a call leaves
abbrev pub Left : Type 0 → Type 0 → Type 0
Left H Y = ℕ × (Option H × (List ℕ × Y))

-- 0, the bytes of an answer in front of the buffer, and what is told of it and of how many they are; or the number of the refusal
abbrev pub told_bytes : {X Y E : Type 0} → (X → List ℕ) → (X → ℕ → Y) → (E → ℕ) → Result X E → List ℕ → Y → ℕ × (List ℕ × Y)
told_bytes bytes tell number (Ok x) buffer old = (0, ((put_in (bytes x) buffer).1, tell x (length_in (bytes x) buffer)))
told_bytes bytes tell number (Err why) buffer old = (number why, (buffer, old))

-- what the node that a handle holds answers, as it was before and after, is told
abbrev pub Answered : {H X Y E : Type 0} → (H → H → Result X E → Type 0) → (Result X E → List ℕ → Y → ℕ × (List ℕ × Y)) → H → List ℕ → Y → Left H Y → Type 0
Answered {H} {X} {Y} {E} Answers tell held buffer old left =
    (answer : Result X E) × (after : H) × Answers held after answer × (left ≡ ((tell answer buffer old).0, (Some after, (tell answer buffer old).1)))

-- the same where it can be asked for, and the handle holds one; else the number of why not, and all is as it was
abbrev pub Tells : {G H X Y E : Type 0} → Result G HandleFault → (G → H → H → Result X E → Type 0) → (Result X E → List ℕ → Y → ℕ × (List ℕ × Y)) → Option H → List ℕ → Y → Left H Y → Type 0
Tells can Answers tell held buffer old left =
    MatchResult can (λ given. MatchOption held (left ≡ (handle_fault_number Null, (None, (buffer, old)))) (λ node. Answered (Answers given) tell node buffer old left))
    (λ fault. left ≡ (handle_fault_number fault, (held, (buffer, old))))
