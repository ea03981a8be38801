-- Counted: what a router makes of a message (RFC 9301 sections 5.7 and 8.2).
use Rattle.std.specs.Prelude.{◌≡◌, ◌≤◌, ◌⊎◌, ℕ, ◌^◌, ◌==◌, nat_le, Bool, true, List, Option, Some, None, Result, Ok, Err, position, ok_or, slice_set, if◌then◌else◌}
use Rattle.lisp_records.specs.declared.address.Addr.{Addr}
use Rattle.lisp_records.specs.Address.{addr_eq}
use Rattle.lisp_records.specs.Result.{◌>>=◌}
use Rattle.lisp_messages.specs.Message.{MapNotifyValue, IsMapNotify, MessageValue, Registers, Notifies}
use Rattle.lisp_messages.specs.declared.fault.ReadFault.{ReadFault}
use Rattle.lisp_messages.specs.Authentic.{is_authentic, signed}
use Rattle.lisp_messages.specs.Written.{written_notify}
use Rattle.lisp_messages.specs.Reading.{HasHead, HasRecords, kind_at, message_at}
use Rattle.lisp_etr.specs.declared.notify_fault.NotifyFault.{NotifyFault}
use Rattle.lisp_etr.specs.declared.notify_fault.NotifyFault.TheVariants.{Read, NotMine, WrongKey, BadAuth, Stale, OutOfMemory}
use Rattle.lisp_etr.specs.declared.rounds.Rounds.{Rounds}
use Rattle.lisp_etr.specs.declared.seen.Seen.{Seen}
use Rattle.lisp_etr.specs.declared.seen.Seen.TheVariants.{Counted, Notice}
use Rattle.lisp_etr.specs.Faults.{fault_of_read}
use Rattle.lisp_etr.specs.Config.{EtrConfigValue}
use Rattle.lisp_etr.specs.Rounds.{rounds_at, rounds_after_count, latest_of, part_with, greatest}
use Rattle.lisp_etr.specs.Etr.{EtrState}

-- a result, seen by view, is what is expected, except that out of memory may come in its place
abbrev pub Gives : {X Y : Type 0} → (X → Y) → Result X NotifyFault → Result Y NotifyFault → Type 0
Gives view (Ok x) expected = expected ≡ Ok (view x)
Gives view (Err OutOfMemory) expected = Unit {0}
Gives view (Err fault) expected = expected ≡ Err fault

-- a check: the refusal, unless the test holds
abbrev pub check : Bool → NotifyFault → Result Bool NotifyFault
check holds fault = if holds then Ok holds else Err fault

-- only a Map-Notify is for routers
abbrev pub notify_in : MessageValue → Result MapNotifyValue NotifyFault
notify_in (Registers m) = Err NotMine
notify_in (Notifies m) = if m.ack then Err NotMine else Ok m

abbrev pub notify_read : Result MessageValue ReadFault → Result MapNotifyValue NotifyFault
notify_read (Ok said) = notify_in said
notify_read (Err fault) = Err (Read fault)

-- the number of the Map-Server with an address: its first place in the list
abbrev pub server_at : List Addr → Addr → Option ℕ
server_at servers from = position (λ server. addr_eq server from) servers

-- a Map-Notify, and the Map-Server that it comes from
pub record ServerNotify : Type 0 where
  pub server : ℕ
  pub message : MapNotifyValue

-- both, as a pair
abbrev pub server_notify : ℕ × MapNotifyValue → ServerNotify
server_notify x = record { server = x.0; message = x.1 }

-- the Map-Notify that was read in bytes from a Map-Server of the router, where it passes all checks; or the first
-- that fails
unfoldable pub checked_notify : EtrConfigValue → List ℕ → Result MessageValue ReadFault → Option ℕ → Result ServerNotify NotifyFault
checked_notify c bytes read from = do
  m ← notify_read read
  server ← ok_or from NotMine
  _ ← check (m.key_id == c.key_id) WrongKey
  _ ← check (is_authentic bytes c.secret) BadAuth
  Ok (record { server = server; message = m })

-- the same of bytes from an address
abbrev pub notify_from : EtrConfigValue → Addr → List ℕ → Result ServerNotify NotifyFault
notify_from c from bytes = checked_notify c bytes (message_at bytes) (server_at c.servers from)

-- nonces from here on are a Map-Server's own
abbrev pub first_notice : ℕ
first_notice = 2 ^ 63

-- bytes with a fault before their records are refused for it
abbrev pub RefusesBadHead : {X : Type 0} → List ℕ → Result X NotifyFault → Type 0
RefusesBadHead bytes answer = (fault : ReadFault) → kind_at bytes ≡ Err fault → answer ≡ Err (fault_of_read fault)

-- memory may be refused, and the bytes have no such fault, but records: only these take memory
abbrev pub MayRunOut : Type 0 → List ℕ → Type 0
MayRunOut may_refuse bytes = may_refuse × HasHead bytes × HasRecords bytes

-- a Map-Server's notice that passes all checks
abbrev pub HearsNotice : EtrConfigValue → Addr → List ℕ → Type 0
HearsNotice c from bytes = (h : ServerNotify) × (notify_from c from bytes ≡ Ok h) × (first_notice ≤ h.message.nonce)

-- bytes that a router takes memory for: they have records, or are a notice to answer
abbrev pub TakesMemory : EtrConfigValue → Addr → List ℕ → Type 0
TakesMemory c from bytes = HasHead bytes × (HasRecords bytes ⊎ HearsNotice c from bytes)

-- memory runs out only at bytes that the router takes memory for
abbrev pub TakesMemoryIfOut : {X : Type 0} → EtrConfigValue → Addr → List ℕ → Result X NotifyFault → Type 0
TakesMemoryIfOut c from bytes answer = answer ≡ Err OutOfMemory → TakesMemory c from bytes

-- the answer to a Map-Server's notice has its nonce, Key ID and records
abbrev pub ack_of : MapNotifyValue → MapNotifyValue
ack_of m = record m { ack = true }

-- the Map-Notify-Ack that answers a notice fits the format
abbrev pub AnswerFits : {A : Type 0} → ℕ → Seen A → Type 0
AnswerFits key (Counted server part nonce) = Unit {0}
AnswerFits key (Notice server nonce records answer) = IsMapNotify (record { ack = true; nonce = nonce; key_id = key; records = records })

-- a notice with its answer
abbrev pub notice_in : {A : Type 0} → EtrConfigValue → ServerNotify → Seen A
notice_in c h = Notice h.server h.message.nonce h.message.records (signed c.secret (written_notify (ack_of h.message)))

-- a Map-Server's Map-Notify as a notice
abbrev pub notice_from : {A : Type 0} → EtrConfigValue → ℕ → MapNotifyValue → Seen A
notice_from c server notify = notice_in c (record { server = server; message = notify })

-- a Map-Server acknowledges a Map-Register by its nonce: the last one of a part to it, and no other
abbrev pub counted_as : {A : Type 0} → ℕ → ℕ → List ℕ → Option ℕ → Result (Seen A) NotifyFault
counted_as server nonce latest (Some part) = Ok (Counted server part nonce)
counted_as server nonce latest None = Err (Stale (greatest latest))

abbrev pub counted_in : {A : Type 0} → List Rounds → ℕ → ℕ → Result (Seen A) NotifyFault
counted_in all server nonce =
    counted_as server nonce (latest_of (rounds_at all server)) (part_with nonce (latest_of (rounds_at all server)))

-- what is seen in a Map-Notify
unfoldable pub seen_in : {A : Type 0} → EtrState → ServerNotify → Result (Seen A) NotifyFault
seen_in e h = if nat_le first_notice h.message.nonce then Ok (notice_in e.config h) else counted_in e.rounds h.server h.message.nonce

-- what is seen in bytes from an address, or why they are refused
abbrev pub seen_at : {A : Type 0} → EtrState → Addr → List ℕ → Result (Seen A) NotifyFault
seen_at e from bytes = notify_from e.config from bytes >>= seen_in e

-- the router afterwards: only an acknowledgement changes it
abbrev pub etr_after : {A : Type 0} → EtrState → Result (Seen A) NotifyFault → EtrState
etr_after e (Ok (Counted server part nonce)) = record e { rounds = slice_set e.rounds server (rounds_after_count e.config.key_id part (rounds_at e.rounds server)) }
etr_after e _ = e
