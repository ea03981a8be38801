-- A message's layout: its head and its end say the same, whatever its records.
use Rattle.std.proofs.Common.{◌≡◌, ℕ, ◌-◌, ◌<◌, Bool, true, false, List, [], drop, Result, Ok, Err, refl, sym, ap, subst, ◌∙◌}
use Rattle.std.specs.Prelude.{slice_index}
use Rattle.lisp_records.specs.declared.fault.RecordFault.{RecordFault}
use Rattle.lisp_records.specs.declared.fault.RecordFault.TheVariants as records
use Rattle.lisp_records.specs.Record.{MapRecordValue}
use Rattle.lisp_records.specs.Reading.{is_set, record_at}
use Rattle.lisp_records.specs.Result.{◌>>=◌}
use Rattle.lisp_records.proofs.Faults.{Passes, record_plain}
use Rattle.lisp_messages.specs.declared.fault.ReadFault.{ReadFault}
use Rattle.lisp_messages.specs.declared.fault.ReadFault.TheVariants as faults
use Rattle.lisp_messages.specs.declared.kind.Kind.{Kind}
use Rattle.lisp_messages.specs.declared.kind.Kind.TheVariants as kinds
use Rattle.lisp_messages.specs.declared.layout.MessageLayout.{MessageLayout}
use Rattle.lisp_messages.specs.Fault.{fault_at}
use Rattle.lisp_messages.specs.Layout.{LaysOut, records_in, with_records}
use Rattle.lisp_messages.specs.Message.{MessageValue, Registers, Notifies}
use Rattle.lisp_messages.specs.Reading.{require, kind_at, ids_at, records_at, map_register_of, map_notify_of, register_at, notify_at, tail_at, message_at}
use Rattle.lisp_messages.proofs.Fields.{done}
use Rattle.lisp_messages.proofs.Loop.{with_front, ends}

-- a message with other records
abbrev with_these : List MapRecordValue → Result MessageValue ReadFault → Result MessageValue ReadFault
with_these rs read = read >>= λ x. done (with_records x rs)

-- what was read of a message without records has none
abbrev IsBare : Result MessageValue ReadFault → Type 0
IsBare (Ok x) = records_in x ≡ []
IsBare (Err e) = Unit {0}

register_steps : (bytes : List ℕ) (rs : List MapRecordValue) (first : Result Bool ReadFault) (ids : Result (List ℕ × ℕ) ReadFault)
    → ((first >>= λ _. ids >>= λ i. done (Registers (map_register_of bytes rs i.0 i.1))) ≡ with_these rs (first >>= λ _. ids >>= λ i. done (Registers (map_register_of bytes [] i.0 i.1))))
    × IsBare (first >>= λ _. ids >>= λ i. done (Registers (map_register_of bytes [] i.0 i.1)))
register_steps bytes rs (Ok x) (Ok i) = (refl, refl)
register_steps bytes rs (Ok x) (Err e) = (refl, tt)
register_steps bytes rs (Err e) ids = (refl, tt)

notify_steps : (ack : Bool) (bytes : List ℕ) (rs : List MapRecordValue) (first : Result Bool ReadFault)
    → ((first >>= λ _. done (Notifies (map_notify_of ack bytes rs))) ≡ with_these rs (first >>= λ _. done (Notifies (map_notify_of ack bytes [])))) × IsBare (first >>= λ _. done (Notifies (map_notify_of ack bytes [])))
notify_steps ack bytes rs (Ok x) = (refl, refl)
notify_steps ack bytes rs (Err e) = (refl, tt)

register_bare : (bytes : List ℕ) (rs : List MapRecordValue) (tail : List ℕ) → (register_at bytes rs tail ≡ with_these rs (register_at bytes [] tail)) × IsBare (register_at bytes [] tail)
unfolding register_at
register_bare bytes rs tail = register_steps bytes rs (require faults.NoIds (is_set (slice_index bytes 0) 2)) (ids_at tail)

notify_bare : (ack : Bool) (bytes : List ℕ) (rs : List MapRecordValue) (tail : List ℕ) → (notify_at ack bytes rs tail ≡ with_these rs (notify_at ack bytes [] tail)) × IsBare (notify_at ack bytes [] tail)
unfolding notify_at
notify_bare ack bytes rs tail = notify_steps ack bytes rs _

-- a message is the one without its records, and these
tail_bare : (kind : Kind) (bytes : List ℕ) (rs : List MapRecordValue) (tail : List ℕ) → (tail_at kind bytes rs tail ≡ with_these rs (tail_at kind bytes [] tail)) × IsBare (tail_at kind bytes [] tail)
tail_bare kinds.Register bytes rs tail = register_bare bytes rs tail
tail_bare kinds.Notify bytes rs tail = notify_bare false bytes rs tail
tail_bare kinds.NotifyAck bytes rs tail = notify_bare true bytes rs tail

-- ---- the whole

-- a fault that is passed on is the one that reading meets
pub lays_fault : {A : Type 0} (bytes : List ℕ) (r : Result (MessageLayout A) ReadFault) (e : ReadFault) → Passes r e → message_at bytes ≡ Err e → LaysOut bytes r
lays_fault bytes (Ok x) e passes fails = absurd passes
lays_fault bytes (Err d) e passes fails = fails ∙ ap Err (sym passes)

-- a message whose head is not read, or one of its records, or its end
pub head_lacks : (bytes : List ℕ) (e : ReadFault) → kind_at bytes ≡ Err e → message_at bytes ≡ Err e
unfolding message_at
head_lacks bytes e fails = rw fails refl

pub records_lack : (bytes : List ℕ) (kind : Kind) (e : ReadFault) → kind_at bytes ≡ Ok kind → records_at 0 (slice_index bytes 3) (drop 32 bytes) ≡ Err e → message_at bytes ≡ Err e
unfolding message_at
records_lack bytes kind e head fails = rw (head, fails) refl

pub end_lacks : (bytes : List ℕ) (kind : Kind) (rs : List MapRecordValue) (tail : List ℕ) (e : ReadFault) → kind_at bytes ≡ Ok kind → records_at 0 (slice_index bytes 3) (drop 32 bytes) ≡ Ok (rs, tail)
    → tail_at kind bytes [] tail ≡ Err e → message_at bytes ≡ Err e
unfolding message_at
end_lacks bytes kind rs tail e head body fails = rw (head, body) ((tail_bare kind bytes rs tail).0 ∙ ap (with_these rs) fails)

-- a message whose parts are read
pub whole_is : (bytes : List ℕ) (kind : Kind) (rs : List MapRecordValue) (tail : List ℕ) (x : MessageValue) → kind_at bytes ≡ Ok kind → records_at 0 (slice_index bytes 3) (drop 32 bytes) ≡ Ok (rs, tail)
    → tail_at kind bytes [] tail ≡ Ok x → message_at bytes ≡ Ok (with_records x rs)
unfolding message_at
whole_is bytes kind rs tail x head body end = rw (head, body) ((tail_bare kind bytes rs tail).0 ∙ ap (with_these rs) end)

-- it has no records of its own
pub is_bare : (bytes : List ℕ) (kind : Kind) (tail : List ℕ) (x : MessageValue) → tail_at kind bytes [] tail ≡ Ok x → records_in x ≡ []
is_bare bytes kind tail x end = subst IsBare end (tail_bare kind bytes [] tail).1

-- ---- the records

-- before the first record
pub none_passed : (read : Result (List MapRecordValue × List ℕ) ReadFault) → with_front [] read ≡ read
none_passed (Ok x) = refl
none_passed (Err f) = refl

-- the next record is not read, and the fault says so
pub ends_there : (front : List MapRecordValue) (count i : ℕ) (bytes : List ℕ) (f : RecordFault) (total : Result (List MapRecordValue × List ℕ) ReadFault) → i < count → record_at bytes ≡ Err f
    → with_front front (records_at i (count - i) bytes) ≡ total → total ≡ Err (fault_at i f)
ends_there front count i bytes records.OutOfMemory total lt h so_far = absurd (record_plain bytes h)
ends_there front count i bytes records.Short total lt h so_far = ends front count i bytes records.Short total lt h so_far
ends_there front count i bytes records.Afi total lt h so_far = ends front count i bytes records.Afi total lt h so_far
ends_there front count i bytes records.Mask total lt h so_far = ends front count i bytes records.Mask total lt h so_far
