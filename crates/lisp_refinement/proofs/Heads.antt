-- The Key ID and the nonce that stand in a message's bytes are those that it says.
use Rattle.std.proofs.Common.{◌≡◌, ℕ, ◌≤◌, Bool, true, false, List, Some, Ok, refl, sym, ap, ◌∙◌}
use Rattle.std.specs.Prelude.{length, drop, slice_index, ◌==◌, ◌||◌, ◌/◌}
use Rattle.std.proofs.lemmas.Bool.{le-ltb}
use Rattle.lisp_hmac.proofs.TagLemmas.{length-tag}
use Rattle.lisp_records.specs.Record.{MapRecordValue}
use Rattle.lisp_records.specs.Reading.{is_set, number_at}
use Rattle.lisp_records.specs.Result.{◌>>=◌}
use Rattle.lisp_messages.specs.declared.fault.ReadFault.TheVariants as faults
use Rattle.lisp_messages.specs.declared.head.Head.{Head}
use Rattle.lisp_messages.specs.declared.kind.Kind.{Kind}
use Rattle.lisp_messages.specs.declared.kind.Kind.TheVariants as kinds
use Rattle.lisp_messages.specs.Authentic.{signed}
use Rattle.lisp_messages.specs.Head.{head_at}
use Rattle.lisp_messages.specs.Message.{MessageValue, IsMessage, Registers, Notifies}
use Rattle.lisp_messages.specs.Reading.{after, require, kind_of, nonce_of, ids_at, records_at, map_register_of, map_notify_of, register_at, notify_at, tail_at, kind_at, message_at}
use Rattle.lisp_messages.specs.Written.{written}
use Rattle.lisp_messages.proofs.Fields.{bind_ok, after_takes, ok_is}
use Rattle.lisp_messages.proofs.WrittenLaws.{reads_back}

-- the head of what a message says
abbrev pub head_of : MessageValue → Head
head_of (Registers m) = record { key_id = m.key_id; nonce = m.nonce }
head_of (Notifies m) = record { key_id = m.key_id; nonce = m.nonce }

-- the head that stands in bytes
abbrev head_in : List ℕ → Head
head_in bytes = record { key_id = slice_index bytes 12; nonce = nonce_of bytes }

-- it is read where they are long enough
head_there : (bytes : List ℕ) → 32 ≤ length bytes → head_at bytes ≡ Some (head_in bytes)
unfolding head_at
head_there bytes long = rw (le-ltb (length bytes) 32 long) refl

-- a message type is read of 32 bytes or more
long_enough : (bytes : List ℕ) (k : Kind) → kind_at bytes ≡ Ok k → 32 ≤ length bytes
unfolding kind_at
long_enough bytes k e =
    let a = bind_ok (after 16 bytes) (λ _. kind_of (slice_index bytes 0 / 16) >>= λ kind. require faults.Algorithm (slice_index bytes 13 == 2) >>= λ _. require faults.AuthLength (number_at bytes 14 == 16) >>= λ _. after 32 bytes >>= λ _. Ok kind) k e in
    let b = bind_ok (kind_of (slice_index bytes 0 / 16)) (λ kind. require faults.Algorithm (slice_index bytes 13 == 2) >>= λ _. require faults.AuthLength (number_at bytes 14 == 16) >>= λ _. after 32 bytes >>= λ _. Ok kind) k a.2 in
    let c = bind_ok (require faults.Algorithm (slice_index bytes 13 == 2)) (λ _. require faults.AuthLength (number_at bytes 14 == 16) >>= λ _. after 32 bytes >>= λ _. Ok b.0) k b.2 in
    let d = bind_ok (require faults.AuthLength (number_at bytes 14 == 16)) (λ _. after 32 bytes >>= λ _. Ok b.0) k c.2 in
    let f = bind_ok (after 32 bytes) (λ _. Ok b.0) k d.2 in
    (after_takes 32 bytes f.0 f.1).0

-- what stands behind the records doesn't change the head
notify_tail : (ack : Bool) (bytes : List ℕ) (records : List MapRecordValue) (tail : List ℕ) (m : MessageValue) → notify_at ack bytes records tail ≡ Ok m → head_of m ≡ head_in bytes
unfolding notify_at
notify_tail ack bytes records tail m e =
    let a = bind_ok (require faults.Trailing (length tail == 0 || length tail == 24)) (λ _. Ok (Notifies (map_notify_of ack bytes records))) m e in
    ap head_of (sym (ok_is (Notifies (map_notify_of ack bytes records)) m a.2))

-- nor what stands behind those of a Map-Register
register_tail : (bytes : List ℕ) (records : List MapRecordValue) (tail : List ℕ) (m : MessageValue) → register_at bytes records tail ≡ Ok m → head_of m ≡ head_in bytes
unfolding register_at
register_tail bytes records tail m e =
    let a = bind_ok (require faults.NoIds (is_set (slice_index bytes 0) 2)) (λ _. ids_at tail >>= λ ids. Ok (Registers (map_register_of bytes records ids.0 ids.1))) m e in
    let b = bind_ok (ids_at tail) (λ ids. Ok (Registers (map_register_of bytes records ids.0 ids.1))) m a.2 in
    ap head_of (sym (ok_is (Registers (map_register_of bytes records b.0.0 b.0.1)) m b.2))

-- of any kind
tail_head : (k : Kind) (bytes : List ℕ) (records : List MapRecordValue) (tail : List ℕ) (m : MessageValue) → tail_at k bytes records tail ≡ Ok m → head_of m ≡ head_in bytes
tail_head kinds.Register bytes records tail m e = register_tail bytes records tail m e
tail_head kinds.Notify bytes records tail m e = notify_tail false bytes records tail m e
tail_head kinds.NotifyAck bytes records tail m e = notify_tail true bytes records tail m e

-- what is read in bytes has the head that stands there
head_read : (bytes : List ℕ) (m : MessageValue) → message_at bytes ≡ Ok m → head_at bytes ≡ Some (head_of m)
unfolding message_at
head_read bytes m read =
    let k = bind_ok (kind_at bytes) (λ kind. records_at 0 (slice_index bytes 3) (drop 32 bytes) >>= λ rs. tail_at kind bytes rs.0 rs.1) m read in
    let l = bind_ok (records_at 0 (slice_index bytes 3) (drop 32 bytes)) (λ rs. tail_at k.0 bytes rs.0 rs.1) m k.2 in
    head_there bytes (long_enough bytes k.0 k.1) ∙ ap Some (sym (tail_head k.0 bytes l.0.0 l.0.1 m l.2))

-- what was written is read again
pub reads_signed : (secret : List ℕ) (m : MessageValue) → IsMessage m → message_at (signed secret (written m)) ≡ Ok m
reads_signed secret m fits = reads_back m _ fits (length-tag secret _ 16)

-- and what was written has the head of what it says
pub head_written : (secret : List ℕ) (m : MessageValue) → IsMessage m → head_at (signed secret (written m)) ≡ Some (head_of m)
head_written secret m fits = head_read (signed secret (written m)) m (reads_signed secret m fits)
