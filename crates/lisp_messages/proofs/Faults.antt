-- Reading a message never runs out of memory: that is a fault of the program, and not of the bytes.
use Rattle.std.proofs.Common.{◌≡◌, ℕ, ◌/◌, Bool, true, false, cond, eqb, ltb, ◌||◌, List, length, get_or, take, drop, Result, Ok, Err, ap, sym, subst, ◌∙◌}
use Rattle.std.specs.Int.{w64, from_be_bytes}
use Rattle.lisp_records.specs.Record.{MapRecordValue}
use Rattle.lisp_records.specs.Reading.{is_set, number_at}
use Rattle.lisp_records.specs.Result.{◌>>=◌, Reads}
use Rattle.lisp_records.proofs.Faults.{Passes, fault_is, no_fault}
use Rattle.lisp_messages.specs.declared.kind.Kind.{Kind}
use Rattle.lisp_messages.specs.declared.kind.Kind.TheVariants as kinds
use Rattle.lisp_messages.specs.declared.fault.ReadFault.{ReadFault}
use Rattle.lisp_messages.specs.declared.fault.ReadFault.TheVariants as faults
use Rattle.lisp_messages.specs.Message.{Registers, Notifies}
use Rattle.lisp_messages.specs.Reading.{Fails, Gives, after, require, kind_of, kind_at, ids_at, map_register_of, map_notify_of, register_at, notify_at, tail_at}
use Rattle.lisp_messages.proofs.Fields.{done}

-- a fault that is passed on is what reading gives, where reading meets it or the memory ran out
pub gives_fault : {X Y : Type 0} (view : X → Y) (r : Result X ReadFault) (e : ReadFault) (read : Result Y ReadFault) → Passes r e → Fails e read → Gives view r read
gives_fault view (Ok x) e read passes fails = absurd passes
gives_fault view (Err d) e read passes fails = subst (λ (f : ReadFault). Fails f read) (sym passes) fails

-- what was read to its end ran out of no memory
pub not_read : {X Y P : Type 0} (view : X → Y) (r : Result X ReadFault) (f : ReadFault) (read : Result Y ReadFault) → (read ≡ Err f → ⊥) → Reads view r read → r ≡ Err f → P
not_read view (Ok x) f read never reads is = no_fault x f is
not_read view (Err d) f read never reads is = absurd (never (reads ∙ ap Err (fault_is d f is)))

-- steps of which none runs out of memory
bind_plain : {A B : Type 0} (r : Result A ReadFault) (f : A → Result B ReadFault) → (r ≡ Err faults.OutOfMemory → ⊥) → ((x : A) → f x ≡ Err faults.OutOfMemory → ⊥) → (r >>= f) ≡ Err faults.OutOfMemory → ⊥
bind_plain (Ok x) f first next is = next x is
bind_plain (Err d) f first next is = first (ap Err (fault_is d faults.OutOfMemory is))

-- a test that fails with another fault
guard_plain : {A : Type 0} (b : Bool) (d : ReadFault) (x : A) → (d ≡ faults.OutOfMemory → ⊥) → cond b (Err d) (Ok x) ≡ Err faults.OutOfMemory → ⊥
guard_plain true d x other is = other (fault_is d faults.OutOfMemory is)
guard_plain false d x other is = no_fault x faults.OutOfMemory is

require_plain : {A : Type 0} (b : Bool) (d : ReadFault) (x : A) → (d ≡ faults.OutOfMemory → ⊥) → cond b (Ok x) (Err d) ≡ Err faults.OutOfMemory → ⊥
require_plain true d x other is = no_fault x faults.OutOfMemory is
require_plain false d x other is = other (fault_is d faults.OutOfMemory is)

after_plain : (n : ℕ) (bytes : List ℕ) → after n bytes ≡ Err faults.OutOfMemory → ⊥
after_plain n bytes = guard_plain (ltb (length bytes) n) faults.Short (drop n bytes) (λ is. absurd cc)

-- the kind, over its three tests
chosen_plain : (a b c : Bool) → cond a (done kinds.Register) (cond b (done kinds.Notify) (cond c (done kinds.NotifyAck) (Err faults.Kind))) ≡ Err faults.OutOfMemory → ⊥
chosen_plain true b c is = no_fault kinds.Register faults.OutOfMemory is
chosen_plain false true c is = no_fault kinds.Notify faults.OutOfMemory is
chosen_plain false false true is = no_fault kinds.NotifyAck faults.OutOfMemory is
chosen_plain false false false is = absurd cc

pub kind_plain : (bytes : List ℕ) → kind_at bytes ≡ Err faults.OutOfMemory → ⊥
unfolding kind_at
kind_plain bytes =
    bind_plain (after 16 bytes) _ (after_plain 16 bytes) (λ _.
    bind_plain (kind_of (get_or bytes 0 0 / 16)) _ (chosen_plain (eqb (get_or bytes 0 0 / 16) 3) (eqb (get_or bytes 0 0 / 16) 4) (eqb (get_or bytes 0 0 / 16) 5)) (λ kind.
    bind_plain (require faults.Algorithm (eqb (get_or bytes 13 0) 2)) _ (require_plain (eqb (get_or bytes 13 0) 2) faults.Algorithm true (λ is. absurd cc)) (λ _.
    bind_plain (require faults.AuthLength (eqb (number_at bytes 14) 16)) _ (require_plain (eqb (number_at bytes 14) 16) faults.AuthLength true (λ is. absurd cc)) (λ _.
    bind_plain (after 32 bytes) _ (after_plain 32 bytes) (λ _. no_fault kind faults.OutOfMemory)))))

ids_plain : (bytes : List ℕ) → ids_at bytes ≡ Err faults.OutOfMemory → ⊥
unfolding ids_at
ids_plain bytes =
    bind_plain (after 16 bytes) _ (after_plain 16 bytes) (λ rest.
    bind_plain (after 8 rest) _ (after_plain 8 rest) (λ end.
    require_plain (eqb (length end) 0) faults.Trailing (take 16 bytes, from_be_bytes w64 (take 8 rest)) (λ is. absurd cc)))

notify_plain : (ack : Bool) (bytes : List ℕ) (records : List MapRecordValue) (tail : List ℕ) → notify_at ack bytes records tail ≡ Err faults.OutOfMemory → ⊥
unfolding notify_at
notify_plain ack bytes records tail =
    let fits : Bool = eqb (length tail) 0 || eqb (length tail) 24 in
    bind_plain (require faults.Trailing fits) _ (require_plain fits faults.Trailing true (λ is. absurd cc)) (λ _. no_fault (Notifies (map_notify_of ack bytes records)) faults.OutOfMemory)

register_plain : (bytes : List ℕ) (records : List MapRecordValue) (tail : List ℕ) → register_at bytes records tail ≡ Err faults.OutOfMemory → ⊥
unfolding register_at
register_plain bytes records tail =
    let bit_i : Bool = is_set (get_or bytes 0 0) 2 in
    bind_plain (require faults.NoIds bit_i) _ (require_plain bit_i faults.NoIds true (λ is. absurd cc)) (λ _.
    bind_plain (ids_at tail) _ (ids_plain tail) (λ ids. no_fault (Registers (map_register_of bytes records ids.0 ids.1)) faults.OutOfMemory))

pub tail_plain : (kind : Kind) (bytes : List ℕ) (records : List MapRecordValue) (tail : List ℕ) → tail_at kind bytes records tail ≡ Err faults.OutOfMemory → ⊥
tail_plain kinds.Register bytes records tail = register_plain bytes records tail
tail_plain kinds.Notify bytes records tail = notify_plain false bytes records tail
tail_plain kinds.NotifyAck bytes records tail = notify_plain true bytes records tail
