-- Extension headers one after the other, as a loop passes over them.
use Rattle.std.proofs.Common.{◌≡◌, ℕ, suc, ◌-◌, ◌+◌, ◌≤◌, ◌<◌, true, false, List, Result, Ok, Err, refl, sym, ap, ◌∙◌, arith}
use Rattle.std.specs.Prelude.{slice_index}
use Rattle.lisp_records.proofs.Faults.{Passes}
use Rattle.lisp_records.specs.Result.{Reads}
use Rattle.lisp_captures.specs.declared.datagram.Unread.{Unread}
use Rattle.lisp_captures.specs.Internet.{carried_at, extension_at, is_extension, transport_in}

-- one more header is passed over
pub goes_on : (count i next : ℕ) (bytes rest : List ℕ) (total : Result (List ℕ) Unread) → i < count → is_extension next ≡ true → extension_at bytes ≡ Ok rest → transport_in (count - i) next bytes ≡ total
    → transport_in (count - (i + 1)) (slice_index bytes 0) rest ≡ total
unfolding transport_in
goes_on count i next bytes rest total lt extends read so_far =
    let k : count - i ≡ suc (count - (i + 1)) = omega arith in
    let one : transport_in (count - i) next bytes ≡ transport_in (count - (i + 1)) (slice_index bytes 0) rest = rw (k, extends, read) refl in
    sym one ∙ so_far

-- the next header ends too early
pub ends : (count i next : ℕ) (bytes : List ℕ) (why : Unread) (total : Result (List ℕ) Unread) → i < count → is_extension next ≡ true → extension_at bytes ≡ Err why → transport_in (count - i) next bytes ≡ total → total ≡ Err why
unfolding transport_in
ends count i next bytes why total lt extends read so_far =
    let k : count - i ≡ suc (count - (i + 1)) = omega arith in
    let one : transport_in (count - i) next bytes ≡ Err why = rw (k, extends, read) refl in
    sym so_far ∙ one

-- no extension header follows
pub is_done : (count i next : ℕ) (bytes : List ℕ) (total : Result (List ℕ) Unread) → i < count → is_extension next ≡ false → transport_in (count - i) next bytes ≡ total → total ≡ carried_at next bytes
unfolding transport_in
is_done count i next bytes total lt other so_far =
    let k : count - i ≡ suc (count - (i + 1)) = omega arith in
    let one : transport_in (count - i) next bytes ≡ carried_at next bytes = rw (k, other) refl in
    sym so_far ∙ one

-- no more are passed over
pub is_full : (count i next : ℕ) (bytes : List ℕ) (total : Result (List ℕ) Unread) → count ≤ i → transport_in (count - i) next bytes ≡ total → total ≡ carried_at next bytes
unfolding transport_in
is_full count i next bytes total le so_far =
    let k : count - i ≡ 0 = omega arith in
    let one : transport_in (count - i) next bytes ≡ carried_at next bytes = rw k refl in
    sym so_far ∙ one

-- a fault that is passed on is what was to be read
pub reads_fault : {X Y E : Type 0} (view : X → Y) (r : Result X E) (e : E) (read : Result Y E) → Passes r e → read ≡ Err e → Reads view r read
reads_fault view (Ok x) e read passes fails = absurd passes
reads_fault view (Err d) e read passes fails = fails ∙ ap Err (sym passes)
