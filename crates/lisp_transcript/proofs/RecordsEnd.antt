-- Where records end.
use Rattle.std.proofs.Common.{◌≡◌, ℕ, zero, suc, ◌+◌, ◌-◌, ◌<◌, ◌≤◌, List, length, drop, Ok, Err, refl, sym, ap, ◌∙◌, arith}
use Rattle.std.proofs.lemmas.List.{length-drop}
use Rattle.lisp_records.specs.declared.fault.RecordFault.{RecordFault}
use Rattle.lisp_records.specs.Reading.{record_at}
use Rattle.lisp_records.specs.Record.{MapRecordValue}
use Rattle.lisp_transcript.specs.Fault.{after_records, records_end}

-- a record that is read is passed
next_passed : (n : ℕ) (bytes next : List ℕ) (m : MapRecordValue) → record_at bytes ≡ Ok (m, next) → after_records (suc n) bytes ≡ after_records n next
unfolding after_records
next_passed n bytes next m read = rw read refl

pub one_passed : (count i : ℕ) (bytes next whole : List ℕ) (m : MapRecordValue) → i < count → record_at bytes ≡ Ok (m, next) → after_records (count - i) bytes ≡ whole → after_records (count - (i + 1)) next ≡ whole
one_passed count i bytes next whole m lt read so_far =
    let split : count - i ≡ suc (count - (i + 1)) = omega (arith, lt) in
    sym (next_passed (count - (i + 1)) bytes next m read) ∙ ap (λ (n : ℕ). after_records n bytes) (sym split) ∙ so_far

-- from one that isn't on, nothing is
none_passed : (n : ℕ) (bytes : List ℕ) (e : RecordFault) → record_at bytes ≡ Err e → after_records n bytes ≡ bytes
unfolding after_records
none_passed zero bytes e fails = refl
none_passed (suc n) bytes e fails = rw fails refl

-- none is left to pass
pub all_passed : (bytes : List ℕ) → after_records 0 bytes ≡ bytes
unfolding after_records
all_passed bytes = refl

-- a place whose bytes are those that are left
place_is : (at : ℕ) (bytes rest : List ℕ) → at ≤ length bytes → drop at bytes ≡ rest → at ≡ length bytes - length rest
place_is at bytes rest le is =
    let left : length rest ≡ length bytes - at = ap length (sym is) ∙ length-drop at bytes in
    omega (arith, le, left)

pub ends_before : (count n at : ℕ) (bytes : List ℕ) (e : RecordFault) → at ≤ length bytes → record_at (drop at bytes) ≡ Err e → after_records n (drop at bytes) ≡ after_records count (drop 32 bytes) → at ≡ records_end count bytes
ends_before count n at bytes e le fails so_far = place_is at bytes (after_records count (drop 32 bytes)) le (sym (none_passed n (drop at bytes) e fails) ∙ so_far)

pub ends_behind : (count i at : ℕ) (bytes : List ℕ) → at ≤ length bytes → count ≤ i → after_records (count - i) (drop at bytes) ≡ after_records count (drop 32 bytes) → at ≡ records_end count bytes
ends_behind count i at bytes le all so_far =
    let none : count - i ≡ 0 = omega (arith, all) in
    place_is at bytes (after_records count (drop 32 bytes)) le (sym (all_passed (drop at bytes)) ∙ ap (λ (n : ℕ). after_records n (drop at bytes)) (sym none) ∙ so_far)
