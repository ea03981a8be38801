-- Where a record ends among the bytes that it was read from.
use Rattle.std.proofs.Common.{◌≡◌, ℕ, ◌+◌, ◌-◌, ◌≤◌, List, ◌++◌, length, drop, Result, Ok, Err, refl, sym, ap, subst, ◌∙◌, arith}
use Rattle.std.specs.Prelude.{IfOk, slice_index, slice_range}
use Rattle.std.proofs.lemmas.List.{take_at, drop_at, drop-drop, length-append, length-drop, get_or-drop}
use Rattle.lisp_records.specs.declared.address.Addr.{Addr}
use Rattle.lisp_records.specs.declared.fault.RecordFault.{RecordFault}
use Rattle.lisp_records.specs.declared.locator.Locator.{Locator}
use Rattle.lisp_records.specs.Record.{MapRecordValue, IsMapRecord}
use Rattle.lisp_records.specs.Spelling.{IsBytes, Spells}
use Rattle.lisp_records.specs.Reading.{Gives, locators_at, map_record_of, start_at, record_at}
use Rattle.lisp_records.proofs.Fields.{IsBytes-first, done, ok_is}
use Rattle.lisp_records.proofs.FitLaws.{record_fits}
use Rattle.lisp_records.proofs.Loop.{Fails-passed}
use Rattle.lisp_records.proofs.RecordLaws.{record_takes, record_again}
use Rattle.lisp_records.proofs.Steps.{record_is}

-- a text that stands at a place is the range from there to its end
pub slice_range-text : (bytes text rest : List ℕ) (at : ℕ) → drop at bytes ≡ text ++ rest → slice_range bytes at (at + length text) ≡ text
slice_range-text bytes text rest at parts =
    let size : at + length text - at ≡ length text = omega arith in
    rw (size, parts) (take_at text rest (length text) refl)

-- and what stands behind it
pub drop-text : (bytes text rest : List ℕ) (at : ℕ) → drop at bytes ≡ text ++ rest → drop (at + length text) bytes ≡ rest
drop-text bytes text rest at parts = sym (drop-drop (length text) at bytes) ∙ ap (drop (length text)) parts ∙ drop_at text rest (length text) refl

-- a record that was read from a place on, by what stands behind it
pub record IsReadFrom (bytes : List ℕ) (at : ℕ) (m : MapRecordValue) (rest : List ℕ) : Type 0 where
  pub short : length rest ≤ length bytes
  pub from : at ≤ length bytes - length rest
  pub behind : drop (length bytes - length rest) bytes ≡ rest
  pub text : Spells (slice_range bytes at (length bytes - length rest)) m
  pub read : record_at (drop at bytes) ≡ Ok (m, rest)
  pub fits : IsMapRecord m

record_is_read : (bytes : List ℕ) (at : ℕ) (m : MapRecordValue) (rest : List ℕ) → at ≤ length bytes → IsBytes bytes → record_at (drop at bytes) ≡ Ok (m, rest) → IsReadFrom bytes at m rest
record_is_read bytes at m rest le fits e =
    let behind_at : IsBytes (drop at bytes) = λ i. rw get_or-drop (fits (at + i)) in
    let t = record_takes (drop at bytes) (m, rest) behind_at e in
    let sizes : length bytes - at ≡ length t.text + length rest = sym (length-drop at bytes) ∙ ap length t.parts ∙ length-append t.text rest in
    let ends : length bytes - length rest ≡ at + length t.text = omega arith in
    record {
      short = omega arith;
      from = omega arith;
      behind = rw ends (drop-text bytes t.text rest at t.parts);
      text = rw (ends, slice_range-text bytes t.text rest at t.parts) t.kind;
      read = e;
      fits = record_fits t.text m (IsBytes-first t.text rest (subst IsBytes t.parts behind_at)) t.kind;
    }

-- the same, where its start was read and then its locators
pub parts_are_read : (bytes text rest behind : List ℕ) (at : ℕ) (a : Addr) (ls : List Locator) → at ≤ length bytes → IsBytes bytes → text ≡ drop at bytes → start_at text ≡ Ok (a, rest)
    → locators_at (slice_index text 4) rest ≡ Ok (ls, behind) → IsReadFrom bytes at (map_record_of text a ls) behind
parts_are_read bytes text rest behind at a ls le fits there started taken =
    record_is_read bytes at (map_record_of text a ls) behind le fits (sym (ap record_at there) ∙ record_is text rest behind a ls started taken)

-- a record and the place behind it, as they are answered
abbrev pub Answered : Type 0
Answered = Result (MapRecordValue × ℕ) RecordFault

-- what is answered is spelled from the place on
pub record_found : (bytes : List ℕ) (at : ℕ) (r : Answered) → at ≤ length bytes → IsBytes bytes → IfOk r (λ x. (at ≤ x.1) × (x.1 ≤ length bytes)) → Gives (λ x. (x.0, drop x.1 bytes)) r (record_at (drop at bytes))
    → IfOk r (λ x. (at ≤ x.1) × (x.1 ≤ length bytes) × Spells (slice_range bytes at x.1) x.0)
record_found bytes at (Ok x) le fits within given =
    let read = record_is_read bytes at x.0 (drop x.1 bytes) le fits given in
    let ends : length bytes - length (drop x.1 bytes) ≡ x.1 = omega (arith, length-drop x.1 bytes) in
    (within.0, within.1, rw ends at read.text)
record_found bytes at (Err e) le fits within given = tt

-- what is spelled from the place on is answered
pub record_only : (bytes : List ℕ) (at : ℕ) (r : Answered) → at ≤ length bytes → IfOk r (λ x. (at ≤ x.1) × (x.1 ≤ length bytes)) → Gives (λ x. (x.0, drop x.1 bytes)) r (record_at (drop at bytes))
    → (m : MapRecordValue) (text rest : List ℕ) → Spells text m → drop at bytes ≡ text ++ rest → Gives (λ x. x) r (Ok (m, at + length text))
record_only bytes at (Ok x) le within given m text rest spells parts =
    let again : record_at (drop at bytes) ≡ Ok (m, rest) = rw parts (record_again text rest m spells) in
    let same = ok_is (m, rest) (x.0, drop x.1 bytes) (sym again ∙ given) in
    let mapping : m ≡ x.0 = ap (λ (p : MapRecordValue × List ℕ). p.0) same in
    let behind : rest ≡ drop x.1 bytes = ap (λ (p : MapRecordValue × List ℕ). p.1) same in
    let sizes : length bytes - at ≡ length text + length rest = sym (length-drop at bytes) ∙ ap length parts ∙ length-append text rest in
    let ends : at + length text ≡ x.1 = omega (arith, within, length-drop x.1 bytes, ap length behind) in
    rw (mapping, ends) refl
record_only bytes at (Err e) le within given m text rest spells parts =
    let again : record_at (drop at bytes) ≡ Ok (m, rest) = rw parts (record_again text rest m spells) in
    Fails-passed e (record_at (drop at bytes)) (Ok (m, at + length text)) (λ f fails. absurd (let clash : done (m, rest) ≡ Err f = sym again ∙ fails in cc)) given
