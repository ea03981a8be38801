-- Where the parts of a record stand among the bytes that it is read from.
use Rattle.std.proofs.Common.{◌≡◌, ℕ, ◌+◌, ◌-◌, ◌≤◌, ◌<◌, List, [], ◌++◌, length, get_or, take, drop, Result, Ok, Err, refl, sym, ap, subst, ◌∙◌, append_assoc, arith}
use Rattle.std.specs.Prelude.{slice_index}
use Rattle.std.proofs.lemmas.List.{length-append, length-drop, get_or-drop, take-append-drop}
use Rattle.lisp_records.specs.declared.address.Addr.{Addr}
use Rattle.lisp_records.specs.declared.fault.RecordFault.{RecordFault}
use Rattle.lisp_records.specs.declared.fault.RecordFault.TheVariants.{Short}
use Rattle.lisp_records.specs.declared.layout.RecordLayout.{RecordLayout}
use Rattle.lisp_records.specs.declared.locator.Locator.{Locator}
use Rattle.lisp_records.specs.Address.{octets}
use Rattle.lisp_records.specs.Layout.{IsLayout, LaysOut, Skips}
use Rattle.lisp_records.specs.Record.{IsMapRecord}
use Rattle.lisp_records.specs.Spelling.{IsBytes}
use Rattle.lisp_records.specs.Result.{◌>>=◌}
use Rattle.lisp_records.specs.Reading.{after, number_at, family_of, mask_of, address_at, locator_at, locators_at, map_record_of, start_at, record_at}
use Rattle.lisp_records.proofs.Fields.{IsBytes-rest, bind_ok, after_takes, address_takes}
use Rattle.lisp_records.proofs.Faults.{Passes}
use Rattle.lisp_records.proofs.LocatorLaws.{locator_takes, locators_take}
use Rattle.lisp_records.proofs.Positions.{drop-text, parts_are_read}
use Rattle.lisp_records.proofs.Steps.{locator_cut, start_cut, record_stops}

-- what is left of bytes from a place on stands at their end
pub record IsLeft (bytes : List ℕ) (at : ℕ) (rest : List ℕ) : Type 0 where
  pub short : length rest ≤ length bytes
  pub from : at ≤ length bytes - length rest
  pub behind : drop (length bytes - length rest) bytes ≡ rest

left_of : (bytes text first rest : List ℕ) (at : ℕ) → at ≤ length bytes → text ≡ drop at bytes → text ≡ first ++ rest → IsLeft bytes at rest
left_of bytes text first rest at le there parts =
    let sizes : length bytes - at ≡ length first + length rest = sym (length-drop at bytes) ∙ ap length (sym there ∙ parts) ∙ length-append first rest in
    let ends : length bytes - length rest ≡ at + length first = omega arith in
    record { short = omega arith; from = omega arith; behind = rw ends (drop-text bytes first rest at (sym there ∙ parts)) }

-- from a place on stand bytes
bytes_there : (bytes text : List ℕ) (at : ℕ) → IsBytes bytes → text ≡ drop at bytes → IsBytes text
bytes_there bytes text at fits there = subst IsBytes (sym there) (λ i. rw get_or-drop (fits (at + i)))

-- where a locator ends
pub locator_left : (bytes text rest : List ℕ) (at : ℕ) (l : Locator) → at ≤ length bytes → IsBytes bytes → text ≡ drop at bytes → locator_at text ≡ Ok (l, rest) → IsLeft bytes at rest
locator_left bytes text rest at l le fits there read =
    let t = locator_takes text (l, rest) (bytes_there bytes text at fits there) read in
    left_of bytes text t.text rest at le there t.parts

-- no locator begins past the end, and no record
pub no_locator : (bytes : List ℕ) (at : ℕ) → length bytes < at → locator_at (drop at bytes) ≡ Err Short
no_locator bytes at past = locator_cut (drop at bytes) (omega (arith, length-drop at bytes))

pub no_record : (bytes : List ℕ) (at : ℕ) → length bytes < at → record_at (drop at bytes) ≡ Err Short
no_record bytes at past = record_stops (drop at bytes) Short (start_cut (drop at bytes) (omega (arith, length-drop at bytes)))

-- the start of a record stands in front of its locators
start_takes : (text rest : List ℕ) (a : Addr) → start_at text ≡ Ok (a, rest) → (first : List ℕ) × (text ≡ first ++ rest)
unfolding start_at
start_takes text rest a e =
    let p = bind_ok (after 12 text) (λ rest. family_of (number_at text 10) >>= λ f. mask_of f (get_or text 5 0) >>= λ mask_len. address_at f rest) (a, rest) e in
    let q = bind_ok (family_of (number_at text 10)) (λ f. mask_of f (get_or text 5 0) >>= λ mask_len. address_at f p.0) (a, rest) p.2 in
    let r = bind_ok (mask_of q.0 (get_or text 5 0)) (λ mask_len. address_at q.0 p.0) (a, rest) q.2 in
    let head = after_takes 12 text p.0 p.1 in
    let addr = address_takes q.0 p.0 (a, rest) r.2 in
    (take 12 text ++ octets a, sym (take-append-drop 12 text) ∙ ap (λ (t : List ℕ). take 12 text ++ t) (head.1 ∙ addr.0) ∙ sym (append_assoc (take 12 text) (octets a) rest))

-- where its locators begin
pub start_left : (bytes text rest : List ℕ) (at : ℕ) (a : Addr) → at ≤ length bytes → text ≡ drop at bytes → start_at text ≡ Ok (a, rest) → IsLeft bytes at rest
start_left bytes text rest at a le there started = let s = start_takes text rest a started in left_of bytes text s.0 rest at le there s.1

-- a record is one without its locators too
pub bare_fits : (text : List ℕ) (a : Addr) (ls : List Locator) → IsMapRecord (map_record_of text a ls) → IsMapRecord (map_record_of text a [])
bare_fits text a ls fits = record { ttl = fits.ttl; act = fits.act; version = fits.version; block = fits.block; eid = fits.eid; count = omega arith; locators = tt }

-- the layout of a record whose start was read, and then its locators
pub layout_is : {A : Type 0} (bytes text rest behind : List ℕ) (at : ℕ) (a : Addr) (ls : List Locator) → at ≤ length bytes → IsBytes bytes → text ≡ drop at bytes → start_at text ≡ Ok (a, rest)
    → locators_at (slice_index text 4) rest ≡ Ok (ls, behind)
    → IsLayout {A = A} bytes at (record { fields = map_record_of text a []; locator_count = slice_index text 4; locators_at = length bytes - length rest; end = length bytes - length behind })
layout_is bytes text rest behind at a ls le fits there started taken =
    let s = start_takes text rest a started in
    let starts = start_left bytes text rest at a le there started in
    let each = locators_take (slice_index text 4) rest (ls, behind) (IsBytes-rest text s.0 rest s.1 (bytes_there bytes text at fits there)) taken in
    let read = parts_are_read bytes text rest behind at a ls le fits there started taken in
    let sizes : length rest ≡ length each.0.text + length behind = ap length each.0.parts ∙ length-append each.0.text behind in
    record {
      locators = ls;
      read = rw read.behind read.read;
      each = rw (starts.behind, read.behind) taken;
      bare = refl;
      begins = starts.from;
      ends = omega arith;
      within = omega arith;
    }

-- a fault that is passed on is the one that reading meets
pub skips_fault : {X Item E : Type 0} (view : X → List ℕ) (r : Result X E) (e : E) (read : Result (List Item × List ℕ) E) → Passes r e → read ≡ Err e → Skips view r read
skips_fault view (Ok x) e read passes fails = absurd passes
skips_fault view (Err d) e read passes fails = fails ∙ ap Err (sym passes)

pub lays_fault : {A : Type 0} (bytes : List ℕ) (at : ℕ) (r : Result (RecordLayout A) RecordFault) (e : RecordFault) → Passes r e → record_at (drop at bytes) ≡ Err e → LaysOut bytes at r
lays_fault bytes at (Ok x) e passes fails = absurd passes
lays_fault bytes at (Err d) e passes fails = fails ∙ ap Err (sym passes)

-- a record whose start is not read, or whose locators
pub start_lacks : (bytes text : List ℕ) (at : ℕ) (e : RecordFault) → text ≡ drop at bytes → start_at text ≡ Err e → record_at (drop at bytes) ≡ Err e
unfolding record_at
start_lacks bytes text at e there fails = rw (← there, fails) refl

pub locators_lack : (bytes text rest : List ℕ) (at : ℕ) (a : Addr) (e : RecordFault) → text ≡ drop at bytes → start_at text ≡ Ok (a, rest) → locators_at (slice_index text 4) rest ≡ Err e → record_at (drop at bytes) ≡ Err e
unfolding record_at
locators_lack bytes text rest at a e there started fails = rw (← there, started, fails) refl
