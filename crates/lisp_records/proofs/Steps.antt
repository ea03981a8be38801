-- Reading from left to right: what the steps give, the whole gives.
use Rattle.std.proofs.Common.{◌≡◌, ℕ, ◌+◌, ◌-◌, ◌*◌, ◌/◌, ◌%◌, ◌<◌, ◌≤◌, bit_and, Bool, List, ◌∷◌, length, take, drop, Result, Ok, Err, refl, sym, ap, ◌∙◌, arith}
use Rattle.std.proofs.lemmas.Bool.{le-ltb, lt-ltb}
use Rattle.std.proofs.lemmas.List.{take_all, length-drop}
use Rattle.std.proofs.lemmas.Nat.{and_mask}
use Rattle.std.specs.Int.{w32, from_be_bytes}
use Rattle.std.specs.Prelude.{slice_index}
use Rattle.lisp_records.specs.declared.address.Addr.{Addr}
use Rattle.lisp_records.specs.declared.address.Family.{Family}
use Rattle.lisp_records.specs.declared.fault.RecordFault.{RecordFault}
use Rattle.lisp_records.specs.declared.fault.RecordFault.TheVariants.{Short}
use Rattle.lisp_records.specs.declared.locator.Locator.{Locator}
use Rattle.lisp_records.specs.Address.{PrefixValue, cleared}
use Rattle.lisp_records.specs.Result.{◌>>=◌}
use Rattle.lisp_records.specs.Reading.{Fails, after, is_set, number_at, family_of, address_at, named_at, locator_of, locator_at, locators_at, mask_of, map_record_of, start_at, record_at}
use Rattle.lisp_records.proofs.Fields.{done}
use Rattle.lisp_records.proofs.Loop.{Fails-passed, Fails-met}

-- a field that is there is passed
after_is : (n : ℕ) (bytes : List ℕ) → n ≤ length bytes → after n bytes ≡ Ok (drop n bytes)
after_is n bytes long = rw (le-ltb (length bytes) n long) refl

-- four bytes as a number
word_at : (bytes : List ℕ) → 4 ≤ length bytes → from_be_bytes w32 (take 4 bytes) ≡ slice_index bytes 0 * 16777216 + slice_index bytes 1 * 65536 + slice_index bytes 2 * 256 + slice_index bytes 3
word_at (b0 ∷ b1 ∷ b2 ∷ b3 ∷ bytes) long = refl
word_at _ long = absurd (omega arith)

-- a Map-Version number: the last four bits of a byte, and a byte
version_at : (high low n : ℕ) → n ≡ bit_and high 15 * 256 + low → n ≡ high % 16 * 256 + low
version_at high low n masked = masked ∙ ap (λ (k : ℕ). k * 256 + low) (and_mask high 4)

-- a record of what its first bytes say
pub mapping_is : (head : List ℕ) (a : Addr) (ls : List Locator) (ttl version : ℕ) (authoritative : Bool) (eid : PrefixValue) → 4 ≤ length head
    → ttl ≡ slice_index head 0 * 16777216 + slice_index head 1 * 65536 + slice_index head 2 * 256 + slice_index head 3 → authoritative ≡ is_set (slice_index head 6) 16
    → version ≡ bit_and (slice_index head 8) 15 * 256 + slice_index head 9 → eid ≡ record { addr = cleared a (slice_index head 5); mask_len = slice_index head 5 }
    → record { ttl = ttl; act = slice_index head 6 / 32; authoritative = authoritative; version = version; eid = eid; locators = ls } ≡ map_record_of head a ls
mapping_is head a ls ttl version authoritative eid long first flag numbered block =
    rw (first ∙ sym (word_at head long), flag, version_at (slice_index head 8) (slice_index head 9) version numbered, block) refl

-- ---- a locator

-- a mask of no bits fits each family
maskless : (read : Result Family RecordFault) (bytes : List ℕ) (made : Addr × List ℕ → Locator × List ℕ) → (read >>= λ f. address_at f bytes >>= λ addr. done (made addr)) ≡ ((read >>= λ f. mask_of f 0 >>= λ n. address_at f bytes) >>= λ addr. done (made addr))
maskless read bytes made = grind arith

-- its address is read, and then nothing fails
locator_named : (bytes : List ℕ) (n : ℕ) → 8 ≤ length bytes → n ≡ number_at bytes 6 → locator_at bytes ≡ (named_at n 0 (take (length bytes - 8) (drop 8 bytes)) >>= λ addr. done {A = Locator × List ℕ} (locator_of bytes addr.0, addr.1))
unfolding locator_at
locator_named bytes n long number =
    let all = take_all (length bytes - 8) (drop 8 bytes) (omega (arith, length-drop 8 bytes)) in
    rw (after_is 8 bytes long, all, number) (maskless (family_of (number_at bytes 6)) (drop 8 bytes) (λ addr. (locator_of bytes addr.0, addr.1)))

pub locator_is : (bytes rest : List ℕ) (n : ℕ) (a : Addr) → 8 ≤ length bytes → n ≡ number_at bytes 6 → named_at n 0 (take (length bytes - 8) (drop 8 bytes)) ≡ Ok (a, rest) → locator_at bytes ≡ Ok (locator_of bytes a, rest)
locator_is bytes rest n a long number taken = locator_named bytes n long number ∙ rw taken refl

-- its address is not read
pub locator_fails : (bytes : List ℕ) (n : ℕ) (e : RecordFault) → 8 ≤ length bytes → n ≡ number_at bytes 6 → named_at n 0 (take (length bytes - 8) (drop 8 bytes)) ≡ Err e → locator_at bytes ≡ Err e
locator_fails bytes n e long number fails = locator_named bytes n long number ∙ rw fails refl

-- bytes that are too few
pub locator_cut : (bytes : List ℕ) → length bytes < 8 → locator_at bytes ≡ Err Short
unfolding locator_at
locator_cut bytes few = rw (lt-ltb (length bytes) 8 few) refl

-- ---- the start of a record

pub start_is : (bytes : List ℕ) (n : ℕ) → 12 ≤ length bytes → n ≡ number_at bytes 10 → start_at bytes ≡ named_at n (slice_index bytes 5) (drop 12 bytes)
unfolding start_at
start_is bytes n long number = rw (after_is 12 bytes long, number) refl

-- bytes that are too few
pub start_cut : (bytes : List ℕ) → length bytes < 12 → start_at bytes ≡ Err Short
unfolding start_at
start_cut bytes few = rw (lt-ltb (length bytes) 12 few) refl

-- a start that failed, failed once
pub start_fault : (bytes : List ℕ) (e f : RecordFault) → start_at bytes ≡ Err e → start_at bytes ≡ Err f → e ≡ f
start_fault bytes e f one two = let same = sym one ∙ two in cc

-- a start that was read did not fail
pub start_holds : (bytes : List ℕ) (x : Addr × List ℕ) (e : RecordFault) → start_at bytes ≡ Ok x → start_at bytes ≡ Err e → ⊥
start_holds bytes x e read fails = let clash : done x ≡ Err e = sym read ∙ fails in cc

-- ---- a record

pub record_is : (bytes rest behind : List ℕ) (a : Addr) (ls : List Locator) → start_at bytes ≡ Ok (a, rest) → locators_at (slice_index bytes 4) rest ≡ Ok (ls, behind) → record_at bytes ≡ Ok (map_record_of bytes a ls, behind)
unfolding record_at
record_is bytes rest behind a ls started taken = rw (started, taken) refl

-- its start is not read
pub record_stops : (bytes : List ℕ) (e : RecordFault) → start_at bytes ≡ Err e → Fails e (record_at bytes)
unfolding record_at
record_stops bytes e stops = Fails-met e (record_at bytes) (rw stops refl)

-- its locators are not read
pub record_fails : (bytes rest : List ℕ) (a : Addr) (e : RecordFault) → start_at bytes ≡ Ok (a, rest) → Fails e (locators_at (slice_index bytes 4) rest) → Fails e (record_at bytes)
unfolding record_at
record_fails bytes rest a e started = Fails-passed e (locators_at (slice_index bytes 4) rest) (record_at bytes) (λ f fails. rw (started, fails) refl)
