-- Records whose EID-Prefixes are compared with those of the later ones, one after the other.
use Rattle.std.proofs.Common.{◌≡◌, ℕ, ◌+◌, ◌-◌, ◌<◌, ◌≤◌, Bool, true, false, ◌||◌, List, [], ◌∷◌, ◌++◌, length, get_or, take, drop, Ok, Err, refl, sym, ap, ◌∙◌, add-one, arith}
use Rattle.std.proofs.Math.Seq.{drop-cons}
use Rattle.std.proofs.Math.ListN.{drop_of_length-le}
use Rattle.std.proofs.lemmas.Bool.{le-ltb, lt-ltb}
use Rattle.std.proofs.lemmas.Bool.Decides.{nat_tests}
use Rattle.std.proofs.lemmas.List.{take_all, take_more, length-drop}
use Rattle.lisp_records.specs.Address.{PrefixValue, prefix_eq}
use Rattle.lisp_records.specs.Record.{MapRecordValue}
use Rattle.lisp_records.specs.declared.database.DatabaseFault.TheVariants.{RepeatedPrefix, TooLarge}
use Rattle.lisp_records.specs.Parts.{fits_message, most_parts, part_count}
use Rattle.lisp_records.specs.Database.{has_prefix, repeats, database_of}
use Rattle.lisp_records.proofs.Cuts.{fits_is, one_part}

-- the next record is looked at
next_prefix : (ms : List MapRecordValue) (i : ℕ) (m : MapRecordValue) (eid own : PrefixValue) → i < length ms → m ≡ get_or ms i m → own ≡ m.eid → has_prefix eid (drop i ms) ≡ (prefix_eq eid own || has_prefix eid (drop (i + 1) ms))
next_prefix ms i m eid own lt at of =
    let here : own ≡ (get_or ms i m).eid = of ∙ ap (λ (x : MapRecordValue). x.eid) at in
    rw (here, drop-cons ms i m lt, add-one) refl

-- it is of the EID-Prefix
pub prefix_here : (ms : List MapRecordValue) (i : ℕ) (m : MapRecordValue) (eid own : PrefixValue) → i < length ms → m ≡ get_or ms i m → own ≡ m.eid → has_prefix eid (drop i ms) ≡ has_prefix eid ms → prefix_eq eid own ≡ true → true ≡ has_prefix eid ms
prefix_here ms i m eid own lt at of so_far met = sym (next_prefix ms i m eid own lt at of ∙ ap (λ (b : Bool). b || has_prefix eid (drop (i + 1) ms)) met) ∙ so_far

-- it is of another
pub prefix_goes_on : (ms : List MapRecordValue) (i : ℕ) (m : MapRecordValue) (eid own : PrefixValue) → i < length ms → m ≡ get_or ms i m → own ≡ m.eid → has_prefix eid (drop i ms) ≡ has_prefix eid ms → prefix_eq eid own ≡ false → has_prefix eid (drop (i + 1) ms) ≡ has_prefix eid ms
prefix_goes_on ms i m eid own lt at of so_far other = sym (next_prefix ms i m eid own lt at of ∙ ap (λ (b : Bool). b || has_prefix eid (drop (i + 1) ms)) other) ∙ so_far

-- no record is left
pub prefix_ends : (ms : List MapRecordValue) (i : ℕ) (eid : PrefixValue) → length ms ≤ i → has_prefix eid (drop i ms) ≡ has_prefix eid ms → false ≡ has_prefix eid ms
prefix_ends ms i eid le so_far =
    let none : has_prefix eid (drop i ms) ≡ false = rw (drop_of_length-le ms le) refl in
    sym none ∙ so_far

-- the records behind a place
abbrev pub behind : List MapRecordValue → ℕ → List MapRecordValue
behind ms i = take (length ms - (i + 1)) (drop (i + 1) ms)

behind-is : (ms : List MapRecordValue) (i : ℕ) → behind ms i ≡ drop (i + 1) ms
behind-is ms i = take_all (length ms - (i + 1)) (drop (i + 1) ms) (omega (arith, length-drop (i + 1) ms))

-- the next record is compared with those after it
next_repeats : (ms : List MapRecordValue) (i : ℕ) (m : MapRecordValue) (eid : PrefixValue) → i < length ms → m ≡ get_or ms i m → eid ≡ m.eid → repeats (drop i ms) ≡ (has_prefix eid (behind ms i) || repeats (drop (i + 1) ms))
unfolding repeats
next_repeats ms i m eid lt at of =
    let here : eid ≡ (get_or ms i m).eid = of ∙ ap (λ (x : MapRecordValue). x.eid) at in
    rw (behind-is ms i, here, drop-cons ms i m lt, add-one) refl

-- a later record is of the same EID-Prefix
pub repeats_here : (ms : List MapRecordValue) (i : ℕ) (m : MapRecordValue) (eid : PrefixValue) → i < length ms → m ≡ get_or ms i m → eid ≡ m.eid → repeats (drop i ms) ≡ repeats ms → has_prefix eid (behind ms i) ≡ true → true ≡ repeats ms
repeats_here ms i m eid lt at of so_far met =
    sym (next_repeats ms i m eid lt at of ∙ ap (λ (b : Bool). b || repeats (drop (i + 1) ms)) met) ∙ so_far

-- no later record is of the same EID-Prefix
pub repeats_goes_on : (ms : List MapRecordValue) (i : ℕ) (m : MapRecordValue) (eid : PrefixValue) → i < length ms → m ≡ get_or ms i m → eid ≡ m.eid → repeats (drop i ms) ≡ repeats ms → has_prefix eid (behind ms i) ≡ false → repeats (drop (i + 1) ms) ≡ repeats ms
repeats_goes_on ms i m eid lt at of so_far none =
    sym (next_repeats ms i m eid lt at of ∙ ap (λ (b : Bool). b || repeats (drop (i + 1) ms)) none) ∙ so_far

-- no record is left
pub repeats_ends : (ms : List MapRecordValue) (i : ℕ) → length ms ≤ i → repeats (drop i ms) ≡ repeats ms → false ≡ repeats ms
unfolding repeats
repeats_ends ms i le so_far =
    let none : repeats (drop i ms) ≡ false = rw (drop_of_length-le ms le) refl in
    sym none ∙ so_far

-- one more record is copied
pub copy_goes_on : (ms copies more : List MapRecordValue) (i : ℕ) (m copy : MapRecordValue) → i < length ms → m ≡ get_or ms i m → copy ≡ m → copies ≡ take i ms → more ≡ copies ++ copy ∷ [] → more ≡ take (i + 1) ms
copy_goes_on ms copies more i m copy lt at same so_far pushed =
    let here : copy ≡ get_or ms i m = same ∙ at in
    pushed ∙ rw (so_far, here, take_more ms i m lt) refl

-- ---- the tests of a database, one after the other

pub too_many : (ms : List MapRecordValue) → 1024 < length ms → Err TooLarge ≡ database_of ms
too_many ms many = rw (lt-ltb 1024 (length ms) many) refl

pub repeated : (ms : List MapRecordValue) → length ms ≤ 1024 → repeats ms ≡ true → Err RepeatedPrefix ≡ database_of ms
repeated ms few again = rw (le-ltb 1024 (length ms) few, again) refl

pub too_many_parts : (ms : List MapRecordValue) → length ms ≤ 1024 → repeats ms ≡ false → most_parts < part_count ms → Err TooLarge ≡ database_of ms
too_many_parts ms few once many = rw (le-ltb 1024 (length ms) few, once, lt-ltb most_parts (part_count ms) many) refl

pub is_database : (ms : List MapRecordValue) → length ms ≤ 1024 → repeats ms ≡ false → part_count ms ≤ most_parts → database_of ms ≡ Ok ms
is_database ms few once parts = rw (le-ltb 1024 (length ms) few, once, le-ltb most_parts (part_count ms) parts) refl

-- records that one message can carry are a database, where no prefix is repeated
pub message_is_database : (ms : List MapRecordValue) → fits_message ms ≡ true → repeats ms ≡ false → database_of ms ≡ Ok ms
message_is_database ms fit once =
    let few = (fits_is ms fit).0 in
    let one = ap length (one_part ms fit) in
    is_database ms (omega (arith, few)) once (omega (arith, one))

-- what a database passed
pub database_is : (ms : List MapRecordValue) → database_of ms ≡ Ok ms → (length ms ≤ 1024) × (repeats ms ≡ false) × (part_count ms ≤ most_parts)
database_is ms is = grind (arith, nat_tests)

-- the records of a database are the given ones
pub database_same : (ms db : List MapRecordValue) → database_of ms ≡ Ok db → ms ≡ db
database_same ms db e = grind arith
