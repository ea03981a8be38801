-- What a database in parts is: each record is in one part, and a look-up in its part is the look-up in the whole.
use Rattle.std.proofs.Common.{◌≡◌, ℕ, zero, suc, ◌<◌, Bool, true, false, ◌||◌, ◌⊎◌, inl, inr, List, [], ◌∷◌, ◌++◌, length, reverse, slice_index_or, Some, Ok, refl, sym, ap, subst, ◌∙◌, arith}
use Rattle.std.specs.List.{Contains}
use Rattle.std.proofs.lemmas.Bool.{or_left, or_right}
use Rattle.std.proofs.lemmas.List.Elements.{Contains-append_left, Contains-append_right, Contains-append_cases}
use Rattle.lisp_records.specs.Address.{PrefixValue, prefix_eq}
use Rattle.lisp_records.specs.Record.{MapRecordValue}
use Rattle.lisp_records.specs.Parts.{cut, part_at, IsInOnePart}
use Rattle.lisp_records.specs.Database.{database_of, has_prefix, repeats, record_for, IsFoundInAPart}
use Rattle.lisp_records.proofs.Cuts.{joined, cut_joined}
use Rattle.lisp_records.proofs.Elements.{none_in, first_or_later, in_reversed, from_reversed, found, finds}
use Rattle.lisp_records.proofs.DatabaseLaws.{block_eq-Decides}
use Rattle.lisp_records.proofs.DatabaseLemmas.{database_is}

-- ---- records of different EID-Prefixes

neither : (a b : Bool) → (a || b) ≡ false → (a ≡ false) × (b ≡ false)
neither true b e = absurd cc
neither false b e = (refl, e)

-- a record that is there is met by its EID-Prefix
has_it : (eid : PrefixValue) (ms : List MapRecordValue) (m : MapRecordValue) → Contains ms m → eid ≡ m.eid → has_prefix eid ms ≡ true
has_it eid [] m at of = absurd (none_in m at)
has_it eid (x ∷ ms) m at of = by (first_or_later m x ms at) (λ later. has_it eid ms m later of)
  where
    by : (x ≡ m) ⊎ Contains ms m → (Contains ms m → has_prefix eid ms ≡ true) → has_prefix eid (x ∷ ms) ≡ true
    by (inl is) rest = or_left (prefix_eq eid x.eid) (has_prefix eid ms) ((block_eq-Decides eid x.eid).1 (of ∙ ap (λ (y : MapRecordValue). y.eid) (sym is)))
    by (inr later) rest = or_right (prefix_eq eid x.eid) (has_prefix eid ms) (rest later)

-- a record's EID-Prefix does not occur again
no_other : (x : MapRecordValue) (ms : List MapRecordValue) (m : MapRecordValue) → repeats (x ∷ ms) ≡ false → Contains ms m → x.eid ≡ m.eid → ⊥
unfolding repeats
no_other x ms m once at same =
    let none : has_prefix x.eid ms ≡ false = (neither (has_prefix x.eid ms) (repeats ms) once).0 in
    (let clash : true ≡ false = sym (has_it x.eid ms m at same) ∙ none in cc)

-- the later records repeat no prefix where none is repeated
later_once : (x : MapRecordValue) (ms : List MapRecordValue) → repeats (x ∷ ms) ≡ false → repeats ms ≡ false
unfolding repeats
later_once x ms once = (neither (has_prefix x.eid ms) (repeats ms) once).1

-- two records of one EID-Prefix are one
one_for : (ms : List MapRecordValue) (a b : MapRecordValue) → repeats ms ≡ false → Contains ms a → Contains ms b → a.eid ≡ b.eid → a ≡ b
one_for [] a b once at_a at_b same = absurd (none_in a at_a)
one_for (x ∷ ms) a b once at_a at_b same = by (first_or_later a x ms at_a) (first_or_later b x ms at_b) (λ later_a later_b. one_for ms a b (later_once x ms once) later_a later_b same)
  where
    by : (x ≡ a) ⊎ Contains ms a → (x ≡ b) ⊎ Contains ms b → (Contains ms a → Contains ms b → a ≡ b) → a ≡ b
    by (inl is_a) (inl is_b) rest = sym is_a ∙ is_b
    by (inl is_a) (inr later_b) rest = absurd (no_other x ms b once later_b (ap (λ (y : MapRecordValue). y.eid) is_a ∙ same))
    by (inr later_a) (inl is_b) rest = absurd (no_other x ms a once later_a (ap (λ (y : MapRecordValue). y.eid) is_b ∙ sym same))
    by (inr later_a) (inr later_b) rest = rest later_a later_b

-- what repeats no prefix and stands in two pieces has no record in both
pieces_apart : (xs ys : List MapRecordValue) (m : MapRecordValue) → repeats (xs ++ ys) ≡ false → Contains xs m → Contains ys m → ⊥
pieces_apart [] ys m once at_x at_y = none_in m at_x
pieces_apart (x ∷ xs) ys m once at_x at_y = by (first_or_later m x xs at_x) (λ later. pieces_apart xs ys m (later_once x (xs ++ ys) once) later at_y)
  where
    by : (x ≡ m) ⊎ Contains xs m → (Contains xs m → ⊥) → ⊥
    by (inl is) rest = no_other x (xs ++ ys) m once (Contains-append_right xs ys m at_y) (ap (λ (y : MapRecordValue). y.eid) is)
    by (inr later) rest = rest later

-- the second piece repeats none
second_once : (xs ys : List MapRecordValue) → repeats (xs ++ ys) ≡ false → repeats ys ≡ false
second_once [] ys once = once
second_once (x ∷ xs) ys once = second_once xs ys (later_once x (xs ++ ys) once)

-- ---- records in parts

abbrev pub at_part : List (List MapRecordValue) → ℕ → List MapRecordValue
at_part parts part = slice_index_or parts part []

-- what is in a part is in the whole
in_whole : (parts : List (List MapRecordValue)) (part : ℕ) (m : MapRecordValue) → Contains (at_part parts part) m → Contains (joined parts) m
in_whole [] part m at = absurd (none_in m at)
in_whole (p ∷ parts) zero m at = Contains-append_left p (joined parts) m at
in_whole (p ∷ parts) (suc part) m at = Contains-append_right p (joined parts) m (in_whole parts part m at)

-- what is in the whole is in a part
in_a_part : (parts : List (List MapRecordValue)) (m : MapRecordValue) → Contains (joined parts) m → (part : ℕ) × (part < length parts) × Contains (at_part parts part) m
in_a_part [] m at = absurd (none_in m at)
in_a_part (p ∷ parts) m at = by (Contains-append_cases p (joined parts) m at) (in_a_part parts m)
  where
    by : Contains p m ⊎ Contains (joined parts) m → (Contains (joined parts) m → (part : ℕ) × (part < length parts) × Contains (at_part parts part) m)
        → (part : ℕ) × (part < length (p ∷ parts)) × Contains (at_part (p ∷ parts) part) m
    by (inl here) rest = (0, omega arith, here)
    by (inr later) rest = (let r = rest later in (suc r.0, omega (arith, r.1), r.2))

-- and in no other, where no prefix is repeated
in_no_other : (parts : List (List MapRecordValue)) (one other : ℕ) (m : MapRecordValue) → repeats (joined parts) ≡ false → Contains (at_part parts one) m → Contains (at_part parts other) m → other ≡ one
in_no_other [] one other m once a b = absurd (none_in m a)
in_no_other (p ∷ parts) zero zero m once a b = refl
in_no_other (p ∷ parts) zero (suc other) m once a b = absurd (pieces_apart p (joined parts) m once a (in_whole parts other m b))
in_no_other (p ∷ parts) (suc one) zero m once a b = absurd (pieces_apart p (joined parts) m once b (in_whole parts one m a))
in_no_other (p ∷ parts) (suc one) (suc other) m once a b = ap suc (in_no_other parts one other m (second_once p (joined parts) once) a b)

-- ---- a database

joined_is : (ms : List MapRecordValue) → joined (cut ms) ≡ ms
unfolding cut
joined_is ms = cut_joined [] ms

-- each record of a database is in one part, and in no other
pub each_record_is_in_one_part : (ms : List MapRecordValue) (m : MapRecordValue) → database_of ms ≡ Ok ms → Contains ms m → IsInOnePart ms m
each_record_is_in_one_part ms m is at =
    let once : repeats (joined (cut ms)) ≡ false = ap repeats (joined_is ms) ∙ (database_is ms is).1 in
    let place = in_a_part (cut ms) m (subst (λ (t : List MapRecordValue). Contains t m) (sym (joined_is ms)) at) in
    (place.0, place.1, place.2, λ other there. in_no_other (cut ms) place.0 other m once place.2 there)

-- the record that is found for an EID-Prefix is there, and of it
found_for : (ms : List MapRecordValue) (eid : PrefixValue) (m : MapRecordValue) → record_for ms eid ≡ Some m → Contains ms m × (m.eid ≡ eid)
found_for ms eid m is =
    let f = found (λ (x : MapRecordValue). prefix_eq x.eid eid) (reverse ms) m is in
    (from_reversed ms m f.0, (block_eq-Decides m.eid eid).0 f.1)

-- the converse, where two records of one EID-Prefix are one
finds_for : (ms : List MapRecordValue) (eid : PrefixValue) (m : MapRecordValue) → ((x : MapRecordValue) → Contains ms x → x.eid ≡ eid → x ≡ m) → Contains ms m → m.eid ≡ eid → record_for ms eid ≡ Some m
finds_for ms eid m one at of =
    let f = finds (λ (x : MapRecordValue). prefix_eq x.eid eid) (reverse ms) m (in_reversed ms m at) ((block_eq-Decides m.eid eid).1 of) in
    let there = found_for ms eid f.0 f.1 in
    f.1 ∙ ap Some (one f.0 there.0 there.1)

-- what is in a part of records is among them
part_in_whole : (ms : List MapRecordValue) (part : ℕ) (m : MapRecordValue) → Contains (part_at ms part) m → Contains ms m
part_in_whole ms part m at = subst (λ (t : List MapRecordValue). Contains t m) (joined_is ms) (in_whole (cut ms) part m at)

-- what one part of a database has for an EID-Prefix, the database has
pub part_look_up : (ms : List MapRecordValue) (part : ℕ) (eid : PrefixValue) (m : MapRecordValue) → database_of ms ≡ Ok ms → record_for (part_at ms part) eid ≡ Some m → record_for ms eid ≡ Some m
part_look_up ms part eid m is found =
    let there = found_for (part_at ms part) eid m found in
    let whole = part_in_whole ms part m there.0 in
    finds_for ms eid m (λ x at of. one_for ms x m ((database_is ms is).1) at whole (of ∙ sym there.1)) whole there.1

-- what a database has for an EID-Prefix, one of its parts has
pub look_up_in_a_part : (ms : List MapRecordValue) (eid : PrefixValue) (m : MapRecordValue) → database_of ms ≡ Ok ms → record_for ms eid ≡ Some m → IsFoundInAPart ms eid m
look_up_in_a_part ms eid m is found =
    let there = found_for ms eid m found in
    let place = each_record_is_in_one_part ms m is there.0 in
    (place.0, place.1, finds_for (part_at ms place.0) eid m (λ x at of. one_for ms x m ((database_is ms is).1) (part_in_whole ms place.0 x at) there.0 (of ∙ sym there.1)) place.2 there.1)
