-- How records are cut into parts.
use Rattle.std.proofs.Common.{◌≡◌, ◌≢◌, ℕ, zero, suc, ◌+◌, ◌<◌, ◌≤◌, nat_le, Bool, true, false, List, [], ◌∷◌, ◌++◌, length, slice_index_or, refl, sym, ap, subst, ◌∙◌, append_assoc, arith}
use Rattle.std.specs.List.{AllByRecursion, flat_map}
use Rattle.std.proofs.lemmas.Bool.{and_parts, le-leb, leb-true}
use Rattle.std.proofs.lemmas.List.{append-nil, length-append}
use Rattle.std.proofs.lemmas.List.Sums.{sum_by-append}
use Rattle.lisp_records.specs.Record.{MapRecordValue}
use Rattle.lisp_records.specs.Written.{written}
use Rattle.lisp_records.specs.Parts.{size, fits_message, AreFull, IsCut, cut_from, cut, part_at, EachFitsAlone}

-- parts in a row
abbrev pub joined : List (List MapRecordValue) → List MapRecordValue
joined parts = flat_map (λ part. part) parts

-- ---- what one message can carry

pub fits : (ms : List MapRecordValue) → length ms ≤ 255 → size ms ≤ 16384 → fits_message ms ≡ true
fits ms few short = rw (le-leb (length ms) 255 few, le-leb (size ms) 16384 short) refl

pub fits_is : (ms : List MapRecordValue) → fits_message ms ≡ true → (length ms ≤ 255) × (size ms ≤ 16384)
fits_is ms e =
    let is = and_parts (nat_le (length ms) 255) (nat_le (size ms) 16384) e in
    (leb-true (length ms) 255 is.0, leb-true (size ms) 16384 is.1)

-- the size of records in a row
pub size-append : (xs ys : List MapRecordValue) → size (xs ++ ys) ≡ size xs + size ys
size-append xs ys = sum_by-append (λ m. length (written m)) xs ys

-- what begins records that fit fits
pub begins_fits : (xs ys : List MapRecordValue) → fits_message (xs ++ ys) ≡ true → fits_message xs ≡ true
begins_fits xs ys e =
    let is = fits_is (xs ++ ys) e in
    fits xs (omega (arith, is.0, length-append xs ys)) (omega (arith, is.1, size-append xs ys))

-- ---- one step of a cut

pub cut_goes_on : (part : List MapRecordValue) (m : MapRecordValue) (ms : List MapRecordValue) → fits_message (part ++ m ∷ []) ≡ true → cut_from part (m ∷ ms) ≡ cut_from (part ++ m ∷ []) ms
unfolding cut_from
cut_goes_on part m ms e = rw e refl

pub cut_begins : (part : List MapRecordValue) (m : MapRecordValue) (ms : List MapRecordValue) → fits_message (part ++ m ∷ []) ≡ false → cut_from part (m ∷ ms) ≡ part ∷ cut_from (m ∷ []) ms
unfolding cut_from
cut_begins part m ms e = rw e refl

-- what holds of each cut: by the steps of one
pub cut_induction : (P : List MapRecordValue → List MapRecordValue → List (List MapRecordValue) → Type 0)
    → ((part : List MapRecordValue) → P part [] (part ∷ []))
    → ((part : List MapRecordValue) (m : MapRecordValue) (ms : List MapRecordValue) (parts : List (List MapRecordValue)) → fits_message (part ++ m ∷ []) ≡ true → P (part ++ m ∷ []) ms parts → P part (m ∷ ms) parts)
    → ((part : List MapRecordValue) (m : MapRecordValue) (ms : List MapRecordValue) (parts : List (List MapRecordValue)) → fits_message (part ++ m ∷ []) ≡ false → P (m ∷ []) ms parts → P part (m ∷ ms) (part ∷ parts))
    → (part ms : List MapRecordValue) → P part ms (cut_from part ms)
unfolding cut_from
cut_induction P ends goes_on begins part [] = ends part
cut_induction P ends goes_on begins part (m ∷ ms) = by (fits_message (part ++ m ∷ [])) refl (cut_induction P ends goes_on begins (part ++ m ∷ []) ms) (cut_induction P ends goes_on begins (m ∷ []) ms)
  where
    by : (b : Bool) → fits_message (part ++ m ∷ []) ≡ b → P (part ++ m ∷ []) ms (cut_from (part ++ m ∷ []) ms) → P (m ∷ []) ms (cut_from (m ∷ []) ms) → P part (m ∷ ms) (cut_from part (m ∷ ms))
    by true e on new = subst (P part (m ∷ ms)) (sym (cut_goes_on part m ms e)) (goes_on part m ms (cut_from (part ++ m ∷ []) ms) e on)
    by false e on new = subst (P part (m ∷ ms)) (sym (cut_begins part m ms e)) (begins part m ms (cut_from (m ∷ []) ms) e new)

-- ---- what holds of what is cut

pub cut_joined : (part ms : List MapRecordValue) → joined (cut_from part ms) ≡ part ++ ms
cut_joined = cut_induction (λ part ms parts. joined parts ≡ part ++ ms)
    (λ part. refl)
    (λ part m ms parts fit is. is ∙ append_assoc part (m ∷ []) ms)
    (λ part m ms parts full is. ap (λ (t : List MapRecordValue). part ++ t) is)

-- the parts begin with records
abbrev pub BeginWith : List MapRecordValue → List (List MapRecordValue) → Type 0
BeginWith part parts = (more : List MapRecordValue) × (rest : List (List MapRecordValue)) × (parts ≡ (part ++ more) ∷ rest)

-- the part before parts that begin with a record which it has no room for is full
full_before : (part : List MapRecordValue) (m : MapRecordValue) (parts : List (List MapRecordValue)) → fits_message (part ++ m ∷ []) ≡ false → BeginWith (m ∷ []) parts → AreFull parts → AreFull (part ∷ parts)
unfolding AreFull
full_before part m parts none (more, rest, is) full = subst (λ (t : List (List MapRecordValue)). AreFull (part ∷ t)) (sym is) (none, subst AreFull is full)

-- a cut is full, and begins with the records that its first part was given
pub cut_full : (part ms : List MapRecordValue) → AreFull (cut_from part ms) × BeginWith part (cut_from part ms)
unfolding AreFull
cut_full = cut_induction (λ part ms parts. AreFull parts × BeginWith part parts)
    (λ part. (tt, ([], [], ap (λ (t : List MapRecordValue). t ∷ []) (sym (append-nil part)))))
    (λ part m ms parts fit (full, (more, rest, is)). (full, (m ∷ more, rest, is ∙ ap (λ (t : List MapRecordValue). t ∷ rest) (append_assoc part (m ∷ []) more))))
    (λ part m ms parts none (full, begin). (full_before part m parts none begin full, ([], parts, ap (λ (t : List MapRecordValue). t ∷ parts) (sym (append-nil part)))))

-- each part fits where the first one does and the records fit alone
pub cut_fits : (part ms : List MapRecordValue) → fits_message part ≡ true → EachFitsAlone ms → AllByRecursion (λ p. fits_message p ≡ true) (cut_from part ms)
cut_fits = cut_induction (λ part ms parts. fits_message part ≡ true → EachFitsAlone ms → AllByRecursion (λ p. fits_message p ≡ true) parts)
    (λ part fit alone. (fit, tt))
    (λ part m ms parts fit is begun alone. is fit alone.1)
    (λ part m ms parts full is begun alone. (begun, is alone.0 alone.1))

-- a list that something was put behind is not empty
pushed_some : (part : List MapRecordValue) (m : MapRecordValue) → part ++ m ∷ [] ≢ []
pushed_some [] m e = absurd cc
pushed_some (x ∷ part) m e = absurd cc

-- no part is empty where the first one begins with records
pub cut_some : (part ms : List MapRecordValue) → part ≢ [] → AllByRecursion (λ p. p ≢ []) (cut_from part ms)
cut_some = cut_induction (λ part ms parts. part ≢ [] → AllByRecursion (λ p. p ≢ []) parts)
    (λ part some. (some, tt))
    (λ part m ms parts fit is some. is (pushed_some part m))
    (λ part m ms parts full is some. (some, is (pushed_some [] m)))

-- ---- there is one cut

-- parts of which the first was begun are what cutting gives
recut : (done part : List MapRecordValue) (parts : List (List MapRecordValue)) → AllByRecursion (λ p. fits_message p ≡ true) ((done ++ part) ∷ parts) → AreFull ((done ++ part) ∷ parts) → AllByRecursion (λ p. p ≢ []) parts
    → cut_from done (part ++ joined parts) ≡ (done ++ part) ∷ parts
unfolding AreFull cut_from
recut done [] [] fit full some = ap (λ (t : List MapRecordValue). t ∷ []) (sym (append-nil done))
recut done [] ([] ∷ parts) fit full some = absurd (some.0 refl)
recut done [] ((m ∷ part) ∷ parts) fit full some =
    let none : fits_message (done ++ m ∷ []) ≡ false = subst (λ (t : List MapRecordValue). fits_message (t ++ m ∷ []) ≡ false) (append-nil done) full.0 in
    cut_begins done m (part ++ joined parts) none ∙ ap (λ (t : List (List MapRecordValue)). done ∷ t) (recut (m ∷ []) part parts fit.1 full.1 some.1) ∙ ap (λ (t : List MapRecordValue). t ∷ (m ∷ part) ∷ parts) (sym (append-nil done))
recut done (m ∷ part) parts fit full some =
    let again : (done ++ m ∷ []) ++ part ≡ done ++ m ∷ part = append_assoc done (m ∷ []) part in
    let room : fits_message (done ++ m ∷ []) ≡ true = begins_fits (done ++ m ∷ []) part (subst (λ (t : List MapRecordValue). fits_message t ≡ true) (sym again) fit.0) in
    cut_goes_on done m (part ++ joined parts) room
    ∙ recut (done ++ m ∷ []) part parts (subst (λ (t : List MapRecordValue). AllByRecursion (λ p. fits_message p ≡ true) (t ∷ parts)) (sym again) fit) (subst (λ (t : List MapRecordValue). AreFull (t ∷ parts)) (sym again) full) some
    ∙ ap (λ (t : List MapRecordValue). t ∷ parts) again

-- a cut is what cutting gives
pub cut_is : (ms : List MapRecordValue) (parts : List (List MapRecordValue)) → IsCut ms parts → parts ≡ cut ms
unfolding cut cut_from
cut_is ms [] c = absurd (let e : ◌≡◌ {A = List (List MapRecordValue)} [] ([] ∷ []) = c.none (sym c.joined) in cc)
cut_is [] (part ∷ parts) c = c.none refl
cut_is (m ∷ ms) (part ∷ parts) c = sym (recut [] part parts c.fit c.full (c.some (λ e. absurd cc)).1) ∙ ap (cut_from []) c.joined

pub cuts_are_one : (ms : List MapRecordValue) (one other : List (List MapRecordValue)) → IsCut ms one → IsCut ms other → one ≡ other
cuts_are_one ms one other a b = cut_is ms one a ∙ sym (cut_is ms other b)

-- ---- what is cut is a cut

-- no part of records that fit alone is empty
each_some : (ms : List MapRecordValue) → EachFitsAlone ms → ms ≢ [] → AllByRecursion (λ p. p ≢ []) (cut_from [] ms)
each_some [] alone some = absurd (some refl)
each_some (m ∷ ms) alone some = subst (AllByRecursion (λ p. p ≢ [])) (sym (cut_goes_on [] m ms alone.0)) (cut_some (m ∷ []) ms (λ e. absurd cc))

pub cut_is_a_cut : (ms : List MapRecordValue) → EachFitsAlone ms → IsCut ms (cut ms)
unfolding cut cut_from
cut_is_a_cut ms alone = record {
  joined = cut_joined [] ms;
  fit = cut_fits [] ms refl alone;
  full = (cut_full [] ms).0;
  some = each_some ms alone;
  none = λ e. ap (cut_from []) e;
}

-- there is a part
pub some_part : (ms : List MapRecordValue) → 0 < length (cut ms)
unfolding cut
some_part ms = by (cut_full [] ms).1
  where
    by : BeginWith [] (cut_from [] ms) → 0 < length (cut_from [] ms)
    by (more, rest, is) = omega (arith, ap length is)

-- a part among parts that fit, and what is none of them
at_fits : (parts : List (List MapRecordValue)) (part : ℕ) → AllByRecursion (λ p. fits_message p ≡ true) parts → fits_message (slice_index_or parts part []) ≡ true
at_fits [] part all = refl
at_fits (p ∷ parts) zero all = all.0
at_fits (p ∷ parts) (suc part) all = at_fits parts part all.1

-- each part of records that fit alone fits
pub part_fits : (ms : List MapRecordValue) (part : ℕ) → EachFitsAlone ms → fits_message (part_at ms part) ≡ true
part_fits ms part alone = at_fits (cut ms) part (cut_is_a_cut ms alone).fit

-- ---- records that fit one message are one part

pub one_part : (ms : List MapRecordValue) → fits_message ms ≡ true → cut ms ≡ ms ∷ []
unfolding cut AreFull
one_part ms fit = subst (λ (t : List MapRecordValue). cut_from [] t ≡ ms ∷ []) (append-nil ms) (recut [] ms [] (fit, tt) tt tt)
