-- Filling parts with records, one record after the other.
use Rattle.std.proofs.Common.{◌≡◌, ℕ, suc, ◌+◌, ◌-◌, ◌<◌, ◌≤◌, ltb, nat_le, Bool, true, false, ◌&&◌, List, [], ◌∷◌, ◌++◌, length, get_or, take, drop, slice_index_or, refl, sym, ap, subst, ◌∙◌, add-one, arith}
use Rattle.std.specs.Prelude.{All, slice_range, slice_index, slice_set}
use Rattle.std.proofs.Math.Seq.{drop-cons}
use Rattle.std.proofs.Math.ListN.{drop_of_length-le}
use Rattle.std.proofs.lemmas.Bool.{ltb-true, ltb-false}
use Rattle.std.proofs.lemmas.List.{take_all, take_more, length-drop, length-take, length-set, length-append, drop-drop, get_or-drop, get_or-set_same, get_or-set_other}
use Rattle.std.proofs.lemmas.List.Elements.{All-more, recursion_from_All}
use Rattle.lisp_records.specs.Record.{MapRecordValue}
use Rattle.lisp_records.specs.Written.{written}
use Rattle.lisp_records.specs.Parts.{size, fits_message, cut_from, cut, part_count, part_at, most_parts, EachFitsAlone, IsRange, AreStarts}
use Rattle.lisp_records.proofs.Cuts.{fits, fits_is, size-append, cut_goes_on, cut_begins, cut_full, BeginWith, part_fits}

-- a record fits a message alone
abbrev pub FitsAlone : MapRecordValue → Type 0
FitsAlone m = fits_message (m ∷ []) ≡ true

-- ---- ranges of records

-- a range, and the next record
range_more : (ms : List MapRecordValue) (start i : ℕ) (m : MapRecordValue) → start ≤ i → i < length ms → m ≡ get_or ms i m → slice_range ms start (i + 1) ≡ slice_range ms start i ++ m ∷ []
range_more ms start i m le lt at =
    let width : i + 1 - start ≡ (i - start) + 1 = omega arith in
    let place : start + (i - start) ≡ i = omega arith in
    let here : get_or (drop start ms) (i - start) m ≡ m = get_or-drop start ms (i - start) m ∙ ap (λ (k : ℕ). get_or ms k m) place ∙ sym at in
    ap (λ (k : ℕ). take k (drop start ms)) width ∙ take_more (drop start ms) (i - start) m (omega (arith, length-drop start ms)) ∙ ap (λ (x : MapRecordValue). slice_range ms start i ++ x ∷ []) here

-- an empty range
range_none : (ms : List MapRecordValue) (i : ℕ) → slice_range ms i i ≡ []
range_none ms i = let none : i - i ≡ 0 = omega arith in rw none refl

-- how long a range is
range_length : (ms : List MapRecordValue) (start i : ℕ) → i ≤ length ms → length (slice_range ms start i) ≡ i - start
range_length ms start i le = omega (arith, length-take (i - start) (drop start ms), length-drop start ms)

-- what is left, from a record on
rest_is : (ms : List MapRecordValue) (i : ℕ) (m : MapRecordValue) → i < length ms → m ≡ get_or ms i m → drop i ms ≡ m ∷ drop (i + 1) ms
rest_is ms i m lt at = rw add-one (drop-cons ms i m lt ∙ ap (λ (x : MapRecordValue). x ∷ drop (suc i) ms) (sym at))

-- ---- one record after the other

-- the parts before the present one are found, the present one has the records from its start on, and the rest is to be cut
pub record IsFilling (ms : List MapRecordValue) (starts : List ℕ) (last start bytes i : ℕ) : Type 0 where
  pub rest : cut_from (slice_range ms start i) (drop i ms) ≡ drop last (cut ms)
  pub begun : slice_index starts last ≡ start
  pub counted : bytes ≡ size (slice_range ms start i)
  pub short : bytes ≤ 16384
  pub behind : start ≤ i
  pub parts : last < most_parts
  pub wide : length starts ≡ 17
  pub within : i ≤ length ms
  pub before : (part : ℕ) → part < last → IsRange ms (part_at ms part) (slice_index starts part) (slice_index starts (part + 1))
  pub alone : All FitsAlone (take i ms)

-- one record's bytes, with those of the present part
pub filled : (ms : List MapRecordValue) (start i bytes len : ℕ) (m : MapRecordValue) → len ≡ length (written m) → bytes ≡ size (slice_range ms start i) → bytes + len ≡ size (slice_range ms start i ++ m ∷ [])
filled ms start i bytes len m of so_far = omega (arith, size-append (slice_range ms start i) (m ∷ []), of, so_far)

pub start_filling : (ms : List MapRecordValue) (starts : List ℕ) → length starts ≡ 17 → slice_index starts 0 ≡ 0 → IsFilling ms starts 0 0 0 0
unfolding cut
start_filling ms starts wide zero_first = record {
  rest = refl;
  begun = zero_first;
  counted = refl;
  short = omega arith;
  behind = omega arith;
  parts = omega arith;
  wide = wide;
  before = λ part lt. absurd (omega (arith, lt));
  within = omega arith;
  alone = λ k d lt. absurd (omega (arith, lt));
}

-- a part is taken off the parts
module _ (parts : List (List MapRecordValue)) (last : ℕ) (part : List MapRecordValue) (rest : List (List MapRecordValue)) (is : drop last parts ≡ part ∷ rest) where
  taken_part : slice_index_or parts last [] ≡ part
  taken_part =
      let place : last + 0 ≡ last = omega arith in
      ap (λ (k : ℕ). get_or parts k []) (sym place) ∙ sym (get_or-drop last parts 0 []) ∙ ap (λ (t : List (List MapRecordValue)). get_or t 0 []) is

  taken_rest : drop (last + 1) parts ≡ rest
  taken_rest = sym (drop-drop 1 last parts) ∙ ap (drop 1) is

  taken_count : length parts ≡ last + 1 + length rest
  taken_count = omega (arith, length-drop last parts, ap length is)

-- a range between the same places
same_range : (ms part : List MapRecordValue) (a b c d : ℕ) → c ≡ a → d ≡ b → IsRange ms part a b → IsRange ms part c d
same_range ms part a b c d x y range = subst (λ (k : ℕ). IsRange ms part k d) (sym x) (subst (λ (k : ℕ). IsRange ms part a k) (sym y) range)

-- the present part ends, and the next one begins at a place
module _ (ms : List MapRecordValue) (starts : List ℕ) (last start end : ℕ) (wide : length starts ≡ 17) (parts : last < most_parts) (begun : slice_index starts last ≡ start)
    (before : (part : ℕ) → part < last → IsRange ms (part_at ms part) (slice_index starts part) (slice_index starts (part + 1))) (range : IsRange ms (part_at ms last) start end) where
  abbrev after : List ℕ
  after = slice_set starts (last + 1) end

  kept : (part : ℕ) → part < last + 1 → slice_index after part ≡ slice_index starts part
  kept part lt = get_or-set_other starts (last + 1) part end 0 (λ e. omega (arith, e, lt))

  ended : slice_index after (last + 1) ≡ end
  ended = get_or-set_same starts (last + 1) end 0 (omega (arith, wide, parts))

  found : (part : ℕ) → part < last + 1 → IsRange ms (part_at ms part) (slice_index after part) (slice_index after (part + 1))
  found part lt = by (ltb part last) refl
    where
      by : (b : Bool) → ltb part last ≡ b → IsRange ms (part_at ms part) (slice_index after part) (slice_index after (part + 1))
      by true e = (let earlier : part < last = ltb-true part last e in same_range ms (part_at ms part) _ _ _ _ (kept part lt) (kept (part + 1) (omega (arith, earlier))) (before part earlier))
      by false e =
          let is : part ≡ last = omega (arith, lt, ltb-false part last e) in
          same_range ms (part_at ms part) _ _ _ _ (kept part lt ∙ ap (slice_index starts) is ∙ begun) (ap (λ (k : ℕ). slice_index after (k + 1)) is ∙ ended) (subst (λ (k : ℕ). IsRange ms (part_at ms k) start end) (sym is) range)

-- the next record
module _ (ms : List MapRecordValue) (starts : List ℕ) (last start bytes i len : ℕ) (m : MapRecordValue) (f : IsFilling ms starts last start bytes i)
    (lt : i < length ms) (at : m ≡ get_or ms i m) (of : len ≡ length (written m)) (small : len ≤ 6148) where
  abbrev present : List MapRecordValue
  present = slice_range ms start i

  rest_of : drop i ms ≡ m ∷ drop (i + 1) ms
  rest_of = rest_is ms i m lt at

  count : length present ≡ i - start
  count = range_length ms start i (omega (arith, lt))

  count_more : length (present ++ m ∷ []) ≡ i - start + 1
  count_more = omega (arith, length-append present (m ∷ []), count)

  bytes_more : bytes + len ≡ size (present ++ m ∷ [])
  bytes_more = filled ms start i bytes len m of f.counted

  alone_more : All FitsAlone (take (i + 1) ms)
  alone_more =
      let own : size (m ∷ []) ≡ len = omega (arith, of) in
      All-more FitsAlone ms i m lt f.alone (subst FitsAlone at (fits (m ∷ []) (omega arith) (omega (arith, own, small))))

  fit_alike : fits_message (present ++ m ∷ []) ≡ (nat_le (i - start + 1) 255 && nat_le (bytes + len) 16384)
  fit_alike = rw (count_more, sym bytes_more) refl

  -- it goes into the present part
  pub fills_on : (nat_le (i - start + 1) 255 && nat_le (bytes + len) 16384) ≡ true → IsFilling ms starts last start (bytes + len) (i + 1)
  fills_on room =
      let longer = range_more ms start i m f.behind lt at in
      let fit : fits_message (present ++ m ∷ []) ≡ true = fit_alike ∙ room in
      let short = (fits_is (present ++ m ∷ []) fit).1 in
      record {
        rest = ap (λ (t : List MapRecordValue). cut_from t (drop (i + 1) ms)) longer ∙ sym (cut_goes_on present m (drop (i + 1) ms) fit) ∙ ap (cut_from present) (sym rest_of) ∙ f.rest;
        begun = f.begun;
        counted = bytes_more ∙ ap size (sym longer);
        short = omega (arith, bytes_more, short);
        behind = omega (arith, f.behind);
        parts = f.parts;
        wide = f.wide;
        within = omega (arith, lt);
        before = f.before;
        alone = alone_more;
      }

  -- it begins the next part
  module _ (none : (nat_le (i - start + 1) 255 && nat_le (bytes + len) 16384) ≡ false) where
    taken : drop last (cut ms) ≡ present ∷ cut_from (m ∷ []) (drop (i + 1) ms)
    taken = sym f.rest ∙ ap (cut_from present) rest_of ∙ cut_begins present m (drop (i + 1) ms) (fit_alike ∙ none)

    -- where that part is one too many
    pub one_too_many : last + 1 ≡ most_parts → most_parts < part_count ms
    one_too_many most = by (cut_full (m ∷ []) (drop (i + 1) ms)).1
      where
        by : BeginWith (m ∷ []) (cut_from (m ∷ []) (drop (i + 1) ms)) → most_parts < part_count ms
        by (more, others, is) = omega (arith, most, taken_count (cut ms) last present (cut_from (m ∷ []) (drop (i + 1) ms)) taken, ap length is)

    pub fills_next : last + 1 < most_parts → IsFilling ms (slice_set starts (last + 1) i) (last + 1) i len (i + 1)
    fills_next more =
        let single : slice_range ms i (i + 1) ≡ m ∷ [] = range_more ms i i m (omega arith) lt at ∙ ap (λ (t : List MapRecordValue). t ++ m ∷ []) (range_none ms i) in
        let range : IsRange ms (part_at ms last) start i = record { is = taken_part (cut ms) last present (cut_from (m ∷ []) (drop (i + 1) ms)) taken; rises = f.behind; within = omega (arith, lt) } in
        record {
          rest = ap (λ (t : List MapRecordValue). cut_from t (drop (i + 1) ms)) single ∙ sym (taken_rest (cut ms) last present (cut_from (m ∷ []) (drop (i + 1) ms)) taken);
          begun = ended ms starts last start i f.wide f.parts f.begun f.before range;
          counted = rw single (omega (arith, of));
          short = omega (arith, small);
          behind = omega arith;
          parts = more;
          wide = length-set starts (last + 1) i ∙ f.wide;
          within = omega (arith, lt);
          before = found ms starts last start i f.wide f.parts f.begun f.before range;
          alone = alone_more;
        }

-- no record is left
module _ (ms : List MapRecordValue) (starts : List ℕ) (last start bytes i : ℕ) (f : IsFilling ms starts last start bytes i) (le : length ms ≤ i) where
  all : i ≡ length ms
  all = omega (arith, le, f.within)

  taken_last : drop last (cut ms) ≡ slice_range ms start (length ms) ∷ []
  unfolding cut_from
  taken_last =
      let rest : drop i ms ≡ [] = drop_of_length-le ms le in
      sym f.rest ∙ rw (rest, all) refl

  pub part_count_is : part_count ms ≡ last + 1
  part_count_is = omega (arith, taken_count (cut ms) last (slice_range ms start (length ms)) [] taken_last)

  pub are_starts : AreStarts ms (slice_set starts (last + 1) (length ms)) (last + 1)
  are_starts =
      let range : IsRange ms (part_at ms last) start (length ms) = record { is = taken_part (cut ms) last (slice_range ms start (length ms)) [] taken_last; rises = omega (arith, f.behind, f.within); within = omega arith } in
      record {
        count = sym part_count_is;
        ranges = found ms starts last start (length ms) f.wide f.parts f.begun f.before range;
      }

  pub few_parts : part_count ms ≤ most_parts
  few_parts = omega (arith, part_count_is, f.parts)

  pub each_alone : EachFitsAlone ms
  each_alone = recursion_from_All FitsAlone ms (subst (All FitsAlone) (take_all i ms le) f.alone)

-- ---- what lies between two starts

pub range_fits : (ms records : List MapRecordValue) (starts : List ℕ) (parts part start end : ℕ) → EachFitsAlone ms → AreStarts ms starts parts → part < part_count ms → start ≡ slice_index starts part → end ≡ slice_index starts (part + 1) → records ≡ ms
    → fits_message (slice_range records start end) ≡ true
range_fits ms records starts parts part start end alone begun lt from to same =
    let range = begun.ranges part (omega (arith, lt, begun.count)) in
    rw (same, from, to, sym range.is) (part_fits ms part alone)
