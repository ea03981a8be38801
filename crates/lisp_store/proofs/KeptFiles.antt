-- What files keep for a pair is what the contents of its file say.
use Rattle.std.proofs.Common.{◌≡◌, ◌&&◌, ◌≢◌, ◌⊎◌, inl, inr, ℕ, ◌^◌, ◌<◌, nat_eq, nat_lt, Bool, true, false, cond, List, [], ◌∷◌, ◌++◌, length, map, take, Contains, Option, Some, None, option_map, unwrap_or, Result, Ok, Err, IfOk, refl, sym, ap, subst, ◌∙◌, arith}
use Rattle.std.specs.Cmp.{Equal-is, eq_by_cmp_equiv}
use Rattle.std.specs.Cmp.Lexicographic.{slice_cmp, pointwise, bytes_decides, nat_list_cmp_total}
use Rattle.std.specs.FinMap.{entries, find, get, get-entries, get-from_entries}
use Rattle.std.specs.Ordering.{nat_cmp, eq_by_cmp}
use Rattle.std.specs.Str.Parse.{digits_value}
use Rattle.std.proofs.lemmas.Bool.{and_from, and_parts, ltb-true, cond-false, both_ways, false_from_ne_true, lt-ltb}
use Rattle.std.proofs.lemmas.List.{length-map, length-take, map-append, get_or-map, take_all}
use Rattle.std.proofs.lemmas.Map.Lookups.{exact_bytes}
use Rattle.std.proofs.lemmas.Option.{cond_some, same_Some, none-some}
use Rattle.lisp_nonces.specs.declared.pair.Pair.{Pair}
use Rattle.lisp_nonces.specs.Kept.{kept_at, InDoubt, SameElsewhere, KeepsSome}
use Rattle.lisp_nonces.specs.Pair.{pair_cmp}
use Rattle.lisp_nonces.proofs.Pairs.{pair_total, same_pair}
use Rattle.lisp_store.specs.Folder.{Files, contents_at, IsFront}
use Rattle.lisp_store.specs.KeptFiles.{number_in, nonce_in, content_of, IsNonce, with_entry, kept_entries, kept_by, TextsSayNonces, FilesKeepNonces}
use Rattle.lisp_store.specs.NonceText.{nonce_text, FindsNonce}
use Rattle.lisp_store.specs.PairName.{is_pair, IsPair, pair_name, pair_of_name}
use Rattle.lisp_store.proofs.Digits.{digits_of_text, length-nonce_text, twenty_digits}
use Rattle.lisp_store.proofs.PairNames.{found_by_name, name_of_found, one_pair}

-- ---- which entry is that of a pair

-- the files of a folder: names, and what they may hold
abbrev pub Listed : Type 0
Listed = List (List ℕ × List (Option (List ℕ)))

abbrev same_pairs : Pair → Pair → Bool
same_pairs = eq_by_cmp pair_cmp

abbrev same_names : List ℕ → List ℕ → Bool
same_names = eq_by_cmp (slice_cmp nat_cmp)

same_pair_is : (p q : Pair) → same_pairs p q ≡ true → p ≡ q
same_pair_is p q tie = same_pair p q ((Equal-is (pair_cmp p q)).0 tie)

same_name_is : (a b : List ℕ) → same_names a b ≡ true → a ≡ b
same_name_is a b tie = exact_bytes a b ((Equal-is (slice_cmp nat_cmp a b)).0 tie)

-- the nonces of the contents that are found, if any are
abbrev nonces_of : Option (List (Option (List ℕ))) → Option (List (Option ℕ))
nonces_of = option_map (map nonce_in)

abbrev named : Pair → Listed → Option (List (Option ℕ))
named p files = nonces_of (find (slice_cmp nat_cmp) (pair_name p) files)

-- one file more
module _ (p : Pair) (is : IsPair p) (name : List ℕ) (contents : List (Option (List ℕ))) (files : Listed) (rest : find pair_cmp p (kept_entries files) ≡ named p files) where
  other_file : same_names (pair_name p) name ≡ false → find pair_cmp p (kept_entries files) ≡ named p ((name, contents) ∷ files)
  other_file not = rest ∙ ap (λ (b : Bool). nonces_of (cond b (Some contents) (find (slice_cmp nat_cmp) (pair_name p) files))) (sym not)

  its_file : same_names (pair_name p) name ≡ true → Some (map nonce_in contents) ≡ named p ((name, contents) ∷ files)
  its_file same = ap (λ (b : Bool). nonces_of (cond b (Some contents) (find (slice_cmp nat_cmp) (pair_name p) files))) (sym same)

  by_pair : (q : Pair) → pair_of_name name ≡ Some q → (b : Bool) → same_pairs p q ≡ b → cond b (Some (map nonce_in contents)) (find pair_cmp p (kept_entries files)) ≡ named p ((name, contents) ∷ files)
  by_pair q at true tie = its_file (ap (same_names (pair_name p)) (sym (name_of_found name q at).1 ∙ ap pair_name (sym (same_pair_is p q tie))) ∙ (eq_by_cmp_equiv nat_list_cmp_total).refl (pair_name p))
  by_pair q at false apart =
      other_file (false_from_ne_true (same_names (pair_name p) name) (λ tie.
      let same = same_Some p q (sym (found_by_name p is) ∙ ap pair_of_name (same_name_is (pair_name p) name tie) ∙ at) in
      both_ways (same_pairs p q) apart (ap (same_pairs p) (sym same) ∙ (eq_by_cmp_equiv pair_total).refl p)))

  by_name : (found : Option Pair) → pair_of_name name ≡ found → find pair_cmp p (with_entry found contents (kept_entries files)) ≡ named p ((name, contents) ∷ files)
  by_name None at = other_file (false_from_ne_true (same_names (pair_name p) name) (λ tie. none-some p (sym at ∙ ap pair_of_name (sym (same_name_is (pair_name p) name tie)) ∙ found_by_name p is)))
  by_name (Some q) at = by_pair q at (same_pairs p q) refl

-- the entry of a pair is that of the file of its name
find_kept : (p : Pair) → IsPair p → (files : Listed) → find pair_cmp p (kept_entries files) ≡ named p files
find_kept p is [] = refl
find_kept p is (file ∷ files) = by_name p is file.0 file.1 files (find_kept p is files) (pair_of_name file.0) refl

-- what is no pair has no entry
module _ (p : Pair) (not : ¬ (IsPair p)) where
  past : (name : List ℕ) (values : List (Option ℕ)) (q : Pair) → pair_of_name name ≡ Some q → (o : Option (List (Option ℕ))) → cond (same_pairs p q) (Some values) o ≡ o
  past name values q at o = cond-false (same_pairs p q) (Some values) o (false_from_ne_true (same_pairs p q) (λ tie. not (subst IsPair (sym (same_pair_is p q tie)) (name_of_found name q at).0)))

  past_name : (name : List ℕ) (contents : List (Option (List ℕ))) (files : Listed) (found : Option Pair) → pair_of_name name ≡ found → find pair_cmp p (with_entry found contents (kept_entries files)) ≡ find pair_cmp p (kept_entries files)
  past_name name contents files None at = refl
  past_name name contents files (Some q) at = past name (map nonce_in contents) q at (find pair_cmp p (kept_entries files))

  find_none : (files : Listed) → find pair_cmp p (kept_entries files) ≡ None
  find_none [] = refl
  find_none (file ∷ files) = past_name file.0 file.1 files (pair_of_name file.0) refl ∙ find_none files

-- 'nothing' alone, where there is no entry
or_nothing : (o : Option (List (Option (List ℕ)))) → unwrap_or (nonces_of o) (None ∷ []) ≡ map nonce_in (unwrap_or o (None ∷ []))
unfolding nonce_in
or_nothing None = refl
or_nothing (Some contents) = refl

get_kept : (files : Files) (p : Pair) → get (kept_by files) p ≡ find pair_cmp p (kept_entries (entries files))
unfolding kept_by
get_kept files p = get-from_entries pair_total (kept_entries (entries files)) p

pub kept_of_pair : (files : Files) (p : Pair) → IsPair p → kept_at (kept_by files) p ≡ map nonce_in (contents_at files (pair_name p))
unfolding kept_at contents_at
kept_of_pair files p is =
    ap (λ o. unwrap_or o (None ∷ [])) (get_kept files p ∙ find_kept p is (entries files))
    ∙ or_nothing (find (slice_cmp nat_cmp) (pair_name p) (entries files))
    ∙ ap (λ o. map nonce_in (unwrap_or o (None ∷ []))) (sym (get-entries files (pair_name p)))

pub kept_of_other : (files : Files) (p : Pair) → ¬ (IsPair p) → kept_at (kept_by files) p ≡ None ∷ []
unfolding kept_at
kept_of_other files p not = ap (λ o. unwrap_or o (None ∷ [])) (get_kept files p ∙ find_none p not (entries files))

pub files_keep : FilesKeepNonces
files_keep files p = (kept_of_pair files p, kept_of_other files p)

-- ---- what a content says

-- the content of a value says it
pub nonce_of_content : (value : Option ℕ) → IsNonce value → nonce_in (content_of value) ≡ value
unfolding nonce_in
nonce_of_content None is = refl
nonce_of_content (Some nonce) lt =
    let read : number_in (nonce_text nonce) ≡ nonce = ap (digits_value 10) (digits_of_text nonce) ∙ (twenty_digits nonce lt).2 in
    let small : nat_lt (number_in (nonce_text nonce)) (2 ^ 64) ≡ true = ap (λ (n : ℕ). nat_lt n (2 ^ 64)) read ∙ lt-ltb nonce (2 ^ 64) lt in
    let same : pointwise nat_eq (nonce_text (number_in (nonce_text nonce))) (nonce_text nonce) ≡ true = (bytes_decides _ _).1 (ap nonce_text read) in
    ap (λ (b : Bool). cond b (Some (number_in (nonce_text nonce))) None) (and_from _ _ small same) ∙ ap Some read

-- and no other content does
text_of_nonce : (content : Option (List ℕ)) (nonce : ℕ) → nonce_in content ≡ Some nonce → content ≡ Some (nonce_text nonce)
unfolding nonce_in
text_of_nonce None nonce is = absurd (none-some nonce is)
text_of_nonce (Some text) nonce is =
    let small = nat_lt (number_in text) (2 ^ 64) in
    let same = pointwise nat_eq (nonce_text (number_in text)) text in
    let read = cond_some (small && same) (number_in text) nonce is in
    ap Some (sym ((bytes_decides _ _).0 (and_parts small same read.0).1) ∙ ap nonce_text read.1)

pub texts_say : TextsSayNonces
texts_say content nonce lt = (text_of_nonce content nonce, λ is. ap nonce_in is ∙ nonce_of_content (Some nonce) lt)

-- a member's image is a member of the image
Contains-map : {X Y : Type 0} (f : X → Y) (xs : List X) (x : X) → Contains xs x → Contains (map f xs) (f x)
Contains-map f xs x at = (at.0, rw (length-map xs f) at.1, get_or-map f xs at.0 x (f x) at.1 ∙ ap f at.2)

-- a value whose content the file may have is one that the pair may keep
keeps_value : (files : Files) (p : Pair) → IsPair p → (value : Option ℕ) → IsNonce value → Contains (contents_at files (pair_name p)) (content_of value) → Contains (kept_at (kept_by files) p) value
keeps_value files p is value nonce at =
    subst (λ (v : Option ℕ). Contains (kept_at (kept_by files) p) v) (nonce_of_content value nonce)
    (subst (λ (vs : List (Option ℕ)). Contains vs (nonce_in (content_of value))) (sym (kept_of_pair files p is)) (Contains-map nonce_in (contents_at files (pair_name p)) (content_of value) at))

-- so is what a read answers
pub reads_kept : {E : Type 0} (files : Files) (p : Pair) → IsPair p → (answer : Result (Option ℕ) E) → IfOk answer IsNonce
    → IfOk answer (λ value. Contains (contents_at files (pair_name p)) (content_of value)) → IfOk answer (λ value. Contains (kept_at (kept_by files) p) value)
reads_kept files p is (Ok value) nonce at = keeps_value files p is value nonce at
reads_kept files p is (Err fault) nonce at = tt

-- a file whose front, longer than a text, is a text is that text
whole_text : (buffer text : List ℕ) (count nonce : ℕ) → take count buffer ≡ take 28 text → take count buffer ≡ nonce_text nonce → text ≡ nonce_text nonce
whole_text buffer text count nonce front read =
    let long : length (take 28 text) ≡ 27 = ap length (sym front ∙ read) ∙ length-nonce_text nonce in
    sym (take_all 28 text (omega (arith, long, length-take 28 text))) ∙ sym front ∙ read

-- a content whose front, read into room for more than a text, is a text is that text
pub front_says : (contents : List (Option (List ℕ))) (room count nonce : ℕ) (buffer : List ℕ) (found : Option ℕ) (content : Option (List ℕ)) → room ≡ 28 → found ≡ Some count
    → Contains contents content → IsFront room found buffer content → take count buffer ≡ nonce_text nonce → Contains contents (content_of (Some nonce))
front_says contents room count nonce buffer found content wide is at front read =
    let fits = subst (λ (o : Option ℕ). IsFront room o buffer content) is front in
    let all : take count buffer ≡ take 28 fits.0 = fits.3 ∙ ap (λ (n : ℕ). take n fits.0) wide in
    subst (Contains contents) (fits.1 ∙ ap Some (whole_text buffer fits.0 count nonce all read)) at

-- a text of no nonce
says_none : (text : List ℕ) → ((nonce : ℕ) → nonce < 2 ^ 64 → text ≢ nonce_text nonce) → nonce_in (Some text) ≡ None
unfolding nonce_in
says_none text none =
    let small = nat_lt (number_in text) (2 ^ 64) in
    let same = pointwise nat_eq (nonce_text (number_in text)) text in
    cond-false (small && same) (Some (number_in text)) None (false_from_ne_true (small && same) (λ both.
    let parts = and_parts small same both in
    none (number_in text) (ltb-true (number_in text) (2 ^ 64) parts.0) (sym ((bytes_decides _ _).0 parts.1))))

-- a content whose front is the text of no nonce is that of none
pub front_damaged : (contents : List (Option (List ℕ))) (room count : ℕ) (buffer : List ℕ) (found : Option ℕ) (content : Option (List ℕ)) → room ≡ 28 → found ≡ Some count
    → Contains contents content → IsFront room found buffer content → FindsNonce (take count buffer) None
    → (text : List ℕ) × Contains contents (Some text) × (nonce_in (Some text) ≡ None)
front_damaged contents room count buffer found content wide is at front none =
    let fits = subst (λ (o : Option ℕ). IsFront room o buffer content) is front in
    let all : take count buffer ≡ take 28 fits.0 = fits.3 ∙ ap (λ (n : ℕ). take n fits.0) wide in (
      fits.0,
      subst (Contains contents) fits.1 at,
      says_none fits.0 (λ nonce lt same.
          let long = ap length same ∙ length-nonce_text nonce in
          none-some nonce (none nonce lt (all ∙ take_all 28 fits.0 (omega (arith, long)) ∙ same))),
    )

-- ---- what a file that is replaced keeps

-- it keeps the nonce alone
pub keeps_alone : (files : Files) (p : Pair) → IsPair p → (nonce : ℕ) → nonce < 2 ^ 64 → contents_at files (pair_name p) ≡ Some (nonce_text nonce) ∷ [] → kept_at (kept_by files) p ≡ Some nonce ∷ []
keeps_alone files p is nonce lt alone = kept_of_pair files p is ∙ ap (map nonce_in) alone ∙ ap (λ (v : Option ℕ). v ∷ []) (nonce_of_content (Some nonce) lt)

-- its pair is in doubt where the file is
pub keeps_in_doubt : (old new : Files) (p : Pair) → IsPair p → (nonce : ℕ) → nonce < 2 ^ 64
    → (contents_at new (pair_name p) ≡ contents_at old (pair_name p)) ⊎ (contents_at new (pair_name p) ≡ contents_at old (pair_name p) ++ Some (nonce_text nonce) ∷ [])
    → InDoubt (kept_at (kept_by old) p) (kept_at (kept_by new) p) nonce
keeps_in_doubt old new p is nonce lt (inl same) = inl (kept_of_pair new p is ∙ ap (map nonce_in) same ∙ sym (kept_of_pair old p is))
keeps_in_doubt old new p is nonce lt (inr more) =
    inr (kept_of_pair new p is ∙ ap (map nonce_in) more
    ∙ map-append nonce_in (contents_at old (pair_name p)) (Some (nonce_text nonce) ∷ [])
    ∙ (λ i. sym (kept_of_pair old p is) i ++ nonce_of_content (Some nonce) lt i ∷ []))

-- every other pair keeps what it kept where every other file does
pub keeps_others : (old new : Files) (p : Pair) → IsPair p → ((name : List ℕ) → name ≢ pair_name p → contents_at new name ≡ contents_at old name) → SameElsewhere (kept_by old) (kept_by new) p
keeps_others old new p is others q apart = here (is_pair q) refl
  where
    here : (b : Bool) → is_pair q ≡ b → kept_at (kept_by new) q ≡ kept_at (kept_by old) q
    here true pair = kept_of_pair new q pair ∙ ap (map nonce_in) (others (pair_name q) (λ same. apart (one_pair q p pair is same))) ∙ sym (kept_of_pair old q pair)
    here false not = kept_of_other new q (both_ways (is_pair q) not) ∙ sym (kept_of_other old q (both_ways (is_pair q) not))

-- each pair keeps some value where each file has a content
pub keeps_some : (files : Files) → ((name : List ℕ) → (c : Option (List ℕ)) × Contains (contents_at files name) c) → KeepsSome (kept_by files)
keeps_some files some q = here (is_pair q) refl
  where
    here : (b : Bool) → is_pair q ≡ b → (v : Option ℕ) × Contains (kept_at (kept_by files) q) v
    here true pair =
        let content = some (pair_name q) in
        (nonce_in content.0, subst (λ (vs : List (Option ℕ)). Contains vs (nonce_in content.0)) (sym (kept_of_pair files q pair)) (Contains-map nonce_in (contents_at files (pair_name q)) content.0 content.1))
    here false not = (None, subst (λ (vs : List (Option ℕ)). Contains vs None) (sym (kept_of_other files q (both_ways (is_pair q) not))) (0, omega arith, refl))
