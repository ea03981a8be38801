-- What a restart leaves of each pair's values.
use Rattle.std.proofs.Common.{◌≡◌, ℕ, zero, suc, ◌+◌, ◌-◌, ◌<◌, ◌≤◌, Bool, true, false, cond, List, [], ◌∷◌, ◌++◌, drop, take, map, min, length, get_or, set, slice_index_or, Option, None, refl, sym, ap, ◌∙◌, subst, arith}
use Rattle.std.specs.List.{All, Contains}
use Rattle.std.proofs.lemmas.List.{append_assoc, drop-drop, drop-set-lt, drop_all, drop_more, take_all, append-nil, get_or-drop, get_or_default, length-map}
use Rattle.std.proofs.lemmas.List.Elements.{All-more}
use Rattle.std.proofs.Math.Seq.{take-append_seam, take-suc-set}
use Rattle.lisp_nonces.specs.declared.pair.Pair.{Pair}
use Rattle.lisp_nonces.specs.Kept.{Narrows, kept_at, picked}
use Rattle.lisp_nonces.specs.Entries.{EntryValue, HasValues, is_of, narrowed, kept_of}
use Rattle.lisp_nonces.proofs.Entries.{answers_of, step, none, kept_of_entries}

only_one : {X : Type 0} (x v : X) → Contains (x ∷ []) v → x ≡ v
only_one x v (zero, lt, at) = at
only_one x v (suc k, lt, at) = absurd (omega arith)

-- the one that is picked was there
narrows_to : (vs : List (Option ℕ)) (pick : ℕ) → 0 < length vs → Narrows vs (picked vs pick ∷ [])
narrows_to vs pick some = record {
  some = (picked vs pick, (0, omega arith, refl));
  each = λ v has. subst (λ (w : Option ℕ). Contains vs w) (only_one (picked vs pick) v has) (min pick (length vs - 1), omega arith, get_or_default vs (min pick (length vs - 1)) (picked vs pick) None (omega arith));
}

nothing_stays : Narrows (None ∷ []) (None ∷ [])
nothing_stays = record { some = (None, (0, omega arith, refl)); each = λ v has. has }

narrows_case : (q : Pair) (pick : ℕ) (x : EntryValue) (xs : List EntryValue) (b : Bool) → HasValues x → Narrows (answers_of xs q) (answers_of (map (narrowed pick) xs) q)
    → Narrows (cond b x.values (answers_of xs q)) (cond b (picked x.values pick ∷ []) (answers_of (map (narrowed pick) xs) q))
narrows_case q pick x xs true some rest = narrows_to x.values pick some
narrows_case q pick x xs false some rest = rest

narrows_answers : (q : Pair) (pick : ℕ) (es : List EntryValue) → All HasValues es → Narrows (answers_of es q) (answers_of (map (narrowed pick) es) q)
narrows_answers q pick [] all = rw (none q) nothing_stays
narrows_answers q pick (x ∷ xs) all = rw (step q x xs, step q (narrowed pick x) (map (narrowed pick) xs)) (narrows_case q pick x xs (is_of q x) (all 0 x (omega arith)) (narrows_answers q pick xs (λ k d lt. all (suc k) d (omega arith))))

-- each pair's list narrows
pub narrows_kept : (q : Pair) (pick : ℕ) (es : List EntryValue) → All HasValues es → Narrows (kept_at (kept_of es) q) (kept_at (kept_of (map (narrowed pick) es)) q)
narrows_kept q pick es all = rw (kept_of_entries es q, kept_of_entries (map (narrowed pick) es) q) (narrows_answers q pick es all)

picks_nothing : (pick : ℕ) → None ∷ [] ≡ picked (None ∷ []) pick ∷ []
picks_nothing pick = let first : min pick 0 ≡ 0 = omega arith in ap (λ (k : ℕ). slice_index_or (None ∷ []) k None ∷ []) (sym first)

picks_case : (q : Pair) (pick : ℕ) (x : EntryValue) (xs : List EntryValue) (b : Bool) → answers_of (map (narrowed pick) xs) q ≡ picked (answers_of xs q) pick ∷ []
    → cond b (picked x.values pick ∷ []) (answers_of (map (narrowed pick) xs) q) ≡ picked (cond b x.values (answers_of xs q)) pick ∷ []
picks_case q pick x xs true rest = refl
picks_case q pick x xs false rest = rest

picks_answers : (q : Pair) (pick : ℕ) (es : List EntryValue) → answers_of (map (narrowed pick) es) q ≡ picked (answers_of es q) pick ∷ []
picks_answers q pick [] = rw (none q) (picks_nothing pick)
picks_answers q pick (x ∷ xs) = rw (step q x xs, step q (narrowed pick x) (map (narrowed pick) xs)) (picks_case q pick x xs (is_of q x) (picks_answers q pick xs))

-- each pair's list is the one that is picked
pub picks_kept : (q : Pair) (pick : ℕ) (es : List EntryValue) → kept_at (kept_of (map (narrowed pick) es)) q ≡ picked (kept_at (kept_of es) q) pick ∷ []
picks_kept q pick es = rw (kept_of_entries es q, kept_of_entries (map (narrowed pick) es) q) (picks_answers q pick es)

-- the entries that a loop over them leaves
pub rewritten : (pick n : ℕ) (es : List EntryValue) → n ≡ length es → take n (map (narrowed pick) es ++ drop (length (map (narrowed pick) es)) es) ≡ map (narrowed pick) es
rewritten pick n es whole =
    let same : n ≡ length (map (narrowed pick) es) = whole ∙ sym (length-map es (narrowed pick)) in
    ap (λ (k : ℕ). take k (map (narrowed pick) es ++ drop (length (map (narrowed pick) es)) es)) same ∙ take-append_seam (map (narrowed pick) es) (drop (length (map (narrowed pick) es)) es)

-- one turn of that loop: the entry that it has reached is as it was, and is narrowed
as_it_was : (i : ℕ) (now old : List EntryValue) (x : EntryValue) → drop i now ≡ drop i old → get_or now i x ≡ get_or old i x
as_it_was i now old x others =
    let at : (es : List EntryValue) → get_or (drop i es) 0 x ≡ get_or es i x = λ es. get_or-drop i es 0 x ∙ ap (λ (k : ℕ). get_or es k x) (omega arith) in
    sym (at now) ∙ ap (λ (es : List EntryValue). get_or es 0 x) others ∙ at old

pub one_more : (i : ℕ) (now old : List EntryValue) (x : EntryValue) → i < length old → drop i now ≡ drop i old
    → All HasValues (take i old) → HasValues (get_or now i x) → All HasValues (take (i + 1) old)
one_more i now old x lt others some has = All-more HasValues old i x lt some (subst HasValues (as_it_was i now old x others) has)

pub others_stay : (i : ℕ) (now old : List EntryValue) (y : EntryValue) → drop i now ≡ drop i old → drop (i + 1) (set now i y) ≡ drop (i + 1) old
others_stay i now old y others = drop-set-lt (i + 1) now i y (omega arith) ∙ sym (drop-drop 1 i now) ∙ ap (λ (es : List EntryValue). drop 1 es) others ∙ drop-drop 1 i old

pub narrowed_more : (pick i : ℕ) (now : List EntryValue) (x y : EntryValue) → i < length now → y ≡ narrowed pick (get_or now i x)
    → take (i + 1) (set now i y) ++ map (narrowed pick) (drop (i + 1) (set now i y)) ≡ take i now ++ map (narrowed pick) (drop i now)
narrowed_more pick i now x y lt same =
    let next : i + 1 ≡ suc i = omega arith in
    let done : take (i + 1) (set now i y) ≡ take i now ++ narrowed pick (get_or now i x) ∷ [] = rw (next, same) (take-suc-set now i _ lt) in
    rw (done, drop-set-lt (i + 1) now i y (omega arith), drop_more now i x lt) (append_assoc (take i now) _ _)

-- at the end of that loop all are narrowed
pub all_narrowed : (pick i : ℕ) (now old : List EntryValue) → length now ≤ i → take i now ++ map (narrowed pick) (drop i now) ≡ map (narrowed pick) old → now ≡ map (narrowed pick) old
all_narrowed pick i now old done all =
    let whole = ap (λ (es : List EntryValue). es ++ map (narrowed pick) (drop i now)) (take_all i now done) in
    let none = ap (λ (es : List EntryValue). now ++ map (narrowed pick) es) (drop_all i now done) in
    sym (append-nil now) ∙ sym none ∙ sym whole ∙ all
