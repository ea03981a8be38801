-- Reading records one after the other, as a loop does.
use Rattle.std.proofs.Common.{◌≡◌, ℕ, ◌+◌, ◌<◌, ◌≤◌, true, codes, List, [], ◌∷◌, ◌++◌, length, get_or, drop, Some, None, Result, Ok, Err, Bor, refl, sym, ap, ◌∙◌, arith, add-one, append_assoc, drop-cons}
use Rattle.std.proofs.lemmas.List.{append-nil, drop_all}
use Rattle.lisp_records.specs.Parts.{cut, cut_from}
use Rattle.lisp_records.specs.Database.{repeats}
use Rattle.lisp_records.specs.Record.{MapRecordValue}
use Rattle.lisp_records.specs.Result.{◌>>=◌}
use Rattle.lisp_texts.specs.Reading.{record_text_of}
use Rattle.lisp_script.specs.declared.fault.ScriptWhat.{ScriptWhat}
use Rattle.lisp_script.specs.declared.fault.ScriptWhat.TheVariants.{Record}
use Rattle.lisp_script.specs.Words.{texts, is_word, records_in, some_records, database_in}

-- what was read before, and what is still read
abbrev pub with_front : {X E : Type 0} → List X → Result (List X) E → Result (List X) E
with_front front read = read >>= λ others. Ok (front ++ others)

-- an element that was read moves from what is read to the front
regrouped : {X E : Type 0} (front : List X) (x : X) (read : Result (List X) E) → with_front front (read >>= λ others. Ok (x ∷ others)) ≡ with_front (front ++ x ∷ []) read
regrouped front x (Ok others) = ap Ok (sym (append_assoc front (x ∷ []) others))
regrouped front x (Err what) = refl

-- the words from one on: that one, and those behind it
texts_step : (words : List (Bor (List ℕ))) (i : ℕ) (d : Bor (List ℕ)) → i < length words → texts (drop i words) ≡ (get_or words i d).now ∷ texts (drop (i + 1) words)
texts_step words i d lt =
    let step : drop i words ≡ get_or words i d ∷ drop (i + 1) words = rw add-one (drop-cons words i d lt) in
    ap texts step

-- one word is no record
pub no_record : (front : List MapRecordValue) (words : List (Bor (List ℕ))) (i : ℕ) (d : Bor (List ℕ)) (total : Result (List MapRecordValue) ScriptWhat) → i < length words → None ≡ record_text_of (get_or words i d).now
    → with_front front (records_in (texts (drop i words))) ≡ total → total ≡ Err Record
unfolding records_in
no_record front words i d total lt none so_far =
    let one : with_front front (records_in (texts (drop i words))) ≡ Err Record = rw (texts_step words i d lt, ← none) refl in
    sym so_far ∙ one

-- one more record is read
pub goes_on : (front : List MapRecordValue) (words : List (Bor (List ℕ))) (i : ℕ) (d : Bor (List ℕ)) (m : MapRecordValue) (total : Result (List MapRecordValue) ScriptWhat) → i < length words → Some m ≡ record_text_of (get_or words i d).now
    → with_front front (records_in (texts (drop i words))) ≡ total → with_front (front ++ m ∷ []) (records_in (texts (drop (i + 1) words))) ≡ total
unfolding records_in
goes_on front words i d m total lt read so_far =
    let one : with_front front (records_in (texts (drop i words))) ≡ with_front (front ++ m ∷ []) (records_in (texts (drop (i + 1) words))) =
    rw (texts_step words i d lt, ← read) (regrouped front m (records_in (texts (drop (i + 1) words)))) in
    sym one ∙ so_far

-- all records are read
pub is_done : (front : List MapRecordValue) (words : List (Bor (List ℕ))) (i : ℕ) (total : Result (List MapRecordValue) ScriptWhat) → length words ≤ i
    → with_front front (records_in (texts (drop i words))) ≡ total → total ≡ Ok front
unfolding records_in
is_done front words i total le so_far =
    let none : drop i words ≡ [] = drop_all i words le in
    let one : with_front front (records_in (texts (drop i words))) ≡ Ok front = rw none (ap Ok (append-nil front)) in
    sym so_far ∙ one

-- the one word 'empty' gives no records
pub only_empty : (words : List (Bor (List ℕ))) (d : Bor (List ℕ)) → 1 ≤ length words → length words < 2 → true ≡ is_word (get_or words 0 d).now (codes "empty") → database_in (texts words) ≡ some_records []
unfolding records_in repeats cut cut_from
only_empty [] d some few is = absurd (omega arith)
only_empty (word ∷ []) d some few is = rw (← is) refl
only_empty (word ∷ other ∷ words) d some few is = absurd (omega arith)
