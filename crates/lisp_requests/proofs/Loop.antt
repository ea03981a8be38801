-- Reading items one after the other, as a loop does.
use Rattle.std.proofs.Common.{◌≡◌, ℕ, suc, ◌-◌, ◌+◌, ◌≤◌, ◌<◌, List, [], ◌∷◌, ◌++◌, length, Result, Ok, Err, refl, sym, ap, ◌∙◌, append_assoc, arith}
use Rattle.std.proofs.lemmas.List.{append-nil, length-append}
use Rattle.lisp_records.specs.Result.{◌>>=◌}
use Rattle.lisp_requests.specs.declared.fault.RequestFault.{RequestFault}
use Rattle.lisp_requests.specs.Reading.{items_at}

-- what was read before, and what is still read
abbrev pub with_front : {X : Type 0} → List X → Result (List X × List ℕ) RequestFault → Result (List X × List ℕ) RequestFault
with_front front read = read >>= λ x. Ok (front ++ x.0, x.1)

-- before the first item
pub none_passed : {X : Type 0} (read : Result (List X × List ℕ) RequestFault) → with_front [] read ≡ read
none_passed (Ok x) = refl
none_passed (Err f) = refl

regrouped : {X : Type 0} (front : List X) (item : X) (read : Result (List X × List ℕ) RequestFault) → with_front front (read >>= λ x. Ok (item ∷ x.0, x.1)) ≡ with_front (front ++ item ∷ []) read
regrouped front item (Ok x) = ap (λ (items : List _). Ok (items, x.1)) (simp append_assoc)
regrouped front item (Err f) = refl

-- one more item is read
pub goes_on : {X : Type 0} (read : List ℕ → Result (X × List ℕ) RequestFault) (front : List X) (count i : ℕ) (bytes : List ℕ) (item : X) (after : List ℕ) (total : Result (List X × List ℕ) RequestFault) → i < count → read bytes ≡ Ok (item, after)
    → with_front front (items_at read (count - i) bytes) ≡ total → with_front (front ++ item ∷ []) (items_at read (count - (i + 1)) after) ≡ total
unfolding items_at
goes_on read front count i bytes item after total lt h so_far =
    let k : count - i ≡ suc (count - (i + 1)) = omega arith in
    let one : with_front front (items_at read (count - i) bytes) ≡ with_front (front ++ item ∷ []) (items_at read (count - (i + 1)) after) = rw (k, h) (regrouped front item (items_at read (count - (i + 1)) after)) in
    sym one ∙ so_far

-- the next item is not read
pub ends : {X : Type 0} (read : List ℕ → Result (X × List ℕ) RequestFault) (e : RequestFault) (front : List X) (count i : ℕ) (bytes : List ℕ) (total : Result (List X × List ℕ) RequestFault) → i < count → read bytes ≡ Err e
    → with_front front (items_at read (count - i) bytes) ≡ total → total ≡ Err e
unfolding items_at
ends read e front count i bytes total lt h so_far =
    let k : count - i ≡ suc (count - (i + 1)) = omega arith in
    let one : with_front front (items_at read (count - i) bytes) ≡ Err e = rw (k, h) refl in
    sym so_far ∙ one

-- all items are read
pub is_done : {X : Type 0} (read : List ℕ → Result (X × List ℕ) RequestFault) (front : List X) (count i : ℕ) (bytes : List ℕ) (total : Result (List X × List ℕ) RequestFault) → count ≤ i → with_front front (items_at read (count - i) bytes) ≡ total → total ≡ Ok (front, bytes)
unfolding items_at
is_done read front count i bytes total le so_far =
    let k : count - i ≡ 0 = omega arith in
    let one : with_front front (items_at read (count - i) bytes) ≡ Ok (front, bytes) = rw k (ap (λ (items : List _). Ok (items, bytes)) (append-nil front)) in
    sym so_far ∙ one

-- one more item was counted
pub counted : {X : Type 0} (front after : List X) (item : X) (i : ℕ) → after ≡ front ++ item ∷ [] → length front ≡ i → length after ≡ i + 1
counted front after item i is count = ap length is ∙ length-append front (item ∷ []) ∙ ap (λ (n : ℕ). n + 1) count
