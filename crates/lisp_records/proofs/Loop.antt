-- Reading locators one after the other, as a loop does.
use Rattle.std.proofs.Common.{◌≡◌, ℕ, suc, ◌-◌, ◌+◌, ◌≤◌, ◌<◌, List, [], ◌∷◌, ◌++◌, Result, Ok, Err, refl, sym, ap, ◌∙◌, append_assoc, arith}
use Rattle.std.proofs.lemmas.List.{append-nil}
use Rattle.lisp_records.specs.declared.locator.Locator.{Locator}
use Rattle.lisp_records.specs.declared.fault.RecordFault.{RecordFault}
use Rattle.lisp_records.specs.declared.fault.RecordFault.TheVariants.{Short, Afi, Mask, OutOfMemory}
use Rattle.lisp_records.specs.Result.{◌>>=◌}
use Rattle.lisp_records.specs.Reading.{Fails, locator_at, locators_at}

-- a fault of a part is the fault of the whole, where each is passed on
pub Fails-passed : {X Y : Type 0} (e : RecordFault) (part : Result X RecordFault) (whole : Result Y RecordFault) → ((f : RecordFault) → part ≡ Err f → whole ≡ Err f) → Fails e part → Fails e whole
Fails-passed Short part whole pass fails = pass Short fails
Fails-passed Afi part whole pass fails = pass Afi fails
Fails-passed Mask part whole pass fails = pass Mask fails
Fails-passed OutOfMemory part whole pass fails = tt

-- what was read before, and what is still read
abbrev pub with_front : List Locator → Result (List Locator × List ℕ) RecordFault → Result (List Locator × List ℕ) RecordFault
with_front front read = read >>= λ x. Ok (front ++ x.0, x.1)

-- before the first locator
pub none_passed : (read : Result (List Locator × List ℕ) RecordFault) → with_front [] read ≡ read
none_passed (Ok x) = refl
none_passed (Err f) = refl

regrouped : (front : List Locator) (l : Locator) (read : Result (List Locator × List ℕ) RecordFault) → with_front front (read >>= λ x. Ok (l ∷ x.0, x.1)) ≡ with_front (front ++ l ∷ []) read
regrouped front l (Ok x) = ap (λ (ls : List Locator). Ok (ls, x.1)) (simp append_assoc)
regrouped front l (Err f) = refl

-- one more locator is read
pub goes_on : (front : List Locator) (count i : ℕ) (bytes : List ℕ) (l : Locator) (after : List ℕ) (total : Result (List Locator × List ℕ) RecordFault) → i < count → locator_at bytes ≡ Ok (l, after)
    → with_front front (locators_at (count - i) bytes) ≡ total → with_front (front ++ l ∷ []) (locators_at (count - (i + 1)) after) ≡ total
unfolding locators_at
goes_on front count i bytes l after total lt h so_far =
    let k : count - i ≡ suc (count - (i + 1)) = omega arith in
    let one : with_front front (locators_at (count - i) bytes) ≡ with_front (front ++ l ∷ []) (locators_at (count - (i + 1)) after) = rw (k, h) (regrouped front l (locators_at (count - (i + 1)) after)) in
    sym one ∙ so_far

-- a fault is the one that reading meets
pub Fails-met : {Y : Type 0} (e : RecordFault) (read : Result Y RecordFault) → read ≡ Err e → Fails e read
Fails-met Short read at = at
Fails-met Afi read at = at
Fails-met Mask read at = at
Fails-met OutOfMemory read at = tt

-- the next locator is not read
pub ends_plainly : (e : RecordFault) (front : List Locator) (count i : ℕ) (bytes : List ℕ) (total : Result (List Locator × List ℕ) RecordFault) → i < count → locator_at bytes ≡ Err e
    → with_front front (locators_at (count - i) bytes) ≡ total → total ≡ Err e
unfolding locators_at
ends_plainly e front count i bytes total lt h so_far =
    let k : count - i ≡ suc (count - (i + 1)) = omega arith in
    let one : with_front front (locators_at (count - i) bytes) ≡ Err e = rw (k, h) refl in
    sym so_far ∙ one

pub ends : (e : RecordFault) (front : List Locator) (count i : ℕ) (bytes : List ℕ) (total : Result (List Locator × List ℕ) RecordFault) → i < count → locator_at bytes ≡ Err e
    → with_front front (locators_at (count - i) bytes) ≡ total → Fails e total
ends e front count i bytes total lt h so_far = Fails-met e total (ends_plainly e front count i bytes total lt h so_far)

-- all locators are read
pub is_done : (front : List Locator) (count i : ℕ) (bytes : List ℕ) (total : Result (List Locator × List ℕ) RecordFault) → count ≤ i → with_front front (locators_at (count - i) bytes) ≡ total → total ≡ Ok (front, bytes)
unfolding locators_at
is_done front count i bytes total le so_far =
    let k : count - i ≡ 0 = omega arith in
    let one : with_front front (locators_at (count - i) bytes) ≡ Ok (front, bytes) = rw k (ap (λ (ls : List Locator). Ok (ls, bytes)) (append-nil front)) in
    sym so_far ∙ one
