-- What is answered where a `?` passes a fault on, and where nothing failed.
use Rattle.std.proofs.Common.{arith, ◌≡◌, ℕ, zero, suc, ◌*◌, Bool, true, false, cond, eqb, ltb, List, [], ◌∷◌, length, get_or, drop, Result, Ok, Err, sym, ap, subst, ◌∙◌}
use Rattle.std.specs.Prelude.{IsErrAnd}
use Rattle.lisp_records.specs.declared.address.Family.{Family}
use Rattle.lisp_records.specs.declared.address.Family.TheVariants.{Ipv4, Ipv6}
use Rattle.lisp_records.specs.declared.fault.RecordFault.{RecordFault}
use Rattle.lisp_records.specs.declared.fault.RecordFault.TheVariants.{Short, Afi, Mask, OutOfMemory}
use Rattle.lisp_records.specs.Address.{width}
use Rattle.lisp_records.specs.Result.{◌>>=◌, Reads}
use Rattle.lisp_records.specs.Reading.{Fails, Gives, after, number_at, family_of, address_of, address_at, locator_of, locator_at, locators_at, mask_of, map_record_of, start_at, record_at}
use Rattle.lisp_records.proofs.Fields.{done}

module _ {X E : Type 0} where
  -- the answer of a `?`
  abbrev pub Passes : Result X E → E → Type 0
  Passes r e = IsErrAnd r (λ f. f ≡ e)

  -- faults that are equal as answers are equal
  pub fault_is : (e f : E) → ◌≡◌ {A = Result X E} (Err e) (Err f) → e ≡ f
  fault_is e f is = cc

  -- a value is no fault
  pub no_fault : {P : Type 0} (x : X) (f : E) → ◌≡◌ {A = Result X E} (Ok x) (Err f) → P
  no_fault x f is = absurd cc

  -- the fault that is passed on is the one answered
  pub is_fault : (r : Result X E) (e f : E) → Passes r e → e ≡ f → r ≡ Err f
  is_fault (Ok x) e f passes same = absurd passes
  is_fault (Err d) e f passes same = ap Err (passes ∙ same)

  -- it is what reading gives, where reading meets it
  pub reads_fault : {Y : Type 0} (view : X → Y) (r : Result X E) (e : E) (read : Result Y E) → Passes r e → read ≡ Err e → Reads view r read
  reads_fault view (Ok x) e read passes fails = absurd passes
  reads_fault view (Err d) e read passes fails = fails ∙ ap Err (sym passes)

  -- what follows from a fault, follows where it is passed on
  pub of_fault : {Y P : Type 0} (r : Result X E) (e f : E) → Passes r e → (◌≡◌ {A = Result Y E} (Err e) (Err f) → P) → r ≡ Err f → P
  of_fault (Ok x) e f passes follows is = absurd passes
  of_fault (Err d) e f passes follows is = follows (ap Err (sym passes ∙ fault_is d f is))

  -- a fault that reading never meets is not answered
  pub not_met : {Y P : Type 0} (read : Result Y E) (r : Result X E) (e f : E) → (read ≡ Err f → ⊥) → Passes r e → read ≡ Err e → r ≡ Err f → P
  not_met read (Ok x) e f never passes met is = absurd passes
  not_met read (Err d) e f never passes met is = absurd (never (met ∙ ap Err (sym passes ∙ fault_is d f is)))

-- the same, where out of memory may come at any time
pub gives_fault : {X Y : Type 0} (view : X → Y) (r : Result X RecordFault) (e : RecordFault) (read : Result Y RecordFault) → Passes r e → Fails e read → Gives view r read
gives_fault view (Ok x) e read passes fails = absurd passes
gives_fault view (Err d) e read passes fails = subst (λ (f : RecordFault). Fails f read) (sym passes) fails

-- ---- reading never runs out of memory

-- a test that fails with another fault
guard_plain : {A : Type 0} (b : Bool) (d : RecordFault) (x : A) → (d ≡ OutOfMemory → ⊥) → cond b (Err d) (Ok x) ≡ Err OutOfMemory → ⊥
guard_plain true d x other is = other (fault_is d OutOfMemory is)
guard_plain false d x other is = no_fault x OutOfMemory is

-- steps of which none runs out of memory
bind_plain : {A B : Type 0} (r : Result A RecordFault) (f : A → Result B RecordFault) → (r ≡ Err OutOfMemory → ⊥) → ((x : A) → f x ≡ Err OutOfMemory → ⊥) → (r >>= f) ≡ Err OutOfMemory → ⊥
bind_plain (Ok x) f first next is = next x is
bind_plain (Err d) f first next is = first (ap Err (fault_is d OutOfMemory is))

after_plain : (n : ℕ) (bytes : List ℕ) → after n bytes ≡ Err OutOfMemory → ⊥
after_plain n bytes = guard_plain (ltb (length bytes) n) Short (drop n bytes) (λ is. absurd cc)

mask_plain : (f : Family) (n : ℕ) → mask_of f n ≡ Err OutOfMemory → ⊥
mask_plain f n = guard_plain (ltb (8 * width f) n) Mask n (λ is. absurd cc)

-- the family, over its two tests
chosen_plain : (a b : Bool) → cond a (done Ipv4) (cond b (done Ipv6) (Err Afi)) ≡ Err OutOfMemory → ⊥
chosen_plain a b is = grind arith

family_plain : (number : ℕ) → family_of number ≡ Err OutOfMemory → ⊥
family_plain number = chosen_plain (eqb number 1) (eqb number 2)

address_plain : (f : Family) (bytes : List ℕ) → address_at f bytes ≡ Err OutOfMemory → ⊥
unfolding address_at
address_plain f bytes = bind_plain (after (width f) bytes) (λ rest. done (address_of f bytes, rest)) (after_plain (width f) bytes) (λ rest. no_fault (address_of f bytes, rest) OutOfMemory)

pub locator_plain : (bytes : List ℕ) → locator_at bytes ≡ Err OutOfMemory → ⊥
unfolding locator_at
locator_plain bytes =
    bind_plain (after 8 bytes) _ (after_plain 8 bytes) (λ rest.
    bind_plain (family_of (number_at bytes 6)) _ (family_plain (number_at bytes 6)) (λ f.
    bind_plain (address_at f rest) _ (address_plain f rest) (λ addr. no_fault (locator_of bytes addr.0, addr.1) OutOfMemory)))

pub start_plain : (bytes : List ℕ) → start_at bytes ≡ Err OutOfMemory → ⊥
unfolding start_at
start_plain bytes =
    bind_plain (after 12 bytes) _ (after_plain 12 bytes) (λ rest.
    bind_plain (family_of (number_at bytes 10)) _ (family_plain (number_at bytes 10)) (λ f.
    bind_plain (mask_of f (get_or bytes 5 0)) _ (mask_plain f (get_or bytes 5 0)) (λ n. address_plain f rest)))

locators_plain : (n : ℕ) (bytes : List ℕ) → locators_at n bytes ≡ Err OutOfMemory → ⊥
unfolding locators_at
locators_plain zero bytes = no_fault ([], bytes) OutOfMemory
locators_plain (suc n) bytes =
    bind_plain (locator_at bytes) _ (locator_plain bytes) (λ first.
    bind_plain (locators_at n first.1) _ (locators_plain n first.1) (λ others. no_fault (first.0 ∷ others.0, others.1) OutOfMemory))

pub record_plain : (bytes : List ℕ) → record_at bytes ≡ Err OutOfMemory → ⊥
unfolding record_at
record_plain bytes =
    bind_plain (start_at bytes) _ (start_plain bytes) (λ addr.
    bind_plain (locators_at (get_or bytes 4 0) addr.1) _ (locators_plain (get_or bytes 4 0) addr.1) (λ locators. no_fault (map_record_of bytes addr.0 locators.0, locators.1) OutOfMemory))
