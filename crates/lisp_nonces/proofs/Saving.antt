-- What a load and a save of the store in memory come to.
use Rattle.std.proofs.Common.{true≢false, ◌≡◌, ◌≢◌, ◌⊎◌, inl, inr, ℕ, ◌+◌, ◌-◌, ◌^◌, ◌<◌, ◌≤◌, min, Bool, true, false, cond, List, [], ◌∷◌, ◌++◌, Option, Some, None, Result, Ok, Err, slice_index_or, refl, sym, ap, ◌∙◌, arith}
use Rattle.std.specs.Prelude.{OnOk, OnErr}
use Rattle.std.proofs.lemmas.Bool.{cases_lt}
use Rattle.lisp_nonces.specs.declared.fault.StoreFault.{StoreFault}
use Rattle.lisp_nonces.specs.declared.fault.StoreFault.TheVariants.{Device, Damaged, OutOfMemory}
use Rattle.lisp_nonces.specs.declared.fate.Fate.{Fate}
use Rattle.lisp_nonces.specs.declared.fate.Fate.TheVariants.{Done, Doubt, LoadFails}
use Rattle.lisp_nonces.specs.Kept.{InDoubt, has_value}
use Rattle.lisp_nonces.specs.Memory.{MemoryStoreState, match_fate, loaded, failed_once, after_load, saved, save_answer, faults_after_save}

-- an answer with a value is no fault
pub no_fault : {X E P : Type 0} (x : X) (fault : E) → ◌≡◌ {A = Result X E} (Ok x) (Err fault) → P
no_fault x fault clash = absurd cc

-- a device's fault is not want of memory
pub not_out : {X P : Type 0} → ◌≡◌ {A = Result X StoreFault} (Err Device) (Err OutOfMemory) → P
not_out clash = absurd cc

-- what an answer says in either case
pub either : {X E P : Type 0} (r : Result X E) → OnOk r P → OnErr r P → P
either (Ok x) done failed = done
either (Err fault) done failed = failed

-- a count that goes up, or has reached its end
pub rose : (old new : ℕ) → new ≡ min (old + 1) (2 ^ 64 - 1) → (old < new) ⊎ (new ≡ 2 ^ 64 - 1)
rose old new is = here (cases_lt old (2 ^ 64 - 1))
  where
    here : (old < 2 ^ 64 - 1) ⊎ (2 ^ 64 - 1 ≤ old) → (old < new) ⊎ (new ≡ 2 ^ 64 - 1)
    here (inl less) = inl (omega (arith, is, less))
    here (inr most) = inr (omega (arith, is, most))

stays : (fate : Fate) (m failed : MemoryStoreState) → fate ≢ LoadFails → m ≡ match_fate fate m m failed
stays Done m failed other = refl
stays Doubt m failed other = refl
stays LoadFails m failed other = absurd (other refl)

-- a load leaves the store as it was, unless loads fail
pub load_leaves : (m : MemoryStoreState) → m.fate ≢ LoadFails → m ≡ after_load m
load_leaves m other = stays m.fate m (failed_once m) other

pub load_failed : (m : MemoryStoreState) (faults : ℕ) → m.fate ≡ LoadFails → faults ≡ min (m.faults + 1) (2 ^ 64 - 1) → record m { faults = faults } ≡ after_load m
load_failed m faults fails is = ap (λ (n : ℕ). record m { faults = n }) is ∙ ap (λ (fate : Fate). match_fate fate m m (failed_once m)) (sym fails)

pub load_answers : (fate : Fate) (values : List (Option ℕ)) (value : Option ℕ) → fate ≢ LoadFails → value ≡ slice_index_or values 0 None → Ok value ≡ loaded fate values
load_answers Done values value other is = ap Ok is
load_answers Doubt values value other is = ap Ok is
load_answers LoadFails values value other is = absurd (other refl)

-- a save in doubt keeps the values, and perhaps the nonce
pub in_doubt : (fate : Fate) (old new : List (Option ℕ)) (nonce : ℕ) → fate ≡ Doubt → new ≡ saved fate old nonce → InDoubt old new nonce
in_doubt fate old new nonce doubt is = here (has_value old nonce) (is ∙ ap (λ (f : Fate). saved f old nonce) doubt)
  where
    here : (b : Bool) → new ≡ cond b old (old ++ Some nonce ∷ []) → InDoubt old new nonce
    here true same = inl same
    here false more = inr more

only_doubt : (test : Fate → Bool) → test Done ≡ false → test LoadFails ≡ false → (fate : Fate) → true ≡ test fate → fate ≡ Doubt
only_doubt test done fails Done is = absurd (true≢false (is ∙ done))
only_doubt test done fails Doubt is = refl
only_doubt test done fails LoadFails is = absurd (true≢false (is ∙ fails))

-- a store whose fate passes a test that Doubt alone passes was armed with Doubt
pub was_doubt : (test : Fate → Bool) → test Done ≡ false → test LoadFails ≡ false → (inside now old : Fate) → inside ≡ now → now ≡ old → true ≡ test inside → old ≡ Doubt
was_doubt test done fails inside now old same kept is = sym (same ∙ kept) ∙ only_doubt test done fails inside is

-- a save in doubt answers that the device failed, and counts it
pub save_doubted : (fate : Fate) → fate ≡ Doubt → Err Device ≡ save_answer fate
save_doubted fate doubt = ap save_answer (sym doubt)

pub doubt_counted : (m : MemoryStoreState) (faults : ℕ) → m.fate ≡ Doubt → faults ≡ min (m.faults + 1) (2 ^ 64 - 1) → faults ≡ faults_after_save m
doubt_counted m faults doubt is = is ∙ ap (λ (fate : Fate). match_fate fate m.faults (failed_once m).faults m.faults) (sym doubt)

settled : {X : Type 0} (test : Fate → Bool) → test Doubt ≡ true → (fate : Fate) → false ≡ test fate → (x y : X) → x ≡ match_fate fate x y x
settled test doubt Done not x y = refl
settled test doubt Doubt not x y = absurd (true≢false (sym (not ∙ doubt)))
settled test doubt LoadFails not x y = refl

-- any other save is done, and counts nothing
pub save_done : (test : Fate → Bool) → test Doubt ≡ true → (fate : Fate) → false ≡ test fate → Ok tt ≡ save_answer fate
save_done test doubt fate not = settled test doubt fate not (Ok tt) (Err Device)

pub none_counted : (test : Fate → Bool) → test Doubt ≡ true → (m : MemoryStoreState) (faults : ℕ) → false ≡ test m.fate → faults ≡ m.faults → faults ≡ faults_after_save m
none_counted test doubt m faults not is = is ∙ settled test doubt m.fate not m.faults (failed_once m).faults

-- a damaged text is not want of memory, nor a failed device a damaged text
pub damaged_not_out : {X P : Type 0} → ◌≡◌ {A = Result X StoreFault} (Err Damaged) (Err OutOfMemory) → P
damaged_not_out clash = absurd cc

pub not_damaged : {X P : Type 0} → ◌≡◌ {A = Result X StoreFault} (Err Device) (Err Damaged) → P
not_damaged clash = absurd cc
