-- Which call of the failing store fails.
use Rattle.std.proofs.Common.{◌≡◌, Bool, true, false, cond, Result, Ok, Err, refl, sym, ap, ◌∙◌}
use Rattle.lisp_nonces.specs.declared.fault.StoreFault.{StoreFault}
use Rattle.lisp_nonces.specs.declared.fault.StoreFault.TheVariants.{Device}
use Rattle.lisp_nonces.specs.Memory.{failed_once}
use Rattle.lisp_nonces.proofs.Saving.{no_fault}
use Rattle.lisp_store.specs.Failing.{FailingState, fails}

-- a call that was counted and not refused is not the one that fails
pub not_failing : (old : FailingState) → ◌≡◌ {A = Result (Unit {0}) StoreFault} (Ok tt) (cond (fails old) (Err Device) (Ok tt)) → fails old ≡ false
not_failing old counted = here (fails old) counted
  where
    here : (b : Bool) → ◌≡◌ {A = Result (Unit {0}) StoreFault} (Ok tt) (cond b (Err Device) (Ok tt)) → b ≡ false
    here true clash = no_fault tt Device clash
    here false same = refl

-- of two outcomes the one of a call that doesn't fail
pub unfailed : {X : Type 0} (old : FailingState) (failed done : X) → fails old ≡ false → done ≡ cond (fails old) failed done
unfailed old failed done not = sym (ap (λ (b : Bool). cond b failed done) not)

-- its store in memory is then as it was
pub as_it_was : (inside now old : FailingState) → inside ≡ now → fails old ≡ false → now.memory ≡ cond (fails old) (failed_once old.memory) old.memory → inside.memory ≡ old.memory
as_it_was inside now old same not is = ap (λ (f : FailingState). f.memory) same ∙ is ∙ ap (λ (b : Bool). cond b (failed_once old.memory) old.memory) not
