use Rattle.std.proofs.Common.{◌≡◌, ◌≢◌, ◌≤◌, ◌-◌, Err, IfOk, IfErr, true, false, cond, refl, sym, ap, subst, ◌∙◌, true≢false}
use Rattle.std.specs.List.{Contains}
use Rattle.lisp_nonces.specs.declared.fault.StoreFault.TheVariants.{Device, OutOfMemory}
use Rattle.lisp_nonces.specs.Kept.{kept_at}
use Rattle.lisp_nonces.specs.Store.{Rose}
use Rattle.lisp_nonces.specs.Memory.{MemoryStoreState, memory_state, loaded, after_load, failed_once}
use Rattle.lisp_store.specs.Failing.{FailingState, fails}
use Rattle.lisp_store.proofs.Turns.{not_failing, unfailed, as_it_was}
use Rattle.lisp_store.proofs.testing.failing.FailingNonceStore.load.Given as given
use Rattle.lisp_store.proofs.testing.failing.FailingNonceStore.load.Goals as goal

-- where it isn't the call that fails, the store in memory is as it was
not : (g : given.Over) (c : goal.After-load g) → fails c.args.self.now ≡ false
not g c = not_failing c.args.self.now c.in_ok-count.ensures.fails

was : (g : given.Over) (c : goal.After-load g) → c.self.inside.memory ≡ c.args.self.now.memory
was g c = as_it_was _ _ c.args.self.now c.self.view_is (not g c) c.in_ok-count.ensures.memory

pub returns-clause-same : goal.returns-clause-same
returns-clause-same g c = c.load.ensures.same ∙ ap (λ (m : MemoryStoreState). m.kept) (was g c)

pub returns-clause-refused : goal.returns-clause-refused
returns-clause-refused g c out = (let same = c.load.ensures.refused out ∙ ap memory_state (was g c) in λ i. record { kept = (same i).kept; faults = (same i).faults; is_honest = true; is_quiet = false; is_obedient = false; fate = (same i).fate })

pub returns-clause-cause : goal.returns-clause-cause
returns-clause-cause g c = subst (λ (m : MemoryStoreState). IfErr c.load.result (λ fault. fault ≢ OutOfMemory → Rose (memory_state m) (memory_state c.load.new.self))) (was g c) c.load.ensures.cause

pub returns-clause-answer : goal.returns-clause-answer
returns-clause-answer g c = c.load.ensures.answer ∙ ap (λ (m : MemoryStoreState). loaded m.fate (kept_at m.kept c.args.pair.now)) (was g c) ∙ unfailed c.args.self.now (Err Device) _ (not g c)

pub returns-clause-after : goal.returns-clause-after
returns-clause-after g c =
    let memory : c.load.new.self ≡ cond (fails c.args.self.now) (failed_once c.args.self.now.memory) (after_load c.args.self.now.memory) = c.load.ensures.after ∙ ap after_load (was g c) ∙ unfailed c.args.self.now (failed_once c.args.self.now.memory) _ (not g c) in
    let turn : c.self.inside.turn ≡ c.args.self.now.turn - 1 = ap (λ (f : FailingState). f.turn) c.self.view_is ∙ c.in_ok-count.ensures.turn in
    λ i. record { memory = memory i; turn = turn i }

pub returns-clause-member : goal.returns-clause-member
returns-clause-member g c = subst (λ (m : MemoryStoreState). IfOk c.load.result (λ v. Contains (kept_at m.kept c.args.pair.now) v)) (was g c) c.load.ensures.member

pub returns-clause-proceeds : goal.returns-clause-proceeds
returns-clause-proceeds g c = record { honest = refl; obedient = refl; fate = c.load.ensures.proceeds.fate ∙ ap (λ (m : MemoryStoreState). m.fate) (was g c); count = subst (λ (m : MemoryStoreState). m.faults ≤ c.load.new.self.faults) (was g c) c.load.ensures.proceeds.count; quiet = λ quiet. absurd (true≢false (sym quiet)) }
