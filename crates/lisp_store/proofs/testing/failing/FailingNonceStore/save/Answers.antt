use Rattle.std.proofs.Common.{◌≡◌, ◌≤◌, true, false, Err, IsErrOf, refl, sym, ap, subst, ◌∙◌, true≢false}
use Rattle.std.specs.Prelude.{OnErr}
use Rattle.lisp_nonces.specs.declared.fault.StoreFault.TheVariants.{Device}
use Rattle.lisp_nonces.specs.Kept.{kept_at, InDoubt}
use Rattle.lisp_nonces.specs.Store.{Rose}
use Rattle.lisp_nonces.specs.Memory.{MemoryStoreState, memory_state, saved, save_answer, faults_after_save}
use Rattle.lisp_store.specs.Failing.{FailingState, fails}
use Rattle.lisp_store.proofs.Turns.{not_failing, unfailed, as_it_was}
use Rattle.lisp_store.proofs.testing.failing.FailingNonceStore.save.Given as given
use Rattle.lisp_store.proofs.testing.failing.FailingNonceStore.save.Goals as goal

-- where it isn't the call that fails, the store in memory is as it was
not : (g : given.Over) (c : goal.After-save g) → fails c.args.self.now ≡ false
not g c = not_failing c.args.self.now c.in_ok-count.ensures.fails

was : (g : given.Over) (c : goal.After-save g) → c.self.inside.memory ≡ c.args.self.now.memory
was g c = as_it_was _ _ c.args.self.now c.self.view_is (not g c) c.in_ok-count.ensures.memory

pub returns-clause-answer : goal.returns-clause-answer
returns-clause-answer g c other = c.save.ensures.answer other ∙ ap (λ (m : MemoryStoreState). save_answer m.fate) (was g c) ∙ unfailed c.args.self.now (Err Device) _ (not g c)

pub returns-clause-values : goal.returns-clause-values
returns-clause-values g c other = c.save.ensures.values other ∙ ap (λ (m : MemoryStoreState). saved m.fate (kept_at m.kept c.args.pair.now) c.args.nonce) (was g c) ∙ unfailed c.args.self.now (kept_at c.args.self.now.memory.kept c.args.pair.now) _ (not g c)

pub returns-clause-faults : goal.returns-clause-faults
returns-clause-faults g c other = c.save.ensures.faults other ∙ ap faults_after_save (was g c) ∙ unfailed c.args.self.now _ _ (not g c)

pub returns-clause-fate : goal.returns-clause-fate
returns-clause-fate g c = c.save.ensures.fate ∙ ap (λ (m : MemoryStoreState). m.fate) (was g c)

pub returns-clause-turn : goal.returns-clause-turn
returns-clause-turn g c = ap (λ (f : FailingState). f.turn) c.self.view_is ∙ c.in_ok-count.ensures.turn

pub returns-clause-goes_on : goal.returns-clause-goes_on
returns-clause-goes_on g c failing = absurd (true≢false (sym failing ∙ not g c))

pub returns-clause-doubt : goal.returns-clause-doubt
returns-clause-doubt g c = subst (λ (m : MemoryStoreState). OnErr c.save.result (InDoubt (kept_at m.kept c.args.pair.now) (kept_at c.save.new.self.kept c.args.pair.now) c.args.nonce)) (was g c) c.save.ensures.doubt

pub returns-clause-others : goal.returns-clause-others
returns-clause-others g c q differ = c.save.ensures.others q differ ∙ ap (λ (m : MemoryStoreState). kept_at m.kept q) (was g c)

pub returns-clause-sound : goal.returns-clause-sound
returns-clause-sound g c = c.save.ensures.sound

pub returns-clause-cause : goal.returns-clause-cause
returns-clause-cause g c = subst (λ (m : MemoryStoreState). IsErrOf c.save.result Device → Rose (memory_state m) (memory_state c.save.new.self)) (was g c) c.save.ensures.cause

pub returns-clause-refused : goal.returns-clause-refused
returns-clause-refused g c out = (let same = c.save.ensures.refused out ∙ ap memory_state (was g c) in λ i. record { kept = (same i).kept; faults = (same i).faults; is_honest = true; is_quiet = false; is_obedient = false; fate = (same i).fate })

pub returns-clause-proceeds : goal.returns-clause-proceeds
returns-clause-proceeds g c = record { honest = refl; obedient = refl; fate = c.save.ensures.proceeds.fate ∙ ap (λ (m : MemoryStoreState). m.fate) (was g c); count = subst (λ (m : MemoryStoreState). m.faults ≤ c.save.new.self.faults) (was g c) c.save.ensures.proceeds.count; quiet = λ quiet. absurd (true≢false (sym quiet)) }
