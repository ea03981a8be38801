use Rattle.std.proofs.Common.{refl, ap, ◌∙◌, sym, true≢false}
use Rattle.lisp_nonces.specs.Memory.{MemoryStoreState}
use Rattle.lisp_store.specs.Failing.{FailingState}
use Rattle.lisp_store.proofs.testing.failing.Failing.count.Goals as goal

-- that it is quiet is never said of it
pub returns-then-turn-eq1-clause-proceeds : goal.returns-then-turn-eq1-clause-proceeds
returns-then-turn-eq1-clause-proceeds g c = record { honest = refl; obedient = refl; fate = ap (λ (m : MemoryStoreState). m.fate) c.count_fault.ensures.once ∙ ap (λ (f : FailingState). f.memory.fate) c.self.view_is; count = rw (← c.self.view_is) c.count_fault.ensures.rises; quiet = λ quiet. absurd (true≢false (sym quiet)) }
