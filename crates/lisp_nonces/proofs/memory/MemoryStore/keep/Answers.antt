use Rattle.std.proofs.Common.{ap, ℕ, List, Option, ◌∙◌}
use Rattle.std.proofs.lemmas.Result.{IfErr-weaker, IfOk-equal}
use Rattle.lisp_nonces.specs.Entries.{kept_of}
use Rattle.lisp_nonces.specs.Kept.{SameElsewhere, kept_at}
use Rattle.lisp_nonces.specs.Memory.{MemoryStoreState, saved}
use Rattle.lisp_nonces.proofs.Saving.{either}
use Rattle.lisp_nonces.proofs.memory.MemoryStore.keep.Goals as goal

pub returns-clause-fate : goal.returns-clause-fate
returns-clause-fate g c = ap (λ (m : MemoryStoreState). m.fate) c.self.view_is

pub returns-clause-faults : goal.returns-clause-faults
returns-clause-faults g c = ap (λ (m : MemoryStoreState). m.faults) c.self.view_is

pub returns-clause-err : goal.returns-clause-err
returns-clause-err g c = rw (← c.self.view_is) (IfErr-weaker c.set.result _ _ (λ fault same. λ i. record { kept = kept_of (same i); faults = c.self.inside.faults; fate = c.self.inside.fate }) c.set.ensures.err)

pub returns-clause-others : goal.returns-clause-others
returns-clause-others g c = rw (← c.self.view_is) (either c.set.result c.set.ensures.others (IfErr-weaker c.set.result _ (λ _. SameElsewhere (kept_of c.self.inside.entries.items) (kept_of c.set.new.entries.items) c.args.pair.now) (λ fault same q differ. ap (λ es. kept_at (kept_of es) q) same) c.set.ensures.err))

pub returns-clause-here : goal.returns-clause-here
returns-clause-here g c =
    let values = c.values_of.ensures.values ∙ ap (λ es. kept_at (kept_of es) c.args.pair.now) c.deref.ensures.value in
    IfOk-equal c.set.result _ _ _ c.set.ensures.here (c.in_ok-values.ensures.values ∙ ap (λ (vs : List (Option ℕ)). saved c.self.inside.fate vs c.args.nonce) values ∙ ap (λ (m : MemoryStoreState). saved m.fate (kept_at m.kept c.args.pair.now) c.args.nonce) c.self.view_is)
