use Rattle.std.proofs.Common.{refl, ℕ, ◌+◌, ◌-◌, ◌^◌, min, ap, ◌∙◌}
use denote.Enum.Bare.{sameb}
use Rattle.lisp_nonces.specs.declared.fate.Fate.TheVariants.{Doubt}
use Rattle.lisp_nonces.specs.contracts.fate.Fate.{the_type}
use Rattle.lisp_nonces.specs.Kept.{kept_at}
use Rattle.lisp_nonces.specs.Memory.{MemoryStoreState}
use Rattle.lisp_nonces.proofs.Saving.{no_fault, not_out, rose, in_doubt, was_doubt, save_doubted, doubt_counted, save_done, none_counted, not_damaged}
use Rattle.lisp_nonces.proofs.memory.MemoryStoreNonceStore.save.Goals as goal

pub returns-then-eq-clause-memory : goal.returns-then-eq-clause-memory
returns-then-eq-clause-memory g c out = not_out out

pub returns-then-eq-clause-refused : goal.returns-then-eq-clause-refused
returns-then-eq-clause-refused g c out = not_out out

pub returns-clause-memory : goal.returns-clause-memory
returns-clause-memory g c out = no_fault _ _ out

pub returns-clause-refused : goal.returns-clause-refused
returns-clause-refused g c out = no_fault _ _ out

pub returns-clause-sound : goal.returns-clause-sound
returns-clause-sound g c damaged = no_fault _ _ damaged

pub returns-clause-cause : goal.returns-clause-cause
returns-clause-cause g c failed = no_fault _ _ failed

pub returns-then-eq-clause-cause : goal.returns-then-eq-clause-cause
returns-then-eq-clause-cause g c failed = rose c.args.self.now.faults _ (c.saturating_add-self-inside.ensures ∙ ap (λ (n : ℕ). min (n + 1) (2 ^ 64 - 1)) (ap (λ (m : MemoryStoreState). m.faults) c.self.view_is ∙ c.in_ok-keep.ensures.faults))

pub returns-then-eq-clause-others : goal.returns-then-eq-clause-others
returns-then-eq-clause-others g c q differ = ap (λ (m : MemoryStoreState). kept_at m.kept q) c.self.view_is ∙ c.in_ok-keep.ensures.others q differ

pub returns-then-eq-clause-fate : goal.returns-then-eq-clause-fate
returns-then-eq-clause-fate g c = ap (λ (m : MemoryStoreState). m.fate) c.self.view_is ∙ c.in_ok-keep.ensures.fate

pub returns-then-eq-clause-doubt : goal.returns-then-eq-clause-doubt
returns-then-eq-clause-doubt g c =
    let doubt = was_doubt (λ f. sameb the_type f Doubt) refl refl _ _ _ (ap (λ (m : MemoryStoreState). m.fate) c.self.view_is) c.in_ok-keep.ensures.fate c.if-eq.ensures in
    in_doubt c.args.self.now.fate _ _ c.args.nonce doubt (ap (λ (m : MemoryStoreState). kept_at m.kept c.args.pair.now) c.self.view_is ∙ c.in_ok-keep.ensures.here)

pub returns-then-eq-clause-answer : goal.returns-then-eq-clause-answer
returns-then-eq-clause-answer g c other =
    let doubt = was_doubt (λ f. sameb the_type f Doubt) refl refl _ _ _ (ap (λ (m : MemoryStoreState). m.fate) c.self.view_is) c.in_ok-keep.ensures.fate c.if-eq.ensures in
    save_doubted c.args.self.now.fate doubt

pub returns-then-eq-clause-faults : goal.returns-then-eq-clause-faults
returns-then-eq-clause-faults g c other =
    let doubt = was_doubt (λ f. sameb the_type f Doubt) refl refl _ _ _ (ap (λ (m : MemoryStoreState). m.fate) c.self.view_is) c.in_ok-keep.ensures.fate c.if-eq.ensures in
    doubt_counted c.args.self.now _ doubt (c.saturating_add-self-inside.ensures ∙ ap (λ (n : ℕ). min (n + 1) (2 ^ 64 - 1)) (ap (λ (m : MemoryStoreState). m.faults) c.self.view_is ∙ c.in_ok-keep.ensures.faults))

pub returns-clause-answer : goal.returns-clause-answer
returns-clause-answer g c other = save_done (λ f. sameb the_type f Doubt) refl c.args.self.now.fate (c.if-eq.ensures ∙ ap (λ f. sameb the_type f Doubt) (ap (λ (m : MemoryStoreState). m.fate) c.self.view_is ∙ c.in_ok-keep.ensures.fate))

pub returns-clause-faults : goal.returns-clause-faults
returns-clause-faults g c other = none_counted (λ f. sameb the_type f Doubt) refl c.args.self.now _ (c.if-eq.ensures ∙ ap (λ f. sameb the_type f Doubt) (ap (λ (m : MemoryStoreState). m.fate) c.self.view_is ∙ c.in_ok-keep.ensures.fate)) c.in_ok-keep.ensures.faults

pub returns-then-eq-clause-sound : goal.returns-then-eq-clause-sound
returns-then-eq-clause-sound g c = not_damaged
