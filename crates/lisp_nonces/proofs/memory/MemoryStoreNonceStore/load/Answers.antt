use Rattle.std.proofs.Common.{List, None, slice_index_or, Option, ℕ, sym, ap, ◌∙◌, subst, true≢false}
use Rattle.std.specs.List.{Contains}
use Rattle.lisp_nonces.specs.Entries.{kept_of}
use Rattle.lisp_nonces.specs.Kept.{kept_at}
use Rattle.lisp_nonces.specs.Memory.{MemoryStoreState}
use Rattle.lisp_nonces.proofs.Saving.{no_fault, not_out, rose, load_leaves, load_failed, load_answers}
use Rattle.lisp_nonces.proofs.memory.MemoryStoreNonceStore.load.Goals as goal

pub returns-then-load_fails-clause-memory : goal.returns-then-load_fails-clause-memory
returns-then-load_fails-clause-memory g c out = not_out out

pub returns-clause-memory : goal.returns-clause-memory
returns-clause-memory g c out = no_fault _ _ out

pub returns-then-load_fails-clause-refused : goal.returns-then-load_fails-clause-refused
returns-then-load_fails-clause-refused g c out = not_out out

pub returns-clause-refused : goal.returns-clause-refused
returns-clause-refused g c out = no_fault _ _ out

pub returns-then-load_fails-clause-cause : goal.returns-then-load_fails-clause-cause
returns-then-load_fails-clause-cause g c = rw (← c.self.view_is) (λ other. rose c.self.inside.faults _ c.saturating_add-self-inside.ensures)

pub returns-clause-cause : goal.returns-clause-cause
returns-clause-cause g c = tt

pub returns-then-load_fails-clause-same : goal.returns-then-load_fails-clause-same
returns-then-load_fails-clause-same g c = ap (λ (m : MemoryStoreState). m.kept) c.self.view_is

pub returns-then-load_fails-clause-after : goal.returns-then-load_fails-clause-after
returns-then-load_fails-clause-after g c = rw (← c.self.view_is) (load_failed _ _ (c.load_fails.ensures.0 c.if-load_fails.true) c.saturating_add-self-inside.ensures)

pub returns-clause-after : goal.returns-clause-after
returns-clause-after g c = load_leaves c.args.self.now (λ fails. true≢false (sym (c.load_fails.ensures.1 (ap (λ (m : MemoryStoreState). m.fate) c.self.view_is ∙ fails)) ∙ c.if-load_fails.false))

pub returns-clause-member : goal.returns-clause-member
returns-clause-member g c = subst (λ (values : List (Option ℕ)). Contains values c.first.result) (c.values_of.ensures.values ∙ ap (λ es. kept_at (kept_of es) c.args.pair.now) c.deref.ensures.value ∙ ap (λ (m : MemoryStoreState). kept_at m.kept c.args.pair.now) c.self.view_is) c.first.ensures.member

pub first-requires : goal.first-requires
first-requires g c = c.values_of.ensures.some

pub returns-clause-answer : goal.returns-clause-answer
returns-clause-answer g c =
    let values = c.values_of.ensures.values ∙ ap (λ es. kept_at (kept_of es) c.args.pair.now) c.deref.ensures.value ∙ ap (λ (m : MemoryStoreState). kept_at m.kept c.args.pair.now) c.self.view_is in
    load_answers c.args.self.now.fate _ _ (λ fails. true≢false (sym (c.load_fails.ensures.1 (ap (λ (m : MemoryStoreState). m.fate) c.self.view_is ∙ fails)) ∙ c.if-load_fails.false)) (c.first.ensures.value ∙ ap (λ (vs : List (Option ℕ)). slice_index_or vs 0 None) values)
