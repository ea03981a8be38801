use Rattle.std.proofs.Common.{ap, length, ◌∙◌, Err, sym, subst}
use Rattle.std.proofs.lemmas.List.{length-replicate}
use Rattle.lisp_etr.specs.Config.{EtrConfigValue}
use Rattle.std.specs.List.{Contains}
use Rattle.lisp_nonces.specs.declared.pair.Pair.{Pair}
use Rattle.lisp_nonces.specs.Kept.{kept_at}
use Rattle.lisp_etr.proofs.Refusals.{start_fault, not_stored}
use Rattle.lisp_etr.proofs.etr.Etr.start.Goals as goal

pub invariant_of-result : goal.invariant_of-result
invariant_of-result g c = ap length c.in-Ok.ensures.items ∙ length-replicate _ _ ∙ ap length c.as_slice.ensures ∙ ap (λ (s : EtrConfigValue). length s.servers) c.config.view_is

pub returns-in-Err-clause-cause : goal.returns-in-Err-clause-cause
returns-in-Err-clause-cause g c f is other = c.in-Err.ensures.cause (λ out. other (sym (start_fault is) ∙ out))

pub returns-in-Ok-load-clause-last : goal.returns-in-Ok-load-clause-last
returns-in-Ok-load-clause-last g c honest = (c.in-Ok-load.last, subst (λ (p : Pair). Contains (kept_at (g.S.NonceStore.seen c.args.store.now).kept p) c.in-Ok-load.last) c.pair.ensures (c.in-Ok-load.ensures.member honest), c.unwrap_or.ensures)

pub returns-in-Err-clause-refused : goal.returns-in-Err-clause-refused
returns-in-Err-clause-refused g c is = c.in-Err.ensures.refused (ap Err (start_fault is))

pub returns-in-Err-clause-store_memory : goal.returns-in-Err-clause-store_memory
returns-in-Err-clause-store_memory g c is = c.in-Err.ensures.memory (ap Err (start_fault is))

pub returns-in-Err-clause-unasked : goal.returns-in-Err-clause-unasked
returns-in-Err-clause-unasked g c is = not_stored _ is

pub returns-in-Err-clause-memory : goal.returns-in-Err-clause-memory
returns-in-Err-clause-memory g c is = not_stored _ is

pub returns-in_default-clause-cause : goal.returns-in_default-clause-cause
returns-in_default-clause-cause g c fault is other = not_stored fault (sym is)

pub returns-in_default-clause-store_memory : goal.returns-in_default-clause-store_memory
returns-in_default-clause-store_memory g c is = not_stored _ (sym is)
