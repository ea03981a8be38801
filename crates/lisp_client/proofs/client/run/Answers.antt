use Rattle.std.proofs.Common.{Err, length, ap, ◌∙◌}
use Rattle.std.proofs.lemmas.List.{length-replicate}
use Rattle.lisp_client.proofs.Promise.{are_honest, not_made, has_run, not_taken}
use Rattle.lisp_client.proofs.client.run.Goals as goal

pub new-requires : goal.new-requires
new-requires g c = ap length c.in-Ok.ensures.empty ∙ length-replicate _ _ ∙ c.node_count.ensures

pub returns-in-Ok-run-clause-ran : goal.returns-in-Ok-run-clause-ran
returns-in-Ok-run-clause-ran g c = has_run _ _ c.in-Ok.ensures.empty _ _ _ _ _ _ _ _ (c.in-Ok-new.ensures.lists (are_honest _ _ c.in-Ok.ensures.empty)) (c.in-Ok-new.ensures.stands (are_honest _ _ c.in-Ok.ensures.empty)) c.run.ensures.headline c.in-Ok-run.ensures.runs

pub returns-in_default-new-clause-not_run : goal.returns-in_default-new-clause-not_run
returns-in_default-new-clause-not_run g c =
    not_made _ _ c.in-Ok.ensures.empty g.A.Memory.may_refuse c.args.config.now _ c.in_default-new.field-0 c.in_default-new.ensures.calm_faults (λ same. c.in_default-new.ensures.repeated.0 (ap Err same))

pub returns-in-Err-clause-not_run : goal.returns-in-Err-clause-not_run
returns-in-Err-clause-not_run g c =
    not_taken _ _ c.in-Ok.ensures.empty g.A.Memory.may_refuse _ _ _ _ _ _ _ _ _ (c.in-Ok-new.ensures.lists (are_honest _ _ c.in-Ok.ensures.empty))
    (c.in-Ok-new.ensures.stands (are_honest _ _ c.in-Ok.ensures.empty)) c.run.ensures.headline c.in-Err.ensures.runs c.in-Err.ensures.memory
