use Rattle.std.proofs.Common.{Err, length, ap, ◌∙◌}
use Rattle.std.proofs.lemmas.List.{length-replicate}
use Rattle.lisp_world.specs.Openings.{repeats}
use Rattle.lisp_player.proofs.Beginning.{same_fault, begins, never, cannot_begin, made_no_fault, memory_ends, world_no_memory, world_ends}
use Rattle.lisp_player.proofs.schedule.begin.Goals as goal

pub returns-in_err-stores-clause-faults : goal.returns-in_err-stores-clause-faults
returns-in_err-stores-clause-faults g c = memory_ends g.A.Memory.may_refuse c.args.config.now _ c.from_residual.ensures.1 c.in_err-stores.ensures.memory

pub new-requires : goal.new-requires
new-requires g c =
    ap length c.in_ok-stores.ensures.empty ∙ length-replicate _ _ ∙ c.node_count.ensures

pub returns-in_err-new-clause-memory : goal.returns-in_err-new-clause-memory
returns-in_err-new-clause-memory g c = world_no_memory _ _ c.from_residual-in_err-new.ensures.1

pub returns-in_err-new-clause-faults : goal.returns-in_err-new-clause-faults
returns-in_err-new-clause-faults g c =
    let twice = c.in_err-new.ensures.repeated in
    world_ends _ g.A.Memory.may_refuse c.args.config.now _ c.from_residual-in_err-new.ensures.1
    (cannot_begin g.A.Memory.may_refuse c.args.config.now _ c.in_ok-stores.stores.items c.in_ok-stores.ensures.empty _ c.in_err-new.ensures.calm_faults (λ same. twice.0 (ap Err same)) (λ so. same_fault (twice.1 so)))

pub returns-clause-begins : goal.returns-clause-begins
returns-clause-begins g c =
    begins c.args.config.now c.in_ok-new.field-0 _ c.in_ok-stores.stores.items c.in_ok-stores.ensures.empty c.in_ok-new.ensures.stands c.in_ok-new.ensures.lists c.in_ok-new.ensures.calm

pub returns-clause-repeats : goal.returns-clause-repeats
returns-clause-repeats g c = never _ _ (repeats c.args.config.now) c.in_ok-new.ensures.repeated.1

pub returns-clause-memory : goal.returns-clause-memory
returns-clause-memory g c = made_no_fault _ _
