use Rattle.std.proofs.Common.{Ok, subst, sym, ap, ◌∙◌}
use Rattle.lisp_messages.specs.Reading.{message_at}
use Rattle.lisp_nonces.specs.Memory.{MemoryStoreState, memory_state}
use Rattle.lisp_nonces.specs.Store.{Proceeds}
use Rattle.lisp_server.specs.Receiving.{ServerTakes, ServerRefuses}
use Rattle.lisp_server.specs.Server.{ServerState}
use Rattle.lisp_answer.specs.Fresh.{source}
use Rattle.lisp_answer.proofs.FreshLaws.{taken, Excuse, refused}
use Rattle.lisp_answer.proofs.fresh.answered.Goals as goal

pub returns-in-Ok : goal.returns-in-Ok
returns-in-Ok g c sites server store =
    let after = memory_state c.receive.new.store in
    let took = subst (λ (x : ServerState × MemoryStoreState). ServerTakes (message_at c.args.bytes.now) source c.args.bytes.now x.0 c.receive.new.self (memory_state x.1) after 0 c.in-Ok.took) (λ i. (server i, store i)) c.in-Ok.ensures.taken in
    taken sites (message_at c.args.bytes.now) c.args.bytes.now c.receive.new.self after c.in-Ok.took took ∙ sym (ap Ok c.into_reply.ensures)

pub returns-in-Err : goal.returns-in-Err
returns-in-Err g c sites server store =
    let after = memory_state c.receive.new.store in
    let went = subst (λ (m : MemoryStoreState). Proceeds (memory_state m) after) store c.in-Err.ensures.proceeds in
    let why = subst (λ (x : ServerState × MemoryStoreState). ServerRefuses (message_at c.args.bytes.now) source c.args.bytes.now x.0 (memory_state x.1) after 0 c.in-Err.refused) (λ i. (server i, store i)) c.in-Err.ensures.refused in
    let out : Excuse _ _ c.args.bytes.now c.in-Err.refused = record { own = λ e. (c.in-Err.ensures.memory e, c.in-Err.ensures.head e); load = c.in-Err.ensures.load_memory; save = c.in-Err.ensures.save_memory } in
    refused _ sites c.args.bytes.now after c.in-Err.refused out went why
