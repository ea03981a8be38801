use Rattle.std.proofs.Common.{refl}
use Rattle.lisp_nonces.specs.Memory.{memory_state}
use Rattle.lisp_embedded.proofs.Host.{refused_kept, takes_no_store}
use Rattle.lisp_embedded.proofs.receiving.receive_kept.Goals as goal

pub returns-clause-refused : goal.returns-clause-refused
returns-clause-refused g c =
    rw c.of_this_call.ensures (refused_kept c.args.kept c.args.from c.args.bytes.now c.args.server.now (memory_state c.in_ok-store.store) (memory_state c.receive.new.store) c.args.now c.in_ok-store.ensures.keeps c.in-Err.refused c.in-Err.ensures.refused)

pub returns-clause-storeless : goal.returns-clause-storeless
returns-clause-storeless g c =
    rw c.of_this_call.ensures (takes_no_store c.args.from c.args.bytes.now c.args.server.now (memory_state c.in_ok-store.store) (memory_state c.receive.new.store) c.args.now refl c.in_ok-store.ensures.calm c.in-Err.refused c.in-Err.ensures.refused)
