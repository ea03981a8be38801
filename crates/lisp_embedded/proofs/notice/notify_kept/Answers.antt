use Rattle.std.proofs.Common.{refl, sym, ◌∙◌}
use Rattle.lisp_nonces.specs.Memory.{memory_state}
use Rattle.lisp_embedded.proofs.Host.{no_store, notice_refused}
use Rattle.lisp_embedded.proofs.notice.notify_kept.Goals as goal

pub returns-in-Err-clause-refused : goal.returns-in-Err-clause-refused
returns-in-Err-clause-refused g c =
    rw c.of_this_call.ensures (notice_refused c.args.kept c.args.server.now (memory_state c.in_ok-store.store) (memory_state c.notify.new.store) c.args.router.now c.args.now c.in_ok-store.ensures.keeps c.in-Err.fault c.in-Err.ensures.refused)

pub returns-clause-announces : goal.returns-clause-announces
returns-clause-announces g c = (memory_state c.in_ok-store.store, memory_state c.notify.new.store, c.in_ok-store.ensures.keeps, c.in-Ok.ensures.announces, sym c.last_nonce.ensures ∙ c.unwrap-nonce.ensures)

pub returns-in-Err-clause-storeless : goal.returns-in-Err-clause-storeless
returns-in-Err-clause-storeless g c =
    rw c.of_this_call.ensures (no_store c.args.server.now (memory_state c.in_ok-store.store) (memory_state c.notify.new.store) c.args.router.now c.args.now refl c.in_ok-store.ensures.calm c.in-Err.fault c.in-Err.ensures.refused)
