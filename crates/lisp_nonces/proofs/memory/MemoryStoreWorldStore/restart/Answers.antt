use Rattle.std.proofs.Common.{ap}
use Rattle.lisp_nonces.specs.Memory.{MemoryStoreState}
use Rattle.lisp_nonces.proofs.Restart.{narrows_kept, picks_kept, rewritten}
use Rattle.lisp_nonces.proofs.memory.MemoryStoreWorldStore.restart.Goals as goal

pub returns-clause-narrows : goal.returns-clause-narrows
returns-clause-narrows g c q =
    let all = rw c.deref_mut.ensures.value at c.narrow.ensures.some in
    let entries = rw c.deref_mut.ensures.value at c.narrow.ensures.narrowed in
    rw (← c.self.view_is, entries, rewritten c.args.pick c.self.inside.entries.len c.self.inside.entries.items c.self.inside.entries.ok.0) (narrows_kept q c.args.pick c.self.inside.entries.items all)

pub returns-clause-exactly : goal.returns-clause-exactly
returns-clause-exactly g c q =
    let entries = rw c.deref_mut.ensures.value at c.narrow.ensures.narrowed in
    rw (← c.self.view_is, entries, rewritten c.args.pick c.self.inside.entries.len c.self.inside.entries.items c.self.inside.entries.ok.0) (picks_kept q c.args.pick c.self.inside.entries.items)

pub returns-clause-faults : goal.returns-clause-faults
returns-clause-faults g c = ap (λ (m : MemoryStoreState). m.faults) c.self.view_is

pub returns-clause-picks : goal.returns-clause-picks
returns-clause-picks g c obeys = returns-clause-exactly g c
