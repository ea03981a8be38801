use Rattle.std.proofs.Common.{take}
use Rattle.lisp_upkeep.proofs.Saved.{Raising}
use Rattle.lisp_upkeep.proofs.raising.raise.Given as goal

-- the nonces so far are raised
abbrev pub invariant-loop-kept : goal.invariant-loop-kept
invariant-loop-kept g l = Raising l.by l.nonces (take l.kept-index l.nonces) (g.S.NonceStore.seen l.fn.store) (g.S.NonceStore.seen l.store)
