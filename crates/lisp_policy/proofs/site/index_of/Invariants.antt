use Rattle.std.proofs.Common.{take}
use Rattle.lisp_policy.specs.Index.{Indexes}
use Rattle.lisp_policy.proofs.site.index_of.Given as goal

-- the keys so far are indexed
abbrev pub invariant-loop-place : goal.invariant-loop-place
invariant-loop-place g l = Indexes l.index (λ k. k.id) (take l.place l.keys)
