use Rattle.std.proofs.Common.{◌≡◌, max, drop, map}
use Rattle.lisp_etr.specs.Rounds.{greatest}
use Rattle.lisp_etr.proofs.rounds.Rounds.latest.Given as goal

-- the greatest so far and those that are left have the greatest of all
abbrev pub invariant-loop-round : goal.invariant-loop-round
invariant-loop-round l = max l.latest (greatest (map (λ r. r.latest) (drop l.round-index l.round-items))) ≡ greatest (map (λ r. r.latest) l.fn.self.parts)
