use Rattle.std.proofs.Common.{◌≡◌, ◌++◌, take, drop, map}
use Rattle.lisp_etr.specs.Round.{new_round}
use Rattle.lisp_etr.proofs.rounds.begin_each.Given as goal

-- the rounds so far are new ones
abbrev pub invariant-loop-round : goal.invariant-loop-round
invariant-loop-round l = take l.round-index l.rounds ++ map (new_round l.now) (drop l.round-index l.rounds) ≡ map (new_round l.now) l.fn.rounds
