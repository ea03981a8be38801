use Rattle.std.proofs.Common.{◌≡◌, ◌++◌, take, drop, map}
use Rattle.lisp_etr.specs.Rounds.{rotated_rounds}
use Rattle.lisp_etr.proofs.rounds.rotate_all.Given as goal

-- those so far are those of another key
abbrev pub invariant-loop-rounds : goal.invariant-loop-rounds
invariant-loop-rounds l = take l.rounds-index l.all ++ map (rotated_rounds l.now) (drop l.rounds-index l.all) ≡ map (rotated_rounds l.now) l.fn.all
