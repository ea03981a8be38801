use Rattle.std.proofs.Common.{◌≡◌, ◌++◌, take, drop, map}
use Rattle.lisp_etr.specs.Rounds.{new_rounds}
use Rattle.lisp_etr.proofs.rounds.begin_all.Given as goal

-- those so far are new ones
abbrev pub invariant-loop-rounds : goal.invariant-loop-rounds
invariant-loop-rounds l = take l.rounds-index l.all ++ map (new_rounds l.now) (drop l.rounds-index l.all) ≡ map (new_rounds l.now) l.fn.all
