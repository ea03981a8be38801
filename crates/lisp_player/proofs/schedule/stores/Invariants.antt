use Rattle.std.proofs.Common.{◌≡◌, replicate}
use Rattle.lisp_player.specs.Schedule.{fresh}
use Rattle.lisp_player.proofs.schedule.stores.Given as goal

-- a store for each turn so far
abbrev pub invariant-loop : goal.invariant-loop
invariant-loop g l = l.stores.items ≡ replicate l.counter fresh
