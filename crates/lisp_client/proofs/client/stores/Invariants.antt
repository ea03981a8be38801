use Rattle.std.proofs.Common.{◌≡◌, replicate}
use Rattle.lisp_client.specs.Stores.{fresh}
use Rattle.lisp_client.proofs.client.stores.Given as goal

-- a store for each turn so far
abbrev pub invariant-loop : goal.invariant-loop
invariant-loop g l = l.stores.items ≡ replicate l.counter fresh
