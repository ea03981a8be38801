use Rattle.std.proofs.Common.{arith}
use Rattle.lisp_policy.proofs.IndexLaws.{adds_nothing, adds_one, rises_insert}
use Rattle.lisp_policy.proofs.index.Index.add.Goals as goal

pub invariant_of-self-in-Err : goal.invariant_of-self-in-Err
invariant_of-self-in-Err g c = grind (arith, rises_insert)

pub returns-in_ok-make_room-clause-added : goal.returns-in_ok-make_room-clause-added
returns-in_ok-make_room-clause-added g c = grind (arith, adds_one)

pub returns-in_default-clause-added : goal.returns-in_default-clause-added
returns-in_default-clause-added g c = grind (arith, adds_nothing)
