use Rattle.std.proofs.Common.{ap}
use Rattle.std.proofs.lemmas.Option.{IfSome_then}
use Rattle.lisp_refinement.specs.World.{ServerNodeState}
use Rattle.lisp_turns.specs.Node.{Server}
use Rattle.lisp_turns.proofs.DeadRows.{none_dead}
use Rattle.lisp_turns.proofs.server.ServerNodeNode.expire.Goals as goal

pub returns-clause-drops : goal.returns-clause-drops
returns-clause-drops g c = IfSome_then c.expire_one.result c.expire_one.ensures.dropped (λ key drops. (drops, c.expire_one.ensures.rest))

pub returns-clause-none : goal.returns-clause-none
returns-clause-none g c = λ is. (let none = c.expire_one.ensures.none is in (none_dead c.args.self.now c.args.now none.0, ap (λ (n : ServerNodeState). Server n) none.1))
