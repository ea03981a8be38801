use Rattle.std.proofs.Common.{map}
use Rattle.lisp_world.proofs.Making.{SoFar}
use Rattle.lisp_world.proofs.new.nodes.Given as goal

-- the nodes over the stores so far
abbrev pub invariant-loop-store : goal.invariant-loop-store
invariant-loop-store g l = SoFar l.config (map g.S.NonceStore.seen l.yielded) l.servers.items l.routers.items
