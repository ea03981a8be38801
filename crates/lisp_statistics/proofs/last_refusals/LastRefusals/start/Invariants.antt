use Rattle.std.proofs.Common.{take}
use Rattle.lisp_statistics.specs.LastRefusals.{NoneRefused}
use Rattle.lisp_statistics.proofs.last_refusals.LastRefusals.start.Given as goal

-- the addresses of the routers so far
abbrev pub invariant-loop-router : goal.invariant-loop-router
invariant-loop-router g l = NoneRefused (take l.router-index l.routers) l.by_address
