use Rattle.std.proofs.Common.{◌≡◌, ◌++◌, drop}
use Rattle.lisp_check.specs.Warning.{each, each_from, of_router}
use Rattle.lisp_check.proofs.routers.warn_of_routers.Given as goal

-- those that were added, and those that are left
abbrev pub invariant-loop-place : goal.invariant-loop-place
invariant-loop-place g l = l.warnings.items ++ each_from (of_router l.config) l.place (drop l.place l.routers) ≡ l.fn.warnings.items ++ each (of_router l.config) l.routers
