use Rattle.std.proofs.Common.{◌≡◌, ◌++◌, drop}
use Rattle.lisp_check.specs.Warning.{each, each_from, of_server}
use Rattle.lisp_check.proofs.routers.warn_of_servers.Given as goal

-- those that were added, and those that are left
abbrev pub invariant-loop-place : goal.invariant-loop-place
invariant-loop-place g l = l.warnings.items ++ each_from (of_server l.servers l.router l.entry) l.place-index (drop l.place-index l.places) ≡ l.fn.warnings.items ++ each (of_server l.servers l.router l.entry) l.places
