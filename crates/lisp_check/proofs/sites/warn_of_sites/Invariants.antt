use Rattle.std.proofs.Common.{◌≡◌, ◌++◌, drop}
use Rattle.lisp_check.specs.Warning.{each, each_from, of_site}
use Rattle.lisp_check.proofs.sites.warn_of_sites.Given as goal

-- those that were added, and those that are left
abbrev pub invariant-loop-place : goal.invariant-loop-place
invariant-loop-place g l = l.warnings.items ++ each_from (of_site l.sites l.routers) l.place (drop l.place l.sites) ≡ l.fn.warnings.items ++ each (of_site l.sites l.routers) l.sites
