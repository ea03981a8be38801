use Rattle.std.proofs.Common.{◌≡◌, ◌++◌, drop}
use Rattle.lisp_check.specs.Warning.{each, each_from, of_prefix}
use Rattle.lisp_check.proofs.prefixes.warn_of_prefixes.Given as goal

-- those that were added, and those that are left
abbrev pub invariant-loop-place : goal.invariant-loop-place
invariant-loop-place g l = l.warnings.items ++ each_from (of_prefix l.sites l.site l.id) l.place (drop l.place l.prefixes) ≡ l.fn.warnings.items ++ each (of_prefix l.sites l.site l.id) l.prefixes
