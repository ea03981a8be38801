use Rattle.std.proofs.Common.{◌≡◌, ◌++◌, drop}
use Rattle.lisp_check.specs.Warning.{each, each_from, of_record}
use Rattle.lisp_check.proofs.routers.warn_of_records.Given as goal

-- those that were added, and those that are left
abbrev pub invariant-loop-place : goal.invariant-loop-place
invariant-loop-place g l = l.warnings.items ++ each_from (of_record l.sites l.router l.entry) l.place (drop l.place l.records) ≡ l.fn.warnings.items ++ each (of_record l.sites l.router l.entry) l.records
