use Rattle.std.proofs.Common.{◌≡◌, drop}
use Rattle.lisp_records.specs.Database.{has_prefix}
use Rattle.lisp_records.proofs.database.has_prefix.Given as goal

-- some record from here on is of the EID-Prefix where one of all is
abbrev pub invariant-loop-record : goal.invariant-loop-record
invariant-loop-record g l = has_prefix l.eid (drop l.record-index l.records) ≡ has_prefix l.eid l.records
