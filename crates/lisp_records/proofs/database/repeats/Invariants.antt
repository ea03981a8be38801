use Rattle.std.proofs.Common.{◌≡◌, drop}
use Rattle.lisp_records.specs.Database.{repeats}
use Rattle.lisp_records.proofs.database.repeats.Given as goal

-- the records from here on repeat where all do
abbrev pub invariant-loop-i : goal.invariant-loop-i
invariant-loop-i g l = repeats (drop l.i l.records) ≡ repeats l.records
