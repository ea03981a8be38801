use Rattle.std.proofs.Common.{◌≡◌, take}
use Rattle.lisp_lookup.specs.Records.{live_of}
use Rattle.lisp_lookup.proofs.live.copy_live.Given as goal

abbrev pub invariant-loop-row : goal.invariant-loop-row
invariant-loop-row g l = l.records.items ≡ live_of (take l.row-index l.rows) l.router l.now
