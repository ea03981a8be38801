use Rattle.std.proofs.Common.{◌-◌, ◌≤◌}
use Rattle.lisp_lookup.proofs.SitesLaws.{WasIn}
use Rattle.lisp_lookup.proofs.sites.widest_without.Given as goal

-- the other prefix lies in each wider one
abbrev pub invariant-loop-length : goal.invariant-loop-length
invariant-loop-length l = record { within : l.length ≤ l.longest; was : WasIn l.addr l.other l.length }

abbrev pub decreases-loop-length : goal.decreases-loop-length
decreases-loop-length l = l.longest - l.length
