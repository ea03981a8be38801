use Rattle.std.proofs.Common.{◌≡◌, ◌-◌}
use Rattle.lisp_records.specs.Address.{PrefixValue}
use Rattle.lisp_replies.proofs.SeenLaws.{IsWalked}
use Rattle.lisp_replies.proofs.records.least_ttl.Given as goal

-- the walk is behind a prefix, and up to there all was seen
abbrev pub invariant-loop-row : goal.invariant-loop-row
invariant-loop-row g l = (after : PrefixValue)
    × (l.inside ≡ record { rows = l.fn.inside.rows; outer = l.fn.inside.outer; moment = l.fn.inside.moment; after = after })
    × IsWalked l.fn.inside.rows l.best l.fn.inside.outer l.fn.inside.moment after l.count l.least

abbrev pub decreases-loop-row : goal.decreases-loop-row
decreases-loop-row g l = 255 - l.count
