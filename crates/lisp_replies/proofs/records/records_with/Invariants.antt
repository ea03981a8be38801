use Rattle.std.proofs.Common.{◌≡◌, ◌-◌, length}
use Rattle.lisp_records.specs.Address.{PrefixValue}
use Rattle.lisp_replies.proofs.SeenLaws.{AreMade}
use Rattle.lisp_replies.proofs.records.records_with.Given as goal

-- the walk is behind a prefix, and up to there the records were made
abbrev pub invariant-loop-row : goal.invariant-loop-row
invariant-loop-row g l = (after : PrefixValue)
    × (l.inside ≡ record { rows = l.fn.inside.rows; outer = l.eid; moment = l.fn.inside.moment; after = after })
    × AreMade l.fn.inside.rows l.best l.eid l.fn.inside.moment l.ttl after l.records.items l.size

abbrev pub decreases-loop-row : goal.decreases-loop-row
decreases-loop-row g l = 255 - length l.records.items
