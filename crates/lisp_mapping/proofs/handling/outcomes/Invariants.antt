use Rattle.std.proofs.Common.{◌≡◌, map, take}
use Rattle.lisp_mapping.specs.Handling.{outcome_of}
use Rattle.lisp_mapping.proofs.handling.outcomes.Given as goal

-- what is said of the replies so far
abbrev pub invariant-loop-reply : goal.invariant-loop-reply
invariant-loop-reply g l = l.outcomes.items ≡ map outcome_of (take l.reply-index l.replies)
