use Rattle.std.proofs.Common.{◌≡◌, take}
use Rattle.std.specs.Option.{option_map}
use Rattle.lisp_control.specs.Disallowed.{disallowed_of}
use Rattle.lisp_control.proofs.disallowed.disallowed_of.Given as goal

-- those so far
abbrev pub invariant-loop-entry : goal.invariant-loop-entry
invariant-loop-entry l = l.eids.items ≡ disallowed_of (option_map (λ s. s.now) l.site) (take l.entry-index l.records)
