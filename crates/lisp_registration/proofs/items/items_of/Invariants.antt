use Rattle.std.proofs.Common.{◌≡◌, length, drop}
use Rattle.lisp_registration.specs.Meaning.{each_in}
use Rattle.lisp_registration.proofs.Loops.{with_front}
use Rattle.lisp_registration.proofs.items.items_of.Given as goal

-- those so far, and those still to make, are what was to be made
abbrev pub invariant-loop-one : goal.invariant-loop-one
invariant-loop-one g l = record {
  made : with_front l.items.items (each_in g.P.Says.said (drop l.one-index l.plain)) ≡ each_in g.P.Says.said l.plain;
  count : length l.items.items ≡ l.one-index;
}
