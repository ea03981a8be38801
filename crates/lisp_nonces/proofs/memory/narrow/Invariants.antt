use Rattle.std.proofs.Common.{◌≡◌, ◌++◌, All, take, drop, map}
use Rattle.lisp_nonces.specs.Entries.{HasValues, narrowed}
use Rattle.lisp_nonces.proofs.memory.narrow.Given as goal

-- the entries so far had values and are narrowed, and the others are as they were
abbrev pub invariant-loop-entry : goal.invariant-loop-entry
invariant-loop-entry g l = record {
  narrowed : take l.entry-index l.entries ++ map (narrowed l.pick) (drop l.entry-index l.entries) ≡ map (narrowed l.pick) l.fn.entries;
  some : All HasValues (take l.entry-index l.fn.entries);
  others : drop l.entry-index l.entries ≡ drop l.entry-index l.fn.entries;
}
