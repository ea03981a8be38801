use Rattle.std.proofs.Common.{◌≡◌, length, drop}
use Rattle.lisp_registration.specs.Meaning.{records_in}
use Rattle.lisp_registration.proofs.Loops.{with_front}
use Rattle.lisp_registration.proofs.record.each_record.Given as goal

-- the records so far, and those still to make of the locators that are left, are what was to be made
abbrev pub invariant-loop-entry : goal.invariant-loop-entry
invariant-loop-entry g l = record {
  made : with_front l.records.items (records_in (drop l.entry-index l.plain) l.rest) ≡ records_in l.plain l.locators;
  count : length l.records.items ≡ l.entry-index;
}
