use Rattle.std.proofs.Common.{◌≡◌, ◌+◌, ◌*◌, ◌≤◌, length, take}
use Rattle.lisp_records.specs.Address.{family, width}
use Rattle.lisp_records.specs.Written.{written_locators}
use Rattle.lisp_records.proofs.record.MapRecord.written_len.Given as goal

-- the length of all that stands before the next locator
abbrev pub invariant-loop-locator : goal.invariant-loop-locator
invariant-loop-locator g l = record {
  len : l.len ≡ 12 + width (family l.self.eid.addr) + length (written_locators (take l.locator-index l.locator-items));
  small : l.len ≤ 28 + 24 * l.locator-index;
}
