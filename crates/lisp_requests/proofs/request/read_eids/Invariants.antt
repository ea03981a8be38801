use Rattle.std.proofs.Common.{◌≡◌, ◌-◌, length}
use Rattle.lisp_requests.specs.Reading.{items_at}
use Rattle.lisp_requests.specs.Request.{eid_at}
use Rattle.lisp_requests.proofs.Loop.{with_front}
use Rattle.lisp_requests.proofs.request.read_eids.Given as goal

-- the EID-Prefixes so far, and those still to read, are what was to be read
abbrev pub invariant-loop : goal.invariant-loop
invariant-loop g l = record {
  read : with_front l.eids.items (items_at eid_at (l.count - l.counter) l.rest) ≡ items_at eid_at l.count l.bytes;
  count : length l.eids.items ≡ l.counter;
}
