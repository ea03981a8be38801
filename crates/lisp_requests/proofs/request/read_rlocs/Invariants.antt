use Rattle.std.proofs.Common.{◌≡◌, ◌-◌, length}
use Rattle.lisp_requests.specs.Reading.{items_at}
use Rattle.lisp_requests.specs.Request.{rloc_at}
use Rattle.lisp_requests.proofs.Loop.{with_front}
use Rattle.lisp_requests.proofs.request.read_rlocs.Given as goal

-- the ITR-RLOCs so far, and those still to read, are what was to be read
abbrev pub invariant-loop : goal.invariant-loop
invariant-loop g l = record {
  read : with_front l.itr_rlocs.items (items_at rloc_at (l.count - l.counter) l.rest) ≡ items_at rloc_at l.count l.bytes;
  count : length l.itr_rlocs.items ≡ l.counter;
}
