use Rattle.std.proofs.Common.{◌≡◌, ◌-◌, List}
use Rattle.lisp_records.specs.declared.address.Addr.{Addr}
use Rattle.lisp_requests.specs.Reading.{items_at}
use Rattle.lisp_requests.specs.Request.{rloc_at}
use Rattle.lisp_requests.proofs.Loop.{with_front}
use Rattle.lisp_requests.proofs.layout.skip_rlocs.Given as goal

-- some were passed, and with those still to pass they are what was to be read
abbrev pub invariant-loop : goal.invariant-loop
invariant-loop l = (front : List Addr) × (with_front front (items_at rloc_at (l.count - l.counter) l.rest) ≡ items_at rloc_at l.count l.bytes)
