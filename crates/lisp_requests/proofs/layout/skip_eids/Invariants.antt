use Rattle.std.proofs.Common.{◌≡◌, ◌-◌, List}
use Rattle.lisp_records.specs.Address.{PrefixValue}
use Rattle.lisp_requests.specs.Reading.{items_at}
use Rattle.lisp_requests.specs.Request.{eid_at}
use Rattle.lisp_requests.proofs.Loop.{with_front}
use Rattle.lisp_requests.proofs.layout.skip_eids.Given as goal

-- some were passed, and with those still to pass they are what was to be read
abbrev pub invariant-loop : goal.invariant-loop
invariant-loop l = (front : List PrefixValue) × (with_front front (items_at eid_at (l.count - l.counter) l.rest) ≡ items_at eid_at l.count l.bytes)
