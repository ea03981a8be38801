use Rattle.std.proofs.Common.{◌≡◌, ◌++◌, take}
use Rattle.std.specs.Prelude.{All}
use Rattle.lisp_requests.specs.Request.{IsEid, written_eids}
use Rattle.lisp_requests.proofs.request.put_eids.Given as goal

-- those so far are appended, and have spellings
abbrev pub invariant-loop-eid : goal.invariant-loop-eid
invariant-loop-eid g l = record {
  written : l.out.items ≡ l.fn.out.items ++ written_eids (take l.eid-index l.eids);
  known : All IsEid (take l.eid-index l.eids);
}
