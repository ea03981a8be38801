use Rattle.std.proofs.Common.{◌≡◌, ◌++◌, take}
use Rattle.std.specs.Prelude.{All}
use Rattle.lisp_records.specs.Address.{IsWhole}
use Rattle.lisp_requests.specs.Request.{written_rlocs}
use Rattle.lisp_requests.proofs.request.put_rlocs.Given as goal

-- those so far are appended, and have spellings
abbrev pub invariant-loop-addr : goal.invariant-loop-addr
invariant-loop-addr g l = record {
  written : l.out.items ≡ l.fn.out.items ++ written_rlocs (take l.addr-index l.itr_rlocs);
  known : All IsWhole (take l.addr-index l.itr_rlocs);
}
