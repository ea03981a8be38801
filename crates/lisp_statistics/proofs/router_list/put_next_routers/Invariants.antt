use Rattle.std.specs.String.{string_bytes}
use Rattle.lisp_statistics.specs.RouterList.{listed_text}
use Rattle.lisp_statistics.proofs.Listed.{HasPut}
use Rattle.lisp_statistics.proofs.router_list.put_next_routers.Given as goal

-- the routers so far, and their lines
abbrev pub invariant-loop-count : goal.invariant-loop-count
invariant-loop-count g l = HasPut (listed_text l.config) l.heard.entries l.fn.list l.list (string_bytes l.fn.text) (string_bytes l.text) l._count
