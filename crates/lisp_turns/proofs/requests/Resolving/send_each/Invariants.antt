use Rattle.std.proofs.Common.{◌≡◌, take}
use Rattle.lisp_turns.specs.Stretch.{PassesAll}
use Rattle.lisp_turns.proofs.requests.Resolving.send_each.Given as goal

abbrev pub invariant-loop-datagram : goal.invariant-loop-datagram
invariant-loop-datagram g l = record {
  passes : PassesAll l.now l.from (take l.datagram-index l.datagrams) l.fn.self.budget l.self.budget (g.O.Outside.seen l.fn.outside) (g.O.Outside.seen l.outside);
  quiet : l.self.quiet ≡ l.fn.self.quiet;
}
