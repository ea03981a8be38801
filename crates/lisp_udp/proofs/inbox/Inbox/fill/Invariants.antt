use Rattle.std.proofs.Common.{◌≡◌, length}
use Rattle.lisp_udp.specs.Inbox.{Grows, KeepsRest}
use Rattle.lisp_udp.proofs.inbox.Inbox.fill.Given as goal

abbrev pub invariant-loop : goal.invariant-loop
invariant-loop l = record {
  grows : Grows l.fn.self.heard l.self.heard;
  shares : l.self.heard.taken ≡ l.fn.self.heard.taken;
  rest : KeepsRest l.fn.self.heard l.self.heard;
  room : length l.buffer ≡ length l.fn.buffer;
}
