use Rattle.std.proofs.Common.{ap}
use Rattle.lisp_udp.proofs.ObjectLines.{front_taken, nothing_taken}
use Rattle.lisp_udp.proofs.object_output.ObjectOutput.pour.Goals as goal

pub returns-then-is_idle : goal.returns-then-is_idle
returns-then-is_idle g c = nothing_taken (g.S.Sink.taken c.args.self.now.sink) c.args.self.now.rest.items

pub returns : goal.returns
returns g c =
    front_taken (g.S.Sink.taken c.args.self.now.sink) (g.S.Sink.taken c.take-taken.new.self) (g.S.Sink.taken c.forget.new.self.sink) c.as_slice.result.now c.args.self.now.rest.items
    c.forget.new.self.rest.items c.take-taken.result c.as_slice.ensures.value c.take-taken.ensures.taken (ap g.S.Sink.taken c.forget.ensures.sink) c.forget.ensures.rest
