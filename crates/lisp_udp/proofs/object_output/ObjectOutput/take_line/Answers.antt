use Rattle.lisp_udp.proofs.ObjectLines.{line_written, nothing_written}
use Rattle.lisp_udp.proofs.object_output.ObjectOutput.take_line.Goals as goal

pub returns-then-not-is_idle-clause-objects : goal.returns-then-not-is_idle-clause-objects
returns-then-not-is_idle-clause-objects g c = nothing_written (g.S.Sink.taken c.args.self.now.sink) c.args.self.now.rest.items c.args.bytes.now

pub returns-in_default-clause-objects : goal.returns-in_default-clause-objects
returns-in_default-clause-objects g c = nothing_written (g.S.Sink.taken c.args.self.now.sink) c.args.self.now.rest.items c.args.bytes.now

pub returns-in_default-object-clause-objects : goal.returns-in_default-object-clause-objects
returns-in_default-object-clause-objects g c = nothing_written (g.S.Sink.taken c.args.self.now.sink) c.args.self.now.rest.items c.args.bytes.now

pub returns-clause-objects : goal.returns-clause-objects
returns-clause-objects g c =
    line_written (g.S.Sink.taken c.args.self.now.sink) (g.S.Sink.taken c.pour.new.self.sink) c.args.self.now.rest.items c.pour.new.self.rest.items c.args.bytes.now c.in-Some.line.now
    c.in-Ok.object.items (c.is_idle.ensures.0 c.if-not-is_idle.false) c.in-Some.ensures.line c.in-Ok.ensures.object c.pour.ensures
