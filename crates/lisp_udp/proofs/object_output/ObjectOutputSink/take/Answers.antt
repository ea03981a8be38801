use Rattle.std.proofs.Common.{arith}
use Rattle.lisp_udp.proofs.ObjectLines.{front_written, more_taken}
use Rattle.lisp_udp.proofs.object_output.ObjectOutputSink.take.Goals as goal

pub loop-taken-init : goal.loop-taken-init
loop-taken-init g c =
    (omega arith, front_written (g.S.Sink.taken c.args.self.now.sink) (g.S.Sink.taken c.pour.new.self.sink) c.args.self.now.rest.items c.pour.new.self.rest.items c.args.bytes.now c.pour.ensures)

pub loop-taken-preserved : goal.loop-taken-preserved
loop-taken-preserved g c =
    let inside = c.take_line-count.ensures.within in
    let long = c.split_at.ensures.back_len in (
      omega (arith, inside, long),
      more_taken (g.S.Sink.taken c.args.self.now.sink) (g.S.Sink.taken c.loop-taken.self.sink) (g.S.Sink.taken c.take_line-count.new.self.sink) c.args.self.now.rest.items
          c.loop-taken.self.rest.items c.take_line-count.new.self.rest.items c.args.bytes.now _ c.loop-taken.taken c.take_line-count.result c.split_at.ensures.back c.loop-taken.invariant.1
          c.take_line-count.ensures.objects,
    )

pub returns-then-count-eq0-clause-objects : goal.returns-then-count-eq0-clause-objects
returns-then-count-eq0-clause-objects g c =
    more_taken (g.S.Sink.taken c.args.self.now.sink) (g.S.Sink.taken c.loop-taken.self.sink) (g.S.Sink.taken c.take_line-count.new.self.sink) c.args.self.now.rest.items
    c.loop-taken.self.rest.items c.take_line-count.new.self.rest.items c.args.bytes.now _ c.loop-taken.taken c.take_line-count.result c.split_at.ensures.back c.loop-taken.invariant.1
    c.take_line-count.ensures.objects
