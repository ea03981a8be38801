use Rattle.std.proofs.Common.{◌∙◌}
use Rattle.lisp_replies.proofs.OwnWalkLaws.{one_more}
use Rattle.lisp_turns.proofs.Answering.{passes_more}
use Rattle.lisp_turns.proofs.requests.Resolving.send_each.Goals as goal

pub loop-datagram-preserved : goal.loop-datagram-preserved
loop-datagram-preserved g c = record {
  passes = rw (one_more c.args.datagrams.now c.loop-datagram.datagram-index c.datagram-item.result c.loop-datagram-test.true c.datagram-item.is) (passes_more c.loop-datagram.invariant.passes c.send.ensures.passes);
  quiet = c.send.ensures.quiet ∙ c.loop-datagram.invariant.quiet;
}
