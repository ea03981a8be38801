use Rattle.std.proofs.lemmas.Result.{err_from_is_err_and}
use Rattle.std.specs.String.{string_bytes}
use Rattle.lisp_lines.proofs.Acks.{acks_more, acks_front}
use Rattle.lisp_lines.proofs.query.put_acks.Goals as goal

pub loop-part-preserved : goal.loop-part-preserved
loop-part-preserved g c =
    acks_more c.args.config.now c.args.router c.args.server c.args.counted.now c.loop-part.part _ c.loop-part-test.true (string_bytes c.args.text.now) _ _ c.loop-part.invariant c.in_ok-put_ack.ensures.text

pub returns-in_err-put_ack-clause-front : goal.returns-in_err-put_ack-clause-front
returns-in_err-put_ack-clause-front g c =
    let p = err_from_is_err_and c.from_residual.result c.from_residual.ensures.1 in
    rw p.1 (acks_front c.args.config.now c.args.router c.args.server c.args.counted.now c.loop-part.part _ c.loop-part-test.true (string_bytes c.args.text.now) _ _ c.loop-part.invariant c.in_err-put_ack.ensures.front)
