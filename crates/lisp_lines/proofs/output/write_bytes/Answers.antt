use Rattle.lisp_lines.proofs.OutputLemmas.{Wrote, wrote_none, wrote_more, wrote_zero, wrote_front}
use Rattle.lisp_lines.proofs.output.write_bytes.Goals as goal
use Rattle.lisp_lines.proofs.output.write_bytes.Goals.{in-Ok, in-Err, else-loop-test, then-loop-test+then-is_empty, then-loop-test+else-is_empty+in-Ok-eq0, then-loop-test+else-is_empty+in-Err-2}

pub loop-preserved : goal.loop-preserved
loop-preserved g c =
    elim c.match-write.branch [
      | in-Ok w ↦ rw (w.rest-is, w.split_at.ensures.back) (wrote_more _ _ _ _ _ w.in-Ok.count c.loop.invariant w.in-Ok.ensures.bytes)
      | in-Err w ↦ rw w.rest-is (wrote_none _ _ _ _ _ c.loop.invariant w.in-Err.ensures.bytes)
    ]

pub returns-else-is_empty-2-clause-front : goal.returns-else-is_empty-2-clause-front
returns-else-is_empty-2-clause-front g c =
    let wrote : Wrote (g.W.Write.contents c.args.writer.now) (g.W.Write.contents c.loop-test.writer) c.args.bytes.now c.loop.rest.now = elim c.loop-test.branch [
      | else-loop-test w ↦ rw w.writer-is c.loop.invariant
      | then-loop-test+then-is_empty w ↦ rw w.writer-is c.loop.invariant
      | then-loop-test+else-is_empty+in-Ok-eq0 w ↦ rw w.writer-is (wrote_zero _ _ _ _ _ w.in-Ok-eq0.field-0 w.in-Ok-eq0.field-0-test c.loop.invariant (rw w.in-Ok-eq0.is at w.write.ensures.bytes))
      | then-loop-test+else-is_empty+in-Err-2 w ↦ rw w.writer-is (wrote_none _ _ _ _ _ c.loop.invariant w.in-Err-2.ensures.bytes)
    ] in
    wrote_front _ _ _ _ c.if-is_empty-2.ensures wrote
