use Rattle.std.proofs.Common.{ap, ◌∙◌}
use Rattle.lisp_requests.specs.Reading.{lifted, items_at}
use Rattle.lisp_requests.specs.Reply.{reply_record_at}
use Rattle.lisp_requests.proofs.Loop.{goes_on, ends, is_done, counted}
use Rattle.lisp_requests.proofs.ReplyLemmas.{record_fails}
use Rattle.lisp_requests.proofs.reply.read_records.Goals as goal

pub returns-in-Err-clause-records : goal.returns-in-Err-clause-records
returns-in-Err-clause-records g c other =
    let fails = record_fails c.in-Err.fault c.loop.rest.now c.in-Err.ensures.exact (λ is. other (c.from.ensures ∙ is)) in
    rw c.from.ensures (ends reply_record_at _ c.loop.records.items c.args.count c.loop.counter c.loop.rest.now (items_at reply_record_at c.args.count c.args.bytes.now) c.loop-test.true fails c.loop.invariant.read)

pub loop-preserved : goal.loop-preserved
loop-preserved g c = record {
  read =
      rw (c.in_ok-try_push-in-Ok.ensures.items, c.split_at.ensures.back)
      (goes_on reply_record_at c.loop.records.items c.args.count c.loop.counter c.loop.rest.now c.in-Ok.record _ (items_at reply_record_at c.args.count c.args.bytes.now) c.loop-test.true (ap lifted c.in-Ok.ensures.exact) c.loop.invariant.read);
  count = counted c.loop.records.items _ c.in-Ok.record c.loop.counter c.in_ok-try_push-in-Ok.ensures.items c.loop.invariant.count;
}

pub returns-clause-records : goal.returns-clause-records
returns-clause-records g c = is_done reply_record_at c.loop.records.items c.args.count c.loop.counter c.loop.rest.now (items_at reply_record_at c.args.count c.args.bytes.now) c.loop-test.false c.loop.invariant.read
