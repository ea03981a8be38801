use Rattle.std.proofs.lemmas.Result.{on_ok_weaker}
use Rattle.lisp_requests.proofs.WrittenLemmas.{reply_put}
use Rattle.lisp_requests.proofs.reply.put_reply.Goals as goal

pub returns-clause-written : goal.returns-clause-written
returns-clause-written g c =
    on_ok_weaker c.put_records.result
    (reply_put _ c.args.reply.now c.args.out.now.items c.try_extend_from_slice.new.self.items c.put_records.new.out.items c.head_of.result c.as_slice-records.result.now c.reply.view_is c.requires c.head_of.ensures.head c.as_slice-records.ensures c.in_ok-try_extend_from_slice.ensures.items)
    c.put_records.ensures.records
