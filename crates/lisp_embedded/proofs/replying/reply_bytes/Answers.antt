use Rattle.std.proofs.Common.{subst}
use Rattle.lisp_embedded.specs.Replying.{Fits}
use Rattle.lisp_embedded.proofs.Replies.{short_negative, short_records}
use Rattle.lisp_embedded.proofs.replying.reply_bytes.Goals as goal

pub returns-in-Records-clause-short : goal.returns-in-Records-clause-short
returns-in-Records-clause-short g c = short_records c.map_reply.result (λ v. v.items) c.args.probe c.args.nonce c.in-Records.records (subst Fits c.in-Records.is c.requires.fits) c.map_reply.ensures.bytes

pub returns-in_ok-records-in-Negative-clause-short : goal.returns-in_ok-records-in-Negative-clause-short
returns-in_ok-records-in-Negative-clause-short g c =
    short_negative c.map_reply-in-Negative.result (λ v. v.items) c.args.of c.args.probe c.args.nonce c.in-Negative.hole c.in_ok-records-in-Negative.records c.in_ok-records-in-Negative.ensures.one
    c.map_reply-in-Negative.ensures.known c.map_reply-in-Negative.ensures.bytes
