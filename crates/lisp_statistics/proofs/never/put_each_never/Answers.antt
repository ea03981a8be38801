use Rattle.std.specs.Map.{keys_of}
use Rattle.std.specs.String.{string_bytes}
use Rattle.lisp_statistics.specs.Never.{never_words}
use Rattle.lisp_statistics.proofs.Counting.{one_more_here}
use Rattle.lisp_statistics.proofs.never.put_each_never.Goals as goal

pub loop-router-preserved : goal.loop-router-preserved
loop-router-preserved g c =
    one_more_here (never_words c.args.number (keys_of c.args.heard.now.entries)) (string_bytes c.args.text.now) c.args.routers.now c.loop-router.router-index c.router-item.result _ _
    c.loop-router-test.true c.router-item.is c.loop-router.invariant c.in_ok-put_if_never.ensures.text
