use Rattle.lisp_log.proofs.Pouring.{gives}
use Rattle.lisp_log.proofs.waiting.Waiting.give.Goals as goal

-- what the sink was offered is what waited
pub returns : goal.returns
returns g c =
    rw (← c.self.view_is)
    (gives c.self.inside.bytes c.as_slice.result.now c.forget.new.self c.self.inside.dropped (g.S.Sink.taken c.args.sink.now) (g.S.Sink.taken c.take-taken.new.self) c.take-taken.result
    c.as_slice.ensures c.take-taken.ensures.taken c.forget.ensures)
