use Rattle.std.proofs.Common.{◌≡◌, ◌<◌, [], ap, ◌∙◌, sym, subst}
use Rattle.lisp_log.specs.Waiting.{WaitingState}
use Rattle.lisp_log.proofs.Pouring.{emptied, pours_both}
use Rattle.lisp_log.proofs.waiting.Waiting.pour.Goals as goal

-- nothing waited any more, so the line was offered
pub returns-then-self-gt0 : goal.returns-then-self-gt0
returns-then-self-gt0 g c =
    let empty : c.give.new.self.bytes ≡ [] = sym (ap (λ (w : WaitingState). w.bytes) c.self.view_is) ∙ emptied c.self.inside.bytes c.len.result c.len.ensures.count c.if-len-eq0.true in
    let some : 0 < c.give.new.self.dropped = subst (λ (w : WaitingState). 0 < w.dropped) c.self.view_is c.if-self-gt0.true in
    pours_both c.args.self.now c.give.new.self c.tell_dropped.new.self c.give-then-self-gt0.new.self (g.S.Sink.taken c.args.sink.now) (g.S.Sink.taken c.give.new.sink) (g.S.Sink.taken c.give-then-self-gt0.new.sink)
    c.give.ensures empty some c.tell_dropped.ensures c.give-then-self-gt0.ensures
