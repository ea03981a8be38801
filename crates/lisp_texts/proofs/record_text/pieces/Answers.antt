use Rattle.std.proofs.Common.{lit<}
use Rattle.std.proofs.lemmas.Iterator.Consumers.{YieldsList-at, YieldsList-end}
use Rattle.std.proofs.lemmas.Iterator.Splits.{YieldsList-from_str_split}
use Rattle.lisp_texts.proofs.record_text.pieces.Goals as goal

pub returns-clause-value : goal.returns-clause-value
returns-clause-value g c =
    let split = c.split-piece-items.ensures in
    let pieces = YieldsList-at c.into_iter-piece-iterator.ensures.into_iter_gives (YieldsList-from_str_split 43 c.args.text.now (lit< tt) split.text split.has_more split.pattern) in
    rw c.loop-piece.invariant (YieldsList-end pieces c.loop-piece.yielded _ c.loop-piece.yielded_by _ _ c.in-None.is c.next.ensures.steps).0
