use Rattle.std.proofs.Common.{ℕ, List, lit<, refl, subst}
use Rattle.std.proofs.lemmas.Iterator.Consumers.{YieldsList-at, YieldsList-end}
use Rattle.std.proofs.lemmas.Iterator.Splits.{YieldsList-from_str_split}
use Rattle.lisp_json.specs.Object.{AreObjects}
use Rattle.lisp_json.proofs.Lines.{one_more_text}
use Rattle.lisp_json.proofs.object.objects_of.Goals as goal

pub returns-clause-objects : goal.returns-clause-objects
returns-clause-objects g c =
    let split = c.split-line-items.ensures in
    let pieces = YieldsList-at c.into_iter-line-iterator.ensures.into_iter_gives (YieldsList-from_str_split 10 c.args.lines.now (lit< tt) split.text split.has_more split.pattern) in
    subst (λ (ls : List (List ℕ)). AreObjects ls c.loop-line.objects.items) (YieldsList-end pieces c.loop-line.yielded _ c.loop-line.yielded_by _ _ c.in-None.is c.next.ensures.steps).0 c.loop-line.invariant

pub loop-line-init : goal.loop-line-init
unfolding AreObjects
loop-line-init g c = rw c.new-objects.ensures.items refl

pub loop-line-preserved : goal.loop-line-preserved
loop-line-preserved g c = one_more_text c.loop-line.yielded c.in-Some.line _ _ c.loop-line.invariant c.in_ok-put_line.ensures.object
