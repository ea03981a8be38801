use Rattle.std.proofs.Common.{◌∙◌, sym}
use Rattle.std.proofs.lemmas.Iterator.Consumers.{YieldsList-at, YieldsList-from_enumerate, YieldsList-so_far, YieldsList-turn, YieldsList-end}
use Rattle.std.proofs.lemmas.Iterator.Splits.{YieldsList-from_lines}
use Rattle.std.specs.Str.Lines.{lines}
use Rattle.lisp_lemmas.proofs.NumberedLines.{next_line, all_yielded}
use Rattle.lisp_upkeep.proofs.Lists.{nothing_yet, goes_on, all_said, stops}
use Rattle.lisp_upkeep.proofs.list.read_list.Goals as goal

pub loop-place-init : goal.loop-place-init
loop-place-init g c = nothing_yet _ c.new-nonces.ensures.items

pub loop-place-preserved : goal.loop-place-preserved
loop-place-preserved g c =
    goes_on c.loop-place.yielded (c.in-Some.place, c.in-Some.line) _ _ c.loop-place.invariant (sym c.if-not-branch.false ∙ c.in_ok-add_line.ensures.right) c.in_ok-add_line.ensures.added

pub returns-then-not-branch : goal.returns-then-not-branch
returns-then-not-branch g c =
    let numbered = YieldsList-at c.into_iter-place-iterator.ensures.into_iter_gives (YieldsList-from_enumerate (YieldsList-at c.enumerate-place-items.ensures.source (YieldsList-from_lines c.args.text.now c.lines.ensures.rest)) c.enumerate-place-items.ensures.count) in
    let turn = YieldsList-turn numbered c.loop-place.yielded _ c.loop-place.yielded_by _ _ (c.in-Some.place, c.in-Some.line) c.in-Some.is c.next.ensures.steps in
    let next = next_line (lines c.args.text.now) c.loop-place.yielded (c.in-Some.place, c.in-Some.line) (YieldsList-so_far numbered c.loop-place.yielded _ c.loop-place.yielded_by) turn in
    stops (lines c.args.text.now) c.loop-place.yielded (c.in-Some.place, c.in-Some.line) _ c.loop-place.invariant (sym c.if-not-branch.true ∙ c.in_ok-add_line.ensures.right) next

pub returns : goal.returns
returns g c =
    let numbered = YieldsList-at c.into_iter-place-iterator.ensures.into_iter_gives (YieldsList-from_enumerate (YieldsList-at c.enumerate-place-items.ensures.source (YieldsList-from_lines c.args.text.now c.lines.ensures.rest)) c.enumerate-place-items.ensures.count) in
    let all = all_yielded (lines c.args.text.now) c.loop-place.yielded (YieldsList-end numbered c.loop-place.yielded _ c.loop-place.yielded_by _ _ c.in-None.is c.next.ensures.steps).0 in
    all_said (lines c.args.text.now) _ (rw all at c.loop-place.invariant)
