use Rattle.std.proofs.Common.{sym}
use Rattle.std.proofs.lemmas.Iterator.Consumers.{YieldsList-at, YieldsList-from_enumerate, YieldsList-so_far, YieldsList-turn, YieldsList-end}
use Rattle.std.proofs.lemmas.Iterator.Splits.{YieldsList-from_lines}
use Rattle.std.specs.Str.Lines.{lines}
use Rattle.lisp_lemmas.proofs.NumberedLines.{next_line, all_yielded}
use Rattle.lisp_script.proofs.Numbers.{none, one_more, as_many}
use Rattle.lisp_script.proofs.line_numbers.command_lines.Goals as goal

pub loop-place-init : goal.loop-place-init
loop-place-init g c = rw c.new-numbers.ensures.items (sym (none 1))

pub loop-place-preserved : goal.loop-place-preserved
loop-place-preserved g c =
    let numbered = YieldsList-at c.into_iter-place-iterator.ensures.into_iter_gives (YieldsList-from_enumerate (YieldsList-at c.enumerate-place-items.ensures.source (YieldsList-from_lines c.args.text.now c.lines.ensures.rest)) c.enumerate-place-items.ensures.count) in
    let turn = YieldsList-turn numbered c.loop-place.yielded _ c.loop-place.yielded_by _ _ (c.in-Some.place, c.in-Some.line) c.in-Some.is c.next.ensures.steps in
    let next = next_line (lines c.args.text.now) c.loop-place.yielded (c.in-Some.place, c.in-Some.line) (YieldsList-so_far numbered c.loop-place.yielded _ c.loop-place.yielded_by) turn in
    one_more (lines c.args.text.now) c.loop-place.yielded (c.in-Some.place, c.in-Some.line) c.loop-place.numbers.items c.add_line.new.numbers.items next c.loop-place.invariant c.in_ok-add_line.ensures.adds

pub returns-clause-lines : goal.returns-clause-lines
returns-clause-lines g c =
    let numbered = YieldsList-at c.into_iter-place-iterator.ensures.into_iter_gives (YieldsList-from_enumerate (YieldsList-at c.enumerate-place-items.ensures.source (YieldsList-from_lines c.args.text.now c.lines.ensures.rest)) c.enumerate-place-items.ensures.count) in
    let all = all_yielded (lines c.args.text.now) c.loop-place.yielded (YieldsList-end numbered c.loop-place.yielded _ c.loop-place.yielded_by _ _ c.in-None.is c.next.ensures.steps).0 in
    rw all at c.loop-place.invariant

pub returns-clause-counts : goal.returns-clause-counts
returns-clause-counts g c =
    let numbered = YieldsList-at c.into_iter-place-iterator.ensures.into_iter_gives (YieldsList-from_enumerate (YieldsList-at c.enumerate-place-items.ensures.source (YieldsList-from_lines c.args.text.now c.lines.ensures.rest)) c.enumerate-place-items.ensures.count) in
    let all = all_yielded (lines c.args.text.now) c.loop-place.yielded (YieldsList-end numbered c.loop-place.yielded _ c.loop-place.yielded_by _ _ c.in-None.is c.next.ensures.steps).0 in
    rw (rw all at c.loop-place.invariant) (λ config orders is. as_many config 1 (lines c.args.text.now) orders is)
