use Rattle.std.proofs.Common.{length, lit<, refl, sym, ap, ◌∙◌}
use Rattle.std.proofs.lemmas.Iterator.Consumers.{YieldsList-at, YieldsList-turn, YieldsList-end}
use Rattle.std.proofs.lemmas.Iterator.Splits.{YieldsList-from_str_split}
use Rattle.lisp_lemmas.proofs.Filled.{filled, left_out, some_filled}
use Rattle.lisp_script.proofs.Numbers.{no_words, some_words}
use Rattle.lisp_script.proofs.line_numbers.has_words.Goals as goal

pub loop-word-init : goal.loop-word-init
loop-word-init c = refl

pub loop-word-preserved : goal.loop-word-preserved
loop-word-preserved c = sym (left_out c.loop-word.yielded c.in-Some.word c.if-not-is_empty.ensures) ∙ c.loop-word.invariant

pub returns : goal.returns
returns c =
    let split = c.split-word-items.ensures in
    let pieces = YieldsList-at c.into_iter-word-iterator.ensures.into_iter_gives (YieldsList-from_str_split 32 c.args.line.now (lit< tt) split.text split.has_more split.pattern) in
    no_words _ (sym (ap filled (YieldsList-end pieces c.loop-word.yielded _ c.loop-word.yielded_by _ _ c.in-None.is c.next.ensures.steps).0) ∙ c.loop-word.invariant)

pub returns-then-not-is_empty : goal.returns-then-not-is_empty
returns-then-not-is_empty c =
    let split = c.split-word-items.ensures in
    let pieces = YieldsList-at c.into_iter-word-iterator.ensures.into_iter_gives (YieldsList-from_str_split 32 c.args.line.now (lit< tt) split.text split.has_more split.pattern) in
    let turn = YieldsList-turn pieces c.loop-word.yielded _ c.loop-word.yielded_by _ _ c.in-Some.word c.in-Some.is c.next.ensures.steps in
    some_words _ (some_filled _ (length c.loop-word.yielded) c.in-Some.word.now turn.0 turn.1 c.if-not-is_empty.ensures)
