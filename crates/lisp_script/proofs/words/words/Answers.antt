use Rattle.std.proofs.Common.{ℕ, List, [], ◌∷◌, ◌++◌, length, Bor, lit<, refl, ap, ◌∙◌}
use Rattle.std.proofs.lemmas.List.{map-append}
use Rattle.std.proofs.lemmas.Iterator.Consumers.{YieldsList-at, YieldsList-turn, YieldsList-end}
use Rattle.std.proofs.lemmas.Iterator.Splits.{YieldsList-from_str_split}
use Rattle.std.proofs.lemmas.Result.{err_from_is_err_and}
use Rattle.lisp_lemmas.proofs.Filled.{filled, left_out, taken, some_filled}
use Rattle.lisp_script.proofs.words.words.Goals as goal

pub returns-clause-value : goal.returns-clause-value
returns-clause-value g c =
    let split = c.split-word-items.ensures in
    let pieces = YieldsList-at c.into_iter-word-iterator.ensures.into_iter_gives (YieldsList-from_str_split 32 c.args.line.now (lit< tt) split.text split.has_more split.pattern) in
    c.loop-word.invariant ∙ ap filled (YieldsList-end pieces c.loop-word.yielded _ c.loop-word.yielded_by _ _ c.in-None.is c.next.ensures.steps).0

pub loop-word-init : goal.loop-word-init
loop-word-init g c = rw c.new-words.ensures.items refl

pub loop-word-preserved : goal.loop-word-preserved
loop-word-preserved g c = c.loop-word.invariant ∙ left_out c.loop-word.yielded c.in-Some.word c.if-not-is_empty.ensures

pub loop-word-preserved-in-Continue-1 : goal.loop-word-preserved-in-Continue-1
loop-word-preserved-in-Continue-1 g c =
    rw c.in_ok-try_push.ensures.items (map-append (λ (w : Bor (List ℕ)). w.now) c.loop-word.words.items (c.in-Some.word ∷ []) ∙ ap (λ (t : List (List ℕ)). t ++ c.in-Some.word.now ∷ []) c.loop-word.invariant ∙ taken c.loop-word.yielded c.in-Some.word c.if-not-is_empty.ensures)

pub returns-clause-memory : goal.returns-clause-memory
returns-clause-memory g c = tt

pub returns-in_err-try_push-clause-value : goal.returns-in_err-try_push-clause-value
returns-in_err-try_push-clause-value g c = let p = err_from_is_err_and c.from_residual.result c.from_residual.ensures.1 in rw p.1 tt

pub returns-in_err-try_push-clause-memory : goal.returns-in_err-try_push-clause-memory
returns-in_err-try_push-clause-memory g c = let p = err_from_is_err_and c.from_residual.result c.from_residual.ensures.1 in rw p.1 c.in_err-try_push.ensures.refused

pub returns-in_err-try_push-clause-asked : goal.returns-in_err-try_push-clause-asked
returns-in_err-try_push-clause-asked g c =
    let split = c.split-word-items.ensures in
    let pieces = YieldsList-at c.into_iter-word-iterator.ensures.into_iter_gives (YieldsList-from_str_split 32 c.args.line.now (lit< tt) split.text split.has_more split.pattern) in
    let turn = YieldsList-turn pieces c.loop-word.yielded _ c.loop-word.yielded_by _ _ c.in-Some.word c.in-Some.is c.next.ensures.steps in
    let p = err_from_is_err_and c.from_residual.result c.from_residual.ensures.1 in
    rw p.1 (some_filled _ (length c.loop-word.yielded) c.in-Some.word.now turn.0 turn.1 c.if-not-is_empty.ensures)
