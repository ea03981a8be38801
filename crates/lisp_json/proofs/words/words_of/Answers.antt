use Rattle.std.proofs.Common.{ℕ, List, [], ◌∷◌, ◌++◌, Bor, lit<, refl, sym, ap, ◌∙◌}
use Rattle.std.proofs.lemmas.List.{map_push}
use Rattle.std.proofs.lemmas.Iterator.Consumers.{YieldsList-at, YieldsList-end}
use Rattle.std.proofs.lemmas.Iterator.Splits.{YieldsList-from_str_split}
use Rattle.lisp_json.proofs.words.words_of.Goals as goal

pub returns-clause-words : goal.returns-clause-words
returns-clause-words g c =
    let split = c.split-word-items.ensures in
    let pieces = YieldsList-at c.into_iter-word-iterator.ensures.into_iter_gives (YieldsList-from_str_split 32 c.args.line.now (lit< tt) split.text split.has_more split.pattern) in
    c.loop-word.invariant ∙ (YieldsList-end pieces c.loop-word.yielded _ c.loop-word.yielded_by _ _ c.in-None.is c.next.ensures.steps).0

pub loop-word-init : goal.loop-word-init
loop-word-init g c = rw c.new-words.ensures.items refl

pub loop-word-preserved : goal.loop-word-preserved
loop-word-preserved g c =
    rw c.in_ok-try_extend_from_slice.ensures.items (map_push (λ (w : Bor (List ℕ)). w.now) c.loop-word.words.items c.in-Some.word
    ∙ ap (λ (t : List (List ℕ)). t ++ c.in-Some.word.now ∷ []) c.loop-word.invariant ∙ sym (map_push (λ (w : Bor (List ℕ)). w.now) c.loop-word.yielded c.in-Some.word))
