use Rattle.std.proofs.Common.{ℕ, List, Bor, ◌++◌, codes, ap, ◌∙◌}
use Rattle.std.specs.List.{flat_map}
use Rattle.std.proofs.lemmas.List.{take_all}
use Rattle.json.specs.Print.{quoted}
use Rattle.lisp_json.specs.Words.{texts}
use Rattle.lisp_json.proofs.Taking.{write_more}
use Rattle.lisp_json.proofs.object.put_others.Goals as goal

pub loop-word-preserved : goal.loop-word-preserved
loop-word-preserved g c = write_more (λ (w : List ℕ). codes "," ++ quoted w) (λ (w : Bor (List ℕ)). w.now) c.args.words.now c.loop-word.word-index _ _ _ _ c.loop-word-test.true c.loop-word.invariant c.in_ok-put_other.ensures.text

pub returns-clause-text : goal.returns-clause-text
returns-clause-text g c = c.loop-word.invariant ∙ ap (λ (ws : List (Bor (List ℕ))). c.args.out.now.items ++ flat_map (λ w. codes "," ++ quoted w) (texts ws)) (take_all c.loop-word.word-index c.args.words.now c.loop-word-test.false)
