use Rattle.std.proofs.Common.{◌≡◌, ◌++◌, take, codes}
use Rattle.std.specs.List.{flat_map}
use Rattle.json.specs.Print.{quoted}
use Rattle.lisp_json.specs.Words.{texts}
use Rattle.lisp_json.proofs.object.put_others.Given as goal

abbrev pub invariant-loop-word : goal.invariant-loop-word
invariant-loop-word g l = l.out.items ≡ l.fn.out.items ++ flat_map (λ w. codes "," ++ quoted w) (texts (take l.word-index l.words))
