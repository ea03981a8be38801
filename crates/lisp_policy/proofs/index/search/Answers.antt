use Rattle.std.proofs.Common.{rules}
use Rattle.std.proofs.lemmas.List.Sorted.{answers_always}
use Rattle.lisp_policy.proofs.IndexLaws.{searched}
use Rattle.lisp_policy.proofs.index.search.Goals as goal

pub returns : goal.returns
returns c =
    let facts = c.binary_search_by_key.ensures in
    let by_number = facts.position (λ e. e.number) (answers_always _ _ _ (λ f a r g called. search rules)) in
    searched c.args.entries.now c.args.number c.binary_search_by_key.result c.requires facts.bound by_number
