use Rattle.std.proofs.Common.{rules}
use Rattle.std.proofs.lemmas.List.Sorted.{answers_always}
use Rattle.lisp_server.proofs.ContactLaws.{searched}
use Rattle.lisp_server.proofs.contacts.place.Goals as goal

pub returns : goal.returns
returns c =
    let facts = c.binary_search_by_key.ensures in
    searched c.args.contacts.now c.args.router.now c.binary_search_by_key.result c.requires facts.bound (facts.position (λ k. k.router) (answers_always _ _ _ (λ f a r g called. search rules)))
