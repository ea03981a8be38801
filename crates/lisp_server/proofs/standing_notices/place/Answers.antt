use Rattle.std.proofs.Common.{rules}
use Rattle.std.proofs.lemmas.List.Sorted.{answers_always}
use Rattle.lisp_server.proofs.StandingLaws.{searched}
use Rattle.lisp_server.proofs.standing_notices.place.Goals as goal

pub returns : goal.returns
returns g c =
    let facts = c.binary_search_by_key.ensures in
    searched c.args.notices.now c.args.router.now c.binary_search_by_key.result c.requires facts.bound (facts.position (λ x. x.router) (answers_always _ _ _ (λ f a r h called. search rules)))
