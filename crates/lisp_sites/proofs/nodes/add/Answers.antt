use Rattle.std.proofs.Common.{arith}
use Rattle.std.proofs.lemmas.Map.Text.{text_keys}
use Rattle.lisp_sites.proofs.Placed.{one_more_placed, same_placed}
use Rattle.lisp_sites.proofs.nodes.add.Goals as goal

pub returns-in_err-try_insert-clause-placed : goal.returns-in_err-try_insert-clause-placed
returns-in_err-try_insert-clause-placed g c =
    let same = rw c.in_err-try_insert.was at c.try_insert.ensures.err in
    λ placed fresh. rw c.make_room.ensures.items (same_placed g.N.Named.name c.args.places.now c.try_insert.new.self c.args.items.now.items same placed)

pub returns-clause-placed : goal.returns-clause-placed
returns-clause-placed g c = λ placed fresh. rw c.push_reserved.ensures.items (one_more_placed g.N.Named.name c.args.places.now _ _ c.args.node (rw c.in_ok-make_room.ensures.items placed) (rw c.in_ok-make_room.ensures.items fresh) (λ n. grind (arith, text_keys)))
