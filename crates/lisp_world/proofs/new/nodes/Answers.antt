use Rattle.std.proofs.Common.{◌<◌, length, map, arith, refl, sym, ap, ◌∙◌}
use Rattle.std.proofs.lemmas.Iterator.Adapters.{YieldsList-from_vec}
use Rattle.std.proofs.lemmas.Iterator.Consumers.{YieldsList-turn, YieldsList-end}
use Rattle.std.proofs.lemmas.List.{length-map, map-append, map-id}
use Rattle.lisp_world.proofs.Making.{none_so_far, one_more, all_made, moved_nodes}
use Rattle.lisp_world.proofs.new.nodes.Goals as goal

pub loop-store-init : goal.loop-store-init
loop-store-init g c = moved_nodes _ _ _ _ _ _ _ refl (c.new-servers.ensures.items) (c.new-routers.ensures.items) (none_so_far c.args.config.now)

pub add_node-requires-clause-left : goal.add_node-requires-clause-left
add_node-requires-clause-left g c = λ high.
    let gives = c.into_iter-store-iterator.ensures.into_iter_gives in
    let turn = YieldsList-turn (YieldsList-from_vec c.args.stores.items gives.0 (gives.1 ∙ c.args.stores.ok.0)) c.loop-store.yielded c.loop-store.store-iterator c.loop-store.yielded_by
    c.next.result c.next.new.self c.in-Some.store c.in-Some.is c.next.ensures.steps in
    let below : length c.loop-store.yielded < length c.args.stores.items = turn.0 in
    let mapped = length-map c.loop-store.yielded g.S.NonceStore.seen in
    omega (arith, high, below, mapped, c.loop-store.invariant.count, c.loop-store.invariant.few, c.requires.count)

pub loop-store-preserved : goal.loop-store-preserved
loop-store-preserved g c =
    moved_nodes _ _ _ _ _ _ _ (map-append g.S.NonceStore.seen c.loop-store.yielded _) refl refl
    (one_more c.args.config.now _ (g.S.NonceStore.seen c.in-Some.store) _ _ _ _ c.loop-store.invariant c.in_ok-add_node.ensures.added)

pub returns-clause-nodes : goal.returns-clause-nodes
returns-clause-nodes g c =
    let gives = c.into_iter-store-iterator.ensures.into_iter_gives in
    let end = YieldsList-end (YieldsList-from_vec c.args.stores.items gives.0 (gives.1 ∙ c.args.stores.ok.0)) c.loop-store.yielded c.loop-store.store-iterator c.loop-store.yielded_by
    c.next.result c.next.new.self c.in-None.is c.next.ensures.steps in
    let used = ap (map g.S.NonceStore.seen) (sym (map-id c.loop-store.yielded) ∙ end.0) in
    all_made c.args.config.now _ c.loop-store.servers.items c.loop-store.routers.items (length-map c.args.stores.items g.S.NonceStore.seen ∙ c.requires.count)
    (moved_nodes _ _ _ _ _ _ _ (sym used) refl refl c.loop-store.invariant)
