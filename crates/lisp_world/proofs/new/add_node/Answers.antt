use Rattle.std.proofs.Common.{◌<◌, ◌≤◌, ◌≡◌, ℕ, length, arith, ap, inl, inr, refl, subst, ◌∙◌}
use Rattle.std.proofs.lemmas.Result.{on_ok_weaker}
use Rattle.lisp_world.specs.Making.{IsRouterOver}
use Rattle.lisp_world.proofs.new.add_node.Goals as goal

pub router-requires-clause-place : goal.router-requires-clause-place
router-requires-clause-place g c =
    let entries = ap length c.servers.ensures in
    let left = c.requires.left (omega (arith, c.if-len-servers.false, c.len.ensures, entries, c.args.servers.now.ok.0)) in
    omega (arith, left, c.len-2.ensures, c.args.routers.now.ok.0)

pub returns-then-len-servers-clause-added : goal.returns-then-len-servers-clause-added
returns-then-len-servers-clause-added g c =
    let entries = ap length c.servers.ensures in
    let low : length c.args.servers.now.items < length c.args.config.now.servers = omega (arith, c.if-len-servers.true, c.len.ensures, entries, c.args.servers.now.ok.0) in
    on_ok_weaker c.append.result (λ added. inl (low, refl, (c.in_ok-node.node, added, c.in_ok-node.ensures.server))) c.append.ensures.added

pub returns-clause-added : goal.returns-clause-added
returns-clause-added g c =
    let entries = ap length c.servers.ensures in
    let high : length c.args.config.now.servers ≤ length c.args.servers.now.items = omega (arith, c.if-len-servers.false, c.len.ensures, entries, c.args.servers.now.ok.0) in
    let place : c.len-2.result ≡ length c.args.routers.now.items = c.len-2.ensures ∙ c.args.routers.now.ok.0 in
    let over = subst (λ (k : ℕ). IsRouterOver c.args.config.now k (g.S.NonceStore.seen c.args.store) c.in_ok-node-2.node) place c.in_ok-node-2.ensures.router in
    on_ok_weaker c.append-2.result (λ added. inr (high, refl, (c.in_ok-node-2.node, added, over))) c.append-2.ensures.added
