use Rattle.std.proofs.Common.{ap, sym, subst, ◌∙◌}
use Rattle.lisp_refinement.specs.World.{RouterNodeState, UsedKeysState, UsesKeyAfterLoss}
use Rattle.lisp_refinement.specs.Calls.{NodeStarts}
use Rattle.lisp_nodes.proofs.router_node.RouterNode.lose.Goals as goal

pub returns-clause-loses : goal.returns-clause-loses
returns-clause-loses g c =
    let under = c.replace_with.ensures in
    let e = c.replace_with-2.ensures in
    rw (← c.self.view_is)
    (record {
      me = e.0 ∙ ap (λ (n : RouterNodeState). n.me) under;
      servers = e.1.0 ∙ ap (λ (n : RouterNodeState). n.servers) under;
      used = subst (λ (used : UsedKeysState). UsesKeyAfterLoss c.self.inside.used used c.args.key_id)
          (sym (e.1.1.0 ∙ ap (λ (n : RouterNodeState). n.used) under)) c.lose-2.ensures;
      lost = g.S.NonceStore.seen c.lose.new.self;
      loses = record { some = c.lose.ensures.some; proceeds = c.lose.ensures.proceeds };
      starts = subst (λ (n : RouterNodeState). NodeStarts n c.replace_with-2.new.dest c.args.how.db c.args.how.now c.replace_with-2.result) under e.1.1.1.0;
    })
