use Rattle.lisp_nodes.proofs.router_node.RouterNode.restart.Goals as goal

pub returns-clause-restarts : goal.returns-clause-restarts
returns-clause-restarts g c =
    let e = c.replace_with.ensures in
    rw (← c.self.view_is)
    (record {
      me = e.0;
      servers = e.1.0;
      used = e.1.1.0;
      crashed = g.S.NonceStore.seen c.restart.new.self;
      crashes = record { narrows = c.restart.ensures.narrows; picks = c.restart.ensures.picks; proceeds = c.restart.ensures.proceeds };
      starts = e.1.1.1.0;
    })
