use Rattle.std.proofs.Common.{[], refl, sym, arith}
use Rattle.std.proofs.lemmas.List.{append-nil, length-set}
use Rattle.lisp_nodes.proofs.ServerCalls.{server_acted}
use Rattle.lisp_world.proofs.world.World.restart_server.Goals as goal

pub returns : goal.returns
returns g c =
    let server = rw (← c.self.view_is) at c.requires in
    let bag = c.self.inside.bag.items in
    rw (← c.self.view_is)
    (record {
      acts = server_acted _ c.args.node c.index_mut.result.now c.restart.new.self bag [] server c.index_mut.ensures.value (sym (append-nil bag));
      core = c.restart.ensures.core;
      crashes = c.restart.ensures.crashes;
      started = c.restart.ensures.started;
      said = refl;
    })

pub index_mut-requires : goal.index_mut-requires
index_mut-requires g c =
    omega (arith, rw (← c.self.view_is) at c.requires, c.self.inside.servers.ok.0)

-- as many Map-Servers as before
pub invariant_of-self : goal.invariant_of-self
invariant_of-self g c = (c.self.invariant.0, omega (arith, length-set c.self.inside.servers.items c.args.node c.restart.new.self, c.self.invariant.1))
