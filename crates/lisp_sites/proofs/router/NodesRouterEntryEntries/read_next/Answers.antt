use Rattle.toml.specs.View.{view}
use Rattle.lisp_sites.proofs.NodeLaws.{router_is_new}
use Rattle.lisp_sites.proofs.router.NodesRouterEntryEntries.read_next.Goals as goal

pub push-requires : goal.push-requires
push-requires g c = router_is_new c.args.network.now.sites c.args.network.now.servers c.args.self.now (view c.args.entry.now) c.in_ok-router.router c.in_ok-router.ensures.gives
