use Rattle.toml.specs.View.{view}
use Rattle.lisp_sites.proofs.NodeLaws.{server_is_new}
use Rattle.lisp_sites.proofs.server.NodesServerEntryEntries.read_next.Goals as goal

pub push-requires : goal.push-requires
push-requires g c = server_is_new c.args.self.now (view c.args.entry.now) c.in_ok-server.server c.in_ok-server.ensures.gives
