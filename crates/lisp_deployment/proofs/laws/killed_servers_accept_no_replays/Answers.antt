use Rattle.lisp_deployment.proofs.Killed.{accept_no_replays}
use Rattle.lisp_deployment.proofs.laws.killed_servers_accept_no_replays.Goals as goal

pub returns : goal.returns
returns g c = accept_no_replays _ c.printed_nonces_rise.ensures
