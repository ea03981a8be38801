use Rattle.std.proofs.Common.{rules, ◌-◌, length}
use Rattle.std.proofs.lemmas.Result.{IfOk-weaker}
use Rattle.lisp_udp.proofs.starting.start_router.Goals as goal

pub returns : goal.returns
returns g c =
    IfOk-weaker c.start.result _ _ (λ n started. (c.args.number - length c.args.config.now.servers, search rules, c.in_ok-router.router, search rules, started)) c.start.ensures
