use Rattle.std.proofs.Common.{◌≡◌, rules}
use Rattle.std.specs.BTreeMap.{get}
use Rattle.lisp_records.specs.Router.{router_cmp}
use Rattle.lisp_log.specs.Moves.{heard_from}
use Rattle.lisp_log.proofs.Moving.{heard}
use Rattle.lisp_log.proofs.moves.Moves.hears.Goals as goal

pub returns-clause-noted : goal.returns-clause-noted
returns-clause-noted g c =
    let at : c.heard_from.result ≡ heard_from (get router_cmp c.self.inside.heard c.args.router) c.args.from c.args.now = search rules in
    rw (← c.self.view_is) (
    heard c.try_insert.result g.A.Memory.may_refuse c.self.inside.heard c.try_insert.new.self c.args.router c.args.from c.args.now c.heard_from.result at
    c.try_insert.ensures.updates c.try_insert.ensures.absent c.try_insert.ensures.err c.try_insert.ensures.refused
    )
