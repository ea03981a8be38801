use Rattle.std.proofs.Common.{Err, subst}
use Rattle.lisp_control.specs.Gathering.{Gathers}
use Rattle.lisp_control.specs.declared.gathering.Ungathered.{Ungathered}
use Rattle.lisp_control_socket.proofs.GatheredSites.{gathered, refused}
use Rattle.lisp_control_socket.proofs.connection.took.Goals as goal

pub returns-in-Ok : goal.returns-in-Ok
returns-in-Ok c =
    let sites = c.in-Ok.ensures in
    gathered c.args.node.now.config.now c.args.node.now.number c.args.gathered.now c.gather.new.gathered c.args.bytes.now c.in-Ok.count c.gathered_text.result c.before_line.result sites.0 sites.1 sites.2 c.gathered_text.ensures.text c.before_line.ensures.line c.before_line.ensures.ended

pub returns-in-Err-Sites : goal.returns-in-Err-Sites
returns-in-Err-Sites c =
    let none = subst (λ (why : Ungathered). Gathers c.args.gathered.now c.gather.new.gathered c.args.bytes.now (Err why)) c.in-Err-Sites.field-0-is c.in-Err-Sites.ensures in
    refused c.args.node.now.config.now c.args.node.now.number c.args.gathered.now c.gather.new.gathered c.args.bytes.now _ c.fault_text.result c.answered.result none.0 none.1 c.fault_text.ensures.told c.answered.ensures.closed c.answered.ensures.ended
