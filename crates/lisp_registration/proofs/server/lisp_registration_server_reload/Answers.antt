use Rattle.std.proofs.Common.{Some, None, Ok, Err, ap, ◌∙◌}
use Rattle.lisp_records.specs.Record.{bit}
use Rattle.lisp_records.proofs.Fields.{flag_is}
use Rattle.lisp_server.specs.Server.{reloaded}
use Rattle.lisp_registration.proofs.server.lisp_registration_server_reload.Goals as goal

pub returns-in-Err-clause-reloaded : goal.returns-in-Err-clause-reloaded
returns-in-Err-clause-reloaded c = (Err c.in-Err.fault, c.in-Err.ensures.sites, (λ i. (c.number.ensures i, (c.args.server.now.value, c.args.goes_on.now))))

pub returns-in-Some-clause-reloaded : goal.returns-in-Some-clause-reloaded
returns-in-Some-clause-reloaded c =
    let goes_on = flag_is c.reload.result c.from.result c.from.ensures ∙ ap bit (rw c.deref_mut.ensures.value at c.reload.ensures.kept) in
    (Ok c.in-Ok.sites, c.in-Ok.ensures.sites, rw (c.in-Some.ensures.value, c.of.ensures, c.reload.ensures.state, c.deref_mut.ensures.value) (λ i. (0, (Some (record { server = reloaded c.in-Some.hosted.value.server c.in-Ok.sites }), goes_on i))))

pub returns-in-None-clause-reloaded : goal.returns-in-None-clause-reloaded
returns-in-None-clause-reloaded c = (Ok c.in-Ok.sites, c.in-Ok.ensures.sites, rw (c.in-None.ensures.value, c.take.ensures.left) (λ i. (c.number-in-None.ensures i, (None, c.args.goes_on.now))))
