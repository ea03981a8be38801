use Rattle.std.proofs.Common.{None, sym, ◌∙◌}
use Rattle.lisp_look.proofs.Calls.{awaits_answer, awaits_more, awaits_read, awaits_received, heard_fault}
use Rattle.lisp_look.specs.declared.fault.LookFault.TheVariants.{OutOfMemory}
use Rattle.lisp_look.proofs.asking.hear.Goals as goal

pub returns-in_err-reply-in-Datagram-clause-awaits : goal.returns-in_err-reply-in-Datagram-clause-awaits
returns-in_err-reply-in-Datagram-clause-awaits g c =
    heard_fault c.args.look.now c.args.started _ _ c.from_residual.result OutOfMemory c.from_residual.ensures.1
    (awaits_more c.args.look.now c.args.started _ _ _ None (awaits_read c.args.look.now c.args.started _ _ _ c.now-now.ensures) (awaits_received c.args.look.now c.args.started _ _ _ _ c.receive.ensures.asked))

pub returns-in_default-clause-awaits : goal.returns-in_default-clause-awaits
returns-in_default-clause-awaits g c =
    awaits_more c.args.look.now c.args.started _ _ _ None (awaits_read c.args.look.now c.args.started _ _ _ c.now-now.ensures) (awaits_received c.args.look.now c.args.started _ _ _ _ c.receive.ensures.asked)

pub returns-in-Nothing-clause-awaits : goal.returns-in-Nothing-clause-awaits
returns-in-Nothing-clause-awaits g c =
    awaits_more c.args.look.now c.args.started _ _ _ None (awaits_read c.args.look.now c.args.started _ _ _ c.now-now.ensures) (awaits_received c.args.look.now c.args.started _ _ _ _ c.receive.ensures.asked)

pub returns-in-Failed-clause-awaits : goal.returns-in-Failed-clause-awaits
returns-in-Failed-clause-awaits g c =
    awaits_more c.args.look.now c.args.started _ _ _ None (awaits_read c.args.look.now c.args.started _ _ _ c.now-now.ensures) (awaits_received c.args.look.now c.args.started _ _ _ _ c.receive.ensures.asked)

pub returns-in-Some-clause-awaits : goal.returns-in-Some-clause-awaits
returns-in-Some-clause-awaits g c =
    awaits_more c.args.look.now c.args.started _ _ _ _ (awaits_read c.args.look.now c.args.started _ _ _ c.now-now.ensures)
    (awaits_answer c.args.look.now c.args.started _ _ _ _ _ _ _ c.in-Datagram.ensures.asked c.now.ensures c.saturating_sub-ms.ensures (sym c.in_ok-reply-in-Datagram.ensures.answers ∙ c.in-Some.is))
