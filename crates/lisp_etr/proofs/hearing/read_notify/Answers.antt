use Rattle.std.proofs.Common.{sym, ◌∙◌}
use Rattle.lisp_messages.specs.Meaning.{message_value}
use Rattle.lisp_etr.proofs.HearingLaws.{never_out}
use Rattle.lisp_etr.proofs.hearing.read_notify.Goals as goal

pub returns-in-Ok-clause-memory : goal.returns-in-Ok-clause-memory
returns-in-Ok-clause-memory g c out = never_out (message_value c.in-Ok.message) (sym c.notify_of.ensures ∙ out)
