use Rattle.std.proofs.Common.{sym, ◌<◌, List, length, subst}
use Rattle.lisp_records.specs.Record.{MapRecordValue}
use Rattle.lisp_server.proofs.SendNoticeLaws.{few_left}
use Rattle.lisp_server.proofs.send_notice.Recipient.notify.Goals as goal

pub invariant_of-notify : goal.invariant_of-notify
invariant_of-notify g c = subst (λ (records : List MapRecordValue). length records < 256) (sym c.from_vec.ensures) (few_left _ _ c.in_ok-live_records.ensures.records c.requires.few)
