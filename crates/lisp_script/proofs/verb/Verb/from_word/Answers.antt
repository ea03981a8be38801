use Rattle.std.proofs.Common.{refl, sym}
use Rattle.lisp_script.proofs.Verbs.{unknown}
use Rattle.lisp_script.proofs.verb.Verb.from_word.Goals as goal

pub returns-in_default : goal.returns-in_default
returns-in_default c =
    let other = c.in_default in
    sym (unknown c.args.word.now other.not-change other.not-send other.not-deliver other.not-junk other.not-tick other.not-restart other.not-rotate other.not-lose other.not-notice other.not-resend other.not-reload other.not-hold other.not-acks other.not-ask other.not-request other.not-due)

pub returns-in-change : goal.returns-in-change
returns-in-change c = rw c.in-change.is refl

pub returns-in-send : goal.returns-in-send
returns-in-send c = rw c.in-send.is refl

pub returns-in-deliver : goal.returns-in-deliver
returns-in-deliver c = rw c.in-deliver.is refl

pub returns-in-junk : goal.returns-in-junk
returns-in-junk c = rw c.in-junk.is refl

pub returns-in-tick : goal.returns-in-tick
returns-in-tick c = rw c.in-tick.is refl

pub returns-in-restart : goal.returns-in-restart
returns-in-restart c = rw c.in-restart.is refl

pub returns-in-rotate : goal.returns-in-rotate
returns-in-rotate c = rw c.in-rotate.is refl

pub returns-in-lose : goal.returns-in-lose
returns-in-lose c = rw c.in-lose.is refl

pub returns-in-notice : goal.returns-in-notice
returns-in-notice c = rw c.in-notice.is refl

pub returns-in-resend : goal.returns-in-resend
returns-in-resend c = rw c.in-resend.is refl

pub returns-in-reload : goal.returns-in-reload
returns-in-reload c = rw c.in-reload.is refl

pub returns-in-hold : goal.returns-in-hold
returns-in-hold c = rw c.in-hold.is refl

pub returns-in-acks : goal.returns-in-acks
returns-in-acks c = rw c.in-acks.is refl

pub returns-in-ask : goal.returns-in-ask
returns-in-ask c = rw c.in-ask.is refl

pub returns-in-request : goal.returns-in-request
returns-in-request c = rw c.in-request.is refl

pub returns-in-due : goal.returns-in-due
returns-in-due c = rw c.in-due.is refl
