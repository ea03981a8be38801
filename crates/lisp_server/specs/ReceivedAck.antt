-- What a Map-Notify-Ack that arrived makes of the notices that stand (RFC 9301 section 5.7).
use Rattle.std.specs.Prelude.{◌≡◌, List, Result, IfOk}
use Rattle.lisp_messages.specs.Message.{MapNotifyValue}
use Rattle.lisp_policy.specs.Site.{SiteValue}
use Rattle.lisp_admission.specs.declared.refused.Refused.{Refused}
use Rattle.lisp_server.specs.declared.arrival.Arrival.{Arrival}
use Rattle.lisp_server.specs.declared.took.Took.{Took}
use Rattle.lisp_server.specs.declared.took.Took.TheVariants.{NoticeDone}
use Rattle.lisp_server.specs.Checks.{Acknowledges, RefusesAck}
use Rattle.lisp_server.specs.Notices.{StandingNoticeValue, StandingNoticesState, EndsNotice}

-- it acknowledges the notice
abbrev pub EndedBy : List SiteValue → StandingNoticesState → Arrival → MapNotifyValue → StandingNoticeValue → Type 0
EndedBy sites standing arrival m n = Acknowledges sites standing.notices arrival.from arrival.bytes.now m n

-- it is refused: the first check that it fails
abbrev pub RefusesArrivedAck : List SiteValue → StandingNoticesState → Arrival → MapNotifyValue → Refused → Type 0
RefusesArrivedAck sites standing arrival m why = RefusesAck sites standing.notices arrival.from arrival.bytes.now m why

-- the notice that it acknowledges is ended, and no other
abbrev pub EndsAcknowledged : {A : Type 0} → List SiteValue → StandingNoticesState → StandingNoticesState → Arrival → MapNotifyValue → Result (Took A) Refused → Type 0
EndsAcknowledged sites old new arrival m answer =
    IfOk answer (λ took. (n : StandingNoticeValue) × EndedBy sites old arrival m n × (took ≡ NoticeDone n.router n.nonce) × EndsNotice old.notices new.notices n.router)
