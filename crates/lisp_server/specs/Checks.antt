-- What a Map-Server checks of bytes before it looks at a nonce (RFC 9301 section 8.2).
use Rattle.std.specs.Prelude.{◌≡◌, ℕ, Bool, true, false, List, Option, Some, None, Result, Ok, if◌then◌else◌}
use Rattle.lisp_records.specs.Result.{◌>>=◌}
use Rattle.lisp_messages.specs.Message.{MapRegisterValue, MapNotifyValue}
use Rattle.lisp_records.specs.declared.address.Addr.{Addr}
use Rattle.lisp_messages.specs.Authentic.{signed}
use Rattle.lisp_messages.specs.Written.{written_notify}
use Rattle.lisp_policy.specs.Site.{SiteValue}
use Rattle.lisp_admission.specs.declared.refused.Refused.{Refused}
use Rattle.lisp_admission.specs.declared.refused.Refused.TheVariants.{BadAuth, NoNotice, NotMine}
use Rattle.lisp_admission.specs.Checks.{secret_under, secret_at, signed_by, reply_to}
use Rattle.lisp_server.specs.Notices.{StandingNoticeValue, IsAwaiting, NoneAwaits}

-- a Map-Register that passes all checks, with its secret
pub record Passed : Type 0 where
  pub message : MapRegisterValue
  pub secret : List ℕ

abbrev pub register_checked : List SiteValue → Addr → List ℕ → MapRegisterValue → Result Passed Refused
register_checked sites from bytes m = secret_under sites from bytes m >>= λ secret. Ok (record { message = m; secret = secret })

-- the bytes are authentic under the secret of the site and key of an unsolicited Map-Notify (notice)
abbrev pub answers_under : List SiteValue → List ℕ → StandingNoticeValue → Bool
answers_under sites bytes n = signed_by (secret_at sites n.router.site n.key) bytes

-- a Map-Notify-Ack from an address acknowledges the notice: it waits for it, and the bytes are authentic
pub record Acknowledges (sites : List SiteValue) (notices : List StandingNoticeValue) (from : Addr) (bytes : List ℕ) (m : MapNotifyValue) (n : StandingNoticeValue) : Type 0 where
  pub ack : m.ack ≡ true
  pub awaiting : IsAwaiting notices from m.key_id m.nonce n
  pub authentic : answers_under sites bytes n ≡ true

-- the first check that a Map-Notify or Map-Notify-Ack from an address fails; a Map-Notify is for routers
abbrev pub RefusesAck : List SiteValue → List StandingNoticeValue → Addr → List ℕ → MapNotifyValue → Refused → Type 0
RefusesAck sites notices from bytes m NotMine = m.ack ≡ false
RefusesAck sites notices from bytes m NoNotice = (m.ack ≡ true) × NoneAwaits notices from m.key_id m.nonce
RefusesAck sites notices from bytes m BadAuth = (m.ack ≡ true) × (n : StandingNoticeValue) × IsAwaiting notices from m.key_id m.nonce n × (answers_under sites bytes n ≡ false)
RefusesAck sites notices from bytes m _ = ⊥

-- the bytes of a Map-Notify under a secret, where one is wanted
abbrev pub wanted_reply : Bool → List ℕ → MapNotifyValue → Option (List ℕ)
wanted_reply wanted secret notify = if wanted then Some (signed secret (written_notify notify)) else None

-- bit M asks for the Map-Notify
abbrev pub reply_of : List ℕ → MapRegisterValue → Option (List ℕ)
reply_of secret m = wanted_reply m.want_notify secret (reply_to m)
