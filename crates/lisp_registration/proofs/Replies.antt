-- An answer has no more bytes than what it answers.
use Rattle.std.proofs.Common.{◌≡◌, ℕ, ◌+◌, ◌≤◌, ◌==◌, Bool, true, false, cond, nat_le, List, length, Option, Some, None, Result, Ok, Err, ok_or, refl, ap, ◌∙◌, arith}
use Rattle.lisp_records.specs.Result.{◌>>=◌}
use Rattle.lisp_records.specs.Parts.{size}
use Rattle.lisp_records.specs.Spelling.{IsBytes}
use Rattle.lisp_records.specs.declared.address.Addr.{Addr}
use Rattle.lisp_messages.specs.Authentic.{is_authentic}
use Rattle.lisp_messages.specs.Message.{MapRegisterValue, MapNotifyValue, MessageValue, Registers, Notifies}
use Rattle.lisp_messages.specs.Reading.{message_at}
use Rattle.lisp_messages.specs.declared.fault.ReadFault.{ReadFault}
use Rattle.lisp_nonces.specs.Store.{StoreState}
use Rattle.lisp_admission.specs.Checks.{reply_to, secret_under}
use Rattle.lisp_policy.specs.Site.{SiteValue}
use Rattle.lisp_server.specs.Checks.{Passed, register_checked, wanted_reply}
use Rattle.lisp_server.specs.Receiving.{Accepts, ServerTakes, TakesMessage}
use Rattle.lisp_server.specs.Server.{ServerState}
use Rattle.lisp_server.specs.declared.took.Took.{Took}
use Rattle.lisp_server.specs.declared.took.Took.TheVariants.{Accepted, NoticeDone}
use Rattle.lisp_etr.specs.Config.{EtrConfigValue}
use Rattle.lisp_etr.specs.Etr.{EtrState}
use Rattle.lisp_etr.specs.Hearing.{ServerNotify, ack_of, check, checked_notify, counted_as, counted_in, first_notice, notice_in, notify_from, notify_read, seen_at, seen_in, server_at}
use Rattle.lisp_etr.specs.Rounds.{latest_of, part_with, rounds_at}
use Rattle.lisp_etr.specs.declared.notify_fault.NotifyFault.{NotifyFault}
use Rattle.lisp_etr.specs.declared.notify_fault.NotifyFault.TheVariants as faults
use Rattle.lisp_etr.specs.declared.seen.Seen.{Seen}
use Rattle.lisp_registration.specs.Router.{answer_bytes}
use Rattle.lisp_registration.specs.Server.{bytes_of, reply_bytes}
use Rattle.lisp_registration.proofs.Lengths.{answer_is_short, length-notify}

module _ {E : Type 0} where
  -- what a step gave that was followed by another
  bind_ok : {A B : Type 0} (r : Result A E) (f : A → Result B E) (y : B) → (r >>= f) ≡ Ok y → (x : A) × (r ≡ Ok x) × (f x ≡ Ok y)
  bind_ok (Ok x) f y is = (x, refl, is)
  bind_ok (Err e) f y is = absurd cc

  ok_is : {A : Type 0} (x y : A) → ◌≡◌ {A = Result A E} (Ok x) (Ok y) → x ≡ y
  ok_is x y is = cc

-- ---- a Map-Server's

-- a Map-Notify is as long as its records say, where one is wanted
wanted_is_short : (wanted : Bool) (secret : List ℕ) (notify : MapNotifyValue) → length (bytes_of (wanted_reply wanted secret notify)) ≤ 32 + size notify.records
wanted_is_short true secret notify = omega (arith, length-notify secret notify)
wanted_is_short false secret notify = omega arith

-- what passed the checks is what was read
is_message : (sites : List SiteValue) (from : Addr) (bytes : List ℕ) (m : MapRegisterValue) (passed : Passed) → register_checked sites from bytes m ≡ Ok passed → m ≡ passed.message
is_message sites from bytes m passed checks =
    let step = bind_ok (secret_under sites from bytes m) (λ secret. Ok (record { message = m; secret = secret })) passed checks in
    let made : Passed = record { message = m; secret = step.0 } in
    ap (λ (p : Passed). p.message) (ok_is made passed step.2)

module _ (from : Addr) (bytes : List ℕ) (old new : ServerState) (before after : StoreState) (now : ℕ) (fits : IsBytes bytes) where
  accepted_is_short : {A : Type 0} (m : MapRegisterValue) (took : Took A) → message_at bytes ≡ Ok (Registers m) → Accepts (register_checked old.sites from bytes m) old new before after from now took → length (reply_bytes took) ≤ length bytes
  accepted_is_short m took read accepts =
      let whole = answer_is_short bytes (Registers m) fits read in
      let reply = ap (λ (t : Took _). length (reply_bytes t)) accepts.answer in
      let wanted = wanted_is_short accepts.passed.message.want_notify accepts.passed.secret (reply_to accepts.passed.message) in
      let same = ap (λ (r : MapRegisterValue). size r.records) (is_message old.sites from bytes m accepts.passed accepts.checks) in
      omega (arith, whole, reply, wanted, same)

  taken_is_short : {A : Type 0} (said : Result MessageValue ReadFault) (took : Took A) → message_at bytes ≡ said → ServerTakes said from bytes old new before after now took → length (reply_bytes took) ≤ length bytes
  taken_is_short (Ok (Registers m)) (Accepted router key nonce reply) read takes = accepted_is_short m (Accepted router key nonce reply) read takes
  taken_is_short (Ok (Registers m)) (NoticeDone router nonce) read takes = absurd takes
  taken_is_short (Ok (Notifies m)) (Accepted router key nonce reply) read takes = absurd takes
  taken_is_short (Ok (Notifies m)) (NoticeDone router nonce) read takes = omega arith
  taken_is_short (Err fault) took read takes = absurd takes

  -- what a Map-Server answers has no more bytes than the datagram
  pub reply_is_short : {A : Type 0} (took : Took A) → TakesMessage from bytes old new before after now took → length (reply_bytes took) ≤ length bytes
  reply_is_short took takes = taken_is_short (message_at bytes) took refl takes

-- ---- a router's

-- a Map-Notify that was read is the message
is_notify : (read : Result MessageValue ReadFault) (m : MapNotifyValue) → notify_read read ≡ Ok m → read ≡ Ok (Notifies m)
is_notify (Ok (Registers n)) m is = absurd cc
is_notify (Ok (Notifies n)) m is = by n.ack is
  where
    by : (ack : Bool) → cond ack (Err faults.NotMine) (Ok n) ≡ Ok m → ◌≡◌ {A = Result MessageValue ReadFault} (Ok (Notifies n)) (Ok (Notifies m))
    by true is = absurd cc
    by false is = ap (λ (x : MapNotifyValue). Ok (Notifies x)) (ok_is n m is)
is_notify (Err fault) m is = absurd cc

-- the checks of a Map-Notify
abbrev checks_of : EtrConfigValue → List ℕ → Option ℕ → MapNotifyValue → Result ServerNotify NotifyFault
checks_of c bytes from m = ok_or from faults.NotMine >>= λ server. check (m.key_id == c.key_id) faults.WrongKey >>= λ _. check (is_authentic bytes c.secret) faults.BadAuth >>= λ _. Ok (record { server = server; message = m })

module _ (m : MapNotifyValue) (h : ServerNotify) where
  two_checks : (server : ℕ) (key auth : Result Bool NotifyFault) → (key >>= λ _. auth >>= λ _. Ok (record { server = server; message = m })) ≡ Ok h → m ≡ h.message
  two_checks server (Ok k) (Ok a) is = (let made : ServerNotify = record { server = server; message = m } in ap (λ (x : ServerNotify). x.message) (ok_is made h is))
  two_checks server (Ok k) (Err e) is = absurd cc
  two_checks server (Err e) auth is = absurd cc

  all_checks : (place : Result ℕ NotifyFault) (key auth : Result Bool NotifyFault) → (place >>= λ server. key >>= λ _. auth >>= λ _. Ok (record { server = server; message = m })) ≡ Ok h → m ≡ h.message
  all_checks (Ok server) key auth is = two_checks server key auth is
  all_checks (Err e) key auth is = absurd cc

-- so is one that passed all checks
is_checked : (c : EtrConfigValue) (bytes : List ℕ) (read : Result MessageValue ReadFault) (from : Option ℕ) (h : ServerNotify) → checked_notify c bytes read from ≡ Ok h → read ≡ Ok (Notifies h.message)
unfolding checked_notify
is_checked c bytes read from h is =
    let step = bind_ok (notify_read read) (checks_of c bytes from) h is in
    is_notify read step.0 step.1 ∙ ap (λ (m : MapNotifyValue). Ok (Notifies m)) (all_checks step.0 h (ok_or from faults.NotMine) (check (step.0.key_id == c.key_id) faults.WrongKey) (check (is_authentic bytes c.secret) faults.BadAuth) step.2)

module _ (e : EtrState) (from : Addr) (bytes : List ℕ) (fits : IsBytes bytes) {A : Type 0} (seen : Seen A) where
  counted_is_short : (server nonce : ℕ) (latest : List ℕ) (part : Option ℕ) → counted_as server nonce latest part ≡ Ok seen → length (answer_bytes seen) ≤ length bytes
  counted_is_short server nonce latest (Some part) is = omega (arith, ap (λ (s : Seen A). length (answer_bytes s)) (ok_is _ seen is))
  counted_is_short server nonce latest None is = absurd cc

  heard_is_short : (h : ServerNotify) → message_at bytes ≡ Ok (Notifies h.message) → seen_in e h ≡ Ok seen → length (answer_bytes seen) ≤ length bytes
  unfolding seen_in
  heard_is_short h read is = by (nat_le first_notice h.message.nonce) is
    where
      by : (late : Bool) → cond late (Ok (notice_in e.config h)) (counted_in e.rounds h.server h.message.nonce) ≡ Ok seen → length (answer_bytes seen) ≤ length bytes
      by true is = omega (arith, answer_is_short bytes (Notifies h.message) fits read, length-notify e.config.secret (ack_of h.message), ap (λ (s : Seen A). length (answer_bytes s)) (ok_is (notice_in e.config h) seen is))
      by false is = counted_is_short h.server h.message.nonce (latest_of (rounds_at e.rounds h.server)) (part_with h.message.nonce (latest_of (rounds_at e.rounds h.server))) is

  -- what a router answers has no more bytes than the datagram
  pub ack_is_short : seen_at e from bytes ≡ Ok seen → length (answer_bytes seen) ≤ length bytes
  ack_is_short is =
      let heard = bind_ok (notify_from e.config from bytes) (seen_in e) seen is in
      heard_is_short heard.0 (is_checked e.config bytes (message_at bytes) (server_at e.config.servers from) heard.0 heard.1) heard.2
