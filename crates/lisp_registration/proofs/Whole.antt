-- What is made has room in the buffer, and is told whole.
use Rattle.std.proofs.Common.{◌≡◌, ℕ, ◌≤◌, Bool, true, false, cond, nat_lt, List, length, Option, Some, None, Result, Ok, Err, refl, ap, arith}
use Rattle.std.specs.Prelude.{IfOk}
use Rattle.std.proofs.lemmas.Bool.{le-ltb, ltb-false}
use Rattle.lisp_records.specs.declared.address.Addr.{Addr}
use Rattle.lisp_records.specs.declared.router.RouterId.{RouterId}
use Rattle.lisp_records.specs.Result.{◌>>=◌}
use Rattle.lisp_records.specs.Spelling.{IsBytes}
use Rattle.lisp_admission.specs.declared.refused.Refused.{Refused}
use Rattle.lisp_etr.specs.declared.seen.Seen.{Seen}
use Rattle.lisp_etr.specs.Etr.{EtrState}
use Rattle.lisp_etr.specs.Hearing.{seen_at}
use Rattle.lisp_etr.specs.Sending.{next_register}
use Rattle.lisp_lookup.specs.Records.{live_of}
use Rattle.lisp_admission.specs.Nonces.{nonce_after}
use Rattle.lisp_server.specs.SendNotice.{notice_of}
use Rattle.lisp_server.specs.Server.{ServerState}
use Rattle.lisp_server.specs.declared.took.Took.{Took}
use Rattle.lisp_embedded.specs.declared.notice.HostedNotice.{HostedNotice}
use Rattle.lisp_embedded.specs.declared.router_send.HostedRegister.{HostedRegister}
use Rattle.lisp_embedded.specs.Notices.{AnnouncesKept}
use Rattle.lisp_embedded.specs.Receiving.{TakesKept}
use Rattle.lisp_embedded.specs.Routers.{SendsKept}
use Rattle.lisp_registration.specs.declared.address.PlainAddress.{PlainAddress}
use Rattle.lisp_registration.specs.declared.fault.HandleFault.{HandleFault}
use Rattle.lisp_registration.specs.declared.fault.HandleFault.TheVariants as faults
use Rattle.lisp_registration.specs.Meaning.{address_in, or_fault}
use Rattle.lisp_registration.specs.Notices.{AreShort, SendsAgain}
use Rattle.lisp_registration.specs.Handle.{in_time, message_room, ready, source_of}
use Rattle.lisp_registration.specs.Router.{answer_bytes}
use Rattle.lisp_registration.specs.Server.{reply_bytes}
use Rattle.lisp_registration.specs.Told.{ToldWhole}
use Rattle.lisp_registration.proofs.Lengths.{length-notify, length-register, notice_is_short, part_is_short}
use Rattle.lisp_registration.proofs.Replies.{ack_is_short, reply_is_short}

-- what has room is told whole
pub told_whole : (bytes buffer : List ℕ) → length bytes ≤ length buffer → ToldWhole bytes buffer
told_whole bytes buffer fits = rw (le-ltb (length buffer) (length bytes) fits) (refl, refl)

-- a buffer that has room for every message
pub room_for_all : (buffer : List ℕ) (now : ℕ) → ready buffer now ≡ Ok tt → message_room ≤ length buffer
room_for_all buffer now good = by (nat_lt (length buffer) message_room) refl good
  where
    by : (b : Bool) → nat_lt (length buffer) message_room ≡ b → cond b (Err faults.Room) (in_time now) ≡ Ok tt → message_room ≤ length buffer
    by true less good = absurd cc
    by false less good = ltb-false _ _ less

-- a buffer that has as much room as a datagram
pub room_for_source : (from : PlainAddress) (a : Addr) (bytes buffer : List ℕ) → source_of from bytes buffer ≡ Ok a → length bytes ≤ length buffer
room_for_source from a bytes buffer good = by (address_in from) good
  where
    then_by : (b : Bool) (x : Addr) → nat_lt (length buffer) (length bytes) ≡ b → ◌≡◌ {A = Result Addr HandleFault} (cond b (Err faults.Room) (Ok x)) (Ok a) → length bytes ≤ length buffer
    then_by true x less is = absurd cc
    then_by false x less is = ltb-false _ _ less

    by : (found : Option Addr) → (or_fault faults.Field found >>= λ x. cond (nat_lt (length buffer) (length bytes)) (Err faults.Room) (Ok x)) ≡ Ok a → length bytes ≤ length buffer
    by (Some x) is = then_by (nat_lt (length buffer) (length bytes)) x refl is
    by None is = absurd cc

-- ---- a Map-Register

-- a Map-Register of a part has room
pub register_is_whole : {A : Type 0} (old new : EtrState) (server part now : ℕ) (buffer : List ℕ) (register : HostedRegister A) → message_room ≤ length buffer → SendsKept old new server part now register → ToldWhole register.bytes.items buffer
register_is_whole old new server part now buffer register room sends =
    told_whole register.bytes.items buffer
    (omega (arith, room, ap length sends.datagram, length-register old.config.secret (next_register old part) sends.fits.xtr, part_is_short old.database part sends.fits.records.1))

-- ---- an answer

-- a Map-Server's answer has as much room as the datagram
pub reply_is_whole : {A : Type 0} (kept : Option ℕ) (from : Addr) (bytes buffer : List ℕ) (old new : ServerState) (now : ℕ) (answer : Result (Took A) Refused) → IsBytes bytes → length bytes ≤ length buffer → IfOk answer (TakesKept kept from bytes old new now) → IfOk answer (λ took. ToldWhole (reply_bytes took) buffer)
reply_is_whole kept from bytes buffer old new now (Ok took) fits room (before, after, passes, takes) = told_whole (reply_bytes took) buffer (omega (arith, room, reply_is_short from bytes old new before after now fits took takes))
reply_is_whole kept from bytes buffer old new now (Err why) fits room takes = tt

-- so has a router's
pub ack_is_whole : {A : Type 0} (e : EtrState) (from : Addr) (bytes buffer : List ℕ) (seen : Seen A) → IsBytes bytes → length bytes ≤ length buffer → seen_at e from bytes ≡ Ok seen → ToldWhole (answer_bytes seen) buffer
ack_is_whole e from bytes buffer seen fits room sees = told_whole (answer_bytes seen) buffer (omega (arith, room, ack_is_short e from bytes fits seen sees))

-- ---- a notice

-- a notice that is made has room
pub notice_has_room : {A : Type 0} (kept : Option ℕ) (old new : ServerState) (router : RouterId) (now : ℕ) (n : HostedNotice A) → AnnouncesKept kept old new router now n → length n.bytes.items ≤ message_room
notice_has_room kept old new router now n (before, after, keeps, made, nonce) =
    let short = notice_is_short (live_of old.rows router now) made.records made.by_prefix made.registered.fits in
    omega (arith, short, ap length made.datagram, length-notify made.registered.heard.secret (notice_of made.registered.heard.contact.key (nonce_after made.last) made.records))

-- so has one that is made again, where those that stand are short
pub again_has_room : {A : Type 0} (old new : ServerState) (router : RouterId) (now : ℕ) (n : HostedNotice A) → SendsAgain old new router now n → AreShort old.notices → length n.bytes.items ≤ message_room
again_has_room old new router now n (again, rest, nonce) short = omega (arith, short router again.notice again.stood, ap length again.datagram)
