-- What a router makes is told whole.
use Rattle.std.proofs.Common.{◌≡◌, ℕ, Bool, true, false, cond, nat_lt, List, length, Option, Some, None, Result, Ok, Err, refl, ap, subst, ◌∙◌, arith}
use Rattle.std.specs.Prelude.{⊤}
use Rattle.std.specs.Global.{Global}
use Rattle.lisp_records.specs.Result.{◌>>=◌}
use Rattle.lisp_records.specs.Spelling.{IsBytes}
use Rattle.lisp_records.specs.declared.address.Addr.{Addr}
use Rattle.lisp_etr.specs.Faults.{notify_fault_number, send_fault_number}
use Rattle.lisp_etr.specs.Sending.{next_datagram}
use Rattle.lisp_etr.specs.declared.notify_fault.NotifyFault.{NotifyFault}
use Rattle.lisp_etr.specs.declared.notify_fault.NotifyFault.TheVariants as notifies
use Rattle.lisp_etr.specs.declared.seen.Seen.{Seen}
use Rattle.lisp_etr.specs.declared.seen.Seen.TheVariants.{Counted, Notice}
use Rattle.lisp_etr.specs.declared.send_fault.SendFault.{SendFault}
use Rattle.lisp_etr.specs.declared.send_fault.SendFault.TheVariants as sends
use Rattle.lisp_embedded.specs.declared.hosted.HostedRouter.{HostedRouter}
use Rattle.lisp_embedded.specs.declared.router_send.HostedRegister.{HostedRegister}
use Rattle.lisp_registration.specs.declared.address.PlainAddress.{PlainAddress}
use Rattle.lisp_registration.specs.declared.fault.HandleFault.{HandleFault}
use Rattle.lisp_registration.specs.declared.fault.HandleFault.TheVariants as faults
use Rattle.lisp_registration.specs.declared.router.PlainSeen.{PlainSeen}
use Rattle.lisp_registration.specs.declared.router.PlainSent.{PlainSent}
use Rattle.lisp_registration.specs.Fault.{handle_fault_number}
use Rattle.lisp_registration.specs.Meaning.{address_in, or_fault}
use Rattle.lisp_registration.specs.Handle.{Left, Tells, ready, source_of}
use Rattle.lisp_registration.specs.Router.{AnswersSend, AnswersWhole, Hears, Sees, Sends, TellsSeen, TellsSent, answer_bytes, plain_seen, told_seen, told_sent}
use Rattle.lisp_registration.specs.Told.{IsInFront, length_in}
use Rattle.lisp_registration.proofs.Whole.{ack_is_whole, register_is_whole, room_for_all, room_for_source}

-- ---- no refusal has the number 0

of_handle : (fault : HandleFault) → ◌≡◌ {A = ℕ} 0 (handle_fault_number fault) → ⊥
of_handle faults.Clock is = omega (arith, is)
of_handle faults.Null is = omega (arith, is)
of_handle faults.Room is = omega (arith, is)
of_handle faults.Field is = omega (arith, is)

of_send : (fault : SendFault) → ◌≡◌ {A = ℕ} 0 (send_fault_number fault) → ⊥
of_send sends.NoServer is = omega (arith, is)
of_send sends.NonceSpent is = omega (arith, is)
of_send (sends.Store _) is = omega (arith, is)
of_send sends.OutOfMemory is = omega (arith, is)
of_send sends.NoPart is = omega (arith, is)

of_notify : (fault : NotifyFault) → ◌≡◌ {A = ℕ} 0 (notify_fault_number fault) → ⊥
of_notify (notifies.Read _) is = omega (arith, is)
of_notify notifies.NotMine is = omega (arith, is)
of_notify notifies.WrongKey is = omega (arith, is)
of_notify notifies.BadAuth is = omega (arith, is)
of_notify (notifies.Stale _) is = omega (arith, is)
of_notify notifies.OutOfMemory is = omega (arith, is)

-- ---- a Map-Register

module _ (server part now : ℕ) (old : HostedRouter) (new : Option HostedRouter) (buffer buffer' : List ℕ) (sent sent' : PlainSent) where
  register_left : (answer : Result (HostedRegister Global) SendFault) (after : HostedRouter) → ready buffer now ≡ Ok tt → AnswersSend server part now old.router after.router answer
      → ◌≡◌ {A = (Left HostedRouter PlainSent)} (0, (new, (buffer', sent'))) ((told_sent answer buffer sent).0, (Some after, (told_sent answer buffer sent).1)) → IsInFront (next_datagram old.router part) buffer sent'.length buffer'
  register_left (Ok register) after good makes is =
      let whole = register_is_whole old.router after.router server part now buffer register (room_for_all buffer now good) makes in
      let size = ap (λ (l : Left HostedRouter PlainSent). l.1.1.1.length) is in
      let bytes = ap (λ (l : Left HostedRouter PlainSent). l.1.1.0) is in
      subst (λ (b : List ℕ). IsInFront b buffer sent'.length buffer') makes.datagram (size ∙ whole.0, bytes ∙ whole.1)
  register_left (Err why) after good refuses is = absurd (of_send why (ap (λ (l : Left HostedRouter PlainSent). l.0) is))

  pub register_told : TellsSent server part now (Some old) buffer sent 0 new buffer' sent' → IsInFront (next_datagram old.router part) buffer sent'.length buffer'
  register_told tells = by (ready buffer now) refl tells
    where
      by : (good : Result ⊤ HandleFault) → ready buffer now ≡ good → Tells good (Sends server part now) told_sent (Some old) buffer sent (0, (new, (buffer', sent'))) → IsInFront (next_datagram old.router part) buffer sent'.length buffer'
      by (Ok _) is (answer, after, makes, told) = register_left answer after is makes told
      by (Err fault) is told = absurd (of_handle fault (ap (λ (l : Left HostedRouter PlainSent). l.0) told))

-- ---- an answer

-- the source of a datagram is the address that it was given with
source_is : (from : PlainAddress) (a : Addr) (bytes buffer : List ℕ) → source_of from bytes buffer ≡ Ok a → address_in from ≡ Some a
source_is from a bytes buffer good = by (address_in from) good
  where
    then_by : (b : Bool) (x : Addr) → ◌≡◌ {A = Result Addr HandleFault} (cond b (Err faults.Room) (Ok x)) (Ok a) → ◌≡◌ {A = Option Addr} (Some x) (Some a)
    then_by true x is = absurd cc
    then_by false x is = cc

    by : (found : Option Addr) → (or_fault faults.Field found >>= λ x. cond (nat_lt (length buffer) (length bytes)) (Err faults.Room) (Ok x)) ≡ Ok a → found ≡ Some a
    by (Some x) is = then_by (nat_lt (length buffer) (length bytes)) x is
    by None is = absurd cc

plain_length : {A : Type 0} (seen : Seen A) (n : ℕ) → (plain_seen seen n).reply_length ≡ n
plain_length (Counted server part nonce) n = refl
plain_length (Notice server nonce records answer) n = refl

module _ (from : PlainAddress) (bytes : List ℕ) (old : HostedRouter) (new : Option HostedRouter) (buffer buffer' : List ℕ) (seen seen' : PlainSeen) (fits : IsBytes bytes) where
  answer_left : (a : Addr) (answer : Result (Seen Global) NotifyFault) (after : HostedRouter) → source_of from bytes buffer ≡ Ok a → Sees old.router a bytes answer
      → ◌≡◌ {A = (Left HostedRouter PlainSeen)} (0, (new, (buffer', seen'))) ((told_seen answer buffer seen).0, (Some after, (told_seen answer buffer seen).1)) → AnswersWhole old.router from bytes buffer seen'.reply_length buffer'
  answer_left a (Ok s) after named sees is =
      let whole = ack_is_whole old.router a bytes buffer s fits (room_for_source from a bytes buffer named) sees.0 in
      let size = ap (λ (l : Left HostedRouter PlainSeen). l.1.1.1.reply_length) is ∙ plain_length s (length_in (answer_bytes s) buffer) in
      (a, s, source_is from a bytes buffer named, sees.0, (size ∙ whole.0, ap (λ (l : Left HostedRouter PlainSeen). l.1.1.0) is ∙ whole.1))
  answer_left a (Err why) after named sees is = absurd (of_notify why (ap (λ (l : Left HostedRouter PlainSeen). l.0) is))

  pub answer_told : TellsSeen from bytes (Some old) buffer seen 0 new buffer' seen' → AnswersWhole old.router from bytes buffer seen'.reply_length buffer'
  answer_told tells = by (source_of from bytes buffer) refl tells
    where
      by : (source : Result Addr HandleFault) → source_of from bytes buffer ≡ source → Tells source (Hears bytes) told_seen (Some old) buffer seen (0, (new, (buffer', seen'))) → AnswersWhole old.router from bytes buffer seen'.reply_length buffer'
      by (Ok a) named (answer, after, sees, told) = answer_left a answer after named sees.0 told
      by (Err fault) named told = absurd (of_handle fault (ap (λ (l : Left HostedRouter PlainSeen). l.0) told))
