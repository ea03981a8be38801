-- What a call leaves that asks the node of a handle, by its steps.
use Rattle.std.proofs.Common.{◌≡◌, ℕ, List, Option, Some, None, Result, Ok, Err, arith, sym, ap, subst}
use Rattle.std.specs.Prelude.{IfOk, IfErr, OnErr}
use Rattle.std.specs.Global.{Global}
use Rattle.lisp_records.specs.declared.router.RouterId.{RouterId}
use Rattle.lisp_admission.specs.declared.notice_fault.NoticeFault.{NoticeFault}
use Rattle.lisp_server.specs.Notices.{RefusesResend}
use Rattle.lisp_server.specs.Server.{ServerState}
use Rattle.lisp_embedded.specs.declared.hosted.HostedServer.{HostedServer}
use Rattle.lisp_embedded.specs.declared.notice.HostedNotice.{HostedNotice}
use Rattle.lisp_embedded.specs.Notices.{AnnouncesKept, IsOfNoStore, RefusesKeptNotice}
use Rattle.lisp_registration.specs.declared.notices.PlainNotice.{PlainNotice}
use Rattle.lisp_registration.specs.Notices.{Makes, Making, NotifiesKept, ResendsDue, SendsAgain, told_notice}
use Rattle.lisp_records.specs.declared.address.Addr.{Addr}
use Rattle.lisp_admission.specs.declared.refused.Refused.{Refused}
use Rattle.lisp_server.specs.declared.took.Took.{Took}
use Rattle.lisp_embedded.specs.Receiving.{IsOfNoStore as IsReceivedOfNoStore, RefusesKept, TakesKept}
use Rattle.lisp_records.specs.Spelling.{IsBytes}
use Rattle.lisp_registration.specs.declared.address.PlainAddress.{PlainAddress}
use Rattle.lisp_registration.specs.declared.server.PlainReceived.{PlainReceived}
use Rattle.lisp_registration.specs.declared.fault.HandleFault.{HandleFault}
use Rattle.lisp_registration.specs.Server.{Receives, ReceivesKept, told_received}
use Rattle.lisp_registration.specs.Handle.{Left, Tells, ready, source_of}
use Rattle.lisp_registration.proofs.Whole.{again_has_room, notice_has_room, reply_is_whole, room_for_all, room_for_source, told_whole}

-- ---- any call

module _ {G H X Y E : Type 0} (can : Result G HandleFault) (Answers : G → H → H → Result X E → Type 0) (tell : Result X E → List ℕ → Y → ℕ × (List ℕ × Y)) (held : Option H) (buffer : List ℕ) (old : Y) (left : Left H Y) where
  -- the node was asked
  pub is_told : (given : G) (node after : H) (answer : Result X E) → can ≡ Ok given → held ≡ Some node → Answers given node after answer → left ≡ ((tell answer buffer old).0, (Some after, (tell answer buffer old).1)) → Tells can Answers tell held buffer old left
  is_told given node after answer may holds answers told = rw (may, holds) (answer, after, answers, told)

  -- what holds of nothing, and of a node after each answer where it did before, holds of what the handle holds where it did before
  pub keeps : (P : Option H → Type 0) → P None → ((given : G) (node after : H) (answer : Result X E) → Answers given node after answer → P (Some node) → P (Some after)) → Tells can Answers tell held buffer old left → P held → P left.1.0
  keeps P none each tells = by can held tells
    where
      now : (was : Option H) (x : ℕ) (rest : List ℕ × Y) → left ≡ (x, (was, rest)) → P was → P left.1.0
      now was x rest is = subst P (sym (ap (λ (l : Left H Y). l.1.0) is))

      by : (may : Result G HandleFault) (was : Option H) → Tells may Answers tell was buffer old left → P was → P left.1.0
      by (Ok given) (Some node) (answer, after, answers, is) it = now (Some after) _ _ is (each given node after answer answers it)
      by (Ok given) None is it = now None _ _ is none
      by (Err fault) was is it = now was _ _ is it

-- ---- a datagram

-- an answer is what the Map-Server makes of it
receives : (kept : Option ℕ) (from : Addr) (bytes : List ℕ) (now : ℕ) (old new : ServerState) (answer : Result (Took Global) Refused)
    → IfOk answer (TakesKept kept from bytes old new now) → IfErr answer (RefusesKept kept from bytes old now) → IfErr answer IsReceivedOfNoStore → OnErr answer (new ≡ old) → ReceivesKept kept from bytes now old new answer
receives kept from bytes now old new (Ok took) takes refuses storeless same = takes
receives kept from bytes now old new (Err why) takes refuses storeless same = (refuses, storeless, same)

module _ (kept : Option ℕ) (from : PlainAddress) (a : Addr) (bytes buffer : List ℕ) (now : ℕ) (held : Option HostedServer) (hosted : HostedServer) (received : PlainReceived) (after : ServerState) (answer : Result (Took Global) Refused) where
  -- a datagram that the Map-Server received
  pub is_received : (left : Left HostedServer PlainReceived) → source_of from bytes buffer ≡ Ok a → held ≡ Some hosted
      → IfOk answer (TakesKept kept a bytes hosted.server after now) → IfErr answer (RefusesKept kept a bytes hosted.server now) → IfErr answer IsReceivedOfNoStore → OnErr answer (after ≡ hosted.server)
      → IsBytes bytes → left ≡ ((told_received answer buffer received).0, (Some (record { server = after }), (told_received answer buffer received).1))
      → Tells (source_of from bytes buffer) (Receives kept bytes now buffer) told_received held buffer received left
  is_received left named holds takes refuses storeless same fits told =
      is_told (source_of from bytes buffer) (Receives kept bytes now buffer) told_received held buffer received left a hosted (record { server = after }) answer named holds
      (receives kept a bytes now hosted.server after answer takes refuses storeless same, reply_is_whole kept a bytes buffer hosted.server after now answer fits (room_for_source from a bytes buffer named) takes) told

-- ---- a notice

-- an answer is how a new notice is made, or why not
pub notifies : (kept : Option ℕ) (router : RouterId) (now : ℕ) (old new : ServerState) (answer : Result (HostedNotice Global) NoticeFault)
    → IfOk answer (AnnouncesKept kept old new router now) → IfErr answer (RefusesKeptNotice kept old router now) → IfErr answer IsOfNoStore → OnErr answer (new ≡ old)
    → (buffer : List ℕ) → ready buffer now ≡ Ok tt → NotifiesKept kept router now buffer old new answer
notifies kept router now old new (Ok n) made refuses storeless same buffer good =
    (made, told_whole n.bytes.items buffer (omega (arith, notice_has_room kept old new router now n made, room_for_all buffer now good)))
notifies kept router now old new (Err why) made refuses storeless same buffer good = (refuses, storeless, same)

-- the same of a notice that is due
pub resends : (router : RouterId) (now : ℕ) (old new : ServerState) (answer : Result (HostedNotice Global) NoticeFault)
    → IfOk answer (SendsAgain old new router now) → IfErr answer (RefusesResend old.notices router now) → OnErr answer (new ≡ old)
    → (buffer : List ℕ) → ready buffer now ≡ Ok tt → ResendsDue router now buffer old new answer
resends router now old new (Ok n) made refuses same buffer good =
    (made, λ short. told_whole n.bytes.items buffer (omega (arith, again_has_room old new router now n made short, room_for_all buffer now good)))
resends router now old new (Err why) made refuses same buffer good = (refuses, same)

-- a notice that was asked for at a good time, with room for it
pub is_made : (makes : Making) (now : ℕ) (held : Option HostedServer) (hosted : HostedServer) (buffer : List ℕ) (notice : PlainNotice) (answer : Result (HostedNotice Global) NoticeFault) (after : ServerState) (left : Left HostedServer PlainNotice)
    → ready buffer now ≡ Ok tt → held ≡ Some hosted → makes buffer hosted.server after answer
    → left ≡ ((told_notice answer buffer notice).0, (Some (record { server = after }), (told_notice answer buffer notice).1))
    → Tells (ready buffer now) (Makes makes buffer) told_notice held buffer notice left
is_made makes now held hosted buffer notice answer after left good holds made told = is_told (ready buffer now) (Makes makes buffer) told_notice held buffer notice left tt hosted (record { server = after }) answer good holds made told
