-- The notices that stand at a Map-Server have room in a buffer that has room for every message, whatever calls made and changed it.
use Rattle.std.proofs.Common.{◌≡◌, ℕ, ◌≤◌, Bool, true, false, List, [], length, Option, Some, None, Result, Ok, Err, refl, sym, ap, subst, ◌∙◌, arith}
use Rattle.std.specs.Prelude.{◌≢◌, ⊤, MatchResult}
use Rattle.std.specs.Global.{Global}
use Rattle.lisp_records.specs.declared.address.Addr.{Addr}
use Rattle.lisp_records.specs.declared.router.RouterId.{RouterId}
use Rattle.lisp_records.specs.Result.{◌>>=◌}
use Rattle.lisp_records.specs.Router.{router_eq}
use Rattle.lisp_records.proofs.RouterLaws.{router_eq-Decides}
use Rattle.lisp_messages.specs.Message.{MessageValue, Registers, Notifies}
use Rattle.lisp_messages.specs.Reading.{message_at}
use Rattle.lisp_messages.specs.declared.fault.ReadFault.{ReadFault}
use Rattle.lisp_nonces.specs.Store.{StoreState}
use Rattle.lisp_admission.specs.declared.refused.Refused.{Refused}
use Rattle.lisp_admission.specs.declared.notice_fault.NoticeFault.{NoticeFault}
use Rattle.lisp_server.specs.Notices.{EndsNotice, SetsNotice, StandingNoticeValue, notice_at}
use Rattle.lisp_server.specs.Receiving.{ServerTakes}
use Rattle.lisp_server.specs.Server.{ServerState, empty_server, reloaded}
use Rattle.lisp_server.specs.declared.took.Took.{Took}
use Rattle.lisp_server.specs.declared.took.Took.TheVariants.{Accepted, NoticeDone}
use Rattle.lisp_embedded.specs.declared.hosted.HostedServer.{HostedServer}
use Rattle.lisp_embedded.specs.declared.notice.HostedNotice.{HostedNotice}
use Rattle.lisp_policy.specs.Extends.{extends}
use Rattle.lisp_policy.specs.Site.{SiteValue}
use Rattle.lisp_registration.specs.declared.fault.HandleFault.{HandleFault}
use Rattle.lisp_registration.specs.Fault.{handle_fault_number}
use Rattle.lisp_registration.specs.declared.fault.NodeFault.{NodeFault}
use Rattle.lisp_registration.specs.declared.notices.PlainNotice.{PlainNotice}
use Rattle.lisp_registration.specs.declared.pair.PlainNonce.{PlainNonce}
use Rattle.lisp_registration.specs.declared.address.PlainAddress.{PlainAddress}
use Rattle.lisp_registration.specs.declared.server.PlainReceived.{PlainReceived}
use Rattle.lisp_registration.specs.declared.pair.PlainRouter.{PlainRouter}
use Rattle.lisp_registration.specs.Notices.{AreShort, DropsRows, ExpiresRows, HoldsShort, KeepsShort, Makes, Making, NotifiesKept, ResendsDue, TellsMade, TellsNotice, TellsResent, router_in, told_notice}
use Rattle.lisp_registration.specs.Handle.{in_time, message_room, ready, source_of}
use Rattle.lisp_registration.specs.Server.{Receives, ReceivesKept, RestartsServer, TellsReceived, kept_in, told_received}
use Rattle.lisp_registration.specs.Starting.{Comes, ReloadsServer, StartsNode, text_server, text_sites, told_reload, told_start}
use Rattle.lisp_registration.proofs.Telling.{keeps}
use Rattle.lisp_registration.proofs.Whole.{notice_has_room}

ok_is : {X E : Type 0} (x y : X) → ◌≡◌ {A = Result X E} (Ok x) (Ok y) → x ≡ y
ok_is x y is = cc

-- ---- notices

-- a router is this one, or another
either_router : {P : Type 0} (a b : RouterId) → (a ≡ b → P) → (a ≢ b → P) → P
either_router {P} a b same other = by (router_eq a b) refl
  where
    by : (t : Bool) → router_eq a b ≡ t → P
    by true is = same ((router_eq-Decides a b).0 is)
    by false is = other (λ alike. (let clash : true ≡ false = sym ((router_eq-Decides a b).1 alike) ∙ is in absurd cc))

-- no notice stands
none_short : AreShort []
unfolding notice_at
none_short router n at = absurd cc

-- a short notice was set
set_short : (old new : List StandingNoticeValue) (n : StandingNoticeValue) → SetsNotice old new n → length n.bytes ≤ message_room → AreShort old → AreShort new
set_short old new n sets small short router m at =
    either_router router n.router
    (λ same. (let found : Some m ≡ Some n = sym at ∙ ap (notice_at new) same ∙ sets.here in let is : m ≡ n = cc in omega (arith, small, ap (λ (x : StandingNoticeValue). length x.bytes) is)))
    (λ other. short router m (sym (sets.others router other) ∙ at))

-- a notice was ended
ended_short : (old new : List StandingNoticeValue) (ended : RouterId) → EndsNotice old new ended → AreShort old → AreShort new
ended_short old new ended ends short router m at =
    either_router router ended
    (λ same. (let found : Some m ≡ None = sym at ∙ ap (notice_at new) same ∙ ends.here in absurd cc))
    (λ other. short router m (sym (ends.others router other) ∙ at))

-- they are as they were
same_short : (old new : List StandingNoticeValue) → new ≡ old → AreShort old → AreShort new
same_short old new same = subst AreShort (sym same)

-- ---- Map-Servers

-- one that took a datagram
taken_short : {A : Type 0} (from : Addr) (bytes : List ℕ) (old new : ServerState) (before after : StoreState) (now : ℕ) (said : Result MessageValue ReadFault) (took : Took A) → ServerTakes said from bytes old new before after now took → AreShort old.notices → AreShort new.notices
taken_short from bytes old new before after now (Ok (Registers m)) (Accepted router key nonce reply) takes = same_short old.notices new.notices takes.notices
taken_short from bytes old new before after now (Ok (Registers m)) (NoticeDone router nonce) takes = absurd takes
taken_short from bytes old new before after now (Ok (Notifies m)) (Accepted router key nonce reply) takes = absurd takes
taken_short from bytes old new before after now (Ok (Notifies m)) (NoticeDone router nonce) takes = ended_short old.notices new.notices takes.notice.router takes.ended
taken_short from bytes old new before after now (Err fault) took takes = absurd takes

received_short : {A : Type 0} (kept : Option ℕ) (from : Addr) (bytes : List ℕ) (now : ℕ) (old new : ServerState) (answer : Result (Took A) Refused) → ReceivesKept kept from bytes now old new answer → AreShort old.notices → AreShort new.notices
received_short kept from bytes now old new (Ok took) (before, after, passes, takes) = taken_short from bytes old new before after now (message_at bytes) took takes
received_short kept from bytes now old new (Err why) (refuses, storeless, same) = same_short old.notices new.notices (ap (λ (s : ServerState). s.notices) same)

-- one that made a notice, or made one again
notified_short : (kept : Option ℕ) (router : RouterId) (now : ℕ) (buffer : List ℕ) (old new : ServerState) (answer : Result (HostedNotice Global) NoticeFault) → NotifiesKept kept router now buffer old new answer → AreShort old.notices → AreShort new.notices
notified_short kept router now buffer old new (Ok n) (makes, whole) =
    let sets = makes.3.stands in
    set_short old.notices new.notices _ sets (notice_has_room kept old new router now n makes)
notified_short kept router now buffer old new (Err why) (refuses, storeless, same) = same_short old.notices new.notices (ap (λ (s : ServerState). s.notices) same)

again_short : (router : RouterId) (now : ℕ) (buffer : List ℕ) (old new : ServerState) (answer : Result (HostedNotice Global) NoticeFault) → ResendsDue router now buffer old new answer → AreShort old.notices → AreShort new.notices
again_short router now buffer old new (Ok n) ((again, rest, nonce), whole) short = set_short old.notices new.notices _ again.after (short router again.notice again.stood) short
again_short router now buffer old new (Err why) (refuses, same) short = same_short old.notices new.notices (ap (λ (s : ServerState). s.notices) same) short

-- ---- handles

-- what a handle holds afterwards is short
holds : (left held : Option HostedServer) → left ≡ held → HoldsShort held → HoldsShort left
holds left held is = subst HoldsShort (sym is)

-- a start
started_short : (text : List ℕ) (answer : Result HostedServer NodeFault) (old : Option HostedServer) → Comes (λ x. x) answer (text_server text) → HoldsShort old → HoldsShort (told_start answer old).1
started_short text (Ok hosted) old comes short = by (text_sites text) comes
  where
    by : (given : Result (List SiteValue) NodeFault) → (given >>= λ sites. Ok (record { server = empty_server sites })) ≡ Ok hosted → AreShort hosted.server.notices
    by (Ok sites) is = (let made : HostedServer = record { server = empty_server sites } in subst (λ (h : HostedServer). AreShort h.server.notices) (ok_is made hosted is) none_short)
    by (Err e) is = absurd cc
started_short text (Err fault) old comes short = short

pub start_keeps : (text : List ℕ) → KeepsShort (StartsNode (text_server text))
start_keeps text old new number (answer, comes, is) short = holds new _ (ap (λ (x : ℕ × Option HostedServer). x.1) is) (started_short text answer old comes short)

-- another start
pub restart_keeps : KeepsShort RestartsServer
restart_keeps (Some hosted) new number (told, is) short = holds new _ is none_short
restart_keeps None new number (told, is) short = holds new None is tt

-- other sites
reloaded_short : (old : ServerState) (sites : List SiteValue) → AreShort old.notices → AreShort (reloaded old sites).notices
reloaded_short old sites short = by (extends old.sites sites) refl
  where
    by : (all : Bool) → extends old.sites sites ≡ all → AreShort (reloaded old sites).notices
    by true is = rw is short
    by false is = rw is none_short

told_short : (answer : Result (List SiteValue) NodeFault) (old : Option HostedServer) (goes_on : ℕ) → HoldsShort old → HoldsShort (told_reload answer old goes_on).1.0
told_short (Ok sites) (Some hosted) goes_on short = reloaded_short hosted.server sites short
told_short (Ok sites) None goes_on short = tt
told_short (Err fault) old goes_on short = short

pub reload_keeps : (text : List ℕ) (goes_on goes_on' : ℕ) → KeepsShort (λ old number new. ReloadsServer (text_sites text) old goes_on number new goes_on')
reload_keeps text goes_on goes_on' old new number (answer, comes, is) short = holds new _ (ap (λ (x : ℕ × (Option HostedServer × ℕ)). x.1.0) is) (told_short answer old goes_on short)

module _ (buffer buffer' : List ℕ) where
  -- a datagram
  pub receive_keeps : (kept : PlainNonce) (from : PlainAddress) (bytes : List ℕ) (now : ℕ) (received received' : PlainReceived) → KeepsShort (λ old number new. TellsReceived kept from bytes now old buffer received number new buffer' received')
  receive_keeps kept from bytes now received received' old new number =
      keeps (source_of from bytes buffer) (Receives (kept_in kept) bytes now buffer) told_received old buffer received (number, (new, (buffer', received'))) HoldsShort tt
      (λ a node after answer makes. received_short (kept_in kept) a bytes now node.server after.server answer makes.0)

  -- a notice, by what keeps the notices of a Map-Server short
  made_keeps : (makes : Making) → ((old new : ServerState) (answer : Result (HostedNotice Global) NoticeFault) → makes buffer old new answer → AreShort old.notices → AreShort new.notices)
      → (now : ℕ) (notice notice' : PlainNotice) → KeepsShort (λ old number new. TellsMade makes now old buffer notice number new buffer' notice')
  made_keeps makes short_after now notice notice' old new number =
      keeps (ready buffer now) (Makes makes buffer) told_notice old buffer notice (number, (new, (buffer', notice'))) HoldsShort tt (λ _ node after answer. short_after node.server after.server answer)

  pub notify_keeps : (kept : PlainNonce) (router : PlainRouter) (now : ℕ) (notice notice' : PlainNotice) → KeepsShort (λ old number new. TellsNotice kept router now old buffer notice number new buffer' notice')
  notify_keeps kept router now = made_keeps (NotifiesKept (kept_in kept) (router_in router) now) (notified_short (kept_in kept) (router_in router) now buffer) now

  pub resend_keeps : (router : PlainRouter) (now : ℕ) (notice notice' : PlainNotice) → KeepsShort (λ old number new. TellsResent router now old buffer notice number new buffer' notice')
  resend_keeps router now = made_keeps (ResendsDue (router_in router) now) (again_short (router_in router) now buffer) now

-- rows that are dropped
pub expire_keeps : (now : ℕ) → KeepsShort (ExpiresRows now)
expire_keeps now (Some hosted) new number (after, dropped, is) short = holds new _ is (by (in_time now) dropped)
  where
    by : (good : Result ⊤ HandleFault) → MatchResult good (λ _. (number ≡ 0) × DropsRows hosted.server now after) (λ fault. ◌≡◌ {A = ℕ × ServerState} (number, after) (handle_fault_number fault, hosted.server)) → AreShort after.notices
    by (Ok _) (told, drops) = same_short hosted.server.notices after.notices (ap (λ (s : ServerState). s.notices) drops.1) short
    by (Err fault) is = same_short hosted.server.notices after.notices (ap (λ (x : ℕ × ServerState). x.1.notices) is) short
expire_keeps now None new number (told, is) short = holds new None is tt
