-- The must side of legal steps: what meets its conditions is sent, accepted, counted, answered or done, unless it is
-- excused: memory was refused or a store's device failed; where no memory may be refused, a device failed.
use Rattle.std.specs.Prelude.{◌≡◌, ◌≢◌, ◌⊎◌, ℕ, ◌<◌, ◌≤◌, Bool, true, false, List, Option, Some, None, Ok}
use Rattle.std.specs.List.{Contains}
use Rattle.std.specs.Option.{IsSomeAnd}
use Rattle.lisp_nonces.specs.declared.fault.StoreFault.{StoreFault}
use Rattle.lisp_nonces.specs.declared.fault.StoreFault.TheVariants as stores
use Rattle.lisp_nonces.specs.Kept.{number}
use Rattle.lisp_messages.specs.Message.{MapRegisterValue, MapNotifyValue, Notifies}
use Rattle.lisp_records.specs.Parts.{most_parts}
use Rattle.lisp_etr.specs.Hearing.{ServerNotify, first_notice}
use Rattle.lisp_etr.specs.Rounds.{is_latest}
use Rattle.lisp_etr.specs.Sending.{last_nonce}
use Rattle.lisp_etr.specs.declared.notify_fault.NotifyFault.TheVariants as notifies
use Rattle.lisp_etr.specs.declared.send_fault.SendFault.TheVariants as sends
use Rattle.lisp_admission.specs.declared.refused.Refused.TheVariants as refuseds
use Rattle.lisp_admission.specs.Checks.{most_jump_at}
use Rattle.lisp_admission.specs.Nonces.{IsBelow, IsNear}
use Rattle.lisp_admission.specs.Pairs.{pair_of}
use Rattle.lisp_model.specs.declared.event.Event.TheVariants as events
use Rattle.lisp_model.specs.declared.line.Line.TheVariants as lines
use Rattle.lisp_model.specs.declared.refusal.Refusal.TheVariants as refusals
use Rattle.lisp_model.specs.Trace.{EventValue, Step, Opening, is_server, is_listed, is_up, is_router, Line, Refusal, Fate}
use Rattle.lisp_model.specs.Timers.{Notice}
use Rattle.lisp_model.specs.Bag.{Arrival, arrival_in, bag}
use Rattle.lisp_model.specs.Counted.{latest_nonce, notify_at}
use Rattle.lisp_model.specs.Context.{Context, its_sites, HasCause, values}
use Rattle.lisp_model.specs.Sending.{pair_at, HasPart}
use Rattle.lisp_model.specs.Receiving.{Admits, HasSpace, last_in, awaiting, has_tag_for}
use Rattle.lisp_model.specs.Legal.{context_of}

-- a router's or server's refusal for out of memory, or for its store
abbrev pub cause_of : Refusal → Option StoreFault
cause_of (refusals.Send sends.OutOfMemory) = Some stores.OutOfMemory
cause_of (refusals.Send (sends.Store fault)) = Some fault
cause_of (refusals.Notify notifies.OutOfMemory) = Some stores.OutOfMemory
cause_of (refusals.Receive refuseds.OutOfMemory) = Some stores.OutOfMemory
cause_of (refusals.Receive (refuseds.StoreLoad fault)) = Some fault
cause_of (refusals.Receive (refuseds.StoreSave fault)) = Some fault
cause_of _ = None

-- a line is a refusal with a cause of that kind
abbrev pub IsRefusedFor : (StoreFault → Type 0) → Line → Type 0
IsRefusedFor Such (lines.Refused _ why) = IsSomeAnd (cause_of why) Such
IsRefusedFor Such _ = ⊥

-- what excuses a line
abbrev pub Excuse : Type 1
Excuse = Context → Line → Type 0

-- memory was refused, or a store's device failed
abbrev pub IsExcused : Excuse
IsExcused t line = IsRefusedFor (HasCause t) line

-- a store's device failed
abbrev pub DeviceFailed : Excuse
DeviceFailed t line = IsRefusedFor (λ fault. (fault ≢ stores.OutOfMemory) × HasCause t fault) line

abbrev pub is_sent : Line → Bool
is_sent (lines.Sent _ _ _ _ _ _) = true
is_sent _ = false

abbrev pub is_accepted : Line → Bool
is_accepted (lines.Accepted _ _ _ _ _) = true
is_accepted _ = false

abbrev pub is_done : Line → Bool
is_done (lines.Done _ _ _) = true
is_done _ = false

-- the nonce is above the last one and near it, or where there is none above every value that is kept and near each
abbrev pub Follows : Option ℕ → Option ℕ → List (Option ℕ) → ℕ → Type 0
Follows jump (Some last) kept nonce = (last < nonce) × IsNear jump (Some last) nonce
Follows jump None kept nonce = (v : Option ℕ) → Contains kept v → IsBelow v nonce × IsNear jump v nonce

-- a router that is up sends a part of its database to a server of its list, where every value that is kept is below
-- 2^63 - 1
abbrev pub MustSend : Excuse → Context → EventValue → Line → Type 0
MustSend Excused t event line = (router server part : ℕ) (fate : Fate) → event ≡ events.Send router server part fate
    → is_up t.past router ≡ true → is_listed t.opening.config router server ≡ true → HasPart t router part
    → ((v : Option ℕ) → Contains (values t (pair_at t.opening t.past router)) v → number v < last_nonce)
    → (is_sent line ≡ true) ⊎ Excused t line

-- a server accepts a Map-Register that passes all checks, with such a nonce, where its site has space for it
abbrev pub MustAccept : Excuse → Context → EventValue → Line → Type 0
MustAccept Excused t event line = (a : Arrival) (m : MapRegisterValue)
    → arrival_in (bag t.opening t.past) event ≡ Some a → is_server t.opening.config t.node ≡ true → Admits t a m
    → Follows (most_jump_at (its_sites t) m.site) (last_in t (pair_of m)) (values t (pair_of m)) m.nonce
    → HasSpace t a m → (is_accepted line ≡ true) ⊎ Excused t line

-- a Map-Notify-Ack ends the notice that waits for it
abbrev pub MustEnd : Excuse → Context → EventValue → Line → Type 0
MustEnd Excused t event line = (a : Arrival) (m : MapNotifyValue) (n : Notice)
    → arrival_in (bag t.opening t.past) event ≡ Some a → is_server t.opening.config t.node ≡ true
    → a.read ≡ Ok (Notifies m) → m.ack ≡ true → awaiting t a.from m ≡ Some n → has_tag_for t a n ≡ true
    → (is_done line ≡ true) ⊎ Excused t line

abbrev pub is_counted : Line → Bool
is_counted (lines.Counted _ _ _ _ _) = true
is_counted _ = false

abbrev pub is_noticed : Line → Bool
is_noticed (lines.Noticed _ _ _ _) = true
is_noticed _ = false

-- a router that is up counts a Map-Notify for its last Map-Register of some part to that server, and answers a notice
abbrev pub MustCount : Excuse → Context → EventValue → Line → Type 0
MustCount Excused t event line = (a : Arrival) (h : ServerNotify) (part : ℕ)
    → arrival_in (bag t.opening t.past) event ≡ Some a → is_router t.opening.config t.node ≡ true
    → is_up t.past t.node ≡ true
    → notify_at t.opening t.past t.node a ≡ Ok h → h.message.nonce < first_notice
    → part < most_parts → is_latest h.message.nonce (latest_nonce t.past t.node h.server part) ≡ true
    → (is_counted line ≡ true) ⊎ Excused t line

abbrev pub MustNotice : Excuse → Context → EventValue → Line → Type 0
MustNotice Excused t event line = (a : Arrival) (h : ServerNotify)
    → arrival_in (bag t.opening t.past) event ≡ Some a → is_router t.opening.config t.node ≡ true
    → is_up t.past t.node ≡ true
    → notify_at t.opening t.past t.node a ≡ Ok h → first_notice ≤ h.message.nonce
    → (is_noticed line ≡ true) ⊎ Excused t line

pub record Must (Excused : Excuse) (o : Opening) (T : List Step) (s : Step) : Type 0 where
  pub send : MustSend Excused (context_of o T s) s.event s.line
  pub accept : MustAccept Excused (context_of o T s) s.event s.line
  pub done : MustEnd Excused (context_of o T s) s.event s.line
  pub counted : MustCount Excused (context_of o T s) s.event s.line
  pub noticed : MustNotice Excused (context_of o T s) s.event s.line
