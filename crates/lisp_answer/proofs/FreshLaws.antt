-- What a fresh server over an empty store makes of a message: no nonce stands in its way.
use Rattle.std.proofs.Common.{◌≡◌, ◌⊎◌, inl, inr, ℕ, zero, suc, Bool, cond, List, [], ◌∷◌, Option, Some, None, Result, Ok, Err, refl, sym, ap, ◌∙◌, subst, arith}
use Rattle.std.specs.FinMap.{empty, get-empty}
use Rattle.std.specs.List.{Contains}
use Rattle.lisp_records.specs.declared.address.Addr.{Addr}
use Rattle.lisp_records.specs.declared.router.RouterId.{RouterId}
use Rattle.lisp_policy.specs.Site.{SiteValue}
use Rattle.lisp_nonces.specs.declared.fault.StoreFault.{StoreFault}
use Rattle.lisp_nonces.specs.declared.fault.StoreFault.TheVariants as faults
use Rattle.lisp_nonces.specs.declared.pair.Pair.{Pair}
use Rattle.lisp_nonces.specs.Pair.{pair_cmp}
use Rattle.lisp_nonces.specs.Kept.{kept_at}
use Rattle.lisp_nonces.proofs.Kept.{kept_at-empty}
use Rattle.lisp_nonces.specs.Memory.{memory_state}
use Rattle.lisp_nonces.specs.Store.{StoreState, Rose, Proceeds}
use Rattle.std.specs.Result.{IsErrOf}
use Rattle.lisp_messages.specs.Message.{MapRegisterValue, MessageValue, Registers, Notifies, MapNotifyValue}
use Rattle.lisp_messages.specs.Reading.{HasHead, message_at}
use Rattle.lisp_messages.specs.declared.fault.ReadFault.{ReadFault}
use Rattle.lisp_server.specs.Checks.{register_checked, RefusesAck}
use Rattle.lisp_server.specs.Notices.{StandingNoticeValue, notice_at}
use Rattle.lisp_server.specs.LastNonces.{nonce_at}
use Rattle.lisp_admission.specs.Nonces.{IsBase, HasCause}
use Rattle.lisp_server.specs.Receiving.{ServerTakes, RefusesRegister, RefusesRead, ServerRefuses}
use Rattle.lisp_admission.specs.Pairs.{pair_of}
use Rattle.lisp_server.specs.Took.{reply_in}
use Rattle.lisp_server.specs.declared.took.Took.{Took}
use Rattle.lisp_server.specs.declared.took.Took.TheVariants.{Accepted, NoticeDone}
use Rattle.lisp_admission.specs.declared.refused.Refused.{Refused}
use Rattle.lisp_admission.specs.declared.refused.Refused.TheVariants as refusals
use Rattle.lisp_server.specs.Server.{ServerState}
use Rattle.lisp_answer.specs.Fresh.{fresh_server, fresh_memory, source}
use Rattle.lisp_answer.specs.Answer.{answer_to, read_answer, answer_of, RanOut, FillsUp}

abbrev fresh_store : StoreState
fresh_store = memory_state fresh_memory

nothing_at : (pair : Pair) → nonce_at empty pair ≡ None
unfolding nonce_at
nothing_at pair = get-empty pair_cmp pair

-- such a store doesn't fail
no_fault : (after : StoreState) → Proceeds fresh_store after → Rose fresh_store after → ⊥
no_fault after went (inl more) = omega (arith, (went.quiet refl).1, more)
no_fault after went (inr top) = omega (arith, (went.quiet refl).1, top)

only_memory : (after : StoreState) (fault : StoreFault) → Proceeds fresh_store after → HasCause fault fresh_store after → fault ≡ faults.OutOfMemory
only_memory after faults.Device went cause = absurd (no_fault after went (cause (λ e. absurd cc)))
only_memory after faults.Damaged went cause = absurd (no_fault after went (cause (λ e. absurd cc)))
only_memory after faults.OutOfMemory went cause = refl

-- and no number was saved there
no_base : (pair : Pair) (saved : ℕ) → IsBase (nonce_at empty pair) fresh_store pair (Some saved) → ⊥
no_base pair saved base =
    let kept : Contains (kept_at empty pair) (Some saved) = (subst (λ (last : Option ℕ). IsBase last fresh_store pair (Some saved)) (nothing_at pair) base).1 refl in
    only_none saved (subst (λ (values : List (Option ℕ)). Contains values (Some saved)) (kept_at-empty pair) kept)
  where
    only_none : (saved : ℕ) → Contains (None ∷ []) (Some saved) → ⊥
    only_none saved (zero, lt, at) = (let clash : ◌≡◌ {A = Option ℕ} None (Some saved) = at in absurd cc)
    only_none saved (suc k, lt, at) = omega (arith, lt)

-- no notice stands that an acknowledgement could end
none_stands : (router : RouterId) (n : StandingNoticeValue) → notice_at [] router ≡ Some n → ⊥
unfolding notice_at
none_stands router n at = (let clash : ◌≡◌ {A = Option StandingNoticeValue} None (Some n) = at in absurd cc)

ack_refused : (sites : List SiteValue) (from : Addr) (bytes : List ℕ) (m : MapNotifyValue) (why : Refused) → RefusesAck sites [] from bytes m why → cond m.ack refusals.NoNotice refusals.NotMine ≡ why
ack_refused sites from bytes m refusals.NotMine notify = ap (λ (ack : Bool). cond ack refusals.NoNotice refusals.NotMine) notify
ack_refused sites from bytes m refusals.NoNotice r = ap (λ (ack : Bool). cond ack refusals.NoNotice refusals.NotMine) r.0
ack_refused sites from bytes m refusals.BadAuth r = absurd (none_stands r.1.router r.1 r.2.stands)
ack_refused sites from bytes m (refusals.Read _) never = absurd never
ack_refused sites from bytes m refusals.UnknownSite never = absurd never
ack_refused sites from bytes m refusals.UnknownKey never = absurd never
ack_refused sites from bytes m refusals.MergeAsked never = absurd never
ack_refused sites from bytes m (refusals.NotAllowed _) never = absurd never
ack_refused sites from bytes m (refusals.Limited _ _) never = absurd never
ack_refused sites from bytes m (refusals.StoreLoad _) never = absurd never
ack_refused sites from bytes m (refusals.Replay _) never = absurd never
ack_refused sites from bytes m (refusals.Jump _ _) never = absurd never
ack_refused sites from bytes m (refusals.Full _ _) never = absurd never
ack_refused sites from bytes m refusals.OutOfMemory never = absurd never
ack_refused sites from bytes m (refusals.StoreSave _) never = absurd never

pub taken : {A : Type 0} (sites : List SiteValue) (said : Result MessageValue ReadFault) (bytes : List ℕ) (new : ServerState) (after : StoreState) (took : Took A) → ServerTakes said source bytes (fresh_server sites) new fresh_store after 0 took → read_answer sites bytes said ≡ Ok (reply_in took)
taken sites (Ok (Registers m)) bytes new after (Accepted router key nonce reply) a = ap answer_to a.checks ∙ ap (λ t. Ok (reply_in t)) (sym a.answer)
taken sites (Ok (Registers m)) bytes new after (NoticeDone router nonce) never = absurd never
taken sites (Ok (Notifies m)) bytes new after (Accepted router key nonce reply) never = absurd never
taken sites (Ok (Notifies m)) bytes new after (NoticeDone router nonce) e = absurd (none_stands e.notice.router e.notice e.acknowledges.awaiting.stands)
taken sites (Err fault) bytes new after took never = absurd never

-- what a refusal that is out of memory shows, of the server's own or of its store
pub record Excuse (T : Type 0) (may : Type 0) (bytes : List ℕ) (why : Refused) : Type 0 where
  pub own : IsErrOf {T = T} (Err why) refusals.OutOfMemory → may × HasHead bytes
  pub load : IsErrOf {T = T} (Err why) (refusals.StoreLoad faults.OutOfMemory) → may
  pub save : IsErrOf {T = T} (Err why) (refusals.StoreSave faults.OutOfMemory) → may

register_refused : {T : Type 0} (may : Type 0) (sites : List SiteValue) (bytes : List ℕ) (m : MapRegisterValue) (after : StoreState) (why : Refused) → message_at bytes ≡ Ok (Registers m) → Excuse T may bytes why → Proceeds fresh_store after → RefusesRegister (register_checked sites source bytes m) (fresh_server sites) fresh_store after source 0 why → (may × RanOut sites bytes why) ⊎ (FillsUp sites bytes why ⊎ (answer_to (register_checked sites source bytes m) ≡ Err why))
unfolding FillsUp
register_refused may sites bytes m after (refusals.StoreLoad fault) read out went r =
    let ran = only_memory after fault went r.cause in
    inl (out.load (ap (λ (f : StoreFault). Err (refusals.StoreLoad f)) ran), (ran, (m, r.passed, read, r.checks)))
register_refused may sites bytes m after (refusals.StoreSave fault) read out went r =
    let ran = only_memory after fault went r.cause in
    inl (out.save (ap (λ (f : StoreFault). Err (refusals.StoreSave f)) ran), (ran, (m, r.passed, read, r.checks)))
register_refused may sites bytes m after refusals.OutOfMemory read out went r = inl (out.own refl)
register_refused may sites bytes m after (refusals.Replay saved) read out went r = absurd (no_base (pair_of r.passed.message) saved r.base)
register_refused may sites bytes m after (refusals.Jump site saved) read out went r = absurd (no_base (pair_of r.passed.message) saved r.base)
register_refused may sites bytes m after (refusals.Full site full) read out went r = inr (inl ((m, r.passed, read, r.checks), r.its, r.lacks))
register_refused may sites bytes m after (refusals.Read _) read out went r = inr (inr (ap answer_to r.0))
register_refused may sites bytes m after refusals.NotMine read out went r = inr (inr (ap answer_to r.0))
register_refused may sites bytes m after refusals.UnknownSite read out went r = inr (inr (ap answer_to r.0))
register_refused may sites bytes m after refusals.UnknownKey read out went r = inr (inr (ap answer_to r.0))
register_refused may sites bytes m after refusals.BadAuth read out went r = inr (inr (ap answer_to r.0))
register_refused may sites bytes m after refusals.MergeAsked read out went r = inr (inr (ap answer_to r.0))
register_refused may sites bytes m after (refusals.NotAllowed _) read out went r = inr (inr (ap answer_to r.0))
register_refused may sites bytes m after (refusals.Limited _ _) read out went r = inr (inr (ap answer_to r.0))
register_refused may sites bytes m after refusals.NoNotice read out went r = inr (inr (ap answer_to r.0))

read_refused : {T : Type 0} (may : Type 0) (sites : List SiteValue) (said : Result MessageValue ReadFault) (bytes : List ℕ) (after : StoreState) (why : Refused) → message_at bytes ≡ said → Excuse T may bytes why → Proceeds fresh_store after → RefusesRead said source bytes (fresh_server sites) fresh_store after 0 why → (may × RanOut sites bytes why) ⊎ (FillsUp sites bytes why ⊎ (read_answer sites bytes said ≡ Err why))
read_refused may sites (Ok (Registers m)) bytes after why read out went r = register_refused may sites bytes m after why read out went r
read_refused may sites (Ok (Notifies m)) bytes after why read out went r = inr (inr (ap Err (ack_refused sites source bytes m why r.0)))
read_refused may sites (Err fault) bytes after why read out went r = inr (inr (ap Err (sym r.0)))

pub refused : {T : Type 0} (may : Type 0) (sites : List SiteValue) (bytes : List ℕ) (after : StoreState) (why : Refused) → Excuse T may bytes why → Proceeds fresh_store after → ServerRefuses (message_at bytes) source bytes (fresh_server sites) fresh_store after 0 why → (may × RanOut sites bytes why) ⊎ (FillsUp sites bytes why ⊎ (answer_of sites bytes ≡ Err why))
refused may sites bytes after refusals.OutOfMemory out went r = inl (out.own refl)
refused may sites bytes after (refusals.StoreLoad x) out went r = read_refused may sites (message_at bytes) bytes after (refusals.StoreLoad x) refl out went r
refused may sites bytes after (refusals.StoreSave x) out went r = read_refused may sites (message_at bytes) bytes after (refusals.StoreSave x) refl out went r
refused may sites bytes after (refusals.Replay x) out went r = read_refused may sites (message_at bytes) bytes after (refusals.Replay x) refl out went r
refused may sites bytes after (refusals.Jump s x) out went r = read_refused may sites (message_at bytes) bytes after (refusals.Jump s x) refl out went r
refused may sites bytes after (refusals.Full s x) out went r = read_refused may sites (message_at bytes) bytes after (refusals.Full s x) refl out went r
refused may sites bytes after (refusals.Read x) out went r = read_refused may sites (message_at bytes) bytes after (refusals.Read x) refl out went r
refused may sites bytes after refusals.NotMine out went r = read_refused may sites (message_at bytes) bytes after refusals.NotMine refl out went r
refused may sites bytes after refusals.UnknownSite out went r = read_refused may sites (message_at bytes) bytes after refusals.UnknownSite refl out went r
refused may sites bytes after refusals.UnknownKey out went r = read_refused may sites (message_at bytes) bytes after refusals.UnknownKey refl out went r
refused may sites bytes after refusals.BadAuth out went r = read_refused may sites (message_at bytes) bytes after refusals.BadAuth refl out went r
refused may sites bytes after refusals.MergeAsked out went r = read_refused may sites (message_at bytes) bytes after refusals.MergeAsked refl out went r
refused may sites bytes after (refusals.NotAllowed x) out went r = read_refused may sites (message_at bytes) bytes after (refusals.NotAllowed x) refl out went r
refused may sites bytes after (refusals.Limited s x) out went r = read_refused may sites (message_at bytes) bytes after (refusals.Limited s x) refl out went r
refused may sites bytes after refusals.NoNotice out went r = read_refused may sites (message_at bytes) bytes after refusals.NoNotice refl out went r
