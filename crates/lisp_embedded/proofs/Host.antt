-- What a call over a host's store gives, is given over what the host passed.
use Rattle.std.proofs.Common.{◌≡◌, ℕ, inl, inr, List, Option, Result, Ok, Err, refl, sym, ◌∙◌}
use Rattle.std.specs.Prelude.{◌≢◌, IsTrue}
use Rattle.lisp_records.specs.declared.address.Addr.{Addr}
use Rattle.lisp_records.specs.declared.router.RouterId.{RouterId}
use Rattle.lisp_messages.specs.declared.fault.ReadFault.{ReadFault}
use Rattle.lisp_messages.specs.Message.{MessageValue, Registers, Notifies}
use Rattle.lisp_messages.specs.Reading.{message_at}
use Rattle.lisp_nonces.specs.declared.fate.Fate.TheVariants.{Done, Doubt, LoadFails}
use Rattle.lisp_nonces.specs.declared.fault.StoreFault.{StoreFault}
use Rattle.lisp_nonces.specs.declared.fault.StoreFault.TheVariants as faults
use Rattle.lisp_nonces.specs.Store.{StoreState}
use Rattle.lisp_admission.specs.declared.refused.Refused.{Refused}
use Rattle.lisp_admission.specs.declared.refused.Refused.TheVariants as refusals
use Rattle.lisp_admission.specs.declared.notice_fault.NoticeFault.{NoticeFault}
use Rattle.lisp_admission.specs.declared.notice_fault.NoticeFault.TheVariants as notices
use Rattle.lisp_admission.specs.Pairs.{notice_pair}
use Rattle.lisp_server.specs.Receiving.{RefusesMessage, RefusesRead}
use Rattle.lisp_server.specs.SendNotice.{RefusesNotice}
use Rattle.lisp_server.specs.Server.{ServerState}
use Rattle.lisp_embedded.specs.Host.{KeepsPassed, Passes, pair_in}
use Rattle.lisp_embedded.specs.Notices.{IsOfNoStore, RefusesKeptNotice, notice_of_this_call}
use Rattle.lisp_embedded.specs.Receiving.{RefusesKept, of_this_call}
use Rattle.lisp_embedded.specs.Receiving as receiving

-- what was refused
module _ (kept : Option ℕ) (from : Addr) (bytes : List ℕ) (old : ServerState) (before after : StoreState) (now : ℕ) (passes : Passes (pair_in bytes) kept before) where
  pub refused_kept : (why : Refused) → RefusesMessage from bytes old before after now why → RefusesKept kept from bytes old now (of_this_call why)
  refused_kept (refusals.Read e) refuses = inl (before, after, passes, refuses)
  refused_kept refusals.UnknownSite refuses = inl (before, after, passes, refuses)
  refused_kept refusals.UnknownKey refuses = inl (before, after, passes, refuses)
  refused_kept refusals.BadAuth refuses = inl (before, after, passes, refuses)
  refused_kept refusals.MergeAsked refuses = inl (before, after, passes, refuses)
  refused_kept (refusals.NotAllowed p) refuses = inl (before, after, passes, refuses)
  refused_kept (refusals.Limited s l) refuses = inl (before, after, passes, refuses)
  refused_kept (refusals.StoreLoad faults.Device) refuses = inl (before, after, passes, refuses)
  refused_kept (refusals.StoreLoad faults.Damaged) refuses = inl (before, after, passes, refuses)
  refused_kept (refusals.StoreLoad faults.OutOfMemory) refuses = inr refl
  refused_kept (refusals.Replay n) refuses = inl (before, after, passes, refuses)
  refused_kept (refusals.Jump s n) refuses = inl (before, after, passes, refuses)
  refused_kept (refusals.Full s f) refuses = inl (before, after, passes, refuses)
  refused_kept refusals.OutOfMemory refuses = inl (before, after, passes, refuses)
  refused_kept (refusals.StoreSave faults.Device) refuses = inl (before, after, passes, refuses)
  refused_kept (refusals.StoreSave faults.Damaged) refuses = inl (before, after, passes, refuses)
  refused_kept (refusals.StoreSave faults.OutOfMemory) refuses = inr refl
  refused_kept refusals.NoNotice refuses = inl (before, after, passes, refuses)
  refused_kept refusals.NotMine refuses = inl (before, after, passes, refuses)

-- a notice that was refused
module _ (kept : Option ℕ) (old : ServerState) (before after : StoreState) (router : RouterId) (now : ℕ) (passes : KeepsPassed notice_pair kept before) where
  pub notice_refused : (why : NoticeFault) → RefusesNotice old before after router now why → RefusesKeptNotice kept old router now (notice_of_this_call why)
  notice_refused notices.NotRegistered refuses = inl (before, after, passes, refuses)
  notice_refused notices.TooLarge refuses = inl (before, after, passes, refuses)
  notice_refused (notices.StoreLoad faults.Device) refuses = inl (before, after, passes, refuses)
  notice_refused (notices.StoreLoad faults.Damaged) refuses = inl (before, after, passes, refuses)
  notice_refused (notices.StoreLoad faults.OutOfMemory) refuses = inr refl
  notice_refused notices.NonceSpent refuses = inl (before, after, passes, refuses)
  notice_refused notices.OutOfMemory refuses = inl (before, after, passes, refuses)
  notice_refused (notices.StoreSave faults.Device) refuses = inl (before, after, passes, refuses)
  notice_refused (notices.StoreSave faults.Damaged) refuses = inl (before, after, passes, refuses)
  notice_refused (notices.StoreSave faults.OutOfMemory) refuses = inr refl
  notice_refused notices.NotDue refuses = inl (before, after, passes, refuses)

-- a store that is armed to nothing fails for want of memory alone
module _ (before : StoreState) (done : before.fate ≡ Done) where
  loads : before.fate ≡ LoadFails → ⊥
  loads fails = let clash : Done ≡ LoadFails = sym done ∙ fails in absurd cc

  saves : before.fate ≡ Doubt → ⊥
  saves doubts = let clash : Done ≡ Doubt = sym done ∙ doubts in absurd cc

-- so no notice is refused for it
module _ (old : ServerState) (before after : StoreState) (router : RouterId) (now : ℕ) (obeys : IsTrue before.is_obedient) (done : before.fate ≡ Done) where
  pub no_store : (why : NoticeFault) → RefusesNotice old before after router now why → IsOfNoStore (notice_of_this_call why)
  no_store notices.NotRegistered refuses = tt
  no_store notices.TooLarge refuses = tt
  no_store (notices.StoreLoad faults.Device) refuses = loads before done (refuses.armed (λ e. absurd cc) obeys)
  no_store (notices.StoreLoad faults.Damaged) refuses = loads before done (refuses.armed (λ e. absurd cc) obeys)
  no_store (notices.StoreLoad faults.OutOfMemory) refuses = tt
  no_store notices.NonceSpent refuses = tt
  no_store notices.OutOfMemory refuses = tt
  no_store (notices.StoreSave faults.Device) refuses = saves before done ((refuses.doubted (λ e. absurd cc)).armed obeys)
  no_store (notices.StoreSave faults.Damaged) refuses = absurd (refuses.sound refl)
  no_store (notices.StoreSave faults.OutOfMemory) refuses = tt
  no_store notices.NotDue refuses = tt

-- nor is a datagram
module _ (from : Addr) (bytes : List ℕ) (old : ServerState) (before after : StoreState) (now : ℕ) (obeys : IsTrue before.is_obedient) (done : before.fate ≡ Done) where
  loaded : (said : Result MessageValue ReadFault) (fault : StoreFault) → fault ≢ faults.OutOfMemory → RefusesRead said from bytes old before after now (refusals.StoreLoad fault) → ⊥
  loaded (Ok (Registers m)) fault other refuses = loads before done (refuses.armed other obeys)
  loaded (Ok (Notifies m)) fault other refuses = refuses.0
  loaded (Err e) fault other refuses = let clash : refusals.StoreLoad fault ≡ refusals.Read e = refuses.0 in absurd cc

  saved : (said : Result MessageValue ReadFault) (fault : StoreFault) → fault ≢ faults.OutOfMemory → RefusesRead said from bytes old before after now (refusals.StoreSave fault) → ⊥
  saved (Ok (Registers m)) fault other refuses = saves before done ((refuses.doubted other).armed obeys)
  saved (Ok (Notifies m)) fault other refuses = refuses.0
  saved (Err e) fault other refuses = let clash : refusals.StoreSave fault ≡ refusals.Read e = refuses.0 in absurd cc

  pub takes_no_store : (why : Refused) → RefusesMessage from bytes old before after now why → receiving.IsOfNoStore (of_this_call why)
  takes_no_store (refusals.Read e) refuses = tt
  takes_no_store refusals.UnknownSite refuses = tt
  takes_no_store refusals.UnknownKey refuses = tt
  takes_no_store refusals.BadAuth refuses = tt
  takes_no_store refusals.MergeAsked refuses = tt
  takes_no_store (refusals.NotAllowed p) refuses = tt
  takes_no_store (refusals.Limited s l) refuses = tt
  takes_no_store (refusals.StoreLoad faults.Device) refuses = loaded (message_at bytes) faults.Device (λ e. absurd cc) refuses
  takes_no_store (refusals.StoreLoad faults.Damaged) refuses = loaded (message_at bytes) faults.Damaged (λ e. absurd cc) refuses
  takes_no_store (refusals.StoreLoad faults.OutOfMemory) refuses = tt
  takes_no_store (refusals.Replay n) refuses = tt
  takes_no_store (refusals.Jump s n) refuses = tt
  takes_no_store (refusals.Full s f) refuses = tt
  takes_no_store refusals.OutOfMemory refuses = tt
  takes_no_store (refusals.StoreSave faults.Device) refuses = saved (message_at bytes) faults.Device (λ e. absurd cc) refuses
  takes_no_store (refusals.StoreSave faults.Damaged) refuses = saved (message_at bytes) faults.Damaged (λ e. absurd cc) refuses
  takes_no_store (refusals.StoreSave faults.OutOfMemory) refuses = tt
  takes_no_store refusals.NoNotice refuses = tt
  takes_no_store refusals.NotMine refuses = tt
