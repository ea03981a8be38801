-- A Map-Register that is accepted unless memory is refused or a device fails.
use Rattle.std.proofs.Common.{◌≡◌, ◌≤◌, ℕ, List, Option, Some, None, Result, Ok, Err, IfErr, IsOk, refl, sym, ◌∙◌, subst, arith}
use Rattle.std.specs.Result.{IsErrOf}
use Rattle.lisp_records.specs.declared.address.Addr.{Addr}
use Rattle.lisp_messages.specs.Message.{Registers, MessageValue}
use Rattle.lisp_messages.specs.declared.fault.ReadFault.{ReadFault}
use Rattle.lisp_nonces.specs.declared.fault.StoreFault.{StoreFault}
use Rattle.lisp_nonces.specs.declared.fault.StoreFault.TheVariants as faults
use Rattle.lisp_nonces.specs.Store.{StoreState, Rose}
use Rattle.lisp_admission.specs.declared.refused.Refused.{Refused}
use Rattle.lisp_admission.specs.declared.refused.Refused.TheVariants as refusals
use Rattle.lisp_admission.specs.Pairs.{pair_of}
use Rattle.lisp_server.specs.LastNonces.{nonce_at}
use Rattle.lisp_server.specs.Server.{ServerState}
use Rattle.lisp_server.specs.Checks.{Passed, register_checked}
use Rattle.lisp_admission.specs.Checks.{most_jump_at}
use Rattle.lisp_admission.specs.Nonces.{IsBase, IsFar, IsNear, HasCause}
use Rattle.lisp_server.specs.Receiving.{FollowsAnyBase, HasSpace, IsAcceptable, ServerRefuses}
use Rattle.lisp_lookup.proofs.GrowthLaws.{full_or_fits}

-- a fault of the store: it was refused memory, or a device failed
uncaused : {N : Type 0} (fault : StoreFault) (before after : StoreState) → HasCause fault before after → (fault ≡ faults.OutOfMemory → N) → (N → ⊥) → (Rose before after → ⊥) → ⊥
uncaused faults.OutOfMemory before after cause refused never sound = never (refused refl)
uncaused faults.Device before after cause refused never sound = sound (cause (λ e. absurd cc))
uncaused faults.Damaged before after cause refused never sound = sound (cause (λ e. absurd cc))

passed_clash : (check : Result Passed Refused) (p : Passed) (e : Refused) → check ≡ Ok p → check ≡ Err e → ⊥
passed_clash check p e passes fails = absurd (let clash : ◌≡◌ {A = Result Passed Refused} (Ok p) (Err e) = sym passes ∙ fails in cc)

not_stale : (jump known : Option ℕ) (store : StoreState) (p : Passed) (saved : ℕ) → FollowsAnyBase jump known store (pair_of p.message) p.message.nonce → IsBase known store (pair_of p.message) (Some saved) → p.message.nonce ≤ saved → ⊥
not_stale jump known store p saved follows base stale = (let lt = (follows (Some saved) base).0 in absurd (omega (arith, lt, stale)))

not_far : (jump : Option ℕ) (base nonce : ℕ) → IsNear jump (Some base) nonce → IsFar jump base nonce → ⊥
not_far None base nonce near far = far
not_far (Some jump) base nonce near far = absurd (omega (arith, near, far))

module _ {M N : Type 0} {said : Result MessageValue ReadFault} {bytes : List ℕ} {old : ServerState} {before : StoreState} (from : Addr) (now : ℕ) (after : StoreState) (a : IsAcceptable said from bytes old before now) (roomy : M → ⊥) (keeps : N → ⊥) (sound : Rose before after → ⊥) where
  -- its nonce follows, whichever is said to have passed
  follows_as : (p : Passed) → register_checked old.sites from bytes a.register ≡ Ok p → FollowsAnyBase (most_jump_at old.sites p.message.site) (nonce_at old.nonces (pair_of p.message)) before (pair_of p.message) p.message.nonce
  follows_as p checks =
      let same : p ≡ a.passed = (let e : ◌≡◌ {A = Result Passed Refused} (Ok p) (Ok a.passed) = sym checks ∙ a.checks in cc) in
      subst (λ (x : Passed). FollowsAnyBase (most_jump_at old.sites x.message.site) (nonce_at old.nonces (pair_of x.message)) before (pair_of x.message) x.message.nonce) (sym same) a.fresh

  -- and its site has space
  space_as : (p : Passed) → register_checked old.sites from bytes a.register ≡ Ok p → HasSpace old p.message from now
  space_as p checks =
      let same : p ≡ a.passed = (let e : ◌≡◌ {A = Result Passed Refused} (Ok p) (Ok a.passed) = sym checks ∙ a.checks in cc) in
      subst (λ (x : Passed). HasSpace old x.message from now) (sym same) a.space

  never : (why : Refused) → ServerRefuses (Ok (Registers a.register)) from bytes old before after now why → (why ≡ refusals.OutOfMemory → M) → ((f : StoreFault) → why ≡ refusals.StoreLoad f → f ≡ faults.OutOfMemory → N) → ((f : StoreFault) → why ≡ refusals.StoreSave f → f ≡ faults.OutOfMemory → N) → ⊥
  never refusals.OutOfMemory r memory load save = roomy (memory refl)
  never (refusals.StoreLoad f) r memory load save = uncaused f before after r.cause (load f refl) keeps sound
  never (refusals.StoreSave f) r memory load save = uncaused f before after r.cause (save f refl) keeps sound
  never (refusals.Replay saved) r memory load save =
      not_stale (most_jump_at old.sites r.passed.message.site) _ before r.passed saved (follows_as r.passed r.checks) r.base r.stale
  never (refusals.Jump site saved) r memory load save =
      not_far (most_jump_at old.sites r.passed.message.site) saved r.passed.message.nonce (follows_as r.passed r.checks (Some saved) r.base).1 r.far
  never (refusals.Full site full) r memory load save = full_or_fits _ _ r.passed.message.site _ _ full (space_as r.passed r.checks) r.lacks
  never (refusals.Read fault) r memory load save = passed_clash _ a.passed _ a.checks r.0
  never refusals.NotMine r memory load save = passed_clash _ a.passed _ a.checks r.0
  never refusals.UnknownSite r memory load save = passed_clash _ a.passed _ a.checks r.0
  never refusals.UnknownKey r memory load save = passed_clash _ a.passed _ a.checks r.0
  never refusals.BadAuth r memory load save = passed_clash _ a.passed _ a.checks r.0
  never refusals.MergeAsked r memory load save = passed_clash _ a.passed _ a.checks r.0
  never (refusals.NotAllowed place) r memory load save = passed_clash _ a.passed _ a.checks r.0
  never (refusals.Limited site limit) r memory load save = passed_clash _ a.passed _ a.checks r.0
  never refusals.NoNotice r memory load save = passed_clash _ a.passed _ a.checks r.0

  -- what is acceptable is accepted
  pub accepts : {T : Type 0} (result : Result T Refused) → IfErr result (λ why. ServerRefuses said from bytes old before after now why) → (IsErrOf result refusals.OutOfMemory → M) → (IsErrOf result (refusals.StoreLoad faults.OutOfMemory) → N) → (IsErrOf result (refusals.StoreSave faults.OutOfMemory) → N) → IsOk result
  accepts (Ok took) refused memory load save = refl
  accepts (Err why) refused memory load save = absurd (never why (subst (λ (s : Result MessageValue ReadFault). ServerRefuses s from bytes old before after now why) a.spelled refused) (λ is. memory cc) (λ f is out. load cc) (λ f is out. save cc))
