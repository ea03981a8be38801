-- What a router makes of a message, check by check.
use Rattle.std.proofs.Common.{◌≡◌, ◌≢◌, ◌<◌, ◌≤◌, ℕ, ◌==◌, nat_le, Bool, true, false, List, Option, Some, Result, Ok, Err, IfOk, IfErr, ok_or, refl, sym, ap, subst, ◌∙◌, arith, true≢false, cond, None}
use Rattle.std.proofs.lemmas.Bool.{le-leb, leb-true}
use Rattle.std.proofs.lemmas.Bool.Decides.{Decides-eqb}
use Rattle.lisp_records.specs.declared.address.Addr.{Addr}
use Rattle.lisp_messages.specs.Message.{MapNotifyValue, MessageValue, Registers, Notifies}
use Rattle.lisp_messages.specs.Authentic.{is_authentic}
use Rattle.lisp_messages.specs.declared.fault.ReadFault.{ReadFault}
use Rattle.lisp_etr.specs.Config.{EtrConfigValue}
use Rattle.lisp_records.specs.Result.{◌>>=◌}
use Rattle.lisp_etr.specs.Etr.{EtrState}
use Rattle.lisp_etr.specs.Hearing.{Gives, ServerNotify, notify_in, notify_read, server_at, checked_notify, first_notice, notice_in, counted_as, counted_in, seen_in, AnswerFits}
use Rattle.lisp_etr.specs.Rounds.{latest_of, part_with, rounds_at}
use Rattle.lisp_etr.specs.declared.rounds.Rounds.{Rounds}
use Rattle.lisp_etr.specs.declared.seen.Seen.{Seen}
use Rattle.lisp_etr.specs.declared.notify_fault.NotifyFault.{NotifyFault}
use Rattle.lisp_etr.specs.declared.notify_fault.NotifyFault.TheVariants as faults

number_same : (a b : ℕ) → a ≡ b → (a == b) ≡ true
number_same a b same = (Decides-eqb a b).1 same

number_differs : (a b : ℕ) → a ≢ b → (a == b) ≡ false
number_differs a b differ = by (a == b) refl
  where
    by : (t : Bool) → (a == b) ≡ t → (a == b) ≡ false
    by true same = absurd (differ ((Decides-eqb a b).0 same))
    by false other = other

-- the Map-Server that was found is that of the router's list
pub found : {given servers : List Addr} (from : Addr) (server : ℕ) → given ≡ servers → Some server ≡ server_at given from → ok_or (server_at servers from) faults.NotMine ≡ Ok server
found from server all at = ap (λ (place : Option ℕ). ok_or place faults.NotMine) (ap (λ (list : List Addr). server_at list from) (sym all) ∙ sym at)

pub missed : {given servers : List Addr} (from : Addr) → given ≡ servers → server_at given from ≡ None → ok_or (server_at servers from) faults.NotMine ≡ Err faults.NotMine
missed from all none = ap (λ (place : Option ℕ). ok_or place faults.NotMine) (ap (λ (list : List Addr). server_at list from) (sym all) ∙ none)

-- the fault of a refusal that has one
fault_or : {X : Type 0} → NotifyFault → Result X NotifyFault → NotifyFault
fault_or other (Ok _) = other
fault_or other (Err fault) = fault

-- two refusals with one fault, for whatever was asked
pub same_fault : {X Y : Type 0} {a b : NotifyFault} → ◌≡◌ {A = Result X NotifyFault} (Err a) (Err b) → ◌≡◌ {A = Result Y NotifyFault} (Err a) (Err b)
unfolding fault_or
same_fault {X} {Y} {a} same = ap (λ (r : Result X NotifyFault). Err (fault_or a r)) same

-- the answer is want of memory
abbrev pub is_out : {X : Type 0} → Result X NotifyFault → Bool
is_out (Err faults.OutOfMemory) = true
is_out _ = false

pub not_out : {X P : Type 0} (answer : Result X NotifyFault) → is_out answer ≡ false → answer ≡ Err faults.OutOfMemory → P
not_out answer other out = absurd (true≢false (sym (ap is_out out) ∙ other))

either_fits : (A : Type 0) (server nonce key : ℕ) (latest : List ℕ) (part : Option ℕ) → IfOk {T = Seen A} {E = NotifyFault} (counted_as server nonce latest part) (λ s. AnswerFits key s)
either_fits A server nonce key latest (Some part) = tt
either_fits A server nonce key latest None = tt

no_memory : {P : Type 0} (m : MapNotifyValue) (ack : Bool) → cond ack (Err faults.NotMine) (Ok m) ≡ Err faults.OutOfMemory → P
no_memory m true out = not_out (Err faults.NotMine) refl out
no_memory m false out = not_out (Ok m) refl out

-- whether a message is for routers takes no memory
pub never_out : {P : Type 0} (x : MessageValue) → notify_in x ≡ Err faults.OutOfMemory → P
never_out (Registers m) out = not_out {X = MapNotifyValue} (Err faults.NotMine) refl out
never_out (Notifies m) out = no_memory m m.ack out

-- an acknowledgement has no answer
pub counted_fits : {A : Type 0} (seen : Result (Seen A) NotifyFault) (all : List Rounds) (server nonce key : ℕ) → seen ≡ counted_in all server nonce → IfOk seen (λ s. AnswerFits key s)
counted_fits {A} seen all server nonce key is = subst (λ (r : Result (Seen A) NotifyFault). IfOk r (λ s. AnswerFits key s)) (sym is) (either_fits A server nonce key (latest_of (rounds_at all server)) (part_with nonce (latest_of (rounds_at all server))))

module _ (c : EtrConfigValue) (bytes : List ℕ) (read : Result MessageValue ReadFault) (from : Option ℕ) where
  pub unread : {X : Type 0} (view : X → ServerNotify) (fault : NotifyFault) → Gives {X = MapNotifyValue} (λ m. m) (Err fault) (notify_read read) → Gives view (Err fault) (checked_notify c bytes read from)
  unfolding checked_notify
  unread view faults.OutOfMemory at = tt
  unread view (faults.Read _) at = rw at refl
  unread view faults.NotMine at = rw at refl
  unread view faults.WrongKey at = rw at refl
  unread view faults.BadAuth at = rw at refl
  unread view (faults.Stale _) at = rw at refl

  module _ (m : MapNotifyValue) (reads : notify_read read ≡ Ok m) where
    pub not_mine : ok_or from faults.NotMine ≡ Err faults.NotMine → checked_notify c bytes read from ≡ Err faults.NotMine
    unfolding checked_notify
    not_mine none = rw (reads, none) refl

    module _ (server : ℕ) (its : ok_or from faults.NotMine ≡ Ok server) where
      pub wrong_key : m.key_id ≢ c.key_id → checked_notify c bytes read from ≡ Err faults.WrongKey
      unfolding checked_notify
      wrong_key differ = rw (reads, its, number_differs m.key_id c.key_id differ) refl

      module _ (key : m.key_id ≡ c.key_id) where
        pub bad_auth : is_authentic bytes c.secret ≡ false → checked_notify c bytes read from ≡ Err faults.BadAuth
        unfolding checked_notify
        bad_auth forged = rw (reads, its, number_same m.key_id c.key_id key, forged) refl

        pub passes : is_authentic bytes c.secret ≡ true → checked_notify c bytes read from ≡ Ok (record { server = server; message = m })
        unfolding checked_notify
        passes authentic = rw (reads, its, number_same m.key_id c.key_id key, authentic) refl

late_nonce : (nonce : ℕ) → first_notice ≤ nonce → nat_le first_notice nonce ≡ true
late_nonce nonce late = le-leb first_notice nonce late

early_nonce : (nonce : ℕ) → nonce < first_notice → nat_le first_notice nonce ≡ false
early_nonce nonce early = by (nat_le first_notice nonce) refl
  where
    by : (t : Bool) → nat_le first_notice nonce ≡ t → nat_le first_notice nonce ≡ false
    by true late = absurd (let le = leb-true first_notice nonce late in omega (arith, le, early))
    by false is = is

gives_same : {A : Type 0} (r expected : Result (Seen A) NotifyFault) → expected ≡ r → Gives (λ seen. seen) r expected
gives_same (Ok seen) expected is = is
gives_same (Err faults.OutOfMemory) expected is = tt
gives_same (Err (faults.Read _)) expected is = is
gives_same (Err faults.NotMine) expected is = is
gives_same (Err faults.WrongKey) expected is = is
gives_same (Err faults.BadAuth) expected is = is
gives_same (Err (faults.Stale _)) expected is = is

-- what a router makes of a Map-Notify that passed all checks: a notice is answered, or memory ran out
module _ {A : Type 0} (e : EtrState) (h : ServerNotify) {hears : Result ServerNotify NotifyFault} (is : hears ≡ Ok h) {nonce : ℕ} (own : nonce ≡ h.message.nonce) where
  pub noticed : first_notice ≤ nonce → (r : Result (Seen A) NotifyFault) → IfOk r (λ seen. seen ≡ notice_in e.config h) → IfErr r (λ fault. fault ≡ faults.OutOfMemory) → Gives (λ seen. seen) r (hears >>= seen_in e)
  unfolding seen_in
  noticed late (Ok seen) gives none = rw (is, late_nonce h.message.nonce (subst (λ (n : ℕ). first_notice ≤ n) own late)) (ap Ok (sym gives))
  noticed late (Err fault) gives none = subst (λ (f : NotifyFault). Gives {X = Seen A} (λ seen. seen) (Err f) (hears >>= seen_in e)) (sym none) tt

  -- any other nonce is counted
  pub counts : nonce < first_notice → (r : Result (Seen A) NotifyFault) → r ≡ counted_in e.rounds h.server nonce → Gives (λ seen. seen) r (hears >>= seen_in e)
  unfolding seen_in
  counts early r same = gives_same r (hears >>= seen_in e) (rw (is, early_nonce h.message.nonce (subst (λ (n : ℕ). n < first_notice) own early)) (sym (same ∙ ap (λ (n : ℕ). counted_in e.rounds h.server n) own)))
