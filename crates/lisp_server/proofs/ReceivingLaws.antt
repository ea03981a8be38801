-- What a Map-Register that is taken, or refused, amounts to.
use Rattle.std.proofs.Common.{◌≡◌, ◌≤◌, ℕ, Bool, true, false, List, [], ◌∷◌, Option, Some, None, Result, Ok, Err, ok_or, IsTrue, not, refl, sym, ap, ◌∙◌, subst, inl, inr, arith}
use Rattle.std.specs.Result.{IfErr, IfOk, IsErrAnd, OnErr}
use Rattle.std.specs.Prelude.{MatchResult}
use Rattle.lisp_records.specs.declared.address.Addr.{Addr}
use Rattle.lisp_records.specs.Row.{RowValue}
use Rattle.lisp_messages.specs.Message.{MapRegisterValue, Registers, MapNotifyValue, IsMapNotify, Notifies, MessageValue}
use Rattle.lisp_messages.specs.Reading.{Fails, HasRecords}
use Rattle.lisp_messages.specs.Spelling.{Spells}
use Rattle.lisp_messages.proofs.FitLaws.{said_fits}
use Rattle.lisp_records.specs.Spelling.{IsBytes}
use Rattle.lisp_messages.specs.declared.fault.ReadFault.{ReadFault}
use Rattle.lisp_messages.specs.declared.fault.ReadFault.TheVariants as reads
use Rattle.lisp_messages.specs.Authentic.{is_authentic}
use Rattle.lisp_policy.specs.Limits.{lets_router, lets_source}
use Rattle.lisp_policy.specs.Site.{SiteValue, site_of, secret_of}
use Rattle.lisp_nonces.specs.declared.pair.Pair.{Pair}
use Rattle.lisp_nonces.specs.declared.fault.StoreFault.{StoreFault}
use Rattle.lisp_nonces.specs.declared.fault.StoreFault.TheVariants as stores
use Rattle.lisp_nonces.specs.Kept.{Kept, kept_at, with_value, SameElsewhere, InDoubt}
use Rattle.lisp_nonces.specs.Store.{StoreState, Rose, Proceeds, MaySave}
use Rattle.lisp_admission.specs.declared.limit.Limit.TheVariants.{Router, Source, Ttl}
use Rattle.lisp_admission.specs.declared.refused.Refused.{Refused}
use Rattle.lisp_admission.specs.declared.refused.Refused.TheVariants as refusals
use Rattle.lisp_server.specs.declared.contacts.Contact.{Contact}
use Rattle.lisp_server.specs.declared.tables.Tables.{Tables}
use Rattle.lisp_server.specs.declared.took.Took.{Took}
use Rattle.lisp_server.specs.declared.took.Took.TheVariants.{Accepted, NoticeDone}
use Rattle.lisp_admission.specs.Refused.{refused_of_read}
use Rattle.lisp_admission.specs.Pairs.{router_of, pair_of}
use Rattle.lisp_admission.specs.AcceptedRows.{row_values}
use Rattle.lisp_lookup.specs.Table.{Sets}
use Rattle.lisp_server.specs.LastNonces.{Nonces, nonce_at, SetsNonce}
use Rattle.lisp_server.specs.Contacts.{SetsContact}
use Rattle.lisp_server.specs.Notices.{StandingNoticeValue, EndsNotice}
use Rattle.lisp_server.specs.Server.{ServerState, SameTables, state_of}
use Rattle.lisp_records.specs.Result.{◌>>=◌}
use Rattle.lisp_admission.specs.Checks.{secret_under, admitted, check, check_all, first_not_allowed, first_out_of_bounds, most_jump_at}
use Rattle.lisp_admission.specs.Checks.{reply_to}
use Rattle.lisp_server.specs.Checks.{Passed, register_checked, Acknowledges, RefusesAck, reply_of}
use Rattle.lisp_admission.specs.Nonces.{IsFresh, KeepsLists, Unasked, HasCause, FailsToSave, Stops, NotKept}
use Rattle.lisp_server.specs.ReceivedRegister.{LetsIn, KeepsOut}
use Rattle.lisp_server.specs.Receiving.{HasSpace, Accepts, ServerTakes, OutOfRoom, RefusesRegister, RefusesRead, ServerRefuses, SaveFailed}

abbrev register_passed : MapRegisterValue → List ℕ → Result Passed Refused
register_passed m secret = Ok (record { message = m; secret = secret })

pub proceeds_on : {a b c : StoreState} → Proceeds a b → Proceeds b c → Proceeds a c
proceeds_on {a} {b} {c} first second = record {
  honest = second.honest ∙ first.honest;
  obedient = second.obedient ∙ first.obedient;
  fate = second.fate ∙ first.fate;
  count = omega (arith, first.count, second.count);
  quiet = λ q. (let one = first.quiet q in let two = second.quiet one.0 in (two.0, two.1 ∙ one.1));
}

-- what an obedient store is armed with, it was armed with before
module _ {a b : StoreState} (went : Proceeds a b) where
  honest_still : IsTrue a.is_honest → IsTrue b.is_honest
  honest_still = subst (λ (is : Bool). IsTrue is) (sym went.honest)

  obedient_still : IsTrue a.is_obedient → IsTrue b.is_obedient
  obedient_still = subst (λ (is : Bool). IsTrue is) (sym went.obedient)

  pub may_save : MaySave b → MaySave a
  may_save may obeys doubt = may (obedient_still obeys) (went.fate ∙ doubt)

  pub fails_to_save : (fault : StoreFault) (c : StoreState) (pair : Pair) (nonce : ℕ) → KeepsLists a b → FailsToSave fault b c pair nonce → FailsToSave fault a c pair nonce
  fails_to_save fault c pair nonce same fails other = record {
    armed = λ obeys. sym went.fate ∙ (fails other).armed (obedient_still obeys);
    keeps = λ honest obeys. subst (λ (was : Kept). kept_at c.kept pair ≡ with_value (kept_at was pair) nonce) (same honest) ((fails other).keeps (honest_still honest) (obedient_still obeys));
  }

rose_later : (a b c : StoreState) → a.faults ≤ b.faults → Rose b c → Rose a c
rose_later a b c up (inl more) = inl (omega (arith, up, more))
rose_later a b c up (inr top) = inr top

-- what is known once a nonce was saved, for a pair and nonce
pub record Saved {A : Type 0} (sites : List SiteValue) (bytes : List ℕ) (m : MapRegisterValue) (from : Addr) (now : ℕ) (old mid new : Tables A) (before between after : StoreState) (rows : List RowValue) (reply : Option (List ℕ)) (pair : Pair) (nonce : ℕ) : Type 0 where
  pub secret : List ℕ
  pub checks : secret_under sites from bytes m ≡ Ok secret
  pub fits : IsMapNotify (reply_to m)
  pub fresh : IsFresh (most_jump_at sites m.site) (nonce_at old.nonces.nonces pair) before pair nonce
  pub space : HasSpace (state_of sites old) m from now
  pub loaded : KeepsLists before between
  pub went : Proceeds before between
  pub same : SameTables old mid
  pub brings : rows ≡ row_values m from now
  pub replies : reply ≡ reply_of secret m
  pub sets : Sets mid.rows.rows new.rows.rows rows
  pub nonces : SetsNonce mid.nonces.nonces new.nonces.nonces pair nonce
  pub contacts : SetsContact mid.contacts.contacts new.contacts.contacts (record { router = pair.router; key = pair.key; from = from })
  pub notices : new.notices.notices ≡ mid.notices.notices
  pub saves : MaySave between
  pub done : IsTrue between.is_honest → kept_at after.kept pair ≡ Some nonce ∷ []
  pub others : IsTrue between.is_honest → SameElsewhere between.kept after.kept pair

module _ {A : Type 0} {sites : List SiteValue} {bytes : List ℕ} {m : MapRegisterValue} {from : Addr} {now : ℕ} {old mid new : Tables A} {before between after : StoreState} {rows : List RowValue} {reply : Option (List ℕ)} where
  accepts_own : Saved sites bytes m from now old mid new before between after rows reply (pair_of m) m.nonce → Accepts {A = A} (register_checked sites from bytes m) (state_of sites old) (state_of sites new) before after from now (Accepted (router_of m) m.key_id m.nonce reply)
  accepts_own s = record {
    passed = record { message = m; secret = s.secret };
    checks = ap (λ r. r >>= λ (secret : List ℕ). register_passed m secret) s.checks;
    fits = s.fits;
    fresh = s.fresh;
    space = s.space;
    answer = ap (λ (r : Option (List ℕ)). Accepted (router_of m) m.key_id m.nonce r) s.replies;
    rows = subst (λ (was : List RowValue). Sets was new.rows.rows (row_values m from now)) s.same.rows (subst (λ (given : List RowValue). Sets mid.rows.rows new.rows.rows given) s.brings s.sets);
    nonces = subst (λ (was : Nonces). SetsNonce was new.nonces.nonces (pair_of m) m.nonce) s.same.nonces s.nonces;
    contacts = subst (λ (was : List Contact). SetsContact was new.contacts.contacts (record { router = router_of m; key = m.key_id; from = from })) s.same.contacts s.contacts;
    notices = s.notices ∙ s.same.notices;
    sites = refl;
    kept = λ honest. s.done (subst (λ (b : Bool). IsTrue b) (sym s.went.honest) honest);
    others = λ honest. subst (λ (was : Kept). SameElsewhere was after.kept (pair_of m)) (s.loaded honest) (s.others (subst (λ (b : Bool). IsTrue b) (sym s.went.honest) honest));
    saves = may_save s.went s.saves;
  }

  pub accepts : (pair : Pair) (nonce : ℕ) → pair ≡ pair_of m → nonce ≡ m.nonce → Saved sites bytes m from now old mid new before between after rows reply pair nonce → Accepts {A = A} (register_checked sites from bytes m) (state_of sites old) (state_of sites new) before after from now (Accepted pair.router pair.key nonce reply)
  accepts pair nonce p n = subst (λ (x : Pair × ℕ). Saved sites bytes m from now old mid new before between after rows reply x.0 x.1 → Accepts {A = A} (register_checked sites from bytes m) (state_of sites old) (state_of sites new) before after from now (Accepted x.0.router x.0.key x.1 reply)) (λ i. (sym p i, sym n i)) accepts_own

-- a fault's cause lies later than where the store was before
pub cause_later : (fault : StoreFault) (a b c : StoreState) → a.faults ≤ b.faults → HasCause fault b c → HasCause fault a c
cause_later fault a b c up cause other = rose_later a b c up (cause other)

-- what is known where the save failed, for a pair and nonce
pub record Unsaved {A : Type 0} (sites : List SiteValue) (from : Addr) (now : ℕ) (bytes : List ℕ) (m : MapRegisterValue) (old : Tables A) (before between after : StoreState) (why : Refused) (pair : Pair) (nonce : ℕ) : Type 0 where
  pub secret : List ℕ
  pub checks : secret_under sites from bytes m ≡ Ok secret
  pub fresh : IsFresh (most_jump_at sites m.site) (nonce_at old.nonces.nonces pair) before pair nonce
  pub space : HasSpace (state_of sites old) m from now
  pub loaded : KeepsLists before between
  pub went : Proceeds before between
  pub not_kept : NotKept between after pair nonce why
  pub others : IsTrue between.is_honest → SameElsewhere between.kept after.kept pair

module _ {A : Type 0} {sites : List SiteValue} {from : Addr} {now : ℕ} {bytes : List ℕ} {m : MapRegisterValue} {old : Tables A} {before between after : StoreState} where
  save_failed : (fault : StoreFault) → Unsaved sites from now bytes m old before between after (refusals.StoreSave fault) (pair_of m) m.nonce → SaveFailed (register_checked sites from bytes m) (state_of sites old) before after from now fault
  save_failed fault s = record {
    passed = record { message = m; secret = s.secret };
    checks = ap (λ r. r >>= λ (secret : List ℕ). register_passed m secret) s.checks;
    fresh = s.fresh;
    space = s.space;
    cause = cause_later fault before between after s.went.count s.not_kept.0;
    sound = s.not_kept.1;
    memory = λ want honest. ap (λ (x : StoreState). x.kept) (s.not_kept.3 want) ∙ s.loaded honest;
    doubt = λ honest. subst (λ (was : Kept). InDoubt (kept_at was (pair_of m)) (kept_at after.kept (pair_of m)) m.nonce) (s.loaded honest) (s.not_kept.2 (subst (λ (b : Bool). IsTrue b) (sym s.went.honest) honest));
    others = λ honest. subst (λ (was : Kept). SameElsewhere was after.kept (pair_of m)) (s.loaded honest) (s.others (subst (λ (b : Bool). IsTrue b) (sym s.went.honest) honest));
    doubted = fails_to_save s.went fault after (pair_of m) m.nonce s.loaded s.not_kept.4;
  }

  unsaved_own : (why : Refused) → Unsaved sites from now bytes m old before between after why (pair_of m) m.nonce → RefusesRegister (register_checked sites from bytes m) (state_of sites old) before after from now why
  unsaved_own (refusals.StoreSave fault) s = save_failed fault s
  unsaved_own (refusals.Read _) s = absurd s.not_kept
  unsaved_own refusals.NotMine s = absurd s.not_kept
  unsaved_own refusals.UnknownSite s = absurd s.not_kept
  unsaved_own refusals.UnknownKey s = absurd s.not_kept
  unsaved_own refusals.BadAuth s = absurd s.not_kept
  unsaved_own refusals.MergeAsked s = absurd s.not_kept
  unsaved_own (refusals.NotAllowed _) s = absurd s.not_kept
  unsaved_own (refusals.Limited _ _) s = absurd s.not_kept
  unsaved_own (refusals.StoreLoad _) s = absurd s.not_kept
  unsaved_own (refusals.Replay _) s = absurd s.not_kept
  unsaved_own (refusals.Jump _ _) s = absurd s.not_kept
  unsaved_own (refusals.Full _ _) s = absurd s.not_kept
  unsaved_own refusals.OutOfMemory s = absurd s.not_kept
  unsaved_own refusals.NoNotice s = absurd s.not_kept

  pub save_fails : (why : Refused) (pair : Pair) (nonce : ℕ) → pair ≡ pair_of m → nonce ≡ m.nonce → Unsaved sites from now bytes m old before between after why pair nonce → RefusesRegister (register_checked sites from bytes m) (state_of sites old) before after from now why
  save_fails why pair nonce p n = subst (λ (x : Pair × ℕ). Unsaved sites from now bytes m old before between after why x.0 x.1 → RefusesRegister (register_checked sites from bytes m) (state_of sites old) before after from now why) (λ i. (sym p i, sym n i)) (unsaved_own why)

-- the refusals that the checks of a Map-Register give
abbrev IsCheck : Refused → Type 0
IsCheck refusals.UnknownSite = Unit {0}
IsCheck refusals.UnknownKey = Unit {0}
IsCheck refusals.BadAuth = Unit {0}
IsCheck refusals.MergeAsked = Unit {0}
IsCheck (refusals.NotAllowed _) = Unit {0}
IsCheck (refusals.Limited _ _) = Unit {0}
IsCheck _ = ⊥

OnlyChecks : {X : Type 0} → Result X Refused → Type 0
OnlyChecks (Ok x) = Unit {0}
OnlyChecks (Err e) = IsCheck e

bind_only : {X Y : Type 0} (r : Result X Refused) (f : X → Result Y Refused) → OnlyChecks r → ((x : X) → OnlyChecks (f x)) → OnlyChecks (r >>= f)
unfolding OnlyChecks
bind_only (Ok x) f here next = next x
bind_only (Err e) f here next = here

ok_or_only : {X : Type 0} (o : Option X) (e : Refused) → IsCheck e → OnlyChecks (ok_or o e)
unfolding OnlyChecks
ok_or_only None e is = is
ok_or_only (Some x) e is = tt

check_only : (b : Bool) (e : Refused) → IsCheck e → OnlyChecks (check b e)
unfolding OnlyChecks
check_only true e is = tt
check_only false e is = is

all_only : (o : Option ℕ) (e : ℕ → Refused) → ((place : ℕ) → IsCheck (e place)) → OnlyChecks (check_all o e)
unfolding OnlyChecks
all_only None e is = tt
all_only (Some place) e is = is place

admitted_only : (site : SiteValue) (from : Addr) (m : MapRegisterValue) → OnlyChecks (admitted site from m)
admitted_only site from m =
    bind_only _ _ (check_only (lets_router site.limits m.xtr) (refusals.Limited m.site Router) tt) (λ _. bind_only _ _ (check_only (lets_source site.limits from) (refusals.Limited m.site Source) tt) (λ _.
    bind_only _ _ (check_only (not m.merge) refusals.MergeAsked tt) (λ _. bind_only _ _ (all_only (first_not_allowed site m.records) refusals.NotAllowed (λ _. tt)) (λ _.
    all_only (first_out_of_bounds site.limits m.use_ttl m.records) (λ place. refusals.Limited m.site (Ttl place)) (λ _. tt)))))

secret_only : (sites : List SiteValue) (from : Addr) (bytes : List ℕ) (m : MapRegisterValue) → OnlyChecks (secret_under sites from bytes m)
unfolding secret_under OnlyChecks
secret_only sites from bytes m =
    bind_only _ _ (ok_or_only (site_of sites m.site) refusals.UnknownSite tt) (λ site. bind_only _ _ (ok_or_only (secret_of site m.key_id) refusals.UnknownKey tt) (λ secret.
    bind_only _ _ (check_only (is_authentic bytes secret) refusals.BadAuth tt) (λ _. bind_only _ _ (admitted_only site from m) (λ _. tt))))

only_of : {X : Type 0} (r : Result X Refused) (e : Refused) → OnlyChecks r → r ≡ Err e → IsCheck e
unfolding OnlyChecks
only_of r e only is = subst (λ (x : Result _ Refused). OnlyChecks x) is only

refuses_check : (e : Refused) (c : Result Passed Refused) (old : ServerState) (before : StoreState) (from : Addr) (now : ℕ) → IsCheck e → c ≡ Err e → RefusesRegister c old before before from now e
refuses_check refusals.UnknownSite c old before from now is at = (at, refl)
refuses_check refusals.UnknownKey c old before from now is at = (at, refl)
refuses_check refusals.BadAuth c old before from now is at = (at, refl)
refuses_check refusals.MergeAsked c old before from now is at = (at, refl)
refuses_check (refusals.NotAllowed _) c old before from now is at = (at, refl)
refuses_check (refusals.Limited _ _) c old before from now is at = (at, refl)
refuses_check (refusals.Read _) c old before from now is at = absurd is
refuses_check refusals.NotMine c old before from now is at = absurd is
refuses_check (refusals.StoreLoad _) c old before from now is at = absurd is
refuses_check (refusals.Replay _) c old before from now is at = absurd is
refuses_check (refusals.Jump _ _) c old before from now is at = absurd is
refuses_check (refusals.Full _ _) c old before from now is at = absurd is
refuses_check refusals.OutOfMemory c old before from now is at = absurd is
refuses_check (refusals.StoreSave _) c old before from now is at = absurd is
refuses_check refusals.NoNotice c old before from now is at = absurd is

-- a Map-Register fails a check
pub check_fails : (sites : List SiteValue) (from : Addr) (now : ℕ) (bytes : List ℕ) (m : MapRegisterValue) (e : Refused) (old : ServerState) (before : StoreState) → secret_under sites from bytes m ≡ Err e → RefusesRegister (register_checked sites from bytes m) old before before from now e
check_fails sites from now bytes m e old before at = refuses_check e (register_checked sites from bytes m) old before from now (only_of (secret_under sites from bytes m) e (secret_only sites from bytes m) at) (ap (λ r. r >>= λ (secret : List ℕ). register_passed m secret) at)

-- the nonce isn't let through
pub stops : (sites : List SiteValue) (from : Addr) (now : ℕ) (bytes : List ℕ) (m : MapRegisterValue) (secret : List ℕ) (old : ServerState) (before after : StoreState) (pair : Pair) (nonce : ℕ) (e : Refused) → pair ≡ pair_of m → nonce ≡ m.nonce → secret_under sites from bytes m ≡ Ok secret → KeepsLists before after → Unasked (nonce_at old.nonces pair) before after → Stops (most_jump_at old.sites m.site) (nonce_at old.nonces pair) before after pair nonce e → RefusesRegister (register_checked sites from bytes m) old before after from now e
stops sites from now bytes m secret old before after pair nonce e p n checks same = subst (λ (x : Pair × ℕ). Unasked (nonce_at old.nonces x.0) before after → Stops (most_jump_at old.sites m.site) (nonce_at old.nonces x.0) before after x.0 x.1 e → RefusesRegister (register_checked sites from bytes m) old before after from now e) (λ i. (sym p i, sym n i)) (own e)
  where
    passes : register_checked sites from bytes m ≡ register_passed m secret
    passes = ap (λ r. r >>= λ (s : List ℕ). register_passed m s) checks

    own : (e : Refused) → Unasked (nonce_at old.nonces (pair_of m)) before after → Stops (most_jump_at old.sites m.site) (nonce_at old.nonces (pair_of m)) before after (pair_of m) m.nonce e → RefusesRegister (register_checked sites from bytes m) old before after from now e
    own (refusals.StoreLoad fault) unasked (unknown, cause, unchanged, armed) = record { passed = record { message = m; secret = secret }; checks = passes; unknown = unknown; cause = cause; memory = unchanged; same = same; armed = armed }
    own (refusals.Replay saved) unasked (base, stale) = record { passed = record { message = m; secret = secret }; checks = passes; base = base; stale = stale; unasked = unasked; same = same }
    own (refusals.Jump site saved) unasked (its, base, far) = record { passed = record { message = m; secret = secret }; checks = passes; its = its; base = base; far = far; unasked = unasked; same = same }
    own (refusals.Read _) unasked never = absurd never
    own refusals.NotMine unasked never = absurd never
    own refusals.UnknownSite unasked never = absurd never
    own refusals.UnknownKey unasked never = absurd never
    own refusals.BadAuth unasked never = absurd never
    own refusals.MergeAsked unasked never = absurd never
    own (refusals.NotAllowed _) unasked never = absurd never
    own (refusals.Limited _ _) unasked never = absurd never
    own (refusals.Full _ _) unasked never = absurd never
    own refusals.OutOfMemory unasked never = absurd never
    own (refusals.StoreSave _) unasked never = absurd never
    own refusals.NoNotice unasked never = absurd never

-- the nonce was let through, and there is no room
pub no_room : (sites : List SiteValue) (from : Addr) (bytes : List ℕ) (m : MapRegisterValue) (secret : List ℕ) (old : ServerState) (before after : StoreState) (pair : Pair) (nonce : ℕ) → pair ≡ pair_of m → nonce ≡ m.nonce → secret_under sites from bytes m ≡ Ok secret → IsFresh (most_jump_at old.sites m.site) (nonce_at old.nonces pair) before pair nonce → Unasked (nonce_at old.nonces pair) before after → KeepsLists before after → OutOfRoom (register_checked sites from bytes m) old before after
no_room sites from bytes m secret old before after pair nonce p n checks fresh unasked same = record {
  passed = record { message = m; secret = secret };
  checks = ap (λ r. r >>= λ (s : List ℕ). register_passed m s) checks;
  fresh = subst (λ (x : Pair × ℕ). IsFresh (most_jump_at old.sites m.site) (nonce_at old.nonces x.0) before x.0 x.1) (λ i. (p i, n i)) fresh;
  unasked = subst (λ (q : Pair). Unasked (nonce_at old.nonces q) before after) p unasked;
  same = same;
}

-- the nonce was let through, and the site has no space
module _ (sites : List SiteValue) (from : Addr) (now : ℕ) (bytes : List ℕ) (m : MapRegisterValue) (secret : List ℕ) (old : ServerState) (before after : StoreState) (pair : Pair) (nonce : ℕ) (p : pair ≡ pair_of m) (n : nonce ≡ m.nonce) (checks : secret_under sites from bytes m ≡ Ok secret)
    (fresh : IsFresh (most_jump_at old.sites m.site) (nonce_at old.nonces pair) before pair nonce) (unasked : Unasked (nonce_at old.nonces pair) before after) (same : KeepsLists before after) where
  pub overflows : (why : Refused) → KeepsOut old.sites old.rows (row_values m from now) m.site now why → RefusesRegister (register_checked sites from bytes m) old before after from now why
  overflows (refusals.Full site full) (its, lacks) = record {
    passed = record { message = m; secret = secret };
    checks = ap (λ r. r >>= λ (s : List ℕ). register_passed m s) checks;
    its = its;
    fresh = subst (λ (x : Pair × ℕ). IsFresh (most_jump_at old.sites m.site) (nonce_at old.nonces x.0) before x.0 x.1) (λ i. (p i, n i)) fresh;
    lacks = lacks;
    unasked = subst (λ (q : Pair). Unasked (nonce_at old.nonces q) before after) p unasked;
    same = same;
  }
  overflows refusals.OutOfMemory lacks = no_room sites from bytes m secret old before after pair nonce p n checks fresh unasked same
  overflows (refusals.Read _) never = absurd never
  overflows refusals.NotMine never = absurd never
  overflows refusals.UnknownSite never = absurd never
  overflows refusals.UnknownKey never = absurd never
  overflows refusals.BadAuth never = absurd never
  overflows refusals.MergeAsked never = absurd never
  overflows (refusals.NotAllowed _) never = absurd never
  overflows (refusals.Limited _ _) never = absurd never
  overflows (refusals.StoreLoad _) never = absurd never
  overflows (refusals.Replay _) never = absurd never
  overflows (refusals.Jump _ _) never = absurd never
  overflows (refusals.StoreSave _) never = absurd never
  overflows refusals.NoNotice never = absurd never

-- what is told of the rows of tables that only got room is told of those before
module _ {A : Type 0} (sites : List SiteValue) (from : Addr) (now : ℕ) (m : MapRegisterValue) (old mid : Tables A) (same : SameTables old mid) (given : List RowValue) (brings : given ≡ row_values m from now) (site : ℕ) (its : site ≡ m.site) where
  pub let_in : LetsIn sites mid.rows.rows given site now → HasSpace (state_of sites old) m from now
  let_in = subst (λ (x : List RowValue × (List RowValue × ℕ)). LetsIn sites x.0 x.1.0 x.1.1 now) (λ i. (same.rows i, (brings i, its i)))

  pub kept_out : (why : Refused) → KeepsOut sites mid.rows.rows given site now why → KeepsOut sites old.rows.rows (row_values m from now) m.site now why
  kept_out why = subst (λ (x : List RowValue × (List RowValue × ℕ)). KeepsOut sites x.0 x.1.0 x.1.1 now why) (λ i. (same.rows i, (brings i, its i)))

-- the refusal of a message that was read
refuses_read : (said : Result MessageValue ReadFault) (from : Addr) (bytes : List ℕ) (old : ServerState) (before after : StoreState) (now : ℕ) (why : Refused) → RefusesRead said from bytes old before after now why → ServerRefuses said from bytes old before after now why
refuses_read said from bytes old before after now refusals.OutOfMemory r = inr r
refuses_read said from bytes old before after now refusals.UnknownSite r = r
refuses_read said from bytes old before after now refusals.UnknownKey r = r
refuses_read said from bytes old before after now refusals.BadAuth r = r
refuses_read said from bytes old before after now refusals.MergeAsked r = r
refuses_read said from bytes old before after now (refusals.NotAllowed _) r = r
refuses_read said from bytes old before after now (refusals.Limited _ _) r = r
refuses_read said from bytes old before after now (refusals.Read _) r = r
refuses_read said from bytes old before after now refusals.NotMine r = r
refuses_read said from bytes old before after now (refusals.StoreLoad _) r = r
refuses_read said from bytes old before after now (refusals.Replay _) r = r
refuses_read said from bytes old before after now (refusals.Jump _ _) r = r
refuses_read said from bytes old before after now (refusals.Full _ _) r = r
refuses_read said from bytes old before after now (refusals.StoreSave _) r = r
refuses_read said from bytes old before after now refusals.NoNotice r = r

-- a Map-Register that was taken
pub takes_register : {A : Type 0} (said : Result MessageValue ReadFault) (m : MapRegisterValue) (from : Addr) (bytes : List ℕ) (old new : ServerState) (before after : StoreState) (now : ℕ) (took : Took A) → said ≡ Ok (Registers m) → Accepts (register_checked old.sites from bytes m) old new before after from now took → ServerTakes said from bytes old new before after now took
takes_register {A = A} said m from bytes old new before after now took at a = subst (λ (s : Result MessageValue ReadFault). ServerTakes s from bytes old new before after now took) (sym at) (by took a)
  where
    by : (took : Took A) → Accepts (register_checked old.sites from bytes m) old new before after from now took → ServerTakes (Ok (Registers m)) from bytes old new before after now took
    by (Accepted router key nonce reply) a = a
    by (NoticeDone router nonce) a = absurd (let clash = a.answer in cc)

-- a Map-Notify-Ack that was taken
pub takes_notify : {A : Type 0} (said : Result MessageValue ReadFault) (m : MapNotifyValue) (from : Addr) (bytes : List ℕ) (old : ServerState) (left : List StandingNoticeValue) (before : StoreState) (now : ℕ) (took : Took A) → said ≡ Ok (Notifies m)
    → (n : StandingNoticeValue) × Acknowledges old.sites old.notices from bytes m n × (took ≡ NoticeDone n.router n.nonce) × EndsNotice old.notices left n.router
    → ServerTakes said from bytes old (record old { notices = left }) before before now took
takes_notify {A = A} said m from bytes old left before now took at (n, acknowledges, is, ended) = subst (λ (x : Result MessageValue ReadFault × Took A). ServerTakes x.0 from bytes old (record old { notices = left }) before before now x.1) (λ i. (sym at i, sym is i)) (record {
  notice = n;
  acknowledges = acknowledges;
  its = refl;
  under = refl;
  ended = ended;
  rest = refl;
  store = refl;
})

-- tables are the same as themselves
pub unchanged : {A : Type 0} (tables : Tables A) → SameTables tables tables
unchanged tables = record { rows = refl; nonces = refl; contacts = refl; notices = refl }

-- where nothing but room changed, nothing changed that callers see
pub same_state : {A : Type 0} (sites : List SiteValue) (old new : Tables A) → SameTables old new → state_of sites new ≡ state_of sites old
same_state sites old new same = λ i. record { sites = sites; rows = same.rows i; nonces = same.nonces i; contacts = same.contacts i; notices = same.notices i }

pub same_notices : (s : ServerState) (left : List StandingNoticeValue) → left ≡ s.notices → record s { notices = left } ≡ s
same_notices s left same = λ i. record s { notices = same i }

-- what an answer is refused for
pub err_of : {X : Type 0} (r : Result X Refused) (why : Refused) (P : Refused → Type 0) → IfErr r P → r ≡ Err why → P why
err_of {X = X} r why P refused is = subst (λ (r : Result X Refused). IfErr r P) is refused

-- what a Map-Register was refused for
pub refuses_register : (said : Result MessageValue ReadFault) (m : MapRegisterValue) (from : Addr) (bytes : List ℕ) (old : ServerState) (before after : StoreState) (now : ℕ) (why : Refused) → said ≡ Ok (Registers m) → RefusesRegister (register_checked old.sites from bytes m) old before after from now why → ServerRefuses said from bytes old before after now why
refuses_register said m from bytes old before after now why at r = subst (λ (s : Result MessageValue ReadFault). ServerRefuses s from bytes old before after now why) (sym at) (refuses_read (Ok (Registers m)) from bytes old before after now why r)

-- what a Map-Notify or Map-Notify-Ack was refused for
pub refuses_notify : (said : Result MessageValue ReadFault) (m : MapNotifyValue) (from : Addr) (bytes : List ℕ) (old : ServerState) (before : StoreState) (now : ℕ) (why : Refused) → said ≡ Ok (Notifies m) → RefusesAck old.sites old.notices from bytes m why → ServerRefuses said from bytes old before before now why
refuses_notify said m from bytes old before now why at r = subst (λ (s : Result MessageValue ReadFault). ServerRefuses s from bytes old before before now why) (sym at) (refuses_read (Ok (Notifies m)) from bytes old before before now why (r, refl))

-- bytes that can't be read
pub read_fails : (fault : ReadFault) (said : Result MessageValue ReadFault) (from : Addr) (bytes : List ℕ) (old : ServerState) (before : StoreState) (now : ℕ) → (fault ≡ reads.OutOfMemory → HasRecords bytes) → Fails fault said → ServerRefuses said from bytes old before before now (refused_of_read fault)
read_fails reads.OutOfMemory said from bytes old before now grows at = inl (grows refl, refl)
read_fails reads.Short said from bytes old before now grows at = subst (λ (s : Result MessageValue ReadFault). ServerRefuses s from bytes old before before now (refusals.Read reads.Short)) (sym at) (refl, refl)
read_fails reads.Kind said from bytes old before now grows at = subst (λ (s : Result MessageValue ReadFault). ServerRefuses s from bytes old before before now (refusals.Read reads.Kind)) (sym at) (refl, refl)
read_fails reads.Algorithm said from bytes old before now grows at = subst (λ (s : Result MessageValue ReadFault). ServerRefuses s from bytes old before before now (refusals.Read reads.Algorithm)) (sym at) (refl, refl)
read_fails reads.AuthLength said from bytes old before now grows at = subst (λ (s : Result MessageValue ReadFault). ServerRefuses s from bytes old before before now (refusals.Read reads.AuthLength)) (sym at) (refl, refl)
read_fails reads.NoIds said from bytes old before now grows at = subst (λ (s : Result MessageValue ReadFault). ServerRefuses s from bytes old before before now (refusals.Read reads.NoIds)) (sym at) (refl, refl)
read_fails reads.Trailing said from bytes old before now grows at = subst (λ (s : Result MessageValue ReadFault). ServerRefuses s from bytes old before before now (refusals.Read reads.Trailing)) (sym at) (refl, refl)
read_fails (reads.Record i fault) said from bytes old before now grows at = subst (λ (s : Result MessageValue ReadFault). ServerRefuses s from bytes old before before now (refusals.Read (reads.Record i fault))) (sym at) (refl, refl)

-- the Map-Notify of a Map-Register that was read from bytes fits the format
pub notification_fits : (bytes : List ℕ) (m : MapRegisterValue) → IsBytes bytes → Spells bytes (Registers m) → IsMapNotify (reply_to m)
notification_fits bytes m bytewise s = (let fits = said_fits bytes (Registers m) bytewise s in record { nonce = fits.nonce; key = fits.key; records = fits.records })

-- what the exit of a `?` is refused for
pub exit_for : {X E : Type 0} (r : Result X E) (e : E) (P : E → Type 0) → IsErrAnd r (λ y. y ≡ e) → P e → IfErr r P
exit_for (Ok x) e P never at = absurd never
exit_for (Err y) e P is at = subst P (sym is) at

pub out_for : {X E : Type 0} (r : Result X E) (e : E) (P : Type 0) → IsErrAnd r (λ y. y ≡ e) → P → OnErr r P
out_for (Ok x) e P never holds = absurd never
out_for (Err y) e P is holds = holds

-- so with an answer that has one of two meanings
module _ {X E : Type 0} where
  pub refused_for : (r : Result X E) (e : E) (P : X → Type 0) (Q : E → Type 0) → IsErrAnd r (λ y. y ≡ e) → Q e → MatchResult r P Q
  refused_for (Ok x) e P Q never why = absurd never
  refused_for (Err y) e P Q is why = subst Q (sym is) why

  -- such an answer, where it is a value, and where it is a refusal
  pub answer_ok : (r : Result X E) (P : X → Type 0) (Q : E → Type 0) → MatchResult r P Q → IfOk r P
  answer_ok (Ok x) P Q holds = holds
  answer_ok (Err y) P Q holds = tt

  pub answer_err : (r : Result X E) (P : X → Type 0) (Q : E → Type 0) {R : E → Type 0} → MatchResult r P Q → ((e : E) → Q e → R e) → IfErr r R
  answer_err (Ok x) P Q holds weaker = tt
  answer_err (Err y) P Q holds weaker = weaker y holds

  pub answer_at : (r : Result X E) (e : E) (P : X → Type 0) (Q : E → Type 0) → r ≡ Err e → MatchResult r P Q → Q e
  answer_at r e P Q is holds = subst (λ r. MatchResult r P Q) is holds

  pub answer_on_err : (r : Result X E) (P : X → Type 0) (Q : E → Type 0) {R : Type 0} → MatchResult r P Q → ((e : E) → Q e → R) → OnErr r R
  answer_on_err (Ok x) P Q holds weaker = tt
  answer_on_err (Err y) P Q holds weaker = weaker y holds

-- what holds anyway holds where there is an error
pub on_err : {X E : Type 0} (r : Result X E) (P : Type 0) → P → OnErr r P
on_err (Ok x) P here = tt
on_err (Err y) P here = here

-- where memory is told to have run out, it may have been refused: that of the tables, or the store's
module _ (A S : Type 0) where
  abbrev MemoryTold : Refused → Type 0
  MemoryTold why = (why ≡ refusals.OutOfMemory → A) × (why ≡ refusals.StoreLoad stores.OutOfMemory → S) × (why ≡ refusals.StoreSave stores.OutOfMemory → S)

  pub told_stopped : (jump last : Option ℕ) (before after : StoreState) (pair : Pair) (nonce : ℕ) (e : Refused) → Stops jump last before after pair nonce e → (e ≡ refusals.StoreLoad stores.OutOfMemory → S) → MemoryTold e
  told_stopped jump last before after pair nonce e why load = ((λ is. absurd (subst (Stops jump last before after pair nonce) is why)), load, (λ is. absurd (subst (Stops jump last before after pair nonce) is why)))

  pub told_unsaved : (before after : StoreState) (pair : Pair) (nonce : ℕ) (e : Refused) → NotKept before after pair nonce e → (e ≡ refusals.StoreSave stores.OutOfMemory → S) → MemoryTold e
  told_unsaved before after pair nonce e why save = ((λ is. absurd (subst (NotKept before after pair nonce) is why)), (λ is. absurd (subst (NotKept before after pair nonce) is why)), save)

  abbrev IsOutOfMemory : Refused → Type 0
  IsOutOfMemory refusals.OutOfMemory = Unit {0}
  IsOutOfMemory _ = ⊥

  pub told_memory : A → MemoryTold refusals.OutOfMemory
  told_memory may = ((λ _. may), (λ is. absurd (subst IsOutOfMemory is tt)), (λ is. absurd (subst IsOutOfMemory is tt)))

  pub told_kept_out : (sites : List SiteValue) (rows given : List RowValue) (site now : ℕ) (e : Refused) → KeepsOut sites rows given site now e → (e ≡ refusals.OutOfMemory → A) → MemoryTold e
  told_kept_out sites rows given site now e why memory = (memory, (λ is. absurd (subst (KeepsOut sites rows given site now) is why)), (λ is. absurd (subst (KeepsOut sites rows given site now) is why)))
