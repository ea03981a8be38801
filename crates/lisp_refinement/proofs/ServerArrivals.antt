-- What arrives at a Map-Server comes to a row of legal steps, and the Map-Server stands for the trace with that step.
use Rattle.std.proofs.Common.{◌≡◌, ℕ, Bool, true, false, cond, List, ◌∷◌, Option, Some, None, refl, sym, ap, ◌∙◌, true≢false, Ok, Err, subst, [], map, inl, inr, ◌++◌, ◌+◌, length, arith}
use Rattle.std.specs.Prelude.{◌≢◌, Result, IsTrue, ◌⊎◌, ◌==◌, not, if◌then◌else◌, ◌&&◌, slice_get, ◌<◌, ◌-◌, ◌^◌, IfOk, IfErr, OnErr, IsErrOf, nat_le, nat_lt, position}
use Rattle.std.specs.List.{find, Contains, filter}
use Rattle.std.specs.Option.{option_map, option_and_then, option_or, option_to_list, unwrap_or}
use Rattle.std.specs.Ordering.{eq_by_cmp}
use Rattle.std.proofs.lemmas.List.Elements.{All-contains, filter_passes}
use Rattle.std.proofs.lemmas.Bool.{and_parts, ltb-true}
use Rattle.std.proofs.lemmas.Bool.Decides.{Decides-eqb}
use Rattle.lisp_records.specs.declared.address.Addr.{Addr}
use Rattle.lisp_records.specs.declared.router.RouterId.{RouterId}
use Rattle.lisp_records.specs.Address.{PrefixValue, addr_eq}
use Rattle.lisp_records.specs.Router.{router_eq}
use Rattle.lisp_records.specs.Row.{RowValue}
use Rattle.lisp_records.proofs.RouterLaws.{router_eq-Decides}
use Rattle.lisp_messages.specs.Message.{MapRegisterValue, MapNotifyValue, MessageValue, Registers, Notifies}
use Rattle.lisp_nonces.specs.declared.pair.Pair.{Pair}
use Rattle.lisp_nonces.specs.declared.pair.PairKind.TheVariants as kinds
use Rattle.lisp_nonces.specs.Pair.{pair_cmp}
use Rattle.lisp_lookup.specs.Table.{row_at, is_row_of, if_alive, last_of as last_given, Sets}
use Rattle.lisp_admission.specs.Pairs.{router_of, pair_of, notice_pair}
use Rattle.lisp_server.specs.declared.contacts.Contact.{Contact}
use Rattle.lisp_admission.specs.AcceptedRows.{row_values}
use Rattle.lisp_server.specs.Contacts.{contact_at, SetsContact}
use Rattle.lisp_server.specs.LastNonces.{Nonces, nonce_at, SetsNonce}
use Rattle.lisp_server.specs.Receiving.{contact_of, ServerRefuses, RefusesRegister, HasSpace as HasSpaceOf, LacksSpace as LacksSpaceOf, Accepts, Ends, ServerTakes}
use Rattle.lisp_model.specs.Held.{Acceptance, is_of_pair, last_of, heard_last, accepted_rows, held_row}
use Rattle.lisp_model.proofs.RowLaws.{held_more, held_other}
use Rattle.lisp_model.proofs.KeptLemmas.{pair_itself, pair_same}
use Rattle.lisp_records.specs.Result.{◌>>=◌}
use Rattle.lisp_policy.specs.Site.{SiteValue}
use Rattle.lisp_nonces.specs.Kept.{Kept, kept_at, with_value, SameElsewhere, InDoubt}
use Rattle.lisp_nonces.specs.Store.{StoreState}
use Rattle.lisp_admission.specs.declared.refused.Refused.{Refused}
use Rattle.lisp_admission.specs.Checks.{secret_under, secret_at as known_secret, signed_by, most_jump_at, most_routers_at, most_rows_at, reply_to}
use Rattle.lisp_admission.specs.Nonces.{IsBase, IsFar, IsNear, KeepsLists, HasCause, IsBase as IsStoreBase, IsFresh as IsFreshFor}
use Rattle.lisp_server.specs.Checks.{Passed, register_checked, answers_under, RefusesAck as RefusesAckOf, reply_of}
use Rattle.lisp_model.specs.Context.{IsBase as IsBaseIn, Context, Same, HasCause as HasCauseIn, IsAtServer}
use Rattle.lisp_model.specs.declared.line.Line.{Line}
use Rattle.lisp_model.specs.Trace.{Step, Opening, router_at, clock, ShownStore, sites, shown_store, EventValue, fate_of, time_of, address_at, secret_at, sites_after, is_server, node_at, is_router}
use Rattle.lisp_model.specs.Timers.{Notice, notices, notices_after, notices_to_others, resent_at, notice_to, last_notice}
use Rattle.lisp_model.proofs.CleanLemmas.{in_find, from_map}
use Rattle.lisp_model.proofs.HearingLemmas.{find_true}
use Rattle.lisp_model.proofs.ListLemmas.{in_none, head_or_tail}
use Rattle.lisp_model.proofs.NoticeOrigins.{in_filter, notices_left}
use Rattle.lisp_server.specs.Notices.{StandingNoticeValue, notice_at, awaits as waits_for, IsAwaiting, NoneAwaits, EndsNotice}
use Rattle.lisp_nonces.specs.declared.fate.Fate.{Fate}
use Rattle.lisp_model.specs.Bag.{Item, bag, Arrival, since_start, bytes_of, arrival_in, acceptances_in, reply_item, arrival_of, junk_arrival}
use Rattle.lisp_model.specs.Receiving.{went_to, awaits, awaiting, last_in, Admits, IsFresh, HasSpace, LacksSpace, rows_before, rows_with, RefusesAck, FailsNotify, RefusesMessage, IsDone}
use Rattle.lisp_model.specs.Legal.{LegalTrace, Arrives, context_of, MayCome, IsDelivered, IsJunk}
use Rattle.lisp_model.proofs.NoticeRising.{notices_differ}
use Rattle.lisp_messages.specs.declared.fault.ReadFault.{ReadFault}
use Rattle.lisp_messages.specs.Reading.{HasHead, message_at}
use Rattle.lisp_nonces.specs.declared.fault.StoreFault.{StoreFault}
use Rattle.lisp_nonces.specs.declared.fate.Fate.TheVariants.{Doubt, LoadFails, Done}
use Rattle.lisp_admission.specs.declared.refused.Refused.TheVariants as refuseds
use Rattle.lisp_policy.specs.declared.full.Full.{Full}
use Rattle.lisp_lookup.specs.Growth.{Fits, IsFull, live_rows, live_rows_with}
use Rattle.lisp_lookup.proofs.GrowthLaws.{fits_alike, full_alike}
use Rattle.lisp_refinement.specs.Stands.{IsStanding, SameNotice, shown_by, Shows, StandsForServer, Carries, Stands, StandsAfter}
use Rattle.lisp_refinement.specs.World.{ServerNodeState, DatagramValue, WorldState}
use Rattle.lisp_refinement.proofs.Gets.{none_is_some, get_within}
use Rattle.lisp_refinement.proofs.Acting.{notice_goes, by_fate, Adds, adds_none, adds_one, Shown-in, uses_shown, server_is, address_is, server_acts, nobody_acts}
use Rattle.lisp_refinement.proofs.NoticeParts.{again_router, part_stays, part_idle}
use Rattle.std.proofs.lemmas.Option.{slice_get_within}
use Rattle.lisp_messages.specs.Authentic.{signed}
use Rattle.lisp_messages.specs.Written.{written_notify}
use Rattle.lisp_server.specs.declared.took.Took.{Took}
use Rattle.lisp_server.specs.declared.took.Took.TheVariants.{Accepted, NoticeDone}
use Rattle.lisp_model.specs.declared.event.Event.TheVariants as events
use Rattle.lisp_model.specs.declared.line.Line.TheVariants as lines
use Rattle.lisp_model.specs.declared.refusal.Refusal.TheVariants as refusals
use Rattle.lisp_model.specs.Life.{began}
use Rattle.lisp_model.specs.Promises.{is_timeless}
use Rattle.lisp_model.proofs.Locality.{same_number, clock_stays}
use Rattle.lisp_model.proofs.RisingLaws.{taken_one}
use Rattle.lisp_admission.proofs.Secrets.{its_secret}
use Rattle.lisp_policy.specs.Configuration.{ConfigValue}
use Rattle.lisp_refinement.specs.Events.{reply_number, server_line, replies, ArrivesAtServer, address_of, node_with}
use Rattle.lisp_refinement.proofs.Routers.{item_read}

-- the pair of a Map-Register isn't that of notices
pub not_notices : (m : MapRegisterValue) → pair_of m ≢ notice_pair
not_notices m e = absurd (let clash : kinds.Received ≡ kinds.Notice = ap (λ (p : Pair). p.kind) e in cc)

-- what follows the first of two values only counts where there is no first one
first_or : {X Y : Type 0} (f : X → Option Y) (x y z : Option X) → option_and_then f y ≡ option_and_then f z → option_and_then f (option_or x y) ≡ option_and_then f (option_or x z)
first_or f None y z same = same
first_or f (Some x) y z same = refl

module _ (m : MapRegisterValue) (from : Addr) (now : ℕ) (since : List Acceptance) where
  abbrev one : Acceptance
  one = record { message = m; from = from; moment = now }

  -- the last nonces
  nonces_after : (old new : Nonces) → SetsNonce old new (pair_of m) m.nonce → (pair : Pair) → nonce_at old pair ≡ last_of pair since → nonce_at new pair ≡ last_of pair (one ∷ since)
  nonces_after old new sets pair was = at (eq_by_cmp pair_cmp pair (pair_of m)) refl
    where
      at : (b : Bool) → eq_by_cmp pair_cmp pair (pair_of m) ≡ b → nonce_at new pair ≡ option_map (λ a. a.message.nonce) (cond b (Some one) (find (is_of_pair pair) since))
      at true same = ap (nonce_at new) (pair_same pair (pair_of m) same) ∙ sets.here
      at false other = sets.others pair (λ e. true≢false (sym (ap (λ (p : Pair). eq_by_cmp pair_cmp p (pair_of m)) e ∙ pair_itself (pair_of m)) ∙ other)) ∙ was

  module _ (router : RouterId) (eid : PrefixValue) where
    -- what is held then is what rows would show that show what is held
    pub held_with : (old : List RowValue) → option_and_then (if_alive now) (row_at old router eid) ≡ held_row since router eid now
        → option_and_then (if_alive now) (option_or (last_given (row_values m from now) router eid) (row_at old router eid)) ≡ held_row (one ∷ since) router eid now
    held_with old was = first_or (if_alive now) (last_given (row_values m from now) router eid) (row_at old router eid) (find (is_row_of router eid) (accepted_rows since)) was ∙ held_more m from now since router eid

    -- what is held of a router and a prefix
    rows_after : (old new : List RowValue) → Sets old new (row_values m from now) → option_and_then (if_alive now) (row_at old router eid) ≡ held_row since router eid now
        → option_and_then (if_alive now) (row_at new router eid) ≡ held_row (one ∷ since) router eid now
    rows_after old new sets was =
        ap (option_and_then (if_alive now)) (sets router eid)
        ∙ held_with old was

    -- where routers were heard
    contacts_after : (old new : List Contact) → SetsContact old new (contact_of m from)
        → ((h : RowValue) → held_row since router eid now ≡ Some h → contact_at old router ≡ option_map (λ a. contact_of a.message a.from) (heard_last router since))
        → (h : RowValue) → held_row (one ∷ since) router eid now ≡ Some h → contact_at new router ≡ option_map (λ a. contact_of a.message a.from) (heard_last router (one ∷ since))
    contacts_after old new sets was h is = at (router_eq (router_of m) router) refl
      where
        at : (b : Bool) → router_eq (router_of m) router ≡ b → contact_at new router ≡ option_map (λ a. contact_of a.message a.from) (cond b (Some one) (heard_last router since))
        at true same = ap (contact_at new) (sym ((router_eq-Decides (router_of m) router).0 same)) ∙ sets.here
        at false other = sets.others router (λ e. true≢false (sym ((router_eq-Decides (router_of m) router).1 (sym e)) ∙ other)) ∙ was h (held_other m from now since router eid other ∙ is)

-- What the checks of a Map-Register come to, its fields and its secret, and the number that its nonce is above.

-- a result is a value or a refusal
module _ {X : Type 0} where
  ok_clash : {why : Refused} {x : X} → ◌≡◌ {A = Result X Refused} (Err why) (Ok x) → ⊥
  ok_clash e = absurd cc

  err_clash : {why : Refused} {x : X} → ◌≡◌ {A = Result X Refused} (Ok x) (Err why) → ⊥
  err_clash e = absurd cc

  err_same : (one other : Refused) → ◌≡◌ {A = Result X Refused} (Err one) (Err other) → one ≡ other
  err_same one other e = cc

-- a Map-Register that passed the checks: what passed is its own, and it stands under its secret
pub record IsPassed (sites : List SiteValue) (from : Addr) (bytes : List ℕ) (m : MapRegisterValue) (passed : Passed) : Type 0 where
  pub message : passed.message ≡ m
  pub checks : secret_under sites from bytes m ≡ Ok passed.secret

module _ (sites : List SiteValue) (from : Addr) (bytes : List ℕ) (m : MapRegisterValue) where
  -- what passed the checks has passed each
  passed_case : (passed : Passed) (r : Result (List ℕ) Refused) → secret_under sites from bytes m ≡ r → (r >>= λ secret. Ok (record { message = m; secret = secret })) ≡ Ok passed → IsPassed sites from bytes m passed
  passed_case passed (Ok secret) is e =
      let same : record { message = m; secret = secret } ≡ passed = (let at : ◌≡◌ {A = Result Passed Refused} (Ok (record { message = m; secret = secret })) (Ok passed) = e in cc) in
      record { message = ap (λ (p : Passed). p.message) (sym same); checks = is ∙ ap (λ (p : Passed). Ok p.secret) same }
  passed_case passed (Err why) is e = absurd (ok_clash e)

  pub is_passed : (passed : Passed) → register_checked sites from bytes m ≡ Ok passed → IsPassed sites from bytes m passed
  is_passed passed e = passed_case passed (secret_under sites from bytes m) refl e

  -- one that failed a check is refused for it
  failed_case : (why : Refused) (r : Result (List ℕ) Refused) → ◌≡◌ {A = Result Passed Refused} (r >>= λ secret. Ok (record { message = m; secret = secret })) (Err why) → r ≡ Err why
  failed_case why (Ok secret) e = absurd (err_clash e)
  failed_case why (Err other) e = ap Err (err_same other why e)

  is_failed : (why : Refused) → register_checked sites from bytes m ≡ Err why → secret_under sites from bytes m ≡ Err why
  is_failed why e = failed_case why (secret_under sites from bytes m) e

-- a base that an honest store may answer is one by what it keeps
base_kept : (last : Option ℕ) (store : StoreState) (pair : Pair) (base : Option ℕ) → IsTrue store.is_honest → IsBase last store pair base → IsBaseIn last (kept_at store.kept pair) base
base_kept (Some x) store pair base honest is = is
base_kept None store pair base honest is = is.1 honest

-- and by what the trace says of the last nonce and of the store
pub base_in : (known last : Option ℕ) (store : StoreState) (kept : Kept) (pair : Pair) (base : Option ℕ) → IsTrue store.is_honest → store.kept ≡ kept → known ≡ last → IsBase known store pair base → IsBaseIn last (kept_at kept pair) base
base_in known last store kept pair base honest shown same is =
    subst (λ (l : Option ℕ). IsBaseIn l (kept_at kept pair) base) same (subst (λ (k : Kept). IsBaseIn known (kept_at k pair) base) shown (base_kept known store pair base honest is))

-- A look-up that one element alone passes; and of the notices that stand at a Map-Server one for each router.

-- what a look-up finds, where one element alone passes
module _ {X : Type 0} (p : X → Bool) where
  -- where nothing is found, nothing passes
  find_none : (xs : List X) (x : X) → find p xs ≡ None → Contains xs x → p x ≡ false
  find_none [] x e has = absurd (in_none x has)
  find_none (y ∷ ys) x e has = at (p y) refl e (head_or_tail y ys x has) (find_none ys x)
    where
      at : (b : Bool) → p y ≡ b → cond b (Some y) (find p ys) ≡ None → (x ≡ y) ⊎ Contains ys x → (find p ys ≡ None → Contains ys x → p x ≡ false) → p x ≡ false
      at true is e where_is later = absurd ((absurd cc))
      at false is e (inl same) later = ap p same ∙ is
      at false is e (inr more) later = later e more

  -- what alone passes is found
  pub find_only : (xs : List X) (x : X) → Contains xs x → p x ≡ true → ((y : X) → Contains xs y → p y ≡ true → y ≡ x) → find p xs ≡ Some x
  find_only xs x has passes only = at (find p xs) refl
    where
      at : (found : Option X) → find p xs ≡ found → found ≡ Some x
      at None e = absurd (true≢false (sym passes ∙ find_none xs x e has))
      at (Some y) e = ap Some (only y (in_find p xs y e) (find_true p xs y e))

  -- where nothing passes, nothing is found
  pub find_nothing : (xs : List X) → ((y : X) → Contains xs y → p y ≡ true → ⊥) → find p xs ≡ None
  find_nothing xs none = at (find p xs) refl
    where
      at : (found : Option X) → find p xs ≡ found → found ≡ None
      at None e = refl
      at (Some y) e = absurd (none y (in_find p xs y e) (find_true p xs y e))

  -- what a filter leaves passes it
  passes_filter : (xs : List X) (x : X) → Contains (filter p xs) x → p x ≡ true
  passes_filter xs x has = All-contains (λ x. p x ≡ true) (filter p xs) x (filter_passes p xs) has

  -- a filter that leaves what is looked for leaves the look-up
  pub find_filter : (q : X → Bool) (xs : List X) → ((x : X) → q x ≡ true → p x ≡ true) → find q (filter p xs) ≡ find q xs
  find_filter q [] leaves = refl
  find_filter q (x ∷ xs) leaves = at (p x) (q x) refl refl (find_filter q xs leaves)
    where
      at : (b c : Bool) → p x ≡ b → q x ≡ c → find q (filter p xs) ≡ find q xs → find q (cond b (x ∷ filter p xs) (filter p xs)) ≡ cond c (Some x) (find q xs)
      at true true is its later = ap (λ d. cond d (Some x) (find q (filter p xs))) its
      at true false is its later = ap (λ d. cond d (Some x) (find q (filter p xs))) its ∙ later
      at false true is its later = absurd (true≢false (sym (leaves x its) ∙ is))
      at false false is its later = later

not_true : (b : Bool) → not b ≡ true → b ≡ false
not_true true e = absurd (true≢false (sym e))
not_true false e = refl

-- no two notices are for one router
abbrev pub OneEach : List Notice → Type 0
OneEach ns = (m n : Notice) → Contains ns m → Contains ns n → m.router ≡ n.router → m ≡ n

module _ (router : RouterId) (old : List Notice) where
  -- a notice that is left is another router's
  pub not_its : (x : Notice) → Contains (notices_to_others router old) x → x.router ≢ router
  not_its x has same = true≢false (sym ((router_eq-Decides x.router router).1 same) ∙ not_true (router_eq x.router router) (passes_filter (λ n. not (router_eq n.router router)) old x has))

  was : (x : Notice) → Contains (notices_to_others router old) x → Contains old x
  was x has = in_filter (λ n. not (router_eq n.router router)) old x has

  -- fewer notices are one for each router too
  one_less : OneEach old → OneEach (notices_to_others router old)
  one_less one m n has_m has_n same = one m n (was m has_m) (was n has_n) same

  -- and so are they with one for the router whose notice was taken out
  one_more : (x : Notice) → x.router ≡ router → OneEach old → OneEach (x ∷ notices_to_others router old)
  one_more x its one m n has_m has_n same = at (head_or_tail x (notices_to_others router old) m has_m) (head_or_tail x (notices_to_others router old) n has_n)
    where
      at : (m ≡ x) ⊎ Contains (notices_to_others router old) m → (n ≡ x) ⊎ Contains (notices_to_others router old) n → m ≡ n
      at (inl is_m) (inl is_n) = is_m ∙ sym is_n
      at (inl is_m) (inr more_n) = absurd (not_its n more_n (sym same ∙ ap (λ (y : Notice). y.router) is_m ∙ its))
      at (inr more_m) (inl is_n) = absurd (not_its m more_m (same ∙ ap (λ (y : Notice). y.router) is_n ∙ its))
      at (inr more_m) (inr more_n) = one m n (was m more_m) (was n more_n) same

one_again : (router : RouterId) (now : ℕ) (old : List Notice) → OneEach old → OneEach (map (resent_at router now) old)
one_again router now old one m n has_m has_n same =
    let of_m = from_map (resent_at router now) old m has_m in
    let of_n = from_map (resent_at router now) old n has_n in
    let both : of_m.0.router ≡ of_n.0.router = sym (ap (λ (y : Notice). y.router) of_m.2 ∙ again_router router now of_m.0) ∙ same ∙ ap (λ (y : Notice). y.router) of_n.2 ∙ again_router router now of_n.0 in
    of_m.2 ∙ ap (resent_at router now) (one of_m.0 of_n.0 of_m.1 of_n.1 both) ∙ sym of_n.2

module _ (o : Opening) where
  -- a line leaves one notice for each router
  one_case : (line : Line) (now k : ℕ) (old : List Notice) → OneEach old → OneEach (notices_after o.config line now k old)
  one_case line now k old one = notices_left o.config now k old OneEach one (λ router. one_again router now old one) (λ router. one_less router old one) (λ m n has_m has_n same. absurd (in_none m has_m)) line
      (λ router key nonce datagram is. one_more (router_at o.config router).me old _ refl one)

  -- so does a trace
  pub one_each : (T : List Step) (k : ℕ) → OneEach (notices o T k)
  one_each [] k = λ m n has_m has_n same. absurd (in_none m has_m)
  one_each (s ∷ T) k = one_case s.line (clock T) k (notices o T k) (one_each T k)

-- The notices that stand at a Map-Server, by the trace and by what it keeps.

module _ (o : Opening) (T : List Step) (node : ℕ) (kept : List StandingNoticeValue) (same : (router : RouterId) → SameNotice o T node (notice_to o T node router) (notice_at kept router)) where
  -- a notice that is kept stands
  pub record Stood (router : RouterId) (n : StandingNoticeValue) : Type 0 where
    pub notice : Notice
    pub there : notice_to o T node router ≡ Some notice
    pub is : IsStanding o T node notice n

  -- it is found by its router
  stood : (router : RouterId) (n : StandingNoticeValue) → notice_at kept router ≡ Some n → Stood router n
  stood router n at_router = at (notice_to o T node router) (notice_at kept router) refl at_router (same router)
    where
      at : (a : Option Notice) (b : Option StandingNoticeValue) → notice_to o T node router ≡ a → b ≡ Some n → SameNotice o T node a b → Stood router n
      at (Some x) (Some k) there e is = let its : k ≡ n = cc in record { notice = x; there = there; is = subst (λ (z : StandingNoticeValue). IsStanding o T node x z) its is }
      at None (Some k) there e is = absurd is
      at a None there e is = absurd (none_is_some e)

  -- and one that stands is kept
  pub record KeptFor (x : Notice) (router : RouterId) : Type 0 where
    pub standing : StandingNoticeValue
    pub there : notice_at kept router ≡ Some standing
    pub is : IsStanding o T node x standing

  -- it too is found by its router
  kept_for : (x : Notice) (router : RouterId) → notice_to o T node router ≡ Some x → KeptFor x router
  kept_for x router at_router = at (notice_to o T node router) (notice_at kept router) at_router refl (same router)
    where
      at : (a : Option Notice) (b : Option StandingNoticeValue) → a ≡ Some x → notice_at kept router ≡ b → SameNotice o T node a b → KeptFor x router
      at (Some y) (Some k) e there is = let its : y ≡ x = cc in record { standing = k; there = there; is = subst (λ (z : Notice). IsStanding o T node z k) its is }
      at (Some y) None e there is = absurd is
      at None b e there is = absurd (none_is_some e)

  module _ (fate : Fate) (before after : ShownStore) (from : Addr) (m : MapNotifyValue) where
    abbrev hearing_turn : Context
    hearing_turn = record { opening = o; past = T; node = node; fate = fate; before = before; after = after }

    -- they wait for the same acknowledgements
    waits_same : (x : Notice) (n : StandingNoticeValue) → IsStanding o T node x n → awaits hearing_turn from m x ≡ waits_for from m.key_id m.nonce n
    waits_same x n is =
        ap (λ (i : Option Item). went_to from i && (x.key == m.key_id) && (x.nonce == m.nonce)) is.sent
        ∙ (λ i. addr_eq (sym is.to i) from && (sym is.key i == m.key_id) && (sym is.nonce i == m.nonce))

    -- the nonce that is awaited is the notice's
    its_nonce : (x : Notice) → awaits hearing_turn from m x ≡ true → x.nonce ≡ m.nonce
    its_nonce x waits = (Decides-eqb x.nonce m.nonce).0
        (and_parts (went_to from (slice_get (bag o T) x.datagram) && (x.key == m.key_id)) (x.nonce == m.nonce) waits).1

    -- the notice that is awaited
    pub record Awaited (n : StandingNoticeValue) : Type 0 where
      pub notice : Notice
      pub there : notice_to o T node n.router ≡ Some notice
      pub is : IsStanding o T node notice n
      pub stands : awaiting hearing_turn from m ≡ Some notice

    -- what is awaited by a notice that is kept is awaited by the one that stands, and that alone
    pub awaited : LegalTrace o T → (n : StandingNoticeValue) → IsAwaiting kept from m.key_id m.nonce n → Awaited n
    awaited legal n its =
        let s = stood n.router n its.stands in
        let has = in_find (λ x. router_eq x.router n.router) (notices o T node) s.notice s.there in
        let waits = waits_same s.notice n s.is ∙ its.waits in
        record {
          notice = s.notice;
          there = s.there;
          is = s.is;
          stands = find_only (awaits hearing_turn from m) (notices o T node) s.notice has waits
              (λ y has_y waits_y. notices_differ o T legal node y s.notice has_y has (its_nonce y waits_y ∙ sym (its_nonce s.notice waits)));
        }

    -- what no notice that is kept waits for, none that stands waits for
    none_awaited : NoneAwaits kept from m.key_id m.nonce → awaiting hearing_turn from m ≡ None
    none_awaited none = find_nothing (awaits hearing_turn from m) (notices o T node) never
      where
        never : (x : Notice) → Contains (notices o T node) x → awaits hearing_turn from m x ≡ true → ⊥
        never x has waits =
            let there = find_only (λ y. router_eq y.router x.router) (notices o T node) x has ((router_eq-Decides x.router x.router).1 refl)
            (λ y has_y passes. one_each o T node y x has_y has ((router_eq-Decides y.router x.router).0 passes)) in
            let k = kept_for x x.router there in
            true≢false (sym waits ∙ waits_same x k.standing k.is ∙ none x.router k.standing k.there)

  -- they are signed by the same key
  pub signed_same : (sites : List SiteValue) (bytes : List ℕ) (x : Notice) (n : StandingNoticeValue) → IsStanding o T node x n → signed_by (known_secret sites x.router.site x.key) bytes ≡ answers_under sites bytes n
  signed_same sites bytes x n is = λ i. signed_by (known_secret sites (sym is.router i).site (sym is.key i)) bytes

  -- after one has ended, the others stand
  ended_same : (U : List Step) (new : List StandingNoticeValue) (ended : RouterId) → EndsNotice kept new ended → bag o U ≡ bag o T ++ [] → (router : RouterId) → SameNotice o U node (find (λ x. router_eq x.router router) (notices_to_others ended (notices o T node))) (notice_at new router)
  ended_same U new ended ends grown router = at (router_eq router ended) refl
    where
      others : Notice → Bool
      others n = not (router_eq n.router ended)

      at : (b : Bool) → router_eq router ended ≡ b → SameNotice o U node (find (λ x. router_eq x.router router) (notices_to_others ended (notices o T node))) (notice_at new router)
      at true its = nowhere
        where
          is : router ≡ ended
          is = (router_eq-Decides router ended).0 its

          none : find (λ x. router_eq x.router router) (notices_to_others ended (notices o T node)) ≡ None
          none = find_nothing (λ x. router_eq x.router router) (notices_to_others ended (notices o T node))
              (λ x has passes. not_its ended (notices o T node) x has ((router_eq-Decides x.router router).0 passes ∙ is))

          nowhere : SameNotice o U node (find (λ x. router_eq x.router router) (notices_to_others ended (notices o T node))) (notice_at new router)
          nowhere = subst (λ (a : Option Notice). SameNotice o U node a (notice_at new router)) (sym none) (subst (λ (b : Option StandingNoticeValue). SameNotice o U node None b) (sym (ap (notice_at new) is ∙ ends.here)) tt)
      at false other = elsewhere
        where
          differs : router ≢ ended
          differs e = true≢false (sym ((router_eq-Decides router ended).1 e) ∙ other)

          leaves : (x : Notice) → router_eq x.router router ≡ true → others x ≡ true
          leaves x passes = is_other (router_eq x.router ended) refl
            where
              is_other : (b : Bool) → router_eq x.router ended ≡ b → not (router_eq x.router ended) ≡ true
              is_other true its = absurd (differs (sym ((router_eq-Decides x.router router).0 passes) ∙ (router_eq-Decides x.router ended).0 its))
              is_other false apart = ap not apart

          elsewhere : SameNotice o U node (find (λ x. router_eq x.router router) (notices_to_others ended (notices o T node))) (notice_at new router)
          elsewhere = subst (λ (a : Option Notice). SameNotice o U node a (notice_at new router)) (sym (find_filter others (λ x. router_eq x.router router) (notices o T node) leaves))
              (subst (λ (b : Option StandingNoticeValue). SameNotice o U node (notice_to o T node router) b) (sym (ends.others router differs)) (notice_goes o T U node ([], grown) (notice_to o T node router) (notice_at kept router) (same router)))

-- What a Map-Server refuses is refused by a row of legal steps.

-- what arrives, from where, and what is read in it
abbrev pub arriving : Addr → List ℕ → Result MessageValue ReadFault → Arrival
arriving from bytes read = record { from = from; bytes = bytes; read = read }

-- the turn of a Map-Server whose store was called
abbrev pub turn_at : Opening → List Step → ℕ → Fate → StoreState → Context
turn_at o T node fate called = record { opening = o; past = T; node = node; fate = fate; before = shown_store o T node; after = shown_by called }

module _ (o : Opening) (T : List Step) (node : ℕ) (before : ServerNodeState) (part : StandsForServer o T node before) (armed called : StoreState) (shows : Shows armed (shown_store o T node))
    (fate : Fate) (fated : IsTrue (shown_store o T node).is_obedient → armed.fate ≡ fate) where
  abbrev pub turn : Context
  turn = turn_at o T node fate called

  -- what is said of the fate that an obedient store was armed with
  by : (P : Fate → Type 0) → (IsTrue armed.is_obedient → P armed.fate) → IsTrue (shown_store o T node).is_obedient → P fate
  by P said = by_fate P fate armed (shown_store o T node) shows fated said

  -- the store is as it was, or keeps what it kept
  pub same_store : called ≡ armed → Same turn
  same_store e = ap (λ (s : StoreState). s.kept) e ∙ shows.kept

  same_lists : KeepsLists armed called → Same turn
  same_lists keeps = keeps shows.honest ∙ shows.kept

  -- a device failed
  cause_in : (fault : StoreFault) → HasCause fault armed called → HasCauseIn turn fault
  cause_in fault cause other = subst (λ (n : ℕ). (n < called.faults) ⊎ (called.faults ≡ 2 ^ 64 - 1)) shows.faults (cause other)

  -- where the last nonce isn't in memory it was loaded, as the fate lets it be
  loads_in : (known base : Option ℕ) (pair : Pair) → IsStoreBase known armed pair base → known ≡ None → IsTrue (shown_store o T node).is_obedient → fate ≢ LoadFails
  loads_in known base pair is none = by (λ f. f ≢ LoadFails) (subst (λ (k : Option ℕ). IsStoreBase k armed pair base) none is).0

  -- the last nonce of a Map-Register's pair, and that it is fresh
  pub last_is : (m : MapRegisterValue) → nonce_at before.core.nonces (pair_of m) ≡ last_in turn (pair_of m)
  last_is m = part.nonces (pair_of m) (not_notices m)

  pub is_fresh : (m : MapRegisterValue) → IsFreshFor (most_jump_at before.core.sites m.site) (nonce_at before.core.nonces (pair_of m)) armed (pair_of m) m.nonce → IsFresh turn m
  is_fresh m fresh = record {
    base = fresh.0;
    counts = base_in (nonce_at before.core.nonces (pair_of m)) (last_in turn (pair_of m)) armed (shown_store o T node).kept (pair_of m) fresh.0 shows.honest shows.kept (last_is m) fresh.1;
    above = fresh.2;
    near = subst (λ (sites : List SiteValue). IsNear (most_jump_at sites m.site) fresh.0 m.nonce) part.sites fresh.3;
    loads = λ none. loads_in (nonce_at before.core.nonces (pair_of m)) fresh.0 (pair_of m) fresh.1 (last_is m ∙ none);
  }

  module _ (from : Addr) (bytes : List ℕ) where
    -- whether its site has space for a Map-Register is as the Map-Server reckons it
    module _ (read : Result MessageValue ReadFault) (m : MapRegisterValue) where
      pub space_in : HasSpaceOf before.core m from (clock T) → HasSpace turn (arriving from bytes read) m
      space_in space = fits_alike (most_routers_at (sites o T node) m.site) (most_rows_at (sites o T node) m.site) m.site (live_rows before.core.rows (clock T)) (live_rows_with before.core.rows (row_values m from (clock T)) (clock T))
          (rows_before turn) (rows_with turn (arriving from bytes read) m) part.rows (λ router eid. held_with m from (clock T) (since_start o T node) router eid before.core.rows (part.rows router eid))
          (subst (λ (sites : List SiteValue). Fits (most_routers_at sites m.site) (most_rows_at sites m.site) m.site (live_rows before.core.rows (clock T)) (live_rows_with before.core.rows (row_values m from (clock T)) (clock T))) part.sites space)

      lacks_in : (full : Full) → LacksSpaceOf before.core m from (clock T) full → LacksSpace turn (arriving from bytes read) m full
      lacks_in full lacks = full_alike (most_routers_at (sites o T node) m.site) (most_rows_at (sites o T node) m.site) m.site (live_rows before.core.rows (clock T)) (live_rows_with before.core.rows (row_values m from (clock T)) (clock T))
          (rows_before turn) (rows_with turn (arriving from bytes read) m) full part.rows (λ router eid. held_with m from (clock T) (since_start o T node) router eid before.core.rows (part.rows router eid))
          (subst (λ (sites : List SiteValue). IsFull (most_routers_at sites m.site) (most_rows_at sites m.site) m.site (live_rows before.core.rows (clock T)) (live_rows_with before.core.rows (row_values m from (clock T)) (clock T)) full) part.sites lacks)

    module _ (m : MapRegisterValue) where
      abbrev check : Result Passed Refused
      check = register_checked before.core.sites from bytes m

      -- it passes the checks
      pub admits : (passed : Passed) → check ≡ Ok passed → Admits turn (arriving from bytes (Ok (Registers m))) passed.message
      admits passed e =
          let p = is_passed before.core.sites from bytes m passed e in
          record {
            read = ap (λ (x : MapRegisterValue). Ok (Registers x)) (sym p.message);
            secret = passed.secret;
            checks = subst (λ (x : MapRegisterValue). secret_under (sites o T node) from bytes x ≡ Ok passed.secret) (sym p.message) (subst (λ (sites : List SiteValue). secret_under sites from bytes m ≡ Ok passed.secret) part.sites p.checks);
          }

      -- it fails one
      fails : (why : Refused) → (check ≡ Err why) × (called ≡ armed) → (secret_under (sites o T node) from bytes m ≡ Err why) × Same turn
      fails why e = (subst (λ (sites : List SiteValue). secret_under sites from bytes m ≡ Err why) part.sites (is_failed before.core.sites from bytes m why e.0), same_store e.1)

      -- a Map-Register is refused for the first reason that applies
      refuses_register : (why : Refused) → RefusesRegister check before.core armed called from (clock T) why → (why ≡ refuseds.OutOfMemory → HasHead bytes) → RefusesMessage turn (arriving from bytes (Ok (Registers m))) why
      refuses_register (refuseds.StoreLoad fault) r head = record {
        message = r.passed.message;
        admits = admits r.passed r.checks;
        unknown = sym (last_is r.passed.message) ∙ r.unknown;
        fails = record { same = same_lists r.same; cause = cause_in fault r.cause; may = λ other. by (λ f. f ≡ LoadFails) (r.armed other) };
      }
      refuses_register (refuseds.Replay saved) r head = record {
        message = r.passed.message;
        admits = admits r.passed r.checks;
        counts = base_in (nonce_at before.core.nonces (pair_of r.passed.message)) (last_in turn (pair_of r.passed.message)) armed (shown_store o T node).kept (pair_of r.passed.message) (Some saved) shows.honest shows.kept (last_is r.passed.message) r.base;
        loads = λ none. loads_in (nonce_at before.core.nonces (pair_of r.passed.message)) (Some saved) (pair_of r.passed.message) r.base (last_is r.passed.message ∙ none);
        stale = r.stale;
        same = same_lists r.same;
      }
      refuses_register (refuseds.Jump site saved) r head = record {
        message = r.passed.message;
        admits = admits r.passed r.checks;
        its = r.its;
        counts = base_in (nonce_at before.core.nonces (pair_of r.passed.message)) (last_in turn (pair_of r.passed.message)) armed (shown_store o T node).kept (pair_of r.passed.message) (Some saved) shows.honest shows.kept (last_is r.passed.message) r.base;
        loads = λ none. loads_in (nonce_at before.core.nonces (pair_of r.passed.message)) (Some saved) (pair_of r.passed.message) r.base (last_is r.passed.message ∙ none);
        far = subst (λ (sites : List SiteValue). IsFar (most_jump_at sites r.passed.message.site) saved r.passed.message.nonce) part.sites r.far;
        same = same_lists r.same;
      }
      refuses_register (refuseds.Full site full) r head = record {
        message = r.passed.message;
        admits = admits r.passed r.checks;
        its = r.its;
        fresh = is_fresh r.passed.message r.fresh;
        lacks = lacks_in (Ok (Registers m)) r.passed.message full r.lacks;
        same = same_lists r.same;
      }
      refuses_register refuseds.OutOfMemory r head = (head refl, inr (record { message = r.passed.message; admits = admits r.passed r.checks; fresh = is_fresh r.passed.message r.fresh }), same_lists r.same)
      refuses_register (refuseds.StoreSave fault) r head = record {
        message = r.passed.message;
        admits = admits r.passed r.checks;
        fresh = is_fresh r.passed.message r.fresh;
        space = space_in (Ok (Registers m)) r.passed.message r.space;
        fails = record {
          here = subst (λ (k : Kept). InDoubt (kept_at k (pair_of r.passed.message)) (kept_at called.kept (pair_of r.passed.message)) r.passed.message.nonce) shows.kept (r.doubt shows.honest);
          others = subst (λ (k : Kept). SameElsewhere k called.kept (pair_of r.passed.message)) shows.kept (r.others shows.honest);
          memory = λ out. same_lists (r.memory out);
          sound = r.sound;
          cause = cause_in fault r.cause;
          may = λ other. by (λ f. f ≡ Doubt) (r.doubted other).armed;
          doubted = λ other obeys. subst (λ (k : Kept). kept_at called.kept (pair_of r.passed.message) ≡ with_value (kept_at k (pair_of r.passed.message)) r.passed.message.nonce) shows.kept ((r.doubted other).keeps shows.honest (subst (λ (b : Bool). IsTrue b) (sym shows.obedient) obeys));
        };
      }
      refuses_register (refuseds.Read fault) r head = fails (refuseds.Read fault) r
      refuses_register refuseds.NotMine r head = fails refuseds.NotMine r
      refuses_register refuseds.UnknownSite r head = fails refuseds.UnknownSite r
      refuses_register refuseds.UnknownKey r head = fails refuseds.UnknownKey r
      refuses_register refuseds.BadAuth r head = fails refuseds.BadAuth r
      refuses_register refuseds.MergeAsked r head = fails refuseds.MergeAsked r
      refuses_register (refuseds.NotAllowed place) r head = fails (refuseds.NotAllowed place) r
      refuses_register (refuseds.Limited site limit) r head = fails (refuseds.Limited site limit) r
      refuses_register refuseds.NoNotice r head = fails refuseds.NoNotice r

    -- a Map-Notify or Map-Notify-Ack that no notice takes
    module _ (legal : LegalTrace o T) (m : MapNotifyValue) where
      abbrev arrival : Arrival
      arrival = arriving from bytes (Ok (Notifies m))

      refuses_notify : (why : Refused) → RefusesAckOf before.core.sites before.core.notices from bytes m why → FailsNotify turn arrival m m.ack why
      refuses_notify refuseds.NotMine r = subst (λ (b : Bool). FailsNotify turn arrival m b refuseds.NotMine) (sym r) refl
      refuses_notify refuseds.NoNotice r =
          let none = none_awaited o T node before.core.notices part.notices fate turn.before turn.after from m r.1 in
          subst (λ (b : Bool). FailsNotify turn arrival m b refuseds.NoNotice) (sym r.0) (subst (λ (n : Option Notice). RefusesAck turn arrival n refuseds.NoNotice) (sym none) refl)
      refuses_notify refuseds.BadAuth r =
          let found = awaited o T node before.core.notices part.notices fate turn.before turn.after from m legal r.1 r.2 in
          let tag = ap (λ (sites : List SiteValue). answers_under sites bytes r.1) (sym part.sites) ∙ r.3 in
          subst (λ (b : Bool). FailsNotify turn arrival m b refuseds.BadAuth) (sym r.0) (subst (λ (n : Option Notice). RefusesAck turn arrival n refuseds.BadAuth) (sym found.stands)
          (signed_same o T node before.core.notices part.notices (sites o T node) bytes found.notice r.1 found.is ∙ tag, refl))
      refuses_notify _ r = absurd r

    -- any message is
    pub refuses : LegalTrace o T → (read : Result MessageValue ReadFault) (why : Refused) → ServerRefuses read from bytes before.core armed called (clock T) why → (why ≡ refuseds.OutOfMemory → HasHead bytes) → RefusesMessage turn (arriving from bytes read) why
    refuses legal read refuseds.OutOfMemory (inl untouched) head = (head refl, inl untouched.0, same_store untouched.1)
    refuses legal (Ok (Registers m)) refuseds.OutOfMemory (inr r) head = refuses_register m refuseds.OutOfMemory r head
    refuses legal (Ok (Notifies m)) refuseds.OutOfMemory (inr r) head = absurd r.0
    refuses legal (Err fault) refuseds.OutOfMemory (inr r) head = absurd (let clash : refuseds.OutOfMemory ≡ refuseds.Read fault = r.0 in cc)
    refuses legal (Ok (Registers m)) why r head = refuses_register m why r head
    refuses legal (Ok (Notifies m)) (refuseds.StoreLoad fault) r head = absurd r.0
    refuses legal (Ok (Notifies m)) (refuseds.StoreSave fault) r head = absurd r.0
    refuses legal (Ok (Notifies m)) (refuseds.Replay saved) r head = absurd r.0
    refuses legal (Ok (Notifies m)) (refuseds.Jump site saved) r head = absurd r.0
    refuses legal (Ok (Notifies m)) (refuseds.Full site full) r head = absurd r.0
    refuses legal (Ok (Notifies m)) why r head = (refuses_notify legal m why r.0, same_store r.1)
    refuses legal (Err fault) (refuseds.StoreLoad other) r head = absurd (let clash : refuseds.StoreLoad other ≡ refuseds.Read fault = r.0 in cc)
    refuses legal (Err fault) (refuseds.StoreSave other) r head = absurd (let clash : refuseds.StoreSave other ≡ refuseds.Read fault = r.0 in cc)
    refuses legal (Err fault) (refuseds.Replay saved) r head = absurd (let clash : refuseds.Replay saved ≡ refuseds.Read fault = r.0 in cc)
    refuses legal (Err fault) (refuseds.Jump site saved) r head = absurd (let clash : refuseds.Jump site saved ≡ refuseds.Read fault = r.0 in cc)
    refuses legal (Err fault) (refuseds.Full site full) r head = absurd (let clash : refuseds.Full site full ≡ refuseds.Read fault = r.0 in cc)
    refuses legal (Err fault) why r head = (r.0, same_store r.1)

-- What is taken and what is refused come to a row of legal steps, after which the Map-Server stands.

-- what arrives brings no sites
same_sites : (items : List Item) (event : EventValue) (a : Arrival) → arrival_in items event ≡ Some a → (k : ℕ) (old : List SiteValue) → sites_after event k old ≡ old
same_sites items (events.Reload server new) a e k old = absurd (let clash : ◌≡◌ {A = Option Arrival} None (Some a) = e in cc)
same_sites items _ a e k old = refl

-- what a step of a Map-Server at which something arrives leaves
pub record Received (o : Opening) (T : List Step) (s : Step) (a : Arrival) (node : ℕ) (after : ServerNodeState) (more : List DatagramValue) : Type 0 where
  pub row : Arrives (context_of o T s) a s.line
  pub adds : Adds o T s more
  pub part : StandsForServer o (s ∷ T) node after

-- what a Map-Server says of a Map-Register that it accepted
record Says (router r : RouterId) (key k nonce n : ℕ) (reply q : Option (List ℕ)) : Type 0 where
  who : router ≡ r
  under : key ≡ k
  number : nonce ≡ n
  answer : reply ≡ q

-- its line has what it says
accepted_says : {A : Type 0} (router r : RouterId) (key k nonce n : ℕ) (reply q : Option (List ℕ)) → ◌≡◌ {A = Took A} (Accepted router key nonce reply) (Accepted r k n q) → Says router r key k nonce n reply q
accepted_says router r key k nonce n reply q e = record { who = cc; under = cc; number = cc; answer = cc }

-- its reply goes out where it asks for one
reply_case : (next : ℕ) (b : Bool) (bytes : List ℕ) → reply_number next (if b then Some bytes else None) ≡ (if b then Some next else None)
reply_case next true bytes = refl
reply_case next false bytes = refl

-- a reply that goes out was asked for
asked : (b : Bool) (bytes x : List ℕ) → Some x ≡ (if b then Some bytes else None) → x ≡ bytes
asked true bytes x e = cc
asked false bytes x e = absurd cc

module _ (o : Opening) (T : List Step) (node : ℕ) (kind : is_server o.config node ≡ true) (before after : ServerNodeState) (part : StandsForServer o T node before) (lives : after.started ≡ before.started)
    (armed called : StoreState) (shows : Shows armed (shown_store o T node)) (event : EventValue) (fated : IsTrue (shown_store o T node).is_obedient → armed.fate ≡ fate_of event) (timeless : is_timeless event ≡ true) (has : sites_after event node (sites o T node) ≡ sites o T node) (from : Addr) (bytes : List ℕ) where
  -- the step, by its line
  abbrev received_step : Line → Step
  received_step line = record { event = event; line = line; actor = node; shown = shown_by called }

  acts : IsAtServer (turn_at o T node (fate_of event) called) node
  acts = record { kind = kind; acts = refl }

  still : clock T + time_of event ≡ clock T
  still = clock_stays event timeless (clock T)

  -- all but the notices stays
  module _ (line : Line) (same_since : since_start o (received_step line ∷ T) node ≡ since_start o T node) (same_last : last_notice (received_step line ∷ T) node ≡ last_notice T node) (same_life : began (received_step line ∷ T) node ≡ began T node) (rest : after.core ≡ record before.core { notices = after.core.notices }) where
    stays : ((router : RouterId) → SameNotice o (received_step line ∷ T) node (notice_to o (received_step line ∷ T) node router) (notice_at after.core.notices router)) → StandsForServer o (received_step line ∷ T) node after
    stays = part_stays o T (received_step line) node before after part still same_since has rest lives same_life same_last

  -- a refusal changes nothing
  refused : (why : Refused) (read : Result MessageValue ReadFault) → after.core ≡ before.core → RefusesMessage (turn_at o T node (fate_of event) called) (arriving from bytes read) why
      → Received o T (received_step (lines.Refused node (refusals.Receive why))) (arriving from bytes read) node after []
  refused why read core refusal = record {
    row = (acts, refusal);
    adds = adds_none o T (received_step (lines.Refused node (refusals.Receive why))) refl;
    part = part_idle o T (received_step (lines.Refused node (refusals.Receive why))) node before after part still refl has core lives refl refl refl refl;
  }

  -- a Map-Notify-Ack ends a notice
  module _ (legal : LegalTrace o T) (m : MapNotifyValue) (router : RouterId) (nonce : ℕ) (e : Ends from bytes m before.core after.core armed called router nonce) where
    -- that is a legal step
    done_row : IsDone (turn_at o T node (fate_of event) called) (arriving from bytes (Ok (Notifies m))) node router nonce
    done_row =
        let found = awaited o T node before.core.notices part.notices (fate_of event) (shown_store o T node) (shown_by called) from m legal e.notice e.acknowledges.awaiting in
        record {
          acts = acts;
          message = m;
          read = refl;
          ack = e.acknowledges.ack;
          notice = found.notice;
          stands = found.stands;
          authentic = signed_same o T node before.core.notices part.notices (sites o T node) bytes found.notice e.notice found.is ∙ ap (λ (sites : List SiteValue). answers_under sites bytes e.notice) (sym part.sites) ∙ e.acknowledges.authentic;
          who = e.its ∙ found.is.router;
          number = e.under ∙ found.is.nonce;
          same = same_store o T node before part armed called shows (fate_of event) fated e.store;
        }

    done : Received o T (received_step (lines.Done node router nonce)) (arriving from bytes (Ok (Notifies m))) node after []
    done = record {
      row = done_row;
      adds = adds_none o T (received_step (lines.Done node router nonce)) refl;
      part = stays (lines.Done node router nonce) refl refl refl e.rest (λ q.
          subst (λ (b : Bool). SameNotice o (received_step (lines.Done node router nonce) ∷ T) node (find (λ n. router_eq n.router q) (if b then notices_to_others router (notices o T node) else notices o T node)) (notice_at after.core.notices q)) (sym (same_number node))
          (subst (λ (r : RouterId). SameNotice o (received_step (lines.Done node router nonce) ∷ T) node (find (λ n. router_eq n.router q) (notices_to_others r (notices o T node))) (notice_at after.core.notices q)) (sym e.its)
          (ended_same o T node before.core.notices part.notices (received_step (lines.Done node router nonce) ∷ T) after.core.notices e.notice.router e.ended refl q)));
    }

  -- a Map-Register is accepted
  module _ {A : Type 0} (m : MapRegisterValue) (router : RouterId) (key nonce : ℕ) (reply : Option (List ℕ)) (arrives : arrival_in (bag o T) event ≡ Some (arriving from bytes (Ok (Registers m))))
      (a : Accepts {A = A} (register_checked before.core.sites from bytes m) before.core after.core armed called from (clock T) (Accepted router key nonce reply)) where
    -- the message, what comes of it, and the line
    abbrev message : MapRegisterValue
    message = a.passed.message

    abbrev acceptance : Acceptance
    acceptance = record { message = message; from = from; moment = clock T }

    abbrev said : Option (List ℕ) → Line
    said q = lines.Accepted node router key nonce (reply_number (length (bag o T)) q)

    admitted : Admits (turn_at o T node (fate_of event) called) (arriving from bytes (Ok (Registers m))) message
    admitted = admits o T node before part armed called shows (fate_of event) fated from bytes m a.passed a.checks

    answers : Says router (router_of message) key message.key_id nonce message.nonce reply (reply_of a.passed.secret message)
    answers = accepted_says {A = A} router (router_of message) key message.key_id nonce message.nonce reply (reply_of a.passed.secret message) a.answer

    -- it is what is taken in the step
    taken_is : acceptances_in (arrival_in (bag o T) event) (clock T) ≡ acceptance ∷ []
    taken_is = ap (λ (x : Option Arrival). acceptances_in x (clock T)) arrives ∙ taken_one (arriving from bytes (Ok (Registers m))) (clock T) message admitted.read

    spelled : (x : List ℕ) → Some x ≡ reply_of a.passed.secret message → x ≡ bytes_of (reply_item o.config (sites o T node) node acceptance)
    unfolding bytes_of
    spelled x e = asked message.want_notify (signed a.passed.secret (written_notify (reply_to message))) x e ∙ ap (λ (secret : List ℕ). signed secret (written_notify (reply_to message))) (
        let passed = is_passed before.core.sites from bytes m a.passed a.checks in
        sym ((λ i. secret_at (sym part.sites i) (passed.message i).site (passed.message i).key_id) ∙ ap (λ (x : Option (List ℕ)). unwrap_or x []) (its_secret before.core.sites from bytes m a.passed.secret passed.checks)))

    -- the reply goes to the bag, where there is one
    adds_reply : (q : Option (List ℕ)) → q ≡ reply_of a.passed.secret message → Adds o T (received_step (said q)) (option_to_list (option_map (λ x. record { from = address_at o.config node; to = from; bytes = x }) q))
    adds_reply None e = adds_none o T (received_step (said None)) refl
    adds_reply (Some x) e = adds_one o T (received_step (said (Some x))) (record { from = address_at o.config node; to = from; bytes = x }) (reply_item o.config (sites o T node) node acceptance)
        (ap (λ (xs : List Acceptance). bag o T ++ map (reply_item o.config (sites o T node) node) xs) taken_is)
        (record { from = refl; to = refl; bytes = spelled x e; message = a.fits })

    -- it comes before all that was accepted since the start
    since_is : since_start o (received_step (said reply) ∷ T) node ≡ acceptance ∷ since_start o T node
    since_is =
        ap (λ (b : Bool). if b then acceptances_in (arrival_in (bag o T) event) (clock T) ++ since_start o T node else since_start o T node) (same_number node)
        ∙ ap (λ (xs : List Acceptance). xs ++ since_start o T node) taken_is

    accepted : Received o T (received_step (said reply)) (arriving from bytes (Ok (Registers m))) node after (replies {A = A} (address_at o.config node) from (Ok (Accepted router key nonce reply)))
    accepted =
        let adds = adds_reply reply answers.answer in
        record {
          row = record {
            acts = acts;
            message = message;
            admits = admitted;
            who = answers.who;
            under = answers.under;
            number = answers.number;
            fresh = is_fresh o T node before part armed called shows (fate_of event) fated message a.fresh;
            space = space_in o T node before part armed called shows (fate_of event) fated from bytes (Ok (Registers m)) message a.space;
            may = by_fate (λ f. f ≢ Doubt) (fate_of event) armed (shown_store o T node) shows fated a.saves;
            kept = a.kept shows.honest;
            others = subst (λ (k : Kept). SameElsewhere k called.kept (pair_of message)) shows.kept (a.others shows.honest);
            reply = ap (reply_number (length (bag o T))) answers.answer ∙ reply_case (length (bag o T)) message.want_notify (signed a.passed.secret (written_notify (reply_to message)));
          };
          adds = adds;
          part = record {
            sites = a.sites ∙ part.sites ∙ sym has;
            rows = λ q eid. subst (λ (now : ℕ). option_and_then (if_alive now) (row_at after.core.rows q eid) ≡ held_row (since_start o (received_step (said reply) ∷ T) node) q eid now) (sym still)
                (rows_after message from (clock T) (since_start o T node) q eid before.core.rows after.core.rows a.rows (part.rows q eid) ∙ ap (λ (xs : List Acceptance). held_row xs q eid (clock T)) (sym since_is));
            nonces = λ pair other. nonces_after message from (clock T) (since_start o T node) before.core.nonces after.core.nonces a.nonces pair (part.nonces pair other) ∙ ap (last_of pair) (sym since_is);
            notice_nonce = a.nonces.others notice_pair (λ e. not_notices message (sym e)) ∙ part.notice_nonce;
            contacts = λ q eid h is. contacts_after message from (clock T) (since_start o T node) q eid before.core.contacts after.core.contacts a.contacts (part.contacts q eid) h ((λ i. held_row (sym since_is i) q eid (sym still i)) ∙ is)
                ∙ ap (λ (xs : List Acceptance). option_map (λ x. contact_of x.message x.from) (heard_last q xs)) (sym since_is);
            notices = λ q. subst (λ (ns : List StandingNoticeValue). SameNotice o (received_step (said reply) ∷ T) node (notice_to o T node q) (notice_at ns q)) (sym a.notices)
                (notice_goes o T (received_step (said reply) ∷ T) node (adds.items, adds.added) (notice_to o T node q) (notice_at before.core.notices q) (part.notices q));
            started = lives ∙ part.started;
          };
        }

  -- whatever it answers
  received : {A : Type 0} → LegalTrace o T → (read : Result MessageValue ReadFault) (answer : Result (Took A) Refused) → arrival_in (bag o T) event ≡ Some (arriving from bytes read)
      → IfOk answer (λ took. ServerTakes read from bytes before.core after.core armed called (clock T) took) → IfErr answer (λ why. ServerRefuses read from bytes before.core armed called (clock T) why) → OnErr answer (after.core ≡ before.core)
      → (IsErrOf answer refuseds.OutOfMemory → HasHead bytes)
      → Received o T (received_step (server_line node (length (bag o T)) answer)) (arriving from bytes read) node after (replies (address_at o.config node) from answer)
  received {A = A} legal (Ok (Registers m)) (Ok (Accepted router key nonce reply)) arrives takes refusal same head = accepted {A = A} m router key nonce reply arrives takes
  received legal (Ok (Notifies m)) (Ok (NoticeDone router nonce)) arrives takes refusal same head = done legal m router nonce takes
  received legal read (Err why) arrives takes refusal same head = refused why read same (refuses o T node before part armed called shows (fate_of event) fated from bytes legal read why refusal (λ e. head (ap Err e)))
  received legal _ (Ok _) arrives takes refusal same head = absurd takes

-- The network stands for the trace with one step more after something arrives at a Map-Server, and after a datagram that
-- is for no node.

-- a datagram that lies in the bag, and the item that it carries
pub record Lies (o : Opening) (T : List Step) (k : ℕ) (d : DatagramValue) : Type 0 where
  pub item : Item
  pub sent : slice_get (bag o T) k ≡ Some item
  pub carries : Carries d item

-- each datagram that was sent lies there
pub lies : (w : WorldState) (o : Opening) (T : List Step) → Stands w o T → (k : ℕ) (d : DatagramValue) → slice_get w.bag k ≡ Some d → Lies o T k d
lies w o T stand k d there =
    let within = slice_get_within w.bag k d there in
    let at = get_within (bag o T) k (omega (arith, within, stand.bag.count)) in
    record { item = at.0; sent = at.1; carries = stand.bag.each k d at.0 there at.1 }

-- it arrives as its item does
pub carries_arrival : (d : DatagramValue) (i : Item) → Carries d i → junk_arrival d.from d.bytes ≡ arrival_of i
carries_arrival d i carries = λ j. record { from = carries.from j; bytes = carries.bytes j; read = item_read d i carries j }

-- the node that has its address, if one has
pub addressed : (w : WorldState) (o : Opening) (T : List Step) → Stands w o T → (d : DatagramValue) (i : Item) → Carries d i → node_at o.config i.to ≡ node_with w d.to
addressed w o T stand d i carries = λ j. position (λ a. addr_eq a (sym carries.to j)) (sym stand.steps.addresses j)

-- a line of a Map-Server at which something arrives is of a row of legal steps
module _ {A : Type 0} (t : Context) (node next : ℕ) where
  delivered_row : (k : ℕ) (fate : Fate) (answer : Result (Took A) Refused) → IsDelivered t k (server_line node next answer) → MayCome t (events.Deliver k fate) (server_line node next answer)
  delivered_row k fate (Ok (Accepted router key nonce reply)) row = row
  delivered_row k fate (Ok (NoticeDone router nonce)) row = row
  delivered_row k fate (Err why) row = row

  thrown_row : (to : ℕ) (from : Addr) (bytes : List ℕ) (answer : Result (Took A) Refused) → IsJunk t to (junk_arrival from bytes) (server_line node next answer) → MayCome t (events.Junk to from bytes) (server_line node next answer)
  thrown_row to from bytes (Ok (Accepted router key nonce reply)) row = row
  thrown_row to from bytes (Ok (NoticeDone router nonce)) row = row
  thrown_row to from bytes (Err why) row = row

-- something arrived at a Map-Server
module _ (A : Type 0) (old new : WorldState) (node : ℕ) (fate : Fate) (from : Addr) (bytes : List ℕ) (line : Line) (at : ArrivesAtServer A old new node fate from bytes line) (o : Opening) (T : List Step) (stand : Stands old o T) where
  -- what the store shows afterwards, the line, and the step
  abbrev now_shown : ShownStore
  now_shown = shown_by at.receives.called

  abbrev says : Line
  says = server_line node (length (bag o T)) at.answer

  abbrev step : EventValue → Line → Step
  step event said = record { event = event; line = said; actor = node; shown = now_shown }

  -- the store is used as the step shows
  uses : Shown-in fate at.receives.armed at.receives.called at.acts.after.store (shown_store o T node)
  uses = uses_shown at.acts.before.store at.receives.armed at.receives.called at.acts.after.store fate (shown_store o T node) (stand.steps.server_stores node at.acts.before at.acts.was) at.receives.uses

  -- the network stands for the trace with that step
  goes_on : (event : EventValue) → fate_of event ≡ fate → is_timeless event ≡ true → arrival_in (bag o T) event ≡ Some (junk_arrival from bytes)
      → (Arrives (context_of o T (step event says)) (junk_arrival from bytes) says → MayCome (context_of o T (step event says)) event says) → Stands new o (step event line ∷ T)
  goes_on event fated timeless arrives comes =
      let left = (received o T node (server_is old o T stand node at.acts.before at.acts.was) at.acts.before at.acts.after (stand.servers node at.acts.before at.acts.was) at.receives.started
      at.receives.armed at.receives.called uses.armed_shows event (λ obeys. uses.fated obeys ∙ sym fated) timeless (same_sites (bag o T) event (junk_arrival from bytes) arrives node (sites o T node)) from bytes stand.steps.legal (message_at bytes) at.answer arrives
      (subst (λ (now : ℕ). IfOk at.answer (λ took. ServerTakes (message_at bytes) from bytes at.acts.before.core at.acts.after.core at.receives.armed at.receives.called now took)) stand.bag.moment at.receives.taken)
      (subst (λ (now : ℕ). IfErr at.answer (λ why. ServerRefuses (message_at bytes) from bytes at.acts.before.core at.receives.armed at.receives.called now why)) stand.bag.moment at.receives.refused)
      at.receives.err at.receives.head) in
      subst (λ (said : Line). Stands new o (step event said ∷ T)) (sym (at.said ∙ ap (λ (next : ℕ). server_line node next at.answer) stand.bag.count))
      (server_acts old new node (replies (address_of old node) from at.answer) at.acts o T (step event says) stand refl timeless
      (record { faults = λ other. uses.count; obedient = uses.obedient; row = comes left.row })
      (subst (λ (home : Addr). Adds o T (step event says) (replies home from at.answer)) (sym (address_is old o T stand node)) left.adds)
      uses.after left.part)

-- a datagram was delivered to a Map-Server
pub deliver_to_server_stands : (A : Type 0) (old new : WorldState) (node : ℕ) (fate : Fate) (line : Line) (k : ℕ) (d : DatagramValue) → slice_get old.bag k ≡ Some d → node_with old d.to ≡ Some node
    → ArrivesAtServer A old new node fate d.from d.bytes line → StandsAfter old new (events.Deliver k fate) line
deliver_to_server_stands A old new node fate line k d there its at o T stand =
    let l = lies old o T stand k d there in
    let is = carries_arrival d l.item l.carries in
    let t : Context = record { opening = o; past = T; node = node; fate = fate; before = shown_store o T node; after = now_shown A old new node fate d.from d.bytes line at o T stand } in (
      node,
      now_shown A old new node fate d.from d.bytes line at o T stand,
      goes_on A old new node fate d.from d.bytes line at o T stand (events.Deliver k fate) refl refl (ap (option_map arrival_of) l.sent ∙ ap Some (sym is))
          (λ row. delivered_row t node (length (bag o T)) k fate at.answer
          (record { item = l.item; sent = l.sent; there = addressed old o T stand d l.item l.carries ∙ its; arrives = subst (λ (a : Arrival). Arrives t a (server_line node (length (bag o T)) at.answer)) is row })),
    )

-- bytes from outside came to a Map-Server
pub junk_to_server_stands : (A : Type 0) (old new : WorldState) (node : ℕ) (line : Line) (from : Addr) (bytes : List ℕ) → ArrivesAtServer A old new node Done from bytes line
    → StandsAfter old new (events.Junk node from bytes) line
junk_to_server_stands A old new node line from bytes at o T stand = (
  node,
  now_shown A old new node Done from bytes line at o T stand,
  goes_on A old new node Done from bytes line at o T stand (events.Junk node from bytes) refl refl refl
      (λ row. thrown_row _ node (length (bag o T)) node from bytes at.answer (record { acts = refl; arrives = row })),
)

-- the number behind all nodes is no node's
past_last : (b : Bool) → (b ≡ true → ⊥) → b ≡ false
past_last true never = absurd (never refl)
past_last false never = refl

abbrev pub nobody : ConfigValue → ℕ
nobody c = length c.servers + length c.routers

pub nobody_server : (c : ConfigValue) → is_server c (nobody c) ≡ false
nobody_server c = past_last (is_server c (nobody c)) (λ is. let low = ltb-true (nobody c) (length c.servers) is in absurd (omega (arith, low)))

pub nobody_router : (c : ConfigValue) → is_router c (nobody c) ≡ false
nobody_router c = past_last (is_router c (nobody c)) (λ is. let low = ltb-true (nobody c) (nobody c) (and_parts (nat_le (length c.servers) (nobody c)) (nat_lt (nobody c) (nobody c)) is).1 in absurd (omega (arith, low)))

-- a datagram was for no node
pub nowhere_stands : (old : WorldState) (fate : Fate) (k : ℕ) (d : DatagramValue) → slice_get old.bag k ≡ Some d → node_with old d.to ≡ None → StandsAfter old old (events.Deliver k fate) (lines.Nowhere k)
nowhere_stands old fate k d there none o T stand =
    let l = lies old o T stand k d there in
    let s : Step = record { event = events.Deliver k fate; line = lines.Nowhere k; actor = nobody o.config; shown = shown_store o T (nobody o.config) } in (
      nobody o.config,
      shown_store o T (nobody o.config),
      nobody_acts old o T s stand refl (nobody_server o.config) (nobody_router o.config)
          (record {
            faults = λ other. omega arith;
            obedient = refl;
            row = record {
              item = l.item;
              sent = l.sent;
              nobody = addressed old o T stand d l.item l.carries ∙ none;
              names = refl;
              idle = record { server = nobody_server o.config; router = nobody_router o.config; same = refl };
            };
          })
          (adds_none o T s refl),
    )
