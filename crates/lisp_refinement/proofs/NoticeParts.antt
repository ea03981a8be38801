-- The notices of Map-Servers: which are kept, and that a network stands for a trace with a notice that is sent, anew or again.
use Rattle.std.proofs.Common.{◌≡◌, ◌≢◌, ℕ, ◌+◌, Bool, true, false, cond, not, List, [], ◌∷◌, length, map, Option, Some, None, refl, sym, ap, subst, ◌∙◌, inl, inr, ◌++◌, suc, ◌<◌, slice_index_or, arith, zero, ◌≤◌, ◌^◌, Result, Ok, Err}
use Rattle.std.specs.Prelude.{◌⊎◌, slice_get, ◌-◌, IsTrue, IfOk, IfErr, OnErr}
use Rattle.std.specs.List.{find, AllPairs, Contains, filter, remove}
use Rattle.std.specs.Option.{option_map, option_and_then, option_to_list, unwrap_or}
use Rattle.lisp_records.specs.declared.router.RouterId.{RouterId}
use Rattle.lisp_records.specs.Router.{router_eq, router_cmp}
use Rattle.lisp_records.proofs.RouterLaws.{router_eq-Decides}
use Rattle.lisp_nonces.specs.declared.pair.Pair.{Pair}
use Rattle.lisp_admission.specs.Pairs.{notice_pair}
use Rattle.lisp_server.specs.LastNonces.{nonce_at}
use Rattle.lisp_server.specs.Server.{ServerState}
use Rattle.lisp_server.specs.Notices.{StandingNoticeValue, notice_at, is_due_at, is_due as standing_due, Resends, RefusesResend}
use Rattle.lisp_model.specs.Trace.{Step, Opening, router_at, is_router, sites, clock, shown_store, ShownStore}
use Rattle.lisp_model.specs.Held.{last_of, Acceptance, accepted_rows, rows, held_row, records_of, heard_last}
use Rattle.lisp_model.specs.Timers.{Notice, notice_to, last_notice, resent_at, notices_to_others, notices, is_due}
use Rattle.lisp_model.specs.Bag.{since_start, bag, Item, bytes_of, notice_item}
use Rattle.lisp_model.specs.Life.{began}
use Rattle.lisp_refinement.specs.World.{ServerNodeState, RouterNodeState, WorldState, DatagramValue}
use Rattle.lisp_refinement.specs.Stands.{IsStanding, SameNotice, StandsForServer, Stands, shown_by, Shows}
use Rattle.lisp_refinement.proofs.Acting.{router_is, router_stands, notice_goes, Adds, adds_none, adds_one, by_fate, Shown-in, uses_shown, server_is, address_is, server_acts}
use Rattle.std.specs.List.Sorted.{IsPermutation}
use Rattle.std.specs.Ordering.{ordering_then, ordering_reverse}
use Rattle.std.specs.declared.cmp.Ordering.{Ordering}
use Rattle.std.specs.declared.cmp.Ordering.TheVariants.{Less, Equal, Greater}
use Rattle.std.proofs.lemmas.Bool.{and_from, and_parts}
use Rattle.std.proofs.lemmas.Bool.Decides.{Decides-ltb}
use Rattle.std.proofs.lemmas.List.{length-map, get_or-map}
use Rattle.std.proofs.lemmas.List.Elements.{filter_passes}
use Rattle.std.proofs.lemmas.List.Kept.{AllPairs-filter}
use Rattle.std.proofs.lemmas.List.Sorted.{IsPermutation-refl, IsPermutation-sym, IsPermutation-trans, IsPermutation-cons, IsPermutation-map, IsPermutation-remove, Contains-permutation, length_permutation}
use Rattle.lisp_records.specs.Address.{PrefixValue, prefix_cmp}
use Rattle.lisp_records.specs.Record.{MapRecordValue}
use Rattle.lisp_records.specs.Row.{RowValue, is_alive}
use Rattle.lisp_records.proofs.RisingLaws.{one_rising_order}
use Rattle.lisp_lookup.specs.Table.{is_row_of, row_key, row_at, row_cmp, if_alive, OneEach}
use Rattle.lisp_lookup.specs.Records.{is_live_of, live_of, ByPrefix}
use Rattle.lisp_lookup.proofs.Orders.{key_cmp, key_total, router_total}
use Rattle.lisp_lookup.proofs.TableLaws.{differ_moved, found_own, found_holds, filtered_holds, filter_holds}
use Rattle.lisp_model.proofs.ListLemmas.{at_head, in_tail, head_or_tail, in_none}
use Rattle.lisp_model.proofs.RowLaws.{rows_are_held}
use Rattle.lisp_records.specs.declared.address.Addr.{Addr}
use Rattle.lisp_records.proofs.DatabaseLaws.{any_order}
use Rattle.lisp_messages.specs.declared.head.Head.{Head}
use Rattle.lisp_messages.specs.Authentic.{signed}
use Rattle.lisp_messages.specs.Head.{head_at}
use Rattle.lisp_messages.specs.Message.{IsMapNotify, Notifies, IsMessage}
use Rattle.lisp_messages.specs.Written.{written_notify}
use Rattle.lisp_nonces.specs.declared.fault.StoreFault.{StoreFault}
use Rattle.lisp_nonces.specs.declared.fate.Fate.{Fate}
use Rattle.lisp_nonces.specs.declared.fate.Fate.TheVariants.{Doubt, LoadFails}
use Rattle.lisp_nonces.specs.Kept.{Kept, kept_at, with_value, number, InDoubt}
use Rattle.lisp_nonces.specs.Store.{StoreState, Rose as StoreRose}
use Rattle.lisp_admission.specs.declared.notice_fault.NoticeFault.{NoticeFault}
use Rattle.lisp_admission.specs.declared.notice_fault.NoticeFault.TheVariants as notice_faults
use Rattle.lisp_admission.specs.Checks.{secret_at as known_secret}
use Rattle.lisp_admission.specs.Nonces.{nonce_after, KeepsLists, IsBase as IsStoreBase, HasCause as HasStoreCause}
use Rattle.lisp_server.specs.declared.contacts.Contact.{Contact}
use Rattle.lisp_server.specs.Contacts.{contact_at}
use Rattle.lisp_server.specs.Receiving.{contact_of}
use Rattle.lisp_server.specs.SendNotice.{IsRegistered, IsLast, notice_of, Announces, RefusesNotice as RefusesToTell}
use Rattle.lisp_model.specs.declared.event.Event.TheVariants as events
use Rattle.lisp_model.specs.declared.line.Line.{Line}
use Rattle.lisp_model.specs.declared.line.Line.TheVariants as lines
use Rattle.lisp_model.specs.declared.refusal.Refusal.TheVariants as refusals
use Rattle.lisp_model.specs.Context.{Context, IsAtServer, values, values_after, Same, Rose, HasCause, IsBase}
use Rattle.lisp_model.specs.Notifying.{CanNotify, NoticesFrom, HasNonce, RefusesNotice, RefusesToResend}
use Rattle.lisp_model.specs.Legal.{Legal, context_of}
use Rattle.lisp_model.proofs.KeptLemmas.{only_value}
use Rattle.lisp_model.proofs.Locality.{same_number}
use Rattle.lisp_refinement.specs.Events.{address_of, SaysMessage, SaysNoticeAnswer, NetworkNotifies as NoticeTurn, NodeResends, SaysResendAnswer, NetworkResends}
use Rattle.lisp_refinement.proofs.Heads.{head_written}
use Rattle.lisp_refinement.proofs.Asking.{kept_alive, was_alive, pairs_head, pairs_tail}
use Rattle.std.proofs.lemmas.Option.{slice_get_within, slice_get-get_or}
use Rattle.lisp_admission.specs.NoticeTimer.{due_after, gaps, has_come}
use Rattle.lisp_refinement.proofs.Gets.{get_before}

-- two routers are one, or they differ
same_or_other : (a b : RouterId) → (a ≡ b) ⊎ (a ≢ b)
same_or_other a b = by (router_eq a b) refl
  where
    by : (t : Bool) → router_eq a b ≡ t → (a ≡ b) ⊎ (a ≢ b)
    by true is = inl ((router_eq-Decides a b).0 is)
    by false is = inr (λ same. (let clash : true ≡ false = sym ((router_eq-Decides a b).1 same) ∙ is in cc))

-- what holds of a router, and of each other one, holds of each
pub each_router : (P : RouterId → Type 0) (me : RouterId) → P me → ((other : RouterId) → other ≢ me → P other) → (router : RouterId) → P router
each_router P me own others router = by (same_or_other router me)
  where
    by : (router ≡ me) ⊎ (router ≢ me) → P router
    by (inl same) = subst P (sym same) own
    by (inr differ) = others router differ

-- a router is itself
pub router_itself : (a : RouterId) → router_eq a a ≡ true
router_itself a = (router_eq-Decides a a).1 refl

-- and no other
pub router_other : (a b : RouterId) → a ≢ b → router_eq a b ≡ false
router_other a b differ = by (router_eq a b) refl
  where
    by : (t : Bool) → router_eq a b ≡ t → t ≡ false
    by true is = absurd (differ ((router_eq-Decides a b).0 is))
    by false is = refl

-- the notice to a router, in a list
abbrev pub found : RouterId → List Notice → Option Notice
found router notices = find (λ n. router_eq n.router router) notices

-- it is that router's
pub its_router : (router : RouterId) (notices : List Notice) (n : Notice) → found router notices ≡ Some n → n.router ≡ router
its_router router [] n is = absurd (let clash : ◌≡◌ {A = Option Notice} None (Some n) = is in cc)
its_router router (x ∷ xs) n is = by (router_eq x.router router) refl is (its_router router xs n)
  where
    by : (t : Bool) → router_eq x.router router ≡ t → cond t (Some x) (found router xs) ≡ Some n → (found router xs ≡ Some n → n.router ≡ router) → n.router ≡ router
    by true own at later = (let same : x ≡ n = cc in ap (λ (y : Notice). y.router) (sym same) ∙ (router_eq-Decides x.router router).0 own)
    by false other at later = later at

-- a notice that was sent again is still its router's
pub again_router : (me : RouterId) (now : ℕ) (x : Notice) → (resent_at me now x).router ≡ x.router
again_router me now x = by (router_eq x.router me)
  where
    by : (t : Bool) → (cond t (record x { moments = now ∷ x.moments }) x).router ≡ x.router
    by true = refl
    by false = refl

-- what is found after a notice was sent again
pub found_again : (me router : RouterId) (now : ℕ) (notices : List Notice) → found router (map (resent_at me now) notices) ≡ option_map (resent_at me now) (found router notices)
found_again me router now [] = refl
found_again me router now (x ∷ xs) = by (router_eq x.router router) (ap (λ (r : RouterId). router_eq r router) (again_router me now x)) (found_again me router now xs)
  where
    by : (t : Bool) → router_eq (resent_at me now x).router router ≡ t → found router (map (resent_at me now) xs) ≡ option_map (resent_at me now) (found router xs)
        → cond (router_eq (resent_at me now x).router router) (Some (resent_at me now x)) (found router (map (resent_at me now) xs)) ≡ option_map (resent_at me now) (cond t (Some x) (found router xs))
    by true is rest = ap (λ (t : Bool). cond t (Some (resent_at me now x)) (found router (map (resent_at me now) xs))) is
    by false is rest = ap (λ (t : Bool). cond t (Some (resent_at me now x)) (found router (map (resent_at me now) xs))) is ∙ rest

-- another router's notice is found among those that aren't one router's
pub found_without : (me router : RouterId) (notices : List Notice) → router ≢ me → found router (notices_to_others me notices) ≡ found router notices
found_without me router [] differ = refl
found_without me router (x ∷ xs) differ = by (router_eq x.router me) refl (found_without me router xs differ)
  where
    by : (t : Bool) → router_eq x.router me ≡ t → found router (notices_to_others me xs) ≡ found router xs → found router (cond (not t) (x ∷ notices_to_others me xs) (notices_to_others me xs)) ≡ cond (router_eq x.router router) (Some x) (found router xs)
    by true is rest =
        let own : x.router ≡ me = (router_eq-Decides x.router me).0 is in
        rest ∙ ap (λ (t : Bool). cond t (Some x) (found router xs)) (sym (router_other x.router router (λ same. differ (sym same ∙ own))))
    by false is rest = ap (λ (o : Option Notice). cond (router_eq x.router router) (Some x) o) rest

-- the notice of the trace where the server keeps one
pub kept_stands : (o : Opening) (T : List Step) (server : ℕ) (n : Option Notice) (k : Option StandingNoticeValue) (kept : StandingNoticeValue) → SameNotice o T server n k → k ≡ Some kept → (x : Notice) × (n ≡ Some x) × IsStanding o T server x kept
kept_stands o T server (Some n) (Some k) kept is same = (n, refl, (let own : k ≡ kept = cc in subst (λ (y : StandingNoticeValue). IsStanding o T server n y) own is))
kept_stands o T server None None kept is same = absurd (let clash : ◌≡◌ {A = Option StandingNoticeValue} None (Some kept) = same in cc)
kept_stands o T server _ _ kept is same = absurd is

-- a notice that was sent again
pub sent_again_own : (router : RouterId) (now : ℕ) (n : Notice) → n.router ≡ router → resent_at router now n ≡ record n { moments = now ∷ n.moments }
sent_again_own router now n own = ap (λ (t : Bool). cond t (record n { moments = now ∷ n.moments }) n) (ap (λ (r : RouterId). router_eq r router) own ∙ router_itself router)

-- another router's notice isn't sent again
pub others_again : (me router : RouterId) (now : ℕ) (notices : List Notice) → router ≢ me → found router (map (resent_at me now) notices) ≡ found router notices
others_again me router now notices differ = found_again me router now notices ∙ by (found router notices) (its_router router notices)
  where
    by : (n : Option Notice) → ((x : Notice) → n ≡ Some x → x.router ≡ router) → option_map (resent_at me now) n ≡ n
    by None its = refl
    by (Some x) its = ap Some (
        (ap (λ (t : Bool). cond t (record x { moments = now ∷ x.moments }) x) (router_other x.router me (λ same. differ (sym (its x refl) ∙ same)))))

-- a Map-Server whose sites, rows and contacts stay, in a step that accepts nothing
module _ (o : Opening) (T : List Step) (s : Step) (server : ℕ) (n m : ServerNodeState) (stand : StandsForServer o T server n) (time : clock (s ∷ T) ≡ clock T) (quiet : since_start o (s ∷ T) server ≡ since_start o T server) (has : sites o (s ∷ T) server ≡ sites o T server)
    (core : m.core ≡ record n.core { nonces = m.core.nonces; notices = m.core.notices }) where
  -- with its nonces, its notices and the moment at which its life began it stands for the trace with the step
  pub part_after : m.started ≡ began (s ∷ T) server → ((pair : Pair) → pair ≢ notice_pair → nonce_at m.core.nonces pair ≡ nonce_at n.core.nonces pair) → nonce_at m.core.nonces notice_pair ≡ last_notice (s ∷ T) server
      → ((router : RouterId) → SameNotice o (s ∷ T) server (notice_to o (s ∷ T) server router) (notice_at m.core.notices router)) → StandsForServer o (s ∷ T) server m
  part_after started nonces notice_nonce notices = record {
    sites = ap (λ (c : ServerState). c.sites) core ∙ stand.sites ∙ sym has;
    rows = λ router eid. rw (time, quiet, ap (λ (c : ServerState). c.rows) core) (stand.rows router eid);
    nonces = λ pair differ. nonces pair differ ∙ stand.nonces pair differ ∙ ap (last_of pair) (sym quiet);
    notice_nonce = notice_nonce;
    contacts = λ router eid h is. rw (quiet, ap (λ (c : ServerState). c.contacts) core) (stand.contacts router eid h (rw (time, quiet) at is));
    notices = notices;
    started = started;
  }

-- one whose nonces stay too
pub part_stays : (o : Opening) (T : List Step) (s : Step) (server : ℕ) (n m : ServerNodeState) → StandsForServer o T server n → clock (s ∷ T) ≡ clock T → since_start o (s ∷ T) server ≡ since_start o T server → sites o (s ∷ T) server ≡ sites o T server
    → m.core ≡ record n.core { notices = m.core.notices } → m.started ≡ n.started → began (s ∷ T) server ≡ began T server → last_notice (s ∷ T) server ≡ last_notice T server
    → ((router : RouterId) → SameNotice o (s ∷ T) server (notice_to o (s ∷ T) server router) (notice_at m.core.notices router)) → StandsForServer o (s ∷ T) server m
part_stays o T s server n m stand time quiet has rest lives life last = part_after o T s server n m stand time quiet has
    (rest ∙ ap (λ nonces. record n.core { nonces = nonces; notices = m.core.notices }) (sym (ap (λ (c : ServerState). c.nonces) rest))) (lives ∙ stand.started ∙ sym life)
    (λ pair differ. ap (λ (c : ServerState). nonce_at c.nonces pair) rest) (ap (λ (c : ServerState). nonce_at c.nonces notice_pair) rest ∙ stand.notice_nonce ∙ sym last)

-- and one whose notices stay
pub part_idle : (o : Opening) (T : List Step) (s : Step) (server : ℕ) (n m : ServerNodeState) → StandsForServer o T server n → clock (s ∷ T) ≡ clock T → since_start o (s ∷ T) server ≡ since_start o T server → sites o (s ∷ T) server ≡ sites o T server
    → m.core ≡ n.core → m.started ≡ n.started → began (s ∷ T) server ≡ began T server → last_notice (s ∷ T) server ≡ last_notice T server → notices o (s ∷ T) server ≡ notices o T server
    → bag o (s ∷ T) ≡ bag o T ++ [] → StandsForServer o (s ∷ T) server m
part_idle o T s server n m stand time quiet has core lives life last same grown =
    part_stays o T s server n m stand time quiet has (ap (λ (c : ServerState). record c { notices = m.core.notices }) core) lives life last
    (λ router. subst (λ (p : List Notice × ServerState). SameNotice o (s ∷ T) server (found router p.0) (notice_at p.1.notices router)) {x = (notices o T server, n.core)} {y = (notices o (s ∷ T) server, m.core)} (λ i. (sym same i, sym core i))
    (notice_goes o T (s ∷ T) server ([], grown) (notice_to o T server router) (notice_at n.core.notices router) (stand.notices router)))

-- the router that a turn names by its number among all nodes
module _ (w : WorldState) (o : Opening) (T : List Step) (stand : Stands w o T) (router place : ℕ) (number : router ≡ length w.servers + place) (node : RouterNodeState) (there : slice_get w.routers place ≡ Some node) where
  -- it is the one that the configuration has at that number
  pub its_me : node.me ≡ (router_at o.config router).me
  its_me = (router_stands w o T stand place node there).me ∙ ap (λ (k : ℕ). (router_at o.config k).me) (sym number)

  -- the number is a router's
  pub known_router : is_router o.config router ≡ true
  known_router = ap (is_router o.config) number ∙ router_is w o T stand place node there

-- The records that a Map-Server can tell a router are those that the trace says are held of it.

-- lists of distinct keys with the same elements have them in some order
module _ {X K : Type 0} (key : X → K) where
  abbrev Differ : List X → Type 0
  Differ xs = AllPairs (λ a b. key a ≢ key b) xs

  abbrev Within : List X → List X → Type 0
  Within xs ys = (z : X) → Contains xs z → Contains ys z

  -- without its head
  rest_within : (x : X) (xs ys : List X) → Differ (x ∷ xs) → Within (x ∷ xs) (x ∷ ys) → Within xs ys
  rest_within x xs ys differ within z has = by (head_or_tail x ys z (within z (in_tail x xs z has)))
    where
      by : (z ≡ x) ⊎ Contains ys z → Contains ys z
      by (inl same) = absurd (pairs_head (λ a b. key a ≢ key b) x xs differ z has (ap key (sym same)))
      by (inr more) = more

  -- the first list is an order of the second
  pub some_order : (xs ys : List X) → Differ xs → Differ ys → Within xs ys → Within ys xs → IsPermutation xs ys
  some_order [] [] differ others there back = IsPermutation-refl []
  some_order [] (y ∷ ys) differ others there back = absurd (in_none y (back y (at_head y ys)))
  some_order (x ∷ xs) ys differ others there back =
      let at : Contains ys x = there x (at_head x xs) in
      let left : List X = remove ys at.0 in
      let moved : IsPermutation ys (x ∷ left) = IsPermutation-remove ys at.0 x at.1 (sym at.2) in
      let back_moved = IsPermutation-sym ys (x ∷ left) moved in
      let apart : Differ (x ∷ left) = differ_moved key ys (x ∷ left) moved others in
      let forth : Within (x ∷ xs) (x ∷ left) = λ z has. Contains-permutation ys (x ∷ left) z moved (there z has) in
      let again : Within (x ∷ left) (x ∷ xs) = λ z has. back z (Contains-permutation (x ∷ left) ys z back_moved has) in
      let rest = some_order xs left (pairs_tail (λ a b. key a ≢ key b) x xs differ) (pairs_tail (λ a b. key a ≢ key b) x left apart) (rest_within x xs left differ forth) (rest_within x left xs apart again) in
      IsPermutation-trans (x ∷ xs) (x ∷ left) ys (IsPermutation-cons x xs left rest) back_moved

-- an answer of an order that is the same turned round isn't 'before'
not_before_itself : (o : Ordering) → o ≡ ordering_reverse o → o ≢ Less
not_before_itself Less turned is = absurd cc
not_before_itself _ turned is = absurd cc

-- it is a tie
tied : (o : Ordering) → o ≡ ordering_reverse o → o ≡ Equal
tied Less turned = absurd cc
tied Equal turned = refl
tied Greater turned = absurd cc

-- their records rise too
mapped_rise : (hs : List RowValue) → ((i j : ℕ) (d : RowValue) → i < j → j < length hs → prefix_cmp (slice_index_or hs i d).mapping.eid (slice_index_or hs j d).mapping.eid ≡ Less) → AllPairs (λ a b. prefix_cmp a.eid b.eid ≡ Less) (map (λ h. h.mapping) hs)
mapped_rise [] rise = λ i j d before lt. absurd (omega (arith, lt))
mapped_rise (x ∷ xs) rise = λ i j d before lt. (
    let hs : List RowValue = x ∷ xs in
    let within : j < length hs = omega (arith, lt, length-map hs (λ (h : RowValue). h.mapping)) in
    let its = λ (k : ℕ) (lt : k < length hs). ap (λ (m : MapRecordValue). m.eid) (get_or-map (λ h. h.mapping) hs k x d lt) in
    (λ t. prefix_cmp (its i (omega (arith, before, within)) t) (its j within t)) ∙ rise i j x before within)

-- a list that isn't empty has a first one
first_of : {X : Type 0} (xs : List X) → xs ≢ [] → (x : X) × Contains xs x
first_of [] some = absurd (some refl)
first_of (x ∷ xs) some = (x, at_head x xs)

-- a list with no length is empty
no_length : {X : Type 0} (xs : List X) → length xs ≡ 0 → xs ≡ []
no_length [] is = refl
no_length (x ∷ xs) is = absurd (omega (arith, is))

module _ (table : List RowValue) (since : List Acceptance) (now : ℕ) (one : OneEach table) (stands : (router : RouterId) (eid : PrefixValue) → option_and_then (if_alive now) (row_at table router eid) ≡ held_row since router eid now) (router : RouterId) where
  -- the router's rows, in the table and in the trace
  abbrev live : List RowValue
  live = filter (is_live_of router now) table

  abbrev own : RowValue → Bool
  own h = router_eq h.router router

  abbrev told : List RowValue
  told = filter own (rows since now)

  -- a live row of the router is held
  pub live_held : (h : RowValue) → Contains live h → (h.router ≡ router) × (held_row since h.router h.mapping.eid now ≡ Some h)
  live_held h has =
      let was = filtered_holds (is_live_of router now) table h has in
      let passes = and_parts (own h) (is_alive h now) was.1 in
      ((router_eq-Decides h.router router).0 passes.0, sym (stands h.router h.mapping.eid) ∙ kept_alive now (row_at table h.router h.mapping.eid) h (found_own table h one was.0, (Decides-ltb (now - h.accepted) h.life).0 passes.1))

  -- it is listed in the trace
  live_told : (h : RowValue) → Contains live h → Contains told h
  unfolding row_at
  live_told h has =
      let is = live_held h has in
      filter_holds own (rows since now) h (((rows_are_held since now).each h).1 (was_alive now (row_at (accepted_rows since) h.router h.mapping.eid) h is.1)) ((router_eq-Decides h.router router).1 is.0)

  -- what the trace lists is a live row
  told_live : (h : RowValue) → Contains told h → Contains live h
  unfolding row_at
  told_live h has =
      let was = filtered_holds own (rows since now) h has in
      let is_held = kept_alive now (row_at (accepted_rows since) h.router h.mapping.eid) h (((rows_are_held since now).each h).0 was.0) in
      let at = was_alive now (row_at table h.router h.mapping.eid) h (stands h.router h.mapping.eid ∙ is_held) in
      filter_holds (is_live_of router now) table h (found_holds (is_row_of h.router h.mapping.eid) table h at.0).0 (and_from (own h) (is_alive h now) was.1 ((Decides-ltb (now - h.accepted) h.life).1 at.1))

  -- the rows of the trace rise
  told_rise : AllPairs (λ a b. row_cmp a b ≡ Less) told
  told_rise = AllPairs-filter (λ a b. row_cmp a b ≡ Less) own (rows since now) (rows_are_held since now).rising

  -- so no two are of one router and prefix
  told_differ : AllPairs (λ a b. row_key a ≢ row_key b) told
  told_differ i j d before lt same =
      let a = slice_index_or told i d in
      let b = slice_index_or told j d in
      not_before_itself (key_cmp (row_key a) (row_key a)) (key_total.antisymm (row_key a) (row_key a)) (ap (key_cmp (row_key a)) same ∙ told_rise i j d before lt)

  -- the records are the same, in some order
  pub same_records : IsPermutation (live_of table router now) (records_of since router now)
  same_records = IsPermutation-map (λ (h : RowValue). h.mapping) live told (some_order row_key live told (AllPairs-filter (λ a b. row_key a ≢ row_key b) (is_live_of router now) table one) told_differ live_told told_live)

  -- all are the router's
  their_router : (i : ℕ) (d : RowValue) → i < length told → (slice_index_or told i d).router ≡ router
  their_router i d lt = (router_eq-Decides (slice_index_or told i d).router router).0 (filter_passes own (rows since now) i d lt)

  -- the records that are told, by prefix, are those of the trace
  told_is : (records : List MapRecordValue) → ByPrefix (live_of table router now) records → records ≡ records_of since router now
  told_is records by_prefix = one_rising_order records (records_of since router now) (IsPermutation-trans records (live_of table router now) (records_of since router now) (IsPermutation-sym (live_of table router now) records by_prefix.same) same_records) by_prefix.rising (mapped_rise told
      (λ i j d before lt.
      let a = slice_index_or told i d in
      let b = slice_index_or told j d in
      let routers : router_cmp a.router b.router ≡ Equal = ap (λ (r : RouterId). router_cmp r b.router) (their_router i d (omega (arith, before, lt)) ∙ sym (their_router j d lt)) ∙ tied (router_cmp b.router b.router) (router_total.antisymm b.router b.router) in
      sym (ap (λ (o : Ordering). ordering_then o (prefix_cmp a.mapping.eid b.mapping.eid)) routers) ∙ told_rise i j d before lt))

  -- there are some, or none, in both
  none_told : live_of table router now ≡ [] → records_of since router now ≡ []
  none_told none = no_length (records_of since router now) (length_permutation (live_of table router now) (records_of since router now) same_records ∙ ap length none)

  pub some_told : live_of table router now ≢ [] → records_of since router now ≢ []
  some_told some none = some (no_length (live_of table router now) (sym (length_permutation (live_of table router now) (records_of since router now) same_records) ∙ ap length none))

  -- a router with live records has a row that is held
  row_held : live_of table router now ≢ [] → (eid : PrefixValue) × (h : RowValue) × (held_row since router eid now ≡ Some h)
  row_held some =
      let one = first_of live (λ none. some (ap (map (λ (h : RowValue). h.mapping)) none)) in
      let is = live_held one.0 one.1 in
      (one.0.mapping.eid, one.0, subst (λ (r : RouterId). held_row since r one.0.mapping.eid now ≡ Some one.0) is.0 is.1)

-- A Map-Server sends a router a notice.

-- the last of a list
at_end : {X : Type 0} (xs : List X) (x : X) (k : ℕ) → k ≡ length xs → slice_get (xs ++ x ∷ []) k ≡ Some x
at_end [] x zero is = refl
at_end [] x (suc k) is = absurd (omega (arith, is))
at_end (y ∷ ys) x zero is = absurd (omega (arith, is))
at_end (y ∷ ys) x (suc k) is = at_end ys x k (omega (arith, is))

module _ (old new : WorldState) (server router : ℕ) (fate : Fate) (line : Line) (turn : NoticeTurn old new server router fate line) (o : Opening) (T : List Step) (stand : Stands old o T) where
  -- the router that is told; the moment; the Map-Server before and after; its store armed, and after the call
  abbrev me : RouterId
  me = (router_at o.config router).me

  abbrev now : ℕ
  now = clock T

  abbrev core : ServerState
  core = turn.acts.before.core

  abbrev after : ServerState
  after = turn.acts.after.core

  abbrev armed : StoreState
  armed = turn.notifies.armed

  abbrev called : StoreState
  called = turn.notifies.called

  -- the step, by its line
  abbrev step : Line → Step
  step said = record { event = events.Notice server router fate; line = said; actor = server; shown = shown_by called }

  -- the turn is the Map-Server's
  acting : (said : Line) → IsAtServer (context_of o T (step said)) server
  acting said = record { kind = server_is old o T stand server turn.acts.before turn.acts.was; acts = refl }

  -- what the Map-Server stands for before
  part : StandsForServer o T server turn.acts.before
  part = stand.servers server turn.acts.before turn.acts.was

  -- no time passes
  time : (said : Line) → clock (step said ∷ T) ≡ clock T
  time said = omega arith

  -- what its store shows in the call
  shows : Shown-in fate armed called turn.acts.after.store (shown_store o T server)
  shows = uses_shown turn.acts.before.store armed called turn.acts.after.store fate (shown_store o T server) (stand.steps.server_stores server turn.acts.before turn.acts.was) turn.notifies.uses

  -- what is said of the fate that an obedient store was armed with
  by : (P : Fate → Type 0) → (IsTrue armed.is_obedient → P armed.fate) → IsTrue (shown_store o T server).is_obedient → P fate
  by P said = by_fate P fate armed (shown_store o T server) shows.armed_shows shows.fated said

  -- the last nonce of the notices is in memory, or was loaded
  loads_in : (last : Option ℕ) → IsLast core armed last → last_notice T server ≡ None → IsTrue (shown_store o T server).is_obedient → fate ≢ LoadFails
  loads_in last counts none = by (λ f. f ≢ LoadFails) (subst (λ (known : Option ℕ). IsStoreBase known armed notice_pair last) (part.notice_nonce ∙ none) counts).0

  -- the store that is used is honest
  is_honest : IsTrue armed.is_honest
  is_honest = shows.armed_shows.honest

  -- the table, and what the trace says is held
  told_records : IsPermutation (live_of core.rows me now) (records_of (since_start o T server) me now)
  told_records = same_records core.rows (since_start o T server) now turn.notifies.one_each part.rows me

  -- a router that is registered can be told in the trace too
  can_tell : (said : Line) → IsRegistered core me now → CanNotify (context_of o T (step said)) router
  can_tell said registered = record {
    some = some_told core.rows (since_start o T server) now turn.notifies.one_each part.rows me registered.some;
    fits = any_order (live_of core.rows me now) (records_of (since_start o T server) me now) told_records ∙ registered.fits;
  }

  -- where the router was heard last
  heard : (contact : Contact) → IsRegistered core me now → contact_at core.contacts me ≡ Some contact → (last : Acceptance) × (heard_last me (since_start o T server) ≡ Some last) × (contact_of last.message last.from ≡ contact)
  heard contact registered is =
      let row = row_held core.rows (since_start o T server) now turn.notifies.one_each part.rows me registered.some in
      by (heard_last me (since_start o T server)) refl (sym (part.contacts me row.0 row.1 row.2) ∙ is)
    where
      by : (last : Option Acceptance) → heard_last me (since_start o T server) ≡ last → option_map (λ a. contact_of a.message a.from) last ≡ Some contact → (last : Acceptance) × (heard_last me (since_start o T server) ≡ Some last) × (contact_of last.message last.from ≡ contact)
      by None at same = absurd (let clash : ◌≡◌ {A = Option Contact} None (Some contact) = same in cc)
      by (Some last) at same = (last, at, (let own : contact_of last.message last.from ≡ contact = cc in own))

  -- the numbers that the nonce may count from
  counts_from : (said : Line) (last : Option ℕ) → IsLast core armed last → NoticesFrom (context_of o T (step said)) last
  counts_from said last counts = by (last_notice T server) (subst (λ (known : Option ℕ). IsStoreBase known armed notice_pair last) part.notice_nonce counts)
    where
      by : (known : Option ℕ) → IsStoreBase known armed notice_pair last → IsBase known (kept_at (shown_store o T server).kept notice_pair) last
      by (Some n) is = is
      by None is = subst (λ (kept : Kept). Contains (kept_at kept notice_pair) last) shows.armed_shows.kept (is.1 is_honest)

  -- a notice goes out
  module _ (to : Addr) (bytes : List ℕ) (announced : Announces core after armed called me now to bytes) where
    -- where and how the router was heard; the nonce, and the line
    abbrev contact : Contact
    contact = announced.registered.heard.contact

    abbrev nonce : ℕ
    nonce = nonce_after announced.last

    abbrev sent : Line
    sent = lines.Notice server router contact.key nonce (length old.bag)

    -- the router's last Map-Register, by which it was heard
    last : (last : Acceptance) × (heard_last me (since_start o T server) ≡ Some last) × (contact_of last.message last.from ≡ contact)
    last = heard contact announced.registered announced.registered.heard.heard

    -- the step is legal
    sent_legal : Legal o T (step sent)
    sent_legal = record {
      faults = λ other. shows.count;
      obedient = shows.obedient;
      row = (
        refl,
        refl,
        record {
          acts = acting sent;
          kind = known_router old o T stand router turn.place turn.number turn.node turn.there;
          tells = can_tell sent announced.registered;
          last = last.0;
          heard = last.1;
          under = ap (λ (c : Contact). c.key) (sym last.2);
          base = announced.last;
          counts = counts_from sent announced.last announced.counts;
          loads = loads_in announced.last announced.counts;
          next = refl;
          bound = announced.fits.nonce;
          place = stand.bag.count;
          saves = record {
            here = inr ((announced.kept is_honest), by (λ f. f ≢ Doubt) announced.saves);
            none_below = λ v has. subst (λ (w : Option ℕ). nonce ≤ number w) (sym (only_value (Some nonce) v (subst (λ (vs : List (Option ℕ)). Contains vs v) (announced.kept is_honest) has))) (omega arith);
            others = λ q differ. announced.others is_honest q differ ∙ ap (λ (kept : Kept). kept_at kept q) shows.armed_shows.kept;
          };
        },
      );
    }

    -- the item that carries it
    abbrev item : Item
    item = notice_item o T (since_start o T server) server router contact.key nonce last.0

    -- the bag has that item more
    sent_bag : bag o (step sent ∷ T) ≡ bag o T ++ item ∷ []
    sent_bag = ap (λ (a : Option Acceptance). bag o T ++ option_to_list (option_map (notice_item o T (since_start o T server) server router contact.key nonce) a)) last.1

    -- the records are those that the trace says are held
    its_records : announced.records ≡ records_of (since_start o T server) me now
    its_records = told_is core.rows (since_start o T server) now turn.notifies.one_each part.rows me announced.records announced.by_prefix

    -- the datagram is the item's
    its_bytes : bytes ≡ bytes_of item
    unfolding bytes_of
    its_bytes = announced.datagram ∙ (λ i. signed (
        (ap (λ (s : Option (List ℕ)). unwrap_or s []) (sym announced.registered.heard.signs) ∙ ap (λ sites. unwrap_or (known_secret sites me.site contact.key) []) part.sites)
        i) (written_notify (notice_of contact.key nonce (its_records i))))

    -- it goes to where the router was heard last
    its_to : to ≡ last.0.from
    its_to = announced.address ∙ ap (λ (c : Contact). c.from) (sym last.2)

    -- the notice as it stands on both sides
    abbrev notice : Notice
    notice = record { router = me; key = contact.key; nonce = nonce; datagram = length old.bag; moments = now ∷ [] }

    -- what the trace has for a router afterwards
    after_is : (other : RouterId) → notice_to o (step sent ∷ T) server other ≡ found other (notice ∷ notices_to_others me (notices o T server))
    after_is other = ap (λ (b : Bool). found other (cond b (notice ∷ notices_to_others me (notices o T server)) (notices o T server))) (same_number server)

    -- so each router's does
    each_notice : (other : RouterId) → SameNotice o (step sent ∷ T) server (notice_to o (step sent ∷ T) server other) (notice_at after.notices other)
    each_notice = each_router (λ r. SameNotice o (step sent ∷ T) server (notice_to o (step sent ∷ T) server r) (notice_at after.notices r)) me (
        let here = after_is me ∙ ap (λ (b : Bool). cond b (Some notice) (found me (notices_to_others me (notices o T server)))) (router_itself me) in
        rw (here, announced.stands.here) (record {
          router = refl;
          key = refl;
          nonce = refl;
          item = item;
          sent = ap (λ (items : List Item). slice_get items (length old.bag)) sent_bag ∙ at_end (bag o T) item (length old.bag) stand.bag.count;
          from = refl;
          to = its_to;
          bytes = its_bytes;
          earlier = [];
          moments = refl;
          resends = refl;
        }))
        (λ other differ.
        let here = after_is other ∙ ap (λ (b : Bool). cond b (Some notice) (found other (notices_to_others me (notices o T server)))) (router_other me other (λ same. differ (sym same))) ∙ found_without me other (notices o T server) differ in
        rw (here, announced.stands.others other differ) (notice_goes o T (step sent ∷ T) server ((item ∷ []), sent_bag) (notice_to o T server other) (notice_at core.notices other) (part.notices other)))

    -- its line has the Key ID and the nonce that stand in the datagram
    its_head : (head : Head) → head_at bytes ≡ Some head → head ≡ record { key_id = contact.key; nonce = nonce }
    its_head head read =
        let wrote = ap head_at announced.datagram ∙ head_written announced.registered.heard.secret (Notifies (notice_of contact.key nonce announced.records)) announced.fits in
        let both : ◌≡◌ {A = Option Head} (Some head) (Some (record { key_id = contact.key; nonce = nonce })) = sym read ∙ wrote in
        cc

    -- the network stands for the trace with the step and the line that was said
    noticed_stands : SaysMessage old server to bytes (λ key nonce. lines.Notice server router key nonce (length old.bag)) line turn.more
        → Stands new o (step line ∷ T)
    noticed_stands says =
        let head = its_head says.head says.read in
        let said : line ≡ sent = says.said ∙ ap (λ (h : Head). lines.Notice server router h.key_id h.nonce (length old.bag)) head in
        subst (λ (l : Line). Stands new o (step l ∷ T)) (sym said) (
        (server_acts old new server turn.more turn.acts o T (step sent) stand refl refl sent_legal (subst (λ (more : List DatagramValue). Adds o T (step sent) more) (sym says.posts)
        (adds_one o T (step sent) (record { from = address_of old server; to = to; bytes = bytes }) item sent_bag (record {
          from = address_is old o T stand server;
          to = its_to;
          bytes = its_bytes;
          message = subst (λ (records : List MapRecordValue). IsMapNotify (notice_of contact.key nonce records)) its_records announced.fits;
        }))) shows.after (part_after o T (step sent) server turn.acts.before turn.acts.after part (time sent) refl refl announced.rest (turn.notifies.started ∙ part.started)
        (λ pair differ. announced.nonces.others pair differ) (announced.nonces.here ∙ sym
        (ap (λ (b : Bool). cond b (Some nonce) (last_notice T server)) (same_number server))) each_notice)))

  -- none goes out
  module _ (fault : NoticeFault) (refuses : RefusesToTell core armed called me now fault) (same : after ≡ core) where
    -- the line, and the turn
    abbrev refused : Line
    refused = lines.Refused server (refusals.Notice fault)

    abbrev its_turn : Context
    its_turn = context_of o T (step refused)

    -- no list changed
    same_lists : KeepsLists armed called → Same its_turn
    same_lists keeps = keeps is_honest ∙ shows.armed_shows.kept

    -- nor where the store wasn't used
    same_store : called ≡ armed → Same its_turn
    same_store is = ap (λ (s : StoreState). s.kept) is ∙ shows.armed_shows.kept

    -- a device failed
    has_cause : (f : StoreFault) → HasStoreCause f armed called → HasCause its_turn f
    has_cause f cause other = by (cause other)
      where
        by : StoreRose armed called → Rose its_turn
        by (inl more) = inl (omega (arith, more, shows.armed_shows.faults))
        by (inr full) = inr full

    -- there was a next nonce
    has_nonce : (base : Option ℕ) → IsRegistered core me now → IsLast core armed base → (number base < 2 ^ 64 - 1) → HasNonce its_turn router base
    has_nonce base registered counts left = record { tells = can_tell refused registered; counts = counts_from refused base counts; loads = loads_in base counts; left = left }

    -- what the failed save leaves in doubt
    doubted : (n : ℕ) → InDoubt (kept_at armed.kept notice_pair) (kept_at called.kept notice_pair) n → InDoubt (values its_turn notice_pair) (values_after its_turn notice_pair) n
    doubted n is = subst (λ (kept : Kept). InDoubt (kept_at kept notice_pair) (kept_at called.kept notice_pair) n) shows.armed_shows.kept is

    -- the reason in the trace's words
    why : (f : NoticeFault) → RefusesToTell core armed called me now f → RefusesNotice its_turn router f
    why notice_faults.NotRegistered is = (none_told core.rows (since_start o T server) now turn.notifies.one_each part.rows me is.0, same_store is.1)
    why notice_faults.TooLarge is = (
      some_told core.rows (since_start o T server) now turn.notifies.one_each part.rows me (λ none. (absurd cc)),
      any_order (live_of core.rows me now) (records_of (since_start o T server) me now) told_records ∙ is.0,
      same_store is.1,
    )
    why (notice_faults.StoreLoad f) is = (can_tell refused is.registered, sym part.notice_nonce ∙ is.unknown, record { same = same_lists is.same; cause = has_cause f is.cause; may = λ other. by (λ x. x ≡ LoadFails) (is.armed other) })
    why notice_faults.NonceSpent is = (can_tell refused is.registered, Some (2 ^ 64 - 1), counts_from refused (Some (2 ^ 64 - 1)) is.spent, loads_in (Some (2 ^ 64 - 1)) is.spent, omega arith, same_lists is.same)
    why notice_faults.OutOfMemory is = (is.last, has_nonce is.last is.registered is.counts is.unspent, same_lists is.same)
    why (notice_faults.StoreSave f) is = (
      is.last,
      has_nonce is.last is.registered is.counts is.unspent,
      record {
        here = doubted (nonce_after is.last) (is.doubt is_honest);
        others = λ q differ. is.others is_honest q differ ∙ ap (λ (kept : Kept). kept_at kept q) shows.armed_shows.kept;
        memory = λ out. same_lists (is.memory out);
        sound = is.sound;
        cause = has_cause f is.cause;
        may = λ other. by (λ x. x ≡ Doubt) (is.doubted other).armed;
        doubted = λ other obeys. subst (λ (kept : Kept). kept_at called.kept notice_pair ≡ with_value (kept_at kept notice_pair) (nonce_after is.last)) shows.armed_shows.kept ((is.doubted other).keeps is_honest (subst (λ (b : Bool). IsTrue b) (sym shows.armed_shows.obedient) obeys));
      },
    )
    why notice_faults.NotDue is = absurd is

    -- and so does the network
    refused_stands : turn.more ≡ [] → Stands new o (step refused ∷ T)
    refused_stands posts = server_acts old new server turn.more turn.acts o T (step refused) stand refl refl
        (record { faults = λ other. shows.count; obedient = shows.obedient; row = (refl, acting refused, known_router old o T stand router turn.place turn.number turn.node turn.there, why fault refuses) })
        (subst (λ (more : List DatagramValue). Adds o T (step refused) more) (sym posts) (adds_none o T (step refused) refl)) shows.after
        (part_idle o T (step refused) server turn.acts.before turn.acts.after part (time refused) refl refl same turn.notifies.started refl refl refl refl)

  -- the notice was sent, or refused
  either : (answer : Result (Addr × List ℕ) NoticeFault) → IfOk answer (λ x. Announces core after armed called me now x.0 x.1) → IfErr answer (λ fault. RefusesToTell core armed called me now fault) → OnErr answer (after ≡ core)
      → SaysNoticeAnswer old server router answer line turn.more → Stands new o (step line ∷ T)
  either (Ok sending) announces refuses same says = noticed_stands sending.0 sending.1 announces says
  either (Err fault) announces refuses same says = subst (λ (said : Line). Stands new o (step said ∷ T)) (sym says.0) (refused_stands fault refuses same says.1)

  -- so the network stands for the trace with that step, by the router and the moment of the trace
  pub notice_stands : (actor : ℕ) × (s : ShownStore) × Stands new o (record { event = events.Notice server router fate; line = line; actor = actor; shown = s } ∷ T)
  notice_stands = (
    server,
    shown_by called,
    either turn.answer
        (subst (λ (x : RouterId × ℕ). IfOk turn.answer (λ y. Announces core after armed called x.0 x.1 y.0 y.1)) (λ i. (its_me old o T stand router turn.place turn.number turn.node turn.there i, stand.bag.moment i)) turn.notifies.announces)
        (subst (λ (x : RouterId × ℕ). IfErr turn.answer (λ fault. RefusesToTell core armed called x.0 x.1 fault)) (λ i. (its_me old o T stand router turn.place turn.number turn.node turn.there i, stand.bag.moment i)) turn.notifies.refused)
        turn.notifies.err turn.says,
  )

-- A Map-Server sends a notice again.

-- the trace's notice is due where the server's is
same_due : (o : Opening) (T : List Step) (server moment : ℕ) (n : Option Notice) (kept : Option StandingNoticeValue) → SameNotice o T server n kept → is_due n moment ≡ is_due_at moment kept
unfolding due_after
same_due o T server moment (Some n) (Some kept) is = ap (λ (moments : List ℕ). has_come moment (due_after moments)) is.moments ∙ ap (λ (k : ℕ). has_come moment (option_map (λ gap. kept.last + gap) (slice_get gaps k))) (sym is.resends)
same_due o T server moment None None is = refl
same_due o T server moment _ _ is = absurd is

module _ (old new : WorldState) (server router : ℕ) (line : Line) (turn : NetworkResends old new server router line) (o : Opening) (T : List Step) (stand : Stands old o T) where
  -- the router that is told again
  abbrev whom : RouterId
  whom = (router_at o.config router).me

  -- the step, by its line
  abbrev step_again : Line → Step
  step_again said = record { event = events.Resend server router; line = said; actor = server; shown = shown_store o T server }

  -- the turn is the Map-Server's
  acting_again : (said : Line) → IsAtServer (context_of o T (step_again said)) server
  acting_again said = record { kind = server_is old o T stand server turn.acts.before turn.acts.was; acts = refl }

  -- what the Map-Server stands for before
  part_before : StandsForServer o T server turn.acts.before
  part_before = stand.servers server turn.acts.before turn.acts.was

  -- no time passes
  time_again : (said : Line) → clock (step_again said ∷ T) ≡ clock T
  time_again said = omega arith

  -- the store isn't used
  shows_again : (said : Line) → Shows turn.acts.after.store (step_again said).shown
  shows_again said = subst (λ (n : ServerNodeState). Shows n.store (shown_store o T server)) (sym turn.rest) (stand.steps.server_stores server turn.acts.before turn.acts.was)

  -- it is sent again
  module _ (to : Addr) (bytes : List ℕ) (resends : Resends turn.acts.before.core.notices turn.acts.after.core.notices whom old.clock to bytes) where
    -- the line
    abbrev sent_again : Line
    sent_again = lines.Resent server router (length old.bag)

    -- the notice of the trace
    kept : (x : Notice) × (notice_to o T server whom ≡ Some x) × IsStanding o T server x resends.notice
    kept = kept_stands o T server (notice_to o T server whom) (notice_at turn.acts.before.core.notices whom) resends.notice (part_before.notices whom) resends.stood

    -- the item that carried it first
    its_item : slice_get (bag o T) kept.0.datagram ≡ Some kept.2.item
    its_item = kept.2.sent

    -- the bag has that item once more
    bag_again : bag o (step_again sent_again ∷ T) ≡ bag o T ++ kept.2.item ∷ []
    bag_again = ap (λ (n : Option Notice). bag o T ++ option_to_list (option_and_then (λ n. slice_get (bag o T) n.datagram) n)) kept.1 ∙ ap (λ (i : Option Item). bag o T ++ option_to_list i) its_item

    -- its message has a spelling, as it was sent before
    said_item : IsMessage kept.2.item.message
    said_item = (stand.bag.each kept.0.datagram (slice_index_or old.bag kept.0.datagram any) kept.2.item (slice_get-get_or old.bag kept.0.datagram any (omega (arith, stand.bag.count, slice_get_within (bag o T) kept.0.datagram kept.2.item its_item))) its_item).message
      where
        any : DatagramValue
        any = record { from = to; to = to; bytes = bytes }

    -- what the trace has for a router afterwards
    after_again : (other : RouterId) → notice_to o (step_again sent_again ∷ T) server other ≡ found other (map (resent_at whom (clock T)) (notices o T server))
    after_again other = ap (λ (b : Bool). found other (cond b (map (resent_at whom (clock T)) (notices o T server)) (notices o T server))) (same_number server)

    -- the notice is the router's
    own_router : kept.0.router ≡ whom
    own_router = its_router whom (notices o T server) kept.0 kept.1

    -- so each router's does
    each_again : (other : RouterId) → SameNotice o (step_again sent_again ∷ T) server (notice_to o (step_again sent_again ∷ T) server other) (notice_at turn.acts.after.core.notices other)
    each_again = each_router (λ r. SameNotice o (step_again sent_again ∷ T) server (notice_to o (step_again sent_again ∷ T) server r) (notice_at turn.acts.after.core.notices r)) whom (
        let here = after_again whom ∙ found_again whom whom (clock T) (notices o T server) ∙ ap (option_map (resent_at whom (clock T))) kept.1 ∙ ap Some (sent_again_own whom (clock T) kept.0 own_router) in
        let there = ap (notice_at turn.acts.after.core.notices) (sym (kept.2.router ∙ own_router)) ∙ resends.after.here in
        rw (here, there) (record {
          router = kept.2.router;
          key = kept.2.key;
          nonce = kept.2.nonce;
          item = kept.2.item;
          sent = ap (λ (items : List Item). slice_get items kept.0.datagram) bag_again ∙ get_before (bag o T) (kept.2.item ∷ []) kept.0.datagram kept.2.item its_item;
          from = kept.2.from;
          to = kept.2.to;
          bytes = kept.2.bytes;
          earlier = kept.0.moments;
          moments = ap (λ (now : ℕ). now ∷ kept.0.moments) (sym stand.bag.moment);
          resends = (let longer = ap length kept.2.moments in omega (arith, longer, kept.2.resends));
        }))
        (λ other differ.
        let here = after_again other ∙ others_again whom other (clock T) (notices o T server) differ in
        let there = resends.after.others other (λ same. differ (same ∙ kept.2.router ∙ own_router)) in
        rw (here, there) (notice_goes o T (step_again sent_again ∷ T) server ((kept.2.item ∷ []), bag_again) (notice_to o T server other) (notice_at turn.acts.before.core.notices other) (part_before.notices other)))

    -- and so does the network
    sent_stands : turn.more ≡ record { from = address_of old server; to = to; bytes = bytes } ∷ [] → Stands new o (step_again sent_again ∷ T)
    sent_stands posts = server_acts old new server turn.more turn.acts o T (step_again sent_again) stand refl refl (record {
      faults = λ other. omega arith;
      obedient = refl;
      row = (
        refl,
        refl,
        record {
          acts = acting_again sent_again;
          kind = known_router old o T stand router turn.place turn.number turn.node turn.there;
          due = same_due o T server (clock T) (notice_to o T server whom) (notice_at turn.acts.before.core.notices whom) (part_before.notices whom) ∙ ap (is_due_at (clock T)) resends.stood ∙ ap (λ (now : ℕ). standing_due now resends.notice) (sym stand.bag.moment) ∙ resends.due;
          place = stand.bag.count;
          same = refl;
        },
      );
    }) (subst (λ (more : List DatagramValue). Adds o T (step_again sent_again) more) (sym posts)
        (adds_one o T (step_again sent_again) (record { from = address_of old server; to = to; bytes = bytes }) kept.2.item bag_again (record {
          from = address_is old o T stand server ∙ sym kept.2.from;
          to = resends.address ∙ kept.2.to;
          bytes = resends.datagram ∙ kept.2.bytes;
          message = said_item;
        }))) (shows_again sent_again) (part_stays o T (step_again sent_again) server turn.acts.before turn.acts.after part_before (time_again sent_again) refl refl (ap (λ (n : ServerNodeState). n.core) turn.rest) (ap (λ (n : ServerNodeState). n.started) turn.rest) refl refl each_again)

  -- it isn't
  module _ (fault : NoticeFault) (refuses : RefusesResend turn.acts.before.core.notices whom old.clock fault) (same : turn.acts.after ≡ turn.acts.before) where
    -- the line
    abbrev kept_quiet : Line
    kept_quiet = lines.Refused server (refusals.Notice fault)

    -- the notice is due in the trace where the server's is
    was_due : is_due (notice_to o T server whom) (clock T) ≡ is_due_at old.clock (notice_at turn.acts.before.core.notices whom)
    was_due = same_due o T server (clock T) (notice_to o T server whom) (notice_at turn.acts.before.core.notices whom) (part_before.notices whom) ∙ ap (λ (now : ℕ). is_due_at now (notice_at turn.acts.before.core.notices whom)) (sym stand.bag.moment)

    -- the reason in the trace's words
    why_not : (f : NoticeFault) → RefusesResend turn.acts.before.core.notices whom old.clock f → RefusesToResend (context_of o T (step_again kept_quiet)) router f
    why_not notice_faults.NotDue is = (was_due ∙ is, refl)
    why_not notice_faults.OutOfMemory is = (was_due ∙ is, refl)
    why_not _ is = absurd is

    -- and so does the network
    quiet_stands : turn.more ≡ [] → Stands new o (step_again kept_quiet ∷ T)
    quiet_stands posts = server_acts old new server turn.more turn.acts o T (step_again kept_quiet) stand refl refl
        (record { faults = λ other. omega arith; obedient = refl; row = (refl, acting_again kept_quiet, known_router old o T stand router turn.place turn.number turn.node turn.there, why_not fault refuses) })
        (subst (λ (more : List DatagramValue). Adds o T (step_again kept_quiet) more) (sym posts) (adds_none o T (step_again kept_quiet) refl)) (shows_again kept_quiet)
        (part_idle o T (step_again kept_quiet) server turn.acts.before turn.acts.after part_before (time_again kept_quiet) refl refl (ap (λ (n : ServerNodeState). n.core) same) (ap (λ (n : ServerNodeState). n.started) same) refl refl refl refl)

  -- the notice was sent again, or not
  again_or_not : (answer : Result (Addr × List ℕ) NoticeFault) → NodeResends turn.acts.before turn.acts.after old.clock whom answer → SaysResendAnswer old server router answer line turn.more → Stands new o (step_again line ∷ T)
  again_or_not (Ok sending) resends says = subst (λ (said : Line). Stands new o (step_again said ∷ T)) (sym says.0) (sent_stands sending.0 sending.1 resends says.1)
  again_or_not (Err fault) refuses says = subst (λ (said : Line). Stands new o (step_again said ∷ T)) (sym says.0) (quiet_stands fault refuses.0 refuses.1 says.1)

  -- so the network stands for the trace with that step, by the router of the trace
  pub resend_stands : (actor : ℕ) × (s : ShownStore) × Stands new o (record { event = events.Resend server router; line = line; actor = actor; shown = s } ∷ T)
  resend_stands = (
    server,
    shown_store o T server,
    again_or_not turn.answer (subst (λ (r : RouterId). NodeResends turn.acts.before turn.acts.after old.clock r turn.answer) (its_me old o T stand router turn.place turn.number turn.node turn.there) turn.resends) turn.says,
  )
