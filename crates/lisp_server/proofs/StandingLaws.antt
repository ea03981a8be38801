-- Looking up, setting and ending the notices that stand, one for each router.
use Rattle.std.proofs.Common.{◌≡◌, ◌≢◌, ℕ, ◌+◌, ◌<◌, ◌≤◌, ◌⊎◌, inl, inr, true≢false, length, get_or, Bool, true, false, cond, List, [], ◌∷◌, slice_set, Option, Some, None, Result, IfOk, IfErr, refl, sym, ap, ◌∙◌, subst}
use Rattle.std.specs.Bool.{Decides}
use Rattle.std.specs.List.{Contains, find, position, insert, remove}
use Rattle.std.specs.List.Sorted.{IsStrictlySortedBy, IsSearchInRange, IsBinarySearchResult}
use Rattle.std.specs.Option.{option_map, option_or}
use Rattle.std.proofs.lemmas.Bool.{cases_lt}
use Rattle.std.proofs.lemmas.Option.{slice_get_past}
use Rattle.std.proofs.lemmas.List.{set-get_or}
use Rattle.std.proofs.lemmas.List.Quantifiers.{position-Some}
use Rattle.lisp_records.proofs.RouterLaws.{router_eq-Decides}
use Rattle.lisp_records.specs.declared.address.Addr.{Addr}
use Rattle.lisp_records.specs.declared.router.RouterId.{RouterId}
use Rattle.lisp_records.specs.Router.{router_cmp}
use Rattle.lisp_lookup.proofs.Apart.{found, own_found}
use Rattle.lisp_lookup.proofs.Orders.{router_total, same_router}
use Rattle.lisp_policy.specs.Order.{KeysRise, IsGap}
use Rattle.lisp_policy.proofs.Halving as halving
use Rattle.lisp_policy.proofs.Found.{not_true, nowhere, there, at_place, put_set, has_own, has_no_other}
use Rattle.lisp_lookup.proofs.TableLaws.{found_holds, some_inj}
use Rattle.lisp_admission.specs.declared.notice_fault.NoticeFault.TheVariants as faults
use Rattle.lisp_admission.specs.NoticeTimer.{gaps, has_come}
use Rattle.lisp_server.specs.Notices.{StandingNoticeValue, is_notice_of, notice_at, OneForEach, SetsNotice, EndsNotice, awaits, Awaited, is_due, is_due_at, resent, Resends}

pub decides : (q : RouterId) (n : StandingNoticeValue) → Decides (is_notice_of q n) (n.router ≡ q)
decides q n = router_eq-Decides n.router q

set_by : (old new : List StandingNoticeValue) (y : StandingNoticeValue) → ((q : RouterId) → find (is_notice_of q) new ≡ option_or (cond (is_notice_of q y) (Some y) None) (find (is_notice_of q) old)) → SetsNotice old new y
unfolding notice_at
set_by old new y put = record {
  here = put y.router ∙ ap (λ (b : Bool). option_or (cond b (Some y) None) (find (is_notice_of y.router) old)) (has_own (λ n. n.router) is_notice_of decides y);
  others = λ q differ. put q ∙ ap (λ (b : Bool). option_or (cond b (Some y) None) (find (is_notice_of q) old)) (has_no_other (λ n. n.router) is_notice_of decides q y differ);
}

-- a notice took the place of another to its router
pub notice_set : (ns : List StandingNoticeValue) (i : ℕ) (y : StandingNoticeValue) → position (is_notice_of y.router) ns ≡ Some i → SetsNotice ns (slice_set ns i y) y
notice_set ns i y at = set_by ns (slice_set ns i y) y (put_set (λ n. n.router) is_notice_of decides ns i y at)

-- ---- in the order of routers

-- what halving finds among notices
pub searched : (ns : List StandingNoticeValue) (q : RouterId) (r : Result ℕ ℕ) → KeysRise (λ x. x.router) router_cmp ns → IsSearchInRange r (length ns) → IsBinarySearchResult (λ x. router_cmp x.router q) ns r → record { found : IfOk r (λ i. position (is_notice_of q) ns ≡ Some i); gap : IfErr r (IsGap (λ x. x.router) router_cmp ns q) }
searched ns q r rise within is = halving.searched (λ x. x.router) router_cmp router_total same_router is_notice_of decides ns q r rise within is

gap_nowhere : (ns : List StandingNoticeValue) (q : RouterId) (i : ℕ) → IsGap (λ x. x.router) router_cmp ns q i → position (is_notice_of q) ns ≡ None
gap_nowhere ns q i gap = halving.gap_nowhere (λ x. x.router) router_cmp router_total same_router is_notice_of decides ns q i gap

pub notice_gap : (ns : List StandingNoticeValue) (q : RouterId) (i : ℕ) → IsGap (λ x. x.router) router_cmp ns q i → notice_at ns q ≡ None
unfolding notice_at
notice_gap ns q i gap = nowhere (is_notice_of q) ns (gap_nowhere ns q i gap)

pub notice_there : (ns : List StandingNoticeValue) (q : RouterId) (i : ℕ) → position (is_notice_of q) ns ≡ Some i → notice_at ns q ≢ None
unfolding notice_at
notice_there ns q i at = there (is_notice_of q) ns i at

-- the place of a router's notice is one of theirs
pub place_within : (ns : List StandingNoticeValue) (q : RouterId) (i : ℕ) → position (is_notice_of q) ns ≡ Some i → i < length ns
place_within [] q i at = absurd (let clash : ◌≡◌ {A = Option ℕ} None (Some i) = at in cc)
place_within (n ∷ ns) q i at = (position-Some (is_notice_of q) (n ∷ ns) i n at).0

pub no_notices : KeysRise {X = StandingNoticeValue} (λ x. x.router) router_cmp []
unfolding IsStrictlySortedBy
no_notices = tt

pub one_for_each : (ns : List StandingNoticeValue) → KeysRise (λ x. x.router) router_cmp ns → OneForEach ns
one_for_each ns rise = halving.keys_apart (λ x. x.router) router_cmp router_total same_router is_notice_of decides ns rise

pub rises_set : (ns : List StandingNoticeValue) (i : ℕ) (y : StandingNoticeValue) → position (is_notice_of y.router) ns ≡ Some i → KeysRise (λ x. x.router) router_cmp ns → KeysRise (λ x. x.router) router_cmp (slice_set ns i y)
rises_set ns i y at rise = halving.rises_set (λ x. x.router) router_cmp router_total same_router is_notice_of decides ns i y at rise

pub rises_insert : (ns : List StandingNoticeValue) (i : ℕ) (y : StandingNoticeValue) → KeysRise (λ x. x.router) router_cmp ns → IsGap (λ x. x.router) router_cmp ns y.router i → KeysRise (λ x. x.router) router_cmp (insert ns i y)
rises_insert ns i y rise gap = halving.rises_insert (λ x. x.router) router_cmp router_total same_router is_notice_of decides ns i y rise gap

pub rises_remove : (ns : List StandingNoticeValue) (i : ℕ) → KeysRise (λ x. x.router) router_cmp ns → KeysRise (λ x. x.router) router_cmp (remove ns i)
rises_remove ns i rise = halving.rises_remove (λ x. x.router) router_cmp router_total same_router is_notice_of decides ns i rise

-- a notice was added for a router that had none
pub notice_inserted : (ns : List StandingNoticeValue) (i : ℕ) (y : StandingNoticeValue) → IsGap (λ x. x.router) router_cmp ns y.router i → SetsNotice ns (insert ns i y) y
notice_inserted ns i y gap = set_by ns (insert ns i y) y (halving.put_insert (λ x. x.router) router_cmp router_total same_router is_notice_of decides ns i y (gap_nowhere ns y.router i gap))

-- the notice of a router was taken out
pub notice_ended : (ns : List StandingNoticeValue) (q : RouterId) (i : ℕ) (d : StandingNoticeValue) → KeysRise (λ x. x.router) router_cmp ns → position (is_notice_of q) ns ≡ Some i → EndsNotice ns (remove ns i) q
unfolding notice_at
notice_ended ns q i d rise at =
    let there = position-Some (is_notice_of q) ns i d at in
    let own : (get_or ns i d).router ≡ q = (decides q (get_or ns i d)).0 there.1 in
    record {
      here = halving.removed_own (λ x. x.router) router_cmp router_total same_router is_notice_of decides ns i d q rise there.0 own;
      others = λ other differ. halving.removed_other (λ x. x.router) router_cmp router_total same_router is_notice_of decides ns i d other there.0 (not_true (is_notice_of other (get_or ns i d)) (λ t. differ (sym ((decides other (get_or ns i d)).0 t) ∙ own)));
    }

pub none_ended : (ns : List StandingNoticeValue) (q : RouterId) (i : ℕ) → IsGap (λ x. x.router) router_cmp ns q i → EndsNotice ns ns q
none_ended ns q i gap = record { here = notice_gap ns q i gap; others = λ other differ. refl }

-- a notice that is held is found by its router, and what is found is held, and the router's
pub notice_own : (ns : List StandingNoticeValue) (n : StandingNoticeValue) → OneForEach ns → Contains ns n → notice_at ns n.router ≡ Some n
unfolding notice_at
notice_own ns n one held = own_found (λ x. x.router) is_notice_of decides ns n one held

pub notice_held : (ns : List StandingNoticeValue) (q : RouterId) (n : StandingNoticeValue) → notice_at ns q ≡ Some n → Contains ns n × (n.router ≡ q)
unfolding notice_at
notice_held ns q n at = (let held = found_holds (is_notice_of q) ns n at in (held.0, (decides q n).0 held.1))

-- the first notice that waits for an acknowledgement is one that waits for it
pub awaited : (ns : List StandingNoticeValue) (from : Addr) (key nonce : ℕ) (o : Option StandingNoticeValue) → KeysRise (λ x. x.router) router_cmp ns → o ≡ find (awaits from key nonce) ns → Awaited ns from key nonce o
awaited ns from key nonce (Some n) rise first = (let held = found_holds (awaits from key nonce) ns n (sym first) in record { stands = notice_own ns n (one_for_each ns rise) held.0; waits = held.1 })
awaited ns from key nonce None rise first = λ q n at. (let held = (notice_held ns q n at).0 in not_true (awaits from key nonce n) (λ t. found (awaits from key nonce) ns held.0 n held.1 (ap (awaits from key nonce) held.2 ∙ t) (sym first)))

-- where no notice to a router is kept, none is due
pub none_due : (ns : List StandingNoticeValue) (q : RouterId) (now i : ℕ) → IsGap (λ x. x.router) router_cmp ns q i → is_due_at now (notice_at ns q) ≡ false
none_due ns q now i gap = ap (is_due_at now) (notice_gap ns q i gap)

-- the notice at a place is the router's
pub due_there : (ns : List StandingNoticeValue) (q : RouterId) (now i : ℕ) (n d : StandingNoticeValue) (b : Bool) → position (is_notice_of q) ns ≡ Some i → n ≡ get_or ns i d → is_due now n ≡ b → is_due_at now (notice_at ns q) ≡ b
unfolding notice_at
due_there ns q now i n d b at is due = ap (is_due_at now) (at_place (is_notice_of q) ns i d at ∙ ap Some (sym is)) ∙ due

own_place : (ns : List StandingNoticeValue) (q : RouterId) (i : ℕ) (n d : StandingNoticeValue) → position (is_notice_of q) ns ≡ Some i → n ≡ get_or ns i d → position (is_notice_of n.router) ns ≡ Some i
own_place ns q i n d at is =
    let own : n.router ≡ q = (decides q n).0 (ap (is_notice_of q) is ∙ (position-Some (is_notice_of q) ns i d at).1) in
    subst (λ (r : RouterId). position (is_notice_of r) ns ≡ Some i) (sym own) at

-- a notice that is due was sent again less than six times
pub due_seldom : (now : ℕ) (n : StandingNoticeValue) → is_due now n ≡ true → n.resends < 6
due_seldom now n due = by (cases_lt n.resends 6)
  where
    by : (n.resends < 6) ⊎ (6 ≤ n.resends) → n.resends < 6
    by (inl few) = few
    by (inr many) = absurd (true≢false (sym due ∙ ap (λ (o : Option ℕ). has_come now (option_map (λ gap. n.last + gap) o)) (slice_get_past gaps n.resends many)))

-- the notice that is read there twice is one
pub same_there : (ns : List StandingNoticeValue) (q : RouterId) (i : ℕ) (n m d e : StandingNoticeValue) → position (is_notice_of q) ns ≡ Some i → n ≡ get_or ns i d → m ≡ get_or ns i e → n ≡ m
same_there ns q i n m d e at is too = some_inj n m (ap Some is ∙ sym (at_place (is_notice_of q) ns i d at) ∙ at_place (is_notice_of q) ns i e at ∙ ap Some (sym too))

-- a notice that is set over itself changes nothing
pub same_set : (ns : List StandingNoticeValue) (i : ℕ) (n d new : StandingNoticeValue) → n ≡ get_or ns i d → new ≡ n → slice_set ns i new ≡ ns
same_set ns i n d new is same = ap (slice_set ns i) (same ∙ is) ∙ set-get_or ns i d

-- a notice at a place that stays its router's leaves the order
pub rises_still : (ns : List StandingNoticeValue) (q : RouterId) (i : ℕ) (n d new : StandingNoticeValue) → KeysRise (λ x. x.router) router_cmp ns → position (is_notice_of q) ns ≡ Some i → n ≡ get_or ns i d → new.router ≡ n.router → KeysRise (λ x. x.router) router_cmp (slice_set ns i new)
rises_still ns q i n d new rise at is same = rises_set ns i new (subst (λ (r : RouterId). position (is_notice_of r) ns ≡ Some i) (sym same) (own_place ns q i n d at is)) rise

-- the notice at a place was sent again
pub resends : (ns : List StandingNoticeValue) (q : RouterId) (now i : ℕ) (n d new : StandingNoticeValue) (to : Addr) (bytes : List ℕ) → position (is_notice_of q) ns ≡ Some i → n ≡ get_or ns i d → is_due now n ≡ true → new ≡ resent now n → to ≡ n.to → bytes ≡ n.bytes → Resends ns (slice_set ns i new) q now to bytes
unfolding notice_at
resends ns q now i n d new to bytes at is due sent address datagram = record {
  notice = n;
  stood = at_place (is_notice_of q) ns i d at ∙ ap Some (sym is);
  due = due;
  address = address;
  datagram = datagram;
  after = subst (λ (m : StandingNoticeValue). SetsNotice ns (slice_set ns i m) (resent now n)) (sym sent) (notice_set ns i (resent now n) (own_place ns q i n d at is));
}

-- that none is due is no want of memory
pub not_due_alone : (P : Type 0) → faults.NotDue ≡ faults.OutOfMemory → P
not_due_alone P clash = absurd cc
