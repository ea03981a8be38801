-- A notice that stands has a nonce of the Map-Servers: no reply to a Map-Register has one. So what a line puts into the bag is a Map-Register,
-- the reply to one, or a Map-Notify that no router counts.
use Rattle.std.proofs.Common.{◌≡◌, ◌⊎◌, inl, inr, ℕ, ◌≤◌, Bool, true, false, List, [], ◌∷◌, ◌++◌, length, map, Option, Some, refl, sym, ap, subst, ◌∙◌, arith, None}
use Rattle.std.specs.Prelude.{if◌then◌else◌, slice_get}
use Rattle.std.specs.List.{Contains}
use Rattle.std.specs.Option.{option_map, option_to_list, option_and_then}
use Rattle.lisp_records.specs.declared.router.RouterId.{RouterId}
use Rattle.lisp_records.specs.Router.{router_eq}
use Rattle.lisp_messages.specs.Message.{MapNotifyValue, Notifies}
use Rattle.lisp_etr.specs.Hearing.{first_notice, ack_of}
use Rattle.lisp_admission.specs.Nonces.{nonce_after}
use Rattle.lisp_model.specs.declared.line.Line.{Line}
use Rattle.lisp_model.specs.declared.line.Line.TheVariants as lines
use Rattle.lisp_model.specs.Trace.{EventValue, Step, Opening, router_at, clock, sites}
use Rattle.lisp_model.specs.Bag.{Item, arrival_in, notice_item, items_added, past, bag, since_start, Arrival, as_notify, acceptances_in, register_item, reply_item, ack_item}
use Rattle.lisp_model.specs.Held.{Acceptance, heard_last}
use Rattle.lisp_model.specs.Legal.{MayCome, LegalTrace, context_of}
use Rattle.lisp_model.specs.Timers.{Notice, notices, notices_after, notices_to_others, resent_at, notice_to}
use Rattle.lisp_model.proofs.ChangeLemmas.{get_last}
use Rattle.lisp_model.proofs.CleanLemmas.{from_map, in_find, in_option}
use Rattle.lisp_model.proofs.ListLemmas.{head_or_tail, in_none}
use Rattle.lisp_model.proofs.NoticeOrigins.{notices_left, of_others}
use Rattle.lisp_model.proofs.Rows.{tells}
use Rattle.lisp_refinement.proofs.Gets.{get_before, none_is_some, same_some}
use Rattle.lisp_model.specs.Accepted.{acceptances_in_step}
use Rattle.lisp_model.proofs.ReplyOrigins.{from_some}

-- the nonce of a notice is one of the Map-Servers
high_after : (base : Option ℕ) → first_notice ≤ nonce_after base
high_after base = omega arith

-- a notice that goes out: to whom it is, and as which datagram
pub record GoesOut (o : Opening) (T : List Step) (server router nonce datagram : ℕ) : Type 0 where
  pub last : Acceptance
  pub heard : heard_last (router_at o.config router).me (since_start o T server) ≡ Some last
  pub high : first_notice ≤ nonce
  pub place : datagram ≡ length (bag o T)

pub goes_out : (o : Opening) (T : List Step) (s : Step) (e : EventValue) (server router key nonce datagram : ℕ) → MayCome (context_of o T s) e (lines.Notice server router key nonce datagram) → GoesOut o T server router nonce datagram
goes_out o T s e server router key nonce datagram row =
    let sent = (tells (context_of o T s) e (lines.Notice server router key nonce datagram) row).follows.2 in
    record { last = sent.last; heard = sent.heard; high = (let next = sent.next in let high = high_after sent.base in omega (arith, next, high)); place = sent.place }

-- the datagram of a notice, whose nonce is one of the Map-Servers
pub record IsHigh (items : List Item) (x : Notice) : Type 0 where
  pub item : Item
  pub place : slice_get items x.datagram ≡ Some item
  pub value : MapNotifyValue
  pub says : item.message ≡ Notifies value
  pub high : first_notice ≤ value.nonce

abbrev pub AreHigh : List Item → List Notice → Type 0
AreHigh items notices = (x : Notice) → Contains notices x → IsHigh items x

still_high : (items more : List Item) (x : Notice) → IsHigh items x → IsHigh (items ++ more) x
still_high items more x is = record { item = is.item; place = get_before items more x.datagram is.item is.place; value = is.value; says = is.says; high = is.high }

again_high : (items : List Item) (router : RouterId) (now : ℕ) (x : Notice) → IsHigh items x → IsHigh items (resent_at router now x)
again_high items router now x is = by (router_eq x.router router)
  where
    by : (b : Bool) → IsHigh items (if b then record x { moments = now ∷ x.moments } else x)
    by true = record { item = is.item; place = is.place; value = is.value; says = is.says; high = is.high }
    by false = is

module _ (o : Opening) (T : List Step) (s : Step) where
  abbrev added : Line → List Item
  added line = items_added o T (past o T) (arrival_in (bag o T) s.event) line

  -- one that goes out
  sent_high : (server router key nonce datagram now : ℕ) → MayCome (context_of o T s) s.event (lines.Notice server router key nonce datagram)
      → IsHigh (bag o T ++ added (lines.Notice server router key nonce datagram)) (record { router = (router_at o.config router).me; key = key; nonce = nonce; datagram = datagram; moments = now ∷ [] })
  sent_high server router key nonce datagram now row =
      let out = goes_out o T s s.event server router key nonce datagram row in
      let item = notice_item o T (since_start o T server) server router key nonce out.last in
      record {
        item = item;
        place = (λ i. slice_get (bag o T ++ option_to_list (option_map (notice_item o T (since_start o T server) server router key nonce) (out.heard i))) (out.place i)) ∙ get_last (bag o T) item;
        value = _;
        says = refl;
        high = out.high;
      }

  high_case : (line : Line) → MayCome (context_of o T s) s.event line → (k : ℕ) → AreHigh (bag o T) (notices o T k) → AreHigh (bag o T ++ added line) (notices_after o.config line (clock T) k (notices o T k))
  high_case line row k old =
      notices_left o.config (clock T) k (notices o T k) (AreHigh (bag o T ++ added line)) still again (λ router x has. still x (of_others router (notices o T k) x has)) (λ x has. absurd (in_none x has)) line more
    where
      still : AreHigh (bag o T ++ added line) (notices o T k)
      still x has = still_high (bag o T) (added line) x (old x has)

      again : (router : RouterId) → AreHigh (bag o T ++ added line) (map (resent_at router (clock T)) (notices o T k))
      again router x has = let found = from_map (resent_at router (clock T)) (notices o T k) x has in
          subst (IsHigh (bag o T ++ added line)) (sym found.2) (again_high (bag o T ++ added line) router (clock T) found.0 (still found.0 found.1))

      more : (router key nonce datagram : ℕ) → line ≡ lines.Notice k router key nonce datagram
          → AreHigh (bag o T ++ added line) (record { router = (router_at o.config router).me; key = key; nonce = nonce; datagram = datagram; moments = clock T ∷ [] } ∷ notices_to_others (router_at o.config router).me (notices o T k))
      more router key nonce datagram is x has = both (head_or_tail one (notices_to_others (router_at o.config router).me (notices o T k)) x has)
        where
          one : Notice
          one = record { router = (router_at o.config router).me; key = key; nonce = nonce; datagram = datagram; moments = clock T ∷ [] }

          both : (x ≡ one) ⊎ Contains (notices_to_others (router_at o.config router).me (notices o T k)) x → IsHigh (bag o T ++ added line) x
          both (inl same) = subst (λ (p : Line × Notice). IsHigh (bag o T ++ added p.0) p.1) {x = (lines.Notice k router key nonce datagram, one)} {y = (line, x)} (λ i. (sym is i, sym same i))
              (sent_high k router key nonce datagram (clock T) (subst (λ (l : Line). MayCome (context_of o T s) s.event l) is row))
          both (inr before) = still x (of_others (router_at o.config router).me (notices o T k) x before)

pub are_high : (o : Opening) (T : List Step) → LegalTrace o T → (k : ℕ) → AreHigh (bag o T) (notices o T k)
are_high o [] legal k x has = absurd (in_none x has)
are_high o (s ∷ T) legal k x has = high_case o T s s.line legal.0.row k (are_high o T legal.1 k) x has

-- ---- what a line puts into the bag: a Map-Register, replies to some, or a Map-Notify that no router counts

module _ (o : Opening) (T : List Step) (legal : LegalTrace o T) (s : Step) (P : Line → Item → Type 0)
    (register : (router server part key nonce datagram : ℕ) → MayCome (context_of o T s) s.event (lines.Sent router server part key nonce datagram) → P (lines.Sent router server part key nonce datagram)
    (register_item o T router server part nonce))
    (reply : (server : ℕ) (router : RouterId) (key nonce datagram : ℕ) (x : Acceptance) → Contains (acceptances_in_step o T s) x → P (lines.Accepted server router key nonce (Some datagram))
    (reply_item o.config (sites o T server) server x))
    (other : (line : Line) (i : Item) (n : MapNotifyValue) → i.message ≡ Notifies n → (n.ack ≡ true) ⊎ (first_notice ≤ n.nonce) → P line i) where
  pub each_added : (line : Line) → MayCome (context_of o T s) s.event line → (i : Item) → Contains (items_added o T (past o T) (arrival_in (bag o T) s.event) line) i → P line i
  each_added (lines.Sent router server part key nonce datagram) row i has = by (head_or_tail (register_item o T router server part nonce) [] i has)
    where
      by : (i ≡ register_item o T router server part nonce) ⊎ Contains [] i → P (lines.Sent router server part key nonce datagram) i
      by (inl is) = subst (P (lines.Sent router server part key nonce datagram)) (sym is) (register router server part key nonce datagram row)
      by (inr none) = absurd (in_none i none)
  each_added (lines.Accepted server router key nonce (Some datagram)) row i has =
      let found = from_map (reply_item o.config (sites o T server) server) (acceptances_in (arrival_in (bag o T) s.event) (clock T)) i has in
      subst (P (lines.Accepted server router key nonce (Some datagram))) (sym found.2) (reply server router key nonce datagram found.0 found.1)
  each_added (lines.Accepted server router key nonce None) row i has = absurd (in_none i has)
  each_added (lines.Noticed router server nonce datagram) row i has = by (arrival_in (bag o T) s.event) has
    where
      by : (a : Option Arrival) → Contains (items_added o T (past o T) a (lines.Noticed router server nonce datagram)) i → P (lines.Noticed router server nonce datagram) i
      by None has = absurd (in_none i has)
      by (Some a) has = let found = from_some (ack_item o T router a) (as_notify a.read) i has in other _ i (ack_of found.value) (ap (λ (x : Item). x.message) (sym found.is)) (inl refl)
  each_added (lines.Notice server router key nonce datagram) row i has =
      let out = goes_out o T s s.event server router key nonce datagram row in
      let found = from_some (notice_item o T (since_start o T server) server router key nonce) (heard_last (router_at o.config router).me (since_start o T server)) i has in
      other _ i _ (ap (λ (x : Item). x.message) (sym found.is)) (inr out.high)
  each_added (lines.Resent server router datagram) row i has = by (notice_to o T server (router_at o.config router).me) refl
      (in_option (option_and_then (λ (n : Notice). slice_get (bag o T) n.datagram) (notice_to o T server (router_at o.config router).me)) i has)
    where
      by : (x : Option Notice) → notice_to o T server (router_at o.config router).me ≡ x → option_and_then (λ (n : Notice). slice_get (bag o T) n.datagram) (notice_to o T server (router_at o.config router).me) ≡ Some i
          → P (lines.Resent server router datagram) i
      by None is there = absurd (none_is_some (sym (ap (option_and_then (λ (n : Notice). slice_get (bag o T) n.datagram)) is) ∙ there))
      by (Some x) is there =
          let out = are_high o T legal server x (in_find (λ (y : Notice). router_eq y.router (router_at o.config router).me) (notices o T server) x is) in
          let item : out.item ≡ i = same_some out.item i (sym out.place ∙ sym (ap (option_and_then (λ (n : Notice). slice_get (bag o T) n.datagram)) is) ∙ there) in
          other _ i out.value (ap (λ (y : Item). y.message) (sym item) ∙ out.says) (inr out.high)
  each_added _ row i has = absurd (in_none i has)
