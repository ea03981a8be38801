-- Over a clean trace each Map-Notify in the bag with a nonce of a router is the reply to a Map-Register that was accepted.
use Rattle.std.proofs.Common.{◌≡◌, ℕ, ◌^◌, ◌<◌, ◌≤◌, Bool, true, false, List, [], ◌∷◌, ◌++◌, Option, Some, None, Ok, Err, refl, sym, ap, subst, ◌∙◌, true≢false, arith}
use Rattle.std.specs.Prelude.{◌≢◌, ◌==◌, if◌then◌else◌, slice_get, Result}
use Rattle.std.specs.List.{AllPairs, Contains}
use Rattle.std.specs.Option.{option_map, option_and_then, option_to_list}
use Rattle.std.proofs.lemmas.List.Elements.{Contains-append_cases, Contains-append_left, Contains-append_right}
use Rattle.std.proofs.lemmas.Option.{none-some}
use Rattle.lisp_records.specs.Database.{database_of}
use Rattle.lisp_messages.specs.Message.{MessageValue, MapRegisterValue, MapNotifyValue, Registers, Notifies}
use Rattle.lisp_etr.specs.Hearing.{first_notice, ack_of}
use Rattle.lisp_policy.specs.Site.{SiteValue}
use Rattle.lisp_admission.specs.Checks.{reply_to}
use Rattle.lisp_admission.specs.Nonces.{nonce_after}
use Rattle.lisp_etr.specs.Sending.{last_nonce}
use Rattle.lisp_model.specs.Trace.{EventValue, Step, Opening, ShownStore, addresses, is_server, is_router, router_at, sites, clock, address_at, Line}
use Rattle.lisp_model.specs.History.{SentRegister, history}
use Rattle.lisp_model.specs.Held.{Acceptance, heard_last}
use Rattle.lisp_model.specs.Timers.{Notice, notice_to}
use Rattle.lisp_model.specs.Bag.{Item, Arrival, arrival_in, as_notify, acceptances_in, register_item, reply_item, notice_item, ack_item, items_added, past, bag, since_start, ReadFault}
use Rattle.lisp_model.specs.Accepted.{acceptances, acceptances_after}
use Rattle.lisp_model.specs.Clean.{IsHarmless, Clean}
use Rattle.lisp_model.specs.Legal.{MayCome, LegalTrace, context_of}
use Rattle.lisp_model.proofs.Origins.{ok_same, register_clash, AllBelow, comes, were_sent, ReadsBack, AllFrom, all_from}
use Rattle.lisp_model.proofs.ChangeLemmas.{new_or_old, new_follows}
use Rattle.lisp_model.proofs.CleanLemmas.{in_get, in_option, from_map, SameHead}
use Rattle.lisp_model.proofs.HeardLines.{noticed_of}
use Rattle.lisp_model.proofs.HearingLemmas.{is_heard, knows_own}
use Rattle.lisp_model.proofs.ListLemmas.{in_none, at_head, in_tail, only, cases, some_same}
use Rattle.lisp_model.proofs.Locality.{same_number}
use Rattle.lisp_model.proofs.Rows.{tells}

-- an entry is a router's and goes to a server, with a nonce of a router; and its database is one
pub record IsEntry (o : Opening) (e : SentRegister) : Type 0 where
  pub kind : is_router o.config e.router ≡ true
  pub low : e.nonce < first_notice
  pub to : is_server o.config e.server ≡ true
  pub fits : database_of e.database ≡ Ok e.database

below_first : {n : ℕ} → n ≤ last_nonce → n < first_notice
below_first within = omega (arith, within)

pub entry_is : (o : Opening) (T : List Step) → LegalTrace o T → (d : SentRegister) → Contains (history o T) d → IsEntry o d
entry_is o [] legal d has = absurd (in_none d has)
entry_is o (s ∷ T) legal d has = cases (new_or_old o T s.line d has) (λ new.
    let row = (new_follows o T s legal.0 d new).2 in
    subst (IsEntry o) (sym new.is) (record { kind = row.acts.kind; low = below_first row.within; to = row.kind; fits = row.fits })) (entry_is o T legal.1 d)

-- the reply to a Map-Register that a server accepted, by the sites that it had then
pub record IsReply (o : Opening) (kept : ℕ → List Acceptance) (i : Item) : Type 0 where
  pub server : ℕ
  pub kind : is_server o.config server ≡ true
  pub acceptance : Acceptance
  pub taken : Contains (kept server) acceptance
  pub has : List SiteValue
  pub is : i ≡ reply_item o.config has server acceptance

pub record IsKnown (o : Opening) (kept : ℕ → List Acceptance) (i : Item) (n : MapNotifyValue) : Type 0 where
  pub below : n.nonce < 2 ^ 64
  pub reply : n.ack ≡ false → n.nonce < first_notice → IsReply o kept i

abbrev pub AllKnown : Opening → (ℕ → List Acceptance) → List Item → Type 0
AllKnown o kept items = (i : Item) → Contains items i → (n : MapNotifyValue) → i.message ≡ Notifies n → IsKnown o kept i n

-- what was accepted stays accepted
pub stays_accepted : (line : Line) (new : List Acceptance) (k : ℕ) (old : List Acceptance) (x : Acceptance) → Contains old x → Contains (acceptances_after line new k old) x
stays_accepted (Line.Accepted server _ _ _ _) new k old x has = at (server == k)
  where
    at : (b : Bool) → Contains (if b then new ++ old else old) x
    at true = Contains-append_right new old x has
    at false = has
stays_accepted _ new k old x has = has

later_known : (o : Opening) (T : List Step) (s : Step) (i : Item) (n : MapNotifyValue) → IsKnown o (acceptances o T) i n → IsKnown o (acceptances o (s ∷ T)) i n
later_known o T s i n f = record {
  below = f.below;
  reply = λ plain low. let r = f.reply plain low in record { server = r.server; kind = r.kind; acceptance = r.acceptance; taken = stays_accepted s.line _ r.server (acceptances o T r.server) r.acceptance r.taken; has = r.has; is = r.is };
}

pub said_same : (m n : MapNotifyValue) → ◌≡◌ {A = MessageValue} (Notifies m) (Notifies n) → m ≡ n
said_same m n e = cc

-- nonces of notices are not those of routers
nonce_high : (base : Option ℕ) → first_notice ≤ nonce_after base
nonce_high base = omega arith

pub notified : (r : Result MessageValue ReadFault) (m : MapNotifyValue) → as_notify r ≡ Some m → r ≡ Ok (Notifies m)
notified (Ok (Notifies n)) m e = let same : n ≡ m = cc in ap (λ (x : MapNotifyValue). Ok (Notifies x)) same
notified (Ok (Registers n)) m e = absurd (none-some _ e)
notified (Err fault) m e = absurd (none-some _ e)

-- what is posted under an option is from its value
pub record FromSome {X : Type 0} (f : X → Item) (x : Option X) (i : Item) : Type 0 where
  pub value : X
  pub some : x ≡ Some value
  pub is : f value ≡ i

pub from_some : {X : Type 0} (f : X → Item) (x : Option X) (i : Item) → Contains (option_to_list (option_map f x)) i → FromSome f x i
from_some f None i has = absurd (in_none i has)
from_some f (Some v) i has = record { value = v; some = refl; is = some_same (f v) i (in_option (Some (f v)) i has) }

module _ (o : Opening) (T : List Step) (reads : ReadsBack) (all : AllFrom o (history o T) (bag o T)) (known : AllKnown o (acceptances o T) (bag o T)) where
  below : AllBelow (bag o T)
  below i has n is = (known i has n is).below

  abbrev Kept : EventValue → Line → ℕ → List Acceptance
  Kept e line k = acceptances_after line (acceptances_in (arrival_in (bag o T) e) (clock T)) k (acceptances o T k)

  abbrev IsLow : (ℕ → List Acceptance) → Type 0
  IsLow kept = (k : ℕ) (x : Acceptance) → Contains (kept k) x → x.message.nonce < first_notice

  -- a Map-Notify-Ack has the nonce of the notice
  answer_known : (kept : ℕ → List Acceptance) (i : Item) (m what n : MapNotifyValue) → SameHead m what → ack_of m ≡ n → what.nonce < 2 ^ 64 → IsKnown o kept i n
  answer_known kept i m what n head said bound =
      let number : m.nonce ≡ n.nonce = ap (λ (x : MapNotifyValue). x.nonce) said in
      let read = head.nonce in
      record { below = omega (arith, number, read, bound); reply = λ plain under. absurd (true≢false (ap (λ (x : MapNotifyValue). x.ack) said ∙ plain)) }

  -- the step posts it
  posts : (node : ℕ) (after : ShownStore) (e : EventValue) (line : Line) → IsHarmless o T e → MayCome (context_of o T (record { event = e; line = line; actor = node; shown = after })) e line → IsLow (Kept e line)
      → AllKnown o (Kept e line) (items_added o T (past o T) (arrival_in (bag o T) e) line)
  posts node after e (Line.Sent r s part key nonce datagram) harmless row low i has n is = absurd (register_clash (sym (ap (λ (x : Item). x.message) (only (register_item o T r s part nonce) i has)) ∙ is))
  posts node after e (Line.Accepted server router key nonce None) harmless row low i has n is = absurd (in_none i has)
  posts node after e (Line.Accepted server router key nonce (Some datagram)) harmless row low i has n is =
      let c = comes o T reads all below node e (Line.Accepted server router key nonce (Some datagram)) after tt harmless row in
      let found = from_map (reply_item o.config (sites o T server) server) (acceptances_in (arrival_in (bag o T) e) (clock T)) i has in
      let said : reply_to found.0.message ≡ n = said_same _ n (sym (ap (λ (x : Item). x.message) found.2) ∙ is) in
      let here : Contains (Kept e (Line.Accepted server router key nonce (Some datagram)) server) found.0 = subst (λ b. Contains (if b then acceptances_in (arrival_in (bag o T) e) (clock T) ++ acceptances o T server else acceptances o T server) found.0) (sym (same_number server)) (Contains-append_left (acceptances_in (arrival_in (bag o T) e) (clock T)) (acceptances o T server) found.0 found.1) in
      let number : found.0.message.nonce ≡ n.nonce = ap (λ (x : MapNotifyValue). x.nonce) said in
      let bound : found.0.message.nonce < first_notice = low server found.0 here in
      record {
        below = omega (arith, number, bound);
        reply = λ plain under. record { server = server; kind = c.row.acts.kind; acceptance = found.0; taken = here; has = sites o T server; is = found.2 };
      }
  posts node after e (Line.Noticed router server nonce datagram) harmless row low i has n is =
      let c = comes o T reads all below node e (Line.Noticed router server nonce datagram) after tt harmless row in
      let what = noticed_of _ c.arrival router server nonce datagram c.row in
      let here : Contains (option_to_list (option_map (ack_item o T router c.arrival) (as_notify c.arrival.read))) i = subst (λ (a : Option Arrival). Contains (items_added o T (past o T) a (Line.Noticed router server nonce datagram)) i) c.is has in
      let f = from_some (ack_item o T router c.arrival) (as_notify c.arrival.read) i here in
      let said : ack_of f.value ≡ n = said_same _ n (ap (λ (x : Item). x.message) f.is ∙ is) in
      let origin = c.origin f.value (notified c.arrival.read f.value f.some) _ (knows_own o T node c.row.acts.kind) (is_heard o T node c.arrival what.what what.hears).authentic in
      answer_known (Kept e (Line.Noticed router server nonce datagram)) i f.value origin.what n origin.head said (below origin.item origin.sent origin.what origin.says)
  posts node after e (Line.Notice server router key nonce datagram) harmless row low i has n is =
      let f = from_some (notice_item o T (since_start o T server) server router key nonce) (heard_last (router_at o.config router).me (since_start o T server)) i has in
      let said = said_same _ n (ap (λ (x : Item). x.message) f.is ∙ is) in
      let number : nonce ≡ n.nonce = ap (λ (x : MapNotifyValue). x.nonce) said in
      let notice = (tells (context_of o T (record { event = e; line = Line.Notice server router key nonce datagram; actor = node; shown = after })) e (Line.Notice server router key nonce datagram) row).follows.2 in
      let bound = notice.bound in
      let next = notice.next in
      let high = nonce_high notice.base in
      record { below = omega (arith, number, bound); reply = λ plain under. absurd (omega (arith, number, under, next, high)) }
  posts node after e (Line.Resent server router datagram) harmless row low i has n is = at (notice_to o T server (router_at o.config router).me) (in_option (option_and_then (λ n. slice_get (bag o T) n.datagram) (notice_to o T server (router_at o.config router).me)) i has)
    where
      at : (x : Option Notice) → option_and_then (λ n. slice_get (bag o T) n.datagram) x ≡ Some i → IsKnown o (acceptances o T) i n
      at None e = absurd (none-some _ e)
      at (Some x) e = known i (in_get (bag o T) x.datagram i e) n is
  posts node after e _ harmless row low i has n is = absurd (in_none i has)

module _ (o : Opening) (distinct : AllPairs (λ a b. a ≢ b) (addresses o.config)) (reads : ReadsBack) where
  accepted_low : (T : List Step) → LegalTrace o T → Clean o T → (k : ℕ) (x : Acceptance) → Contains (acceptances o T k) x → x.message.nonce < first_notice
  accepted_low T legal clean k x has =
      let f = were_sent o distinct reads T legal clean k x has in
      let low = (entry_is o T legal f.entry f.sent).low in
      let number = ap (λ (m : MapRegisterValue). m.nonce) f.message in
      omega (arith, low, number)

  pub all_known : (T : List Step) → LegalTrace o T → Clean o T → AllKnown o (acceptances o T) (bag o T)
  all_known [] legal clean = λ i has. absurd (in_none i has)
  all_known (s ∷ T) legal clean = grown (all_known T legal.1 clean.1)
    where
      grown : AllKnown o (acceptances o T) (bag o T) → AllKnown o (acceptances o (s ∷ T)) (bag o (s ∷ T))
      grown before i has n is = cases (Contains-append_cases (bag o T) (items_added o T (past o T) (arrival_in (bag o T) s.event) s.line) i has)
          (λ old. later_known o T s i n (before i old n is))
          (λ new. posts o T reads (all_from o T legal.1) before s.actor s.shown s.event s.line clean.0 legal.0.row (accepted_low (s ∷ T) legal clean) i new n is)

-- Each Map-Notify-Ack in the bag is the answer of a router to a notice.

-- the answer of a router to a notice
pub record IsAnswer (o : Opening) (T : List Step) (i : Item) (n : MapNotifyValue) : Type 0 where
  pub before : Step
  pub earlier : Contains T before
  pub node : ℕ
  pub server : ℕ
  pub datagram : ℕ
  pub line : before.line ≡ Line.Noticed node server n.nonce datagram
  pub kind : is_router o.config node ≡ true
  pub listed : Contains (router_at o.config node).servers server
  pub from : i.from ≡ address_at o.config node
  pub to : i.to ≡ address_at o.config server

abbrev pub AllAnswers : Opening → List Step → List Item → Type 0
AllAnswers o T items = (i : Item) → Contains items i → (n : MapNotifyValue) → i.message ≡ Notifies n → n.ack ≡ true → IsAnswer o T i n

later_answer : (o : Opening) (T : List Step) (s : Step) (i : Item) (n : MapNotifyValue) → IsAnswer o T i n → IsAnswer o (s ∷ T) i n
later_answer o T s i n f = record { before = f.before; earlier = in_tail s T f.before f.earlier; node = f.node; server = f.server; datagram = f.datagram; line = f.line; kind = f.kind; listed = f.listed; from = f.from; to = f.to }

read_same : (m n : MapNotifyValue) (r : Result MessageValue ReadFault) → r ≡ Ok (Notifies m) → r ≡ Ok (Notifies n) → m ≡ n
read_same m n r one other = said_same m n (ok_same (Notifies m) (Notifies n) (sym one ∙ other))

-- it is no Map-Notify
not_plain : (m n : MapNotifyValue) → m ≡ n → m.ack ≡ false → n.ack ≡ true → ⊥
not_plain m n same plain ack = true≢false (sym ack ∙ sym (ap (λ (x : MapNotifyValue). x.ack) same) ∙ plain)

module _ (o : Opening) (T : List Step) (reads : ReadsBack) (all : AllFrom o (history o T) (bag o T)) (below : AllBelow (bag o T)) (old : AllAnswers o T (bag o T)) where
  -- the answer that is posted
  answered : (node : ℕ) (after : ShownStore) (e : EventValue) (router server nonce datagram : ℕ) → IsHarmless o T e
      → MayCome (context_of o T (record { event = e; line = Line.Noticed router server nonce datagram; actor = node; shown = after })) e (Line.Noticed router server nonce datagram)
      → (i : Item) → Contains (items_added o T (past o T) (arrival_in (bag o T) e) (Line.Noticed router server nonce datagram)) i → (n : MapNotifyValue) → i.message ≡ Notifies n → (s : Step) → s.line ≡ Line.Noticed router server nonce datagram → IsAnswer o (s ∷ T) i n
  answered node after e router server nonce datagram harmless row i has n is s line =
      let c = comes o T reads all below node e (Line.Noticed router server nonce datagram) after tt harmless row in
      let f = from_some (ack_item o T router c.arrival) (as_notify c.arrival.read) i (subst (λ (a : Option Arrival). Contains (items_added o T (past o T) a (Line.Noticed router server nonce datagram)) i) c.is has) in
      let what = noticed_of _ c.arrival router server nonce datagram c.row in
      let h = is_heard o T node c.arrival what.what what.hears in
      let read : f.value ≡ what.what.message = read_same f.value what.what.message c.arrival.read (notified c.arrival.read f.value f.some) h.read.is in
      let said : ack_of f.value ≡ n = said_same (ack_of f.value) n (ap (λ (x : Item). x.message) f.is ∙ is) in
      let number : n.nonce ≡ nonce = sym (ap (λ (x : MapNotifyValue). x.nonce) said) ∙ ap (λ (x : MapNotifyValue). x.nonce) read ∙ sym what.number in
      record {
        before = s;
        earlier = at_head s T;
        node = router;
        server = server;
        datagram = datagram;
        line = line ∙ ap (λ (k : ℕ). Line.Noticed router server k datagram) (sym number);
        kind = subst (λ (k : ℕ). is_router o.config k ≡ true) what.acts c.row.acts.kind;
        listed = subst (λ (k : ℕ). Contains (router_at o.config k).servers server) what.acts (subst (Contains (router_at o.config node).servers) (sym what.whose) h.listed);
        from = sym (ap (λ (x : Item). x.from) f.is);
        to = sym (ap (λ (x : Item). x.to) f.is) ∙ sym h.source ∙ ap (address_at o.config) (sym what.whose);
      }

  posts_answers : (s : Step) (line : Line) → s.line ≡ line → IsHarmless o T s.event → MayCome (context_of o T s) s.event line → AllAnswers o (s ∷ T) (items_added o T (past o T) (arrival_in (bag o T) s.event) line)
  posts_answers s (Line.Sent r k part key nonce datagram) line harmless row i has n is ack = absurd (register_clash (sym (ap (λ (x : Item). x.message) (only (register_item o T r k part nonce) i has)) ∙ is))
  posts_answers s (Line.Accepted server router key nonce None) line harmless row i has n is ack = absurd (in_none i has)
  posts_answers s (Line.Accepted server router key nonce (Some datagram)) line harmless row i has n is ack =
      let found = from_map (reply_item o.config (sites o T server) server) (acceptances_in (arrival_in (bag o T) s.event) (clock T)) i has in
      absurd (not_plain (reply_to found.0.message) n (said_same (reply_to found.0.message) n (sym (ap (λ (x : Item). x.message) found.2) ∙ is)) refl ack)
  posts_answers s (Line.Noticed router server nonce datagram) line harmless row i has n is ack = answered s.actor s.shown s.event router server nonce datagram harmless row i has n is s line
  posts_answers s (Line.Notice server router key nonce datagram) line harmless row i has n is ack =
      let f = from_some (notice_item o T (since_start o T server) server router key nonce) (heard_last (router_at o.config router).me (since_start o T server)) i has in
      absurd (not_plain _ n (said_same _ n (ap (λ (x : Item). x.message) f.is ∙ is)) refl ack)
  posts_answers s (Line.Resent server router datagram) line harmless row i has n is ack = at (notice_to o T server (router_at o.config router).me) (in_option (option_and_then (λ n. slice_get (bag o T) n.datagram) (notice_to o T server (router_at o.config router).me)) i has)
    where
      at : (x : Option Notice) → option_and_then (λ n. slice_get (bag o T) n.datagram) x ≡ Some i → IsAnswer o (s ∷ T) i n
      at None e = absurd (none-some _ e)
      at (Some x) e = later_answer o T s i n (old i (in_get (bag o T) x.datagram i e) n is ack)
  posts_answers s _ line harmless row i has n is ack = absurd (in_none i has)

module _ (o : Opening) (distinct : AllPairs (λ a b. a ≢ b) (addresses o.config)) (reads : ReadsBack) where
  pub all_answers : (T : List Step) → LegalTrace o T → Clean o T → AllAnswers o T (bag o T)
  all_answers [] legal clean = λ i has. absurd (in_none i has)
  all_answers (s ∷ T) legal clean = grown (all_answers T legal.1 clean.1) (all_known o distinct reads T legal.1 clean.1)
    where
      grown : AllAnswers o T (bag o T) → AllKnown o (acceptances o T) (bag o T) → AllAnswers o (s ∷ T) (bag o (s ∷ T))
      grown before known i has n is ack = cases (Contains-append_cases (bag o T) (items_added o T (past o T) (arrival_in (bag o T) s.event) s.line) i has)
          (λ old. later_answer o T s i n (before i old n is ack))
          (λ new. posts_answers o T reads (all_from o T legal.1) (λ j in_it m says. (known j in_it m says).below) before s s.line refl clean.0 legal.0.row i new n is ack)
