-- What steps put into a network's bag: each Map-Register among it is of a step whose line says that it was sent, and each Map-Notify that a
-- router may count is the reply of a step whose line says that the Map-Register was accepted. Where the steps' lines were printed, that one was.
use Rattle.std.proofs.Common.{◌≡◌, ◌⊎◌, inl, inr, ℕ, zero, suc, ◌+◌, List, [], ◌∷◌, ◌++◌, length, Some, refl, sym, ap, ◌∙◌, append-nil, arith, Ok, subst, ◌<◌, true, false, true≢false, Option, ◌≤◌}
use Rattle.std.specs.Prelude.{slice_get, Result}
use Rattle.std.specs.List.{Contains}
use Rattle.std.proofs.lemmas.List.{append_assoc}
use Rattle.std.proofs.lemmas.List.Elements.{Contains-append_cases, Contains-append_right}
use Rattle.lisp_model.specs.Trace.{Step, Opening, router_at, etr_config, etr_config_of, database, address_at, is_server, sites}
use Rattle.lisp_model.specs.Bag.{Item, bytes_of, arrival_in, items_added, past, bag, Arrival, register_item, reply_item}
use Rattle.lisp_model.specs.Legal.{LegalTrace, MayCome, context_of}
use Rattle.lisp_model.proofs.CleanLemmas.{in_get}
use Rattle.lisp_model.proofs.ListLemmas.{at_head, in_tail, head_or_tail, in_none}
use Rattle.lisp_model.proofs.Origins.{ReadsBack, said_clash}
use Rattle.lisp_model.specs.declared.line.Line.{Line}
use Rattle.lisp_model.specs.declared.line.Line.TheVariants as lines
use Rattle.lisp_model.specs.History.{SentRegister, sent_registers_in, history, message_of}
use Rattle.lisp_model.proofs.Rows.{tells, Following}
use Rattle.lisp_model.specs.Accepted.{acceptances, acceptances_in_step}
use Rattle.lisp_model.specs.Held.{Acceptance}
use Rattle.lisp_model.proofs.ReplyOrigins.{stays_accepted, said_same}
use Rattle.lisp_refinement.specs.World.{DatagramValue, WorldState}
use Rattle.lisp_refinement.specs.Stands.{Carries, Stands}
use Rattle.lisp_refinement.proofs.Heads.{reads_signed}
use Rattle.lisp_refinement.proofs.ServerArrivals.{lies, carries_arrival}
use Rattle.lisp_records.specs.Parts.{part_at}
use Rattle.lisp_records.specs.declared.address.Addr.{Addr}
use Rattle.lisp_records.specs.declared.router.RouterId.{RouterId}
use Rattle.lisp_messages.specs.declared.fault.ReadFault.{ReadFault}
use Rattle.lisp_messages.specs.Message.{MessageValue, MapRegisterValue, Registers, MapNotifyValue, Notifies}
use Rattle.lisp_messages.specs.Reading.{message_at}
use Rattle.lisp_etr.specs.Sending.{map_register_of}
use Rattle.lisp_etr.specs.Hearing.{first_notice}
use Rattle.lisp_admission.specs.Checks.{reply_to}
use Rattle.lisp_admission.specs.Pairs.{router_of}
use Rattle.lisp_client.proofs.Steps.{adds, taken_of, taken_alone, accepting}
use Rattle.lisp_deployment.proofs.Standing.{each_added}

-- ---- what steps add, and the datagrams that a network has more then

-- what an item carries is read back
pub reads : ReadsBack
unfolding bytes_of
reads i fits = reads_signed i.secret i.message fits

-- where an element is
pub got : {X : Type 0} (items : List X) (x : X) → Contains items x → (k : ℕ) × (slice_get items k ≡ Some x)
got [] x has = absurd (in_none x has)
got (y ∷ ys) x has = by (head_or_tail y ys x has) (got ys x)
  where
    by : (x ≡ y) ⊎ Contains ys x → (Contains ys x → (k : ℕ) × (slice_get ys k ≡ Some x)) → (k : ℕ) × (slice_get (y ∷ ys) k ≡ Some x)
    by (inl is) go = (0, ap Some (sym is))
    by (inr later) go = let rest = go later in (suc rest.0, rest.1)

-- it stands as far behind what is before its list
got_behind : {X : Type 0} (xs ys : List X) (k place : ℕ) (y : X) → place ≡ length xs + k → slice_get ys k ≡ Some y → slice_get (xs ++ ys) place ≡ Some y
got_behind [] ys k place y at is = ap (λ (n : ℕ). slice_get ys n) (omega (arith, at)) ∙ is
got_behind (x ∷ xs) ys k zero y at is = absurd (omega (arith, at))
got_behind (x ∷ xs) ys k (suc place) y at is = got_behind xs ys k place y (omega (arith, at)) is

behind : {X : Type 0} (xs ys : List X) (k place : ℕ) (y : X) → place ≡ length xs + k → slice_get (xs ++ ys) place ≡ Some y → slice_get ys k ≡ Some y
behind [] ys k place y at is = ap (λ (n : ℕ). slice_get ys n) (omega (arith, at)) ∙ is
behind (x ∷ xs) ys k zero y at is = absurd (omega (arith, at))
behind (x ∷ xs) ys k (suc place) y at is = behind xs ys k place y (omega (arith, at)) is

-- what holds of items after a trace, and still after more steps
module _ (o : Opening) (T : List Step) (P : List Step → Item → Type 0) (still : (s : Step) (U : List Step) (i : Item) → P U i → P (s ∷ U) i) where
  -- it holds of what a step adds
  abbrev pub IsOfAdded : Step → List Step → Type 0
  IsOfAdded s U = LegalTrace o (s ∷ U) → (i : Item) → Contains (items_added o U (past o U) (arrival_in (bag o U) s.event) s.line) i → P (s ∷ U) i

  -- so it does of all that steps added to the bag
  record HaveAdded (steps : List Step) : Type 0 where
    more : List Item
    bag_is : bag o (steps ++ T) ≡ bag o T ++ more
    each : (i : Item) → Contains more i → P (steps ++ T) i

  have_added : (steps : List Step) → LegalTrace o (steps ++ T) → ((s : Step) (U : List Step) → Contains steps s → IsOfAdded s U) → HaveAdded steps
  have_added [] legal adds = record { more = []; bag_is = sym (append-nil (bag o T)); each = λ i has. absurd (in_none i has) }
  have_added (s ∷ steps) legal adds =
      let rest = have_added steps legal.1 (λ x U has. adds x U (in_tail s steps x has)) in
      record {
        more = rest.more ++ new;
        bag_is = ap (λ (b : List Item). b ++ new) rest.bag_is ∙ append_assoc (bag o T) rest.more new;
        each = λ i has. by i rest (Contains-append_cases rest.more new i has);
      }
    where
      new : List Item
      new = items_added o (steps ++ T) (past o (steps ++ T)) (arrival_in (bag o (steps ++ T)) s.event) s.line

      by : (i : Item) (rest : HaveAdded steps) → Contains rest.more i ⊎ Contains new i → P (s ∷ steps ++ T) i
      by i rest (inl before) = still s (steps ++ T) i (rest.each i before)
      by i rest (inr now) = adds s (steps ++ T) (at_head s steps) legal i now

  -- each datagram that a network has more then carries an item of which it holds
  pub carried : (w left : WorldState) (steps : List Step) (new : List DatagramValue) → Stands w o T → Stands left o (steps ++ T) → ((s : Step) (U : List Step) → Contains steps s → IsOfAdded s U)
      → left.bag ≡ w.bag ++ new → (g : DatagramValue) → Contains new g → (i : Item) × P (steps ++ T) i × Carries g i
  carried w left steps new before after adds bag_is g has =
      let added = have_added steps after.steps.legal adds in
      let at = got new g has in
      let place : ℕ = length w.bag + at.0 in
      let l = lies left o (steps ++ T) after place g (ap (λ (b : List DatagramValue). slice_get b place) bag_is ∙ got_behind w.bag new at.0 place g refl at.1) in
      let there : slice_get (bag o T ++ added.more) place ≡ Some l.item = ap (λ (items : List Item). slice_get items place) (sym added.bag_is) ∙ l.sent in
      (l.item, added.each l.item (in_get added.more at.0 l.item (behind (bag o T) added.more at.0 place l.item (ap (λ (n : ℕ). n + at.0) before.bag.count) there)), l.carries)

-- ---- Map-Registers

-- a Map-Register that was sent, and whose line was printed
pub record WasTold (o : Opening) (T : List Step) (printed : List Line) (m : MapRegisterValue) : Type 0 where
  pub entry : SentRegister
  pub sent : Contains (history o T) entry
  pub message : m ≡ message_of o.config entry
  pub told : Contains printed (lines.Sent entry.router entry.server entry.part entry.key entry.nonce 0)

-- it is so after more steps, and more lines
pub told_still : (o : Opening) (steps T : List Step) (more printed : List Line) (m : MapRegisterValue) → WasTold o T printed m → WasTold o (steps ++ T) (more ++ printed) m
told_still o [] T more printed m was = record { entry = was.entry; sent = was.sent; message = was.message; told = Contains-append_right more printed _ was.told }
told_still o (s ∷ steps) T more printed m was =
    let rest = told_still o steps T more printed m was in
    record { entry = rest.entry; sent = Contains-append_right (sent_registers_in o (steps ++ T) s.line) (history o (steps ++ T)) rest.entry rest.sent; message = rest.message; told = rest.told }

-- the lines of the Map-Registers that were sent in steps were printed
abbrev pub SendsAreTold : List Line → List Step → Type 0
SendsAreTold printed steps = (s : Step) → Contains steps s → (router server part key nonce datagram : ℕ) → s.line ≡ lines.Sent router server part key nonce datagram
    → Contains printed (lines.Sent router server part key nonce 0)

-- a Map-Register that a line put into the bag: the line tells of it
record IsPosted (o : Opening) (T : List Step) (line : Line) (m : MapRegisterValue) : Type 0 where
  router : ℕ
  server : ℕ
  part : ℕ
  key : ℕ
  nonce : ℕ
  datagram : ℕ
  line_is : line ≡ lines.Sent router server part key nonce datagram
  message : m ≡ message_of o.config (record { router = router; key = key; nonce = nonce; server = server; database = database o T router; part = part; position = length T })

posted : (o : Opening) (T : List Step) → LegalTrace o T → (s : Step) → MayCome (context_of o T s) s.event s.line → (i : Item) → Contains (items_added o T (past o T) (arrival_in (bag o T) s.event) s.line) i
    → (m : MapRegisterValue) → i.message ≡ Registers m → IsPosted o T s.line m
posted o T legal s row i has =
    each_added o T legal s (λ line i. (m : MapRegisterValue) → i.message ≡ Registers m → IsPosted o T line m) register
    (λ server router key nonce datagram x has m says. absurd (said_clash says)) (λ line i n is low m says. absurd (said_clash (sym is ∙ says))) s.line row i has
  where
    register : (router server part key nonce datagram : ℕ) → MayCome (context_of o T s) s.event (lines.Sent router server part key nonce datagram)
        → (m : MapRegisterValue) → (register_item o T router server part nonce).message ≡ Registers m → IsPosted o T (lines.Sent router server part key nonce datagram) m
    register router server part key nonce datagram row m says =
        let said : ◌≡◌ {A = MessageValue} (Registers (map_register_of (etr_config o T router) (part_at (database o T router) part) nonce)) (Registers m) = says in
        let message : map_register_of (etr_config o T router) (part_at (database o T router) part) nonce ≡ m = cc in
        let under = (tells (context_of o T s) s.event (lines.Sent router server part key nonce datagram) row).follows.2.under in
        record {
          router = router;
          server = server;
          part = part;
          key = key;
          nonce = nonce;
          datagram = datagram;
          line_is = refl;
          message = sym message ∙ ap (λ (k : ℕ). map_register_of (record (etr_config_of o.config (router_at o.config router)) { key_id = k }) (part_at (database o T router) part) nonce) (sym under);
        }

module _ (o : Opening) (printed : List Line) where
  -- each Map-Register was sent, and its line was printed
  abbrev ItsSend : List Step → Item → Type 0
  ItsSend U i = (m : MapRegisterValue) → i.message ≡ Registers m → WasTold o U printed m

  still : (s : Step) (U : List Step) (i : Item) → ItsSend U i → ItsSend (s ∷ U) i
  still s U i its m says = told_still o (s ∷ []) U [] printed m (its m says)

  its : (s : Step) (U : List Step) (m : MapRegisterValue) (p : IsPosted o U s.line m) → Contains printed (lines.Sent p.router p.server p.part p.key p.nonce 0) → WasTold o (s ∷ U) printed m
  its s U m p told =
      let e : SentRegister = record { router = p.router; key = p.key; nonce = p.nonce; server = p.server; database = database o U p.router; part = p.part; position = length U } in
      record {
        entry = e;
        sent = subst (λ (l : Line). Contains (sent_registers_in o U l ++ history o U) e) (sym p.line_is) (at_head e (history o U));
        message = p.message;
        told = told;
      }

  its_send : (s : Step) (U steps : List Step) → SendsAreTold printed steps → Contains steps s → LegalTrace o (s ∷ U) → (i : Item) → Contains (items_added o U (past o U) (arrival_in (bag o U) s.event) s.line) i → ItsSend (s ∷ U) i
  its_send s U steps told has legal i added m says =
      let p = posted o U legal.1 s legal.0.row i added m says in
      its s U m p (told s has p.router p.server p.part p.key p.nonce p.datagram p.line_is)

-- the datagrams that a network has more after steps whose sends were told: so was each Map-Register that one of them carries
pub datagrams_told : (w left : WorldState) (o : Opening) (T steps : List Step) (printed : List Line) (new : List DatagramValue) → Stands w o T → Stands left o (steps ++ T) → SendsAreTold printed steps
    → left.bag ≡ w.bag ++ new → (g : DatagramValue) → Contains new g → (m : MapRegisterValue) → message_at g.bytes ≡ Ok (Registers m) → WasTold o (steps ++ T) printed m
datagrams_told w left o T steps printed new before after told bag_is g has m read =
    let found = carried o T (ItsSend o printed) (still o printed) w left steps new before after (λ s U there. its_send o printed s U steps told there) bag_is g has in
    let i = found.0 in
    let said : ◌≡◌ {A = Result MessageValue ReadFault} (Ok i.message) (Ok (Registers m)) = ap (λ (a : Arrival). a.read) (sym (carries_arrival g i found.2)) ∙ read in
    found.1 m (let same : i.message ≡ Registers m = cc in same)

-- ---- replies

-- a Map-Notify that a Map-Server sent as the reply to a Map-Register that it accepted, and whose line was printed
pub record WasReplied (o : Opening) (T : List Step) (printed : List Line) (from to : Addr) (n : MapNotifyValue) : Type 0 where
  pub server : ℕ
  pub kind : is_server o.config server ≡ true
  pub acceptance : Acceptance
  pub taken : Contains (acceptances o T server) acceptance
  pub source : from ≡ address_at o.config server
  pub target : to ≡ acceptance.from
  pub value : n ≡ reply_to acceptance.message
  pub reply : Option ℕ
  pub told : Contains printed (lines.Accepted server (router_of acceptance.message) acceptance.message.key_id acceptance.message.nonce reply)

-- it is so after more steps, and more lines
still_taken : (o : Opening) (steps T : List Step) (server : ℕ) (x : Acceptance) → Contains (acceptances o T server) x → Contains (acceptances o (steps ++ T) server) x
still_taken o [] T server x has = has
still_taken o (s ∷ steps) T server x has = stays_accepted s.line (acceptances_in_step o (steps ++ T) s) server (acceptances o (steps ++ T) server) x (still_taken o steps T server x has)

pub replied_still : (o : Opening) (steps T : List Step) (more printed : List Line) (from to : Addr) (n : MapNotifyValue) → WasReplied o T printed from to n → WasReplied o (steps ++ T) (more ++ printed) from to n
replied_still o steps T more printed from to n was = record {
  server = was.server;
  kind = was.kind;
  acceptance = was.acceptance;
  taken = still_taken o steps T was.server was.acceptance was.taken;
  source = was.source;
  target = was.target;
  value = was.value;
  reply = was.reply;
  told = Contains-append_right more printed _ was.told;
}

-- the lines of the Map-Registers that were accepted in steps, and to which a reply went out, were printed
abbrev pub RepliesAreTold : List Line → List Step → Type 0
RepliesAreTold printed steps = (s : Step) → Contains steps s → (server : ℕ) (router : RouterId) (key nonce datagram : ℕ) → s.line ≡ lines.Accepted server router key nonce (Some datagram)
    → Contains printed (lines.Accepted server router key nonce (Some 0))

-- a Map-Notify that a router may count
pub record MayCount (n : MapNotifyValue) : Type 0 where
  pub plain : n.ack ≡ false
  pub low : n.nonce < first_notice

-- a reply that a line put into the bag
record IsReplied (o : Opening) (T : List Step) (s : Step) (line : Line) (i : Item) : Type 0 where
  server : ℕ
  router : RouterId
  key : ℕ
  nonce : ℕ
  datagram : ℕ
  line_is : line ≡ lines.Accepted server router key nonce (Some datagram)
  acceptance : Acceptance
  among : Contains (acceptances_in_step o T s) acceptance
  is : i ≡ reply_item o.config (sites o T server) server acceptance

replied : (o : Opening) (T : List Step) → LegalTrace o T → (s : Step) → MayCome (context_of o T s) s.event s.line → (i : Item) → Contains (items_added o T (past o T) (arrival_in (bag o T) s.event) s.line) i
    → (n : MapNotifyValue) → i.message ≡ Notifies n → MayCount n → IsReplied o T s s.line i
replied o T legal s row i has =
    each_added o T legal s (λ line i. (n : MapNotifyValue) → i.message ≡ Notifies n → MayCount n → IsReplied o T s line i)
    (λ router server part key nonce datagram row n says may. absurd (said_clash (sym says)))
    (λ server router key nonce datagram x among n says may. record { server = server; router = router; key = key; nonce = nonce; datagram = datagram; line_is = refl; acceptance = x; among = among; is = refl })
    (λ line i n is un m says may. absurd (uncounted n m un (said_same n m (sym is ∙ says)) may)) s.line row i has
  where
    uncounted : (n m : MapNotifyValue) → (n.ack ≡ true) ⊎ (first_notice ≤ n.nonce) → n ≡ m → MayCount m → ⊥
    uncounted n m (inl ack) same may = true≢false (sym ack ∙ ap (λ (x : MapNotifyValue). x.ack) same ∙ may.plain)
    uncounted n m (inr high) same may = (let number : n.nonce ≡ m.nonce = ap (λ (x : MapNotifyValue). x.nonce) same in omega (arith, number, high, may.low))

module _ (o : Opening) (printed : List Line) where
  -- each Map-Notify that a router may count was sent as the reply to what was accepted
  abbrev ItsReply : List Step → Item → Type 0
  ItsReply U i = (n : MapNotifyValue) → i.message ≡ Notifies n → MayCount n → WasReplied o U printed i.from i.to n

  still_replied : (s : Step) (U : List Step) (i : Item) → ItsReply U i → ItsReply (s ∷ U) i
  still_replied s U i its n says may = replied_still o (s ∷ []) U [] printed i.from i.to n (its n says may)

  -- the line is that of the acceptance
  its_line : (s : Step) (U : List Step) → LegalTrace o (s ∷ U) → (i : Item) (n : MapNotifyValue) → i.message ≡ Notifies n → (r : IsReplied o U s s.line i)
      → Contains printed (lines.Accepted r.server r.router r.key r.nonce (Some 0)) → WasReplied o (s ∷ U) printed i.from i.to n
  its_line s U legal i n says r told =
      let a = accepting o s U legal.0 r.server r.router r.key r.nonce (Some r.datagram) r.line_is in
      let x = taken_of o s U r.router r.key r.nonce a in
      let only : r.acceptance ≡ x = alone x (head_or_tail x [] r.acceptance (subst (λ (xs : List Acceptance). Contains xs r.acceptance) (taken_alone o s U r.router r.key r.nonce a) r.among)) in
      let item : i ≡ reply_item o.config (sites o U r.server) r.server x = r.is ∙ ap (reply_item o.config (sites o U r.server) r.server) only in
      record {
        server = r.server;
        kind = (subst (λ (line : Line). Following (context_of o U s) s.event line) r.line_is (tells (context_of o U s) s.event s.line legal.0.row).follows).row.acts.kind;
        acceptance = x;
        taken = subst (λ (xs : List Acceptance). Contains xs x) (sym (adds o s U r.server r.router r.key r.nonce (Some r.datagram) r.line_is a)) (at_head x (acceptances o U r.server));
        source = ap (λ (y : Item). y.from) item;
        target = ap (λ (y : Item). y.to) item;
        value = said_same n (reply_to a.message) (sym says ∙ ap (λ (y : Item). y.message) item);
        reply = Some 0;
        told = subst (λ (line : Line). Contains printed line) (λ j. lines.Accepted r.server (sym a.who j) (sym a.under j) (sym a.number j) (Some 0)) told;
      }
    where
      alone : {y : Acceptance} (x : Acceptance) → (y ≡ x) ⊎ Contains [] y → y ≡ x
      alone x (inl is) = is
      alone x (inr none) = absurd (in_none _ none)

  its_reply : (s : Step) (U steps : List Step) → RepliesAreTold printed steps → Contains steps s → LegalTrace o (s ∷ U) → (i : Item) → Contains (items_added o U (past o U) (arrival_in (bag o U) s.event) s.line) i → ItsReply (s ∷ U) i
  its_reply s U steps told has legal i added n says may =
      let r = replied o U legal.1 s legal.0.row i added n says may in
      its_line s U legal i n says r (told s has r.server r.router r.key r.nonce r.datagram r.line_is)

-- each Map-Notify among datagrams that a router may count was sent as a reply, and the line of that was printed
abbrev pub AreReplied : Opening → List Step → List Line → List DatagramValue → Type 0
AreReplied o T printed sent = (g : DatagramValue) → Contains sent g → (n : MapNotifyValue) → message_at g.bytes ≡ Ok (Notifies n) → MayCount n → WasReplied o T printed g.from g.to n

-- so was each among those that a network has more after steps whose replies were told
pub datagrams_replied : (w left : WorldState) (o : Opening) (T steps : List Step) (printed : List Line) (new : List DatagramValue) → Stands w o T → Stands left o (steps ++ T) → RepliesAreTold printed steps
    → left.bag ≡ w.bag ++ new → AreReplied o (steps ++ T) printed new
datagrams_replied w left o T steps printed new before after told bag_is g has n read may =
    let found = carried o T (ItsReply o printed) (still_replied o printed) w left steps new before after (λ s U there. its_reply o printed s U steps told there) bag_is g has in
    let i = found.0 in
    let said : ◌≡◌ {A = Result MessageValue ReadFault} (Ok i.message) (Ok (Notifies n)) = ap (λ (a : Arrival). a.read) (sym (carries_arrival g i found.2)) ∙ read in
    let says : i.message ≡ Notifies n = cc in
    subst (λ (p : Addr × Addr). WasReplied o (steps ++ T) printed p.0 p.1 n) {x = (i.from, i.to)} {y = (g.from, g.to)} (λ j. (sym found.2.from j, sym found.2.to j)) (found.1 n says may)
