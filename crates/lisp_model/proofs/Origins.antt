-- Over a clean trace each Map-Register that is accepted was sent by a router of the network.
use Rattle.std.proofs.Common.{◌≡◌, ℕ, true, List, [], ◌∷◌, ◌++◌, length, map, Option, Some, None, Ok, refl, sym, ap, subst, inl, inr, ◌∙◌, true≢false, ◌^◌, ◌<◌, Bool, false}
use Rattle.std.specs.Prelude.{◌≢◌, ◌⊎◌, if◌then◌else◌, slice_get, Result, ◌==◌}
use Rattle.std.specs.List.{AllPairs, Contains, flat_map}
use Rattle.std.specs.Option.{option_map, option_and_then}
use Rattle.std.proofs.lemmas.List.Elements.{Contains-append_cases, Contains-append_right}
use Rattle.std.proofs.lemmas.Option.{none-some}
use Rattle.std.proofs.lemmas.List.Quantifiers.{position-Some}
use Rattle.std.proofs.lemmas.Bool.Decides.{Decides-eqb}
use Rattle.lisp_records.specs.declared.address.Addr.{Addr}
use Rattle.lisp_records.specs.declared.router.RouterId.{RouterId}
use Rattle.lisp_records.specs.Parts.{part_at}
use Rattle.lisp_messages.specs.Message.{MessageValue, MapRegisterValue, MapNotifyValue, IsMapRegister, IsMessage, Registers, Notifies}
use Rattle.lisp_messages.specs.Reading.{message_at}
use Rattle.lisp_etr.specs.Sending.{map_register_of}
use Rattle.lisp_admission.specs.Checks.{secret_under}
use Rattle.lisp_records.specs.declared.address.Addr.TheVariants.{V4}
use Rattle.lisp_records.specs.Address.{addr_eq}
use Rattle.lisp_policy.specs.Configuration.{ConfigValue}
use Rattle.lisp_messages.specs.Authentic.{is_authentic}
use Rattle.lisp_model.specs.Trace.{EventValue, Step, Opening, ShownStore, addresses, address_at, node_at, router_at, etr_config, etr_config_of, sites, database, is_server, clock, Event, Line}
use Rattle.lisp_model.specs.History.{SentRegister, sent_registers_in, history, message_of}
use Rattle.lisp_model.specs.Held.{Acceptance, heard_last}
use Rattle.lisp_model.specs.Timers.{Notice, notice_to}
use Rattle.lisp_model.specs.Bag.{Item, Arrival, bytes_of, arrival_of, arrival_in, junk_arrival, as_notify, acceptances_in, register_item, reply_item, notice_item, ack_item, items_added, past, bag, since_start, ReadFault}
use Rattle.lisp_model.specs.Clean.{secrets_of, IsEcho, IsNoise, IsForged, IsHarmless, Clean}
use Rattle.lisp_model.specs.Legal.{MayCome, LegalTrace, context_of, Arrives}
use Rattle.lisp_model.specs.Sending.{IsSent}
use Rattle.lisp_model.specs.Accepted.{acceptances, acceptances_after}
use Rattle.lisp_model.specs.Promises.{AcceptedWasSent}
use Rattle.lisp_model.proofs.CleanLemmas.{node_of, server_of, in_get, in_option, from_map, Checked, checked, notifies_no_register, addr_same, SameHead, item_head}
use Rattle.lisp_model.proofs.ListLemmas.{at_head, in_none, only, cases, err_clash}
use Rattle.lisp_model.proofs.Rows.{tells}
use Rattle.lisp_model.proofs.RisingLaws.{taken_one}
use Rattle.lisp_model.proofs.HeardLines.{IsBy}
use Rattle.lisp_model.proofs.Sound.{unique}

-- a Map-Register in the bag is of an entry
pub record IsFrom (o : Opening) (entries : List SentRegister) (i : Item) (m : MapRegisterValue) : Type 0 where
  pub entry : SentRegister
  pub sent : Contains entries entry
  pub from : i.from ≡ address_at o.config entry.router
  pub to : i.to ≡ address_at o.config entry.server
  pub kind : is_server o.config entry.server ≡ true
  pub message : m ≡ message_of o.config entry
  pub fits : IsMapRegister m

abbrev pub AllFrom : Opening → List SentRegister → List Item → Type 0
AllFrom o entries items = (i : Item) → Contains items i → (m : MapRegisterValue) → i.message ≡ Registers m → IsFrom o entries i m

pub said_clash : {m : MapRegisterValue} {n : MapNotifyValue} → ◌≡◌ {A = MessageValue} (Notifies n) (Registers m) → ⊥
said_clash e = absurd cc

-- one more entry
later_from : (o : Opening) (one entries : List SentRegister) (i : Item) (m : MapRegisterValue) → IsFrom o entries i m → IsFrom o (one ++ entries) i m
later_from o one entries i m f = record { entry = f.entry; sent = Contains-append_right one entries f.entry f.sent; from = f.from; to = f.to; kind = f.kind; message = f.message; fits = f.fits }

module _ (o : Opening) (T : List Step) where
  -- no other line posts a Map-Register that wasn't there
  posts : (node : ℕ) (after : ShownStore) (e : EventValue) (line : Line) → MayCome (context_of o T (record { event = e; line = line; actor = node; shown = after })) e line → AllFrom o (history o T) (bag o T)
      → (a : Option Arrival) → AllFrom o (sent_registers_in o T line ++ history o T) (items_added o T (past o T) a line)
  posts node after e (Line.Sent r s p key nonce datagram) row old a i has m is = new i (only (register_item o T r s p nonce) i has) is
    where
      its : IsSent (context_of o T (record { event = e; line = Line.Sent r s p key nonce datagram; actor = node; shown = after })) r s p key nonce datagram
      its = (tells (context_of o T (record { event = e; line = Line.Sent r s p key nonce datagram; actor = node; shown = after })) e (Line.Sent r s p key nonce datagram) row).follows.2

      new : (j : Item) → j ≡ register_item o T r s p nonce → j.message ≡ Registers m → IsFrom o (sent_registers_in o T (Line.Sent r s p key nonce datagram) ++ history o T) j m
      new j same says =
          let item : register_item o T r s p nonce ≡ j = sym same in
          let said : Registers (map_register_of (etr_config o T r) (part_at (database o T r) p) nonce) ≡ Registers m = ap (λ (x : Item). x.message) item ∙ says in
          let message : map_register_of (etr_config o T r) (part_at (database o T r) p) nonce ≡ m = cc in
          let keyed : map_register_of (record (etr_config_of o.config (router_at o.config r)) { key_id = key }) (part_at (database o T r) p) nonce ≡ m = ap (λ (k : ℕ). map_register_of (record (etr_config_of o.config (router_at o.config r)) { key_id = k }) (part_at (database o T r) p) nonce) its.under ∙ message in
          record {
            entry = record { router = r; key = key; nonce = nonce; server = s; database = database o T r; part = p; position = length T };
            sent = at_head _ (history o T);
            from = ap (λ (x : Item). x.from) same;
            to = ap (λ (x : Item). x.to) same;
            kind = its.kind;
            message = sym keyed;
            fits = subst IsMapRegister message its.message;
          }
  posts node after e (Line.Accepted server router key nonce None) row old a i has m is = absurd (in_none i has)
  posts node after e (Line.Accepted server router key nonce (Some datagram)) row old a i has m is = let found = from_map (reply_item o.config (sites o T server) server) (acceptances_in a (clock T)) i has in absurd (said_clash (sym (ap (λ (x : Item). x.message) found.2) ∙ is))
  posts node after e (Line.Noticed router server nonce datagram) row old None i has m is = absurd (in_none i has)
  posts node after e (Line.Noticed router server nonce datagram) row old (Some a) i has m is = at (as_notify a.read) (in_option (option_map (ack_item o T router a) (as_notify a.read)) i has)
    where
      at : (n : Option MapNotifyValue) → option_map (ack_item o T router a) n ≡ Some i → IsFrom o (history o T) i m
      at None e = absurd (none-some _ e)
      at (Some n) e = let same : ack_item o T router a n ≡ i = cc in absurd (said_clash (ap (λ (x : Item). x.message) same ∙ is))
  posts node after e (Line.Notice server router key nonce datagram) row old a i has m is = at (heard_last (router_at o.config router).me (since_start o T server)) (in_option (option_map (notice_item o T (since_start o T server) server router key nonce) (heard_last (router_at o.config router).me (since_start o T server))) i has)
    where
      at : (n : Option Acceptance) → option_map (notice_item o T (since_start o T server) server router key nonce) n ≡ Some i → IsFrom o (history o T) i m
      at None e = absurd (none-some _ e)
      at (Some n) e = let same : notice_item o T (since_start o T server) server router key nonce n ≡ i = cc in absurd (said_clash (ap (λ (x : Item). x.message) same ∙ is))
  posts node after e (Line.Resent server router datagram) row old a i has m is = at (notice_to o T server (router_at o.config router).me) (in_option (option_and_then (λ n. slice_get (bag o T) n.datagram) (notice_to o T server (router_at o.config router).me)) i has)
    where
      at : (n : Option Notice) → option_and_then (λ n. slice_get (bag o T) n.datagram) n ≡ Some i → IsFrom o (history o T) i m
      at None e = absurd (none-some _ e)
      at (Some n) e = old i (in_get (bag o T) n.datagram i e) m is
  posts node after e _ row old a i has m is = absurd (in_none i has)

module _ (o : Opening) where
  pub all_from : (T : List Step) → LegalTrace o T → AllFrom o (history o T) (bag o T)
  all_from [] legal = λ i has. absurd (in_none i has)
  all_from (s ∷ T) legal = grown (all_from T legal.1)
    where
      grown : AllFrom o (history o T) (bag o T) → AllFrom o (history o (s ∷ T)) (bag o (s ∷ T))
      grown before i has m is = cases (Contains-append_cases (bag o T) (items_added o T (past o T) (arrival_in (bag o T) s.event) s.line) i has)
          (λ old. later_from o (sent_registers_in o T s.line) (history o T) i m (before i old m is))
          (λ new. posts o T s.actor s.shown s.event s.line legal.0.row before (arrival_in (bag o T) s.event) i new m is)

-- what is written is read back
abbrev pub ReadsBack : Type 0
ReadsBack = (i : Item) → IsMessage i.message → message_at (bytes_of i) ≡ Ok i.message

-- an accepted message is that of an entry to that server, from its router's address
pub record IsSentTo (o : Opening) (entries : List SentRegister) (server : ℕ) (a : Acceptance) : Type 0 where
  pub entry : SentRegister
  pub sent : Contains entries entry
  pub whom : entry.server ≡ server
  pub message : a.message ≡ message_of o.config entry
  pub from : a.from ≡ address_at o.config entry.router

pub one_taken : (a : Arrival) (now : ℕ) (m : MapRegisterValue) → a.read ≡ Ok (Registers m) → (x : Acceptance) → Contains (acceptances_in (Some a) now) x → x ≡ record { message = m; from = a.from; moment = now }
one_taken a now m read x has = only _ x (subst (λ (xs : List Acceptance). Contains xs x) (taken_one a now m read) has)

module _ (o : Opening) (T : List Step) (distinct : AllPairs (λ a b. a ≢ b) (addresses o.config)) (reads : ReadsBack) (all : AllFrom o (history o T) (bag o T)) where
  module _ (server : ℕ) (router : RouterId) (key nonce : ℕ) (datagram : Option ℕ) where
    -- a datagram of the bag
    delivered : (i : Item) → Contains (bag o T) i → node_at o.config i.to ≡ Some server → (m : MapRegisterValue) → i.message ≡ Registers m → (now : ℕ) → IsSentTo o (history o T) server (record { message = m; from = i.from; moment = now })
    delivered i has there m is now =
        let f = all i has m is in
        record { entry = f.entry; sent = f.sent; whom = node_of o.config distinct i.to server f.entry.server there f.to f.kind; message = f.message; from = f.from }

    -- bytes from outside that are those of a datagram of the bag
    echoed : (i : Item) → Contains (bag o T) i → is_server o.config server ≡ true → i.to ≡ address_at o.config server → (from : Addr) → i.from ≡ from → (bytes : List ℕ) → bytes_of i ≡ bytes → (m : MapRegisterValue) → message_at bytes ≡ Ok (Registers m) → (now : ℕ)
        → IsSentTo o (history o T) server (record { message = m; from = from; moment = now })
    echoed i has kind target from source bytes same m read now = at i.message refl
      where
        at : (said : MessageValue) → i.message ≡ said → IsSentTo o (history o T) server (record { message = m; from = from; moment = now })
        at (Registers x) is =
            let f = all i has x is in
            let back : message_at (bytes_of i) ≡ Ok i.message = reads i (subst IsMessage (sym is) f.fits) in
            let both : ◌≡◌ {A = Result MessageValue ReadFault} (Ok (Registers x)) (Ok (Registers m)) = ap Ok (sym is) ∙ sym back ∙ ap message_at same ∙ read in
            let message : x ≡ m = cc in
            record { entry = f.entry; sent = f.sent; whom = server_of o.config distinct server f.entry.server (sym f.to ∙ target) kind f.kind; message = sym message ∙ f.message; from = sym source ∙ f.from }
        at (Notifies n) is = absurd (notifies_no_register i n m is (ap message_at same ∙ read))

    -- an acceptance in a step
    pub arrived : (e : EventValue) (after : ShownStore) → IsHarmless o T e → MayCome (context_of o T (record { event = e; line = Line.Accepted server router key nonce datagram; actor = server; shown = after })) e (Line.Accepted server router key nonce datagram)
        → (x : Acceptance) → Contains (acceptances_in (arrival_in (bag o T) e) (clock T)) x → IsSentTo o (history o T) server x
    arrived (Event.Deliver k fate) after harmless row x has = subst (IsSentTo o (history o T) server) (sym only) (delivered row.item (in_get (bag o T) k row.item row.sent) row.there row.arrives.message said (clock T))
      where
        said : row.item.message ≡ Registers row.arrives.message
        said = let read : ◌≡◌ {A = Result MessageValue ReadFault} (Ok row.item.message) (Ok (Registers row.arrives.message)) = row.arrives.admits.read in cc

        has_one : Contains (acceptances_in (Some (arrival_of row.item)) (clock T)) x
        has_one = subst (λ (a : Option Arrival). Contains (acceptances_in a (clock T)) x) (ap (option_map arrival_of) row.sent) has

        only : x ≡ record { message = row.arrives.message; from = row.item.from; moment = clock T }
        only = one_taken (arrival_of row.item) (clock T) row.arrives.message row.arrives.admits.read x has_one
    arrived (Event.Junk to from bytes) after harmless row x has = subst (IsSentTo o (history o T) server) (sym only) (at harmless)
      where
        only : x ≡ record { message = row.arrives.message; from = from; moment = clock T }
        only = one_taken (junk_arrival from bytes) (clock T) row.arrives.message row.arrives.admits.read x has

        known : Checked (sites o T to) bytes
        known = checked (sites o T to) from bytes row.arrives.message row.arrives.admits.secret (subst (λ (k : ℕ). secret_under (sites o T k) from bytes row.arrives.message ≡ Ok row.arrives.admits.secret) row.acts row.arrives.admits.checks)

        at_server : is_server o.config to ≡ true
        at_server = ap (is_server o.config) (sym row.acts) ∙ row.arrives.acts.kind

        at : (IsEcho (bag o T) from (address_at o.config to) bytes ⊎ (IsNoise bytes ⊎ IsForged (secrets_of o T to) bytes)) → IsSentTo o (history o T) server (record { message = row.arrives.message; from = from; moment = clock T })
        at (inl echo) = echoed echo.item echo.sent row.arrives.acts.kind (echo.target ∙ ap (address_at o.config) (sym row.acts)) from echo.source bytes echo.same row.arrives.message row.arrives.admits.read (clock T)
        at (inr (inl noise)) = absurd (err_clash (sym noise.1 ∙ row.arrives.admits.read))
        at (inr (inr forged)) = absurd (true≢false (sym known.authentic ∙ forged known.secret (subst (λ b. Contains (if b then flat_map (λ s. map (λ k. k.secret) s.keys) (sites o T to) else (etr_config o T to).secret ∷ []) known.secret) (sym at_server) known.known)))
    arrived _ after harmless row x has = absurd row

-- Over a clean trace a Map-Notify or Map-Notify-Ack that arrives at a node is that of a datagram to it.

-- each nonce in the bag has a spelling
abbrev pub AllBelow : List Item → Type 0
AllBelow items = (i : Item) → Contains items i → (n : MapNotifyValue) → i.message ≡ Notifies n → n.nonce < 2 ^ 64

-- what arrives from an address is that of a datagram to the node
pub record IsOfItem (o : Opening) (items : List Item) (node : ℕ) (from : Addr) (m : MapNotifyValue) : Type 0 where
  pub item : Item
  pub sent : Contains items item
  pub source : item.from ≡ from
  pub target : item.to ≡ address_at o.config node
  pub what : MapNotifyValue
  pub says : item.message ≡ Notifies what
  pub head : SameHead m what

pub node_there : (c : ConfigValue) (x : Addr) (node : ℕ) → node_at c x ≡ Some node → x ≡ address_at c node
node_there c x node there = sym (addr_same _ _ (position-Some (λ a. addr_eq a x) (addresses c) node (V4 []) there).1)

pub ok_same : (x y : MessageValue) → ◌≡◌ {A = Result MessageValue ReadFault} (Ok x) (Ok y) → x ≡ y
ok_same x y e = cc

pub register_clash : {m : MapRegisterValue} {n : MapNotifyValue} → ◌≡◌ {A = MessageValue} (Registers m) (Notifies n) → ⊥
register_clash e = absurd cc

-- lines of a message that arrives
abbrev pub IsOfArrival : Line → Type 0
IsOfArrival (Line.Accepted _ _ _ _ _) = Unit {0}
IsOfArrival (Line.Done _ _ _) = Unit {0}
IsOfArrival (Line.Counted _ _ _ _ _) = Unit {0}
IsOfArrival (Line.Noticed _ _ _ _) = Unit {0}
IsOfArrival _ = ⊥

module _ (o : Opening) (T : List Step) (reads : ReadsBack) (all : AllFrom o (history o T) (bag o T)) (below : AllBelow (bag o T)) (node : ℕ) where
  item_delivered : (i : Item) → Contains (bag o T) i → node_at o.config i.to ≡ Some node → (m : MapNotifyValue) → i.message ≡ Notifies m → IsOfItem o (bag o T) node i.from m
  item_delivered i has there m is = record { item = i; sent = has; source = refl; target = node_there o.config i.to node there; what = m; says = is; head = record { ack = refl; key = refl; nonce = refl } }

  item_echoed : (from : Addr) (bytes : List ℕ) → IsEcho (bag o T) from (address_at o.config node) bytes → (m : MapNotifyValue) → message_at bytes ≡ Ok (Notifies m) → IsOfItem o (bag o T) node from m
  item_echoed from bytes echo m read = at echo.item.message refl
    where
      at : (said : MessageValue) → echo.item.message ≡ said → IsOfItem o (bag o T) node from m
      at (Registers x) is =
          let back : message_at (bytes_of echo.item) ≡ Ok echo.item.message = reads echo.item (subst IsMessage (sym is) (all echo.item echo.sent x is).fits) in
          absurd (register_clash (ok_same (Registers x) (Notifies m) (ap Ok (sym is) ∙ sym back ∙ ap message_at echo.same ∙ read)))
      at (Notifies n) is = record { item = echo.item; sent = echo.sent; source = echo.source; target = echo.target; what = n; says = is; head = item_head echo.item n m is (below echo.item echo.sent n is) (ap message_at echo.same ∙ read) }

  -- an arrival, and where it is from if it is authentic
  pub record Comes (e : EventValue) (line : Line) (after : ShownStore) : Type 0 where
    pub arrival : Arrival
    pub is : arrival_in (bag o T) e ≡ Some arrival
    pub row : Arrives (context_of o T (record { event = e; line = line; actor = node; shown = after })) arrival line
    pub origin : (m : MapNotifyValue) → arrival.read ≡ Ok (Notifies m) → (secret : List ℕ) → Contains (secrets_of o T node) secret → is_authentic arrival.bytes secret ≡ true → IsOfItem o (bag o T) node arrival.from m

  pub comes : (e : EventValue) (line : Line) (after : ShownStore) → IsOfArrival line → IsHarmless o T e → MayCome (context_of o T (record { event = e; line = line; actor = node; shown = after })) e line → Comes e line after
  comes (Event.Deliver k fate) (Line.Nowhere datagram) after arriving harmless row = absurd arriving
  comes (Event.Deliver k fate) line after arriving harmless row = record {
    arrival = arrival_of row.item;
    is = ap (option_map arrival_of) row.sent;
    row = row.arrives;
    origin = λ m read secret known authentic. item_delivered row.item (in_get (bag o T) k row.item row.sent) row.there m (ok_same row.item.message (Notifies m) read);
  }
  comes (Event.Junk to from bytes) line after arriving harmless row = record { arrival = junk_arrival from bytes; is = refl; row = row.arrives; origin = λ m read secret known authentic. at m read secret known authentic harmless }
    where
      at : (m : MapNotifyValue) → message_at bytes ≡ Ok (Notifies m) → (secret : List ℕ) → Contains (secrets_of o T node) secret → is_authentic bytes secret ≡ true
          → (IsEcho (bag o T) from (address_at o.config to) bytes ⊎ (IsNoise bytes ⊎ IsForged (secrets_of o T to) bytes)) → IsOfItem o (bag o T) node from m
      at m read secret known authentic (inl echo) = item_echoed from bytes (subst (λ (k : ℕ). IsEcho (bag o T) from (address_at o.config k) bytes) (sym row.acts) echo) m read
      at m read secret known authentic (inr (inl noise)) = absurd (err_clash (sym noise.1 ∙ read))
      at m read secret known authentic (inr (inr forged)) = absurd (true≢false (sym authentic ∙ forged secret (subst (λ (k : ℕ). Contains (secrets_of o T k) secret) row.acts known)))
  comes _ (Line.Accepted _ _ _ _ _) after arriving harmless row = absurd row
  comes _ (Line.Done _ _ _) after arriving harmless row = absurd row
  comes _ (Line.Counted _ _ _ _ _) after arriving harmless row = absurd row
  comes _ (Line.Noticed _ _ _ _) after arriving harmless row = absurd row
  comes _ _ after arriving harmless row = absurd arriving

-- Over clean traces each accepted message is that of one entry.

later_sent : (o : Opening) (more entries : List SentRegister) (k : ℕ) (x : Acceptance) → IsSentTo o entries k x → IsSentTo o (more ++ entries) k x
later_sent o more entries k x f = record { entry = f.entry; sent = Contains-append_right more entries f.entry f.sent; whom = f.whom; message = f.message; from = f.from }

module _ (o : Opening) (distinct : AllPairs (λ a b. a ≢ b) (addresses o.config)) (reads : ReadsBack) where
  abbrev WereSent : List Step → Type 0
  WereSent T = (k : ℕ) (x : Acceptance) → Contains (acceptances o T k) x → IsSentTo o (history o T) k x

  module _ (T : List Step) (all : AllFrom o (history o T) (bag o T)) (old : WereSent T) where
    chosen : (k server : ℕ) (new : List Acceptance) (x : Acceptance) → ((y : Acceptance) → Contains new y → IsSentTo o (history o T) server y) → (b : Bool) → (server == k) ≡ b
        → Contains (if b then new ++ acceptances o T k else acceptances o T k) x → IsSentTo o (history o T) k x
    chosen k server new x fresh true e has = cases (Contains-append_cases new (acceptances o T k) x has)
        (λ one. subst (λ (n : ℕ). IsSentTo o (history o T) n x) ((Decides-eqb server k).0 e) (fresh x one))
        (λ before. old k x before)
    chosen k server new x fresh false e has = old k x has

    sent_after : (e : EventValue) (line : Line) (actor : ℕ) (after : ShownStore) → IsHarmless o T e → MayCome (context_of o T (record { event = e; line = line; actor = actor; shown = after })) e line → IsBy line actor
        → (k : ℕ) (x : Acceptance) → Contains (acceptances_after line (acceptances_in (arrival_in (bag o T) e) (clock T)) k (acceptances o T k)) x → IsSentTo o (sent_registers_in o T line ++ history o T) k x
    sent_after e (Line.Accepted server router key nonce datagram) actor after harmless row by k x has =
        let here = subst (λ (n : ℕ). MayCome (context_of o T (record { event = e; line = Line.Accepted server router key nonce datagram; actor = n; shown = after })) e (Line.Accepted server router key nonce datagram)) (sym by) row in
        chosen k server (acceptances_in (arrival_in (bag o T) e) (clock T)) x (λ y one. arrived o T distinct reads all server router key nonce datagram e after harmless here y one) (server == k) refl has
    sent_after e line actor after harmless row by k x has = later_sent o (sent_registers_in o T line) (history o T) k x (old k x has)

  pub were_sent : (T : List Step) → LegalTrace o T → Clean o T → WereSent T
  were_sent [] legal clean = λ k x has. absurd (in_none x has)
  were_sent (s ∷ T) legal clean = sent_after T (all_from o T legal.1) (were_sent T legal.1 clean.1) s.event s.line s.actor s.shown clean.0 legal.0.row (tells (context_of o T s) s.event s.line legal.0.row).by

  -- each accepted message is that of one entry
  pub accepted_was_sent : (T : List Step) → LegalTrace o T → Clean o T → AcceptedWasSent o T
  accepted_was_sent T legal clean server a has =
      let f = were_sent T legal clean server a has in
      (f.entry, record { sent = f.sent; whom = f.whom; message = f.message; from = f.from; only = λ g in_it router key nonce. unique o T legal f.entry g f.sent in_it router key nonce })
