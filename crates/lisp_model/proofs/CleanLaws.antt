-- Over clean traces servers that hold a prefix of a router from entries with no change between hold equal records.
use Rattle.std.proofs.Common.{◌≡◌, ℕ, ◌+◌, ◌-◌, ◌<◌, ◌≤◌, true, List, length, Some, sym, ap, subst, inl, inr, ◌∙◌, arith, Bool, false, [], ◌∷◌, refl, true≢false, zero, suc, map, Option, None}
use Rattle.std.specs.Prelude.{◌≢◌, ◌⊎◌, nat_lt, nat_le, ◌==◌, ◌&&◌, not, if◌then◌else◌, slice_get, slice_index_or}
use Rattle.std.specs.List.{AllPairs, Contains, AllByRecursion, flat_map}
use Rattle.std.proofs.lemmas.Bool.{and_parts, ltb-true, leb-true, cases_lt, lt-ltb}
use Rattle.std.proofs.lemmas.Bool.Decides.{Decides-eqb}
use Rattle.std.proofs.lemmas.List.Elements.{Contains-append_right}
use Rattle.std.specs.Option.{unwrap_or}
use Rattle.lisp_records.specs.declared.router.RouterId.{RouterId}
use Rattle.lisp_records.specs.Address.{PrefixValue}
use Rattle.lisp_records.specs.Database.{record_for}
use Rattle.lisp_records.specs.Record.{MapRecordValue}
use Rattle.lisp_records.specs.Row.{RowValue}
use Rattle.lisp_policy.specs.Configuration.{ConfigValue, HasServers}
use Rattle.lisp_messages.specs.Message.{MapRegisterValue, MapNotifyValue, Notifies}
use Rattle.lisp_etr.specs.Hearing.{first_notice}
use Rattle.lisp_etr.specs.Rounds.{is_latest}
use Rattle.lisp_admission.specs.Checks.{reply_to, signed_by, secret_at as known_secret}
use Rattle.lisp_records.specs.declared.address.Addr.{Addr}
use Rattle.lisp_policy.specs.Site.{SiteValue}
use Rattle.lisp_messages.specs.Authentic.{is_authentic}
use Rattle.lisp_hmac.proofs.TagLemmas.{length-tag}
use Rattle.lisp_messages.proofs.WrittenLaws.{reads_back}
use Rattle.lisp_model.specs.Trace.{Step, Opening, is_router, router_at, clock, EventValue, ShownStore, addresses, address_at, is_server, is_up, key as key_of, secret_at, sites, etr_config, Line}
use Rattle.lisp_model.specs.History.{SentRegister, record_in, history, sent_registers_in}
use Rattle.lisp_model.specs.Held.{held_row}
use Rattle.lisp_model.specs.Bag.{since_start, Item, Arrival, bag, bytes_of}
use Rattle.lisp_model.specs.Change.{NoChange, Keeps}
use Rattle.lisp_model.specs.Clean.{Clean, IsHarmless, secrets_of}
use Rattle.lisp_model.specs.Legal.{LegalTrace, MayCome, context_of}
use Rattle.lisp_model.specs.Promises.{HeldAgree, IsRowOf, WasAccepted, CountedWasAccepted, DoneWasNoticed, AcceptedWasSent, HeldWasSent}
use Rattle.lisp_model.specs.Network.{IsNetwork, NamesServers}
use Rattle.lisp_model.specs.Accepted.{acceptances, acceptances_in_step}
use Rattle.lisp_model.specs.Counted.{latest_nonce, Acknowledged, counted_nonces, counted_nonces_after}
use Rattle.lisp_model.specs.Timers.{Notice, notices}
use Rattle.lisp_model.specs.Receiving.{went_to, awaits}
use Rattle.lisp_model.proofs.ChangeLemmas.{same_database, one_place}
use Rattle.lisp_model.proofs.LimitLaws.{held_was_sent as rows_were_sent, Signs, signs_in}
use Rattle.lisp_model.proofs.Origins.{ReadsBack, IsOfItem, comes, were_sent, all_from, accepted_was_sent as messages_were_sent}
use Rattle.lisp_model.proofs.ReplyOrigins.{entry_is, said_same, IsEntry, IsReply, stays_accepted, all_known, IsAnswer, all_answers}
use Rattle.lisp_model.proofs.Sound.{unique, IsEntryOf, latest_is_sent, counted_part}
use Rattle.lisp_model.proofs.CleanLemmas.{server_of, addr_same, in_find}
use Rattle.lisp_model.proofs.HeardLines.{IsCounted, counted_of}
use Rattle.lisp_model.proofs.HearingLemmas.{IsHeard, is_heard, knows_own, router_of, find_true}
use Rattle.lisp_model.proofs.ListLemmas.{head_or_tail, in_none, cases}
use Rattle.lisp_model.proofs.NoticeOrigins.{WentOut, all_went_out}

-- one identity is one router's
pub one_router : (c : ConfigValue) → AllPairs (λ a b. a.me ≢ b.me) c.routers → (i j : ℕ) → is_router c i ≡ true → is_router c j ≡ true → (router_at c i).me ≡ (router_at c j).me → i ≡ j
one_router c distinct i j is_i is_j same =
    let parts_i = and_parts (nat_le (length c.servers) i) (nat_lt i (length c.servers + length c.routers)) is_i in
    let parts_j = and_parts (nat_le (length c.servers) j) (nat_lt j (length c.servers + length c.routers)) is_j in
    at (leb-true (length c.servers) i parts_i.0) (ltb-true i (length c.servers + length c.routers) parts_i.1) (leb-true (length c.servers) j parts_j.0) (ltb-true j (length c.servers + length c.routers) parts_j.1) (cases_lt i j) (cases_lt j i)
  where
    at : length c.servers ≤ i → i < length c.servers + length c.routers → length c.servers ≤ j → j < length c.servers + length c.routers → (i < j) ⊎ (j ≤ i) → (j < i) ⊎ (i ≤ j) → i ≡ j
    at a b x y (inl low) other = absurd (distinct (i - length c.servers) (j - length c.servers) _ (omega arith) (omega arith) same)
    at a b x y (inr high) (inl low) = absurd (distinct (j - length c.servers) (i - length c.servers) _ (omega arith) (omega arith) (sym same))
    at a b x y (inr high) (inr low) = omega (arith, high, low)

module _ (o : Opening) (distinct : IsNetwork o.config) (reads : ReadsBack) (T : List Step) (legal : LegalTrace o T) (clean : Clean o T) where
  -- a row has the record of its entry's database
  record_of : (k : ℕ) (router : RouterId) (eid : PrefixValue) (g : RowValue) → held_row (since_start o T k) router eid (clock T) ≡ Some g → (d : SentRegister) → Contains (history o T) d → IsRowOf o.config g d → record_in d eid ≡ Some g.mapping
  record_of k router eid g is_held d has row =
      let f = rows_were_sent o distinct reads T legal clean k router eid g is_held in
      let me : (router_at o.config d.router).me ≡ (router_at o.config f.0.router).me = sym row.router ∙ f.3.router in
      let number : d.router ≡ f.0.router = one_router o.config distinct.routers d.router f.0.router (entry_is o T legal d has).kind (entry_is o T legal f.0 f.1).kind me in
      let same : d ≡ f.0 = unique o T legal f.0 d f.1 has number (sym row.key ∙ f.3.key) (sym row.nonce ∙ f.3.nonce) in
      ap (λ (x : SentRegister). record_in x eid) same ∙ f.4

  database_same : (d e : SentRegister) → Contains (history o T) d → Contains (history o T) e → NoChange T d e → d.database ≡ e.database
  database_same d e has_d has_e none = cases (cases_lt d.position e.position)
      (λ low. same_database o T legal d e has_d has_e none.router low none.later)
      (λ high. cases (cases_lt e.position d.position)
      (λ low. sym (same_database o T legal e d has_e has_d (sym none.router) low (subst (λ (r : ℕ). Keeps T r e.position d.position) none.router none.earlier)))
      (λ low. ap (λ (x : SentRegister). x.database) (one_place o T d e has_d has_e (omega (arith, high, low)))))

  -- equal records
  pub rows_agree : HeldAgree o T
  rows_agree one other router eid g h d e held_g held_h has_d has_e row_g row_h none =
      let first = record_of one router eid g held_g d has_d row_g in
      let second = record_of other router eid h held_h e has_e row_h in
      let both : Some g.mapping ≡ Some h.mapping = sym first ∙ ap (λ (db : List MapRecordValue). record_for db eid) (database_same d e has_d has_e none) ∙ second in
      let same : g.mapping ≡ h.mapping = cc in
      same

-- Over a clean trace each nonce that a router counts for a part is that of an entry of the part that the server accepted.

not_zero : (nonce : ℕ) (b : Bool) → (not b && b) ≡ true → ⊥
not_zero nonce true e = true≢false (sym e)
not_zero nonce false e = true≢false (sym e)

-- the nonce that counts is that of an entry of the part, under the router's key
latest_entry : (o : Opening) (T : List Step) → LegalTrace o T → (r k p nonce : ℕ) → is_up T r ≡ true → is_latest nonce (latest_nonce T r k p) ≡ true → IsEntryOf (history o T) r k p (key_of o T r) nonce
latest_entry o T legal r k p nonce up is = cases (latest_is_sent o T legal r k p up)
    (λ none. absurd (not_zero nonce (nonce == 0) (ap (is_latest nonce) (sym none) ∙ is)))
    (λ e. subst (IsEntryOf (history o T) r k p (key_of o T r)) (sym same) e)
  where
    same : nonce ≡ latest_nonce T r k p
    same = (Decides-eqb nonce (latest_nonce T r k p)).0 (and_parts (not (nonce == 0)) (nonce == latest_nonce T r k p) is).1

-- later steps leave it
later_accepted : (o : Opening) (T : List Step) (s : Step) (router server part key nonce : ℕ) → WasAccepted o T router server part key nonce → WasAccepted o (s ∷ T) router server part key nonce
later_accepted o T s router server part key nonce w = record {
  entry = w.entry;
  sent = Contains-append_right (sent_registers_in o T s.line) (history o T) w.entry w.sent;
  who = w.who;
  whom = w.whom;
  of = w.of;
  under = w.under;
  number = w.number;
  acceptance = w.acceptance;
  taken = stays_accepted s.line (acceptances_in_step o T s) server (acceptances o T server) w.acceptance w.taken;
  message = w.message;
}

module _ (o : Opening) (distinct : AllPairs (λ a b. a ≢ b) (addresses o.config)) (reads : ReadsBack) where
  module _ (T : List Step) (legal : LegalTrace o T) (clean : Clean o T) (router server part key nonce : ℕ) where
    -- a reply from the server to the router, with the key and the nonce of an entry
    replied : (i : Item) (n : MapNotifyValue) (reply : IsReply o (acceptances o T) i) → i.message ≡ Notifies n → n.key_id ≡ key → n.nonce ≡ nonce → i.from ≡ address_at o.config server → i.to ≡ address_at o.config router
        → (sent : IsEntryOf (history o T) router server part key nonce) → is_router o.config router ≡ true → WasAccepted o T router server part key nonce
    replied i n reply says under number source target sent its =
        let kind : is_server o.config server ≡ true = subst (λ (k : ℕ). is_server o.config k ≡ true) sent.whom (entry_is o T legal sent.entry sent.sent).to in
        let whose : reply.server ≡ server = server_of o.config distinct server reply.server (sym (ap (λ (x : Item). x.from) reply.is) ∙ source) kind reply.kind in
        let w = were_sent o distinct reads T legal clean reply.server reply.acceptance reply.taken in
        let e : IsEntry o w.entry = entry_is o T legal w.entry w.sent in
        let same : reply_to reply.acceptance.message ≡ n = said_same _ n (sym (ap (λ (x : Item). x.message) reply.is) ∙ says) in
        let who : w.entry.router ≡ router = router_of o.config distinct w.entry.router router e.kind its (sym w.from ∙ sym (ap (λ (x : Item). x.to) reply.is) ∙ target) in
        let its_key : w.entry.key ≡ key = sym (ap (λ (m : MapRegisterValue). m.key_id) w.message) ∙ ap (λ (x : MapNotifyValue). x.key_id) same ∙ under in
        let its_number : w.entry.nonce ≡ nonce = sym (ap (λ (m : MapRegisterValue). m.nonce) w.message) ∙ ap (λ (x : MapNotifyValue). x.nonce) same ∙ number in
        let one : w.entry ≡ sent.entry = unique o T legal sent.entry w.entry sent.sent w.sent (who ∙ sym sent.who) (its_key ∙ sym sent.under) (its_number ∙ sym sent.number) in
        record {
          entry = w.entry;
          sent = w.sent;
          who = who;
          whom = w.whom ∙ whose;
          of = ap (λ (x : SentRegister). x.part) one ∙ sent.of;
          under = its_key;
          number = its_number;
          acceptance = reply.acceptance;
          taken = subst (λ (k : ℕ). Contains (acceptances o T k) reply.acceptance) whose reply.taken;
          message = w.message;
        }

    -- the entry of the part that counts
    entry_counted : (s : Step) (a : Arrival) (what : IsCounted (context_of o T s) a router server part key nonce) → is_up T router ≡ true → IsEntryOf (history o T) router server part key nonce
    entry_counted s a what up =
        let sent = latest_entry o T legal router server part nonce up (counted_part T router server nonce part what.latest).1 in
        subst (λ (k : ℕ). IsEntryOf (history o T) router server part k nonce) (ap (key_of o T) (sym what.acts) ∙ sym what.under) sent

    -- a Map-Notify that counts is the server's answer to an entry that it accepted
    counted_at : (s : Step) (a : Arrival) (what : IsCounted (context_of o T s) a router server part key nonce) → is_router o.config router ≡ true → is_up T router ≡ true → IsHeard o T s.actor a what.what → IsOfItem o (bag o T) s.actor a.from what.what.message → WasAccepted o T router server part key nonce
    counted_at s a what its up h origin =
        let number : origin.what.nonce ≡ nonce = sym origin.head.nonce ∙ sym what.number in
        let reply = (all_known o distinct reads T legal clean origin.item origin.sent origin.what origin.says).reply (sym origin.head.ack ∙ h.read.plain) (subst (λ (k : ℕ). k < first_notice) (sym number) what.low) in
        replied origin.item origin.what reply origin.says (sym origin.head.key ∙ h.key ∙ sym what.under) number
        (origin.source ∙ sym h.source ∙ ap (address_at o.config) (sym what.whose)) (origin.target ∙ ap (address_at o.config) what.acts)
        (entry_counted s a what up) its

    -- what is counted was accepted
    counted : (node : ℕ) (after : ShownStore) (e : EventValue) → IsHarmless o T e → MayCome (context_of o T (record { event = e; line = Line.Counted router server part key nonce; actor = node; shown = after })) e (Line.Counted router server part key nonce) → WasAccepted o T router server part key nonce
    counted node after e harmless row =
        let c = comes o T reads (all_from o T legal) (λ i has n is. (all_known o distinct reads T legal clean i has n is).below) node e (Line.Counted router server part key nonce) after tt harmless row in
        let what = counted_of _ c.arrival router server part key nonce c.row in
        let h = is_heard o T node c.arrival what.what what.hears in
        counted_at (record { event = e; line = Line.Counted router server part key nonce; actor = node; shown = after }) c.arrival what (subst (λ (k : ℕ). is_router o.config k ≡ true) what.acts c.row.acts.kind)
        (subst (λ (k : ℕ). is_up T k ≡ true) what.acts c.row.acts.state) h (c.origin what.what.message h.read.is _ (knows_own o T node c.row.acts.kind) h.authentic)

  abbrev Took : List Step → ℕ → ℕ → Acknowledged → Type 0
  Took T router server x = WasAccepted o T router server x.part x.key x.nonce

  acknowledged_case : (T : List Step) (s : Step) → LegalTrace o T → Clean o T → IsHarmless o T s.event → (line : Line) → MayCome (context_of o T s) s.event line → (router server : ℕ) (x : Acknowledged)
      → Contains (counted_nonces_after line router server (counted_nonces T router server)) x → Took T router server x ⊎ Contains (counted_nonces T router server) x
  acknowledged_case T s legal clean harmless (Line.Counted r k part its number) row router server x has = at (r == router && k == server) refl has
    where
      here : WasAccepted o T r k part its number
      here = counted T legal clean r k part its number s.actor s.shown s.event harmless row

      new : (r == router && k == server) ≡ true → x ≡ record { part = part; key = its; nonce = number } → Took T router server x
      new both same =
          let parts = and_parts (r == router) (k == server) both in
          subst (Took T router server) (sym same)
          (subst (λ (n : ℕ). WasAccepted o T n server part its number) ((Decides-eqb r router).0 parts.0) (subst (λ (n : ℕ). WasAccepted o T r n part its number) ((Decides-eqb k server).0 parts.1) here))

      at : (b : Bool) → (r == router && k == server) ≡ b → Contains (if b then record { part = part; key = its; nonce = number } ∷ counted_nonces T router server else counted_nonces T router server) x → Took T router server x ⊎ Contains (counted_nonces T router server) x
      at false is has = inr has
      at true is has = cases (head_or_tail (record { part = part; key = its; nonce = number }) (counted_nonces T router server) x has)
          (λ same. inl (new is same))
          (λ old. inr old)
  acknowledged_case T s legal clean harmless _ row router server x has = inr has

  pub nonces_were_accepted : (T : List Step) → LegalTrace o T → Clean o T → CountedWasAccepted o T
  nonces_were_accepted [] legal clean router server x has = absurd (in_none x has)
  nonces_were_accepted (s ∷ T) legal clean router server x has = later_accepted o T s router server x.part x.key x.nonce (cases (acknowledged_case T s legal.1 clean.1 clean.0 s.line legal.0.row router server x has) (λ new. new) (λ old. nonces_were_accepted T legal.1 clean.1 router server x old))

-- Over a clean trace a notice that is done was noticed before, where a router's list names servers.

-- what is authentic under a key that a site may not have is authentic under that key's secret
signed_under : (secret : Option (List ℕ)) (bytes : List ℕ) → signed_by secret bytes ≡ true → is_authentic bytes (unwrap_or secret []) ≡ true
signed_under None bytes e = absurd (true≢false (sym e))
signed_under (Some secret) bytes e = e

-- each router's list names servers
module _ {X : Type 0} (P : X → Type 0) where
  each_at : (xs : List X) (i : ℕ) (d : X) → AllByRecursion P xs → i < length xs → P (slice_index_or xs i d)
  each_at [] i d all lt = absurd (omega (arith, lt))
  each_at (x ∷ xs) zero d all lt = all.0
  each_at (x ∷ xs) (suc i) d all lt = each_at xs i d all.1 (omega (arith, lt))

  each_of : (xs : List X) (x : X) → AllByRecursion P xs → Contains xs x → P x
  each_of xs x all (i, lt, is) = subst P is (each_at xs i x all lt)

pub lists_server : (c : ConfigValue) → NamesServers c → (router k : ℕ) → is_router c router ≡ true → Contains (router_at c router).servers k → is_server c k ≡ true
lists_server c names router k its listed =
    let within = and_parts (nat_le (length c.servers) router) (nat_lt router (length c.servers + length c.routers)) its in
    let low = leb-true (length c.servers) router within.0 in
    let high = ltb-true router (length c.servers + length c.routers) within.1 in
    lt-ltb k (length c.servers) (each_of (λ place. place < length c.servers) (router_at c router).servers k (each_at (HasServers c.servers) c.routers (router - length c.servers) _ names (omega (arith, low, high))).there listed)

-- a notice waits for what it awaits
pub record IsAwaited (o : Opening) (T : List Step) (from : Addr) (m : MapNotifyValue) (x : Notice) : Type 0 where
  pub to : (i : Item) → slice_get (bag o T) x.datagram ≡ Some i → i.to ≡ from
  pub nonce : x.nonce ≡ m.nonce

awaited : (o : Opening) (T : List Step) (from : Addr) (m : MapNotifyValue) (x : Notice) → (went_to from (slice_get (bag o T) x.datagram) && (x.key == m.key_id) && (x.nonce == m.nonce)) ≡ true → IsAwaited o T from m x
awaited o T from m x e =
    let one = and_parts (went_to from (slice_get (bag o T) x.datagram) && (x.key == m.key_id)) (x.nonce == m.nonce) e in
    let two = and_parts (went_to from (slice_get (bag o T) x.datagram)) (x.key == m.key_id) one.0 in
    record { to = λ i is. addr_same i.to from (ap (went_to from) (sym is) ∙ two.0); nonce = (Decides-eqb x.nonce m.nonce).0 one.1 }

module _ (o : Opening) (distinct : AllPairs (λ a b. a ≢ b) (addresses o.config)) (names : NamesServers o.config) (reads : ReadsBack) (T : List Step) (legal : LegalTrace o T) (clean : Clean o T) where
  holds_secret : (node : ℕ) → is_server o.config node ≡ true → (site key : ℕ) → Signs (sites o T node) site key → Contains (secrets_of o T node) (secret_at (sites o T node) site key)
  holds_secret node kind site key signs = subst (λ b. Contains (if b then flat_map (λ s. map (λ k. k.secret) s.keys) (sites o T node) else (etr_config o T node).secret ∷ []) (secret_at (sites o T node) site key)) (sym kind) (signs_in (sites o T node) site key signs)

  -- a notice that was noticed before
  abbrev WasNoticed : ℕ → ℕ → RouterId → Type 0
  WasNoticed server nonce router = (before : Step) × (node : ℕ) × (datagram : ℕ) × Contains T before × (before.line ≡ Line.Noticed node server nonce datagram) × ((router_at o.config node).me ≡ router)

  ended : (from : Addr) (m what : MapNotifyValue) (x : Notice) (item : Item) (server nonce : ℕ) (router : RouterId) (has : List SiteValue) → IsAnswer o T item what → WentOut o has (bag o T) x → IsAwaited o T from m x
      → item.from ≡ from → item.to ≡ address_at o.config server → is_server o.config server ≡ true → m.nonce ≡ what.nonce → nonce ≡ x.nonce → router ≡ x.router → WasNoticed server nonce router
  ended from m what x item server nonce router has ans w a source target kind read number its =
      let went : w.item.to ≡ from = a.to w.item w.place in
      let same : address_at o.config ans.node ≡ address_at o.config w.router = sym ans.from ∙ source ∙ sym went ∙ w.to in
      let who : ans.node ≡ w.router = router_of o.config distinct ans.node w.router ans.kind w.kind same in
      let whom : ans.server ≡ server = server_of o.config distinct server ans.server (sym ans.to ∙ target) kind (lists_server o.config names ans.node ans.server ans.kind ans.listed) in
      let told : x.nonce ≡ m.nonce = a.nonce in
      let nonces : what.nonce ≡ nonce = sym read ∙ sym told ∙ sym number in
      (ans.before, ans.node, ans.datagram, ans.earlier, ans.line ∙ (λ i. Line.Noticed ans.node (whom i) (nonces i) ans.datagram), ap (λ (k : ℕ). (router_at o.config k).me) who ∙ w.same ∙ sym its)

  done : (actor : ℕ) (after : ShownStore) (e : EventValue) (server nonce : ℕ) (router : RouterId) → IsHarmless o T e
      → MayCome (context_of o T (record { event = e; line = Line.Done server router nonce; actor = actor; shown = after })) e (Line.Done server router nonce) → WasNoticed server nonce router
  done actor after e server nonce router harmless row =
      let all = all_known o distinct reads T legal clean in
      let c = comes o T reads (all_from o T legal) (λ i has n is. (all i has n is).below) actor e (Line.Done server router nonce) after tt harmless row in
      let t = context_of o T (record { event = e; line = Line.Done server router nonce; actor = actor; shown = after }) in
      let x : Notice = c.row.notice in
      let w = all_went_out o distinct reads T legal clean actor x (in_find (awaits t c.arrival.from c.row.message) (notices o T actor) x c.row.stands) in
      let a = awaited o T c.arrival.from c.row.message x (find_true (awaits t c.arrival.from c.row.message) (notices o T actor) x c.row.stands) in
      let acts : actor ≡ server = c.row.acts.acts in
      let origin = c.origin c.row.message c.row.read _ (holds_secret actor (ap (is_server o.config) acts ∙ c.row.acts.kind) x.router.site x.key w.signs) (signed_under (known_secret (sites o T actor) x.router.site x.key) c.arrival.bytes c.row.authentic) in
      let ans = all_answers o distinct reads T legal clean origin.item origin.sent origin.what origin.says (◌∙◌ {a = origin.what.ack} {b = c.row.message.ack} {c = true} (sym origin.head.ack) c.row.ack) in
      ended c.arrival.from c.row.message origin.what x origin.item server nonce router (sites o T actor) ans w a origin.source (subst (λ (k : ℕ). origin.item.to ≡ address_at o.config k) acts origin.target) c.row.acts.kind origin.head.nonce c.row.number c.row.who

-- What clean traces promise too.

item_reads_back : ReadsBack
unfolding bytes_of
item_reads_back i said = reads_back i.message _ said (length-tag i.secret _ 16)

pub accepted_was_sent : (o : Opening) (T : List Step) → IsNetwork o.config → LegalTrace o T → Clean o T → AcceptedWasSent o T
accepted_was_sent o T distinct legal clean = messages_were_sent o distinct.addresses item_reads_back T legal clean

pub held_agree : (o : Opening) (T : List Step) → IsNetwork o.config → LegalTrace o T → Clean o T → HeldAgree o T
held_agree o T distinct legal clean = rows_agree o distinct item_reads_back T legal clean

pub held_was_sent : (o : Opening) (T : List Step) → IsNetwork o.config → LegalTrace o T → Clean o T → HeldWasSent o T
held_was_sent o T distinct legal clean = rows_were_sent o distinct item_reads_back T legal clean

pub counted_was_accepted : (o : Opening) (T : List Step) → IsNetwork o.config → LegalTrace o T → Clean o T → CountedWasAccepted o T
counted_was_accepted o T distinct legal clean = nonces_were_accepted o distinct.addresses item_reads_back T legal clean

pub done_was_noticed : (o : Opening) (T : List Step) (s : Step) → IsNetwork o.config → LegalTrace o (s ∷ T) → Clean o (s ∷ T) → DoneWasNoticed o T s
done_was_noticed o T s distinct legal clean server nonce router is =
    done o distinct.addresses distinct.servers item_reads_back T legal.1 clean.1 s.actor s.shown s.event server nonce router clean.0 (subst (λ (line : Line). MayCome (context_of o T s) s.event line) is legal.0.row)
