-- What routers sent, by the steps in which they did.
use Rattle.std.proofs.Common.{◌≡◌, ℕ, ◌+◌, ◌-◌, ◌<◌, ◌≤◌, true, List, [], ◌∷◌, ◌++◌, length, refl, sym, ap, subst, inl, inr, ◌∙◌, Bool, false, Some}
use Rattle.std.specs.Prelude.{◌≢◌, ◌⊎◌, ◌==◌}
use Rattle.std.specs.List.{Contains}
use Rattle.std.proofs.lemmas.List.Elements.{Contains-append_right}
use Rattle.std.proofs.lemmas.Bool.Decides.{Decides-eqb}
use Rattle.lisp_records.specs.Parts.{part_at}
use Rattle.lisp_records.specs.declared.address.Addr.{Addr}
use Rattle.lisp_messages.specs.Message.{MapRegisterValue}
use Rattle.lisp_etr.specs.Sending.{map_register_of}
use Rattle.lisp_model.specs.declared.event.Event.TheVariants as events
use Rattle.lisp_model.specs.declared.line.Line.{Line}
use Rattle.lisp_model.specs.declared.line.Line.TheVariants as lines
use Rattle.lisp_model.specs.Trace.{EventValue, Step, Opening, address_at, database, is_router, router_at, etr_config_of}
use Rattle.lisp_model.specs.History.{SentRegister, sent_registers_in, history, message_of}
use Rattle.lisp_model.specs.Context.{Context}
use Rattle.lisp_model.specs.Legal.{MayCome, LegalTrace, context_of}
use Rattle.lisp_model.proofs.ListLemmas.{at_head, head_or_tail, in_none}
use Rattle.lisp_records.specs.Database.{record_for}
use Rattle.lisp_records.specs.Record.{MapRecordValue}
use Rattle.lisp_records.specs.Row.{RowValue}
use Rattle.lisp_admission.specs.Pairs.{router_of}
use Rattle.lisp_admission.specs.AcceptedRows.{row_value}
use Rattle.lisp_model.specs.Held.{Acceptance}
use Rattle.lisp_model.specs.Change.{gives_database, Keeps, NoChange}
use Rattle.lisp_model.specs.Network.{IsNetwork}
use Rattle.lisp_refinement.specs.World.{WorldState}
use Rattle.lisp_refinement.specs.Headline.{Lists, IsSentRow, ListedWasSent, ListedAgree}
use Rattle.lisp_client.specs.Steps.{IsIn, WasSent, IsSentIn, IsAcceptedIn, GivesNoDatabase, UnchangedBetween}
use Rattle.lisp_client.specs.Promised.{WasRegistered, RowsAgree}
use Rattle.lisp_client.proofs.Steps.{here, later, goes_up, legal_at, IsPlaced, placed, WasAcceptedSince, was_accepted_since}
use Rattle.lisp_model.proofs.Rows.{tells}
use Rattle.lisp_model.proofs.CleanLaws.{one_router}

-- the entry of a step
abbrev pub entry_of : Opening → List Step → ℕ → ℕ → ℕ → ℕ → ℕ → SentRegister
entry_of o before node server part key nonce = record { router = node; key = key; nonce = nonce; server = server; database = database o before node; part = part; position = length before }

-- an entry was made by a step that sent
pub record WasEntered (o : Opening) (T : List Step) (e : SentRegister) : Type 0 where
  pub step : Step
  pub before : List Step
  pub there : IsIn T step before
  pub datagram : ℕ
  pub line : step.line ≡ lines.Sent e.router e.server e.part e.key e.nonce datagram
  pub had : e.database ≡ database o before e.router
  pub place : e.position ≡ length before

module _ (o : Opening) where
  now_entered : (s : Step) (T : List Step) (line : Line) → s.line ≡ line → (e : SentRegister) → Contains (sent_registers_in o T line ++ history o T) e → (Contains (history o T) e → WasEntered o T e) → WasEntered o (s ∷ T) e
  now_entered s T (lines.Sent node server part key nonce datagram) is e has go = by (head_or_tail (entry_of o T node server part key nonce) (history o T) e has)
    where
      by : (e ≡ entry_of o T node server part key nonce) ⊎ Contains (history o T) e → WasEntered o (s ∷ T) e
      by (inl same) = subst (λ (f : SentRegister). WasEntered o (s ∷ T) f) (sym same) (record { step = s; before = T; there = here s T; datagram = datagram; line = is; had = refl; place = refl })
      by (inr old) = let w = go old in record { step = w.step; before = w.before; there = later s T w.step w.before w.there; datagram = w.datagram; line = w.line; had = w.had; place = w.place }
  now_entered s T _ is e has go = let w = go has in record { step = w.step; before = w.before; there = later s T w.step w.before w.there; datagram = w.datagram; line = w.line; had = w.had; place = w.place }

  pub was_entered : (T : List Step) (e : SentRegister) → Contains (history o T) e → WasEntered o T e
  was_entered [] e has = absurd (in_none e has)
  was_entered (s ∷ T) e has = now_entered s T s.line refl e has (was_entered T e)

  -- and each step that sends makes one
  pub enters : (T : List Step) (s : Step) (before : List Step) → IsIn T s before → (node server part key nonce datagram : ℕ) → s.line ≡ lines.Sent node server part key nonce datagram → Contains (history o T) (entry_of o before node server part key nonce)
  enters T s before there node server part key nonce datagram is =
      let e = entry_of o before node server part key nonce in
      goes_up (λ (U : List Step). Contains (history o U) e) (λ x U. Contains-append_right (sent_registers_in o U x.line) (history o U) e) T s before there
      (subst (λ (line : Line). Contains (sent_registers_in o before line ++ history o before) e) (sym is) (at_head e (history o before)))

  -- the key and the nonce of an entry's message
  pub entered_key : (message : MapRegisterValue) (e : SentRegister) → message ≡ message_of o.config e → e.key ≡ message.key_id
  entered_key message e is = ap (λ (m : MapRegisterValue). m.key_id) (sym is)

  pub entered_nonce : (message : MapRegisterValue) (e : SentRegister) → message ≡ message_of o.config e → e.nonce ≡ message.nonce
  entered_nonce message e is = ap (λ (m : MapRegisterValue). m.nonce) (sym is)

  -- the message of an entry was sent
  abbrev pub was_sent : (T : List Step) (server : ℕ) (message : MapRegisterValue) (from : Addr) (e : SentRegister) → e.server ≡ server → message ≡ message_of o.config e → from ≡ address_at o.config e.router
      → (w : WasEntered o T e) → WasSent o T server message from e.router w.step w.before
  was_sent T server message from e whom is source w = record {
    there = w.there;
    part = e.part;
    datagram = w.datagram;
    line = w.line ∙ (λ i. lines.Sent e.router (whom i) e.part (entered_key message e is i) (entered_nonce message e is i) w.datagram);
    source = source;
    message_is = is
        ∙ (λ i. map_register_of (record (etr_config_of o.config (router_at o.config e.router)) { key_id = entered_key message e is i }) (part_at (w.had i) e.part) (entered_nonce message e is i));
  }

  -- who sends is a router
  sends : (t : Context) (e : EventValue) (node server part key nonce datagram : ℕ) → MayCome t e (lines.Sent node server part key nonce datagram) → is_router t.opening.config node ≡ true
  sends t e node s p key nonce datagram row = (tells t e (lines.Sent node s p key nonce datagram) row).follows.2.acts.kind

  pub router_sends : (T : List Step) → LegalTrace o T → (s : Step) (before : List Step) → IsIn T s before → (node server part key nonce datagram : ℕ) → s.line ≡ lines.Sent node server part key nonce datagram → is_router o.config node ≡ true
  router_sends T legal s before there node server part key nonce datagram is =
      sends (context_of o before s) s.event node server part key nonce datagram (subst (λ (line : Line). MayCome (context_of o before s) s.event line) is (legal_at o T legal s before there).0.row)

-- Rows that two Map-Servers list: what they were made of, and that they agree.

-- a row was made of what was accepted, and that was sent
module _ (o : Opening) (T : List Step) (legal : LegalTrace o T) (server : ℕ) (row : RowValue) where
  module _ (x : Acceptance) (made : row ≡ row_value x.message x.from x.moment row.mapping) where
    its_router : row.router ≡ router_of x.message
    its_router = ap (λ (h : RowValue). h.router) made

    its_key : row.key ≡ x.message.key_id
    its_key = ap (λ (h : RowValue). h.key) made

    its_nonce : row.nonce ≡ x.message.nonce
    its_nonce = ap (λ (h : RowValue). h.nonce) made

    abbrev row_accepted : (w : WasAcceptedSince o server x T) → IsAcceptedIn o T server row w.step w.before
    row_accepted w = record {
      there = w.there;
      arrived = record {
        arrival = w.how.taken.arrived.arrival;
        comes = w.how.taken.arrived.comes;
        message = w.how.taken.arrived.message;
        read = w.how.taken.arrived.read;
        who = w.how.taken.arrived.who ∙ sym its_router;
        under = w.how.taken.arrived.under ∙ sym its_key;
        number = w.how.taken.arrived.number ∙ sym its_nonce;
      };
      reply = w.how.reply;
      line = w.how.line ∙ (λ i. lines.Accepted server (sym its_router i) (sym its_key i) (sym its_nonce i) w.how.reply);
      made = made ∙ ap (λ (y : Acceptance). row_value y.message y.from y.moment row.mapping) w.how.taken.is;
      no_start = w.no_start;
    }

  pub registered : (e : SentRegister) → IsSentRow o T server row e → WasRegistered o T server row
  registered e sent =
      let x = sent.made.acceptance in
      let w = was_accepted_since o server x T legal sent.made.taken in
      let is = sent.made.message in
      let v = was_entered o T e sent.sent in
      record {
        accepting = w.step;
        before_accepting = w.before;
        accepted = row_accepted x sent.made.row w;
        node = e.router;
        sending = v.step;
        before_sending = v.before;
        sent = was_sent o T server w.how.taken.arrived.message w.how.taken.arrived.arrival.from e is.whom
            (ap (λ (y : Acceptance). y.message) (sym w.how.taken.is) ∙ is.message) (ap (λ (y : Acceptance). y.from) (sym w.how.taken.is) ∙ is.from) v;
        record_of = ap (λ (db : List MapRecordValue). record_for db row.mapping.eid) (sym v.had) ∙ sent.record_of;
      }

-- an event that gives no database
gives_none : (e : EventValue) (node : ℕ) → GivesNoDatabase e node → gives_database e node ≡ false
gives_none (events.Change router db) node none = by (router == node) refl
  where
    by : (b : Bool) → (router == node) ≡ b → b ≡ false
    by true same = absurd (none.0 db (ap (λ (n : ℕ). events.Change n db) ((Decides-eqb router node).0 same)))
    by false other = refl
gives_none (events.Restart router pick (Some db)) node none = by (router == node) refl
  where
    by : (b : Bool) → (router == node) ≡ b → b ≡ false
    by true same = absurd (none.1 pick db (ap (λ (n : ℕ). events.Restart n pick (Some db)) ((Decides-eqb router node).0 same)))
    by false other = refl
gives_none (events.Lose router key (Some db)) node none = by (router == node) refl
  where
    by : (b : Bool) → (router == node) ≡ b → b ≡ false
    by true same = absurd (none.2 key db (ap (λ (n : ℕ). events.Lose n key (Some db)) ((Decides-eqb router node).0 same)))
    by false other = refl
gives_none _ node none = refl

-- no step with a place between two gives one
keeps : (T : List Step) (node : ℕ) (one other : List Step) → UnchangedBetween T node one other → Keeps T node (length one) (length other) × Keeps T node (length other) (length one)
keeps T node one other none = (λ place s low high is. forth place s low high (placed T place s is), λ place s low high is. back place s low high (placed T place s is))
  where
    forth : (place : ℕ) (s : Step) → length one < place → place < length other → IsPlaced T place s → gives_database s.event node ≡ false
    forth place s low high p = gives_none s.event node (none s p.before p.there
        (inl (subst (λ (k : ℕ). length one < k) (sym p.place_is) low, subst (λ (k : ℕ). k < length other) (sym p.place_is) high)))

    back : (place : ℕ) (s : Step) → length other < place → place < length one → IsPlaced T place s → gives_database s.event node ≡ false
    back place s low high p = gives_none s.event node (none s p.before p.there
        (inr (subst (λ (k : ℕ). length other < k) (sym p.place_is) low, subst (λ (k : ℕ). k < length one) (sym p.place_is) high)))

module _ (o : Opening) (T : List Step) (legal : LegalTrace o T) (network : IsNetwork o.config) where
  -- the entry of a row is that of each step in which its router sent it
  pub same_entry : (server : ℕ) (row : RowValue) (e : SentRegister) → IsSentRow o T server row e → (node : ℕ) (s : Step) (before : List Step) (at : IsSentIn o T server row node s before)
      → entry_of o before node server at.part row.key row.nonce ≡ e
  same_entry server row e sent node s before at =
      let w = was_entered o T e sent.sent in
      let number = one_router o.config network.routers node e.router
      (router_sends o T legal s before at.there node server at.part row.key row.nonce at.datagram at.line)
      (router_sends o T legal w.step w.before w.there e.router e.server e.part e.key e.nonce w.datagram w.line) (at.who ∙ sent.of.router) in
      sent.made.message.only (entry_of o before node server at.part row.key row.nonce) (enters o T s before at.there node server at.part row.key row.nonce at.datagram at.line) number sent.of.key sent.of.nonce

-- rows that were sent with no change between agree
pub agree : (w : WorldState) (o : Opening) (T : List Step) → LegalTrace o T → IsNetwork o.config → ListedWasSent w o T → ListedAgree w o T
    → (one other : ℕ) (listed listed_by_other : List RowValue) → Lists w one listed → Lists w other listed_by_other → RowsAgree o T one other listed listed_by_other
agree w o T legal network were_sent equal one other listed listed_by_other lists lists_other g h has_g has_h router eid node s t before_s before_t sent_g sent_h none =
    let row_g = were_sent one listed lists g has_g in
    let row_h = were_sent other listed_by_other lists_other h has_h in
    let same_g = same_entry o T legal network one g row_g.0 row_g.1 node s before_s sent_g in
    let same_h = same_entry o T legal network other h row_h.0 row_h.1 node t before_t sent_h in
    let both = keeps T node before_s before_t none in
    let no_change : NoChange T (entry_of o before_s node one sent_g.part g.key g.nonce) (entry_of o before_t node other sent_h.part h.key h.nonce) = record { router = refl; later = both.0; earlier = both.1 } in
    equal one other listed listed_by_other lists lists_other g h has_g has_h router eid row_g.0 row_h.0 row_g.1 row_h.1
    (subst (λ (e : SentRegister). NoChange T row_g.0 e) same_h (subst (λ (d : SentRegister). NoChange T d (entry_of o before_t node other sent_h.part h.key h.nonce)) same_g no_change))
