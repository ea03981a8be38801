-- What a legal step tells, line by line: by which node it is, which event the line follows, and of which pairs the store may have
-- changed. This is the only place that goes through all rows of a legal step.
use Rattle.std.proofs.Common.{◌≡◌, ℕ, Bool, true, false, List, Option, Some, refl, sym, ap, subst, inl, inr, ◌∙◌, true≢false}
use Rattle.std.specs.Prelude.{◌≢◌, ◌⊎◌, if◌then◌else◌}
use Rattle.std.specs.Option.{option_map}
use Rattle.lisp_records.specs.Record.{MapRecordValue}
use Rattle.lisp_policy.specs.Site.{SiteValue}
use Rattle.lisp_nonces.specs.declared.pair.Pair.{Pair}
use Rattle.lisp_nonces.specs.Kept.{Kept, kept_at}
use Rattle.lisp_model.specs.Trace.{EventValue, ShownStore, up_after, key_after, database_after, Event, Fate, Line, Refusal}
use Rattle.lisp_model.specs.Bag.{Arrival, arrival_of, junk_arrival, arrival_in, bag}
use Rattle.lisp_model.specs.Context.{Context, values, values_after, Same}
use Rattle.lisp_model.specs.Keys.{keys_since_loss_after, keys_before_loss_after}
use Rattle.lisp_model.specs.Sending.{IsChanged, IsSent, RefusesToSend, SendFault}
use Rattle.lisp_model.specs.Restarting.{IsRestarted, IsNotStarted}
use Rattle.lisp_model.specs.Reloading.{IsReloaded}
use Rattle.lisp_model.specs.Rotating.{IsRotated, RefusesToRotate, IsEmptied, IsNotStartedUnder, RotateFault}
use Rattle.lisp_model.specs.Receiving.{RefusesMessage, Refused}
use Rattle.lisp_model.specs.Notifying.{IsNotice, IsResent, RefusesNotice, RefusesToResend, NoticeFault}
use Rattle.lisp_model.specs.Legal.{MayCome, Arrives, IsNowhere, IsTicked}
use Rattle.lisp_admission.specs.Pairs.{notice_pair, pair_of}
use Rattle.lisp_model.specs.Sending.{pair_at}
use Rattle.lisp_model.proofs.HeardLines.{IsBy, heard_by}
use Rattle.lisp_nonces.specs.declared.pair.PairKind.{PairKind}

-- the event names that node, if any
abbrev pub NamedBy : EventValue → ℕ → Type 0
NamedBy (Event.Change router _) node = router ≡ node
NamedBy (Event.Send router _ _ _) node = router ≡ node
NamedBy (Event.Junk to _ _) node = to ≡ node
NamedBy (Event.Restart named _ _) node = named ≡ node
NamedBy (Event.Rotate router _ _) node = router ≡ node
NamedBy (Event.Lose router _ _) node = router ≡ node
NamedBy (Event.Notice server _ _) node = server ≡ node
NamedBy (Event.Resend server _) node = server ≡ node
NamedBy (Event.Reload server _) node = server ≡ node
NamedBy _ node = Unit {0}

-- the line may change what the store keeps for all pairs, or for those of that kind alone
abbrev pub resets : Line → Bool
resets (Line.Restarted _) = true
resets (Line.Emptied _ _) = true
resets (Line.Refused _ (Refusal.Start _)) = true
resets _ = false

abbrev pub saves : PairKind → Line → Bool
saves PairKind.Sent (Line.Sent _ _ _ _ _ _) = true
saves PairKind.Sent (Line.Refused _ (Refusal.Send (SendFault.Store _))) = true
saves PairKind.Received (Line.Accepted _ _ _ _ _) = true
saves PairKind.Received (Line.Refused _ (Refusal.Receive (Refused.StoreSave _))) = true
saves PairKind.Notice (Line.Notice _ _ _ _ _) = true
saves PairKind.Notice (Line.Refused _ (Refusal.Notice (NoticeFault.StoreSave _))) = true
saves _ _ = false

abbrev pub touches : PairKind → Line → Bool
touches kind line = if resets line then true else saves kind line

-- whether the router that the line names is up, and its keys, may be others
abbrev pub starts : Line → Bool
starts (Line.Restarted _) = true
starts (Line.Rotated _ _) = true
starts (Line.Emptied _ _) = true
starts (Line.Refused _ (Refusal.Start _)) = true
starts _ = false

-- a router's database may be another one, though it doesn't start
abbrev pub changes : Line → Bool
changes (Line.Changed _ _) = true
changes _ = false

-- they are as they were
pub record GoesOn (e : EventValue) (line : Line) : Type 0 where
  pub up : (r : ℕ) (old : Bool) → up_after e line r old ≡ old
  pub key : (r old : ℕ) → key_after e line r old ≡ old
  pub since_loss : (r : ℕ) (old : List ℕ) → keys_since_loss_after e line r old ≡ old
  pub before_loss : (r : ℕ) (since old : List ℕ) → keys_before_loss_after e r since old ≡ old
  pub database : changes line ≡ false → (r : ℕ) (old : List MapRecordValue) → database_after e line r old ≡ old

-- a message arrived, with this row
pub record Arrived (t : Context) (e : EventValue) (line : Line) : Type 0 where
  pub arrival : Arrival
  pub is : arrival_in (bag t.opening t.past) e ≡ Some arrival
  pub row : Arrives t arrival line

-- a refusal, and a line, with the event that it follows and its row
abbrev pub Refusing : Context → EventValue → ℕ → Refusal → Type 0
Refusing t e named (Refusal.Send why) = (server part : ℕ) × (fate : Fate) × (Event.Send named server part fate ≡ e) × RefusesToSend t named server part why
Refusing t e named (Refusal.Start fault) = ((pick : ℕ) × (db : Option (List MapRecordValue)) × (Event.Restart named pick db ≡ e) × IsNotStarted t named pick db named fault)
    ⊎ ((key : ℕ) × (db : Option (List MapRecordValue)) × (Event.Lose named key db ≡ e) × IsNotStartedUnder t named key db named fault)
Refusing t e named (Refusal.Rotate why) = (key : ℕ) × (fate : Fate) × (Event.Rotate named key fate ≡ e) × RefusesToRotate t named key why
Refusing t e named (Refusal.Notice why) = ((router : ℕ) × (fate : Fate) × (Event.Notice named router fate ≡ e) × RefusesNotice t router why)
    ⊎ ((router : ℕ) × (Event.Resend named router ≡ e) × RefusesToResend t router why)
Refusing t e named why = Arrived t e (Line.Refused named why)

abbrev pub Following : Context → EventValue → Line → Type 0
Following t e (Line.Changed named records) = (db : List MapRecordValue) × (Event.Change named db ≡ e) × IsChanged t named db named records
Following t e (Line.Sent router server part key nonce datagram) = (fate : Fate) × (Event.Send router server part fate ≡ e) × IsSent t router server part key nonce datagram
Following t e (Line.Nowhere datagram) = (fate : Fate) × (Event.Deliver datagram fate ≡ e) × IsNowhere t datagram datagram
Following t e (Line.Ticked passed now) = (Event.Tick passed ≡ e) × IsTicked t passed passed now
Following t e (Line.Restarted named) = (pick : ℕ) × (db : Option (List MapRecordValue)) × (Event.Restart named pick db ≡ e) × IsRestarted t named pick db named
Following t e (Line.Rotated named under) = (fate : Fate) × (Event.Rotate named under fate ≡ e) × IsRotated t named under named under
Following t e (Line.Emptied named under) = (db : Option (List MapRecordValue)) × (Event.Lose named under db ≡ e) × IsEmptied t named under db named under
Following t e (Line.Notice server router key nonce datagram) = (fate : Fate) × (Event.Notice server router fate ≡ e) × IsNotice t server router key nonce datagram
Following t e (Line.Resent server router datagram) = (Event.Resend server router ≡ e) × IsResent t server router datagram
Following t e (Line.Reloaded named count) = (new : List SiteValue) × (Event.Reload named new ≡ e) × IsReloaded t named new true named count
Following t e (Line.Renewed named count) = (new : List SiteValue) × (Event.Reload named new ≡ e) × IsReloaded t named new false named count
Following t e (Line.Down named) = Unit {0}
Following t e (Line.Refused named why) = Refusing t e named why
Following t e line = Arrived t e line

-- the values of the pairs of each other kind are as they were
pub record Untouched (t : Context) (line : Line) : Type 0 where
  pub kept : (kind : PairKind) → touches kind line ≡ false → (q : Pair) → q.kind ≡ kind → values_after t q ≡ values t q

pub record Tells (t : Context) (e : EventValue) (line : Line) : Type 0 where
  pub by : IsBy line t.node
  pub named : NamedBy e t.node
  pub stays : Untouched t line
  pub follows : Following t e line

module _ (t : Context) where
  quiet : {line : Line} → Same t → Untouched t line
  quiet same = record { kept = λ kind not q its. ap (λ (k : Kept). kept_at k q) same }

  idle : {line : Line} → t.after ≡ t.before → Untouched t line
  idle same = record { kept = λ kind not q its. ap (λ (s : ShownStore). kept_at s.kept q) same }

  -- one pair changed alone
  beside : {line : Line} (p : Pair) → touches p.kind line ≡ true → ((q : Pair) → q ≢ p → values_after t q ≡ values t q) → Untouched t line
  beside {line} p does others = record { kept = λ kind not q its. others q (λ e. true≢false (sym does ∙ ap (λ k. touches k line) (sym (ap (λ (x : Pair). x.kind) e) ∙ its) ∙ not)) }

  -- all may have changed
  anew : {line : Line} → resets line ≡ true → Untouched t line
  anew {line} does = record { kept = λ kind not q its. absurd (true≢false (sym (ap (λ b. if b then true else saves kind line) does) ∙ not)) }

  send_stays : (node router server part : ℕ) (why : SendFault) → RefusesToSend t router server part why → Untouched t (Line.Refused node (Refusal.Send why))
  send_stays node router server part SendFault.NoServer row = quiet row.1
  send_stays node router server part SendFault.NoPart row = quiet row.2
  send_stays node router server part SendFault.NonceSpent row = quiet row.2
  send_stays node router server part SendFault.OutOfMemory row = quiet row.4
  send_stays node router server part (SendFault.Store fault) row = beside (pair_at t.opening t.past router) refl row.1.fails.others

  message_stays : (node : ℕ) (a : Arrival) (why : Refused) → RefusesMessage t a why → Untouched t (Line.Refused node (Refusal.Receive why))
  message_stays node a (Refused.StoreLoad fault) row = quiet row.fails.same
  message_stays node a (Refused.Replay saved) row = quiet row.same
  message_stays node a (Refused.Jump site saved) row = quiet row.same
  message_stays node a (Refused.Full site full) row = quiet row.same
  message_stays node a Refused.OutOfMemory row = quiet row.2
  message_stays node a (Refused.StoreSave fault) row = beside (pair_of row.message) refl row.fails.others
  message_stays node a _ row = quiet row.1

  notice_stays : (node router : ℕ) (why : NoticeFault) → RefusesNotice t router why → Untouched t (Line.Refused node (Refusal.Notice why))
  notice_stays node router NoticeFault.NotRegistered row = quiet row.1
  notice_stays node router NoticeFault.TooLarge row = quiet row.2
  notice_stays node router (NoticeFault.StoreLoad fault) row = quiet row.2.same
  notice_stays node router NoticeFault.NonceSpent row = quiet row.5
  notice_stays node router NoticeFault.OutOfMemory row = quiet row.2
  notice_stays node router (NoticeFault.StoreSave fault) row = beside notice_pair refl row.2.others
  notice_stays node router NoticeFault.NotDue row = absurd row

  resend_stays : (node router : ℕ) (why : NoticeFault) → RefusesToResend t router why → Untouched t (Line.Refused node (Refusal.Notice why))
  resend_stays node router NoticeFault.NotDue row = quiet row.1
  resend_stays node router NoticeFault.OutOfMemory row = quiet row.1
  resend_stays node router _ row = absurd row

  rotate_stays : (node router key : ℕ) (why : RotateFault) → RefusesToRotate t router key why → Untouched t (Line.Refused node (Refusal.Rotate why))
  rotate_stays node router key RotateFault.SameKey row = quiet row.1
  rotate_stays node router key (RotateFault.Store fault) row = quiet row.1.same

  -- a message that arrives
  module _ (e : EventValue) (a : Arrival) (is : arrival_in (bag t.opening t.past) e ≡ Some a) (named : NamedBy e t.node) where
    arrives : (line : Line) → Arrives t a line → Tells t e line
    arrives (Line.Accepted server router key nonce datagram) row = record { by = sym row.acts.acts; named = named; stays = beside (pair_of row.message) refl row.others; follows = record { arrival = a; is = is; row = row } }
    arrives (Line.Done server router nonce) row = record { by = sym row.acts.acts; named = named; stays = quiet row.same; follows = record { arrival = a; is = is; row = row } }
    arrives (Line.Counted router server part key nonce) row = record { by = heard_by t a _ row; named = named; stays = quiet row.same; follows = record { arrival = a; is = is; row = row } }
    arrives (Line.Noticed router server nonce datagram) row = record { by = heard_by t a _ row; named = named; stays = quiet row.same; follows = record { arrival = a; is = is; row = row } }
    arrives (Line.Down router) row = record { by = sym row.acts.acts; named = named; stays = quiet row.same; follows = tt }
    arrives (Line.Refused node (Refusal.Receive why)) row = record { by = sym row.0.acts; named = named; stays = message_stays node a why row.1; follows = record { arrival = a; is = is; row = row } }
    arrives (Line.Refused node (Refusal.Notify why)) row = record { by = heard_by t a _ row; named = named; stays = quiet row.same; follows = record { arrival = a; is = is; row = row } }
    arrives _ row = absurd row

  -- any legal step
  pub tells : (e : EventValue) (line : Line) → MayCome t e line → Tells t e line
  tells (Event.Change router db) (Line.Changed named records) row = record { by = row.names ∙ sym row.acts.acts; named = sym row.acts.acts; stays = quiet row.same; follows = (db, (λ i. Event.Change (row.names i) db), subst (λ (n : ℕ). IsChanged t n db named records) (sym row.names) row) }
  tells (Event.Change router db) (Line.Down named) row = record { by = row.names ∙ sym row.acts.acts; named = sym row.acts.acts; stays = quiet row.same; follows = tt }
  tells (Event.Send router server part fate) (Line.Sent r s p key nonce datagram) row = record {
    by = row.0 ∙ sym row.3.acts.acts;
    named = sym row.3.acts.acts;
    stays = beside (pair_at t.opening t.past router) refl row.3.saves.others;
    follows = (fate, (λ i. Event.Send (row.0 i) (row.1 i) (row.2 i) fate), subst (λ (x : ℕ × ℕ × ℕ). IsSent t x.0 x.1 x.2 key nonce datagram) (λ i. (sym row.0 i, sym row.1 i, sym row.2 i)) row.3);
  }
  tells (Event.Send router server part fate) (Line.Down named) row = record { by = row.1.names ∙ sym row.1.acts.acts; named = sym row.1.acts.acts; stays = quiet row.1.same; follows = tt }
  tells (Event.Send router server part fate) (Line.Refused named (Refusal.Send why)) row = record { by = row.0 ∙ sym row.2.acts; named = sym row.2.acts; stays = send_stays named router server part why row.3; follows = (server, part, fate, (λ i. Event.Send (row.0 i) server part fate), subst (λ (n : ℕ). RefusesToSend t n server part why) (sym row.0) row.3) }
  tells (Event.Deliver k fate) (Line.Nowhere datagram) row = record { by = tt; named = tt; stays = idle row.idle.same; follows = (fate, (λ i. Event.Deliver (row.names i) fate), subst (λ (n : ℕ). IsNowhere t n datagram) (sym row.names) row) }
  tells (Event.Deliver k fate) line row = arrives (Event.Deliver k fate) (arrival_of row.item) (ap (option_map arrival_of) row.sent) tt line row.arrives
  tells (Event.Junk to from bytes) line row = arrives (Event.Junk to from bytes) (junk_arrival from bytes) refl (sym row.acts) line row.arrives
  tells (Event.Tick ms) (Line.Ticked passed now) row = record { by = tt; named = tt; stays = idle row.idle.same; follows = ((λ i. Event.Tick (row.names i)), subst (λ (n : ℕ). IsTicked t n passed now) (sym row.names) row) }
  tells (Event.Restart node pick db) (Line.Restarted named) row = record { by = row.names ∙ sym row.acts; named = sym row.acts; stays = anew refl; follows = (pick, db, (λ i. Event.Restart (row.names i) pick db), subst (λ (n : ℕ). IsRestarted t n pick db named) (sym row.names) row) }
  tells (Event.Restart node pick db) (Line.Refused named (Refusal.Start fault)) row = record { by = row.names ∙ sym row.acts; named = sym row.acts; stays = anew refl; follows = inl (pick, db, (λ i. Event.Restart (row.names i) pick db), subst (λ (n : ℕ). IsNotStarted t n pick db named fault) (sym row.names) row) }
  tells (Event.Rotate router key fate) (Line.Rotated named under) row = record { by = row.names ∙ sym row.acts.acts; named = sym row.acts.acts; stays = quiet row.same; follows = (fate, (λ i. Event.Rotate (row.names i) (row.to i) fate), subst (λ (x : ℕ × ℕ). IsRotated t x.0 x.1 named under) (λ i. (sym row.names i, sym row.to i)) row) }
  tells (Event.Rotate router key fate) (Line.Down named) row = record { by = row.1.names ∙ sym row.1.acts.acts; named = sym row.1.acts.acts; stays = quiet row.1.same; follows = tt }
  tells (Event.Rotate router key fate) (Line.Refused named (Refusal.Rotate why)) row = record { by = row.0 ∙ sym row.1.acts; named = sym row.1.acts; stays = rotate_stays named router key why row.3; follows = (key, fate, (λ i. Event.Rotate (row.0 i) key fate), subst (λ (n : ℕ). RefusesToRotate t n key why) (sym row.0) row.3) }
  tells (Event.Lose router key db) (Line.Emptied named under) row = record { by = row.names ∙ sym row.lost.acts; named = sym row.lost.acts; stays = anew refl; follows = (db, (λ i. Event.Lose (row.names i) (row.to i) db), subst (λ (x : ℕ × ℕ). IsEmptied t x.0 x.1 db named under) (λ i. (sym row.names i, sym row.to i)) row) }
  tells (Event.Lose router key db) (Line.Refused named (Refusal.Start fault)) row = record { by = row.names ∙ sym row.lost.acts; named = sym row.lost.acts; stays = anew refl; follows = inr (key, db, (λ i. Event.Lose (row.names i) key db), subst (λ (n : ℕ). IsNotStartedUnder t n key db named fault) (sym row.names) row) }
  tells (Event.Notice server router fate) (Line.Notice s r key nonce datagram) row = record { by = row.0 ∙ sym row.2.acts.acts; named = sym row.2.acts.acts; stays = beside notice_pair refl row.2.saves.others; follows = (fate, (λ i. Event.Notice (row.0 i) (row.1 i) fate), subst (λ (x : ℕ × ℕ). IsNotice t x.0 x.1 key nonce datagram) (λ i. (sym row.0 i, sym row.1 i)) row.2) }
  tells (Event.Notice server router fate) (Line.Refused named (Refusal.Notice why)) row = record { by = row.0 ∙ sym row.1.acts; named = sym row.1.acts; stays = notice_stays named router why row.3; follows = inl (router, fate, (λ i. Event.Notice (row.0 i) router fate), row.3) }
  tells (Event.Resend server router) (Line.Resent s r datagram) row = record { by = row.0 ∙ sym row.2.acts.acts; named = sym row.2.acts.acts; stays = quiet row.2.same; follows = ((λ i. Event.Resend (row.0 i) (row.1 i)), subst (λ (x : ℕ × ℕ). IsResent t x.0 x.1 datagram) (λ i. (sym row.0 i, sym row.1 i)) row.2) }
  tells (Event.Resend server router) (Line.Refused named (Refusal.Notice why)) row = record { by = row.0 ∙ sym row.1.acts; named = sym row.1.acts; stays = resend_stays named router why row.3; follows = inr (router, (λ i. Event.Resend (row.0 i) router), row.3) }
  tells (Event.Reload server new) (Line.Reloaded named count) row = record { by = row.names ∙ sym row.acts.acts; named = sym row.acts.acts; stays = quiet row.same; follows = (new, (λ i. Event.Reload (row.names i) new), subst (λ (n : ℕ). IsReloaded t n new true named count) (sym row.names) row) }
  tells (Event.Reload server new) (Line.Renewed named count) row = record { by = row.names ∙ sym row.acts.acts; named = sym row.acts.acts; stays = quiet row.same; follows = (new, (λ i. Event.Reload (row.names i) new), subst (λ (n : ℕ). IsReloaded t n new false named count) (sym row.names) row) }
  tells _ _ row = absurd row

  pub goes_on : (e : EventValue) (line : Line) → MayCome t e line → starts line ≡ false → GoesOn e line
  goes_on (Event.Restart _ _ _) (Line.Restarted _) row none = absurd (true≢false none)
  goes_on (Event.Restart _ _ _) (Line.Refused _ (Refusal.Start _)) row none = absurd (true≢false none)
  goes_on (Event.Restart _ _ _) _ row none = absurd row
  goes_on (Event.Rotate _ _ _) (Line.Rotated _ _) row none = absurd (true≢false none)
  goes_on (Event.Lose _ _ _) (Line.Emptied _ _) row none = absurd (true≢false none)
  goes_on (Event.Lose _ _ _) (Line.Refused _ (Refusal.Start _)) row none = absurd (true≢false none)
  goes_on (Event.Lose _ _ _) _ row none = absurd row
  goes_on (Event.Change _ _) (Line.Changed _ _) row none = record { up = λ r old. refl; key = λ r old. refl; since_loss = λ r old. refl; before_loss = λ r since old. refl; database = λ not r old. absurd (true≢false not) }
  goes_on _ _ row none = record { up = λ r old. refl; key = λ r old. refl; since_loss = λ r old. refl; before_loss = λ r since old. refl; database = λ not r old. refl }
