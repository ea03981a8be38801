-- A node's step leaves the parts of the other nodes.
use Rattle.std.proofs.Common.{◌≡◌, ℕ, ◌+◌, Bool, true, false, List, [], ◌∷◌, ◌++◌, Option, Some, None, refl, subst, sym, ap, ◌∙◌, true≢false, arith}
use Rattle.std.specs.Prelude.{◌≢◌, ◌==◌, ◌&&◌, if◌then◌else◌}
use Rattle.std.proofs.lemmas.Bool.{cases_eq, false_from_ne_true}
use Rattle.std.proofs.lemmas.Bool.Decides.{Decides-eqb}
use Rattle.lisp_records.specs.Record.{MapRecordValue}
use Rattle.lisp_policy.specs.Configuration.{ConfigValue}
use Rattle.lisp_policy.specs.Site.{SiteValue}
use Rattle.lisp_model.specs.Trace.{EventValue, Step, Opening, shown_store, clock, time_of, up_after, key_after, sites_after, database_after, is_server, Event, Line, Refusal}
use Rattle.lisp_model.specs.Keys.{keys_since_loss_after, keys_before_loss_after}
use Rattle.lisp_model.specs.Held.{Acceptance}
use Rattle.lisp_model.specs.Timers.{RoundTimes, Notice, round_after, notices_after, last_notice_after}
use Rattle.lisp_model.specs.Bag.{since_start_after}
use Rattle.lisp_model.specs.Life.{began_after}
use Rattle.lisp_model.specs.Accepted.{acceptances_after, tried_nonces_after, acceptances, acceptances_in_step}
use Rattle.lisp_model.specs.Counted.{latest_nonce_after, acked_after}
use Rattle.lisp_model.specs.Sending.{last_sent_after, start_values_after}
use Rattle.lisp_model.specs.Legal.{Legal, context_of, LegalTrace}
use Rattle.lisp_model.specs.Promises.{is_timeless, LeavesOthers, notice_nonces, notice_nonces_after}
use Rattle.lisp_model.specs.Context.{Context}
use Rattle.lisp_model.proofs.HeardLines.{IsBy}
use Rattle.lisp_model.proofs.Rows.{NamedBy, tells, Following}
use Rattle.lisp_admission.specs.declared.refused.Refused.{Refused}
use Rattle.lisp_model.proofs.ListLemmas.{cases}

-- a choice by two numbers that differ
pub other_number : (a b : ℕ) → a ≢ b → (a == b) ≡ false
other_number a b differ = false_from_ne_true (a == b) (λ e. differ ((Decides-eqb a b).0 e))

pub same_number : (a : ℕ) → (a == a) ≡ true
same_number a = (Decides-eqb a a).1 refl

-- and by two that are equal
pub here : (P : Bool → Type 0) (a b : ℕ) → a ≡ b → P true → P (a == b)
here P a b same holds = subst P (sym (ap (λ n. n == b) same ∙ same_number b)) holds

pub unless : {X : Type 0} (a b : ℕ) (x y : X) → a ≢ b → (if a == b then x else y) ≡ y
unless a b x y differ = ap (λ t. if t then x else y) (other_number a b differ)

pub unless_all : {X : Type 0} (a b : ℕ) (q r : Bool) (x y : X) → a ≢ b → (if a == b && q && r then x else y) ≡ y
unless_all a b q r x y differ = ap (λ t. if t && q && r then x else y) (other_number a b differ)

-- what holds of the node that acts, and of each other one, holds of each
pub of_each : (P : ℕ → Type 0) (node : ℕ) → P node → ((k : ℕ) → k ≢ node → P k) → (k : ℕ) → P k
of_each P node own others k = cases (cases_eq node k)
    (λ same. subst P same own)
    (λ differ. others k (λ e. differ (sym e)))

module _ (node k : ℕ) (other : k ≢ node) where
  pub differs : (a : ℕ) → a ≡ node → a ≢ k
  differs a e same = other (sym same ∙ e)

  pub since_other : (line : Line) → IsBy line node → (new old : List Acceptance) → since_start_after line new k old ≡ old
  since_other (Line.Accepted server _ _ _ _) is new old = unless server k (new ++ old) old (differs server is)
  since_other (Line.Restarted named) is new old = unless named k [] old (differs named is)
  since_other (Line.Renewed server _) is new old = unless server k [] old (differs server is)
  since_other _ is new old = refl

  pub accepted_other : (line : Line) → IsBy line node → (new old : List Acceptance) → acceptances_after line new k old ≡ old
  accepted_other (Line.Accepted server _ _ _ _) is new old = unless server k (new ++ old) old (differs server is)
  accepted_other _ is new old = refl

  pub tried_other : (line : Line) → IsBy line node → (new old : List ℕ) → tried_nonces_after line new k old ≡ old
  tried_other (Line.Accepted server _ _ _ _) is new old = unless server k (new ++ old) old (differs server is)
  tried_other (Line.Refused named (Refusal.Receive (Refused.StoreSave _))) is new old = unless named k (new ++ old) old (differs named is)
  tried_other _ is new old = refl

  pub notices_other : (c : ConfigValue) (line : Line) → IsBy line node → (now : ℕ) (old : List Notice) → notices_after c line now k old ≡ old
  notices_other c (Line.Notice server _ _ _ _) is now old = unless server k _ old (differs server is)
  notices_other c (Line.Resent server _ _) is now old = unless server k _ old (differs server is)
  notices_other c (Line.Done server _ _) is now old = unless server k _ old (differs server is)
  notices_other c (Line.Restarted named) is now old = unless named k _ old (differs named is)
  notices_other c (Line.Renewed server _) is now old = unless server k _ old (differs server is)
  notices_other c _ is now old = refl

  pub last_notice_other : (line : Line) → IsBy line node → (old : Option ℕ) → last_notice_after line k old ≡ old
  last_notice_other (Line.Notice server _ _ nonce _) is old = unless server k (Some nonce) old (differs server is)
  last_notice_other (Line.Restarted named) is old = unless named k None old (differs named is)
  last_notice_other (Line.Renewed server _) is old = unless server k None old (differs server is)
  last_notice_other _ is old = refl

  pub began_other : (line : Line) → IsBy line node → (now old : ℕ) → began_after line now k old ≡ old
  began_other (Line.Restarted named) is now old = unless named k now old (differs named is)
  began_other (Line.Renewed server _) is now old = unless server k now old (differs server is)
  began_other _ is now old = refl

  pub up_other : (e : EventValue) (line : Line) → IsBy line node → (old : Bool) → up_after e line k old ≡ old
  up_other (Event.Restart _ _ _) (Line.Refused named _) is old = unless named k false old (differs named is)
  up_other (Event.Restart _ _ _) (Line.Restarted named) is old = unless named k true old (differs named is)
  up_other (Event.Lose _ _ _) (Line.Refused named _) is old = unless named k false old (differs named is)
  up_other (Event.Lose _ _ _) (Line.Emptied named _) is old = unless named k true old (differs named is)
  up_other _ _ is old = refl

  pub database_other : (e : EventValue) (line : Line) → NamedBy e node → (old : List MapRecordValue) → database_after e line k old ≡ old
  database_other (Event.Change router db) (Line.Changed _ _) is old = unless router k db old (differs router is)
  database_other (Event.Restart named _ (Some db)) _ is old = unless named k db old (differs named is)
  database_other (Event.Lose named _ (Some db)) _ is old = unless named k db old (differs named is)
  database_other _ _ is old = refl

  pub key_other : (e : EventValue) (line : Line) → NamedBy e node → (old : ℕ) → key_after e line k old ≡ old
  key_other (Event.Rotate router key _) (Line.Rotated _ _) is old = unless router k key old (differs router is)
  key_other (Event.Lose router key _) _ is old = unless router k key old (differs router is)
  key_other _ _ is old = refl

  pub sites_other : (e : EventValue) (line : Line) → NamedBy e node → (old : List SiteValue) → sites_after e k old ≡ old
  sites_other (Event.Reload server new) _ is old = unless server k new old (differs server is)
  sites_other _ _ is old = refl

  pub since_loss_other : (e : EventValue) (line : Line) → NamedBy e node → (old : List ℕ) → keys_since_loss_after e line k old ≡ old
  since_loss_other (Event.Rotate router key _) (Line.Rotated _ _) is old = unless router k (key ∷ old) old (differs router is)
  since_loss_other (Event.Lose router key _) _ is old = unless router k (key ∷ []) old (differs router is)
  since_loss_other _ _ is old = refl

  pub before_loss_other : (e : EventValue) (line : Line) → NamedBy e node → (since old : List ℕ) → keys_before_loss_after e k since old ≡ old
  before_loss_other (Event.Lose router key _) _ is since old = unless router k (since ++ old) old (differs router is)
  before_loss_other _ _ is since old = refl

  pub last_sent_other : (line : Line) → IsBy line node → (old : Option ℕ) → last_sent_after line k old ≡ old
  last_sent_other (Line.Sent router _ part _ nonce _) is old = unless router k (Some nonce) old (differs router is)
  last_sent_other (Line.Restarted named) is old = unless named k None old (differs named is)
  last_sent_other (Line.Rotated named _) is old = unless named k None old (differs named is)
  last_sent_other (Line.Emptied named _) is old = unless named k None old (differs named is)
  last_sent_other _ is old = refl

  pub start_values_other : (line : Line) → IsBy line node → (new old : List (Option ℕ)) → start_values_after line new k old ≡ old
  start_values_other (Line.Restarted named) is new old = unless named k new old (differs named is)
  start_values_other (Line.Rotated named _) is new old = unless named k new old (differs named is)
  start_values_other (Line.Emptied named _) is new old = unless named k new old (differs named is)
  start_values_other _ is new old = refl

  pub round_other : (line : Line) → IsBy line node → (now server part : ℕ) (old : RoundTimes) → round_after line now k server part old ≡ old
  round_other (Line.Changed router _) is now server part old = unless router k _ old (differs router is)
  round_other (Line.Restarted named) is now server part old = unless named k _ old (differs named is)
  round_other (Line.Rotated named _) is now server part old = unless named k _ old (differs named is)
  round_other (Line.Emptied named _) is now server part old = unless named k _ old (differs named is)
  round_other (Line.Sent router s p _ _ _) is now server part old = unless_all router k (s == server) (p == part) _ old (differs router is)
  round_other (Line.Counted router s p _ _) is now server part old = unless_all router k (s == server) (p == part) _ old (differs router is)
  round_other _ is now server part old = refl

  pub latest_other : (line : Line) → IsBy line node → (server part old : ℕ) → latest_nonce_after line k server part old ≡ old
  latest_other (Line.Sent router s p _ nonce _) is server part old = unless_all router k (s == server) (p == part) nonce old (differs router is)
  latest_other (Line.Restarted named) is server part old = unless named k 0 old (differs named is)
  latest_other (Line.Rotated named _) is server part old = unless named k 0 old (differs named is)
  latest_other (Line.Emptied named _) is server part old = unless named k 0 old (differs named is)
  latest_other _ is server part old = refl

  pub acked_other : (line : Line) → IsBy line node → (server part : ℕ) (old : Option (ℕ × ℕ)) → acked_after line k server part old ≡ old
  acked_other (Line.Counted router s p key nonce) is server part old = unless_all router k (s == server) (p == part) _ old (differs router is)
  acked_other (Line.Restarted named) is server part old = unless named k None old (differs named is)
  acked_other (Line.Emptied named _) is server part old = unless named k None old (differs named is)
  acked_other _ is server part old = refl

pub clock_stays : (e : EventValue) → is_timeless e ≡ true → (now : ℕ) → now + time_of e ≡ now
clock_stays (Event.Tick ms) e now = absurd (true≢false (sym e))
clock_stays _ e now = omega arith

-- a legal step leaves the parts of the other nodes
pub leaves_others : (o : Opening) (T : List Step) (s : Step) → Legal o T s → LeavesOthers o T s
leaves_others o T s l =
    let told = tells (context_of o T s) s.event s.line l.row in
    let by = told.by in
    let given = told.named in
    record {
      server = λ k kind other. record {
        shown = unless s.actor k s.shown (shown_store o T k) (differs s.actor k other s.actor refl);
        accepted = accepted_other s.actor k other s.line by _ _;
        since = since_other s.actor k other s.line by _ _;
        notices = notices_other s.actor k other o.config s.line by _ _;
        last_notice = last_notice_other s.actor k other s.line by _;
        began = began_other s.actor k other s.line by _ _;
        sites = sites_other s.actor k other s.event s.line given _;
      };
      router = λ k kind other. record {
        shown = unless s.actor k s.shown (shown_store o T k) (differs s.actor k other s.actor refl);
        is_up = up_other s.actor k other s.event s.line by _;
        key = key_other s.actor k other s.event s.line given _;
        keys_since_loss = since_loss_other s.actor k other s.event s.line given _;
        keys_before_loss = before_loss_other s.actor k other s.event s.line given _ _;
        database = database_other s.actor k other s.event s.line given _;
        last_sent = last_sent_other s.actor k other s.line by _;
        start_values = start_values_other s.actor k other s.line by _ _;
        round = λ server part. round_other s.actor k other s.line by _ server part _;
        latest = λ server part. latest_other s.actor k other s.line by server part _;
        acked = λ server part. acked_other s.actor k other s.line by server part _;
      };
      time = λ timeless. clock_stays s.event timeless (clock T);
      sent = (_, refl);
    }

-- A node that is no Map-Server has accepted nothing, and has sent no notice.

-- the line is a server's, where it says that it accepted a message or sent a notice
abbrev IsByServer : ConfigValue → Line → Type 0
IsByServer c (Line.Accepted server _ _ _ _) = is_server c server ≡ true
IsByServer c (Line.Notice server _ _ _ _) = is_server c server ≡ true
IsByServer c _ = Unit {0}

by_server : (t : Context) (e : EventValue) (line : Line) → Following t e line → IsByServer t.opening.config line
by_server t e (Line.Accepted server router key nonce datagram) follows = follows.row.acts.kind
by_server t e (Line.Notice server router key nonce datagram) follows = follows.2.acts.kind
by_server t e _ follows = tt

module _ (o : Opening) (k : ℕ) (other : is_server o.config k ≡ false) where
  not_server : (server : ℕ) → is_server o.config server ≡ true → server ≢ k
  not_server server its same = true≢false (sym its ∙ ap (is_server o.config) same ∙ other)

  accepts_none : (line : Line) → IsByServer o.config line → (new old : List Acceptance) → acceptances_after line new k old ≡ old
  accepts_none (Line.Accepted server _ _ _ _) its new old = unless server k (new ++ old) old (not_server server its)
  accepts_none _ its new old = refl

  sends_no_notice : (line : Line) → IsByServer o.config line → (old : List ℕ) → notice_nonces_after line k old ≡ old
  sends_no_notice (Line.Notice server _ _ nonce _) its old = unless server k (nonce ∷ old) old (not_server server its)
  sends_no_notice _ its old = refl

  pub none_accepted : (T : List Step) → LegalTrace o T → acceptances o T k ≡ []
  none_accepted [] legal = refl
  none_accepted (s ∷ T) legal = accepts_none s.line (by_server (context_of o T s) s.event s.line (tells (context_of o T s) s.event s.line legal.0.row).follows) (acceptances_in_step o T s) (acceptances o T k) ∙ none_accepted T legal.1

  pub no_notices : (T : List Step) → LegalTrace o T → notice_nonces T k ≡ []
  no_notices [] legal = refl
  no_notices (s ∷ T) legal = sends_no_notice s.line (by_server (context_of o T s) s.event s.line (tells (context_of o T s) s.event s.line legal.0.row).follows) (notice_nonces T k) ∙ no_notices T legal.1
