-- A Map-Server takes other sites: where they have all that its own had it goes on with what it holds, else as one that has just started.
use Rattle.std.proofs.Common.{◌≡◌, ℕ, Bool, true, false, List, [], ◌∷◌, ◌++◌, length, None, refl, sym, ap, subst, ◌∙◌, arith}
use Rattle.std.specs.Prelude.{if◌then◌else◌}
use Rattle.lisp_policy.specs.Site.{SiteValue}
use Rattle.lisp_policy.specs.Extends.{extends}
use Rattle.lisp_admission.specs.Pairs.{notice_pair}
use Rattle.lisp_server.specs.Contacts.{contact_at}
use Rattle.lisp_server.specs.LastNonces.{nonce_at}
use Rattle.lisp_server.specs.Notices.{StandingNoticeValue, notice_at}
use Rattle.lisp_server.specs.Server.{ServerState, empty_server}
use Rattle.lisp_model.specs.declared.event.Event.TheVariants as events
use Rattle.lisp_model.specs.declared.line.Line.{Line}
use Rattle.lisp_model.specs.Trace.{Step, Opening, sites, shown_store, clock, ShownStore}
use Rattle.lisp_model.specs.Timers.{notices, notice_to, last_notice}
use Rattle.lisp_model.specs.Bag.{bag, since_start}
use Rattle.lisp_model.specs.Life.{began}
use Rattle.lisp_model.specs.Legal.{MayCome, context_of}
use Rattle.lisp_model.specs.Reloading.{IsReloaded}
use Rattle.lisp_refinement.specs.World.{ServerNodeState, WorldState}
use Rattle.lisp_refinement.specs.Events.{reload_line, NetworkReloads}
use Rattle.lisp_refinement.specs.Stands.{Shows, SameNotice, StandsForServer, Stands}
use Rattle.lisp_refinement.proofs.Acting.{here, notice_goes, adds_none, server_is, server_acts}
use Rattle.lisp_refinement.proofs.Restarting.{fresh_stands}

module _ (old new : WorldState) (server : ℕ) (given : List SiteValue) (line : Line) (turn : NetworkReloads old new server given line) (o : Opening) (T : List Step) (stand : Stands old o T) where
  -- the Map-Server before, and afterwards
  abbrev before : ServerNodeState
  before = turn.acts.before

  abbrev after : ServerNodeState
  after = turn.acts.after

  part : StandsForServer o T server before
  part = stand.servers server before turn.acts.was

  -- the step; its store isn't used
  abbrev step : Bool → Step
  step kept = record { event = events.Reload server given; line = reload_line server kept (length given); actor = server; shown = shown_store o T server }

  reloads : (kept : Bool) → extends before.core.sites given ≡ kept → IsReloaded (context_of o T (step kept)) server given kept server (length given)
  reloads kept is = record {
    acts = record { kind = server_is old o T stand server before turn.acts.was; acts = refl };
    names = refl;
    counts = refl;
    keeps = ap (λ (has : List SiteValue). extends has given) (sym part.sites) ∙ is;
    same = refl;
  }

  row : (kept : Bool) → extends before.core.sites given ≡ kept → MayCome (context_of o T (step kept)) (events.Reload server given) (reload_line server kept (length given))
  row true is = reloads true is
  row false is = reloads false is

  -- the sites are the given ones
  takes : (kept : Bool) → sites o (step kept ∷ T) server ≡ given
  takes kept = here server given (sites o T server)

  core_is : (kept : Bool) → extends before.core.sites given ≡ kept → after.core ≡ (if kept then record before.core { sites = given } else empty_server given)
  core_is kept is = turn.reloads.core ∙ ap (λ (b : Bool). if b then record before.core { sites = given } else empty_server given) is

  life_is : (kept : Bool) → extends before.core.sites given ≡ kept → after.started ≡ (if kept then before.started else old.clock)
  life_is kept is = turn.reloads.started ∙ ap (λ (b : Bool). if b then before.started else old.clock) is

  -- it goes on with what it holds
  module _ (is : extends before.core.sites given ≡ true) where
    time : clock (step true ∷ T) ≡ clock T
    time = omega arith

    kept_core : after.core ≡ record before.core { sites = given }
    kept_core = core_is true is

    kept_part : StandsForServer o (step true ∷ T) server after
    kept_part = record {
      sites = ap (λ (c : ServerState). c.sites) kept_core ∙ sym (takes true);
      rows = λ router eid. rw (time, ap (λ (c : ServerState). c.rows) kept_core) (part.rows router eid);
      nonces = λ pair other. ap (λ (c : ServerState). nonce_at c.nonces pair) kept_core ∙ part.nonces pair other;
      notice_nonce = ap (λ (c : ServerState). nonce_at c.nonces notice_pair) kept_core ∙ part.notice_nonce;
      contacts = λ router eid h held. ap (λ (c : ServerState). contact_at c.contacts router) kept_core ∙ part.contacts router eid h (rw time at held);
      notices = λ router. subst (λ (ns : List StandingNoticeValue). SameNotice o (step true ∷ T) server (notice_to o T server router) (notice_at ns router)) (sym (ap (λ (c : ServerState). c.notices) kept_core))
          (notice_goes o T (step true ∷ T) server ([], refl) (notice_to o T server router) (notice_at before.core.notices router) (part.notices router));
      started = life_is true is ∙ part.started;
    }

  -- it starts anew
  module _ (is : extends before.core.sites given ≡ false) where
    fresh_part : StandsForServer o (step false ∷ T) server after
    fresh_part = fresh_stands o (step false ∷ T) server after given
        (core_is false is) (sym (takes false)) (here server [] (since_start o T server)) (here server [] (notices o T server)) (here server None (last_notice T server))
        (life_is false is ∙ stand.bag.moment ∙ sym (here server (clock T) (began T server)))

  -- the network stands for the trace with the step
  stands : (kept : Bool) → extends before.core.sites given ≡ kept → StandsForServer o (step kept ∷ T) server after → Stands new o (record (step kept) { line = line } ∷ T)
  stands kept is its = subst (λ (l : Line). Stands new o (record (step kept) { line = l } ∷ T)) (sym (turn.said ∙ ap (λ (b : Bool). reload_line server b (length given)) is))
      (server_acts old new server [] turn.acts o T (step kept) stand refl refl (
      (record { faults = λ other. omega arith; obedient = refl; row = row kept is })) (adds_none o T (step kept) (added kept))
      (subst (λ store. Shows store (shown_store o T server)) (sym turn.reloads.store) (stand.steps.server_stores server before turn.acts.was)) its)
    where
      added : (b : Bool) → bag o (step b ∷ T) ≡ bag o T ++ []
      added true = refl
      added false = refl

  pub reload_stands : (actor : ℕ) × (s : ShownStore) × Stands new o (record { event = events.Reload server given; line = line; actor = actor; shown = s } ∷ T)
  reload_stands = (server, shown_store o T server, by (extends before.core.sites given) refl)
    where
      by : (kept : Bool) → extends before.core.sites given ≡ kept → Stands new o (record { event = events.Reload server given; line = line; actor = server; shown = shown_store o T server } ∷ T)
      by true is = stands true is (kept_part is)
      by false is = stands false is (fresh_part is)
