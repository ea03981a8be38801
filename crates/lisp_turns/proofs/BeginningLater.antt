-- A node that begins when its network is some time old: it began with the network, time passed, and it began again; and a Map-Server took
-- its sites.
use Rattle.std.proofs.Common.{◌≡◌, inl, inr, ℕ, ◌+◌, Bool, true, false, List, [], ◌∷◌, length, Ok, refl, sym, ap, subst, true≢false, ◌∙◌, arith}
use Rattle.std.specs.Prelude.{◌≤◌, IsTrue, if◌then◌else◌}
use Rattle.std.specs.List.{Contains}
use Rattle.lisp_records.specs.Moment.{max_moment}
use Rattle.lisp_policy.specs.Configuration.{ConfigValue}
use Rattle.lisp_policy.specs.Extends.{extends}
use Rattle.lisp_policy.specs.Site.{SiteValue}
use Rattle.lisp_nonces.specs.Kept.{Kept, kept_at, KeepsSome}
use Rattle.lisp_nonces.specs.Store.{StoreState}
use Rattle.lisp_etr.specs.Etr.{etr_started}
use Rattle.lisp_model.specs.declared.event.Event.TheVariants as events
use Rattle.lisp_model.specs.Network.{IsNetwork}
use Rattle.lisp_model.specs.Trace.{Step, Opening}
use Rattle.lisp_server.specs.Server.{empty_server, reloaded}
use Rattle.lisp_refinement.specs.Nodes.{fresh_server}
use Rattle.lisp_refinement.specs.World.{ServerNodeState, RouterNodeState, Up, WorldState}
use Rattle.lisp_refinement.specs.Calls.{config_of, database_of, CoreAnswersStartOver}
use Rattle.lisp_refinement.specs.Reopening.{StoreReopens}
use Rattle.lisp_refinement.specs.Stands.{Stands}
use Rattle.lisp_world.specs.Making.{server_over, IsRouterOver, StartsAt}
use Rattle.lisp_turns.specs.Beginning.{Begins, MayBegin, IsBeginning, BeginningsStand}
use Rattle.lisp_turns.specs.Node.{NodeState, Server, Router, HasNode}
use Rattle.lisp_turns.proofs.Beginnings.{IsOpening, beginnings_open}
use Rattle.lisp_turns.proofs.Restarts.{Restarts, taking, takes_sites, server_again, router_again}
use Rattle.lisp_turns.proofs.Ticking.{idles_may, ticked, ticked_has, tick, tick_stands}

-- a store that is opened as it was left
as_left : (old new : StoreState) → KeepsSome new.kept → new.is_obedient ≡ false → new.kept ≡ old.kept → new.is_honest ≡ old.is_honest → new.is_obedient ≡ old.is_obedient → StoreReopens old new 0
as_left old new some unscheduled kept honest obedient = record {
  narrows = λ is q. record { some = some q; each = λ v has. subst (λ (k : Kept). Contains (kept_at k q) v) kept has };
  picks = λ obeys. absurd (true≢false (sym obeys ∙ sym obedient ∙ unscheduled));
  honest = honest;
  obedient = obedient;
}

-- a node of a network begins
abbrev BeginsIn : ConfigValue → List SiteValue → ℕ → StoreState → ℕ → NodeState → Type 0
BeginsIn c sites number store now node = (w : WorldState) × (o : Opening) × (T : List Step) × IsBeginning c sites number store now node w o T

module _ (c : ConfigValue) (sites : List SiteValue) (number : ℕ) (store : StoreState) (now : ℕ) (bound : now ≤ max_moment) where
  -- time passed in the network of a node that began with it, and it began again
  module _ (first : NodeState) (w : WorldState) (o : Opening) (opens : IsOpening c number store first w o) where
    early : w.clock ≤ now
    early = omega (arith, opens.clock)

    abbrev passed : Step
    passed = tick number first first now w o [] opens.stands opens.has early bound (idles_may first now)

    abbrev waited : WorldState
    waited = ticked number first first now w o [] opens.stands opens.has early bound (idles_may first now)

    begins_again : (node : NodeState) → ((v : WorldState) (T : List Step) → Stands v o T → HasNode v number first → v.clock ≡ now → Restarts number node v o T) → BeginsIn c sites number store now node
    begins_again node restarts =
        let moment : waited.clock ≡ now = omega (arith, early) in
        let again = restarts waited (passed ∷ []) (tick_stands number first first now w o [] opens.stands opens.has early bound (idles_may first now))
        (ticked_has number first first now w o [] opens.stands opens.has early bound (idles_may first now)) moment in (
          again.left,
          o,
          again.step ∷ passed ∷ [],
          record {
            stands = again.stands;
            begun = ([], again.step ∷ passed ∷ [], refl, tt, inr (again.step, passed, refl, again.event_is, again.line_is, ap (λ m. events.Tick m) (omega (arith, opens.clock))));
            config_is = opens.config_is;
            kept = opens.kept;
            has = again.has;
            clock = again.clock ∙ moment;
            bag = again.bag ∙ opens.bag;
          },
        )

  module _ (network : IsNetwork c) (honest : IsTrue store.is_honest) (some : KeepsSome store.kept) (unscheduled : store.is_obedient ≡ false) where
    -- a router: it started with its network as it starts now
    router_later : (place : ℕ) → number ≡ length c.servers + place → (down n : RouterNodeState) → IsRouterOver c place store down → StartsAt down n now → BeginsIn c sites number store now (Router n)
    router_later place number_is down n over starts =
        let opened = beginnings_open c number store (Router first) network honest (place, number_is, down, over, starts_first) in
        begins_again (Router first) opened.0 opened.1 opened.2 (Router n) (λ v T stand has clock.
        router_again number v opened.1 T stand first n down.store has refl refl refl reopens
        (subst (λ m. CoreAnswersStartOver (config_of down.core) (database_of down.core) m down.store n.store n.core (Ok tt)) (sym clock) starts.starts))
      where
        over_store : down.store ≡ store
        over_store = ap (λ (x : RouterNodeState). x.store) over.2

        first : RouterNodeState
        first = record n { core = Up (etr_started (config_of down.core) (database_of down.core) starts.starts.starts.etr.last 0) }

        starts_first : StartsAt down first 0
        starts_first = record {
          me = starts.me;
          servers = starts.servers;
          used = starts.used;
          starts = record {
            starts = record { etr = etr_started (config_of down.core) (database_of down.core) starts.starts.starts.etr.last 0; up = refl; starts = refl; last = starts.starts.starts.last };
            same = starts.starts.same;
            proceeds = starts.starts.proceeds;
          };
        }

        reopens : StoreReopens n.store down.store 0
        reopens = as_left n.store down.store (subst (λ (s : StoreState). KeepsSome s.kept) (sym over_store) some) (ap (λ (s : StoreState). s.is_obedient) over_store ∙ unscheduled)
            (sym (starts.starts.same (subst (λ (s : StoreState). IsTrue s.is_honest) (sym over_store) honest))) (sym starts.starts.proceeds.honest) (sym starts.starts.proceeds.obedient)

    -- a node
    begins_later : (node : NodeState) → Begins c c.sites number store now node → BeginsIn c sites number store now node
    begins_later (Server n) (low, is) =
        let first = server_over c store in
        let opened = beginnings_open c number store (Server first) network honest (low, refl) in
        subst (λ (m : ServerNodeState). BeginsIn c sites number store now (Server m)) (sym is)
        (begins_again (Server first) opened.0 opened.1 opened.2 (Server (record first { started = now })) (λ v T stand has clock.
        server_again number v opened.1 T stand first (record first { started = now }) has refl (as_left store store some unscheduled refl refl refl) (sym clock)))
    begins_later (Router n) (place, number_is, down, over, starts) = router_later place number_is down n over starts

-- a node that begins with its network
begins_with : (c : ConfigValue) (sites : List SiteValue) (number : ℕ) (store : StoreState) (node : NodeState) → IsNetwork c → IsTrue store.is_honest → Begins c c.sites number store 0 node → BeginsIn c sites number store 0 node
begins_with c sites number store node network honest begins =
    let first = beginnings_open c number store node network honest begins in
    let opens = first.2 in
    (first.0, first.1, [], record { stands = opens.stands; begun = ([], [], refl, tt, inl (refl, refl)); config_is = opens.config_is; kept = opens.kept; has = opens.has; clock = opens.clock; bag = opens.bag })

-- or later, under the sites of its configuration
begins_configured : (c : ConfigValue) (sites : List SiteValue) (number : ℕ) (store : StoreState) (now : ℕ) (node : NodeState) → IsNetwork c → MayBegin store now → Begins c c.sites number store now node
    → BeginsIn c sites number store now node
begins_configured c sites number store now node network (honest, inl first) begins =
    subst (λ m. BeginsIn c sites number store m node) (sym first) (begins_with c sites number store node network honest (subst (λ m. Begins c c.sites number store m node) first begins))
begins_configured c sites number store now node network (honest, inr (some, unscheduled, bound)) begins = begins_later c sites number store now bound network honest some unscheduled node begins

-- a Map-Server that holds nothing takes sites
fresh_taken : (old new : List SiteValue) → reloaded (fresh_server old) new ≡ fresh_server new
fresh_taken old new = by (extends old new)
  where
    by : (b : Bool) → (if b then record (fresh_server old) { sites = new } else empty_server new) ≡ fresh_server new
    by true = refl
    by false = refl

same_either : (b : Bool) (n : ℕ) → n ≡ (if b then n else n)
same_either true n = refl
same_either false n = refl

-- so it is with each node that begins
pub beginnings_stand : BeginningsStand
beginnings_stand c sites number store now (Router n) network may begins = begins_configured c sites number store now (Router n) network may begins
beginnings_stand c sites number store now (Server n) network may (low, is) =
    let old : ServerNodeState = record { core = fresh_server c.sites; store = store; started = now } in
    let first = begins_configured c sites number store now (Server old) network may (low, refl) in
    let stood = first.3 in
    let took = takes_sites number first.0 first.1 first.2 stood.stands old sites stood.has in
    let started : (if extends c.sites sites then now else first.0.clock) ≡ now = ap (λ m. if extends c.sites sites then now else m) stood.clock ∙ sym (same_either (extends c.sites sites) now) in
    let begun : n ≡ taking number first.0 first.1 first.2 stood.stands old sites = is ∙ (λ i. record { core = sym (fresh_taken c.sites sites) i; store = store; started = sym started i }) in (
      took.left,
      first.1,
      took.step ∷ first.2,
      record {
        stands = took.stands;
        begun = (let before = stood.begun in (took.step ∷ before.0, before.1, ap (λ (l : List Step). took.step ∷ l) before.2, (took.event_is, before.3), before.4));
        config_is = stood.config_is;
        kept = stood.kept;
        has = subst (λ (m : ServerNodeState). HasNode took.left number (Server m)) (sym begun) took.has;
        clock = took.clock ∙ stood.clock;
        bag = took.bag ∙ stood.bag;
      },
    )
