-- A node starts anew: it stops and starts again; and a router goes over to another key, loses its store, or has another database.
use Rattle.std.proofs.Common.{◌≡◌, ℕ, true, false, Bool, List, [], ◌∷◌, ◌++◌, length, Option, None, Result, Ok, Err, refl, sym, ap, subst, inl, inr, ◌∙◌, arith, Some, true≢false, ◌<◌, ◌-◌, ◌^◌, map}
use Rattle.std.specs.Prelude.{◌≤◌, slice_get, IsTrue, IfErr, ◌⊎◌, ◌==◌, ◌||◌, ◌≢◌}
use Rattle.std.specs.List.{Contains, find}
use Rattle.std.proofs.lemmas.List.{length-map, length-replicate}
use Rattle.std.specs.Option.{unwrap_or, option_and_then}
use Rattle.std.specs.FinMap.{empty, get-empty}
use Rattle.lisp_records.specs.Parts.{most_parts}
use Rattle.lisp_records.specs.Record.{MapRecordValue}
use Rattle.lisp_nonces.specs.Store.{StoreState, Rose as Rises, Proceeds}
use Rattle.lisp_nonces.specs.Kept.{Kept, kept_at, picked, Narrows, NoneBelow, KeepsSome}
use Rattle.lisp_etr.specs.Config.{EtrConfigValue, sent_pair, with_key, sent_pair_under}
use Rattle.lisp_etr.specs.Etr.{EtrState, etr_changed}
use Rattle.lisp_etr.specs.Round.{KeepsRoundTime, first_round, rotated_round, new_round}
use Rattle.lisp_etr.specs.Rounds.{first_rounds, rotated_rounds, new_rounds}
use Rattle.lisp_etr.specs.declared.round.Round.{Round}
use Rattle.lisp_etr.specs.declared.rounds.Rounds.{Rounds}
use Rattle.lisp_etr.specs.declared.start_fault.StartFault.{StartFault}
use Rattle.lisp_etr.specs.declared.start_fault.StartFault.TheVariants as start_faults
use Rattle.lisp_etr.proofs.TimerLaws.{rounds_keep_time}
use Rattle.lisp_model.specs.declared.line.Line.{Line}
use Rattle.lisp_model.specs.declared.line.Line.TheVariants as lines
use Rattle.lisp_model.specs.declared.refusal.Refusal.TheVariants as refusals
use Rattle.lisp_model.specs.Trace.{EventValue, ShownStore, Step, Opening, fate_of, router_at, address_at, etr_config, shown_store, clock, is_up, database, database_after, sites, etr_config_under, is_router, key as key_at}
use Rattle.lisp_model.specs.Timers.{RoundTimes, round, Notice, notices, last_notice}
use Rattle.lisp_model.specs.Bag.{bag, since_start}
use Rattle.lisp_model.specs.Context.{Rose, IsBase, Restarts, Picks, Context, Same}
use Rattle.lisp_model.specs.Counted.{latest_nonce, acked}
use Rattle.lisp_model.specs.Sending.{pair_at, last_sent, start_values, CountsFrom}
use Rattle.lisp_model.specs.Legal.{MayCome, is_restart, Legal}
use Rattle.lisp_model.specs.Restarting.{StartCause, Fits}
use Rattle.lisp_model.specs.Promises.{is_timeless}
use Rattle.lisp_records.specs.declared.router.RouterId.{RouterId}
use Rattle.lisp_records.specs.Address.{PrefixValue}
use Rattle.lisp_records.specs.Router.{router_eq}
use Rattle.lisp_lookup.specs.Table.{row_at, if_alive}
use Rattle.lisp_nonces.specs.declared.fate.Fate.TheVariants.{Done, LoadFails as FailedLoads}
use Rattle.lisp_nonces.specs.declared.pair.Pair.{Pair}
use Rattle.lisp_nonces.specs.Pair.{pair_cmp}
use Rattle.lisp_admission.specs.Pairs.{notice_pair}
use Rattle.lisp_server.specs.Server.{ServerState}
use Rattle.lisp_server.specs.LastNonces.{nonce_at}
use Rattle.lisp_server.specs.Notices.{StandingNoticeValue, notice_at}
use Rattle.lisp_model.specs.declared.event.Event.TheVariants as events
use Rattle.lisp_model.specs.Keys.{keys_since_loss, keys_before_loss, KnowsKey, MayRotate, MayStartUnder}
use Rattle.lisp_model.specs.Held.{Acceptance, last_of, held_row}
use Rattle.lisp_model.specs.Life.{began}
use Rattle.lisp_refinement.specs.World.{RouterCoreState, Up, Down, UsedKeysState, WorldState, RouterNodeState, ServerNodeState, key_count, is_used, UsesKey}
use Rattle.lisp_refinement.specs.Calls.{config_of, database_of, CoreStarts, CoreRefusesToStart, CoreAnswersStart, CoreAnswersStartOver, StoreRestarts, CoreRotates, IsRotateFaultOf, CoreAnswersRotate}
use Rattle.lisp_refinement.specs.Events.{RouterActs, NetworkRestartsServer, NetworkRestartsRouter, start_line, IsKeyOf, UsesKeyIfOk, rotate_line, RouterRotates, NetworkRotates, NetworkLoses, loss_line, NetworkChanges, changed_core, change_line}
use Rattle.lisp_refinement.specs.Stands.{shown_by, Shows, StandsForRound, StandsForRounds, StandsForCore, StandsForKeys, StandsForRouter, Stands, StandsForServer, Marks, SameNotice, StandsAfter, StandsForEtr}
use Rattle.lisp_refinement.specs.Reopening.{StoreReopens, ServerReopens, RouterReopens}
use Rattle.lisp_refinement.proofs.Gets.{get_replicate, none_is_some, get_mapped}
use Rattle.lisp_refinement.proofs.Acting.{adds_none, router_acts, step_of, turn_at, RouterStep, acts_part, acts_shows, stands_by, here, server_is, server_acts, acts_router, Shown-in, uses_shown, by_fate, shown_now, moved, down_step, up_stays}
use Rattle.lisp_policy.specs.Site.{SiteValue}
use Rattle.lisp_refinement.specs.Nodes.{fresh_server}
use Rattle.std.proofs.lemmas.Bool.{or_cases, or_left, or_right}
use Rattle.std.proofs.lemmas.Bool.Decides.{Decides-eqb}
use Rattle.std.proofs.lemmas.List.Elements.{Contains-append_left, Contains-append_right, Contains-append_cases}
use Rattle.lisp_admission.specs.Checks.{secret_at as known_secret}
use Rattle.lisp_model.proofs.ListLemmas.{at_head, in_tail, head_or_tail, in_none}
use Rattle.lisp_nonces.specs.declared.fate.Fate.{Fate}
use Rattle.lisp_nonces.specs.Promises.{KeepsListsIfHonest}
use Rattle.lisp_etr.specs.declared.rotate_fault.RotateFault.{RotateFault}
use Rattle.lisp_etr.specs.declared.rotate_fault.RotateFault.TheVariants.{SameKey, Store}
use Rattle.lisp_model.specs.Rotating.{RefusesToRotate, IsLost}
use Rattle.lisp_refinement.proofs.Places.{rounds_become}

-- nothing was acknowledged
abbrev nothing : Option (ℕ × ℕ)
nothing = None

-- a store that was honest goes on to be so
pub stays_honest : (old new : StoreState) → new.is_honest ≡ old.is_honest → IsTrue old.is_honest → IsTrue new.is_honest
stays_honest old new same honest = subst (λ (b : Bool). IsTrue b) (sym same) honest

-- nothing was sent yet, a router counts from what its store keeps, and its rounds begin now
pub record BeginsAnew (o : Opening) (T U : List Step) (node : ℕ) (kept : Kept) : Type 0 where
  pub last : last_sent U node ≡ None
  pub values : start_values o U node ≡ kept_at kept (pair_at o U node)
  pub rounds : (server part : ℕ) → round U node server part ≡ record { begin = clock T; moments = [] }
  pub latest : (server part : ℕ) → latest_nonce U node server part ≡ 0

module _ (o : Opening) (T U : List Step) (node : ℕ) (kept : Kept) (begins : BeginsAnew o T U node kept) where
  -- it counts from a value that is kept for its pair
  pub counts_anew : (config : EtrConfigValue) → config ≡ etr_config o U node → (base : Option ℕ) → Contains (kept_at kept (sent_pair config)) base → CountsFrom o U node base
  counts_anew config is base has = subst (λ (p : Option ℕ × List (Option ℕ)). IsBase p.0 p.1 base) (λ i. (sym begins.last i, sym begins.values i))
      (subst (λ (c : EtrConfigValue). Contains (kept_at kept (sent_pair c)) base) is has)

  -- a round that begins now stands
  pub round_anew : (server part now : ℕ) (r : Round) → now ≡ clock T → KeepsRoundTime r now [] → r.latest ≡ 0 → StandsForRound U node server part r
  round_anew server part now r moment keeps none = record {
    keeps = subst (λ (y : RoundTimes). KeepsRoundTime r y.begin y.moments) (sym (begins.rounds server part)) (subst (λ a. KeepsRoundTime r a []) moment keeps);
    latest = none ∙ sym (begins.latest server part);
  }

-- a router that started over a store stands for a trace in which it begins anew
module _ (o : Opening) (T U : List Step) (node : ℕ) (config : EtrConfigValue) (registered : List MapRecordValue) (now : ℕ) (become store : StoreState) (core : RouterCoreState)
    (begins : BeginsAnew o T U node store.kept) (same : store.kept ≡ become.kept) (honest : IsTrue become.is_honest)
    (up : is_up U node ≡ true) (settled : config ≡ etr_config o U node) (given : registered ≡ database o U node) (forgets : (server part : ℕ) → acked U node server part ≡ None) (moment : now ≡ clock T) (call : CoreStarts config registered now become store core) where
  -- it counts from a value that its store keeps
  counts : (base : Option ℕ) → Contains (kept_at become.kept (sent_pair config)) base → CountsFrom o U node base
  counts base has = counts_anew o T U node store.kept begins config settled base (subst (λ (k : Kept). Contains (kept_at k (sent_pair config)) base) (sym same) has)

  pub begun_stands : StandsForCore o U node core
  begun_stands = subst (λ (c : RouterCoreState). StandsForCore o U node c) (sym call.up) (record {
    up = up;
    config = ap (λ (e : EtrState). e.config) call.starts ∙ settled;
    database = ap (λ (e : EtrState). e.database) call.starts ∙ given;
    last = (let is = call.last honest in (is.0, counts is.0 is.1, is.2));
    safe = λ v has. omega (arith, ap (λ (e : EtrState). e.safe) call.starts);
    count = ap (λ (e : EtrState). length e.rounds) call.starts ∙ length-replicate (length config.servers) (first_rounds now) ∙ ap (λ (c : EtrConfigValue). length c.servers) settled ∙ length-map (router_at o.config node).servers (address_at o.config);
    rounds = λ i server rs lists has. subst (λ (x : Rounds). StandsForRounds U node server x)
        (get_replicate (length config.servers) (first_rounds now) i rs (ap (λ (e : EtrState). slice_get e.rounds i) (sym call.starts) ∙ has)) ((record {
          parts = length-replicate most_parts (first_round now);
          acked_parts = length-replicate most_parts nothing;
          round = λ place r has. subst (λ (x : Round). StandsForRound U node server place x) (get_replicate most_parts (first_round now) place r has)
              (round_anew o T U node store.kept begins server place now (first_round now) moment (rounds_keep_time.start now) refl);
          acked = λ place pair has. sym (get_replicate most_parts nothing place pair has) ∙ sym (forgets server place);
        }));
  })

module _ (o : Opening) (T : List Step) (node : ℕ) where
  -- what a router was configured with
  pub config_known : (core : RouterCoreState) → StandsForCore o T node core → config_of core ≡ etr_config o T node
  config_known (Up e) part = part.config
  config_known (Down config database) part = part.1

  -- and what it registered
  pub database_known : (core : RouterCoreState) → StandsForCore o T node core → database_of core ≡ database o T node
  database_known (Up e) part = part.database
  database_known (Down config database) part = part.2

-- the line of a router that doesn't start
abbrev pub not_started : ℕ → StartFault → Line
not_started node fault = lines.Refused node (refusals.Start fault)

-- and the line of an answer
abbrev pub answer_line : ℕ → Line → Result (Unit {0}) StartFault → Line
answer_line node started (Ok done) = started
answer_line node started (Err fault) = not_started node fault

-- a store that a node's own has become: it goes on to count faults, unless the line says that the node restarted
pub record Becomes (old new : StoreState) (line : Line) : Type 0 where
  pub honest : new.is_honest ≡ old.is_honest
  pub obedient : new.is_obedient ≡ old.is_obedient
  pub count : is_restart line ≡ false → old.faults ≤ new.faults

-- one that goes on as stores do
pub goes_on : (old new : StoreState) (line : Line) → Proceeds old new → Becomes old new line
goes_on old new line proceeds = record { honest = proceeds.honest; obedient = proceeds.obedient; count = λ other. proceeds.count }

-- what an event makes of a trace that starts a router: by the line of one that starts, and by that of one that doesn't
pub record StartsBy (o : Opening) (T : List Step) (event : EventValue) (node : ℕ) (s : ShownStore) (started : Line) (config : EtrConfigValue) (registered : List MapRecordValue) (used : UsedKeysState) : Type 0 where
  pub timeless : is_timeless event ≡ true
  pub settled : (line : Line) → config ≡ etr_config o (step_of event node s line ∷ T) node
  pub given : (line : Line) → registered ≡ database o (step_of event node s line ∷ T) node
  pub keys : (line : Line) → StandsForKeys o (step_of event node s line ∷ T) node used
  pub up : is_up (step_of event node s started ∷ T) node ≡ true
  pub begins : BeginsAnew o T (step_of event node s started ∷ T) node s.kept
  pub forgets : (server part : ℕ) → acked (step_of event node s started ∷ T) node server part ≡ None
  pub up_adds : bag o (step_of event node s started ∷ T) ≡ bag o T ++ []
  pub up_row : MayCome (turn_at o T node (fate_of event) s) event started
  pub down : (fault : StartFault) → is_up (step_of event node s (not_started node fault) ∷ T) node ≡ false
  pub down_adds : (fault : StartFault) → bag o (step_of event node s (not_started node fault) ∷ T) ≡ bag o T ++ []
  pub down_row : (fault : StartFault) → StartCause (turn_at o T node (fate_of event) s) fault → MayCome (turn_at o T node (fate_of event) s) event (not_started node fault)

-- a router starts over a store that its own one has become, or it doesn't
module _ (old new : WorldState) (node : ℕ) (acts : RouterActs old new node []) (o : Opening) (T : List Step) (stand : Stands old o T) (become : StoreState) (line : Line) (becomes : Becomes acts.before.store become line)
    (config : EtrConfigValue) (registered : List MapRecordValue) (answer : Result (Unit {0}) StartFault) (starts : CoreAnswersStartOver config registered old.clock become acts.after.store acts.after.core answer) where
  -- its store showed what the trace says
  shown_before : Shows acts.before.store (shown_store o T node)
  shown_before = acts_shows old new node [] acts o T stand

  -- the store is honest
  pub become_honest : IsTrue become.is_honest
  become_honest = stays_honest acts.before.store become becomes.honest shown_before.honest

  -- a load keeps what it keeps
  pub loaded : acts.after.store.kept ≡ become.kept
  loaded = starts.same become_honest

  -- the store stays obedient, or not
  obedient : acts.after.store.is_obedient ≡ (shown_store o T node).is_obedient
  obedient = starts.proceeds.obedient ∙ becomes.obedient ∙ shown_before.obedient

  -- the count of faults isn't lowered, but for a restart
  count : is_restart line ≡ false → (shown_store o T node).faults ≤ acts.after.store.faults
  count other = omega (arith, shown_before.faults, becomes.count other, starts.proceeds.count)

  -- the store shows what the step says
  after_shows : Shows acts.after.store (shown_by acts.after.store)
  after_shows = record { honest = stays_honest become acts.after.store starts.proceeds.honest become_honest; kept = refl; faults = refl; obedient = refl }

  module _ (event : EventValue) (started : Line) (by : StartsBy o T event node (shown_by acts.after.store) started config registered acts.after.used) (me : acts.after.me ≡ acts.before.me) (servers : acts.after.servers ≡ acts.before.servers) where
    -- its name, its list and its keys stand, if its core does
    around : (line : Line) → StandsForCore o (step_of event node (shown_by acts.after.store) line ∷ T) node acts.after.core → StandsForRouter o (step_of event node (shown_by acts.after.store) line ∷ T) node acts.after
    around line core = (let part = acts_part old new node [] acts o T stand in record { me = me ∙ part.me; servers = servers ∙ part.servers; used = by.keys line; core = core })

    -- it starts
    module _ (call : CoreStarts config registered old.clock become acts.after.store acts.after.core) where
      -- the trace with the step
      abbrev begun : List Step
      begun = step_of event node (shown_by acts.after.store) started ∷ T

      -- the network stands
      up_stands : line ≡ started → Stands new o begun
      up_stands said = router_acts old new node [] acts o T (step_of event node (shown_by acts.after.store) started) stand refl by.timeless
          (record { faults = λ other. count (ap is_restart said ∙ other); obedient = obedient; row = by.up_row }) (adds_none o T _ by.up_adds) after_shows
          (around started (begun_stands o T begun node config registered old.clock become acts.after.store acts.after.core by.begins loaded become_honest by.up (by.settled started) (by.given started) by.forgets stand.bag.moment call))

    -- it doesn't, and is down
    module _ (fault : StartFault) (said : line ≡ not_started node fault) (fails : CoreRefusesToStart config registered become acts.after.store acts.after.core fault) where
      -- where a device failed in the start, it did in the step
      rose : Rises become acts.after.store → Rose (turn_at o T node (fate_of event) (shown_by acts.after.store))
      rose (inl more) = inl (omega (arith, shown_before.faults, becomes.count (ap is_restart said), more))
      rose (inr end) = inr end

      -- the fault has a cause
      cause : (why : StartFault) → fault ≡ why → StartCause (turn_at o T node (fate_of event) (shown_by acts.after.store)) why
      cause (start_faults.Store f) is = λ other. rose (fails.cause f is other)
      cause start_faults.OutOfMemory is = tt

      -- its step
      unstarted_step : RouterStep o T event node (shown_by acts.after.store) (MayCome (turn_at o T node (fate_of event) (shown_by acts.after.store)) event) (not_started node fault) [] acts.after
      unstarted_step = record {
        row = by.down_row fault (cause fault refl);
        count = count (ap is_restart said);
        obedient = obedient;
        adds = adds_none o T _ (by.down_adds fault);
        shows = after_shows;
        part = around (not_started node fault) (subst (λ (c : RouterCoreState). StandsForCore o (step_of event node (shown_by acts.after.store) (not_started node fault) ∷ T) node c) (sym fails.down)
            (by.down fault, by.settled (not_started node fault), by.given (not_started node fault)));
      }

    -- by whether it starts
    answered : (ans : Result (Unit {0}) StartFault) → line ≡ answer_line node started ans → CoreAnswersStart config registered old.clock become acts.after.store acts.after.core ans → Stands new o (step_of event node (shown_by acts.after.store) (answer_line node started ans) ∷ T)
    answered (Ok done) said call = up_stands call said
    answered (Err fault) said fails = stands_by old new node [] acts o T stand event (shown_by acts.after.store) (not_started node fault) by.timeless (unstarted_step fault said fails)

    -- so the network stands
    pub start_stands : line ≡ answer_line node started answer → Stands new o (step_of event node (shown_by acts.after.store) line ∷ T)
    start_stands said = subst (λ (l : Line). Stands new o (step_of event node (shown_by acts.after.store) l ∷ T)) (sym said) (answered answer said starts.starts)

-- A node stops and starts again: a Map-Server with its sites alone, a router with what its store has kept, or not at all.

-- the step of a restart
abbrev restart : ℕ → ℕ → Option (List MapRecordValue) → StoreState → Line → Step
restart node pick db store line = record { event = events.Restart node pick db; line = line; actor = node; shown = shown_by store }

-- a store's crash narrows what it keeps
crash_narrows : (old new : StoreState) (pick : ℕ) (before : ShownStore) → StoreReopens old new pick → Shows old before → (q : Pair) → Narrows (kept_at before.kept q) (kept_at new.kept q)
crash_narrows old new pick before crashes shows q = subst (λ (k : Kept). Narrows (kept_at k q) (kept_at new.kept q)) shows.kept (crashes.narrows shows.honest q)

-- and leaves of an obedient one what was picked
crash_picks : (old new : StoreState) (pick : ℕ) (before : ShownStore) → StoreReopens old new pick → Shows old before → IsTrue before.is_obedient → (q : Pair) → kept_at new.kept q ≡ picked (kept_at before.kept q) pick ∷ []
crash_picks old new pick before crashes shows obeys q = subst (λ (k : Kept). kept_at new.kept q ≡ picked (kept_at k q) pick ∷ []) shows.kept (crashes.picks (subst (λ (b : Bool). IsTrue b) (sym shows.obedient) obeys) q)

-- a server that has just started holds nothing
no_row : (now : ℕ) (router : RouterId) (eid : PrefixValue) → option_and_then (if_alive now) (row_at [] router eid) ≡ None
unfolding row_at
no_row now router eid = refl

-- nor any nonce
pub no_nonce : (pair : Pair) → nonce_at empty pair ≡ None
unfolding nonce_at
no_nonce pair = get-empty pair_cmp pair

-- nor any notice
no_notice : (o : Opening) (T : List Step) (node : ℕ) (router : RouterId) → SameNotice o T node None (notice_at [] router)
unfolding notice_at
no_notice o T node router = tt

-- a Map-Server that holds nothing stands for a trace that says so
pub fresh_stands : (o : Opening) (U : List Step) (node : ℕ) (n : ServerNodeState) (given : List SiteValue) → n.core ≡ fresh_server given → given ≡ sites o U node → since_start o U node ≡ []
    → notices o U node ≡ [] → last_notice U node ≡ None → n.started ≡ began U node → StandsForServer o U node n
fresh_stands o U node n given core its forgets ends none started = record {
  sites = ap (λ (c : ServerState). c.sites) core ∙ its;
  rows = λ router eid. ap (λ (c : ServerState). option_and_then (if_alive (clock U)) (row_at c.rows router eid)) core ∙ no_row (clock U) router eid
      ∙ ap (λ (all : List Acceptance). held_row all router eid (clock U)) (sym forgets);
  nonces = λ pair other. ap (λ (c : ServerState). nonce_at c.nonces pair) core ∙ no_nonce pair ∙ ap (λ (all : List Acceptance). last_of pair all) (sym forgets);
  notice_nonce = ap (λ (c : ServerState). nonce_at c.nonces notice_pair) core ∙ no_nonce notice_pair ∙ sym none;
  contacts = λ router eid h is. absurd (none_is_some (ap (λ (all : List Acceptance). held_row all router eid (clock U)) (sym forgets) ∙ is));
  notices = λ router. subst (λ (p : List Notice × List StandingNoticeValue). SameNotice o U node (find (λ n. router_eq n.router router) p.0) (notice_at p.1 router))
      (λ i. (sym ends i, ap (λ (c : ServerState). c.notices) (sym core) i)) (no_notice o U node router);
  started = started;
}

-- a Map-Server
module _ (old new : WorldState) (node pick : ℕ) (line : Line) (restarts : ServerReopens old new node pick line) (o : Opening) (T : List Step) (stand : Stands old o T) where
  -- the step with its line
  abbrev server_step : Step
  server_step = restart node pick None restarts.acts.after.store (lines.Restarted node)

  -- its store showed what the trace says
  store_before : Shows restarts.acts.before.store (shown_store o T node)
  store_before = stand.steps.server_stores node restarts.acts.before restarts.acts.was

  -- so the network stands for the trace with that step
  pub reopen_server_stands : (actor : ℕ) × (s : ShownStore) × Stands new o (record { event = events.Restart node pick None; line = line; actor = actor; shown = s } ∷ T)
  reopen_server_stands = (
    node,
    shown_by restarts.acts.after.store,
    subst (λ (l : Line). Stands new o (restart node pick None restarts.acts.after.store l ∷ T)) (sym restarts.said)
        (server_acts old new node [] restarts.acts o T server_step stand refl refl (record {
          faults = λ other. absurd (true≢false other);
          obedient = restarts.reopens.obedient ∙ store_before.obedient;
          row = record {
            names = refl;
            acts = refl;
            kind = inl (server_is old o T stand node restarts.acts.before restarts.acts.was, refl);
            fits = tt;
            narrows = crash_narrows restarts.acts.before.store restarts.acts.after.store pick (shown_store o T node) restarts.reopens store_before;
            picks = crash_picks restarts.acts.before.store restarts.acts.after.store pick (shown_store o T node) restarts.reopens store_before;
          };
        }) (adds_none o T server_step refl)
        (record { honest = stays_honest restarts.acts.before.store restarts.acts.after.store restarts.reopens.honest store_before.honest; kept = refl; faults = refl; obedient = refl })
        (fresh_stands o (server_step ∷ T) node restarts.acts.after restarts.acts.before.core.sites restarts.core (stand.servers node restarts.acts.before restarts.acts.was).sites
        (here node [] (since_start o T node)) (here node [] (notices o T node)) (here node None (last_notice T node)) (restarts.started ∙ stand.bag.moment ∙ sym (here node (clock T) (began T node))))),
  )

-- a crash of a schedule leaves a store as one that is opened anew
reopened : (old new : StoreState) (pick : ℕ) → StoreRestarts old new pick → StoreReopens old new pick
reopened old new pick crashes = record { narrows = crashes.narrows; picks = crashes.picks; honest = crashes.proceeds.honest; obedient = crashes.proceeds.obedient }

-- so with each restart of a Map-Server
pub restart_server_stands : (old new : WorldState) (node pick : ℕ) (line : Line) → NetworkRestartsServer old new node pick line → StandsAfter old new (events.Restart node pick None) line
restart_server_stands old new node pick line restarts = reopen_server_stands old new node pick line
    (record { acts = restarts.acts; core = restarts.core; reopens = reopened restarts.acts.before.store restarts.acts.after.store pick restarts.crashes; started = restarts.started; said = restarts.said })

-- a router
module _ (old new : WorldState) (node pick : ℕ) (db : Option (List MapRecordValue)) (line : Line) (fits : Fits db) (restarts : RouterReopens old new node pick db line) (o : Opening) (T : List Step) (stand : Stands old o T) where
  -- the router before
  abbrev before : RouterNodeState
  before = restarts.acts.before

  -- the router afterwards
  abbrev after : RouterNodeState
  after = restarts.acts.after

  -- its store after the crash
  abbrev crashed : StoreState
  crashed = restarts.opened

  -- where it didn't start, that counted on
  counted : (answer : Result (Unit {0}) StartFault) → IfErr answer (λ fault. before.store.faults ≤ crashed.faults) → is_restart (start_line node answer) ≡ false → before.store.faults ≤ crashed.faults
  counted (Ok done) counts other = absurd (true≢false other)
  counted (Err fault) counts other = counts

  becomes : Becomes before.store crashed line
  becomes = record { honest = restarts.reopens.honest; obedient = restarts.reopens.obedient; count = λ other. counted restarts.answer restarts.counts (ap is_restart (sym restarts.said) ∙ other) }

  -- it stood before
  stood : StandsForRouter o T node before
  stood = acts_part old new node [] restarts.acts o T stand

  -- its store showed what the trace says
  shows : Shows before.store (shown_store o T node)
  shows = acts_shows old new node [] restarts.acts o T stand

  -- what it starts with, and what it registers from now on
  abbrev config : EtrConfigValue
  config = config_of before.core

  abbrev registered : List MapRecordValue
  registered = unwrap_or db (database_of before.core)

  -- a load keeps what the crash has left
  keeps : after.store.kept ≡ crashed.kept
  keeps = loaded old new node restarts.acts o T stand crashed line becomes config registered restarts.answer restarts.starts

  -- the event, and the step as the router sees it
  abbrev event : EventValue
  event = events.Restart node pick db

  -- the restart narrows what is kept
  narrows : Restarts (turn_at o T node Done (shown_by after.store))
  narrows q = subst (λ (k : Kept). Narrows (kept_at (shown_store o T node).kept q) (kept_at k q)) (sym keeps)
      (crash_narrows before.store crashed pick (shown_store o T node) restarts.reopens shows q)

  -- to what is picked
  picks : Picks (turn_at o T node Done (shown_by after.store)) pick
  picks obeys q = subst (λ (k : Kept). kept_at k q ≡ picked (kept_at (shown_store o T node).kept q) pick ∷ []) (sym keeps)
      (crash_picks before.store crashed pick (shown_store o T node) restarts.reopens shows obeys q)

  -- what it registers is what the trace says, with another database or not
  given_case : (l : Line) (x : Option (List MapRecordValue)) → unwrap_or x (database_of before.core) ≡ database_after (events.Restart node pick x) l node (database o T node)
  given_case l None = database_known o T node before.core stood.core
  given_case l (Some other) = sym (here node other (database o T node))

  -- the line is that of the answer
  said : (answer : Result (Unit {0}) StartFault) → start_line node answer ≡ answer_line node (lines.Restarted node) answer
  said (Ok done) = refl
  said (Err fault) = refl

  -- so the network stands for the trace with that step
  pub reopen_router_stands : (actor : ℕ) × (s : ShownStore) × Stands new o (step_of event actor s line ∷ T)
  reopen_router_stands = (
    node,
    shown_by after.store,
    start_stands old new node restarts.acts o T stand crashed line becomes config registered restarts.answer restarts.starts
        event (lines.Restarted node) (record {
          timeless = refl;
          settled = λ l. config_known o T node before.core stood.core;
          given = λ l. given_case l db;
          keys = λ l. record {
            since_loss = subst (λ (used : UsedKeysState). Marks used.since_loss (keys_since_loss o T node)) (sym restarts.used) stood.used.since_loss;
            before_loss = subst (λ (used : UsedKeysState). Marks used.before_loss (keys_before_loss o T node)) (sym restarts.used) stood.used.before_loss;
          };
          up = here node true (is_up T node);
          begins = record {
            last = here node None (last_sent T node);
            values = here node (kept_at after.store.kept (pair_at o T node)) (start_values o T node);
            rounds = λ server part. here node _ (round T node server part);
            latest = λ server part. here node 0 (latest_nonce T node server part);
          };
          forgets = λ server part. here node None (acked T node server part);
          up_adds = refl;
          up_row = record { names = refl; acts = refl; kind = inr (acts_router old new node [] restarts.acts o T stand); fits = fits; narrows = narrows; picks = picks };
          down = λ fault. here node false (is_up T node);
          down_adds = λ fault. refl;
          down_row = λ fault cause. record { names = refl; acts = refl; kind = acts_router old new node [] restarts.acts o T stand; fits = fits; narrows = narrows; picks = picks; cause = cause };
        }) restarts.me restarts.servers (restarts.said ∙ said restarts.answer),
  )

-- a store that goes on counts on, whether the router starts or not
counts_on : {less more : ℕ} (answer : Result (Unit {0}) StartFault) → less ≤ more → IfErr answer (λ fault. less ≤ more)
counts_on (Ok done) counts = tt
counts_on (Err fault) counts = counts

-- so with each restart of a router
pub restart_router_stands : (old new : WorldState) (node pick : ℕ) (db : Option (List MapRecordValue)) (line : Line) → Fits db → NetworkRestartsRouter old new node pick db line → StandsAfter old new (events.Restart node pick db) line
restart_router_stands old new node pick db line fits restarts = (let is = restarts.restarts in reopen_router_stands old new node pick db line fits (record {
  acts = restarts.acts;
  me = is.me;
  servers = is.servers;
  used = is.used;
  opened = is.crashed;
  reopens = reopened restarts.acts.before.store is.crashed pick is.crashes;
  answer = restarts.answer;
  counts = counts_on restarts.answer is.crashes.proceeds.count;
  starts = is.starts;
  said = restarts.said;
}))

-- The keys that a router used: which are listed once one more is used, or its store is lost; and what its site has of one.

-- a key that isn't used isn't listed
pub unlisted : (used : List Bool) (keys : List ℕ) (key : ℕ) → Marks used keys → key < key_count → is_used used key ≡ false → Contains keys key → ⊥
unlisted used keys key lists bound unused has = true≢false (sym ((lists key bound).1 has) ∙ unused)

-- one key more
lists_more : (old new : List Bool) (keys : List ℕ) (key : ℕ) → Marks old keys → ((k : ℕ) → k < key_count → is_used new k ≡ (k == key || is_used old k)) → Marks new (key ∷ keys)
lists_more old new keys key lists more k bound = (λ used. to (or_cases (k == key) (is_used old k) (sym (more k bound) ∙ used)), λ has. more k bound ∙ from (head_or_tail key keys k has))
  where
    to : ((k == key) ≡ true) ⊎ (is_used old k ≡ true) → Contains (key ∷ keys) k
    to (inl same) = subst (Contains (key ∷ keys)) (sym ((Decides-eqb k key).0 same)) (at_head key keys)
    to (inr used) = in_tail key keys k ((lists k bound).0 used)

    from : (k ≡ key) ⊎ Contains keys k → (k == key || is_used old k) ≡ true
    from (inl same) = or_left (k == key) (is_used old k) ((Decides-eqb k key).1 same)
    from (inr has) = or_right (k == key) (is_used old k) ((lists k bound).1 has)

-- one alone
lists_one : (new : List Bool) (key : ℕ) → ((k : ℕ) → k < key_count → is_used new k ≡ (k == key)) → Marks new (key ∷ [])
lists_one new key one k bound = (λ used. subst (Contains (key ∷ [])) (sym ((Decides-eqb k key).0 (sym (one k bound) ∙ used))) (at_head key []), λ has. one k bound ∙ from (head_or_tail key [] k has))
  where
    from : (k ≡ key) ⊎ Contains [] k → (k == key) ≡ true
    from (inl same) = (Decides-eqb k key).1 same
    from (inr none) = absurd (in_none k none)

-- those of two lists
lists_both : (some others new : List Bool) (xs ys : List ℕ) → Marks some xs → Marks others ys → ((k : ℕ) → k < key_count → is_used new k ≡ (is_used some k || is_used others k)) → Marks new (xs ++ ys)
lists_both some others new xs ys in_some in_others both k bound = (λ used. to (or_cases (is_used some k) (is_used others k) (sym (both k bound) ∙ used)), λ has. both k bound ∙ from (Contains-append_cases xs ys k has))
  where
    to : (is_used some k ≡ true) ⊎ (is_used others k ≡ true) → Contains (xs ++ ys) k
    to (inl used) = Contains-append_left xs ys k ((in_some k bound).0 used)
    to (inr used) = Contains-append_right xs ys k ((in_others k bound).0 used)

    from : Contains xs k ⊎ Contains ys k → (is_used some k || is_used others k) ≡ true
    from (inl has) = or_left (is_used some k) (is_used others k) ((in_some k bound).1 has)
    from (inr has) = or_right (is_used some k) (is_used others k) ((in_others k bound).1 has)

-- a key of a router's site
module _ (w : WorldState) (o : Opening) (T : List Step) (stand : Stands w o T) (router : ℕ) (node : RouterNodeState) (part : StandsForRouter o T router node) (key : ℕ) (of : IsKeyOf w node key) where
  -- the configuration has it
  known_here : known_secret o.config.sites (router_at o.config router).me.site key ≡ Some of.secret
  known_here = (λ i. known_secret (sym stand.steps.sites i) (sym part.me i).site key) ∙ of.known

  knows : KnowsKey o.config router key
  knows none = none_is_some (sym none ∙ known_here)

  -- so the router's configuration under it is that of the trace
  pub config_under : (c : EtrConfigValue) → c ≡ etr_config o T router → with_key c key of.secret ≡ etr_config_under o.config (router_at o.config router) key
  config_under c is = λ i. with_key (is i) key ((ap (λ found. unwrap_or found []) (sym known_here)) i)

  -- the router may go over to it
  may_rotate : is_used node.used.before_loss key ≡ false → MayRotate o T router key
  may_rotate unused = record { known = knows; unused = unlisted node.used.before_loss (keys_before_loss o T router) key part.used.before_loss of.bound unused }

  -- or start under it, once its store is lost
  may_start : is_used node.used.since_loss key ≡ false → is_used node.used.before_loss key ≡ false → MayStartUnder o T router key
  may_start since router_before = record { known = knows; unused = λ has. neither (Contains-append_cases (keys_since_loss o T router) (keys_before_loss o T router) key has) }
    where
      neither : Contains (keys_since_loss o T router) key ⊎ Contains (keys_before_loss o T router) key → ⊥
      neither (inl has) = unlisted node.used.since_loss (keys_since_loss o T router) key part.used.since_loss of.bound since has
      neither (inr has) = unlisted node.used.before_loss (keys_before_loss o T router) key part.used.before_loss of.bound router_before has

-- A router goes over to another key, refuses to, or is down.

module _ (old new : WorldState) (router key : ℕ) (fate : Fate) (line : Line) (rotates : NetworkRotates old new router key fate line) (o : Opening) (T : List Step) (stand : Stands old o T) where
  -- the router before, and afterwards
  abbrev router_before : RouterNodeState
  router_before = rotates.acts.before

  abbrev router_after : RouterNodeState
  router_after = rotates.acts.after

  -- the event
  abbrev rotation : EventValue
  rotation = events.Rotate router key fate

  -- it is a router; it and its store are what the trace says, and it may go over to the key
  kind : is_router o.config router ≡ true
  kind = acts_router old new router [] rotates.acts o T stand

  part : StandsForRouter o T router router_before
  part = acts_part old new router [] rotates.acts o T stand

  may : MayRotate o T router key
  may = may_rotate old o T stand router router_before part key rotates.of rotates.unused

  -- the network stands for the trace with the step
  abbrev Rotated-after : Type 0
  Rotated-after = (actor : ℕ) × (s : ShownStore) × Stands new o (step_of rotation actor s line ∷ T)

  -- with the step of the router it does
  ends : (s : ShownStore) → RouterStep o T rotation router s (MayCome (turn_at o T router fate s) rotation) line [] router_after → Rotated-after
  ends s step = (router, s, stands_by old new router [] rotates.acts o T stand rotation s line refl step)

  -- the router is up
  module _ (e left : EtrState) (own : StandsForEtr o T router e) (armed called : StoreState) (uses : Shown-in fate armed called router_after.store (shown_store o T router)) (same : KeepsListsIfHonest armed called) where
    -- the step as the router sees it
    abbrev turn : Context
    turn = turn_at o T router fate (shown_by called)

    -- no list changed
    unmoved : Same turn
    unmoved = same uses.armed_shows.honest ∙ uses.armed_shows.kept

    -- it went over to the key
    module _ (used : UsesKey router_before.used router_after.used key) (call : CoreRotates e left key rotates.of.secret armed called old.clock) where
      -- the trace with the step
      abbrev later : List Step
      later = step_of rotation router (shown_by called) (lines.Rotated router key) ∷ T

      -- its configuration under the key is what the trace says
      settled : with_key e.config key rotates.of.secret ≡ etr_config o later router
      settled = config_under old o T stand router router_before part key rotates.of e.config own.config
          ∙ sym (ap (etr_config_under o.config (router_at o.config router)) (here router key (key_at o T router)))

      -- it begins anew
      begins : BeginsAnew o T later router called.kept
      begins = record {
        last = here router None (last_sent T router);
        values = here router _ (start_values o T router);
        rounds = λ server place. here router _ (round T router server place);
        latest = λ server place. here router 0 (latest_nonce T router server place);
      }

      -- it counts from a value that is kept for the new pair
      counts_under : (base : Option ℕ) → Contains (kept_at armed.kept (sent_pair_under e.config key)) base → CountsFrom o later router base
      counts_under base has = counts_anew o T later router called.kept begins (with_key e.config key rotates.of.secret) settled base
          (subst (λ (k : Kept). Contains (kept_at k (sent_pair_under e.config key)) base) (sym (same uses.armed_shows.honest)) has)

      -- the key is one more that was used
      keys : StandsForKeys o later router router_after.used
      keys = record {
        since_loss = subst (Marks router_after.used.since_loss) (sym (here router (key ∷ keys_since_loss o T router) (keys_since_loss o T router)))
            (lists_more router_before.used.since_loss router_after.used.since_loss (keys_since_loss o T router) key part.used.since_loss used.since_loss);
        before_loss = subst (λ xs. Marks xs (keys_before_loss o T router)) (sym used.before_loss) part.used.before_loss;
      }

      -- each of its rounds has just begun, and what was acknowledged stays
      rounds_stand : (i server : ℕ) (rs : Rounds) → slice_get (router_at o.config router).servers i ≡ Some server → slice_get (map (rotated_rounds old.clock) e.rounds) i ≡ Some rs → StandsForRounds later router server rs
      rounds_stand i server rs lists has = let was = get_mapped (rotated_rounds old.clock) e.rounds i rs has in
          subst (λ (x : Rounds). StandsForRounds later router server x) was.2
          (rounds_become T router server was.0 (own.rounds i server was.0 lists was.1) later (λ place. refl) (rotated_round old.clock)
          (λ place r stood_before. round_anew o T later router called.kept begins server place old.clock (rotated_round old.clock r) stand.bag.moment (rounds_keep_time.rotate old.clock r) refl))

      -- its step
      rotated_step : RouterStep o T rotation router (shown_by called) (MayCome turn rotation) (lines.Rotated router key) [] (record router_before { used = router_after.used; core = Up left; store = router_after.store })
      rotated_step = record {
        row = record {
          acts = record { kind = kind; acts = refl; state = own.up };
          names = refl;
          to = refl;
          may = may;
          other = λ is. call.other (is ∙ sym (ap (λ (c : EtrConfigValue). c.key_id) own.config));
          loads = by_fate (λ x. x ≢ FailedLoads) fate armed (shown_store o T router) uses.armed_shows uses.fated call.loads;
          same = unmoved;
        };
        count = uses.count;
        obedient = uses.obedient;
        adds = adds_none o T _ refl;
        shows = uses.after;
        part = record {
          me = part.me;
          servers = part.servers;
          used = keys;
          core = record {
            up = own.up;
            config = ap (λ (x : EtrState). x.config) call.rotates ∙ settled;
            database = ap (λ (x : EtrState). x.database) call.rotates ∙ own.database;
            last = (let is = call.last uses.armed_shows.honest in (is.0, counts_under is.0 is.1, is.2));
            safe = λ v has. omega (arith, ap (λ (x : EtrState). x.safe) call.rotates);
            count = ap (λ (x : EtrState). length x.rounds) call.rotates ∙ length-map e.rounds (rotated_rounds old.clock) ∙ own.count;
            rounds = λ i server rs lists has. rounds_stand i server rs lists (ap (λ (x : EtrState). slice_get x.rounds i) (sym call.rotates) ∙ has);
          };
        };
      }

    -- it was refused
    module _ (fault : RotateFault) (used : router_after.used ≡ router_before.used) (as_it_was : left ≡ e) (why : IsRotateFaultOf e key armed called fault) where
      -- the line, and the trace with the step
      abbrev refused : Line
      refused = lines.Refused router (refusals.Rotate fault)

      abbrev with_refusal : List Step
      with_refusal = step_of rotation router (shown_by called) refused ∷ T

      -- each refusal has its row
      refusal : (f : RotateFault) → IsRotateFaultOf e key armed called f → RefusesToRotate turn router key f
      refusal SameKey is = (is.0 ∙ (ap (λ (c : EtrConfigValue). c.key_id) own.config), unmoved)
      refusal (Store f) is = (
        λ own_key. is.0 (own_key ∙ sym (ap (λ (c : EtrConfigValue). c.key_id) own.config)),
        record {
          same = unmoved;
          cause = λ other. (subst (λ (n : ℕ). (n < called.faults) ⊎ (called.faults ≡ 2 ^ 64 - 1)) uses.armed_shows.faults (is.1 other));
          may = λ other. by_fate (λ x. x ≡ FailedLoads) fate armed (shown_store o T router) uses.armed_shows uses.fated (is.2 other);
        },
      )

      -- its step
      refused_step : RouterStep o T rotation router (shown_by called) (MayCome turn rotation) refused [] (record router_before { used = router_after.used; core = Up left; store = router_after.store })
      refused_step = record {
        row = (refl, record { kind = kind; acts = refl; state = own.up }, may, refusal fault why);
        count = uses.count;
        obedient = uses.obedient;
        adds = adds_none o T _ refl;
        shows = uses.after;
        part = up_stays o T with_refusal router (record { up = refl; under = refl; since_loss = refl; before_loss = refl; given = refl })
            (record { sent = refl; values = refl; times = λ k p. refl; latest = λ k p. refl; counted = λ k p. refl }) router_before router_after.used router_after.store e left used as_it_was part own
            (subst (λ (x : ShownStore). NoneBelow e.safe (kept_at x.kept (pair_at o T router))) (sym (shown_now o T rotation router (shown_by called) refused))
            (subst (λ (k : Kept). NoneBelow e.safe (kept_at k (pair_at o T router))) (sym unmoved) own.safe));
      }

    -- it did, or refused to
    rotation_answered : router_after ≡ record router_before { used = router_after.used; core = Up left; store = router_after.store } → (answer : Result (Unit {0}) RotateFault) → line ≡ rotate_line router key answer → UsesKeyIfOk router_before.used router_after.used key answer
        → CoreAnswersRotate e left key rotates.of.secret armed called old.clock answer → Rotated-after
    rotation_answered is (Ok done) said_then used call = ends (shown_by called) (moved o T rotation router (shown_by called) (MayCome turn rotation) line _ [] [] router_after _ said_then refl is (rotated_step used call))
    rotation_answered is (Err fault) said_then used call = ends (shown_by called) (moved o T rotation router (shown_by called) (MayCome turn rotation) line _ [] [] router_after _ said_then refl is (refused_step fault used call.0 call.1))

  -- it is up, or down
  rotates_at : (core : RouterCoreState) → StandsForCore o T router core → RouterRotates router key rotates.of.secret fate old.clock router_before router_after core line → Rotated-after
  rotates_at (Up e) own up =
      let r = up.rotates in
      rotation_answered r.etr r.left (subst (λ (core : RouterCoreState). StandsForCore o T router core) r.was part.core) r.call.armed r.call.called
      (uses_shown router_before.store r.call.armed r.call.called router_after.store fate (shown_store o T router)
      (acts_shows old new router [] rotates.acts o T stand) r.call.uses) r.call.same r.is up.answer up.said r.used r.call.call
  rotates_at (Down config_then db) core at = ends (shown_store o T router) (down_step old new router [] rotates.acts o T stand rotation _ line (at.0, at.1, refl)
      (may, record { acts = record { kind = kind; acts = refl; state = core.0 }; names = refl; same = refl }) refl
      (record { up = refl; under = refl; since_loss = refl; before_loss = refl; given = refl })
      (record { sent = refl; values = refl; times = λ k p. refl; latest = λ k p. refl; counted = λ k p. refl }))

  -- so the network stands for the trace with that step
  pub rotate_stands : Rotated-after
  rotate_stands = rotates_at router_before.core part.core rotates.rotates

-- A router's store is lost, and the router starts under a key that it never used, or not at all.

module _ (old new : WorldState) (node key : ℕ) (db : Option (List MapRecordValue)) (line : Line) (fits : Fits db) (loses : NetworkLoses old new node key db line) (o : Opening) (T : List Step) (stand : Stands old o T) where
  -- its store once it was lost
  abbrev lost : StoreState
  lost = loses.loses.lost

  -- it stood loses.acts.before
  stood_before : StandsForRouter o T node loses.acts.before
  stood_before = acts_part old new node [] loses.acts o T stand

  -- what it starts with, and what it registers from now on
  abbrev config_then : EtrConfigValue
  config_then = with_key (config_of loses.acts.before.core) key loses.of.secret

  abbrev registers : List MapRecordValue
  registers = unwrap_or db (database_of loses.acts.before.core)

  -- its store was lost
  is_lost : IsLost (turn_at o T node Done (shown_by loses.acts.after.store)) node key db
  is_lost = record {
    acts = refl;
    kind = acts_router old new node [] loses.acts o T stand;
    may = may_start old o T stand node loses.acts.before stood_before key loses.of loses.unused_since loses.unused_before;
    fits = fits;
    some = subst KeepsSome (sym (loaded old new node loses.acts o T stand lost line (goes_on loses.acts.before.store lost line loses.loses.loses.proceeds) config_then registers loses.answer loses.loses.starts))
        (loses.loses.loses.some (become_honest old new node loses.acts o T stand lost line (goes_on loses.acts.before.store lost line loses.loses.loses.proceeds) config_then registers loses.answer loses.loses.starts));
  }

  -- and so is what it registers, with another database or not
  given_then : (l : Line) (x : Option (List MapRecordValue)) → unwrap_or x (database_of loses.acts.before.core) ≡ database_after (events.Lose node key x) l node (database o T node)
  given_then l None = database_known o T node loses.acts.before.core stood_before.core
  given_then l (Some other) = sym (here node other (database o T node))

  -- the line is that of the answer
  said_then : (answer : Result (Unit {0}) StartFault) → loss_line node key answer ≡ answer_line node (lines.Emptied node key) answer
  said_then (Ok done) = refl
  said_then (Err fault) = refl

  -- so the network stands for the trace with that step
  pub lose_stands : (actor : ℕ) × (s : ShownStore) × Stands new o (step_of (events.Lose node key db) actor s line ∷ T)
  lose_stands = (
    node,
    shown_by loses.acts.after.store,
    start_stands old new node loses.acts o T stand lost line (goes_on loses.acts.before.store lost line loses.loses.loses.proceeds) config_then registers loses.answer loses.loses.starts
        (events.Lose node key db) (lines.Emptied node key) (record {
          timeless = refl;
          settled = λ l. config_under old o T stand node loses.acts.before stood_before key loses.of (config_of loses.acts.before.core) (config_known o T node loses.acts.before.core stood_before.core)
              ∙ sym (ap (etr_config_under o.config (router_at o.config node)) (here node key (key_at o T node)));
          given = λ l. given_then l db;
          keys = λ l. record {
            since_loss = subst (Marks loses.acts.after.used.since_loss) (sym (here node (key ∷ []) (keys_since_loss o T node))) (lists_one loses.acts.after.used.since_loss key loses.loses.used.since_loss);
            before_loss = subst (Marks loses.acts.after.used.before_loss) (sym (here node (keys_since_loss o T node ++ keys_before_loss o T node) (keys_before_loss o T node)))
                (lists_both loses.acts.before.used.since_loss loses.acts.before.used.before_loss loses.acts.after.used.before_loss (keys_since_loss o T node) (keys_before_loss o T node) stood_before.used.since_loss stood_before.used.before_loss loses.loses.used.before_loss);
          };
          up = here node true (is_up T node);
          begins = record {
            last = here node None (last_sent T node);
            values = here node _ (start_values o T node);
            rounds = λ server part. here node _ (round T node server part);
            latest = λ server part. here node 0 (latest_nonce T node server part);
          };
          forgets = λ server part. here node None (acked T node server part);
          up_adds = refl;
          up_row = record { lost = is_lost; names = refl; to = refl };
          down = λ fault. here node false (is_up T node);
          down_adds = λ fault. refl;
          down_row = λ fault cause. record { lost = is_lost; names = refl; cause = cause };
        }) loses.loses.me loses.loses.servers (loses.said ∙ said_then loses.answer),
  )

-- A router is given another database: if it is up, new rounds begin; if it is down, nothing changes.

-- the step of a change, which leaves the store
abbrev change : Opening → List Step → ℕ → List MapRecordValue → Line → Step
change o T router db line = record { event = events.Change router db; line = line; actor = router; shown = shown_store o T router }

module _ (old new : WorldState) (router : ℕ) (db : List MapRecordValue) (line : Line) (changes : NetworkChanges old new router db line) (o : Opening) (T : List Step) (stand : Stands old o T) where
  -- the router router_stood before
  router_stood : StandsForRouter o T router changes.acts.before
  router_stood = acts_part old new router [] changes.acts o T stand

  -- so the network stands, if the step is legal and the router stands after it
  stands_with : (l : Line) → change_line router db changes.acts.before.core ≡ l → Legal o T (change o T router db l) → bag o (change o T router db l ∷ T) ≡ bag o T ++ []
      → StandsForCore o (change o T router db l ∷ T) router (changed_core db old.clock changes.acts.before.core) → Stands new o (change o T router db line ∷ T)
  stands_with l says legal adds core = subst (λ (x : Line). Stands new o (change o T router db x ∷ T)) (sym (changes.said ∙ says))
      (router_acts old new router [] changes.acts o T (change o T router db l) stand refl refl legal (adds_none o T (change o T router db l) adds)
      (subst (λ (n : RouterNodeState). Shows n.store (shown_store o T router)) (sym changes.changes) (acts_shows old new router [] changes.acts o T stand))
      (subst (λ (n : RouterNodeState). StandsForRouter o (change o T router db l ∷ T) router n) (sym changes.changes)
      (record { me = router_stood.me; servers = router_stood.servers; used = record { since_loss = router_stood.used.since_loss; before_loss = router_stood.used.before_loss }; core = core })))

  -- a router that is up
  module _ (e : EtrState) (part : StandsForEtr o T router e) where
    -- the step with its line
    abbrev up_step : Step
    up_step = change o T router db (lines.Changed router (length db))

    -- it is legal
    up_legal : Legal o T up_step
    up_legal = record {
      faults = λ other. omega arith;
      obedient = refl;
      row = record { acts = record { kind = acts_router old new router [] changes.acts o T stand; acts = refl; state = part.up }; names = refl; fits = changes.fits; count = refl; same = refl };
    }

    -- a new round has begun
    begun_round : (server place : ℕ) (x : Round) → StandsForRound T router server place x → StandsForRound (up_step ∷ T) router server place (new_round old.clock x)
    begun_round server place x was = record {
      keeps = subst (λ (y : RoundTimes). KeepsRoundTime (new_round old.clock x) y.begin y.moments) (sym (here router _ (round T router server place)))
          (subst (λ a. KeepsRoundTime (new_round old.clock x) a []) stand.bag.moment (rounds_keep_time.begin old.clock x));
      latest = was.latest;
    }

    -- the router stands with its new database
    up_part : StandsForEtr o (up_step ∷ T) router (etr_changed e db old.clock)
    up_part = record {
      up = part.up;
      config = part.config;
      database = sym (here router db _);
      last = part.last;
      safe = subst (λ (x : ShownStore). NoneBelow e.safe (kept_at x.kept (pair_at o T router))) (sym (
          (here router (shown_store o T router) (shown_store o T router)))) part.safe;
      count = length-map e.rounds (new_rounds old.clock) ∙ part.count;
      rounds = λ i server rs lists has. let was = get_mapped (new_rounds old.clock) e.rounds i rs has in
          subst (λ (x : Rounds). StandsForRounds (up_step ∷ T) router server x) was.2
          (rounds_become T router server was.0 (part.rounds i server was.0 lists was.1) (up_step ∷ T) (λ place. refl) (new_round old.clock) (begun_round server));
    }

  -- by whether the router is up, the network stands for the trace with the step
  change_case : (core : RouterCoreState) → changes.acts.before.core ≡ core → StandsForCore o T router core → Stands new o (change o T router db line ∷ T)
  change_case (Up e) is part = stands_with (lines.Changed router (length db)) (ap (λ (c : RouterCoreState). change_line router db c) is) (up_legal e part) refl
      (subst (λ (c : RouterCoreState). StandsForCore o (change o T router db (lines.Changed router (length db)) ∷ T) router (changed_core db old.clock c)) (sym is) (up_part e part))
  change_case (Down config_then database) is part = stands_with (lines.Down router) (ap (λ (c : RouterCoreState). change_line router db c) is) (
      (record { faults = λ other. omega arith; obedient = refl; row = record { acts = record { kind = acts_router old new router [] changes.acts o T stand; acts = refl; state = part.0 }; names = refl; same = refl } })) refl
      (subst (λ (c : RouterCoreState). StandsForCore o (change o T router db (lines.Down router) ∷ T) router (changed_core db old.clock c)) (sym is) part)

  pub change_stands : (actor : ℕ) × (s : ShownStore) × Stands new o (record { event = events.Change router db; line = line; actor = actor; shown = s } ∷ T)
  change_stands = (router, shown_store o T router, change_case changes.acts.before.core refl router_stood.core)
