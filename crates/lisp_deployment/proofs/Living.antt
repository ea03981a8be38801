-- A node's life ends, perhaps in a turn, and its next one begins: the deployment goes on to be a network.
use Rattle.std.proofs.Common.{Ok, ◌≡◌, ◌⊎◌, inl, inr, Bool, true, false, true≢false, ℕ, ◌+◌, ◌-◌, List, [], ◌∷◌, ◌++◌, length, map, reverse, Some, refl, sym, ap, subst, ◌∙◌, append-nil, arith}
use Rattle.std.specs.Prelude.{◌≢◌, if◌then◌else◌, slice_get}
use Rattle.std.specs.List.{AllByRecursion}
use Rattle.std.proofs.lemmas.List.{append_assoc}
use Rattle.std.proofs.lemmas.Option.{slice_get_within, get_or_from_slice_get}
use Rattle.lisp_records.specs.declared.address.Addr.{Addr}
use Rattle.lisp_policy.specs.Configuration.{ConfigValue, RouterEntryValue}
use Rattle.lisp_policy.specs.Extends.{extends}
use Rattle.lisp_policy.specs.Site.{SiteValue}
use Rattle.lisp_nonces.specs.Store.{StoreState}
use Rattle.lisp_server.specs.Server.{ServerState, empty_server, reloaded}
use Rattle.lisp_model.specs.Trace.{EventValue, router_at, etr_config_of, Step, Opening}
use Rattle.lisp_refinement.specs.World.{ServerNodeState, RouterNodeState, DatagramValue, WorldState}
use Rattle.lisp_refinement.specs.Calls.{CoreAnswersStartOver, config_of, database_of}
use Rattle.lisp_refinement.specs.Events.{address_of}
use Rattle.lisp_refinement.specs.Reopening.{StoreReopens}
use Rattle.lisp_refinement.specs.Nodes.{fresh_server}
use Rattle.lisp_refinement.specs.Stands.{StandsForRouter, Stands}
use Rattle.lisp_etr.specs.Config.{EtrConfigValue}
use Rattle.lisp_records.specs.Record.{MapRecordValue}
use Rattle.lisp_nodes.specs.Cores.{first_used}
use Rattle.lisp_world.specs.Making.{router_over, StartsAt}
use Rattle.lisp_turns.specs.Acts.{TurnAct, DoesAll, act_calls, acts_calls}
use Rattle.lisp_turns.specs.Beginning.{Begins, TakesSites}
use Rattle.lisp_turns.proofs.Calls.{lines_append, told_lines}
use Rattle.lisp_turns.specs.Node.{NodeState, Server, Router, HasNode, Passes}
use Rattle.lisp_turns.specs.Part.{IsOwn, ArePrinted, arrival, arrived_in, arrivals, lines_of, sent_of, datagram_from}
use Rattle.lisp_turns.specs.Turn.{acts_of}
use Rattle.lisp_turns.proofs.Acting.{IsTold, AreOwn, acts_reach}
use Rattle.lisp_turns.proofs.OwnActs.{heard_own, taken_own, taken_did}
use Rattle.lisp_turns.proofs.Reaching.{Reaches, all_append, all_split, arrivals_append, goes_further}
use Rattle.lisp_turns.proofs.Restarts.{Restarts, taking, takes_sites, server_again, router_again}
use Rattle.lisp_turns.proofs.Ticking.{MayPass, passes_may, idles_may, tick_reaches}
use Rattle.lisp_deployment.specs.Deployment.{DeploymentState, sent_by, IsAmong, DeploymentStands}
use Rattle.lisp_deployment.specs.Lives.{store_of, BeginsLife, IsAsConfigured, EndsAsConfigured, sites_taken, TakesOneOf, IsLife, LifeGoesOn, LostTurnsAreCuts, LivesStand}
use Rattle.lisp_deployment.proofs.Among.{among_both, among_more}
use Rattle.lisp_deployment.proofs.Deploying.{nodes_stand, its_address}
use Rattle.lisp_deployment.proofs.Giving.{acts_take}
use Rattle.lisp_model.proofs.ListLemmas.{at_head, in_tail}

-- acts, as if each were told
abbrev as_told : TurnAct → TurnAct
as_told a = record a { told = true }

abbrev all_told : List TurnAct → List TurnAct
all_told acts = map as_told acts

told_did : (A : Type 0) (config : ConfigValue) (number : ℕ) (old new : NodeState) (now : ℕ) (acts : List TurnAct) → DoesAll A config number old new now acts → DoesAll A config number old new now (all_told acts)
told_did A config number old new now [] is = is
told_did A config number old new now (a ∷ earlier) (between, did, does) = (between, told_did A config number old between now earlier did, does)

told_own : (number : ℕ) (acts : List TurnAct) → AllByRecursion (λ a. IsOwn number a.event) acts → AreOwn number (all_told acts)
told_own number [] own = tt
told_own number (a ∷ earlier) own = ((own.0, inl refl), told_own number earlier own.1)

-- what arrived in them
arrived_both : (later earlier : List TurnAct) → arrived_in (later ++ earlier) ≡ arrived_in later ++ arrived_in earlier
arrived_both [] earlier = refl
arrived_both (a ∷ later) earlier = ap (λ (l : List (Addr × List ℕ)). arrival a.event ++ l) (arrived_both later earlier) ∙ sym (append_assoc (arrival a.event) (arrived_in later) (arrived_in earlier))

same_arrived : (acts : List TurnAct) → arrived_in (all_told acts) ≡ arrived_in acts
same_arrived [] = refl
same_arrived (a ∷ earlier) = ap (λ (l : List (Addr × List ℕ)). arrival a.event ++ l) (same_arrived earlier)

-- the lines of acts that are all told
all_told_lines : (acts : List TurnAct) → lines_of (acts_calls (all_told acts)) ≡ map (λ a. a.act.line) acts
all_told_lines [] = refl
all_told_lines (a ∷ earlier) = lines_append (act_calls (as_told a)) (acts_calls (all_told earlier)) ∙ (λ i. told_lines a.act.message a.taken a.event a.act.line i ++ all_told_lines earlier i)

-- acts up to one of them, and from there on
split_did : (A : Type 0) (config : ConfigValue) (number : ℕ) (old new : NodeState) (now : ℕ) (later earlier : List TurnAct) → DoesAll A config number old new now (later ++ earlier)
    → (between : NodeState) × DoesAll A config number old between now earlier × DoesAll A config number between new now later
split_did A config number old new now [] earlier did = (new, did, refl)
split_did A config number old new now (a ∷ later) earlier (between, did, does) =
    let rest = split_did A config number old between now later earlier did in (rest.0, rest.1, (between, rest.2, does))

-- those that are told
own_told : (number : ℕ) (acts : List TurnAct) → AllByRecursion (λ a. IsOwn number a.event) acts → AllByRecursion (IsTold number) acts → AreOwn number acts
own_told number [] own told = tt
own_told number (a ∷ earlier) own told = ((own.0, told.0), own_told number earlier own.1 told.1)

-- whichever their events are, if each is told
still_all : (P : EventValue → Type 0) (acts : List TurnAct) → AllByRecursion (λ a. P a.event) acts → AllByRecursion (λ a. P a.event) (all_told acts)
still_all P [] all = tt
still_all P (a ∷ earlier) all = (all.0, still_all P earlier all.1)

-- a Map-Server that takes sites: so it acts, nothing arrives, and it has these
own_reloads : (number : ℕ) (sites : List SiteValue) (steps : List Step) → TakesSites number sites steps → AllByRecursion (λ s. IsOwn number s.event) steps
own_reloads number sites [] takes = tt
own_reloads number sites (s ∷ steps) takes = (subst (λ (e : EventValue). IsOwn number e) (sym takes.0) refl, own_reloads number sites steps takes.1)

none_arrives : (number : ℕ) (sites : List SiteValue) (steps : List Step) → TakesSites number sites steps → arrivals steps ≡ []
none_arrives number sites [] takes = refl
none_arrives number sites (s ∷ steps) takes = (λ i. arrival (takes.0 i) ++ none_arrives number sites steps takes.1 i)

takes_these : (number : ℕ) (sites : List SiteValue) (given : List (List SiteValue)) (steps : List Step) → TakesSites number sites steps → AllByRecursion (λ s. TakesOneOf (sites ∷ given) s.event) steps
takes_these number sites given [] takes = tt
takes_these number sites given (s ∷ steps) takes = (
  subst (λ (e : EventValue). TakesOneOf (sites ∷ given) e) (sym takes.0) (at_head sites given),
  takes_these number sites given steps takes.1,
)

reloaded_sites : (old : ServerState) (new : List SiteValue) → (reloaded old new).sites ≡ new
reloaded_sites old new = by (extends old.sites new)
  where
    by : (b : Bool) → (if b then record old { sites = new } else empty_server new).sites ≡ new
    by true = refl
    by false = refl

-- a turn that is lost
only_own : (number : ℕ) (acts : List TurnAct) → AreOwn number acts → AllByRecursion (λ a. IsOwn number a.event) acts
only_own number [] own = tt
only_own number (a ∷ earlier) own = (own.0.0, only_own number earlier own.1)

pub lost_turns_are_cuts : (A : Type 0) → LostTurnsAreCuts A
lost_turns_are_cuts A config number places s left outside lost =
    let hearing = lost.hearing in
    let takes = hearing.takes in
    let intake = lost.intake in
    let did = taken_did A config number lost.now hearing.passed takes.between left intake.heard takes.did_hear intake.order intake.outcome intake.taken takes.obeys in
    let own = taken_own number intake.order intake.outcome intake.taken intake.heard (heard_own number (intake.others ++ lost.reception ∷ []) intake.heard takes.hears) in
    let all = sym (append-nil (acts_of number intake)) in (
      record {
        passed = hearing.passed;
        passes = inl hearing.expires.passes;
        did = subst (λ (l : List TurnAct). DoesAll A config number hearing.passed left lost.now l) all did;
        own = subst (λ (l : List TurnAct). AllByRecursion (λ a. IsOwn number a.event) l) all (only_own number (acts_of number intake) own);
        are_told = tt;
      },
      record { passed = s.node; passes = inr refl; did = refl; own = tt; are_told = tt },
    )

-- a life that begins, and the network by the time that all was told which was told of the last one
pub record LifeIsTold (config : ConfigValue) (sites : List SiteValue) (number : ℕ) (untold told : List TurnAct) (new : DeploymentState) (w : WorldState) (o : Opening) (T : List Step) : Type 0 where
  pub goes : LifeGoesOn config sites number untold told new o T
  pub left : WorldState
  pub stands : Stands left o (goes.life.first ++ T)
  pub bag : left.bag ≡ w.bag ++ sent_by config number (acts_calls told)

module _ (A : Type 0) (config : ConfigValue) (number : ℕ) (told : List TurnAct) (old new : DeploymentState) (life : BeginsLife A config number told old new) (w : WorldState) (o : Opening) (T : List Step) (stand : DeploymentStands config old w o T) where
  -- the sites that it took in its acts
  abbrev taken : List (List SiteValue)
  taken = sites_taken (life.untold ++ told)

  abbrev Takes : EventValue → Type 0
  Takes event = TakesOneOf (life.sites ∷ taken) event

  all_take : AllByRecursion (λ a. Takes a.event) life.untold × AllByRecursion (λ a. Takes a.event) told
  all_take = all_split (λ a. Takes a.event) life.untold told (acts_take (life.sites ∷ taken) (life.untold ++ told) (in_tail life.sites taken))

  all_own : AllByRecursion (λ a. IsOwn number a.event) life.untold × AllByRecursion (λ a. IsOwn number a.event) told
  all_own = all_split (λ a. IsOwn number a.event) life.untold told life.cut.own

  -- what it did until it ended
  may_pass : Passes (old.nodes number).node life.cut.passed life.ended ⊎ (life.cut.passed ≡ (old.nodes number).node) → MayPass (old.nodes number).node life.cut.passed life.ended
  may_pass (inl passes) = passes_may (old.nodes number).node life.cut.passed life.ended passes
  may_pass (inr same) = subst (λ (n : NodeState). MayPass (old.nodes number).node n life.ended) (sym same) (idles_may (old.nodes number).node life.ended)

  passed : Reaches Takes number [] [] [] life.cut.passed life.ended w o T
  passed = tick_reaches number (old.nodes number).node life.cut.passed life.ended w o T stand.stands (stand.nodes number life.known) (omega (arith, stand.clock, life.later.0)) (omega (arith, life.later.1, life.bound))
      (may_pass life.cut.passes) Takes (λ ms. tt)

  split : (between : NodeState) × DoesAll A config number life.cut.passed between life.ended told × DoesAll A config number between life.last life.ended life.untold
  split = split_did A config number life.cut.passed life.last life.ended life.untold told life.cut.did

  -- what was told
  until_told : Reaches Takes number (lines_of (acts_calls told) ++ []) (sent_of (acts_calls told) ++ []) (arrived_in told ++ []) split.0 life.ended w o T
  until_told = goes_further Takes number [] (lines_of (acts_calls told)) [] (sent_of (acts_calls told)) [] (arrived_in told) life.cut.passed split.0 life.ended life.ended w o T stand.stands passed
      (acts_reach A Takes config number life.cut.passed split.0 life.ended told split.1 (own_told number told all_own.1 life.cut.are_told) all_take.1
      passed.left o (passed.steps ++ T) passed.stands stand.config_is passed.node_is passed.clock)

  abbrev first : List Step
  first = until_told.steps ++ T

  -- and what wasn't
  untold_reaches : Reaches Takes number (lines_of (acts_calls (all_told life.untold))) (sent_of (acts_calls (all_told life.untold))) (arrived_in (all_told life.untold)) life.last life.ended until_told.left o first
  untold_reaches = acts_reach A Takes config number split.0 life.last life.ended (all_told life.untold) (told_did A config number split.0 life.last life.ended life.untold split.2)
      (told_own number life.untold all_own.0) (still_all Takes life.untold all_take.0) until_told.left o first until_told.stands stand.config_is until_told.node_is until_told.clock

  -- and then nobody did anything until the next life
  until_start : Reaches Takes number (lines_of (acts_calls (all_told life.untold))) (sent_of (acts_calls (all_told life.untold))) (arrived_in (all_told life.untold)) life.last new.moment until_told.left o first
  until_start = goes_further Takes number (lines_of (acts_calls (all_told life.untold))) [] (sent_of (acts_calls (all_told life.untold))) [] (arrived_in (all_told life.untold)) [] life.last life.last life.ended new.moment until_told.left o first
      until_told.stands untold_reaches
      (tick_reaches number life.last life.last new.moment untold_reaches.left o (untold_reaches.steps ++ first) untold_reaches.stands untold_reaches.node_is (omega (arith, untold_reaches.clock, life.later.1)) life.bound
      (idles_may life.last new.moment) Takes (λ ms. tt))

  abbrev at_start : WorldState
  at_start = until_start.left

  abbrev before : List Step
  before = until_start.steps ++ first

  -- the network has what was told, and more
  abbrev more : List DatagramValue
  more = map (datagram_from (address_of until_told.left number)) (reverse (sent_of (acts_calls (all_told life.untold))))

  told_bag : until_told.left.bag ≡ w.bag ++ sent_by config number (acts_calls told)
  told_bag = until_told.bag ∙ (λ i. w.bag ++ map (datagram_from (its_address config number old w o T stand i)) (reverse (append-nil (sent_of (acts_calls told)) i)))

  start_bag : at_start.bag ≡ w.bag ++ (sent_by config number (acts_calls told) ++ more)
  start_bag = until_start.bag ∙ ap (λ (l : List DatagramValue). l ++ more) told_bag ∙ append_assoc w.bag (sent_by config number (acts_calls told)) more

  -- where it begins with a restart, perhaps under other sites, the deployment is a network
  record Again (begun : NodeState) : Type 0 where
    reloads : List Step
    takes_sites : TakesSites number life.sites reloads
    reloaded : WorldState
    clock : reloaded.clock ≡ at_start.clock
    bag : reloaded.bag ≡ at_start.bag
    others : (k : ℕ) (other : NodeState) → k ≢ number → HasNode at_start k other → HasNode reloaded k other
    restarts : Restarts number begun reloaded o (reloads ++ before)

  module _ (again : Again (new.nodes number).node) where
    abbrev left : WorldState
    left = again.restarts.left

    sent_is : IsAmong new.sent left.bag
    sent_is = subst (λ (p : List DatagramValue × List DatagramValue). IsAmong p.0 p.1)
        {x = (old.sent ++ sent_by config number (acts_calls told), w.bag ++ (sent_by config number (acts_calls told) ++ more))} {y = (new.sent, left.bag)}
        (λ i. (sym life.sent i, sym (again.restarts.bag ∙ again.bag ∙ start_bag) i))
        (among_both old.sent w.bag (sent_by config number (acts_calls told)) (sent_by config number (acts_calls told) ++ more) stand.sent (among_more (sent_by config number (acts_calls told)) more))

    -- its steps: those that were told, and then the others
    abbrev untold : List Step
    untold = again.reloads ++ until_start.steps

    abbrev all_steps : List Step
    all_steps = again.restarts.step ∷ untold ++ until_told.steps

    life_steps : IsLife number told all_steps
    life_steps = record {
      first = until_told.steps;
      printed = subst (ArePrinted until_told.steps) (append-nil (lines_of (acts_calls told))) until_told.are_printed;
      untold = untold;
      own = all_append (λ x. IsOwn number x.event) untold until_told.steps (all_append (λ x. IsOwn number x.event) again.reloads until_start.steps (own_reloads number life.sites again.reloads again.takes_sites) until_start.own) until_told.own;
      restart = again.restarts.step;
      event = again.restarts.event_is;
      line = again.restarts.line_is;
      is = refl;
    }

    untold_arrived : arrivals untold ≡ arrived_in (all_told life.untold)
    untold_arrived = arrivals_append again.reloads until_start.steps ∙ (λ i. none_arrives number life.sites again.reloads again.takes_sites i ++ until_start.heard i)

    what_arrived : arrivals all_steps ≡ arrived_in (life.untold ++ told)
    what_arrived = (λ i. arrival (again.restarts.event_is i) ++ arrivals (untold ++ until_told.steps)) ∙ arrivals_append untold until_told.steps
        ∙ (λ i. untold_arrived i ++ (until_told.heard ∙ append-nil (arrived_in told)) i)
        ∙ (λ i. same_arrived life.untold i ++ arrived_in told) ∙ sym (arrived_both life.untold told)

    what_it_takes : AllByRecursion (λ x. Takes x.event) all_steps
    what_it_takes = (
      subst Takes (sym again.restarts.event_is) tt,
      all_append (λ x. Takes x.event) untold until_told.steps
          (all_append (λ x. Takes x.event) again.reloads until_start.steps (takes_these number life.sites taken again.reloads again.takes_sites) until_start.allowed) until_told.allowed,
    )

    regrouped : (untold ++ until_told.steps) ++ T ≡ again.reloads ++ before
    regrouped = append_assoc untold until_told.steps T ∙ append_assoc again.reloads until_start.steps first

    goes_on : LifeIsTold config life.sites number life.untold told new w o T
    unfolding life_steps
    goes_on = record {
      goes = record {
        steps = all_steps;
        left = left;
        life = life_steps;
        heard = what_arrived;
        reloads = again.reloads;
        rest = until_start.steps;
        parts = refl;
        takes_sites = again.takes_sites;
        swallowed = subst (ArePrinted until_start.steps) (all_told_lines life.untold) until_start.are_printed;
        takes = what_it_takes;
        stands = record {
          stands = subst (λ (l : List Step). Stands left o (again.restarts.step ∷ l)) (sym regrouped) again.restarts.stands;
          config_is = stand.config_is;
          nodes = λ k known. nodes_stand number old new w left life.others again.restarts.has
              (λ j other differs there. again.restarts.others j other differs (again.others j other differs (until_start.others j other differs (until_told.others j other differs there)))) k (stand.nodes k known);
          clock = again.restarts.clock ∙ again.clock ∙ until_start.clock;
          sent = sent_is;
        };
      };
      left = until_told.left;
      stands = until_told.stands;
      bag = told_bag;
    }

  -- a router that keeps its key and its database
  module _ (last begun : RouterNodeState) (configured : IsAsConfigured config number last) (place : ℕ) (number_is : number ≡ length at_start.servers + place) (was : slice_get at_start.routers place ≡ Some last)
      (entry_place : ℕ) (entry_number : number ≡ length config.servers + entry_place) (down : RouterNodeState) (entry : RouterEntryValue) (there : slice_get config.routers entry_place ≡ Some entry)
      (down_is : down ≡ router_over config entry life.store) (starts : StartsAt down begun new.moment) (reopens : StoreReopens last.store life.store 0) where
    entry_is : entry ≡ router_at config number
    entry_is = (let at : number - length config.servers ≡ entry_place = omega (arith, entry_number) in
        sym (get_or_from_slice_get config.routers (number - length config.servers) entry _ (ap (slice_get config.routers) at ∙ there)))

    in_model : router_at o.config (length o.config.servers + place) ≡ router_at config number
    in_model = (let at : length o.config.servers + place ≡ number = omega (arith, number_is, until_start.stands.steps.servers) in λ i. router_at (stand.config_is i) (at i))

    last_stands : StandsForRouter o before (length o.config.servers + place) last
    last_stands = until_start.stands.routers place last was

    settings : config_of down.core ≡ config_of last.core
    settings = ap (λ (n : RouterNodeState). config_of n.core) down_is ∙ ap (λ (r : RouterEntryValue). etr_config_of config r) entry_is ∙ sym configured.settings

    same_database : database_of down.core ≡ database_of last.core
    same_database = ap (λ (n : RouterNodeState). database_of n.core) down_is ∙ ap (λ (r : RouterEntryValue). r.database) entry_is ∙ sym configured.database

    router_restarts : Restarts number (Router begun) at_start o before
    router_restarts = router_again number at_start o before until_start.stands last begun life.store (place, number_is, was)
        (starts.me ∙ ap (λ (n : RouterNodeState). n.me) down_is ∙ ap (λ (r : RouterEntryValue). r.me) entry_is ∙ sym (last_stands.me ∙ ap (λ (r : RouterEntryValue). r.me) in_model))
        (starts.servers ∙ ap (λ (n : RouterNodeState). n.servers) down_is ∙ ap (λ (r : RouterEntryValue). r.servers) entry_is ∙ sym (last_stands.servers ∙ ap (λ (r : RouterEntryValue). r.servers) in_model))
        (starts.used ∙ ap (λ (n : RouterNodeState). n.used) down_is ∙ ap (λ (r : RouterEntryValue). first_used r.key_id) entry_is ∙ sym configured.used) reopens
        (subst (λ (p : EtrConfigValue × List MapRecordValue × ℕ × StoreState). CoreAnswersStartOver p.0 p.1 p.2 p.3 begun.store begun.core (Ok tt))
        {x = (config_of down.core, database_of down.core, new.moment, down.store)} {y = (config_of last.core, database_of last.core, at_start.clock, life.store)}
        (λ i. (settings i, same_database i, sym until_start.clock i, ap (λ (n : RouterNodeState). n.store) down_is i)) starts.starts)

  -- a node of either kind
  same_count : length at_start.servers ≡ length config.servers
  same_count = until_start.stands.steps.servers ∙ ap (λ (c : ConfigValue). length c.servers) stand.config_is

  by_kind : (last begun : NodeState) → EndsAsConfigured config number last → HasNode at_start number last → StoreReopens (store_of last) life.store 0 → Begins config life.sites number life.store new.moment begun → Again begun
  by_kind (Server last) (Server begun) configured has reopens (low, is) =
      let took = takes_sites number at_start o before until_start.stands last life.sites has in
      record {
        reloads = took.step ∷ [];
        takes_sites = (took.event_is, tt);
        reloaded = took.left;
        clock = took.clock;
        bag = took.bag;
        others = took.others;
        restarts = server_again number took.left o (took.step ∷ before) took.stands (taking number at_start o before until_start.stands last life.sites) begun took.has
            (ap (λ (n : ServerNodeState). n.core) is ∙ ap fresh_server (sym (reloaded_sites last.core life.sites)))
            (subst (λ (s : StoreState). StoreReopens last.store s 0) (sym (ap (λ (n : ServerNodeState). n.store) is)) reopens)
            (ap (λ (n : ServerNodeState). n.started) is ∙ sym (took.clock ∙ until_start.clock));
      }
  by_kind (Server last) (Router begun) configured has reopens (place, number_is, down, over, starts) = absurd (omega (arith, number_is, slice_get_within at_start.servers number last has, same_count))
  by_kind (Router last) (Server begun) configured (place, number_is, was) reopens begins = absurd (omega (arith, number_is, begins.0, same_count))
  by_kind (Router last) (Router begun) configured (place, number_is, was) reopens (entry_place, entry_number, down, (entry, there, down_is), starts) = record {
    reloads = [];
    takes_sites = tt;
    reloaded = at_start;
    clock = refl;
    bag = refl;
    others = λ k other differs has. has;
    restarts = router_restarts last begun configured place number_is was entry_place entry_number down entry there down_is starts reopens;
  }

  pub lives_are_told : EndsAsConfigured config number life.last → LifeIsTold config life.sites number life.untold told new w o T
  lives_are_told configured = goes_on (by_kind life.last (new.nodes number).node configured until_start.node_is (record {
    narrows = λ honest. life.survives.narrows;
    picks = λ obeys. absurd (true≢false (sym obeys ∙ life.survives.unscheduled.0));
    honest = life.survives.honest.1 ∙ sym life.survives.honest.0;
    obedient = life.survives.unscheduled.1 ∙ sym life.survives.unscheduled.0;
  }) life.begins)

pub lives_stand : (A : Type 0) → LivesStand A
lives_stand A config number told old new life configured w o T stand = (lives_are_told A config number told old new life w o T stand configured).goes
