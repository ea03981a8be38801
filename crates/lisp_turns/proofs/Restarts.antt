-- A node of a network begins again, or a Map-Server takes sites: the network goes on by that step, and the other nodes are as they were.
use Rattle.std.proofs.Common.{◌≡◌, ℕ, ◌-◌, List, [], ◌∷◌, ◌++◌, length, Some, None, Ok, refl, ap, append-nil, arith}
use Rattle.std.specs.Prelude.{◌≢◌, if◌then◌else◌, slice_get, slice_set}
use Rattle.std.proofs.lemmas.Option.{slice_get_within}
use Rattle.lisp_policy.specs.Extends.{extends}
use Rattle.lisp_policy.specs.Site.{SiteValue}
use Rattle.lisp_nonces.specs.Store.{StoreState}
use Rattle.lisp_server.specs.Server.{reloaded}
use Rattle.lisp_model.specs.declared.event.Event.TheVariants as events
use Rattle.lisp_model.specs.declared.line.Line.{Line}
use Rattle.lisp_model.specs.declared.line.Line.TheVariants as lines
use Rattle.lisp_model.specs.Trace.{EventValue, Step, Opening}
use Rattle.lisp_refinement.specs.Calls.{CoreAnswersStartOver, config_of, database_of}
use Rattle.lisp_refinement.specs.Events.{reload_line}
use Rattle.lisp_refinement.specs.Nodes.{fresh_server}
use Rattle.lisp_refinement.specs.Reopening.{StoreReopens}
use Rattle.lisp_refinement.specs.Stands.{Stands, StandsAfter}
use Rattle.lisp_refinement.specs.World.{ServerNodeState, RouterNodeState, WorldState}
use Rattle.lisp_refinement.proofs.Reloading.{reload_stands}
use Rattle.lisp_refinement.proofs.Restarting.{reopen_server_stands, reopen_router_stands}
use Rattle.lisp_turns.specs.Node.{NodeState, Server, Router, HasNode}
use Rattle.lisp_turns.proofs.Beside.{IsThere, with_one, has_one, has_others}

-- the network went on by a step, in which the node with a number became this one
pub record StepsTo (number : ℕ) (event : EventValue) (line : Line) (node : NodeState) (w : WorldState) (o : Opening) (T : List Step) : Type 0 where
  pub step : Step
  pub event_is : step.event ≡ event
  pub line_is : step.line ≡ line
  pub left : WorldState
  pub stands : Stands left o (step ∷ T)
  pub has : HasNode left number node
  pub others : (k : ℕ) (other : NodeState) → k ≢ number → HasNode w k other → HasNode left k other
  pub clock : left.clock ≡ w.clock
  pub bag : left.bag ≡ w.bag

abbrev pub Restarts : ℕ → NodeState → WorldState → Opening → List Step → Type 0
Restarts number node w o T = StepsTo number (events.Restart number 0 None) (lines.Restarted number) node w o T

module _ (number : ℕ) (w : WorldState) (o : Opening) (T : List Step) (stand : Stands w o T) where
  abbrev then_with : NodeState → WorldState
  then_with node = with_one w number w.clock (w.bag ++ []) node

  steps_to : (event : EventValue) (line : Line) (node : NodeState) → IsThere w number node → StandsAfter w (then_with node) event line → StepsTo number event line node w o T
  steps_to event line node there after =
      let made = after o T stand in
      record {
        step = record { event = event; line = line; actor = made.0; shown = made.1 };
        event_is = refl;
        line_is = refl;
        left = then_with node;
        stands = made.2;
        has = has_one w number w.clock (w.bag ++ []) node there;
        others = has_others w number w.clock (w.bag ++ []) node there;
        clock = refl;
        bag = append-nil w.bag;
      }

  -- a Map-Server takes sites
  abbrev pub taking : ServerNodeState → List SiteValue → ServerNodeState
  taking n sites = record { core = reloaded n.core sites; store = n.store; started = if extends n.core.sites sites then n.started else w.clock }

  pub takes_sites : (n : ServerNodeState) (sites : List SiteValue) → slice_get w.servers number ≡ Some n
      → StepsTo number (events.Reload number sites) (reload_line number (extends n.core.sites sites) (length sites)) (Server (taking n sites)) w o T
  takes_sites n sites has =
      let line : Line = reload_line number (extends n.core.sites sites) (length sites) in
      steps_to (events.Reload number sites) line (Server (taking n sites)) (slice_get_within w.servers number n has) (reload_stands w (then_with (Server (taking n sites))) number sites line (record {
        acts = record { before = n; after = taking n sites; was = has; left = refl };
        reloads = record { core = refl; store = refl; started = refl };
        said = refl;
      }))

  -- it begins again
  pub server_again : (last begun : ServerNodeState) → slice_get w.servers number ≡ Some last → begun.core ≡ fresh_server last.core.sites → StoreReopens last.store begun.store 0 → begun.started ≡ w.clock → Restarts number (Server begun) w o T
  server_again last begun has core reopens started =
      steps_to (events.Restart number 0 None) (lines.Restarted number) (Server begun) (slice_get_within w.servers number last has) (reopen_server_stands w (then_with (Server begun)) number 0 (lines.Restarted number) (record {
        acts = record { before = last; after = begun; was = has; left = refl };
        core = core;
        reopens = reopens;
        started = started;
        said = refl;
      }))

  -- and so does a router, which has its settings and its database again
  pub router_again : (last begun : RouterNodeState) (opened : StoreState) → HasNode w number (Router last) → begun.me ≡ last.me → begun.servers ≡ last.servers → begun.used ≡ last.used → StoreReopens last.store opened 0
      → CoreAnswersStartOver (config_of last.core) (database_of last.core) w.clock opened begun.store begun.core (Ok tt) → Restarts number (Router begun) w o T
  router_again last begun opened (place, number_is, has) me servers used reopens starts =
      let at : number - length w.servers ≡ place = omega (arith, number_is) in
      steps_to (events.Restart number 0 None) (lines.Restarted number) (Router begun) (place, number_is, slice_get_within w.routers place last has)
      (reopen_router_stands w (then_with (Router begun)) number 0 None (lines.Restarted number) tt (record {
        acts = record { place = place; number = number_is; before = last; after = begun; was = has; left = ap (λ m. record w { bag = w.bag ++ []; routers = slice_set w.routers m begun }) at };
        me = me;
        servers = servers;
        used = used;
        opened = opened;
        reopens = reopens;
        answer = Ok tt;
        counts = tt;
        starts = starts;
        said = refl;
      }))
