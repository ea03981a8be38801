-- A deployment whose nodes all begin is a network at its opening; and one begins whose nodes idle.
use Rattle.std.proofs.Common.{ℕ, false, List, [], None, refl, sym, subst, ◌∙◌}
use Rattle.lisp_policy.specs.Configuration.{ConfigValue}
use Rattle.lisp_budget.specs.Budget.{unused}
use Rattle.lisp_nonces.specs.Store.{StoreState}
use Rattle.lisp_model.specs.Network.{IsNetwork}
use Rattle.lisp_model.specs.Trace.{Opening}
use Rattle.lisp_refinement.specs.World.{DatagramValue, WorldState}
use Rattle.lisp_turns.specs.Outside.{OutsideState}
use Rattle.lisp_turns.specs.Requests.{ResolvingValue}
use Rattle.lisp_turns.specs.Stretch.{beginning}
use Rattle.lisp_turns.proofs.Openings.{all_open, idle_node, begins_idle}
use Rattle.lisp_deployment.specs.Deployment.{DeploymentState, IsAmong}
use Rattle.lisp_deployment.specs.Opening.{DeploymentBegins, DeploymentsBegin, DeploymentOpens, DeploymentsAreNetworks}
use Rattle.lisp_deployment.proofs.Deploying.{turns_are_one_trace}

pub first_opens : (c : ConfigValue) (stores : ℕ → StoreState) (d : DeploymentState) → IsNetwork c → DeploymentBegins c stores d → (w : WorldState) × (o : Opening) × DeploymentOpens c stores d w o
first_opens c stores d network begins =
    let all = all_open c stores (λ k. (d.nodes k).node) network (record { begin = begins.nodes; honest = begins.honest }) in (
      all.0,
      all.1,
      record {
        stands = record {
          stands = all.2.stands;
          config_is = all.2.config_is;
          nodes = all.2.has;
          clock = all.2.clock ∙ sym begins.moment;
          sent = subst (λ (l : List DatagramValue). IsAmong l all.0.bag) (sym begins.unsent) tt;
        };
        kept = all.2.kept;
        bag = all.2.bag;
      },
    )

pub deployments_are_networks : (A : Type 0) → DeploymentsAreNetworks A
deployments_are_networks A c stores begun d turns network begins took =
    let opens = first_opens c stores begun network begins in (opens.0, opens.1, opens.2, turns_are_one_trace A c turns begun d took opens.0 opens.1 [] opens.2.stands)

abbrev nothing_outside : OutsideState
nothing_outside = record { log = None; moment = 0; is_cut = false; is_asked = false }

abbrev no_budget : ResolvingValue
no_budget = record { quiet = 0; budget = unused 0 0 }

pub deployments_begin : DeploymentsBegin
deployments_begin c stores fit = (
  record { moment = 0; nodes = λ k. beginning (idle_node c k (stores k)) no_budget nothing_outside; sent = [] },
  record { nodes = λ k known. begins_idle c k (stores k) known (fit k known).1; honest = λ k known. (fit k known).0; moment = refl; unsent = refl },
)
