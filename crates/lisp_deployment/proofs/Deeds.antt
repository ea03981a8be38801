-- A deployment has a trace, whatever its nodes do, and whichever crashes.
use Rattle.std.proofs.Common.{◌≡◌, List, [], ◌∷◌, ◌++◌, refl, sym, subst, append-nil}
use Rattle.std.proofs.lemmas.List.{append_assoc}
use Rattle.lisp_policy.specs.Configuration.{ConfigValue}
use Rattle.lisp_model.specs.Trace.{Step, Opening}
use Rattle.lisp_refinement.specs.World.{WorldState}
use Rattle.lisp_refinement.proofs.Headlines.{networks_promise}
use Rattle.lisp_deployment.specs.Deeds.{Deed, Turn, Life, DoesDeed, DoDeeds, IsOf, AreOf, HasTrace, DeploymentsHaveTraces}
use Rattle.lisp_deployment.specs.Deployment.{DeploymentState, DeploymentStands}
use Rattle.lisp_deployment.proofs.Deploying.{turned, its_part, turn_stands}
use Rattle.lisp_deployment.proofs.Living.{lives_are_told}
use Rattle.lisp_deployment.proofs.Opening.{first_opens}

-- a deployment goes on to be a network, by a deed
pub record GoesOnBy (config : ConfigValue) (deed : Deed) (new : DeploymentState) (w : WorldState) (o : Opening) (T : List Step) : Type 0 where
  pub steps : List Step
  pub left : WorldState
  pub is_of : IsOf deed w left o T steps
  pub stands : DeploymentStands config new left o (steps ++ T)

module _ (A : Type 0) (config : ConfigValue) where
  abbrev pub one_deed : (deed : Deed) (old new : DeploymentState) → DoesDeed A config deed old new → (w : WorldState) (o : Opening) (T : List Step)
      → DeploymentStands config old w o T → GoesOnBy config deed new w o T
  one_deed (Turn number calls) old new takes w o T stand = record {
    steps = (turned A config number calls old new takes w o T stand).steps;
    left = (turned A config number calls old new takes w o T stand).left;
    is_of = its_part A config number calls old new takes w o T stand;
    stands = turn_stands A config number calls old new takes w o T stand;
  }
  one_deed (Life number told) old new begins w o T stand =
      let goes = (lives_are_told A config number told old new begins.life w o T stand begins.configured).goes in
      record { steps = goes.steps; left = goes.left; is_of = goes.life; stands = goes.stands }

  -- and by deeds, where something holds after each of them
  module _ (o : Opening) (old : DeploymentState) (Holds : (deeds : List Deed) (new : DeploymentState) → DoDeeds A config deeds old new → List Step → Type 0) where
    pub record GoOn (deeds : List Deed) (new : DeploymentState) (did : DoDeeds A config deeds old new) (w : WorldState) (T : List Step) : Type 0 where
      pub steps : List Step
      pub left : WorldState
      pub are_of : AreOf deeds w left o T steps
      pub stands : DeploymentStands config new left o (steps ++ T)
      pub holds : Holds deeds new did (steps ++ T)

    pub deeds_stand : (w : WorldState) (T : List Step) → DeploymentStands config old w o T → ((d : DeploymentState) (is : d ≡ old) → Holds [] d is T)
        → ((deed : Deed) (earlier : List Deed) (between new : DeploymentState) (did : DoDeeds A config earlier old between) (does : DoesDeed A config deed between new)
        (v : WorldState) (U : List Step) (stand : DeploymentStands config between v o U)
        → Holds earlier between did U → Holds (deed ∷ earlier) new (between, did, does) ((one_deed deed between new does v o U stand).steps ++ U))
        → (deeds : List Deed) (new : DeploymentState) (did : DoDeeds A config deeds old new) → GoOn deeds new did w T
    deeds_stand w T stand none keeps [] new is =
        record { steps = []; left = w; are_of = (refl, refl); stands = subst (λ (d : DeploymentState). DeploymentStands config d w o T) (sym is) stand; holds = none new is }
    deeds_stand w T stand none keeps (deed ∷ earlier) new (between, did, does) =
        let first = deeds_stand w T stand none keeps earlier between did in
        let second = one_deed deed between new does first.left o (first.steps ++ T) first.stands in
        record {
          steps = second.steps ++ first.steps;
          left = second.left;
          are_of = (first.left, first.steps, second.steps, first.are_of, second.is_of, refl);
          stands = subst (λ (l : List Step). DeploymentStands config new second.left o l) (sym (append_assoc second.steps first.steps T)) second.stands;
          holds = subst (λ (l : List Step). Holds (deed ∷ earlier) new (between, did, does) l) (sym (append_assoc second.steps first.steps T))
              (keeps deed earlier between new did does first.left (first.steps ++ T) first.stands first.holds);
        }

    -- a trace from the opening on
    pub its_trace : (deeds : List Deed) (new : DeploymentState) (did : DoDeeds A config deeds old new) (w : WorldState) → GoOn deeds new did w []
        → (has : HasTrace config deeds new w o) × Holds deeds new did has.trace
    its_trace deeds new did w goes =
        let stand = subst (λ (l : List Step). DeploymentStands config new goes.left o l) (append-nil goes.steps) goes.stands in (
          record { trace = goes.steps; network = goes.left; are_of = goes.are_of; stands = stand; headline = networks_promise goes.left o goes.steps stand.stands },
          subst (λ (l : List Step). Holds deeds new did l) (append-nil goes.steps) goes.holds,
        )

pub deployments_have_traces : (A : Type 0) → DeploymentsHaveTraces A
deployments_have_traces A config stores begun d deeds network begins did =
    let opens = first_opens config stores begun network begins in
    let goes = deeds_stand A config opens.1 begun (λ deeds d did T. Unit {0}) opens.0 [] opens.2.stands (λ d is. tt) (λ deed earlier between new did does v U stand before. tt) deeds d did in
    (opens.0, opens.1, opens.2, (its_trace A config opens.1 begun (λ deeds d did T. Unit {0}) deeds d did opens.0 goes).0)
