-- Where nothing that was received is forged, the trace of a deployment is clean.
use Rattle.std.proofs.Common.{ap, ◌∙◌, ◌≡◌, ◌⊎◌, inl, inr, ℕ, List, [], ◌∷◌, ◌++◌, sym, subst}
use Rattle.std.specs.List.{AllByRecursion, Contains}
use Rattle.std.proofs.lemmas.List.Elements.{Contains-append_left, Contains-append_right}
use Rattle.lisp_records.specs.declared.address.Addr.{Addr}
use Rattle.lisp_policy.specs.Configuration.{ConfigValue}
use Rattle.lisp_policy.specs.Site.{SiteValue}
use Rattle.lisp_model.specs.declared.event.Event.TheVariants as events
use Rattle.lisp_model.specs.declared.line.Line.{Line}
use Rattle.lisp_model.specs.Bag.{bag}
use Rattle.lisp_model.specs.Clean.{IsEcho, IsNoise, IsHarmless, Clean}
use Rattle.lisp_model.specs.Legal.{LegalTrace}
use Rattle.lisp_model.specs.Trace.{EventValue, Step, Opening, address_at}
use Rattle.lisp_model.proofs.CleanLemmas.{in_get}
use Rattle.lisp_model.proofs.ListLemmas.{at_head, in_none}
use Rattle.lisp_refinement.specs.World.{DatagramValue, WorldState}
use Rattle.lisp_refinement.proofs.ServerArrivals.{lies}
use Rattle.lisp_turns.specs.Acts.{TurnAct, acts_calls}
use Rattle.lisp_turns.specs.Outside.{Call}
use Rattle.lisp_turns.specs.Part.{IsOwn, arrival, arrivals, datagram_from, lines_of, received_of, arrived_in}
use Rattle.lisp_turns.proofs.Reaching.{all_split}
use Rattle.lisp_deployment.specs.Deeds.{Deed, Turn, Life, BeginsAgain, DoesDeed, DoDeeds}
use Rattle.lisp_deployment.specs.Deployment.{DeploymentState, sent_by, TakesTurn, DeploymentStands}
use Rattle.lisp_deployment.specs.Lives.{IsLife, sites_taken}
use Rattle.lisp_deployment.specs.Received.{node_of, received_in, sites_told, given_in, given_by, IsForgedFor, IsUnforged, ReceivesUnforged, HasCleanTrace, UnforgedDeploymentsAreClean}
use Rattle.lisp_deployment.specs.Printed.{lines_in, all_lines}
use Rattle.lisp_deployment.specs.Opening.{DeploymentBegins, DeploymentOpens}
use Rattle.lisp_nonces.specs.Store.{StoreState}
use Rattle.lisp_model.specs.Network.{IsNetwork}
use Rattle.lisp_deployment.proofs.Deeds.{one_deed, deeds_stand, its_trace}
use Rattle.lisp_deployment.proofs.Deploying.{turned, its_part, turn_bag}
use Rattle.lisp_deployment.proofs.Posting.{got}
use Rattle.lisp_deployment.proofs.Giving.{ordered_given, taken_given, more_given, TakeGiven, may_hold}
use Rattle.lisp_deployment.proofs.Telling.{AreAllTold, turn_tells, life_tells}
use Rattle.lisp_deployment.proofs.Living.{lives_are_told}
use Rattle.lisp_deployment.proofs.Opening.{first_opens}
use Rattle.lisp_deployment.proofs.Among.{contains_among}

-- something that arrives at a node does no harm after a trace
abbrev IsHarmlessTo : Opening → List (List SiteValue) → List Step → ℕ → Addr × List ℕ → Type 0
IsHarmlessTo o given T number m = IsEcho (bag o T) m.0 (address_at o.config number) m.1 ⊎ (IsNoise m.1 ⊎ IsForgedFor o.config given number m.1)

module _ (o : Opening) (given : List (List SiteValue)) (T : List Step) (number : ℕ) where
  -- nor does it after more steps
  still_harmless : (steps : List Step) (m : Addr × List ℕ) → IsHarmlessTo o given T number m → IsHarmlessTo o given (steps ++ T) number m
  still_harmless [] m is = is
  still_harmless (s ∷ steps) m is = by (still_harmless steps m is)
    where
      by : IsHarmlessTo o given (steps ++ T) number m → IsHarmlessTo o given (s ∷ steps ++ T) number m
      by (inl echo) = inl (record { item = echo.item; sent = Contains-append_left (bag o (steps ++ T)) _ echo.item echo.sent; source = echo.source; target = echo.target; same = echo.same })
      by (inr other) = inr other

  -- an event of the node
  one_harmless : (steps : List Step) → LegalTrace o (steps ++ T) → TakeGiven o given (steps ++ T) → (event : EventValue) → IsOwn number event → AllByRecursion (IsHarmlessTo o given T number) (arrival event) → IsHarmless o (steps ++ T) event
  one_harmless steps legal take (events.Junk to from bytes) here all = subst (λ (n : ℕ). IsHarmless o (steps ++ T) (events.Junk n from bytes)) (sym here) (by (still_harmless steps (from, bytes) all.0))
    where
      by : IsHarmlessTo o given (steps ++ T) number (from, bytes) → IsHarmless o (steps ++ T) (events.Junk number from bytes)
      by (inl echo) = inl echo
      by (inr (inl noise)) = inr (inl noise)
      by (inr (inr forged)) = inr (inr (λ secret has. forged secret (may_hold o given (steps ++ T) number legal take secret has)))
  one_harmless steps legal take _ own all = tt

  -- steps of the node
  clean_steps : (steps : List Step) → AllByRecursion (λ s. IsOwn number s.event) steps → LegalTrace o (steps ++ T) → TakeGiven o given (steps ++ T) → AllByRecursion (IsHarmlessTo o given T number) (arrivals steps) → Clean o T → Clean o (steps ++ T)
  clean_steps [] own legal take all clean = clean
  clean_steps (s ∷ steps) own legal take all clean =
      let parts = all_split (IsHarmlessTo o given T number) (arrival s.event) (arrivals steps) all in
      (one_harmless steps legal.1 take.1 s.event own.0 parts.0, clean_steps steps own.1 legal.1 take.1 parts.1 clean)

-- what isn't forged does no harm
module _ (config : ConfigValue) (given : List (List SiteValue)) (d : DeploymentState) (w : WorldState) (o : Opening) (T : List Step) (stand : DeploymentStands config d w o T) (number : ℕ) where
  echoes : (datagram : DatagramValue) → Contains d.sent datagram → IsEcho (bag o T) datagram.from datagram.to datagram.bytes
  echoes datagram has =
      let there = got w.bag datagram (contains_among d.sent w.bag datagram stand.sent has) in
      let l = lies w o T stand.stands there.0 datagram there.1 in
      record { item = l.item; sent = in_get (bag o T) there.0 l.item l.sent; source = sym l.carries.from; target = sym l.carries.to; same = sym l.carries.bytes }

  unforged_harmless : (m : Addr × List ℕ) → IsUnforged config given d.sent number m → IsHarmlessTo o given T number m
  unforged_harmless m is = subst (λ (c : ConfigValue). IsEcho (bag o T) m.0 (address_at c number) m.1 ⊎ (IsNoise m.1 ⊎ IsForgedFor c given number m.1)) (sym stand.config_is) (by is)
    where
      by : IsUnforged config given d.sent number m → IsEcho (bag o T) m.0 (address_at config number) m.1 ⊎ (IsNoise m.1 ⊎ IsForgedFor config given number m.1)
      by (inl sent) = inl (echoes (datagram_from m.0 (address_at config number, m.1)) sent)
      by (inr other) = inr other

  all_harmless : (ms : List (Addr × List ℕ)) → AllByRecursion (IsUnforged config given d.sent number) ms → AllByRecursion (IsHarmlessTo o given T number) ms
  all_harmless [] all = tt
  all_harmless (m ∷ ms) all = (unforged_harmless m all.0, all_harmless ms all.1)

-- after a trace no other sites were taken, it is clean, and all was told, with these lines, of what was sent
record AreClean (o : Opening) (given : List (List SiteValue)) (T : List Step) (printed : List Line) (sent : List DatagramValue) : Type 0 where
  pub take : TakeGiven o given T
  pub clean : Clean o T
  pub all_told : AreAllTold o T printed sent

-- the steps of a life
life_clean : (config : ConfigValue) (given : List (List SiteValue)) (number : ℕ) (told : List TurnAct) (o : Opening) (T steps : List Step) (life : IsLife number told steps) → LegalTrace o (steps ++ T) → TakeGiven o given (steps ++ T)
    → AllByRecursion (IsHarmlessTo o given T number) (arrivals steps) → Clean o T → Clean o (steps ++ T)
life_clean config given number told o T steps life legal take all clean =
    subst (λ (l : List Step). Clean o (l ++ T)) (sym life.is) (
      subst (λ (e : EventValue). IsHarmless o ((life.untold ++ life.first) ++ T) e) (sym life.event) tt,
      clean_steps o given T number (life.untold ++ life.first) life.own (subst (λ (l : List Step). LegalTrace o (l ++ T)) life.is legal).1 (subst (λ (l : List Step). TakeGiven o given (l ++ T)) life.is take).1
          (subst (λ (e : EventValue). AllByRecursion (IsHarmlessTo o given T number) (arrival e ++ arrivals (life.untold ++ life.first))) life.event
          (subst (λ (l : List Step). AllByRecursion (IsHarmlessTo o given T number) (arrivals l)) life.is all)) clean,
    )

-- what arrives in the steps of a life is what arrives before its restart
before_restart : (P : Addr × List ℕ → Type 0) (number : ℕ) (told : List TurnAct) (steps : List Step) (life : IsLife number told steps) → AllByRecursion P (arrivals steps) → AllByRecursion P (arrivals (life.untold ++ life.first))
before_restart P number told steps life all = subst (λ (e : EventValue). AllByRecursion P (arrival e ++ arrivals (life.untold ++ life.first))) life.event (subst (λ (l : List Step). AllByRecursion P (arrivals l)) life.is all)

module _ (A : Type 0) (config : ConfigValue) where
  module _ (given : List (List SiteValue)) (printed : List Line) (number : ℕ) (old new : DeploymentState) (w : WorldState) (o : Opening) (T : List Step) (stand : DeploymentStands config old w o T) (are : AreClean o given T printed old.sent) where
    -- as its network's configuration says
    abbrev ItsUnforged : Addr × List ℕ → Type 0
    ItsUnforged m = IsUnforged o.config given old.sent number m

    still_unforged : (ms : List (Addr × List ℕ)) → AllByRecursion (IsUnforged config given old.sent number) ms → AllByRecursion ItsUnforged ms
    still_unforged ms all = subst (λ (c : ConfigValue). AllByRecursion (IsUnforged c given old.sent number) ms) (sym stand.config_is) all

    one_turn : (calls : List Call) (takes : TakesTurn A config number calls old new) → ((sites : List SiteValue) → Contains (sites_told calls) sites → Contains given sites)
        → AllByRecursion (IsUnforged config given old.sent number) (received_of calls) → AreClean o given ((turned A config number calls old new takes w o T stand).steps ++ T) (lines_of calls ++ printed) new.sent
    one_turn calls takes are_given unforged =
        let goes = turned A config number calls old new takes w o T stand in
        let part = its_part A config number calls old new takes w o T stand in
        let take = ordered_given o calls given are_given goes.steps T part.ordered are.take in
        let clean = clean_steps o given T number goes.steps part.own part.stands.steps.legal take
        (subst (λ (ms : List (Addr × List ℕ)). AllByRecursion (IsHarmlessTo o given T number) ms) (sym part.heard) (all_harmless config given old w o T stand number (received_of calls) unforged)) are.clean in
        record {
          take = take;
          clean = clean;
          all_told = subst (λ (l : List DatagramValue). AreAllTold o (goes.steps ++ T) (lines_of calls ++ printed) l) (sym takes.sent)
              (turn_tells o given T printed old.sent are.all_told number w goes.left goes.steps (lines_of calls) (sent_by config number calls) stand.stands part.stands (turn_bag A config number calls old new takes w o T stand) part.own part.printed
              (subst (λ (ms : List (Addr × List ℕ)). AllByRecursion ItsUnforged ms) (sym part.heard) (still_unforged (received_of calls) unforged)) take clean);
        }

    one_life : (acts : List TurnAct) (begins : BeginsAgain A config number acts old new) → ((sites : List SiteValue) → Contains (begins.life.sites ∷ sites_taken (begins.life.untold ++ acts)) sites → Contains given sites)
        → AllByRecursion (IsUnforged config given old.sent number) (arrived_in (begins.life.untold ++ acts))
        → AreClean o given ((lives_are_told A config number acts old new begins.life w o T stand begins.configured).goes.steps ++ T) (lines_of (acts_calls acts) ++ printed) new.sent
    one_life acts begins are_given unforged =
        let tells = lives_are_told A config number acts old new begins.life w o T stand begins.configured in
        let goes = tells.goes in
        let life = goes.life in
        let take = taken_given o (begins.life.sites ∷ sites_taken (begins.life.untold ++ acts)) given are_given goes.steps T goes.takes are.take in
        let clean = life_clean config given number acts o T goes.steps life goes.stands.stands.steps.legal take
        (subst (λ (ms : List (Addr × List ℕ)). AllByRecursion (IsHarmlessTo o given T number) ms) (sym goes.heard) (all_harmless config given old w o T stand number (arrived_in (begins.life.untold ++ acts)) unforged)) are.clean in
        record {
          take = take;
          clean = clean;
          all_told = subst (λ (p : List Step × List DatagramValue). AreAllTold o (p.0 ++ T) (lines_of (acts_calls acts) ++ printed) p.1)
              {x = (life.restart ∷ life.untold ++ life.first, old.sent ++ sent_by config number (acts_calls acts))} {y = (goes.steps, new.sent)} (λ i. (sym life.is i, sym begins.life.sent i))
              (life_tells o given T printed old.sent are.all_told number w tells.left life.restart life.untold life.first (lines_of (acts_calls acts)) (sent_by config number (acts_calls acts)) life.line stand.stands tells.stands tells.bag life.own life.printed
              (before_restart ItsUnforged number acts goes.steps life (subst (λ (ms : List (Addr × List ℕ)). AllByRecursion ItsUnforged ms) (sym goes.heard) (still_unforged (arrived_in (begins.life.untold ++ acts)) unforged)))
              (subst (λ (l : List Step). LegalTrace o (l ++ T)) life.is goes.stands.stands.steps.legal).1 (subst (λ (l : List Step). TakeGiven o given (l ++ T)) life.is take).1 (subst (λ (l : List Step). Clean o (l ++ T)) life.is clean).1);
        }

  deed_clean : (given : List (List SiteValue)) (deed : Deed) (old new : DeploymentState) (does : DoesDeed A config deed old new) → ((sites : List SiteValue) → Contains (given_in A config deed old new does) sites → Contains given sites)
      → AllByRecursion (IsUnforged config given old.sent (node_of deed)) (received_in A config deed old new does) → (printed : List Line) (w : WorldState) (o : Opening) (T : List Step) (stand : DeploymentStands config old w o T)
      → AreClean o given T printed old.sent → AreClean o given ((one_deed A config deed old new does w o T stand).steps ++ T) (lines_in deed ++ printed) new.sent
  deed_clean given (Turn number calls) old new takes are_given unforged printed w o T stand are = one_turn given printed number old new w o T stand are calls takes are_given unforged
  deed_clean given (Life number acts) old new begins are_given unforged printed w o T stand are = one_life given printed number old new w o T stand are acts begins are_given unforged

  -- by deeds in which nothing that was received is forged
  abbrev AreCleanThen : (o : Opening) (old : DeploymentState) (deeds : List Deed) (new : DeploymentState) → DoDeeds A config deeds old new → List Step → Type 0
  AreCleanThen o old deeds new did T = ReceivesUnforged A config deeds old new did → AreClean o (given_by A config deeds old new did) T (all_lines deeds) new.sent

  deed_keeps : (o : Opening) (old : DeploymentState) (deed : Deed) (earlier : List Deed) (between new : DeploymentState) (did : DoDeeds A config earlier old between) (does : DoesDeed A config deed between new) (w : WorldState) (T : List Step)
      (stand : DeploymentStands config between w o T) → AreCleanThen o old earlier between did T → AreCleanThen o old (deed ∷ earlier) new (between, did, does) ((one_deed A config deed between new does w o T stand).steps ++ T)
  deed_keeps o old deed earlier between new did does w T stand before unforged =
      let now = given_in A config deed between new does in
      let given = given_by A config earlier old between did in
      let are = before unforged.0 in
      deed_clean (now ++ given) deed between new does (Contains-append_left now given) unforged.1 (all_lines earlier) w o T stand (record { take = more_given o now given T are.take; clean = are.clean; all_told = are.all_told })

-- it has a clean trace, and what was told of it
pub record CleanRun (A : Type 0) (config : ConfigValue) (stores : ℕ → StoreState) (begun d : DeploymentState) (deeds : List Deed) (did : DoDeeds A config deeds begun d) : Type 0 where
  pub first : WorldState
  pub opening : Opening
  pub opens : DeploymentOpens config stores begun first opening
  pub clean : HasCleanTrace config deeds d first opening
  pub all_told : AreAllTold opening clean.has.trace (all_lines deeds) d.sent

-- before anything was sent all was told
none_told : (o : Opening) (sent : List DatagramValue) → sent ≡ [] → AreAllTold o [] [] sent
none_told o sent none = record {
  sent_are = λ g has m read. absurd (in_none g (subst (λ (l : List DatagramValue). Contains l g) none has));
  accepted_are = λ server x has. absurd (in_none x has);
  replies_are = λ g has n read may. absurd (in_none g (subst (λ (l : List DatagramValue). Contains l g) none has));
  counts_are = λ s has node server part key nonce line. absurd (in_none s has);
  since = λ server t before at router key nonce reply line no_start. absurd (in_none t (subst (λ (l : List Step). Contains l t) (sym at.splits) (Contains-append_right at.after (t ∷ before) t (at_head t before))));
}

pub runs_cleanly : (A : Type 0) (config : ConfigValue) (stores : ℕ → StoreState) (begun d : DeploymentState) (deeds : List Deed) → IsNetwork config → DeploymentBegins config stores begun → (did : DoDeeds A config deeds begun d)
    → ReceivesUnforged A config deeds begun d did → CleanRun A config stores begun d deeds did
runs_cleanly A config stores begun d deeds network begins did unforged =
    let opens = first_opens config stores begun network begins in
    let none : (e : DeploymentState) (is : e ≡ begun) → AreCleanThen A config opens.1 begun [] e is [] = λ e is nothing. record {
      take = tt;
      clean = tt;
      all_told = none_told opens.1 e.sent (ap (λ (x : DeploymentState). x.sent) is ∙ begins.unsent);
    } in
    let goes = deeds_stand A config opens.1 begun (AreCleanThen A config opens.1 begun) opens.0 [] opens.2.stands none (deed_keeps A config opens.1 begun) deeds d did in
    let all = its_trace A config opens.1 begun (AreCleanThen A config opens.1 begun) deeds d did opens.0 goes in
    let are = all.1 unforged in
    record {
      first = opens.0;
      opening = opens.1;
      opens = opens.2;
      clean = record { has = all.0; clean = are.clean; over_clean = all.0.headline.over_clean are.clean };
      all_told = are.all_told;
    }

pub unforged_deployments_are_clean : (A : Type 0) → UnforgedDeploymentsAreClean A
unforged_deployments_are_clean A config stores begun d deeds network begins did unforged =
    let run = runs_cleanly A config stores begun d deeds network begins did unforged in (run.first, run.opening, run.opens, run.clean)
