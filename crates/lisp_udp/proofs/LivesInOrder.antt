-- The lives of a Map-Server, one after the other.
use Rattle.std.proofs.Common.{◌≡◌, ℕ, zero, suc, ◌<◌, true, false, List, Result, Ok, Err, IfOk, inl, inr, refl, arith}
use Rattle.lisp_policy.specs.Configuration.{ConfigValue}
use Rattle.lisp_policy.specs.Site.{SiteValue}
use Rattle.lisp_nonces.specs.Store.{StoreState}
use Rattle.lisp_refinement.specs.World.{ServerNodeState}
use Rattle.lisp_turns.specs.Beginning.{Begins}
use Rattle.lisp_turns.specs.Node.{NodeState, Server}
use Rattle.lisp_turns.specs.Outside.{OutsideState, ReadsClock}
use Rattle.lisp_turns.specs.Stretch.{EndsTurns}
use Rattle.lisp_turns.specs.declared.turn.Uncommitted.{Uncommitted}
use Rattle.lisp_udp.specs.Running.{at_first, TakesItsTurns}
use Rattle.lisp_udp.specs.declared.life.Life.{Life}
use Rattle.lisp_udp.specs.declared.resolving.Answering.{Answering}
use Rattle.lisp_udp.specs.Lives.{SaysRestarted, LosesLife, LosesLives, Lives}

-- a life that begins over the store, and ends
pub record OneLife (A : Type 0) (config : ConfigValue) (sites : List SiteValue) (number : ℕ) (store : StoreState) (places : ℕ) (answering : Answering) (turns : ℕ) (last : ServerNodeState) (old new : OutsideState) (ended : Result (Unit {0}) Uncommitted) : Type 0 where
  pub started : OutsideState
  pub now : ℕ
  pub reads : ReadsClock old started now
  pub begun : NodeState
  pub begins : Begins config sites number store now begun
  pub ends : EndsTurns A config number places turns begun (Server last) (at_first answering) started new ended

-- lives that were lost, and one behind them
pub record SoFar (A : Type 0) (config : ConfigValue) (number : ℕ) (store : StoreState) (places : ℕ) (answering : Answering) (turns : ℕ) (last : ServerNodeState) (old new : OutsideState) (ended : Result (Unit {0}) Uncommitted) : Type 0 where
  pub count : ℕ
  pub left : ℕ
  pub sites : List SiteValue
  pub between : OutsideState
  pub lost : LosesLives A config number store places answering turns left sites count old between
  pub life : OneLife A config sites number store places answering left last between new ended

-- so is one that took its turns from the moment on that the clock told
one_life : (A : Type 0) (config : ConfigValue) (sites : List SiteValue) (number : ℕ) (store : StoreState) (places : ℕ) (answering : Answering) (turns : ℕ) (F : Type 0) {N O : Type 0} (state : N → ServerNodeState) (seen : O → OutsideState) (before : O) (life : Life N O)
    → TakesItsTurns {F = F} A (λ n. Server (state n)) seen config sites number store places answering turns (Ok before) (Ok life) → OneLife A config sites number store places answering turns (state life.node) (seen before) (seen life.outside) life.ended
one_life A config sites number store places answering turns F state seen before life took =
    record { started = took.0; now = took.1; reads = took.2; begun = took.3; begins = took.4; ends = took.5 }

-- how many turns are left, and one more; none where the last life took all
abbrev pub left_of : Result (Unit {0}) Uncommitted → ℕ
left_of (Ok _) = zero
left_of (Err lost) = suc lost.turns_left

-- the life that was lost says so
abbrev lost_life : {A : Type 0} {config : ConfigValue} {sites : List SiteValue} {number : ℕ} {store : StoreState} {places : ℕ} {answering : Answering} {left : ℕ} {last : ServerNodeState} {lost : Uncommitted} {between over new : OutsideState}
    → OneLife A config sites number store places answering left last between over (Err lost) → SaysRestarted number over new → LosesLife A config sites number store places answering left lost.turns_left between new
lost_life {A} {config} {sites} {number} {store} {places} {answering} {left} {last} {lost} {between} {over} life says =
    record { started = life.started; now = life.now; reads = life.reads; begun = life.begun; begins = life.begins; last = last; lost = over; loses = life.ends; says = says }

module _ {A : Type 0} {config : ConfigValue} {number : ℕ} {store : StoreState} {places : ℕ} {answering : Answering} {turns : ℕ} {old : OutsideState} where
  pub first : {last : ServerNodeState} {new : OutsideState} {ended : Result (Unit {0}) Uncommitted} → OneLife A config config.sites number store places answering turns last old new ended → SoFar A config number store places answering turns last old new ended
  first life = record { count = zero; left = turns; sites = config.sites; between = old; lost = (refl, refl, refl); life = life }

  pub one_more : {last next : ServerNodeState} {lost : Uncommitted} {over rested new : OutsideState} {ended : Result (Unit {0}) Uncommitted} → SoFar A config number store places answering turns last old over (Err lost)
      → SaysRestarted number over rested → rested.is_cut ≡ false → OneLife A config last.core.sites number store places answering lost.turns_left next rested new ended
      → SoFar A config number store places answering turns next old new ended
  one_more {last} {next} {lost} {over} {rested} so_far says uncut life = record {
    count = suc so_far.count;
    left = lost.turns_left;
    sites = last.core.sites;
    between = rested;
    lost = (so_far.left, so_far.sites, so_far.between, so_far.lost, lost_life so_far.life says, refl, uncut);
    life = life;
  }

  pub all_taken : {last : ServerNodeState} {new : OutsideState} {done : Unit {0}} → SoFar A config number store places answering turns last old new (Ok done) → Lives A config number store places answering turns old new
  all_taken {last} so_far = record {
    count = so_far.count;
    left = so_far.left;
    sites = so_far.sites;
    between = so_far.between;
    lost = so_far.lost;
    last = inl (record {
      started = so_far.life.started;
      now = so_far.life.now;
      reads = so_far.life.reads;
      begun = so_far.life.begun;
      begins = so_far.life.begins;
      node = Server last;
      takes = so_far.life.ends;
    });
  }

  pub cut_off : {last : ServerNodeState} {lost : Uncommitted} {over new : OutsideState} → SoFar A config number store places answering turns last old over (Err lost) → SaysRestarted number over new
      → new.is_cut ≡ true → Lives A config number store places answering turns old new
  cut_off {last} {lost} so_far says cut = record {
    count = so_far.count;
    left = so_far.left;
    sites = so_far.sites;
    between = so_far.between;
    lost = so_far.lost;
    last = inr (lost.turns_left, lost_life so_far.life says, cut);
  }

-- fewer turns are left behind a life than it had
pub fewer : {A : Type 0} {config : ConfigValue} {sites : List SiteValue} {number : ℕ} {store : StoreState} {places : ℕ} {answering : Answering} {turns : ℕ} {last : ServerNodeState} {old new : OutsideState} (ended : Result (Unit {0}) Uncommitted)
    → OneLife A config sites number store places answering turns last old new ended → left_of ended < suc turns
fewer (Ok _) life = omega (arith)
fewer (Err lost) life = let counted = life.ends.counted in omega (arith, counted)

pub lives_fewer : (A : Type 0) (config : ConfigValue) (sites : List SiteValue) (number : ℕ) (store : StoreState) (places : ℕ) (answering : Answering) {N O : Type 0} (state : N → ServerNodeState) (seen : O → OutsideState) (rested : O) (life : Life N O)
    {ended : Result (Unit {0}) Uncommitted} {lost : Uncommitted} → ended ≡ Err lost
    → TakesItsTurns {F = Unit {0}} A (λ n. Server (state n)) seen config sites number store places answering lost.turns_left (Ok rested) (Ok life) → left_of life.ended < left_of ended
lives_fewer A config sites number store places answering state seen rested life {ended} {lost} is took =
    rw is (fewer life.ended (one_life A config sites number store places answering lost.turns_left (Unit {0}) state seen rested life took))

-- In what follows `seen` is what is known of what is outside, and it was given at the start, unless it failed; `state` is what is known of
-- the node.
module _ (A : Type 0) (config : ConfigValue) (number : ℕ) (store : StoreState) (places : ℕ) (answering : Answering) (turns : ℕ) {N O F : Type 0} (state : N → ServerNodeState) (seen : O → OutsideState) where
  pub starts_lives : (sites : List SiteValue) (life : Life N O) (outside : Result O F) → sites ≡ config.sites → TakesItsTurns A (λ n. Server (state n)) seen config sites number store places answering turns outside (Ok life)
      → IfOk outside (λ before. SoFar A config number store places answering turns (state life.node) (seen before) (seen life.outside) life.ended)
  starts_lives sites life (Ok before) same took = first (one_life A config config.sites number store places answering turns F state seen before life (rw same at took))
  starts_lives sites life (Err fault) same took = tt

  pub lives_on : (last : N) (sites : List SiteValue) (rested : O) (life : Life N O) {ended : Result (Unit {0}) Uncommitted} {lost : Uncommitted} {over : OutsideState} (outside : Result O F)
      → IfOk outside (λ before. SoFar A config number store places answering turns (state last) (seen before) over ended) → ended ≡ Err lost → SaysRestarted number over (seen rested)
      → (seen rested).is_cut ≡ false → sites ≡ (state last).core.sites → TakesItsTurns {F = F} A (λ n. Server (state n)) seen config sites number store places answering lost.turns_left (Ok rested) (Ok life)
      → IfOk outside (λ before. SoFar A config number store places answering turns (state life.node) (seen before) (seen life.outside) life.ended)
  lives_on last sites rested life {ended} {lost} (Ok before) so_far is says uncut same took =
      one_more (rw is at so_far) says uncut (one_life A config (state last).core.sites number store places answering lost.turns_left F state seen rested life (rw same at took))
  lives_on last sites rested life (Err fault) so_far is says uncut same took = tt

  pub ends_cut : (last : ServerNodeState) {ended : Result (Unit {0}) Uncommitted} {lost : Uncommitted} {over : OutsideState} {rested : O} (outside : Result O F)
      → IfOk outside (λ before. SoFar A config number store places answering turns last (seen before) over ended) → ended ≡ Err lost → SaysRestarted number over (seen rested)
      → (seen rested).is_cut ≡ true → IfOk outside (λ before. Lives A config number store places answering turns (seen before) (seen rested))
  ends_cut last (Ok before) so_far is says cut = cut_off (rw is at so_far) says cut
  ends_cut last (Err fault) so_far is says cut = tt

  pub ends_all : (last : ServerNodeState) {ended : Result (Unit {0}) Uncommitted} {done : Unit {0}} (after : O) (outside : Result O F)
      → IfOk outside (λ before. SoFar A config number store places answering turns last (seen before) (seen after) ended) → ended ≡ Ok done
      → IfOk outside (λ before. Lives A config number store places answering turns (seen before) (seen after))
  ends_all last after (Ok before) so_far is = all_taken (rw is at so_far)
  ends_all last after (Err fault) so_far is = tt
