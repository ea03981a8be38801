-- The lives of a Map-Server that begins anew behind each turn that is lost.
use Rattle.std.specs.Prelude.{◌≡◌, ◌⊎◌, ℕ, zero, suc, true, false, List}
use Rattle.lisp_records.specs.Moment.{second}
use Rattle.lisp_policy.specs.Configuration.{ConfigValue}
use Rattle.lisp_policy.specs.Site.{SiteValue}
use Rattle.lisp_nonces.specs.Store.{StoreState}
use Rattle.lisp_model.specs.declared.line.Line.TheVariants as lines
use Rattle.lisp_refinement.specs.World.{ServerNodeState}
use Rattle.lisp_turns.specs.Beginning.{Begins}
use Rattle.lisp_turns.specs.Node.{NodeState, Server}
use Rattle.lisp_turns.specs.Outside.{OutsideState, Logs, LogsLine, ReadsClock, Waits}
use Rattle.lisp_turns.specs.Stretch.{StartsTurns, beginning}
use Rattle.lisp_turns.specs.Turn.{LosesTurn}
use Rattle.lisp_turns.specs.declared.outside.Printed.TheVariants as printed
use Rattle.lisp_udp.specs.Running.{at_first}
use Rattle.lisp_udp.specs.declared.resolving.Answering.{Answering}

-- a node says that it restarted, and a second passes
pub record SaysRestarted (number : ℕ) (old new : OutsideState) : Type 0 where
  pub said : OutsideState
  pub line : LogsLine old said (printed.Event (lines.Restarted number))
  pub rests : Logs said new (Waits second)

-- In what follows each life begins over this store, under sites of its own, at the moment that the clock tells then, answers Map-Requests as
-- the node's user says, and has a budget of which nothing is used.

-- a life whose last turn is lost, with so many turns left behind it: it says at its end that it restarted
pub record LosesLife (A : Type 0) (config : ConfigValue) (sites : List SiteValue) (number : ℕ) (store : StoreState) (places : ℕ) (answering : Answering) (turns left : ℕ) (old new : OutsideState) : Type 0 where
  pub started : OutsideState
  pub now : ℕ
  pub reads : ReadsClock old started now
  pub begun : NodeState
  pub begins : Begins config sites number store now begun
  pub last : ServerNodeState
  pub lost : OutsideState
  pub loses : LosesTurn A config number places turns left (beginning begun (at_first answering) started) (Server last) lost
  pub says : SaysRestarted number lost new

-- a life that takes all its turns, or fewer where a line couldn't be printed
pub record EndsLife (A : Type 0) (config : ConfigValue) (sites : List SiteValue) (number : ℕ) (store : StoreState) (places : ℕ) (answering : Answering) (turns : ℕ) (old new : OutsideState) : Type 0 where
  pub started : OutsideState
  pub now : ℕ
  pub reads : ReadsClock old started now
  pub begun : NodeState
  pub begins : Begins config sites number store now begun
  pub node : NodeState
  pub takes : StartsTurns A config number places turns begun node (at_first answering) started new

-- So many lives whose last turn is lost, one behind the other: the first under the sites of the configuration, each other one under those
-- that the Map-Server had at the end of the one before, of which it takes the turns that are left. `then` are those of the next one.
abbrev pub LosesLives : Type 0 → ConfigValue → ℕ → StoreState → (places : ℕ) (answering : Answering) (turns left : ℕ) (then : List SiteValue) → ℕ → OutsideState → OutsideState → Type 0
LosesLives A config number store places answering turns left then zero old new = (left ≡ turns) × (then ≡ config.sites) × (new ≡ old)
LosesLives A config number store places answering turns left then (suc n) old new = (more : ℕ) × (its : List SiteValue) × (between : OutsideState)
    × LosesLives A config number store places answering turns more its n old between
    × (life : LosesLife A config its number store places answering more left between new) × (then ≡ life.last.core.sites) × (new.is_cut ≡ false)

-- All lives: those whose last turn is lost, and one behind them. That takes the turns that are left; or its last turn is lost, too,
-- and the line that says so couldn't be printed.
pub record Lives (A : Type 0) (config : ConfigValue) (number : ℕ) (store : StoreState) (places : ℕ) (answering : Answering) (turns : ℕ) (old new : OutsideState) : Type 0 where
  pub count : ℕ
  pub left : ℕ
  pub sites : List SiteValue
  pub between : OutsideState
  pub lost : LosesLives A config number store places answering turns left sites count old between
  pub last : EndsLife A config sites number store places answering left between new
      ⊎ ((unused : ℕ) × LosesLife A config sites number store places answering left unused between new × (new.is_cut ≡ true))
