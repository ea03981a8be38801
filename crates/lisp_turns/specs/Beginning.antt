-- How a node that runs begins, and what it does from its start on.
use Rattle.std.specs.Prelude.{◌≡◌, ◌⊎◌, ℕ, ◌+◌, ◌<◌, ◌≤◌, IsTrue, false, List, [], ◌∷◌, length, None, ◌++◌, Result, OnOk}
use Rattle.std.specs.List.{AllByRecursion}
use Rattle.lisp_records.specs.Moment.{max_moment}
use Rattle.lisp_policy.specs.Configuration.{ConfigValue}
use Rattle.lisp_policy.specs.Site.{SiteValue}
use Rattle.lisp_nonces.specs.Kept.{KeepsSome}
use Rattle.lisp_nonces.specs.Store.{StoreState}
use Rattle.lisp_model.specs.declared.event.Event.TheVariants as events
use Rattle.lisp_model.specs.declared.line.Line.TheVariants as lines
use Rattle.lisp_model.specs.Network.{IsNetwork}
use Rattle.lisp_model.specs.Trace.{Step, Opening, shown_store}
use Rattle.lisp_refinement.specs.Nodes.{fresh_server}
use Rattle.lisp_refinement.specs.World.{RouterNodeState, WorldState}
use Rattle.lisp_refinement.specs.Stands.{Stands}
use Rattle.lisp_world.specs.Making.{IsRouterOver, StartsAt}
use Rattle.lisp_turns.specs.Node.{NodeState, Server, Router, HasNode}
use Rattle.lisp_turns.specs.Outside.{Call, OutsideState, logged}
use Rattle.lisp_turns.specs.Part.{IsPart, lines_of, sent_of}
use Rattle.lisp_turns.specs.declared.turn.Uncommitted.{Uncommitted}

-- the node with a number as it begins at a moment, over a store: a Map-Server of these sites that holds nothing; or a router that started
abbrev pub Begins : ConfigValue → List SiteValue → ℕ → StoreState → ℕ → NodeState → Type 0
Begins config sites number store now (Server n) = (number < length config.servers)
    × (n ≡ record { core = fresh_server sites; store = store; started = now })
Begins config sites number store now (Router n) = (place : ℕ) × (number ≡ length config.servers + place)
    × (down : RouterNodeState) × IsRouterOver config place store down × StartsAt down n now

-- a node may begin at a moment over a store that is honest: with its network, at 0; or later, where something is kept for each pair, and
-- no schedule says what
abbrev pub MayBegin : StoreState → ℕ → Type 0
MayBegin store now = IsTrue store.is_honest × ((now ≡ 0) ⊎ (KeepsSome store.kept × (store.is_obedient ≡ false) × (now ≤ max_moment)))

-- nothing happened until a node began with its network; or time passed, and it began again
abbrev pub HasStarted : ℕ → ℕ → List Step → Type 0
HasStarted number now steps = ((now ≡ 0) × (steps ≡ [])) ⊎ ((began passed : Step) × (steps ≡ began ∷ passed ∷ [])
    × (began.event ≡ events.Restart number 0 None) × (began.line ≡ lines.Restarted number) × (passed.event ≡ events.Tick now))

-- steps in which a Map-Server takes these sites
abbrev pub TakesSites : ℕ → List SiteValue → List Step → Type 0
TakesSites number sites steps = AllByRecursion (λ s. s.event ≡ events.Reload number sites) steps

-- what happened in a network until a node began: it started, under the sites of the configuration, and a Map-Server took its own
abbrev pub HasBegun : ℕ → List SiteValue → ℕ → List Step → Type 0
HasBegun number sites now steps = (took started : List Step) × (steps ≡ took ++ started) × TakesSites number sites took
    × HasStarted number now started

-- a network in which the node begins: its store kept as the network opened what this store keeps, and nothing was sent
pub record IsBeginning (config : ConfigValue) (sites : List SiteValue) (number : ℕ) (store : StoreState) (now : ℕ) (node : NodeState)
    (w : WorldState) (o : Opening) (T : List Step) : Type 0 where
  pub stands : Stands w o T
  pub begun : HasBegun number sites now T
  pub config_is : o.config ≡ config
  pub kept : (shown_store o [] number).kept ≡ store.kept
  pub has : HasNode w number node
  pub clock : w.clock ≡ now
  pub bag : w.bag ≡ []

-- a configuration that is a network's has one for each node that begins
abbrev pub BeginningsStand : Type 0
BeginningsStand = (config : ConfigValue) (sites : List SiteValue) (number : ℕ) (store : StoreState) (now : ℕ) (node : NodeState)
    → IsNetwork config → MayBegin store now → Begins config sites number store now node
    → (w : WorldState) × (o : Opening) × (T : List Step) × IsBeginning config sites number store now node w o T

-- All that a node did from the moment on at which it began: there is a network of its configuration, whose store of the node keeps at the
-- opening what this store kept, and a legal trace of it, in which the node began, and whose steps since are the node's own. The events'
-- lines that it printed are theirs; the datagrams that it sent are all those of the network, in their order; what arrived is what it
-- received.
pub record IsWholePart (config : ConfigValue) (sites : List SiteValue) (number : ℕ) (store : StoreState) (now : ℕ) (calls : List Call)
    : Type 0 where
  pub first : WorldState
  pub opening : Opening
  pub before : List Step
  pub begun : HasBegun number sites now before
  pub config_is : opening.config ≡ config
  pub kept : (shown_store opening [] number).kept ≡ store.kept
  pub unsent : first.bag ≡ []
  pub steps : List Step
  pub left : WorldState
  pub part : IsPart number calls first left opening before steps

-- what was asked in a turn that is lost: no line of an event, and no message
abbrev pub IsMute : List Call → Type 0
IsMute calls = (lines_of calls ≡ []) × (sent_of calls ≡ [])

-- So it is with what was asked so far, for the sites and the store with which the node began at the moment that was read last, if it may, in
-- a network.
-- Of a turn that is lost others see nothing: to them its datagrams never arrived.
abbrev pub RunsAsPart : ConfigValue → ℕ → NodeState → OutsideState → OutsideState → Result (Unit {0}) Uncommitted → Type 0
RunsAsPart config number begun before after result = IsNetwork config → (sites : List SiteValue) (store : StoreState)
    → MayBegin store before.moment → Begins config sites number store before.moment begun
    → (calls lost : List Call) × (after.log ≡ logged (lost ++ calls) before.log) × IsMute lost × OnOk result (lost ≡ [])
    × IsWholePart config sites number store before.moment calls
