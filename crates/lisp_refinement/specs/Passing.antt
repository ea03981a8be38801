-- Time passes: a Map-Server may drop its dead rows then, or later; a schedule drops them at once.
use Rattle.std.specs.Prelude.{◌≡◌, ℕ, ◌+◌, ◌≤◌, List, length, slice_get, Some}
use Rattle.std.specs.Option.{option_and_then}
use Rattle.lisp_records.specs.declared.router.RouterId.{RouterId}
use Rattle.lisp_records.specs.Address.{PrefixValue}
use Rattle.lisp_records.specs.Moment.{max_moment}
use Rattle.lisp_lookup.specs.Table.{row_at, if_alive}
use Rattle.lisp_model.specs.declared.event.Event.TheVariants as events
use Rattle.lisp_model.specs.declared.line.Line.{Line}
use Rattle.lisp_model.specs.declared.line.Line.TheVariants as lines
use Rattle.lisp_refinement.specs.World.{ServerNodeState, WorldState}
use Rattle.lisp_refinement.specs.Events.{NetworkTicks}
use Rattle.lisp_refinement.specs.Stands.{StandsAfter}

-- time passes at a Map-Server: of its rows the live ones stay, whichever dead ones it drops
pub record PassesNode (old new : ServerNodeState) (now : ℕ) : Type 0 where
  pub rows : (router : RouterId) (eid : PrefixValue)
      → option_and_then (if_alive now) (row_at new.core.rows router eid)
      ≡ option_and_then (if_alive now) (row_at old.core.rows router eid)
  pub rest : new ≡ record old { core = record old.core { rows = new.core.rows } }

-- at each of several
abbrev pub PassesEach : List ServerNodeState → List ServerNodeState → ℕ → Type 0
PassesEach old new now = (k : ℕ) (n m : ServerNodeState) → slice_get old k ≡ Some n → slice_get new k ≡ Some m
    → PassesNode n m now

-- and in a network, so many ms
pub record NetworkPasses (old new : WorldState) (ms : ℕ) (line : Line) : Type 0 where
  pub bound : old.clock + ms ≤ max_moment
  pub count : length new.servers ≡ length old.servers
  pub each : PassesEach old.servers new.servers (old.clock + ms)
  pub left : new ≡ record old { clock = old.clock + ms; servers = new.servers }
  pub said : line ≡ lines.Ticked ms (old.clock + ms)

-- a network that matches a trace, and passes so, matches the trace followed by a tick
abbrev pub PassingStands : Type 0
PassingStands = (old new : WorldState) (ms : ℕ) (line : Line) → NetworkPasses old new ms line
    → StandsAfter old new (events.Tick ms) line

-- a tick, which drops all dead rows, is a pass
abbrev pub TicksArePasses : Type 0
TicksArePasses = (old new : WorldState) (ms : ℕ) (line : Line) → NetworkTicks old new ms line → NetworkPasses old new ms line

-- so is time in which no row is dropped
abbrev pub IdlingPasses : Type 0
IdlingPasses = (w : WorldState) (ms : ℕ) → w.clock + ms ≤ max_moment
    → NetworkPasses w (record w { clock = w.clock + ms }) ms (lines.Ticked ms (w.clock + ms))
