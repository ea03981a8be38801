-- What a user tells a node, as an event of its own, and what keeps the node from being told so.
use Rattle.std.specs.Prelude.{◌≡◌, ℕ, ◌+◌, nat_le, nat_lt, is_none, List, length, Option, Some, None, if◌then◌else◌}
use Rattle.std.specs.Option.{option_or}
use Rattle.lisp_admission.specs.Checks.{secret_at}
use Rattle.lisp_nonces.specs.declared.fate.Fate.TheVariants.{Done}
use Rattle.lisp_policy.specs.Configuration.{ConfigValue}
use Rattle.lisp_model.specs.declared.event.Event.TheVariants as events
use Rattle.lisp_model.specs.declared.world_fault.WorldFault.{WorldFault}
use Rattle.lisp_model.specs.declared.world_fault.WorldFault.TheVariants.{NoNode, WrongKind, UnknownKey, KeyUsed}
use Rattle.lisp_model.specs.Trace.{EventValue, Step, Opening}
use Rattle.lisp_refinement.specs.World.{RouterNodeState, WorldState, is_used}
use Rattle.lisp_refinement.specs.Stands.{Stands}
use Rattle.lisp_world.specs.Faults.{fault_of}
use Rattle.lisp_turns.specs.Node.{NodeState, Server, Router, HasNode}
use Rattle.lisp_turns.specs.declared.order.Order.{Order}
use Rattle.lisp_turns.specs.declared.order.Order.TheVariants.{Notice, Change, Rotate, Reload}

-- told to the node with a number; the calls of its store are done
abbrev pub event_of : ℕ → Order → EventValue
event_of number (Notice router) = events.Notice number router Done
event_of number (Change db) = events.Change number db
event_of number (Rotate key) = events.Rotate number key Done
event_of number (Reload sites) = events.Reload number sites

-- the number is that of no node, or of a Map-Server, where a router is meant
abbrev pub name_fault : ConfigValue → ℕ → Option WorldFault
name_fault config router =
    if nat_le (length config.servers + length config.routers) router then Some NoNode
    else if nat_lt router (length config.servers) then Some WrongKind
    else None

-- a router's site has no such key, or the router used it before its store was lost
abbrev pub rotate_fault : ConfigValue → RouterNodeState → ℕ → Option WorldFault
rotate_fault config n key =
    if is_none (secret_at config.sites n.me.site key) then Some UnknownKey
    else if is_used n.used.before_loss key then Some KeyUsed
    else None

-- what keeps a node from being told so, whatever its store: the first fault that applies. An order is for nodes of one kind, and a
-- notice names a router
abbrev pub order_fault : ConfigValue → NodeState → Order → Option WorldFault
order_fault config (Server n) (Notice router) = name_fault config router
order_fault config (Server n) (Reload sites) = None
order_fault config (Server n) _ = Some WrongKind
order_fault config (Router n) (Notice router) = option_or (name_fault config router) (Some WrongKind)
order_fault config (Router n) (Change db) = None
order_fault config (Router n) (Rotate key) = rotate_fault config n key
order_fault config (Router n) (Reload sites) = Some WrongKind

-- the same keeps the event of an order from being taken, or nothing does: in each network of the configuration that has the node and
-- stands for a trace
abbrev pub FaultsAgree : Type 0
FaultsAgree = (config : ConfigValue) (number : ℕ) (node : NodeState) (order : Order)
    → (w : WorldState) (o : Opening) (T : List Step) → Stands w o T → o.config ≡ config → HasNode w number node
    → fault_of w (event_of number order) ≡ order_fault config node order
