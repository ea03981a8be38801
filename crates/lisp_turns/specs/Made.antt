-- What the core of a node says of an act, whatever the node's store.
use Rattle.std.specs.Prelude.{◌≡◌, ℕ, true, false, List, length, Option, Some, None, Result, Ok, IfSome}
use Rattle.lisp_records.specs.declared.address.Addr.{Addr}
use Rattle.lisp_records.specs.declared.router.RouterId.{RouterId}
use Rattle.lisp_records.specs.Database.{database_of}
use Rattle.lisp_records.specs.Record.{MapRecordValue}
use Rattle.lisp_policy.specs.Configuration.{ConfigValue}
use Rattle.lisp_policy.specs.Extends.{extends}
use Rattle.lisp_policy.specs.Site.{SiteValue}
use Rattle.lisp_nonces.specs.declared.fate.Fate.TheVariants.{Done}
use Rattle.lisp_etr.specs.declared.send_fault.SendFault.{SendFault}
use Rattle.lisp_etr.specs.declared.rotate_fault.RotateFault.{RotateFault}
use Rattle.lisp_admission.specs.Checks.{secret_at}
use Rattle.lisp_admission.specs.declared.notice_fault.NoticeFault.{NoticeFault}
use Rattle.lisp_model.specs.declared.event.Event.TheVariants as events
use Rattle.lisp_model.specs.Trace.{EventValue, is_router, router_at}
use Rattle.lisp_nodes.specs.declared.arrival.Arrival.{Arrival}
use Rattle.lisp_nodes.specs.Hearing.{ServerHears, OneRouterHears}
use Rattle.lisp_refinement.specs.Calls.{NodeNotifies}
use Rattle.lisp_refinement.specs.Events.{NodeSends, NodeResends, NodeRotates, NodeReloads, ChangesNoticesAlone, changed_node, change_line, reload_line, is_up}
use Rattle.lisp_refinement.specs.World.{RouterNodeState, is_used}
use Rattle.lisp_nodes.specs.Asked.{asked_rotate_line}
use Rattle.lisp_turns.specs.Act.{ActValue, line_act}
use Rattle.lisp_turns.specs.Node.{NodeState, Server, Router}
use Rattle.lisp_turns.specs.Serving.{answer_act, number_of, SendAct, resend_act, NoticeAct}

-- bytes arrive from an address at a moment, at a node that has no number for its datagrams
abbrev pub arrival : Addr → ℕ → Arrival
arrival from now = record { fate = Done; from = from; now = now; next = 0 }

-- the node with a number was given bytes from an address: it told what it made of them, and its answer, if there is one, goes
-- back there
abbrev pub IsHeard : Type 0 → ℕ → NodeState → NodeState → ℕ → Addr → List ℕ → ActValue → Type 0
IsHeard A number (Server old) (Server new) now from bytes act = (reply : Option (List ℕ))
    × ServerHears A old new number (arrival from now) bytes (act.line, reply) × (act ≡ answer_act act.line from reply)
IsHeard A number (Router old) (Router new) now from bytes act = (reply : Option (List ℕ))
    × OneRouterHears A old new number (arrival from now) bytes (act.line, reply) × (act ≡ answer_act act.line from reply)
IsHeard A number _ _ now from bytes act = ⊥

-- a router was asked for a Map-Register of a part to the Map-Server with a number
abbrev pub IsSent : ConfigValue → ℕ → NodeState → NodeState → ℕ → (server part : ℕ) → ActValue → Type 0
IsSent config number (Router old) (Router new) now server part act = (answer : Result (List ℕ) SendFault)
    × NodeSends old new server part Done now answer × SendAct config number server part answer act
IsSent config number _ _ now server part act = ⊥

-- a Map-Server was asked to send a notice again, to the router with a number
abbrev pub IsResent : ConfigValue → ℕ → NodeState → NodeState → ℕ → (router : ℕ) → ActValue → Type 0
IsResent config number (Server old) (Server new) now router act = (me : RouterId) × (router ≡ number_of config me)
    × (answer : Result (Addr × List ℕ) NoticeFault) × NodeResends old new now me answer × ChangesNoticesAlone old new
    × (act ≡ resend_act number router answer)
IsResent config number _ _ now router act = ⊥

-- a Map-Server was told to send the router with a number a notice
abbrev pub IsNoticed : ConfigValue → ℕ → NodeState → NodeState → ℕ → (router : ℕ) → ActValue → Type 0
IsNoticed config number (Server old) (Server new) now router act = (is_router config router ≡ true)
    × (answer : Result (Addr × List ℕ) NoticeFault) × NodeNotifies old new Done (router_at config router).me now answer × NoticeAct number router answer act
IsNoticed config number _ _ now router act = ⊥

-- a router was told to register another database
abbrev pub IsChanged : ℕ → NodeState → NodeState → ℕ → List MapRecordValue → ActValue → Type 0
IsChanged number (Router old) (Router new) now db act =
    (database_of db ≡ Ok db) × (new ≡ changed_node db now old) × (act ≡ line_act (change_line number db old.core))
IsChanged number _ _ now db act = ⊥

-- a router that is up, or down, was told to go over to a key: one of its site, which it didn't use before its store was lost
pub record RotatesTo (config : ConfigValue) (number : ℕ) (old new : RouterNodeState) (now key : ℕ) (act : ActValue) : Type 0 where
  pub secret : List ℕ
  pub known : secret_at config.sites old.me.site key ≡ Some secret
  pub unused : is_used old.used.before_loss key ≡ false
  pub answer : Option (Result (Unit {0}) RotateFault)
  pub up : IfSome answer (NodeRotates old new key secret Done now)
  pub down : answer ≡ None → (is_up old.core ≡ false) × (new ≡ old)
  pub said : act ≡ line_act (asked_rotate_line number key answer)

abbrev pub IsRotated : ConfigValue → ℕ → NodeState → NodeState → ℕ → ℕ → ActValue → Type 0
IsRotated config number (Router old) (Router new) now key act = RotatesTo config number old new now key act
IsRotated config number _ _ now key act = ⊥

-- a Map-Server was told to take other sites
abbrev pub IsReloaded : ℕ → NodeState → NodeState → ℕ → List SiteValue → ActValue → Type 0
IsReloaded number (Server old) (Server new) now sites act = NodeReloads old new sites now
    × (act ≡ line_act (reload_line number (extends old.core.sites sites) (length sites)))
IsReloaded number _ _ now sites act = ⊥

-- what the core of the node with a number says of an event of its own at a moment, and of what it comes to
abbrev pub IsMade : Type 0 → ConfigValue → ℕ → NodeState → NodeState → ℕ → EventValue → ActValue → Type 0
IsMade A config number old new now (events.Junk to from bytes) act = (to ≡ number) × IsHeard A number old new now from bytes act
IsMade A config number old new now (events.Send router server part Done) act = (router ≡ number)
    × IsSent config number old new now server part act
IsMade A config number old new now (events.Resend server router) act = (server ≡ number)
    × IsResent config number old new now router act
IsMade A config number old new now (events.Notice server router Done) act = (server ≡ number)
    × IsNoticed config number old new now router act
IsMade A config number old new now (events.Change router db) act = (router ≡ number) × IsChanged number old new now db act
IsMade A config number old new now (events.Rotate router key Done) act = (router ≡ number)
    × IsRotated config number old new now key act
IsMade A config number old new now (events.Reload server sites) act = (server ≡ number)
    × IsReloaded number old new now sites act
IsMade A config number old new now _ act = ⊥
