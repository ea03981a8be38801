-- The text of what is asked of a node, by the trace alone.
use Rattle.std.specs.Prelude.{◌≡◌, ℕ, ◌+◌, nat_lt, Bool, true, false, map, List, [], ◌∷◌, ◌++◌, length, codes, Option, Some, None, Result, String, string_bytes, IfOk, if◌then◌else◌}
use Rattle.std.specs.Fmt.{decimal}
use Rattle.std.specs.List.{flat_map}
use Rattle.lisp_records.specs.declared.address.Addr.{Addr}
use Rattle.lisp_records.specs.declared.router.RouterId.{RouterId}
use Rattle.lisp_records.specs.Address.{PrefixValue}
use Rattle.lisp_lookup.specs.declared.answer.Answer.{Answer}
use Rattle.lisp_replies.specs.declared.reply.Reply.{Reply}
use Rattle.lisp_policy.specs.Configuration.{ConfigValue, RouterEntryValue}
use Rattle.lisp_model.specs.declared.line.Line.TheVariants as lines
use Rattle.lisp_model.specs.Trace.{Step, Opening, router_at, clock, is_up}
use Rattle.lisp_model.specs.Held.{rows}
use Rattle.lisp_model.specs.Bag.{since_start}
use Rattle.lisp_model.specs.Counted.{acked}
use Rattle.lisp_model.specs.Numbers.{part_numbers}
use Rattle.lisp_model.specs.Timers.{due_part}
use Rattle.lisp_model.specs.Answer.{IsAnswer}
use Rattle.lisp_model.specs.Reply.{IsReplyOf}
use Rattle.lisp_etr.specs.Rounds.{first_part}
use Rattle.lisp_refinement.specs.World.{WorldState}
use Rattle.lisp_refinement.specs.Stands.{Stands}
use Rattle.lisp_refinement.specs.Asked.{IsNextNotice}
use Rattle.lisp_model.specs.declared.world_fault.WorldFault.{WorldFault}
use Rattle.lisp_model.specs.declared.world_fault.WorldFault.TheVariants.{NoNode, WrongKind}
use Rattle.lisp_model.specs.Faults.{world_fault_number}
use Rattle.lisp_lines.specs.declared.datagram_place.DatagramPlace.TheVariants.{Shown}
use Rattle.lisp_lines.specs.declared.wording.Wording.TheVariants.{Schedule}
use Rattle.lisp_lines.specs.Line.{line_text}
use Rattle.lisp_lines.specs.Query.{hold_text, ack_text, ask_text, due_text, due_server, due_router}
use Rattle.lisp_lines.specs.Reply.{request_text}
use Rattle.lisp_lines.specs.Router.{due_of}

-- a fault of the network
abbrev pub fault_text : WorldFault → List ℕ
fault_text fault = codes "fault " ++ decimal (world_fault_number fault) ++ 10 ∷ []

-- a node that isn't there, or is of the other kind
abbrev pub missing_text : ConfigValue → ℕ → List ℕ
missing_text c node = if nat_lt node (length c.servers + length c.routers) then fault_text WrongKind else fault_text NoNode

-- a Map-Server is asked, or a router; which is down, or up
abbrev pub Where : Bool → Type 0 → Type 0 → Type 0
Where true Yes No = Yes
Where false Yes No = No

abbrev pub AsServer : ConfigValue → ℕ → List ℕ → Type 0 → Type 0
AsServer c node text Told = Where (nat_lt node (length c.servers)) Told (text ≡ missing_text c node)

abbrev pub down_text : ConfigValue → ℕ → List ℕ
down_text c router = line_text c (Schedule Shown) (lines.Down router)

abbrev pub of_router : Opening → List Step → ℕ → List ℕ → List ℕ
of_router o T router told = if is_up T router then told else down_text o.config router

-- which rows a Map-Server holds
abbrev pub Holds : Opening → List Step → ℕ → List ℕ → Type 0
Holds o T server text = AsServer o.config server text (text ≡ hold_text o.config (Schedule Shown) server (clock T) (rows (since_start o T server) (clock T)))

-- who answers for an address there
abbrev pub Asks : Type 0 → Opening → List Step → ℕ → Addr → List ℕ → Type 0
Asks A o T server addr text = AsServer o.config server text ((answer : Answer A) × IsAnswer o T server addr answer × (text ≡ ask_text o.config server addr answer))

-- what it would send to an ITR for an EID-Prefix: in the first minute of its life, in ms, as one whose rows haven't come back yet (RFC 9301 section 8.3)
abbrev pub first_minute : ℕ
first_minute = 60000

abbrev pub Requests : Type 0 → Opening → List Step → ℕ → PrefixValue → Option Addr → List ℕ → Type 0
Requests A o T server asked from text = AsServer o.config server text ((reply : Reply A) × IsReplyOf o T server asked first_minute reply × (text ≡ request_text o.config server asked from reply))

-- what a router counted last of each part from each of its Map-Servers
abbrev pub acked_parts : List Step → ℕ → ℕ → List (Option (ℕ × ℕ))
acked_parts T router server = map (acked T router server) part_numbers

abbrev pub acks_text : Opening → List Step → ℕ → List ℕ
acks_text o T router = of_router o T router (flat_map (λ server. ack_text o.config router server (acked_parts T router server)) (router_at o.config router).servers)

abbrev pub is_router : ConfigValue → ℕ → Bool
is_router c node = if nat_lt node (length c.servers) then false else nat_lt node (length c.servers + length c.routers)

abbrev pub Acknowledges : Opening → List Step → ℕ → List ℕ → Type 0
Acknowledges o T router text = text ≡ (if is_router o.config router then acks_text o T router else missing_text o.config router)

-- to which router a notice is due; which Map-Server is due to a router, and of which part
abbrev pub due_at_router : Opening → List Step → ℕ → List ℕ
due_at_router o T router = of_router o T router (due_text o.config router (due_server o.config (due_of (router_at o.config router).servers (first_part (due_part o T router) (router_at o.config router).servers))))

abbrev pub IsDueAtRouter : Opening → List Step → ℕ → List ℕ → Type 0
IsDueAtRouter o T node text = text ≡ (if is_router o.config node then due_at_router o T node else missing_text o.config node)

abbrev pub IsDue : Opening → List Step → ℕ → List ℕ → Type 0
IsDue o T node text =
    Where (nat_lt node (length o.config.servers))
    ((router : Option RouterId) × IsNextNotice o T node router × (text ≡ due_text o.config node (due_router o.config (Schedule Shown) router)))
    (IsDueAtRouter o T node text)

-- it holds of each trace that a network of a configuration stands for
abbrev pub OfTraces : WorldState → ConfigValue → (Opening → List Step → Type 0) → Type 0
OfTraces w c P = (o : Opening) (T : List Step) → Stands w o T → o.config ≡ c → P o T

-- a text, where there is one, says this of each such trace
abbrev pub SaysOfTraces : {E Z : Type 0} → Result (String Z) E → WorldState → ConfigValue → (Opening → List Step → List ℕ → Type 0) → Type 0
SaysOfTraces result w c P = IfOk result (λ text. OfTraces w c (λ o T. P o T (string_bytes text)))
