-- What bytes that arrive make of a node: its line, and what it answers.
use Rattle.std.specs.Prelude.{◌≡◌, ℕ, List, ◌++◌, length, Option, Result}
use Rattle.lisp_records.specs.declared.address.Addr.{Addr}
use Rattle.lisp_admission.specs.declared.refused.Refused.{Refused}
use Rattle.lisp_server.specs.declared.took.Took.{Took}
use Rattle.lisp_model.specs.declared.line.Line.{Line}
use Rattle.lisp_refinement.specs.World.{ServerNodeState, RouterNodeState, WorldState}
use Rattle.lisp_refinement.specs.Calls.{NodeReceives}
use Rattle.lisp_refinement.specs.Events.{server_line, replies, datagram_to, address_of, Arrives, RouterHears}
use Rattle.lisp_nodes.specs.declared.arrival.Arrival.{Arrival}

-- a Map-Server with a number received the bytes
abbrev pub ServerHears : Type 0 → ServerNodeState → ServerNodeState → ℕ → Arrival → List ℕ → Line × Option (List ℕ)
    → Type 0
ServerHears A old new node how bytes said = (answer : Result (Took A) Refused)
    × NodeReceives old new how.fate how.from bytes how.now answer
    × (said.0 ≡ server_line node how.next answer)
    × ((from to : Addr) → replies from to answer ≡ datagram_to from to said.1)

-- so did a router, of each network whose next datagram has that number
abbrev pub OneRouterHears : Type 0 → RouterNodeState → RouterNodeState → ℕ → Arrival → List ℕ → Line × Option (List ℕ)
    → Type 0
OneRouterHears A old new node how bytes said = (w : WorldState) → length w.bag ≡ how.next
    → RouterHears A w node old new how.fate how.from bytes old.core said.0
    (datagram_to (address_of w node) how.from said.1)

-- so did one of these nodes, of each network that has these nodes at that moment: the network is left with these nodes,
-- and with the answer as its next datagram
abbrev pub NodesHear : Type 0 → (servers left_servers : List ServerNodeState)
    → (routers left_routers : List RouterNodeState)
    → ℕ → Arrival → List ℕ → Line × Option (List ℕ) → Type 0
NodesHear A servers left_servers routers left_routers node how bytes said = (w : WorldState)
    → w.servers ≡ servers → w.routers ≡ routers → w.clock ≡ how.now → length w.bag ≡ how.next
    → Arrives A w (record w {
      bag = w.bag ++ datagram_to (address_of w node) how.from said.1;
      servers = left_servers;
      routers = left_routers;
    }) node how.fate how.from bytes said.0
