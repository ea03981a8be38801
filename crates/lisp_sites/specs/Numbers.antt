-- The nodes of a configuration by their numbers: the Map-Servers have 0, 1 and so on, in the order of the file, and the routers follow.
use Rattle.std.specs.Prelude.{◌≡◌, ◌≢◌, ◌⊎◌, ℕ, ◌+◌, ◌-◌, ◌<◌, ◌≤◌, nat_lt, Bool, List, [], ◌++◌, length, map, slice_get, position, Option, Some, None, unwrap_or, if◌then◌else◌}
use Rattle.std.specs.Option.{option_map}
use Rattle.std.specs.Str.{bytes_eq}
use Rattle.lisp_records.specs.declared.address.Addr.{Addr}
use Rattle.lisp_policy.specs.Configuration.{ServerEntryValue, RouterEntryValue, ConfigValue, names}
use Rattle.lisp_sites.specs.declared.node.ConfigNode.{ConfigNode}
use Rattle.lisp_sites.specs.declared.node.ConfigNode.TheVariants as nodes

-- how many nodes there are
abbrev pub node_count : ConfigValue → ℕ
node_count c = length c.servers + length c.routers

-- a node has this number
abbrev pub IsNode : ConfigValue → ℕ → Type 0
IsNode c number = number < node_count c

-- and it is a Map-Server
abbrev pub IsMapServer : ConfigValue → ℕ → Type 0
IsMapServer c number = number < length c.servers

abbrev pub is_server : ConfigValue → ℕ → Bool
is_server c number = nat_lt number (length c.servers)

-- or it is the router at this place among the routers
abbrev pub IsRouterPlace : ConfigValue → ℕ → ℕ → Type 0
IsRouterPlace c number place = (number ≡ length c.servers + place) × (place < length c.routers)

-- it is no router: a Map-Server has the number, or no node
abbrev pub IsNoRouter : ConfigValue → ℕ → Type 0
IsNoRouter c number = (number < length c.servers) ⊎ (node_count c ≤ number)

-- the router with a number; none where a Map-Server has it
abbrev pub router_at : ConfigValue → ℕ → Option RouterEntryValue
router_at c number = if nat_lt number (length c.servers) then None else slice_get c.routers (number - length c.servers)

-- the Map-Servers that it registers with; a Map-Server registers with none
abbrev pub servers_of : ConfigValue → ℕ → List ℕ
servers_of c number = unwrap_or (option_map (λ r. r.servers) (router_at c number)) []

-- a node of either kind
pub data NodeValue : Type 0 where
  Server : ServerEntryValue → NodeValue
  Router : RouterEntryValue → NodeValue

-- what a node shows, wherever its entry lies
abbrev pub node_value : {A : Type 0} → ConfigNode A → NodeValue
node_value (nodes.Server entry) = Server entry.now
node_value (nodes.Router entry) = Router entry.now

-- its name and its address
abbrev pub name_of : NodeValue → List ℕ
name_of (Server entry) = entry.name
name_of (Router entry) = entry.name

abbrev pub address_of : NodeValue → Addr
address_of (Server entry) = entry.address
address_of (Router entry) = entry.address

-- the node with a number
abbrev pub node_at : ConfigValue → ℕ → Option NodeValue
node_at c number = if nat_lt number (length c.servers)
    then option_map Server (slice_get c.servers number)
    else option_map Router (slice_get c.routers (number - length c.servers))

-- the name and the address of the node with a number
abbrev pub name_at : ConfigValue → ℕ → Option (List ℕ)
name_at c number = option_map name_of (node_at c number)

abbrev pub address_at : ConfigValue → ℕ → Option Addr
address_at c number = option_map address_of (node_at c number)

-- the number of the node with a name; of the Map-Server, or of the router with it
abbrev pub number_of : ConfigValue → List ℕ → Option ℕ
number_of c name = position (λ n. bytes_eq n name) (names c)

abbrev pub server_number_of : ConfigValue → List ℕ → Option ℕ
server_number_of c name = position (λ s. bytes_eq s.name name) c.servers

abbrev pub router_number_of : ConfigValue → List ℕ → Option ℕ
router_number_of c name = option_map (λ place. length c.servers + place) (position (λ r. bytes_eq r.name name) c.routers)

-- the node with a number has the name
abbrev pub HasName : ConfigValue → List ℕ → ℕ → Type 0
HasName c name number = IsNode c number × (name_at c number ≡ Some name)

-- no node has it
abbrev pub NoneNamed : ConfigValue → List ℕ → Type 0
NoneNamed c name = (k : ℕ) → IsNode c k → name_at c k ≢ Some name

-- the addresses of all nodes, in the order of their numbers
abbrev pub addresses : ConfigValue → List Addr
addresses c = map (λ s. s.address) c.servers ++ map (λ r. r.address) c.routers
