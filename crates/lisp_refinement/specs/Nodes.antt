-- The nodes of a network by their numbers: Map-Servers, then routers; and a Map-Server that starts.
use Rattle.std.specs.Prelude.{ℕ, ◌-◌, nat_lt, List, [], length, slice_get, Option, Some, None, if◌then◌else◌}
use Rattle.std.specs.FinMap.{empty}
use Rattle.std.specs.Option.{option_map, option_and_then}
use Rattle.lisp_policy.specs.Site.{SiteValue}
use Rattle.lisp_nonces.specs.Store.{StoreState}
use Rattle.lisp_etr.specs.Etr.{EtrState}
use Rattle.lisp_server.specs.Server.{ServerState}
use Rattle.lisp_refinement.specs.World.{WorldState, RouterNodeState, RouterCoreState, Up, Down}

-- the Map-Server with a number
abbrev pub server_at : WorldState → ℕ → Option ServerState
server_at w node = option_map (λ n. n.core) (slice_get w.servers node)

-- the router with a number, where it is up
abbrev pub up_in : RouterCoreState → Option EtrState
up_in (Up etr) = Some etr
up_in (Down config database) = None

abbrev pub router_at : WorldState → ℕ → Option RouterNodeState
router_at w node = if nat_lt node (length w.servers) then None else slice_get w.routers (node - length w.servers)

abbrev pub etr_at : WorldState → ℕ → Option EtrState
etr_at w node = option_and_then (λ n. up_in n.core) (router_at w node)

-- the store of the node with a number
abbrev pub store_at : WorldState → ℕ → Option StoreState
store_at w node = if nat_lt node (length w.servers) then option_map (λ n. n.store) (slice_get w.servers node) else option_map (λ n. n.store) (router_at w node)

-- a Map-Server with its sites alone: it holds nothing, and heard of nobody
abbrev pub fresh_server : List SiteValue → ServerState
fresh_server sites = record { sites = sites; rows = []; nonces = empty; contacts = []; notices = [] }
