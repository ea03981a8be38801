-- The faults of names in a network that stands for a trace are those of its configuration: so what keeps a node from being told something is
-- the fault of each network that has it.
use Rattle.std.proofs.Common.{◌≡◌, ℕ, ◌+◌, ◌<◌, Bool, true, false, List, length, length-append, map, Option, Some, None, refl, sym, ap, ◌∙◌, arith, ◌-◌}
use Rattle.std.specs.Prelude.{◌||◌, ◌-◌, not, nat_le, nat_lt, if◌then◌else◌, slice_get, is_none}
use Rattle.std.specs.Option.{option_or, option_and_then}
use Rattle.std.proofs.lemmas.Bool.{and_parts, leb-true, ltb-true, lt-ltb, le-ltb, lt-leb}
use Rattle.std.proofs.lemmas.List.{length-map}
use Rattle.std.proofs.lemmas.Option.{slice_get_within}
use Rattle.lisp_policy.specs.Configuration.{ServerEntryValue, RouterEntryValue, ConfigValue}
use Rattle.lisp_policy.specs.Site.{SiteValue}
use Rattle.lisp_model.specs.Trace.{Step, Opening, is_router, router_at}
use Rattle.lisp_model.specs.declared.world_fault.WorldFault.{WorldFault}
use Rattle.lisp_model.specs.declared.world_fault.WorldFault.TheVariants.{NoNode, WrongKind, UnknownKey, KeyUsed}
use Rattle.lisp_refinement.specs.World.{WorldState, ServerNodeState, RouterNodeState, is_used}
use Rattle.lisp_refinement.specs.Stands.{Stands}
use Rattle.lisp_refinement.proofs.Gets.{get_within}
use Rattle.lisp_refinement.specs.Nodes.{router_at as router_in}
use Rattle.lisp_world.specs.Faults.{server_fault, router_fault, pair_fault, key_fault, used_before_loss, fault_of}
use Rattle.lisp_admission.specs.Checks.{secret_at}
use Rattle.lisp_turns.specs.Order.{name_fault, event_of, order_fault, FaultsAgree}
use Rattle.lisp_turns.proofs.ServingServer.{HasRouter}
use Rattle.lisp_turns.specs.Node.{Server, Router, HasNode}
use Rattle.lisp_turns.specs.declared.order.Order.{Order}
use Rattle.lisp_turns.specs.declared.order.Order.TheVariants.{Notice, Change, Rotate, Reload}

-- the fault of a name alone, and beside a node that is a Map-Server or a router
abbrev alone : Bool → Bool → Option WorldFault
alone missing server = if missing then Some NoNode else if server then Some WrongKind else None

abbrev beside : Bool → Bool → Bool → Option WorldFault
beside is_server missing server = if missing || false then Some NoNode else if server || not is_server then Some WrongKind else None

-- the fault of a name where a Map-Server is meant
abbrev serving : Bool → Bool → Option WorldFault
serving missing server = if missing then Some NoNode else if not server then Some WrongKind else None

-- a name beside a Map-Server has its own fault
beside_server : (missing server : Bool) → beside true missing server ≡ alone missing server
beside_server true server = refl
beside_server false true = refl
beside_server false false = refl

-- and beside a router, too; one that has none is of the wrong kind
beside_router : (missing server : Bool) → beside false missing server ≡ option_or (alone missing server) (Some WrongKind)
beside_router true server = refl
beside_router false true = refl
beside_router false false = refl

module _ (w : WorldState) (o : Opening) (T : List Step) (stand : Stands w o T) where
  abbrev servers : ℕ
  servers = length o.config.servers

  abbrev nodes : ℕ
  nodes = servers + length o.config.routers

  node_count : length w.addresses ≡ nodes
  node_count =
      ap (λ l. length l) stand.steps.addresses
      ∙ length-append (map (λ (s : ServerEntryValue). s.address) o.config.servers) (map (λ (r : RouterEntryValue). r.address) o.config.routers)
      ∙ (λ i. length-map o.config.servers (λ (s : ServerEntryValue). s.address) i + length-map o.config.routers (λ (r : RouterEntryValue). r.address) i)

  -- the fault of a name is that in the configuration
  pub named : (router : ℕ) → router_fault w router ≡ name_fault o.config router
  named router = λ i. alone (nat_le (node_count i) router) (nat_lt router (stand.steps.servers i))

  -- the fault of a router beside a node, by what this one is
  by_kind : (number router : ℕ) (is_server : Bool) → nat_le nodes number ≡ false → nat_lt number servers ≡ is_server
      → pair_fault w router number ≡ beside is_server (nat_le nodes router) (nat_lt router servers)
  by_kind number router is_server there kind =
      (λ i. if nat_le (node_count i) router || nat_le (node_count i) number then Some NoNode
      else if nat_lt router (stand.steps.servers i) || not (nat_lt number (stand.steps.servers i)) then Some WrongKind else None)
      ∙ (λ i. if nat_le nodes router || there i then Some NoNode else if nat_lt router servers || not (kind i) then Some WrongKind else None)

  -- the fault of a node where a Map-Server is meant, by what it is
  as_server : (number : ℕ) (is_server : Bool) → nat_le nodes number ≡ false → nat_lt number servers ≡ is_server
      → server_fault w number ≡ serving false is_server
  as_server number is_server there kind =
      (λ i. serving (nat_le (node_count i) number) (nat_lt number (stand.steps.servers i)))
      ∙ (λ i. serving (there i) (kind i))

  -- beside a Map-Server
  module _ (number : ℕ) (low : number < servers) where
    pub at_server : (router : ℕ) → pair_fault w router number ≡ name_fault o.config router
    at_server router =
        by_kind number router true (lt-leb nodes number (omega (arith, low))) (lt-ltb number servers low)
        ∙ beside_server (nat_le nodes router) (nat_lt router servers)

    -- which is no router
    pub no_router : router_fault w number ≡ Some WrongKind
    no_router = named number ∙ (λ i. alone (lt-leb nodes number (omega (arith, low)) i) (lt-ltb number servers low i))

    -- and has no fault where a Map-Server is meant
    pub its_own : server_fault w number ≡ None
    its_own = as_server number true (lt-leb nodes number (omega (arith, low))) (lt-ltb number servers low)

  -- beside a router
  module _ (number place : ℕ) (is : number ≡ servers + place) (within : place < length o.config.routers) where
    pub at_router : (router : ℕ) → pair_fault w router number ≡ option_or (name_fault o.config router) (Some WrongKind)
    at_router router =
        by_kind number router false (lt-leb nodes number (omega (arith, is, within))) (le-ltb number servers (omega (arith, is)))
        ∙ beside_router (nat_le nodes router) (nat_lt router servers)

    -- which has no fault itself
    pub no_fault : router_fault w number ≡ None
    no_fault = named number ∙ (λ i. alone (lt-leb nodes number (omega (arith, is, within)) i) (le-ltb number servers (omega (arith, is)) i))

    -- and is no Map-Server
    pub no_server : server_fault w number ≡ Some WrongKind
    no_server = as_server number false (lt-leb nodes number (omega (arith, is, within))) (le-ltb number servers (omega (arith, is)))

  -- the router with a number is there
  module _ (router : ℕ) (kind : is_router o.config router ≡ true) where
    parts : (nat_le servers router ≡ true) × (nat_lt router nodes ≡ true)
    parts = and_parts (nat_le servers router) (nat_lt router nodes) kind

    high : length w.servers + (router - length w.servers) ≡ router
    high = omega (arith, leb-true servers router parts.0, stand.steps.servers)

    low : router - length w.servers < length w.routers
    low = omega (arith, leb-true servers router parts.0, ltb-true router nodes parts.1, stand.steps.servers, stand.steps.routers)

    pub there : HasRouter w router (router_at o.config router).me
    there =
        let node = get_within w.routers (router - length w.servers) low in
        record {
          place = router - length w.servers;
          is = sym high;
          node = node.0;
          there = node.1;
          its = (stand.routers (router - length w.servers) node.0 node.1).me ∙ ap (λ (k : ℕ). (router_at o.config k).me) (ap (λ (n : ℕ). n + (router - length w.servers)) (sym stand.steps.servers) ∙ high);
        }

-- ---- what a node is told

module _ (w : WorldState) (o : Opening) (T : List Step) (stand : Stands w o T) (config : ConfigValue) (same : o.config ≡ config) (number : ℕ) where
  -- told to a Map-Server
  module _ (n : ServerNodeState) (has : HasNode w number (Server n)) where
    below : number < length o.config.servers
    below = (let within = slice_get_within w.servers number n has in omega (arith, within, stand.steps.servers))

    told_server : (order : Order) → fault_of w (event_of number order) ≡ order_fault config (Server n) order
    told_server (Notice router) = at_server w o T stand number below router ∙ ap (λ (c : ConfigValue). name_fault c router) same
    told_server (Change db) = no_router w o T stand number below
    told_server (Rotate key) = ap (λ (f : Option WorldFault). option_or f (option_and_then (key_fault w key (used_before_loss key)) (router_in w number))) (no_router w o T stand number below)
    told_server (Reload sites) = its_own w o T stand number below

  -- told to a router
  module _ (n : RouterNodeState) (has : HasNode w number (Router n)) where
    is : number ≡ length o.config.servers + has.0
    is = omega (arith, has.1, stand.steps.servers)

    within : has.0 < length o.config.routers
    within = (let low = slice_get_within w.routers has.0 n has.2 in omega (arith, low, stand.steps.routers))

    none : router_fault w number ≡ None
    none = no_fault w o T stand number has.0 is within

    its_router : router_in w number ≡ Some n
    its_router =
        ap (λ (b : Bool). if b then None else slice_get w.routers (number - length w.servers)) (le-ltb number (length w.servers) (omega (arith, has.1)))
        ∙ ap (slice_get w.routers) (omega (arith, has.1)) ∙ has.2

    sites : w.sites ≡ config.sites
    sites = stand.steps.sites ∙ ap (λ (c : ConfigValue). c.sites) same

    told_router : (order : Order) → fault_of w (event_of number order) ≡ order_fault config (Router n) order
    told_router (Notice router) = at_router w o T stand number has.0 is within router ∙ ap (λ (c : ConfigValue). option_or (name_fault c router) (Some WrongKind)) same
    told_router (Change db) = none
    told_router (Rotate key) =
        (λ i. option_or (none i) (option_and_then (key_fault w key (used_before_loss key)) (its_router i)))
        ∙ ap (λ (s : List SiteValue). if is_none (secret_at s n.me.site key) then Some UnknownKey else if is_used n.used.before_loss key then Some KeyUsed else None) sites
    told_router (Reload given) = no_server w o T stand number has.0 is within

pub faults_agree : FaultsAgree
faults_agree config number (Server n) order w o T stand same has = told_server w o T stand config same number n has order
faults_agree config number (Router n) order w o T stand same has = told_router w o T stand config same number n has order
