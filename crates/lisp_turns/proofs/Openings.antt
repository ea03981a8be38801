-- A network at its opening, of nodes that begin, each over a store of its own; and nodes that idle.
use Rattle.std.proofs.Common.{◌≡◌, ℕ, zero, suc, ◌+◌, ◌-◌, ◌<◌, ◌≤◌, Bool, true, false, List, [], ◌∷◌, length, Option, Some, None, refl, sym, ap, subst, ◌∙◌, arith}
use Rattle.std.specs.Prelude.{slice_get, IsTrue, nat_lt, ltb}
use Rattle.std.specs.List.{Contains}
use Rattle.std.proofs.lemmas.Bool.{ltb-true, ltb-false}
use Rattle.std.proofs.lemmas.Option.{slice_get_within}
use Rattle.lisp_policy.specs.Configuration.{ConfigValue, RouterEntryValue}
use Rattle.lisp_nonces.specs.Kept.{kept_at, number, KeepsSome}
use Rattle.lisp_nonces.specs.Store.{StoreState}
use Rattle.lisp_etr.specs.Config.{sent_pair}
use Rattle.lisp_etr.specs.Etr.{etr_started}
use Rattle.lisp_model.specs.Network.{IsNetwork}
use Rattle.lisp_model.specs.Trace.{Opening, addresses, etr_config_of, router_at, shown_store}
use Rattle.lisp_nodes.proofs.NodeCalls.{unused}
use Rattle.lisp_refinement.specs.World.{ServerNodeState, RouterNodeState, Up, WorldState}
use Rattle.lisp_refinement.specs.Stands.{Stands}
use Rattle.lisp_refinement.proofs.Gets.{same_some, get_within}
use Rattle.lisp_world.specs.Making.{server_over, router_over, AreServers, AreRouters, HasStarted, HaveStarted, StartsAt}
use Rattle.lisp_world.specs.Openings.{opening}
use Rattle.lisp_world.specs.Quiet.{AllHonest}
use Rattle.lisp_world.proofs.Making.{made_stands}
use Rattle.lisp_turns.specs.Beginning.{Begins}
use Rattle.lisp_turns.specs.Node.{NodeState, Server, Router, HasNode}
use Rattle.lisp_turns.proofs.ServingPlaces.{router_is_at}

-- the values of a function below a number
module _ {X : Type 0} where
  abbrev below : ℕ → (ℕ → X) → List X
  below zero f = []
  below (suc n) f = f zero ∷ below n (λ k. f (suc k))

  count_below : (n : ℕ) (f : ℕ → X) → length (below n f) ≡ n
  count_below zero f = refl
  count_below (suc n) f = omega (arith, count_below n (λ k. f (suc k)))

  at_below : (n : ℕ) (f : ℕ → X) (k : ℕ) → k < n → slice_get (below n f) k ≡ Some (f k)
  at_below zero f k low = absurd (omega (arith, low))
  at_below (suc n) f zero low = refl
  at_below (suc n) f (suc k) low = at_below n (λ i. f (suc i)) k (omega (arith, low))

  was_below : (n : ℕ) (f : ℕ → X) (k : ℕ) (x : X) → slice_get (below n f) k ≡ Some x → (k < n) × (f k ≡ x)
  was_below n f k x there =
      let low : k < n = omega (arith, slice_get_within (below n f) k x there, count_below n f) in (low, same_some (f k) x (sym (at_below n f k low) ∙ there))

-- all nodes of a configuration begin with their network, each over an honest store of its own
pub record AllBegin (c : ConfigValue) (stores : ℕ → StoreState) (nodes : ℕ → NodeState) : Type 0 where
  pub begin : (k : ℕ) → k < length c.servers + length c.routers → Begins c c.sites k (stores k) 0 (nodes k)
  pub honest : (k : ℕ) → k < length c.servers + length c.routers → IsTrue (stores k).is_honest

-- so a network is at its opening, which has them
pub record AllOpen (c : ConfigValue) (stores : ℕ → StoreState) (nodes : ℕ → NodeState) (w : WorldState) (o : Opening) : Type 0 where
  pub stands : Stands w o []
  pub config_is : o.config ≡ c
  pub has : (k : ℕ) → k < length c.servers + length c.routers → HasNode w k (nodes k)
  pub kept : (k : ℕ) → k < length c.servers + length c.routers → (shown_store o [] k).kept ≡ (stores k).kept
  pub clock : w.clock ≡ 0
  pub bag : w.bag ≡ []

-- the router that a node is
abbrev router_or : RouterNodeState → NodeState → RouterNodeState
router_or other (Router n) = n
router_or other (Server n) = other

module _ (c : ConfigValue) (stores : ℕ → StoreState) (nodes : ℕ → NodeState) (network : IsNetwork c) (begins : AllBegin c stores nodes) where
  -- how many Map-Servers there are, and nodes
  abbrev server_count : ℕ
  server_count = length c.servers

  abbrev count : ℕ
  count = server_count + length c.routers

  -- each router before it starts, and then
  abbrev down : ℕ → RouterNodeState
  down place = router_over c (router_at c (server_count + place)) (stores (server_count + place))

  abbrev up : ℕ → RouterNodeState
  up place = router_or (down place) (nodes (server_count + place))

  -- a node with a Map-Server's number is one
  server_there : (k : ℕ) (node : NodeState) → k < server_count → Begins c c.sites k (stores k) 0 node → node ≡ Server (server_over c (stores k))
  server_there k (Server n) low (known, is) = ap Server is
  server_there k (Router n) low (place, number_is, before, over, starts) = absurd (omega (arith, low, number_is))

  -- and with a router's a router, which started
  router_there : (place : ℕ) (node : NodeState) → Begins c c.sites (server_count + place) (stores (server_count + place)) 0 node → (node ≡ Router (router_or (down place) node)) × HasStarted (down place) (router_or (down place) node)
  router_there place (Server n) (known, is) = absurd (omega (arith, known))
  router_there place (Router n) (at, number_is, before, (entry, there, before_is), starts) =
      (refl, subst (λ (x : RouterNodeState). HasStarted x n) (before_is ∙ ap (λ r. router_over c r (stores (server_count + place))) (sym (router_is_at c (server_count + place) at entry number_is there))) starts)

  its_router : (place : ℕ) → place < length c.routers → (nodes (server_count + place) ≡ Router (up place)) × HasStarted (down place) (up place)
  its_router place low = router_there place (nodes (server_count + place)) (begins.begin (server_count + place) (omega (arith, low)))

  entry_at : (place : ℕ) → place < length c.routers → slice_get c.routers place ≡ Some (router_at c (server_count + place))
  entry_at place low = let there = get_within c.routers place low in there.1 ∙ ap (λ (r : RouterEntryValue). Some r) (sym (router_is_at c (server_count + place) place there.0 refl there.1))

  abbrev servers : List ServerNodeState
  servers = below server_count (λ k. server_over c (stores k))

  abbrev first : WorldState
  first = record { sites = c.sites; addresses = addresses c; clock = 0; bag = []; servers = servers; routers = below (length c.routers) up }

  all_honest : AllHonest (below count stores)
  all_honest k s there = (let was = was_below count stores k s there in subst (λ (x : StoreState). IsTrue x.is_honest) was.1 (begins.honest k was.0))

  are_servers : AreServers c (below count stores) servers
  are_servers k n there =
      let was = was_below server_count (λ k. server_over c (stores k)) k n there in (stores k, at_below count stores k (omega (arith, was.0)), sym was.1)

  are_routers : AreRouters c (below count stores) (below (length c.routers) down)
  are_routers k n there =
      let was = was_below (length c.routers) down k n there in
      (stores (server_count + k), at_below count stores (server_count + k) (omega (arith, was.0)), (router_at c (server_count + k), entry_at k was.0, sym was.1))

  have_started : HaveStarted (below (length c.routers) down) (below (length c.routers) up)
  have_started = record {
    count = count_below (length c.routers) up ∙ sym (count_below (length c.routers) down);
    each = λ k n there. (let was = was_below (length c.routers) up k n there in
        (down k, at_below (length c.routers) down k was.0, subst (λ (x : RouterNodeState). HasStarted (down k) x) was.1 (its_router k was.0).1));
  }

  first_stands : Stands first (opening c first) []
  first_stands = made_stands c (below count stores) first (count_below count stores)
      (record {
        sites_are = refl;
        addresses_are = refl;
        moment = refl;
        empty_bag = refl;
        down = below (length c.routers) down;
        nodes = record { server_count = count_below server_count (λ k. server_over c (stores k)); router_count = count_below (length c.routers) down; are_servers = are_servers; are_routers = are_routers };
        started_all = have_started;
      })
      network all_honest

  -- each number is a Map-Server's or a router's
  by_kind : (P : ℕ → Type 0) → ((k : ℕ) → k < server_count → P k) → ((place : ℕ) → place < length c.routers → P (server_count + place)) → (k : ℕ) → k < count → P k
  by_kind P server router k known = by (nat_lt k server_count) refl
    where
      by : (b : Bool) → nat_lt k server_count ≡ b → P k
      by true low = server k (ltb-true k server_count low)
      by false high = (let high_is = ltb-false k server_count high in subst P (omega (arith, high_is)) (router (k - server_count) (omega (arith, known, high_is))))

  server_at : (k : ℕ) → k < server_count → slice_get servers k ≡ Some (server_over c (stores k))
  server_at k low = at_below server_count (λ k. server_over c (stores k)) k low

  pub all_open : (w : WorldState) × (o : Opening) × AllOpen c stores nodes w o
  all_open = (
    first,
    opening c first,
    record {
      stands = first_stands;
      config_is = refl;
      has = by_kind (λ k. HasNode first k (nodes k))
          (λ k low. subst (HasNode first k) (sym (server_there k (nodes k) low (begins.begin k (omega (arith, low))))) (server_at k low))
          (λ place low. subst (HasNode first (server_count + place)) (sym (its_router place low).0)
          (place, ap (λ l. l + place) (sym (count_below server_count (λ k. server_over c (stores k)))), at_below (length c.routers) up place low));
      kept = by_kind (λ k. (shown_store (opening c first) [] k).kept ≡ (stores k).kept) (λ k low. sym (first_stands.steps.server_stores k (server_over c (stores k)) (server_at k low)).kept)
          (λ place low. sym (first_stands.steps.router_stores place (up place) (at_below (length c.routers) up place low)).kept
          ∙ (its_router place low).1.starts.same (begins.honest (server_count + place) (omega (arith, low))));
      clock = refl;
      bag = refl;
    },
  )

-- ---- nodes that idle

-- the first of some values
abbrev first_of : List (Option ℕ) → Option ℕ
first_of [] = None
first_of (v ∷ vs) = v

has_first : (vs : List (Option ℕ)) → (v : Option ℕ) × Contains vs v → Contains vs (first_of vs)
has_first [] (v, (i, low, is)) = absurd (omega (arith, low))
has_first (v ∷ vs) has = (0, omega arith, refl)

-- a router that started with its network, and counts from the first value that its store keeps
abbrev idle_router : ConfigValue → RouterEntryValue → StoreState → RouterNodeState
idle_router c entry store = record (router_over c entry store)
    { core = Up (etr_started (etr_config_of c entry) entry.database (number (first_of (kept_at store.kept (sent_pair (etr_config_of c entry))))) 0) }

starts_idle : (c : ConfigValue) (entry : RouterEntryValue) (store : StoreState) → KeepsSome store.kept → StartsAt (router_over c entry store) (idle_router c entry store) 0
starts_idle c entry store some = record {
  me = refl;
  servers = refl;
  used = refl;
  starts = record {
    starts = record {
      etr = etr_started (etr_config_of c entry) entry.database (number (first_of (kept_at store.kept (sent_pair (etr_config_of c entry))))) 0;
      up = refl;
      starts = refl;
      last = λ honest. (first_of (kept_at store.kept (sent_pair (etr_config_of c entry))), has_first _ (some (sent_pair (etr_config_of c entry))), refl);
    };
    same = λ honest. refl;
    proceeds = unused store;
  };
}

-- the node with a number; of a number that none has, any
abbrev router_of : ConfigValue → StoreState → Option RouterEntryValue → NodeState
router_of c store (Some entry) = Router (idle_router c entry store)
router_of c store None = Server (server_over c store)

abbrev by_number : ConfigValue → ℕ → StoreState → Bool → NodeState
by_number c k store true = Server (server_over c store)
by_number c k store false = router_of c store (slice_get c.routers (k - length c.servers))

abbrev pub idle_node : ConfigValue → ℕ → StoreState → NodeState
idle_node c k store = by_number c k store (ltb k (length c.servers))

pub begins_idle : (c : ConfigValue) (k : ℕ) (store : StoreState) → k < length c.servers + length c.routers → KeepsSome store.kept → Begins c c.sites k store 0 (idle_node c k store)
begins_idle c k store known some = by (ltb k (length c.servers)) refl
  where
    by : (b : Bool) → ltb k (length c.servers) ≡ b → Begins c c.sites k store 0 (by_number c k store b)
    by true is = (ltb-true k (length c.servers) is, refl)
    by false is =
        let high : length c.servers ≤ k = ltb-false k (length c.servers) is in
        let there = get_within c.routers (k - length c.servers) (omega (arith, known, high)) in
        subst (λ (r : Option RouterEntryValue). Begins c c.sites k store 0 (router_of c store r)) (sym there.1)
        (k - length c.servers, omega (arith, high), router_over c there.0 store, (there.0, there.1, refl), starts_idle c there.0 store some)
