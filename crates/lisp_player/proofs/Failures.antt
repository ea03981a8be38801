-- How often the stores of a network's nodes failed.
use Rattle.std.proofs.Common.{◌≡◌, ℕ, ◌+◌, ◌<◌, List, ◌∷◌, length, map, Some, sym, ap, ◌∙◌, inl, inr, ◌⊎◌, arith}
use Rattle.std.specs.Prelude.{slice_get}
use Rattle.std.specs.Option.{option_map}
use Rattle.std.proofs.lemmas.List.{length-append, length-map}
use Rattle.std.proofs.lemmas.Option.{slice_get-map}
use Rattle.lisp_nonces.specs.Store.{StoreState}
use Rattle.lisp_model.specs.Trace.{Step, Opening, addresses, shown_store}
use Rattle.lisp_refinement.specs.World.{ServerNodeState, RouterNodeState, WorldState}
use Rattle.lisp_refinement.specs.Stands.{Stands}
use Rattle.lisp_refinement.proofs.Gets.{same_some, get_within, get_mapped}
use Rattle.lisp_world.specs.Quiet.{stores_of, failures}
use Rattle.lisp_world.proofs.Making.{get_joined}

module _ (w : WorldState) (o : Opening) (T : List Step) (stand : Stands w o T) (node : ℕ) (within : node < length (addresses o.config)) where
  abbrev of_servers : List StoreState
  of_servers = map (λ (n : ServerNodeState). n.store) w.servers

  abbrev of_routers : List StoreState
  of_routers = map (λ (n : RouterNodeState). n.store) w.routers

  -- as many as there are addresses
  count : length (addresses o.config) ≡ length (stores_of w)
  count =
      let servers = length-map w.servers (λ (n : ServerNodeState). n.store) ∙ stand.steps.servers in
      let routers = length-map w.routers (λ (n : RouterNodeState). n.store) ∙ stand.steps.routers in
      let server_addresses = length-map o.config.servers (λ s. s.address) in
      let router_addresses = length-map o.config.routers (λ r. r.address) in
      let stores = length-append of_servers of_routers in
      let all = length-append (map (λ s. s.address) o.config.servers) (map (λ r. r.address) o.config.routers) in
      omega (arith, servers, routers, server_addresses, router_addresses, stores, all)

  -- the store of a node
  found : (s : StoreState) × (slice_get (stores_of w) node ≡ Some s)
  found = get_within (stores_of w) node (omega (arith, within, count))

  abbrev Failed : Type 0
  Failed = found.0.faults ≡ (shown_store o T node).faults

  of_server : (n : ServerNodeState) × (slice_get w.servers node ≡ Some n) × (n.store ≡ found.0) → Failed
  of_server (n, there, is) = ap (λ (s : StoreState). s.faults) (sym is) ∙ (stand.steps.server_stores node n there).faults

  of_router : (j : ℕ) → node ≡ length of_servers + j → (n : RouterNodeState) × (slice_get w.routers j ≡ Some n) × (n.store ≡ found.0) → Failed
  of_router j place (n, there, is) =
      let servers = length-map w.servers (λ (n : ServerNodeState). n.store) ∙ stand.steps.servers in
      let number : length o.config.servers + j ≡ node = omega (arith, place, servers) in
      ap (λ (s : StoreState). s.faults) (sym is) ∙ (stand.steps.router_stores j n there).faults ∙ ap (λ (k : ℕ). (shown_store o T k).faults) number

  failed : (slice_get of_servers node ≡ Some found.0) ⊎ ((j : ℕ) × (node ≡ length of_servers + j) × (slice_get of_routers j ≡ Some found.0)) → Failed
  failed (inl first) = of_server (get_mapped (λ n. n.store) w.servers node found.0 first)
  failed (inr (j, place, second)) = of_router j place (get_mapped (λ n. n.store) w.routers j found.0 second)

  -- it failed as often as the trace says
  pub failures_are : slice_get (failures (stores_of w)) node ≡ Some (shown_store o T node).faults
  failures_are =
      slice_get-map (λ (s : StoreState). s.faults) (stores_of w) node ∙ ap (option_map (λ (s : StoreState). s.faults)) found.1
      ∙ ap Some (failed (get_joined of_servers of_routers node found.0 found.1))

-- no store failed, and so none by the trace
pub none_failed : (old new : WorldState) (o : Opening) (T : List Step) (s : Step) → Stands old o T → Stands new o (s ∷ T) → failures (stores_of new) ≡ failures (stores_of old)
    → (node : ℕ) → node < length (addresses o.config) → (shown_store o (s ∷ T) node).faults ≡ (shown_store o T node).faults
none_failed old new o T s before after same node within = same_some _ _
    (sym (failures_are new o (s ∷ T) after node within) ∙ ap (λ (all : List ℕ). slice_get all node) same ∙ failures_are old o T before node within)
