use Rattle.std.proofs.Common.{◌≡◌, true, false, true≢false, ◌+◌, ◌++◌, List, length, map, take, drop, arith, refl, sym, ap, subst, ◌∙◌, Err}
use Rattle.std.proofs.lemmas.List.{length-append, length-map}
use Rattle.std.specs.Prelude.{◌≢◌}
use Rattle.lisp_nonces.specs.declared.fault.StoreFault.TheVariants as store_faults
use Rattle.lisp_etr.specs.declared.start_fault.StartFault.TheVariants as starts
use Rattle.lisp_nodes.proofs.NodeCalls.{err_is}
use Rattle.lisp_nonces.specs.Store.{StoreState}
use Rattle.lisp_refinement.specs.World.{RouterNodeState, WorldState}
use Rattle.lisp_refinement.proofs.Headlines.{networks_promise}
use Rattle.lisp_world.specs.Making.{HaveStarted, IsStartFault}
use Rattle.lisp_world.proofs.Making.{memory_fault, start_fault, fails, IsMade, lists_same, stays_calm, made_stands}
use Rattle.lisp_model.specs.declared.world_fault.WorldFault.{WorldFault}
use Rattle.lisp_model.specs.declared.world_fault.WorldFault.TheVariants as faults
use Rattle.lisp_world.proofs.Taking.{rewritten}
use Rattle.lisp_world.proofs.world.World.new.Goals as goal

module _ (g : _) (c : goal.After-new g) where
  -- the routers started
  started : HaveStarted c.in_ok-servers.routers.items c.start_all.new.routers
  started = subst (λ (l : List RouterNodeState). HaveStarted l c.start_all.new.routers) c.deref_mut.ensures.value c.in_ok-start_all.ensures.started

  -- and their list was written whole
  abbrev routers_left : List RouterNodeState
  routers_left = take c.in_ok-servers.routers.len (c.start_all.new.routers ++ drop (length c.start_all.new.routers) c.in_ok-servers.routers.items)

  routers_now : routers_left ≡ c.start_all.new.routers
  routers_now = rewritten _ c.in_ok-servers.routers.items c.start_all.new.routers (c.in_ok-servers.routers.ok.0 ∙ sym started.count)

  -- the stores as they were given
  abbrev stores : List StoreState
  stores = map g.S.NonceStore.seen c.args.stores.items

  -- the network
  abbrev world : WorldState
  world = record {
    sites = c.in_ok-sites.sites;
    addresses = c.in_ok-addresses.addresses.items;
    clock = 0;
    bag = c.new.result.items;
    servers = c.in_ok-servers.servers.items;
    routers = routers_left;
  }

  -- its nodes are those of the configuration
  made : IsMade c.args.config.now stores world
  made = record {
    sites_are = c.in_ok-sites.ensures.equal ∙ c.sites.ensures;
    addresses_are = c.in_ok-addresses.ensures.addresses;
    moment = refl;
    empty_bag = c.new.ensures.items;
    down = c.in_ok-servers.routers.items;
    nodes = c.in_ok-servers.ensures.nodes;
    started_all = subst (λ (l : List RouterNodeState). HaveStarted c.in_ok-servers.routers.items l) (sym routers_now) started;
  }

  -- as many stores as nodes
  stores_count : length stores ≡ length c.args.config.now.servers + length c.args.config.now.routers
  stores_count = length-map c.args.stores.items g.S.NonceStore.seen ∙ c.requires

pub invariant_of-result : goal.invariant_of-result
invariant_of-result g c =
    let nodes = c.in_ok-servers.ensures.nodes in
    let known = ap length c.in_ok-addresses.ensures.addresses in
    let both = length-append (map (λ s. s.address) c.args.config.now.servers) (map (λ r. r.address) c.args.config.now.routers) in
    let one = length-map c.args.config.now.servers (λ s. s.address) in
    let other = length-map c.args.config.now.routers (λ r. r.address) in
    let written = ap length (routers_now g c) in
    let starts = started g c in
    (omega arith, omega (arith, known, both, one, other, written, starts.count, nodes.server_count, nodes.router_count))

pub returns : goal.returns
returns g c = record {
  stands = λ honest. made_stands c.args.config.now (stores g c) (world g c) (stores_count g c) (made g c) (c.repeats.ensures.network c.if-repeats.false) honest;
  headline = networks_promise _;
  lists = λ honest. lists_same c.args.config.now (stores g c) (world g c) (stores_count g c) (made g c) honest;
  faults = tt;
  repeated = (λ is. absurd cc, λ twice. absurd (true≢false (sym twice ∙ sym c.repeats.ensures.exact ∙ c.if-repeats.false)));
  memory = λ is. absurd cc;
  start_memory = λ node is. absurd cc;
  store_memory = λ node is. absurd cc;
  calm = λ calm. stays_calm c.args.config.now (stores g c) (world g c) (stores_count g c) (made g c) calm;
  calm_faults = λ calm below. tt;
}

-- it isn't made: nodes are alike, memory ran out, or a router doesn't start
pub returns-then-repeats : goal.returns-then-repeats
returns-then-repeats g c =
    assumption (fails c.args.config.now (map g.S.NonceStore.seen c.args.stores.items) g.A.Memory.may_refuse g.S.NonceStore.may_refuse (Err faults.Repeated) (sym c.repeats.ensures.exact ∙ c.if-repeats.true) (λ twice. refl))

pub returns-in_err-addresses : goal.returns-in_err-addresses
returns-in_err-addresses g c =
    assumption (fails c.args.config.now (map g.S.NonceStore.seen c.args.stores.items) g.A.Memory.may_refuse g.S.NonceStore.may_refuse c.from_residual.result (memory_fault _ _ c.from_residual.ensures.1 c.in_err-addresses.ensures.memory)
    (λ twice. absurd (true≢false (sym twice ∙ sym c.repeats.ensures.exact ∙ c.if-repeats.false))))

pub returns-in_err-sites : goal.returns-in_err-sites
returns-in_err-sites g c =
    assumption (fails c.args.config.now (map g.S.NonceStore.seen c.args.stores.items) g.A.Memory.may_refuse g.S.NonceStore.may_refuse c.from_residual-in_err-sites.result (memory_fault _ _ c.from_residual-in_err-sites.ensures.1 c.in_err-sites.ensures.memory)
    (λ twice. absurd (true≢false (sym twice ∙ sym c.repeats.ensures.exact ∙ c.if-repeats.false))))

pub returns-in_err-servers : goal.returns-in_err-servers
returns-in_err-servers g c =
    assumption (fails c.args.config.now (map g.S.NonceStore.seen c.args.stores.items) g.A.Memory.may_refuse g.S.NonceStore.may_refuse c.from_residual-in_err-servers.result (memory_fault _ _ c.from_residual-in_err-servers.ensures.1 c.in_err-servers.ensures.memory)
    (λ twice. absurd (true≢false (sym twice ∙ sym c.repeats.ensures.exact ∙ c.if-repeats.false))))

pub returns-in_err-start_all : goal.returns-in_err-start_all
returns-in_err-start_all g c =
    let first = c.len.ensures ∙ c.in_ok-servers.servers.ok.0 in
    let why = start_fault c.args.config.now (map g.S.NonceStore.seen c.args.stores.items) g.A.Memory.may_refuse g.S.NonceStore.may_refuse c.in_ok-servers.servers.items c.in_ok-servers.routers.items c.in_ok-servers.ensures.nodes
    c.start_all.new.routers c.from_residual-in_err-start_all.result c.in_err-start_all.field-0.0 c.len.result first
    (err_is c.from_residual-in_err-start_all.result c.in_err-start_all.field-0.0 c.from_residual-in_err-start_all.ensures.1)
    (subst (λ (l : List RouterNodeState). IsStartFault c.len.result l c.start_all.new.routers g.A.Memory.may_refuse g.S.NonceStore.may_refuse c.in_err-start_all.field-0.0) c.deref_mut.ensures.value c.in_err-start_all.ensures.faults) in
    assumption (fails c.args.config.now (map g.S.NonceStore.seen c.args.stores.items) g.A.Memory.may_refuse g.S.NonceStore.may_refuse c.from_residual-in_err-start_all.result why
    (λ twice. absurd (true≢false (sym twice ∙ sym c.repeats.ensures.exact ∙ c.if-repeats.false))))
