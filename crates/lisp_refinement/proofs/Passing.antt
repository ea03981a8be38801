-- Time passes: each Map-Server drops some of its dead rows, and nothing else changes.
use Rattle.std.proofs.Common.{◌≡◌, ℕ, ◌+◌, ◌≤◌, Bool, true, false, true≢false, List, ◌∷◌, length, append-nil, Option, Some, None, refl, sym, ap, subst, ◌∙◌, arith}
use Rattle.std.specs.Prelude.{if◌then◌else◌, slice_get}
use Rattle.std.specs.List.{find}
use Rattle.std.specs.Option.{option_and_then}
use Rattle.std.proofs.lemmas.Bool.{le-ltb, and_right}
use Rattle.std.proofs.lemmas.Option.{slice_get_within}
use Rattle.lisp_records.specs.Moment.{max_moment}
use Rattle.lisp_records.specs.Row.{RowValue, is_alive}
use Rattle.lisp_lookup.specs.Table.{row_at, is_row_of, if_alive}
use Rattle.lisp_nonces.specs.Store.{StoreState}
use Rattle.lisp_server.specs.Contacts.{contact_at}
use Rattle.lisp_model.specs.declared.event.Event.TheVariants as events
use Rattle.lisp_model.specs.declared.line.Line.{Line}
use Rattle.lisp_model.specs.declared.line.Line.TheVariants as lines
use Rattle.lisp_model.specs.Trace.{ShownStore, Step, Opening, is_router, shown_store, clock}
use Rattle.lisp_model.specs.Held.{Acceptance, accepted_rows}
use Rattle.lisp_model.specs.Bag.{Item, bag, since_start}
use Rattle.lisp_model.specs.Legal.{Legal}
use Rattle.lisp_model.specs.Promises.{LeavesOthers, SameServer, SameRouter}
use Rattle.lisp_model.proofs.Locality.{leaves_others}
use Rattle.lisp_refinement.specs.World.{ServerNodeState, RouterNodeState, WorldState}
use Rattle.lisp_refinement.specs.Events.{ExpiresNode, NetworkTicks}
use Rattle.lisp_refinement.specs.Stands.{Shows, StandsForServer, Stands, StandsAfter}
use Rattle.lisp_refinement.proofs.Gets.{none_is_some, same_some, get_within}
use Rattle.lisp_refinement.proofs.Acting.{StandsForRows, server_rows, server_goes, router_stays, server_is, router_is, router_number}
use Rattle.lisp_refinement.specs.Passing.{PassesNode, NetworkPasses, PassingStands, TicksArePasses, IdlingPasses}
use Rattle.lisp_model.proofs.LimitLaws.{alive_before}

-- by what is alive now and later
alive_twice_case : (h : RowValue) (now later : ℕ) → now ≤ later → (a b : Bool) → is_alive h now ≡ a → is_alive h later ≡ b
    → option_and_then (if_alive later) (if a then Some h else None) ≡ (if b then Some h else None)
alive_twice_case h now later le true b now_is later_is = ap (λ t. if t then Some h else None) later_is
alive_twice_case h now later le false true now_is later_is = absurd (true≢false (sym (alive_before h now later le later_is) ∙ now_is))
alive_twice_case h now later le false false now_is later_is = refl

-- to ask now and later is to ask later
alive_twice : (now later : ℕ) → now ≤ later → (row : Option RowValue) → option_and_then (if_alive later) (option_and_then (if_alive now) row) ≡ option_and_then (if_alive later) row
alive_twice now later le None = refl
alive_twice now later le (Some h) = alive_twice_case h now later le (is_alive h now) (is_alive h later) refl refl

-- a row that is there after asking is alive
alive_is_case : (h g : RowValue) (b : Bool) → ◌≡◌ {A = Option RowValue} (if b then Some h else None) (Some g) → b ≡ true
alive_is_case h g true e = refl
alive_is_case h g false e = absurd (none_is_some e)

-- a row that is there later is there now
earlier_row : (now later : ℕ) → now ≤ later → (row : Option RowValue) (g : RowValue) → option_and_then (if_alive later) row ≡ Some g → option_and_then (if_alive now) row ≡ Some g
earlier_row now later le None g e = absurd (none_is_some e)
earlier_row now later le (Some h) g e = let alive : is_alive h later ≡ true = alive_is_case h g (is_alive h later) e in
    ap (λ t. if t then Some h else None) (alive_before h now later le alive) ∙ ap (λ t. if t then Some h else None) (sym alive) ∙ e

-- a server that drops dead rows alone holds what is held then
pub rows_pass : (n m : ServerNodeState) (all : List Acceptance) (now later : ℕ) → now ≤ later → PassesNode n m later → StandsForRows n all now → StandsForRows m all later
rows_pass n m all now later le passes stand = record {
  rows = λ router eid. passes.rows router eid ∙ sym (alive_twice now later le (row_at n.core.rows router eid))
      ∙ ap (option_and_then (if_alive later)) (stand.rows router eid) ∙ alive_twice now later le (find (is_row_of router eid) (accepted_rows all));
  contacts = λ router eid h is. ap (λ (x : ServerNodeState). contact_at x.core.contacts router) passes.rest ∙ stand.contacts router eid h ((earlier_row now later le _ h is));
}

-- nobody acts: the number of all nodes
abbrev nobody : Opening → ℕ
nobody o = length o.config.servers + length o.config.routers

-- the step of a tick
abbrev tick : Opening → List Step → ℕ → Line → Step
tick o T ms line = record { event = events.Tick ms; line = line; actor = nobody o; shown = shown_store o T (nobody o) }

-- the step is legal, and each node's part is as it was
module _ (old : WorldState) (ms : ℕ) (bound : old.clock + ms ≤ max_moment) (o : Opening) (T : List Step) (stand : Stands old o T) where
  -- the step with its line
  abbrev passed : Step
  passed = tick o T ms (lines.Ticked ms (old.clock + ms))

  -- it is legal
  tick_legal : Legal o T passed
  tick_legal = record {
    faults = λ other. omega arith;
    obedient = refl;
    row = record {
      names = refl;
      clock = ap (λ n. n + ms) stand.bag.moment;
      bound = bound;
      idle = record {
        server = le-ltb (nobody o) (length o.config.servers) (omega arith);
        router = and_right _ _ (le-ltb (nobody o) (nobody o) (omega arith));
        same = refl;
      };
    };
  }

  -- it leaves all nodes
  tick_leaves : LeavesOthers o T passed
  tick_leaves = leaves_others o T passed tick_legal

  -- each server
  server_other : (k : ℕ) (n : ServerNodeState) → slice_get old.servers k ≡ Some n → SameServer o T (passed ∷ T) k
  server_other k n there = tick_leaves.server k (server_is old o T stand k n there) (λ same. absurd (omega (arith, same, slice_get_within old.servers k n there, stand.steps.servers)))

  -- and each router
  router_other : (k : ℕ) (n : RouterNodeState) → slice_get old.routers k ≡ Some n → SameRouter o T (passed ∷ T) (length o.config.servers + k)
  router_other k n there = tick_leaves.router (length o.config.servers + k) (ap (λ m. is_router o.config m) (sym (router_number old o T stand k)) ∙ router_is old o T stand k n there)
      (λ same. absurd (omega (arith, same, slice_get_within old.routers k n there, stand.steps.routers)))

-- each node of the new network is one of the old one, if it is a server without some of its dead rows
module _ (old new : WorldState) (ms : ℕ) (line : Line) (passes : NetworkPasses old new ms line) (o : Opening) (T : List Step) (stand : Stands old o T) where
  -- the trace with the step
  abbrev next : List Step
  next = passed old ms passes.bound o T stand ∷ T

  -- a server is one of the old ones without some of its dead rows
  server_was : (k : ℕ) (m : ServerNodeState) → slice_get new.servers k ≡ Some m → (n : ServerNodeState) × (slice_get old.servers k ≡ Some n) × PassesNode n m (old.clock + ms)
  server_was k m there =
      let was = get_within old.servers k (omega (arith, slice_get_within new.servers k m there, passes.count)) in
      (was.0, was.1, passes.each k was.0 m was.1 there)

  -- a router is one of the old ones
  router_was : (k : ℕ) (n : RouterNodeState) → slice_get new.routers k ≡ Some n → slice_get old.routers k ≡ Some n
  router_was k n there = ap (λ (w : WorldState). slice_get w.routers k) (sym passes.left) ∙ there

  -- such a server stands
  server_case : (k : ℕ) (n m : ServerNodeState) → slice_get old.servers k ≡ Some n → PassesNode n m (old.clock + ms) → StandsForServer o next k m
  server_case k n m was gone =
      let same = server_other old ms passes.bound o T stand k n was in
      let moment : old.clock + ms ≡ clock T + ms = ap (λ a. a + ms) stand.bag.moment in
      server_goes o T next k n (stand.servers k n was) same (tick_leaves old ms passes.bound o T stand).sent m gone.rest
      (subst (λ (all : List Acceptance). StandsForRows m all (clock T + ms)) (sym same.since)
      (rows_pass n m (since_start o T k) (clock T) (clock T + ms) (omega arith) (subst (λ a. PassesNode n m a) moment gone) (server_rows o T next k n (stand.servers k n was) same (tick_leaves old ms passes.bound o T stand).sent)))

  -- its store shows what the trace says
  store_case : (k : ℕ) (n m : ServerNodeState) → slice_get old.servers k ≡ Some n → PassesNode n m (old.clock + ms) → Shows m.store (shown_store o next k)
  store_case k n m was gone = subst (λ (p : StoreState × ShownStore). Shows p.0 p.1)
      (λ i. (ap (λ (x : ServerNodeState). x.store) (sym gone.rest) i, sym (server_other old ms passes.bound o T stand k n was).shown i)) (stand.steps.server_stores k n was)

  -- so all stands
  pass_here : Stands new o next
  pass_here = record {
    steps = record {
      sites = ap (λ (w : WorldState). w.sites) passes.left ∙ stand.steps.sites;
      addresses = ap (λ (w : WorldState). w.addresses) passes.left ∙ stand.steps.addresses;
      network = stand.steps.network;
      legal = (tick_legal old ms passes.bound o T stand, stand.steps.legal);
      servers = passes.count ∙ stand.steps.servers;
      routers = ap (λ (w : WorldState). length w.routers) passes.left ∙ stand.steps.routers;
      server_stores = λ k m there. (let was = server_was k m there in store_case k was.0 m was.1 was.2);
      router_stores = λ k n there. subst (λ (x : ShownStore). Shows n.store x) (sym (router_other old ms passes.bound o T stand k n (router_was k n there)).shown) (stand.steps.router_stores k n (router_was k n there));
    };
    bag = record {
      moment = ap (λ (w : WorldState). w.clock) passes.left ∙ ap (λ a. a + ms) stand.bag.moment;
      bound = omega (arith, passes.bound, stand.bag.moment);
      count = ap (λ (w : WorldState). length w.bag) passes.left ∙ stand.bag.count ∙ ap (λ (items : List Item). length items) (sym (append-nil (bag o T)));
      each = λ k d i one other. stand.bag.each k d i (ap (λ (w : WorldState). slice_get w.bag k) (sym passes.left) ∙ one) (ap (λ (items : List Item). slice_get items k) (sym (append-nil (bag o T))) ∙ other);
    };
    servers = λ k m there. (let was = server_was k m there in server_case k was.0 m was.1 was.2);
    routers = λ k n there. router_stays o T next (length o.config.servers + k) (router_other old ms passes.bound o T stand k n (router_was k n there)) n (stand.routers k n (router_was k n there));
  }

-- a network stands for a trace with a pass
pub passing_stands : PassingStands
passing_stands old new ms line passes o T stand = (nobody o, shown_store o T (nobody o), subst (λ (l : Line). Stands new o (tick o T ms l ∷ T)) (sym passes.said) (pass_here old new ms line passes o T stand))

-- who drops all dead rows keeps the live ones
pub expired_passes : (n m : ServerNodeState) (now : ℕ) → ExpiresNode n m now → PassesNode n m now
expired_passes n m now expires = record {
  rows = λ router eid. ap (option_and_then (if_alive now)) (expires.rows router eid) ∙ alive_twice now now (omega arith) (row_at n.core.rows router eid);
  rest = expires.rest;
}

-- and so does who drops none
pub idle_passes : (n : ServerNodeState) (now : ℕ) → PassesNode n n now
idle_passes n now = record { rows = λ router eid. refl; rest = refl }

-- in networks
pub ticks_are_passes : TicksArePasses
ticks_are_passes old new ms line ticks = record {
  bound = ticks.bound;
  count = ticks.count;
  each = λ k n m was is. expired_passes n m (old.clock + ms) (ticks.each k n m was is);
  left = ticks.left;
  said = ticks.said;
}

pub idling_passes : IdlingPasses
idling_passes w ms bound = record {
  bound = bound;
  count = refl;
  each = λ k n m was is. subst (λ (x : ServerNodeState). PassesNode n x (w.clock + ms)) (same_some n m (sym was ∙ is)) (idle_passes n (w.clock + ms));
  left = refl;
  said = refl;
}

-- so a network stands for a trace with a tick
pub tick_stands : (old new : WorldState) (ms : ℕ) (line : Line) → NetworkTicks old new ms line → StandsAfter old new (events.Tick ms) line
tick_stands old new ms line ticks = passing_stands old new ms line (ticks_are_passes old new ms line ticks)
