-- The keys that a router used when the network was made: its first one alone.
use Rattle.std.proofs.Common.{[], ◌≡◌, ℕ, zero, suc, ◌<◌, Bool, true, false, true≢false, List, ◌∷◌, length, replicate, refl, sym, ap, subst, ◌∙◌, arith, ◌⊎◌, inl, inr, ◌+◌, ◌≤◌, ◌++◌, get_or, Some, length-set, ◌-◌, map, Result, Ok, Err}
use Rattle.std.proofs.lemmas.List.{length-replicate, length-append, length-map}
use Rattle.std.proofs.lemmas.Option.{slice_get-get_or, slice_get_within, slice_get-map, get_or_from_slice_get}
use Rattle.std.specs.Prelude.{slice_set, ◌≢◌, slice_get, IsTrue, IfErr, IsErrAnd, ◌↔◌, IfOk, IsErrOf}
use Rattle.std.specs.List.{Contains, AllByRecursion}
use Rattle.std.specs.FinMap.{empty}
use Rattle.std.specs.Option.{option_map}
use Rattle.lisp_model.specs.Trace.{Opening, router_at, ShownStore, addresses, etr_config_of, shown_store}
use Rattle.lisp_model.specs.Network.{IsNetwork}
use Rattle.lisp_model.specs.Sending.{pair_at}
use Rattle.lisp_model.specs.declared.world_fault.WorldFault.{WorldFault}
use Rattle.lisp_nodes.{specs.Cores.first_used, proofs.NodeCalls.unused}
use Rattle.lisp_refinement.specs.World.{UsedKeysState, key_count, is_used, ServerNodeState, RouterNodeState, DatagramValue, WorldState}
use Rattle.lisp_refinement.specs.Stands.{Marks, StandsForKeys, shown_by, Shows, StandsForServer, StandsForRouter, Stands}
use Rattle.lisp_refinement.specs.Calls.{CoreStarts}
use Rattle.lisp_refinement.proofs.Gets.{none_is_some, same_some, get_set, get_before, get_within, get_mapped}
use Rattle.lisp_refinement.proofs.Restarting.{begun_stands, fresh_stands}
use Rattle.lisp_policy.specs.Configuration.{ConfigValue, RouterEntryValue}
use Rattle.lisp_nonces.specs.Store.{StoreState, Proceeds, Rose}
use Rattle.lisp_nonces.specs.Kept.{Kept, kept_at}
use Rattle.lisp_nonces.specs.declared.fault.StoreFault.{StoreFault}
use Rattle.lisp_world.specs.Making.{server_over, IsRouterOver, AddsNode, AreServers, AreRouters, AreNodes, HasStarted, HaveStarted, HaveStartedBefore, router_over, HaveStartedBelow, IsUnstarted, IsStartFault, IsNewFault, AllBelowEnd, IsCalmFault, FailsToStartOnlyIf, FailsCalm}
use Rattle.lisp_world.specs.Openings.{opening, lists_of, IsOpened, KeepsLists, repeats}
use Rattle.lisp_world.specs.Quiet.{AllHonest, AllCalm, stores_of, failures, StaysCalm}
use Rattle.lisp_etr.specs.declared.start_fault.StartFault.{StartFault}
use Rattle.lisp_nonces.specs.declared.fault.StoreFault.TheVariants as store_faults
use Rattle.lisp_etr.specs.declared.start_fault.StartFault.TheVariants as start_faults
use Rattle.lisp_model.specs.declared.world_fault.WorldFault.TheVariants as faults
use Rattle.lisp_refinement.specs.Headline.{Promises}
use Rattle.lisp_world.proofs.Taking.{get_behind}

-- a list of one holds that one
only : (key k : ℕ) → Contains (key ∷ []) k → k ≡ key
only key k (zero, low, is) = sym is
only key k (suc i, low, is) = absurd (omega (arith, low))

-- none of these is used
unused_key : (n k : ℕ) → is_used (replicate n false) k ≡ false
unused_key zero k = refl
unused_key (suc n) zero = refl
unused_key (suc n) (suc k) = unused_key n k

-- a key that is set is used
set_is : (used : List Bool) (key : ℕ) → key < length used → is_used (slice_set used key true) key ≡ true
set_is [] key low = absurd (omega (arith, low))
set_is (u ∷ used) zero low = refl
set_is (u ∷ used) (suc key) low = set_is used key (omega (arith, low))

-- and no other one is, unless it was
set_alone : (used : List Bool) (key k : ℕ) → is_used used k ≡ false → is_used (slice_set used key true) k ≡ true → k ≡ key
set_alone [] key k was is = absurd (true≢false (sym is))
set_alone (u ∷ used) zero zero was is = refl
set_alone (u ∷ used) zero (suc k) was is = absurd (true≢false (sym is ∙ was))
set_alone (u ∷ used) (suc key) zero was is = absurd (true≢false (sym is ∙ was))
set_alone (u ∷ used) (suc key) (suc k) was is = ap suc (set_alone used key k was is)

-- its first key is the one that it used, and there are none from before its store was lost
first_since : (key : ℕ) → Marks (first_used key).since_loss (key ∷ [])
first_since key k low = (
  λ is. (let same = set_alone (replicate key_count false) key k (unused_key key_count k) is in (0, omega arith, sym same)),
  λ has. subst (λ (first : ℕ). is_used (slice_set (replicate key_count false) first true) k ≡ true) (only key k has)
      (set_is (replicate key_count false) k (let long = length-replicate key_count false in omega (arith, low, long))),
)

none_before : (key : ℕ) → Marks (first_used key).before_loss []
none_before key k low = (λ is. absurd (true≢false (sym is ∙ unused_key key_count k)), λ has. absurd (omega (arith, has.1)))

first_keys : (o : Opening) (router key : ℕ) (used : UsedKeysState) → used ≡ first_used key → key ≡ (router_at o.config router).key_id → StandsForKeys o [] router used
first_keys o router key used first own = record {
  since_loss = subst (λ (p : UsedKeysState × ℕ). Marks p.0.since_loss (p.1 ∷ [])) {x = (first_used key, key)} {y = (used, (router_at o.config router).key_id)} (λ i. (sym first i, own i)) (first_since key);
  before_loss = subst (λ (u : UsedKeysState). Marks u.before_loss []) (sym first) (none_before key);
}

-- ---- The nodes of a network: made one after the other, each over its store, and then the routers started one after the other.

-- what holds of each element holds of the one at a place
pub each_at : {X : Type 0} (P : X → Type 0) (xs : List X) (i : ℕ) (d : X) → AllByRecursion P xs → i < length xs → P (get_or xs i d)
each_at P [] i d each low = absurd (omega (arith, low))
each_at P (x ∷ xs) zero d each low = each.0
each_at P (x ∷ xs) (suc i) d each low = each_at P xs i d each.1 (omega (arith, low))

module _ {X : Type 0} where
  -- what stands in a list with one more at its end stood there, or is that one
  pub get_push : (xs : List X) (y : X) (k : ℕ) (x : X) → slice_get (xs ++ y ∷ []) k ≡ Some x → (slice_get xs k ≡ Some x) ⊎ ((k ≡ length xs) × (x ≡ y))
  get_push [] y zero x e = inr (refl, sym (same_some y x e))
  get_push [] y (suc k) x e = absurd (none_is_some e)
  get_push (a ∷ xs) y zero x e = inl e
  get_push (a ∷ xs) y (suc k) x e = further (get_push xs y k x e)
    where
      further : (slice_get xs k ≡ Some x) ⊎ ((k ≡ length xs) × (x ≡ y)) → (slice_get xs k ≡ Some x) ⊎ ((suc k ≡ suc (length xs)) × (x ≡ y))
      further (inl is) = inl is
      further (inr (same, is)) = inr (ap suc same, is)

-- the nodes over the stores so far: Map-Servers first
pub record SoFar (c : ConfigValue) (stores : List StoreState) (made : List ServerNodeState) (down : List RouterNodeState) : Type 0 where
  pub count : length stores ≡ length made + length down
  pub few : length made ≤ length c.servers
  pub first : (length down ≡ 0) ⊎ (length made ≡ length c.servers)
  pub are_servers : AreServers c stores made
  pub are_routers : AreRouters c stores down

-- none yet
pub none_so_far : (c : ConfigValue) → SoFar c [] [] []
none_so_far c = record {
  count = refl;
  few = omega arith;
  first = inl refl;
  are_servers = λ k n at. absurd (none_is_some at);
  are_routers = λ k n at. absurd (none_is_some at);
}

module _ (c : ConfigValue) (stores : List StoreState) (made : List ServerNodeState) (down : List RouterNodeState) (so_far : SoFar c stores made down) (s : StoreState) where
  abbrev stores_now : List StoreState
  stores_now = stores ++ s ∷ []

  -- one more Map-Server
  module _ (n : ServerNodeState) (low : length made < length c.servers) (is : n ≡ server_over c s) where
    no_router : (length down ≡ 0) ⊎ (length made ≡ length c.servers) → length down ≡ 0
    no_router (inl none) = none
    no_router (inr all) = absurd (omega (arith, low, all))

    servers_now : AreServers c stores_now (made ++ n ∷ [])
    servers_now k m at = here (get_push made n k m at)
      where
        here : (slice_get made k ≡ Some m) ⊎ ((k ≡ length made) × (m ≡ n)) → (x : StoreState) × (slice_get stores_now k ≡ Some x) × (m ≡ server_over c x)
        here (inl was) = (let old = so_far.are_servers k m was in (old.0, get_before stores (s ∷ []) k old.0 old.1, old.2))
        here (inr (same, new)) =
            let none : length down ≡ 0 = no_router so_far.first in
            let place : k ≡ length stores = omega (arith, same, none, so_far.count) in
            (s, ap (slice_get stores_now) place ∙ get_behind stores (s ∷ []) (length stores) 0 (omega arith), new ∙ is)

    server_more : SoFar c stores_now (made ++ n ∷ []) down
    server_more = record {
      count = (let a = length-append stores (s ∷ []) in let b = length-append made (n ∷ []) in omega (arith, a, b, so_far.count));
      few = (let b = length-append made (n ∷ []) in omega (arith, b, low));
      first = inl (no_router so_far.first);
      are_servers = servers_now;
      are_routers = λ k m at. (let old = so_far.are_routers k m at in (old.0, get_before stores (s ∷ []) (length c.servers + k) old.0 old.1, old.2));
    }

  -- one more router
  module _ (n : RouterNodeState) (high : length c.servers ≤ length made) (is : IsRouterOver c (length down) s n) where
    all_servers : length made ≡ length c.servers
    all_servers = omega (arith, high, so_far.few)

    routers_now : AreRouters c stores_now (down ++ n ∷ [])
    routers_now k m at = here (get_push down n k m at)
      where
        here : (slice_get down k ≡ Some m) ⊎ ((k ≡ length down) × (m ≡ n)) → (x : StoreState) × (slice_get stores_now (length c.servers + k) ≡ Some x) × IsRouterOver c k x m
        here (inl was) = (let old = so_far.are_routers k m was in (old.0, get_before stores (s ∷ []) (length c.servers + k) old.0 old.1, old.2))
        here (inr (same, new)) =
            let place : length c.servers + k ≡ length stores = omega (arith, same, all_servers, so_far.count) in
            (s, ap (slice_get stores_now) place ∙ get_behind stores (s ∷ []) (length stores) 0 (omega arith), (is.0, ap (slice_get c.routers) same ∙ is.1, new ∙ is.2))

    router_more : SoFar c stores_now made (down ++ n ∷ [])
    router_more = record {
      count = (let a = length-append stores (s ∷ []) in let b = length-append down (n ∷ []) in omega (arith, a, b, so_far.count));
      few = so_far.few;
      first = inr all_servers;
      are_servers = λ k m at. (let old = so_far.are_servers k m at in (old.0, get_before stores (s ∷ []) k old.0 old.1, old.2));
      are_routers = routers_now;
    }

-- one more, of either kind
pub one_more : (c : ConfigValue) (stores : List StoreState) (s : StoreState) (made servers : List ServerNodeState) (down routers : List RouterNodeState)
    → SoFar c stores made down → AddsNode c s made servers down routers → SoFar c (stores ++ s ∷ []) servers routers
one_more c stores s made servers down routers so_far (inl (low, same, (n, added, is))) =
    subst (λ (p : List ServerNodeState × List RouterNodeState). SoFar c (stores ++ s ∷ []) p.0 p.1) (λ i. (sym added i, sym same i)) (server_more c stores made down so_far s n low is)
one_more c stores s made servers down routers so_far (inr (high, same, (n, added, is))) =
    subst (λ (p : List ServerNodeState × List RouterNodeState). SoFar c (stores ++ s ∷ []) p.0 p.1) (λ i. (sym same i, sym added i)) (router_more c stores made down so_far s n high is)

-- all of them
pub all_made : (c : ConfigValue) (stores : List StoreState) (made : List ServerNodeState) (down : List RouterNodeState) → length stores ≡ length c.servers + length c.routers
    → SoFar c stores made down → AreNodes c stores made down
all_made c stores made down count so_far = record {
  server_count = servers so_far.first;
  router_count = (let all = servers so_far.first in omega (arith, all, count, so_far.count));
  are_servers = so_far.are_servers;
  are_routers = so_far.are_routers;
}
  where
    servers : (length down ≡ 0) ⊎ (length made ≡ length c.servers) → length made ≡ length c.servers
    servers (inl none) = omega (arith, none, count, so_far.count, so_far.few)
    servers (inr all) = all

-- the routers before a place have started, those from it on are as they were
pub record StartedTo (old new : List RouterNodeState) (i : ℕ) : Type 0 where
  pub count : length new ≡ length old
  pub each : (k : ℕ) (n : RouterNodeState) → slice_get new k ≡ Some n → ((k < i) × ((m : RouterNodeState) × (slice_get old k ≡ Some m) × HasStarted m n)) ⊎ ((i ≤ k) × (slice_get old k ≡ Some n))

-- none yet
pub started_to_none : (routers : List RouterNodeState) → StartedTo routers routers 0
started_to_none routers = record { count = refl; each = λ k n at. inr (omega arith, at) }

module _ (old new : List RouterNodeState) (i : ℕ) (to : StartedTo old new i) where
  abbrev Was : ℕ → RouterNodeState → Type 0
  Was k n = (m : RouterNodeState) × (slice_get old k ≡ Some m) × HasStarted m n

  -- the next one is as it was
  pub next_was : (x : RouterNodeState) → i < length new → x ≡ get_or new i x → slice_get old i ≡ Some x
  next_was x low is = first_was (to.each i x (slice_get-get_or new i x low ∙ ap Some (sym is)))
    where
      first_was : ((i < i) × Was i x) ⊎ ((i ≤ i) × (slice_get old i ≡ Some x)) → slice_get old i ≡ Some x
      first_was (inl (less, _)) = absurd (omega (arith, less))
      first_was (inr (_, at)) = at

  -- one more
  pub started_more : (x y : RouterNodeState) → i < length new → x ≡ get_or new i x → HasStarted x y → StartedTo old (slice_set new i y) (i + 1)
  started_more x y low is starts = record { count = same_length ∙ to.count; each = λ k n at. each_now k n (get_set new i k y n at) }
    where
      same_length : length (slice_set new i y) ≡ length new
      same_length = length-set new i y

      further : (k : ℕ) (n : RouterNodeState) → k ≢ i → ((k < i) × Was k n) ⊎ ((i ≤ k) × (slice_get old k ≡ Some n)) → ((k < i + 1) × Was k n) ⊎ ((i + 1 ≤ k) × (slice_get old k ≡ Some n))
      further k n other (inl (less, done)) = inl (omega (arith, less), done)
      further k n other (inr (more, at)) = inr (omega (arith, more, other), at)

      each_now : (k : ℕ) (n : RouterNodeState) → ((k ≡ i) × (y ≡ n)) ⊎ ((k ≢ i) × (slice_get new k ≡ Some n)) → ((k < i + 1) × Was k n) ⊎ ((i + 1 ≤ k) × (slice_get old k ≡ Some n))
      each_now k n (inl (same, that)) = inl (omega (arith, same), (x, ap (slice_get old) same ∙ next_was x low is, subst (λ m. HasStarted x m) that starts))
      each_now k n (inr (other, at)) = further k n other (to.each k n at)

  -- those before the next one did, whatever becomes of that one
  pub started_before : (y : RouterNodeState) → i < length new → HaveStartedBefore i old (slice_set new i y)
  started_before y low k less = (let was = untouched (get_set new i k y there.0 there.1) in (was.0, there.0, was.1, there.1, was.2))
    where
      there : (n : RouterNodeState) × (slice_get (slice_set new i y) k ≡ Some n)
      there = get_within (slice_set new i y) k (let same = length-set new i y in omega (arith, less, low, same))

      done : ((k < i) × Was k there.0) ⊎ ((i ≤ k) × (slice_get old k ≡ Some there.0)) → Was k there.0
      done (inl (_, was)) = was
      done (inr (more, _)) = absurd (omega (arith, less, more))

      untouched : ((k ≡ i) × (y ≡ there.0)) ⊎ ((k ≢ i) × (slice_get new k ≡ Some there.0)) → Was k there.0
      untouched (inl (same, _)) = absurd (omega (arith, less, same))
      untouched (inr (_, at)) = done (to.each k there.0 at)

  -- all
  pub all_started : length new ≤ i → HaveStarted old new
  all_started high = record { count = to.count; each = λ k n at. done k n at (to.each k n at) }
    where
      done : (k : ℕ) (n : RouterNodeState) → slice_get new k ≡ Some n → ((k < i) × Was k n) ⊎ ((i ≤ k) × (slice_get old k ≡ Some n)) → Was k n
      done k n at (inl (less, was)) = was
      done k n at (inr (more, _)) = (let low = slice_get_within new k n at in absurd (omega (arith, low, more, high)))

-- the same of lists that are equal to these
pub moved_nodes : (c : ConfigValue) (stores known : List StoreState) (made servers : List ServerNodeState) (down routers : List RouterNodeState)
    → stores ≡ known → made ≡ servers → down ≡ routers → SoFar c known servers routers → SoFar c stores made down
moved_nodes c stores known made servers down routers same_stores same_servers same_routers so_far =
    subst (λ (p : List StoreState × List ServerNodeState × List RouterNodeState). SoFar c p.0 p.1 p.2) {x = (known, servers, routers)} {y = (stores, made, down)} (λ i. (sym same_stores i, sym same_servers i, sym same_routers i)) so_far

-- ---- A network that was just made: its stores go on from those that were given, and it stands for its opening.

module _ {X : Type 0} where
  -- what stands in two lists, one behind the other, stands in the first one or in the second one
  pub get_joined : (xs ys : List X) (k : ℕ) (x : X) → slice_get (xs ++ ys) k ≡ Some x → (slice_get xs k ≡ Some x) ⊎ ((j : ℕ) × (k ≡ length xs + j) × (slice_get ys j ≡ Some x))
  get_joined [] ys k x at = inr (k, omega arith, at)
  get_joined (a ∷ xs) ys zero x at = inl at
  get_joined (a ∷ xs) ys (suc k) x at = further (get_joined xs ys k x at)
    where
      further : (slice_get xs k ≡ Some x) ⊎ ((j : ℕ) × (k ≡ length xs + j) × (slice_get ys j ≡ Some x)) → (slice_get xs k ≡ Some x) ⊎ ((j : ℕ) × (suc k ≡ suc (length xs) + j) × (slice_get ys j ≡ Some x))
      further (inl here) = inl here
      further (inr (j, place, there)) = inr (j, omega (arith, place), there)

  -- two lists are mapped to one list where each element of one is mapped to what the element there of the other is
  pub mapped_alike : {Z : Type 0} (f : X → Z) (xs ys : List X) → length xs ≡ length ys
      → ((k : ℕ) (x : X) → slice_get xs k ≡ Some x → (y : X) × (slice_get ys k ≡ Some y) × (f x ≡ f y)) → map f xs ≡ map f ys
  mapped_alike f [] [] count each = refl
  mapped_alike f [] (y ∷ ys) count each = absurd (omega (arith, count))
  mapped_alike f (x ∷ xs) [] count each = absurd (omega (arith, count))
  mapped_alike f (x ∷ xs) (y ∷ ys) count each =
      let first = each 0 x refl in
      let heads : f x ≡ f y = first.2 ∙ ap f (sym (same_some y first.0 first.1)) in
      let tails : map f xs ≡ map f ys = mapped_alike f xs ys (omega (arith, count)) (λ k z at. each (suc k) z at) in
      λ i. heads i ∷ tails i

-- a store after its router started, or that wasn't used
pub record GoesOn (old new : StoreState) : Type 0 where
  pub same : IsTrue old.is_honest → new.kept ≡ old.kept
  pub proceeds : Proceeds old new

-- a network whose nodes are those of a configuration over stores, and whose routers have started
pub record IsMade (c : ConfigValue) (stores : List StoreState) (w : WorldState) : Type 0 where
  pub sites_are : w.sites ≡ c.sites
  pub addresses_are : w.addresses ≡ addresses c
  pub moment : w.clock ≡ 0
  pub empty_bag : w.bag ≡ []
  pub down : List RouterNodeState
  pub nodes : AreNodes c stores w.servers down
  pub started_all : HaveStarted down w.routers

module _ (c : ConfigValue) (stores : List StoreState) (w : WorldState) (count : length stores ≡ length c.servers + length c.routers) (made : IsMade c stores w) where
  -- a router that has started: its entry, and its store before
  record RouterIs (k : ℕ) (n : RouterNodeState) : Type 0 where
    pub entry : RouterEntryValue
    pub before : StoreState
    pub there : slice_get c.routers k ≡ Some entry
    pub store_there : slice_get stores (length c.servers + k) ≡ Some before
    pub has_started : HasStarted (router_over c entry before) n

  router_is : (k : ℕ) (n : RouterNodeState) → slice_get w.routers k ≡ Some n → RouterIs k n
  router_is k n at =
      let was = made.started_all.each k n at in
      let over = made.nodes.are_routers k was.0 was.1 in
      record { entry = over.2.0; before = over.0; there = over.2.1; store_there = over.1; has_started = subst (λ (m : RouterNodeState). HasStarted m n) over.2.2 was.2 }

  -- the stores as they were, by the numbers of the nodes
  store_was : (k : ℕ) (s : StoreState) → slice_get (stores_of w) k ≡ Some s → (old : StoreState) × (slice_get stores k ≡ Some old) × GoesOn old s
  store_was k s at = here (get_joined (map (λ n. n.store) w.servers) (map (λ n. n.store) w.routers) k s at)
    where
      Was : Type 0
      Was = (old : StoreState) × (slice_get stores k ≡ Some old) × GoesOn old s

      of_server : (n : ServerNodeState) × (slice_get w.servers k ≡ Some n) × (n.store ≡ s) → Was
      of_server (n, there, is) =
          let over = made.nodes.are_servers k n there in
          let same : over.0 ≡ s = sym (ap (λ (m : ServerNodeState). m.store) over.2) ∙ is in
          (over.0, over.1, subst (λ (x : StoreState). GoesOn over.0 x) same (record { same = λ honest. refl; proceeds = unused over.0 }))

      of_router : (j : ℕ) → k ≡ length (map (λ (n : ServerNodeState). n.store) w.servers) + j → (n : RouterNodeState) × (slice_get w.routers j ≡ Some n) × (n.store ≡ s) → Was
      of_router j place (n, there, is) =
          let r = router_is j n there in
          let long = length-map w.servers (λ (n : ServerNodeState). n.store) in
          let number : k ≡ length c.servers + j = omega (arith, place, long, made.nodes.server_count) in
          (r.before, ap (slice_get stores) number ∙ r.store_there, subst (λ (x : StoreState). GoesOn r.before x) is (record { same = r.has_started.starts.same; proceeds = r.has_started.starts.proceeds }))

      here : (slice_get (map (λ (n : ServerNodeState). n.store) w.servers) k ≡ Some s) ⊎ ((j : ℕ) × (k ≡ length (map (λ (n : ServerNodeState). n.store) w.servers) + j) × (slice_get (map (λ (n : RouterNodeState). n.store) w.routers) j ≡ Some s)) → Was
      here (inl first) = of_server (get_mapped (λ n. n.store) w.servers k s first)
      here (inr (j, place, second)) = of_router j place (get_mapped (λ n. n.store) w.routers j s second)

  -- there are as many as before
  stores_count : length (stores_of w) ≡ length stores
  stores_count =
      let both = length-append (map (λ (n : ServerNodeState). n.store) w.servers) (map (λ (n : RouterNodeState). n.store) w.routers) in
      let one = length-map w.servers (λ (n : ServerNodeState). n.store) in
      let other = length-map w.routers (λ (n : RouterNodeState). n.store) in
      omega (arith, both, one, other, count, made.nodes.server_count, made.nodes.router_count, made.started_all.count)

  -- over honest stores their lists are what they were
  pub lists_same : AllHonest stores → lists_of (stores_of w) ≡ lists_of stores
  lists_same honest = mapped_alike (λ s. s.kept) (stores_of w) stores stores_count
      (λ k s at. (let was = store_was k s at in (was.0, was.1, was.2.same (honest k was.0 was.1))))

  -- over calm ones they are calm, and none has failed
  pub stays_calm : AllCalm stores → AllCalm (stores_of w) × (failures (stores_of w) ≡ failures stores)
  stays_calm calm = (
    λ k s at. (let was = store_was k s at in let is = calm k was.0 was.1 in record {
      obedient = subst (λ b. IsTrue b) (sym was.2.proceeds.obedient) is.obedient;
      quiet = (was.2.proceeds.quiet is.quiet).0;
    }),
    mapped_alike (λ s. s.faults) (stores_of w) stores stores_count
        (λ k s at. (let was = store_was k s at in (was.0, was.1, (was.2.proceeds.quiet (calm k was.0 was.1).quiet).1))),
  )

  -- over honest stores it stands for its opening
  module _ (network : IsNetwork c) (honest : AllHonest stores) where
    abbrev o : Opening
    o = opening c w

    -- each store shows what the opening says
    shows_at : (k : ℕ) (s : StoreState) → slice_get (stores_of w) k ≡ Some s → Shows s (shown_store o [] k)
    shows_at k s at =
        let was = store_was k s at in
        let there : slice_get o.stores k ≡ Some (shown_by s) = slice_get-map shown_by (stores_of w) k ∙ ap (option_map shown_by) at in
        let is : shown_store o [] k ≡ shown_by s = get_or_from_slice_get o.stores k (shown_by s) (record { kept = empty; faults = 0; is_obedient = false }) there in
        record {
          honest = subst (λ b. IsTrue b) (sym was.2.proceeds.honest) (honest k was.0 was.1);
          kept = ap (λ (x : ShownStore). x.kept) (sym is);
          faults = ap (λ (x : ShownStore). x.faults) (sym is);
          obedient = ap (λ (x : ShownStore). x.is_obedient) (sym is);
        }

    router_shows : (k : ℕ) (n : RouterNodeState) → slice_get w.routers k ≡ Some n → Shows n.store (shown_store o [] (length c.servers + k))
    router_shows k n at =
        let long = length-map w.servers (λ (m : ServerNodeState). m.store) ∙ made.nodes.server_count in
        shows_at (length c.servers + k) n.store
        (get_behind (map (λ (m : ServerNodeState). m.store) w.servers) (map (λ (m : RouterNodeState). m.store) w.routers) (length c.servers + k) k (ap (λ l. l + k) (sym long))
        ∙ slice_get-map (λ m. m.store) w.routers k ∙ ap (option_map (λ m. m.store)) at)

    -- a router that has started
    module _ (k : ℕ) (n : RouterNodeState) (at : slice_get w.routers k ≡ Some n) where
      abbrev node : ℕ
      node = length c.servers + k

      its : RouterIs k n
      its = router_is k n at

      -- its entry
      entry_is : router_at c node ≡ its.entry
      entry_is = (let place : node - length c.servers ≡ k = omega arith in
          get_or_from_slice_get c.routers (node - length c.servers) its.entry _ (ap (slice_get c.routers) place ∙ its.there))

      -- it stands as it has begun
      starts : CoreStarts (etr_config_of c its.entry) its.entry.database 0 its.before n.store n.core
      starts = its.has_started.starts.starts

      router_part : StandsForRouter o [] node n
      router_part = record {
        me = its.has_started.me ∙ ap (λ (r : RouterEntryValue). r.me) (sym entry_is);
        servers = its.has_started.servers ∙ ap (λ (r : RouterEntryValue). r.servers) (sym entry_is);
        used = first_keys o node its.entry.key_id n.used its.has_started.used (ap (λ (r : RouterEntryValue). r.key_id) (sym entry_is));
        core = begun_stands o [] [] node (etr_config_of c its.entry) its.entry.database 0 its.before n.store n.core
            (record { last = refl; values = ap (λ (kept : Kept). kept_at kept (pair_at o [] node)) (sym (router_shows k n at).kept); rounds = λ server part. refl; latest = λ server part. refl })
            (its.has_started.starts.same (honest node its.before its.store_there)) (honest node its.before its.store_there) refl (ap (etr_config_of c) (sym entry_is))
            (ap (λ (r : RouterEntryValue). r.database) (sym entry_is)) (λ server part. refl) refl starts;
      }

    pub made_stands : Stands w o []
    made_stands = record {
      steps = record {
        sites = made.sites_are;
        addresses = made.addresses_are;
        network = network;
        legal = tt;
        servers = made.nodes.server_count;
        routers = made.started_all.count ∙ made.nodes.router_count;
        server_stores = λ k n at. shows_at k n.store
            (get_before (map (λ (m : ServerNodeState). m.store) w.servers) (map (λ (m : RouterNodeState). m.store) w.routers) k n.store (slice_get-map (λ m. m.store) w.servers k ∙ ap (option_map (λ m. m.store)) at));
        router_stores = router_shows;
      };
      bag = record {
        moment = made.moment;
        bound = omega arith;
        count = ap length made.empty_bag;
        each = λ k d i at there. absurd (none_is_some (ap (λ (b : List DatagramValue). slice_get b k) (sym made.empty_bag) ∙ at));
      };
      servers = λ k n at. (let over = made.nodes.are_servers k n at in subst (λ (m : ServerNodeState). StandsForServer o [] k m) (sym over.2) (fresh_stands o [] k (server_over c over.0) c.sites refl refl refl refl refl refl));
      routers = router_part;
    }

-- ---- Why no network is made: by the part that failed, and over calm stores.

-- memory ran out
pub memory_fault : {X : Type 0} (r : Result X WorldFault) (P : WorldFault → Type 0) → IsErrAnd r (λ e. e ≡ faults.OutOfMemory) → P faults.OutOfMemory → IsErrAnd r P
memory_fault (Ok x) P is holds = absurd is
memory_fault (Err fault) P is holds = subst P (sym is) holds

-- a router didn't start: its number, and its store among those of the nodes
module _ (c : ConfigValue) (stores : List StoreState) (Refused StoreRefused : Type 0) (made : List ServerNodeState) (down : List RouterNodeState) (nodes : AreNodes c stores made down) (left : List RouterNodeState) {X : Type 0} (r : Result X WorldFault) (fault : WorldFault) (first : ℕ) (count : first ≡ length made) where
  pub start_fault : r ≡ Err fault → IsStartFault first down left Refused StoreRefused fault → IsErrAnd r (IsNewFault c stores Refused StoreRefused)
  start_fault is why = subst (λ (x : Result X WorldFault). IsErrAnd x (IsNewFault c stores Refused StoreRefused)) (sym (is ∙ ap Err why.is)) row
    where
      was : (s : StoreState) × (slice_get stores (length c.servers + why.place) ≡ Some s) × (why.node.store ≡ s)
      was = (let over = nodes.are_routers why.place why.node why.there in (over.0, over.1, ap (λ (n : RouterNodeState). n.store) over.2.2))

      earlier : HaveStartedBelow (first + why.place) c stores
      earlier place low =
          let all = nodes.server_count in
          let e = why.earlier place (omega (arith, low, count, all)) in
          let over = nodes.are_routers place e.0 e.2 in
          (over.0, over.1, e.0, e.1, over.2, e.4)

      row : IsNewFault c stores Refused StoreRefused (faults.Start (first + why.place) why.why)
      row = (
        (let made_count = nodes.server_count in omega (arith, count, made_count)),
        was.0,
        ap (λ n. slice_get stores (n + why.place)) (count ∙ nodes.server_count) ∙ was.1,
        why.after,
        subst (λ (s : StoreState). IsUnstarted s why.after why.why Refused StoreRefused) was.2 why.unstarted,
        earlier,
      )

-- over calm stores none fails by its device
module _ (c : ConfigValue) (stores : List StoreState) (Refused StoreRefused : Type 0) (calm : AllCalm stores) (below : AllBelowEnd stores) where
  unfailing : (node : ℕ) (why : StartFault) (f : StoreFault) → why ≡ start_faults.Store f → f ≢ store_faults.OutOfMemory → IsNewFault c stores Refused StoreRefused (faults.Start node why) → ⊥
  unfailing node why f is other (high, before, there, after, unstarted, earlier) = never (unstarted.cause f is other)
    where
      never : Rose before after → ⊥
      never (inl more) = (let same = (unstarted.proceeds.quiet (calm node before there).quiet).1 in absurd (omega (arith, more, same)))
      never (inr end) = (let same = (unstarted.proceeds.quiet (calm node before there).quiet).1 in let low = below node before there in absurd (omega (arith, end, same, low)))

  by_fault : (fault : WorldFault) → IsNewFault c stores Refused StoreRefused fault → IsCalmFault Refused StoreRefused fault
  by_fault faults.Repeated why = tt
  by_fault faults.OutOfMemory why = why
  by_fault (faults.Start node start_faults.OutOfMemory) (high, before, there, after, unstarted, earlier) = unstarted.memory refl
  by_fault (faults.Start node (start_faults.Store store_faults.OutOfMemory)) (high, before, there, after, unstarted, earlier) = unstarted.store_memory refl
  by_fault (faults.Start node (start_faults.Store store_faults.Device)) why = absurd (unfailing node (start_faults.Store store_faults.Device) store_faults.Device refl (λ clash. absurd cc) why)
  by_fault (faults.Start node (start_faults.Store store_faults.Damaged)) why = absurd (unfailing node (start_faults.Store store_faults.Damaged) store_faults.Damaged refl (λ clash. absurd cc) why)
  by_fault _ why = absurd why

-- what a network that isn't made comes to, where nothing repeats
module _ (c : ConfigValue) (stores : List StoreState) (Refused StoreRefused : Type 0) where
  pub record Fails (r : Result WorldState WorldFault) : Type 0 where
    pub stands : AllHonest stores → IfOk r (IsOpened c)
    pub headline : IfOk r (λ w. Promises w)
    pub lists : KeepsLists stores r
    pub fault : IfErr r (IsNewFault c stores Refused StoreRefused)
    pub repeated : (r ≡ Err faults.Repeated) ↔ (repeats c ≡ true)
    pub memory : IsErrOf r faults.OutOfMemory → Refused
    pub start_memory : FailsToStartOnlyIf r start_faults.OutOfMemory Refused
    pub store_memory : FailsToStartOnlyIf r (start_faults.Store store_faults.OutOfMemory) StoreRefused
    pub calm : StaysCalm stores r
    pub calm_faults : FailsCalm stores Refused StoreRefused r

  pub fails : (r : Result WorldState WorldFault) → IsErrAnd r (IsNewFault c stores Refused StoreRefused) → (repeats c ≡ true → r ≡ Err faults.Repeated) → Fails r
  fails (Ok w) why repeated = absurd why
  fails (Err fault) why repeated = record {
    stands = λ honest. tt;
    headline = tt;
    lists = λ honest. tt;
    fault = why;
    repeated = (λ is. why_is faults.Repeated is, repeated);
    memory = λ is. why_is faults.OutOfMemory is;
    start_memory = λ node is. (why_is (faults.Start node start_faults.OutOfMemory) is).4.memory refl;
    store_memory = λ node is. (why_is (faults.Start node (start_faults.Store store_faults.OutOfMemory)) is).4.store_memory refl;
    calm = λ calm. tt;
    calm_faults = λ calm below. by_fault c stores Refused StoreRefused calm below fault why;
  }
    where
      why_is : (other : WorldFault) → ◌≡◌ {A = Result WorldState WorldFault} (Err fault) (Err other) → IsNewFault c stores Refused StoreRefused other
      why_is other is = subst (IsNewFault c stores Refused StoreRefused) (let same : fault ≡ other = cc in same) why
