-- What goes on to stand for a node whose part of the trace a step leaves as it was.
use Rattle.std.proofs.Common.{◌≡◌, ℕ, refl, List, ◌++◌, Option, Some, None, sym, ap, subst, ◌∙◌, zero, suc, ◌+◌, Bool, true, false, true≢false, [], ◌∷◌, length, length-append, length-set, append-nil, inl, inr, arith, ◌-◌, ◌<◌}
use Rattle.std.specs.Prelude.{◌==◌, if◌then◌else◌, slice_get, ◌≤◌, ◌≢◌, ◌⊎◌, slice_index_or, IsTrue, ◌&&◌, slice_set}
use Rattle.std.specs.List.{find, AllPairs}
use Rattle.std.specs.Option.{option_map, option_and_then}
use Rattle.std.proofs.lemmas.Bool.{and_from, le-leb, lt-ltb}
use Rattle.std.proofs.lemmas.Option.{slice_get_within}
use Rattle.std.proofs.lemmas.List.{length-set as length-slice_set}
use Rattle.lisp_records.specs.declared.router.RouterId.{RouterId}
use Rattle.lisp_records.specs.Address.{PrefixValue}
use Rattle.lisp_records.specs.Router.{router_eq}
use Rattle.lisp_records.specs.Row.{RowValue}
use Rattle.lisp_nonces.specs.Kept.{kept_at, NoneBelow}
use Rattle.lisp_etr.specs.Config.{EtrConfigValue, sent_pair}
use Rattle.lisp_etr.specs.Etr.{EtrState}
use Rattle.lisp_etr.specs.Round.{KeepsRoundTime, round_after_send, round_after_count}
use Rattle.lisp_etr.specs.declared.round.Round.{Round}
use Rattle.lisp_lookup.specs.Table.{row_at, if_alive}
use Rattle.lisp_server.specs.Receiving.{contact_of}
use Rattle.lisp_admission.specs.Pairs.{notice_pair}
use Rattle.lisp_server.specs.LastNonces.{nonce_at}
use Rattle.lisp_server.specs.Contacts.{contact_at}
use Rattle.lisp_server.specs.Notices.{StandingNoticeValue, notice_at}
use Rattle.lisp_model.specs.Trace.{ShownStore, Step, Opening, router_at, etr_config_under, etr_config, clock, address_at, is_server, is_router, is_up, shown_store, key, database, EventValue, fate_of}
use Rattle.lisp_model.specs.Keys.{keys_since_loss, keys_before_loss}
use Rattle.lisp_model.specs.Held.{Acceptance, last_of, heard_last, held_row}
use Rattle.lisp_model.specs.Timers.{RoundTimes, Notice, notice_to, round, with_renewal}
use Rattle.lisp_model.specs.Bag.{Item, bag, since_start}
use Rattle.lisp_model.specs.Sending.{last_sent, pair_at, start_values}
use Rattle.lisp_model.specs.Context.{IsBase, Context}
use Rattle.lisp_model.specs.Promises.{SameServer, SameRouter, is_timeless, LeavesOthers}
use Rattle.lisp_model.proofs.Locality.{same_number, leaves_others, other_number}
use Rattle.lisp_records.specs.declared.address.Addr.{Addr}
use Rattle.lisp_records.specs.declared.address.Addr.TheVariants.{V4}
use Rattle.lisp_nonces.specs.Store.{StoreState}
use Rattle.lisp_nonces.specs.declared.fate.Fate.{Fate}
use Rattle.lisp_model.specs.Legal.{Legal, MayCome}
use Rattle.lisp_policy.specs.Configuration.{HasServers}
use Rattle.lisp_model.specs.declared.line.Line.{Line}
use Rattle.lisp_records.specs.Parts.{most_parts}
use Rattle.lisp_etr.specs.Rounds.{round_of, rounds_after_send, rounds_after_count}
use Rattle.lisp_etr.specs.declared.rounds.Rounds.{Rounds}
use Rattle.lisp_etr.proofs.TimerLaws.{rounds_keep_time}
use Rattle.lisp_model.specs.declared.line.Line.TheVariants as lines
use Rattle.lisp_model.specs.Counted.{latest_nonce, acked}
use Rattle.lisp_refinement.specs.World.{ServerNodeState, RouterCoreState, Up, Down, UsedKeysState, RouterNodeState, DatagramValue, WorldState}
use Rattle.lisp_refinement.specs.Stands.{StandsForRound, StandsForEtr, StandsForCore, Marks, StandsForKeys, StandsForRouter, SameNotice, StandsForServer, shown_by, Shows, Carries, Stands, StandsForRounds}
use Rattle.lisp_refinement.specs.Calls.{UsesStore}
use Rattle.lisp_refinement.specs.Events.{ServerActs, RouterActs, address_of}
use Rattle.lisp_refinement.proofs.Gets.{get_before, none_is_some, same_some, AtSet, get_set, Either, get_both}
use Rattle.lisp_refinement.proofs.Places.{rounds_stay, all_at, round_there, round_set, other_element}

-- what a step says of the node that it names
pub here : {X : Type 0} (node : ℕ) (new old : X) → (if node == node then new else old) ≡ new
here node new old = ap (λ t. if t then new else old) (same_number node)

-- the datagrams that were sent stay
abbrev pub Stay : Opening → List Step → List Step → Type 0
Stay o T U = (more : List Item) × (bag o U ≡ bag o T ++ more)

-- a notice stands as long as its datagram is in the bag
pub notice_goes : (o : Opening) (T U : List Step) (k : ℕ) → Stay o T U → (n : Option Notice) (kept : Option StandingNoticeValue) → SameNotice o T k n kept → SameNotice o U k n kept
notice_goes o T U k stay (Some n) (Some kept) same = search (same, ap (λ (items : List Item). slice_get items n.datagram) stay.1 ∙ get_before (bag o T) stay.0 n.datagram same.item same.sent)
notice_goes o T U k stay None None same = tt
notice_goes o T U k stay _ _ same = absurd same

-- a server's rows, and who of them was heard where, at a moment
pub record StandsForRows (n : ServerNodeState) (all : List Acceptance) (now : ℕ) : Type 0 where
  pub rows : (router : RouterId) (eid : PrefixValue) → option_and_then (if_alive now) (row_at n.core.rows router eid) ≡ held_row all router eid now
  pub contacts : (router : RouterId) (eid : PrefixValue) (h : RowValue) → held_row all router eid now ≡ Some h → contact_at n.core.contacts router ≡ option_map (λ a. contact_of a.message a.from) (heard_last router all)

-- a server whose rows stand
module _ (o : Opening) (T U : List Step) (k : ℕ) (n : ServerNodeState) (stand : StandsForServer o T k n) (same : SameServer o T U k) (stay : Stay o T U) where
  -- its rows as they stood
  pub server_rows : StandsForRows n (since_start o T k) (clock T)
  server_rows = record { rows = stand.rows; contacts = stand.contacts }

  -- or changed, and nothing else
  pub server_goes : (m : ServerNodeState) → m ≡ record n { core = record n.core { rows = m.core.rows } } → StandsForRows m (since_start o U k) (clock U) → StandsForServer o U k m
  server_goes m rest held_row = record {
    sites = ap (λ (x : ServerNodeState). x.core.sites) rest ∙ stand.sites ∙ sym same.sites;
    rows = held_row.rows;
    nonces = λ pair other. ap (λ (x : ServerNodeState). nonce_at x.core.nonces pair) rest ∙ stand.nonces pair other ∙ ap (λ (all : List Acceptance). last_of pair all) (sym same.since);
    notice_nonce = ap (λ (x : ServerNodeState). nonce_at x.core.nonces notice_pair) rest ∙ stand.notice_nonce ∙ sym same.last_notice;
    contacts = held_row.contacts;
    notices = λ router. subst (λ (p : Option Notice × Option StandingNoticeValue). SameNotice o U k p.0 p.1) (λ i. (sym (found router) i, sym (stood router) i))
        (notice_goes o T U k stay (notice_to o T k router) (notice_at n.core.notices router) (stand.notices router));
    started = ap (λ (x : ServerNodeState). x.started) rest ∙ stand.started ∙ sym same.began;
  }
    where
      found : (router : RouterId) → notice_to o U k router ≡ notice_to o T k router
      found router = ap (λ (all : List Notice). find (λ x. router_eq x.router router) all) same.notices

      stood : (router : RouterId) → notice_at m.core.notices router ≡ notice_at n.core.notices router
      stood router = ap (λ (x : ServerNodeState). notice_at x.core.notices router) rest

  -- in no time
  server_stays : clock U ≡ clock T → StandsForServer o U k n
  server_stays moment = server_goes n refl (subst (λ (p : List Acceptance × ℕ). StandsForRows n p.0 p.1) (λ i. (sym same.since i, sym moment i)) server_rows)

-- what a trace that goes on leaves of a router: how it is configured, and whether it is up; and what it sent, and what was counted
pub record SameLife (o : Opening) (T U : List Step) (k : ℕ) : Type 0 where
  pub up : is_up U k ≡ is_up T k
  pub under : key o U k ≡ key o T k
  pub since_loss : keys_since_loss o U k ≡ keys_since_loss o T k
  pub before_loss : keys_before_loss o U k ≡ keys_before_loss o T k
  pub given : database o U k ≡ database o T k

pub record SameRounds (o : Opening) (T U : List Step) (k : ℕ) : Type 0 where
  pub sent : last_sent U k ≡ last_sent T k
  pub values : start_values o U k ≡ start_values o T k
  pub times : (server part : ℕ) → round U k server part ≡ round T k server part
  pub latest : (server part : ℕ) → latest_nonce U k server part ≡ latest_nonce T k server part
  pub counted : (server part : ℕ) → acked U k server part ≡ acked T k server part

module _ (o : Opening) (T U : List Step) (k : ℕ) (life : SameLife o T U k) where
  -- its configuration stays, since its key does
  pub config_stays : etr_config o U k ≡ etr_config o T k
  config_stays = ap (etr_config_under o.config (router_at o.config k)) life.under

  -- and no other key was used
  pub keys_stay : (used : UsedKeysState) → StandsForKeys o T k used → StandsForKeys o U k used
  keys_stay used stand = record {
    since_loss = subst (Marks used.since_loss) (sym life.since_loss) stand.since_loss;
    before_loss = subst (Marks used.before_loss) (sym life.before_loss) stand.before_loss;
  }

  -- and all of it while it is up, where its rounds are others at most, if what its store keeps stays above what is safe
  pub etr_goes : (e : EtrState) (all : List Rounds) → StandsForEtr o T k e → last_sent U k ≡ last_sent T k → start_values o U k ≡ start_values o T k
      → NoneBelow e.safe (kept_at (shown_store o U k).kept (pair_at o T k)) → length all ≡ length e.rounds
      → ((i server : ℕ) (rs : Rounds) → slice_get (router_at o.config k).servers i ≡ Some server → slice_get all i ≡ Some rs → StandsForRounds U k server rs)
      → StandsForEtr o U k (record e { rounds = all })
  etr_goes e all stand sent values safe count each = record {
    up = life.up ∙ stand.up;
    config = stand.config ∙ sym config_stays;
    database = stand.database ∙ sym life.given;
    last = (stand.last.0, subst (λ (p : Option ℕ × List (Option ℕ)). IsBase p.0 p.1 stand.last.0) {x = (last_sent T k, start_values o T k)} {y = (last_sent U k, start_values o U k)} (λ i. (sym sent i, sym values i)) stand.last.1, stand.last.2);
    safe = subst (λ (c : EtrConfigValue). NoneBelow e.safe (kept_at (shown_store o U k).kept (sent_pair c))) (sym config_stays) safe;
    count = count ∙ stand.count;
    rounds = each;
  }

  module _ (rounds : SameRounds o T U k) where
    etr_stays : (e : EtrState) → StandsForEtr o T k e → NoneBelow e.safe (kept_at (shown_store o U k).kept (pair_at o T k)) → StandsForEtr o U k e
    etr_stays e stand safe = etr_goes e e.rounds stand rounds.sent rounds.values safe refl
        (λ i server rs lists has. rounds_stay T k server rs (stand.rounds i server rs lists has) U (rounds.counted server) (λ part r was. record {
          keeps = subst (λ (x : RoundTimes). KeepsRoundTime r x.begin x.moments) (sym (rounds.times server part)) was.keeps;
          latest = was.latest ∙ sym (rounds.latest server part);
        }))

    -- with its name, its list and its keys
    pub up_stays : (n : RouterNodeState) (used : UsedKeysState) (store : StoreState) (e left : EtrState) → used ≡ n.used → left ≡ e → StandsForRouter o T k n → StandsForEtr o T k e
        → NoneBelow e.safe (kept_at (shown_store o U k).kept (pair_at o T k)) → StandsForRouter o U k (record n { used = used; core = Up left; store = store })
    up_stays n used store e left same_used same stand own safe = record {
      me = stand.me;
      servers = stand.servers;
      used = subst (StandsForKeys o U k) (sym same_used) (keys_stay n.used stand.used);
      core = subst (StandsForEtr o U k) (sym same) (etr_stays e own safe);
    }

    module _ (shown : shown_store o U k ≡ shown_store o T k) where
      -- up or down, where its store shows what it showed
      core_stays : (core : RouterCoreState) → StandsForCore o T k core → StandsForCore o U k core
      core_stays (Up e) stand = etr_stays e stand (subst (λ (x : ShownStore). NoneBelow e.safe (kept_at x.kept (pair_at o T k))) (sym shown) stand.safe)
      core_stays (Down config db) stand = (life.up ∙ stand.0, stand.1 ∙ sym config_stays, stand.2 ∙ sym life.given)

      pub idle_stays : (n : RouterNodeState) → StandsForRouter o T k n → StandsForRouter o U k n
      idle_stays n stand = record { me = stand.me; servers = stand.servers; used = keys_stay n.used stand.used; core = core_stays n.core stand.core }

-- so does all that stands of a router whose part of the trace is as it was
pub router_stays : (o : Opening) (T U : List Step) (k : ℕ) → SameRouter o T U k → (n : RouterNodeState) → StandsForRouter o T k n → StandsForRouter o U k n
router_stays o T U k same = idle_stays o T U k
    (record { up = same.is_up; under = same.key; since_loss = same.keys_since_loss; before_loss = same.keys_before_loss; given = same.database })
    (record { sent = same.last_sent; values = same.start_values; times = same.round; latest = same.latest; counted = same.acked }) same.shown

-- A node acts, and the network stands for the trace with its step: what each kind of event shares.

-- the items that a step adds to the bag, and the datagrams that carry them
pub record Adds (o : Opening) (T : List Step) (s : Step) (more : List DatagramValue) : Type 0 where
  pub items : List Item
  pub added : bag o (s ∷ T) ≡ bag o T ++ items
  pub count : length more ≡ length items
  pub each : (k : ℕ) (d : DatagramValue) (i : Item) → slice_get more k ≡ Some d → slice_get items k ≡ Some i → Carries d i

-- a step whose line has no datagram adds none
pub adds_none : (o : Opening) (T : List Step) (s : Step) → bag o (s ∷ T) ≡ bag o T ++ [] → Adds o T s []
adds_none o T s is = record { items = []; added = is; count = refl; each = λ k d i one other. absurd (none_is_some one) }

-- a step that adds one item, which one datagram carries
pub adds_one : (o : Opening) (T : List Step) (s : Step) (d : DatagramValue) (i : Item) → bag o (s ∷ T) ≡ bag o T ++ i ∷ [] → Carries d i → Adds o T s (d ∷ [])
adds_one o T s d i is carries = record { items = i ∷ []; added = is; count = refl; each = each }
  where
    each : (k : ℕ) (e : DatagramValue) (j : Item) → slice_get (d ∷ []) k ≡ Some e → slice_get (i ∷ []) k ≡ Some j → Carries e j
    each zero e j one other = subst (λ (p : DatagramValue × Item). Carries p.0 p.1) (λ x. (same_some d e one x, same_some i j other x)) carries
    each (suc k) e j one other = absurd (none_is_some one)

-- what a store shows of an event's call: before it as the trace says, and after it what the step says
pub record Shown-in (fate : Fate) (armed called new : StoreState) (before : ShownStore) : Type 0 where
  pub armed_shows : Shows armed before
  pub fated : IsTrue before.is_obedient → armed.fate ≡ fate
  pub honest : IsTrue called.is_honest
  pub after : Shows new (shown_by called)
  pub obedient : called.is_obedient ≡ before.is_obedient
  pub count : before.faults ≤ called.faults

-- so it does in each use of a store
pub uses_shown : (old armed called new : StoreState) (fate : Fate) (before : ShownStore) → Shows old before → UsesStore old fate armed called new → Shown-in fate armed called new before
uses_shown old armed called new fate before shows uses = record {
  armed_shows = record { honest = honest; kept = uses.arms.kept ∙ shows.kept; faults = uses.arms.count ∙ shows.faults; obedient = obedient };
  fated = λ obeys. uses.arms.armed_with (subst (λ (b : Bool). IsTrue b) (sym shows.obedient) obeys);
  honest = called_honest;
  after = record { honest = subst (λ (b : Bool). IsTrue b) (sym uses.disarms.honest) called_honest; kept = uses.disarms.kept; faults = uses.disarms.count; obedient = uses.disarms.obedient };
  obedient = uses.proceeds.obedient ∙ obedient;
  count = omega (arith, uses.proceeds.count, uses.arms.count, shows.faults);
}
  where
    obedient : armed.is_obedient ≡ before.is_obedient
    obedient = uses.arms.obedient ∙ shows.obedient

    honest : IsTrue armed.is_honest
    honest = subst (λ (b : Bool). IsTrue b) (sym uses.arms.honest) shows.honest

    called_honest : IsTrue called.is_honest
    called_honest = subst (λ (b : Bool). IsTrue b) (sym uses.proceeds.honest) honest

-- what is said of the fate that an obedient store was armed with holds of the event's fate
pub by_fate : (P : Fate → Type 0) (fate : Fate) (armed : StoreState) (before : ShownStore) → Shows armed before → (IsTrue before.is_obedient → armed.fate ≡ fate) → (IsTrue armed.is_obedient → P armed.fate) → IsTrue before.is_obedient → P fate
by_fate P fate armed before shows fated said obeys = subst P (fated obeys) (said (subst (λ (b : Bool). IsTrue b) (sym shows.obedient) obeys))

module _ (w : WorldState) (o : Opening) (T : List Step) (stand : Stands w o T) where
  -- the numbers of nodes are those of the configuration, and so are their addresses
  pub server_is : (k : ℕ) (n : ServerNodeState) → slice_get w.servers k ≡ Some n → is_server o.config k ≡ true
  server_is k n there = lt-ltb k (length o.config.servers) (omega (arith, slice_get_within w.servers k n there, stand.steps.servers))

  -- a router is one by its number among all nodes
  pub router_is : (place : ℕ) (n : RouterNodeState) → slice_get w.routers place ≡ Some n → is_router o.config (length w.servers + place) ≡ true
  router_is place n there = and_from _ _ (le-leb (length o.config.servers) (length w.servers + place) (omega (arith, stand.steps.servers)))
      (lt-ltb (length w.servers + place) (length o.config.servers + length o.config.routers) (omega (arith, slice_get_within w.routers place n there, stand.steps.servers, stand.steps.routers)))

  -- that number is the one of the configuration
  pub router_number : (place : ℕ) → length w.servers + place ≡ length o.config.servers + place
  router_number place = ap (λ n. n + place) stand.steps.servers

  -- each node has the address that the configuration gives it
  pub address_is : (node : ℕ) → address_of w node ≡ address_at o.config node
  address_is node = ap (λ (all : List Addr). slice_index_or all node (V4 [])) stand.steps.addresses

  -- what the trace says of a router by its number among all nodes
  pub router_stands : (place : ℕ) (n : RouterNodeState) → slice_get w.routers place ≡ Some n → StandsForRouter o T (length w.servers + place) n
  router_stands place n there = subst (λ node. StandsForRouter o T node n) (sym (router_number place)) (stand.routers place n there)

  -- and of its store
  router_shows : (place : ℕ) (n : RouterNodeState) → slice_get w.routers place ≡ Some n → Shows n.store (shown_store o T (length w.servers + place))
  router_shows place n there = subst (λ node. Shows n.store (shown_store o T node)) (sym (router_number place)) (stand.steps.router_stores place n there)

-- a server of the network after a step: it acted and stands, or it is as it was
abbrev ServerGoes : WorldState → Opening → List Step → Step → ℕ → ServerNodeState → Type 0
ServerGoes old o T s k n = ((s.actor ≡ k) × Shows n.store s.shown × StandsForServer o (s ∷ T) k n) ⊎ ((k ≢ s.actor) × (slice_get old.servers k ≡ Some n))

-- and a router, by its number among all nodes
abbrev RouterGoes : WorldState → Opening → List Step → Step → ℕ → ℕ → RouterNodeState → Type 0
RouterGoes old o T s place k n = ((s.actor ≡ k) × Shows n.store s.shown × StandsForRouter o (s ∷ T) k n) ⊎ ((k ≢ s.actor) × (slice_get old.routers place ≡ Some n))

-- what a step in no time makes of the network
record Goes (old new : WorldState) (o : Opening) (T : List Step) (s : Step) (more : List DatagramValue) : Type 0 where
  pub sites : new.sites ≡ old.sites
  pub addresses : new.addresses ≡ old.addresses
  pub clock : new.clock ≡ old.clock
  pub bag : new.bag ≡ old.bag ++ more
  pub server_count : length new.servers ≡ length old.servers
  pub router_count : length new.routers ≡ length old.routers
  pub servers : (k : ℕ) (n : ServerNodeState) → slice_get new.servers k ≡ Some n → ServerGoes old o T s k n
  pub routers : (k : ℕ) (n : RouterNodeState) → slice_get new.routers k ≡ Some n → RouterGoes old o T s k (length o.config.servers + k) n

-- then the network stands for the trace with it
module _ (old new : WorldState) (o : Opening) (T : List Step) (s : Step) (more : List DatagramValue) (stand : Stands old o T) (timeless : is_timeless s.event ≡ true)
    (legal : Legal o T s) (adds : Adds o T s more) (goes : Goes old new o T s more) where
  -- the step leaves the others
  leaves : LeavesOthers o T s
  leaves = leaves_others o T s legal

  -- the store of the node that acted shows what the step says
  shows_here : (k : ℕ) → s.actor ≡ k → (store : StoreState) → Shows store s.shown → Shows store (shown_store o (s ∷ T) k)
  shows_here k acts store shows = subst (λ (x : ShownStore). Shows store x) (sym (ap (λ t. if t then s.shown else shown_store o T k) (ap (λ n. n == k) acts ∙ same_number k))) shows

  -- each server's store shows what the trace says
  server_shows : (k : ℕ) (n : ServerNodeState) → ServerGoes old o T s k n → Shows n.store (shown_store o (s ∷ T) k)
  server_shows k n (inl acted) = shows_here k acted.0 n.store acted.1
  server_shows k n (inr same) = subst (λ (x : ShownStore). Shows n.store x) (sym (leaves.server k (server_is old o T stand k n same.1) same.0).shown) (stand.steps.server_stores k n same.1)

  -- each router has a router's number
  router_kind : (k : ℕ) (n : RouterNodeState) → slice_get old.routers k ≡ Some n → is_router o.config (length o.config.servers + k) ≡ true
  router_kind k n there = ap (λ m. is_router o.config m) (sym (router_number old o T stand k)) ∙ router_is old o T stand k n there

  -- each router's store shows what the trace says
  router_shown : (k : ℕ) (n : RouterNodeState) → RouterGoes old o T s k (length o.config.servers + k) n → Shows n.store (shown_store o (s ∷ T) (length o.config.servers + k))
  router_shown k n (inl acted) = shows_here (length o.config.servers + k) acted.0 n.store acted.1
  router_shown k n (inr same) = subst (λ (x : ShownStore). Shows n.store x) (sym (leaves.router (length o.config.servers + k) (router_kind k n same.1) same.0).shown) (stand.steps.router_stores k n same.1)

  -- each server stands
  server_part : (k : ℕ) (n : ServerNodeState) → ServerGoes old o T s k n → StandsForServer o (s ∷ T) k n
  server_part k n (inl acted) = acted.2
  server_part k n (inr same) = server_stays o T (s ∷ T) k n (stand.servers k n same.1) (leaves.server k (server_is old o T stand k n same.1) same.0) leaves.sent (leaves.time timeless)

  -- each router stands
  router_part : (k : ℕ) (n : RouterNodeState) → RouterGoes old o T s k (length o.config.servers + k) n → StandsForRouter o (s ∷ T) (length o.config.servers + k) n
  router_part k n (inl acted) = acted.2
  router_part k n (inr same) = router_stays o T (s ∷ T) (length o.config.servers + k) (leaves.router (length o.config.servers + k) (router_kind k n same.1) same.0) n (stand.routers k n same.1)

  -- each datagram carries its item
  carries : (k : ℕ) (d : DatagramValue) (i : Item) → Either old.bag (bag o T) more adds.items k d i → Carries d i
  carries k d i (inl before) = stand.bag.each k d i before.0 before.1
  carries k d i (inr end) = adds.each end.place d i end.one end.other

  -- so all stands
  goes_on : Stands new o (s ∷ T)
  goes_on = record {
    steps = record {
      sites = goes.sites ∙ stand.steps.sites;
      addresses = goes.addresses ∙ stand.steps.addresses;
      network = stand.steps.network;
      legal = (legal, stand.steps.legal);
      servers = goes.server_count ∙ stand.steps.servers;
      routers = goes.router_count ∙ stand.steps.routers;
      server_stores = λ k n there. server_shows k n (goes.servers k n there);
      router_stores = λ k n there. router_shown k n (goes.routers k n there);
    };
    bag = record {
      moment = goes.clock ∙ stand.bag.moment ∙ sym (leaves.time timeless);
      bound = omega (arith, leaves.time timeless, stand.bag.bound);
      count = ap (λ (ds : List DatagramValue). length ds) goes.bag ∙ length-append old.bag more ∙ omega (arith, stand.bag.count, adds.count) ∙ sym (length-append (bag o T) adds.items) ∙ ap (λ (is : List Item). length is) (sym adds.added);
      each = λ k d i one other. carries k d i (get_both old.bag (bag o T) more adds.items stand.bag.count k d i
          (ap (λ (ds : List DatagramValue). slice_get ds k) (sym goes.bag) ∙ one) (ap (λ (is : List Item). slice_get is k) (sym adds.added) ∙ other));
    };
    servers = λ k n there. server_part k n (goes.servers k n there);
    routers = λ k n there. router_part k n (goes.routers k n there);
  }

-- a Map-Server's step: its own part stands after it, and all others go on to stand
pub server_acts : (old new : WorldState) (node : ℕ) (more : List DatagramValue) (acts : ServerActs old new node more) (o : Opening) (T : List Step) (s : Step)
    → Stands old o T → s.actor ≡ node → is_timeless s.event ≡ true → Legal o T s → Adds o T s more → Shows acts.after.store s.shown
    → StandsForServer o (s ∷ T) node acts.after → Stands new o (s ∷ T)
server_acts old new node more acts o T s stand actor timeless legal adds shows part = goes_on old new o T s more stand timeless legal adds (record {
  sites = ap (λ (w : WorldState). w.sites) acts.left;
  addresses = ap (λ (w : WorldState). w.addresses) acts.left;
  clock = ap (λ (w : WorldState). w.clock) acts.left;
  bag = ap (λ (w : WorldState). w.bag) acts.left;
  server_count = ap (λ (w : WorldState). length w.servers) acts.left ∙ length-set old.servers node acts.after;
  router_count = ap (λ (w : WorldState). length w.routers) acts.left;
  servers = λ k n there. server k n (get_set old.servers node k acts.after n (ap (λ (w : WorldState). slice_get w.servers k) (sym acts.left) ∙ there));
  routers = λ k n there. inr (differ k, ap (λ (w : WorldState). slice_get w.routers k) (sym acts.left) ∙ there);
})
  where
    server : (k : ℕ) (n : ServerNodeState) → AtSet old.servers node k acts.after n → ServerGoes old o T s k n
    server k n (inl (place, is)) = inl (actor ∙ sym place, subst (λ (m : ServerNodeState). Shows m.store s.shown) is shows, subst (λ (p : ℕ × ServerNodeState). StandsForServer o (s ∷ T) p.0 p.1) (λ i. (sym place i, is i)) part)
    server k n (inr (other, there)) = inr (λ same. other (same ∙ actor), there)

    differ : (k : ℕ) → length o.config.servers + k ≢ s.actor
    differ k same = absurd (omega (arith, same, actor, slice_get_within old.servers node acts.before acts.was, stand.steps.servers))

-- and a router's
pub router_acts : (old new : WorldState) (node : ℕ) (more : List DatagramValue) (acts : RouterActs old new node more) (o : Opening) (T : List Step) (s : Step)
    → Stands old o T → s.actor ≡ node → is_timeless s.event ≡ true → Legal o T s → Adds o T s more → Shows acts.after.store s.shown
    → StandsForRouter o (s ∷ T) node acts.after → Stands new o (s ∷ T)
router_acts old new node more acts o T s stand actor timeless legal adds shows part = goes_on old new o T s more stand timeless legal adds (record {
  sites = ap (λ (w : WorldState). w.sites) acts.left;
  addresses = ap (λ (w : WorldState). w.addresses) acts.left;
  clock = ap (λ (w : WorldState). w.clock) acts.left;
  bag = ap (λ (w : WorldState). w.bag) acts.left;
  server_count = ap (λ (w : WorldState). length w.servers) acts.left;
  router_count = ap (λ (w : WorldState). length w.routers) acts.left ∙ length-set old.routers acts.place acts.after;
  servers = λ k n there. server k n (ap (λ (w : WorldState). slice_get w.servers k) (sym acts.left) ∙ there);
  routers = λ k n there. router k n (get_set old.routers acts.place k acts.after n (ap (λ (w : WorldState). slice_get w.routers k) (sym acts.left) ∙ there));
})
  where
    number : node ≡ length o.config.servers + acts.place
    number = acts.number ∙ router_number old o T stand acts.place

    router : (k : ℕ) (n : RouterNodeState) → AtSet old.routers acts.place k acts.after n → RouterGoes old o T s k (length o.config.servers + k) n
    router k n (inl (place, is)) = let here : node ≡ length o.config.servers + k = number ∙ ap (λ m. length o.config.servers + m) (sym place) in
        inl (actor ∙ here, subst (λ (m : RouterNodeState). Shows m.store s.shown) is shows, subst (λ (p : ℕ × RouterNodeState). StandsForRouter o (s ∷ T) p.0 p.1) (λ i. (here i, is i)) part)
    router k n (inr (other, there)) = inr (λ same. other (omega (arith, same, actor, number)), there)

    server : (k : ℕ) (n : ServerNodeState) → slice_get old.servers k ≡ Some n → ServerGoes old o T s k n
    server k n there = inr (λ same. absurd (omega (arith, same, actor, acts.number, slice_get_within old.servers k n there)), there)

-- a turn that is nobody's and takes no time leaves all as it is
pub nobody_acts : (w : WorldState) (o : Opening) (T : List Step) (s : Step) → Stands w o T → is_timeless s.event ≡ true
    → is_server o.config s.actor ≡ false → is_router o.config s.actor ≡ false → Legal o T s → Adds o T s [] → Stands w o (s ∷ T)
nobody_acts w o T s stand timeless server router legal adds = goes_on w w o T s [] stand timeless legal adds (record {
  sites = refl;
  addresses = refl;
  clock = refl;
  bag = sym (append-nil w.bag);
  server_count = refl;
  router_count = refl;
  servers = λ k n there. inr (λ same. true≢false (sym (server_is w o T stand k n there) ∙ ap (λ m. is_server o.config m) same ∙ server), there);
  routers = λ k n there. inr (λ same. true≢false (sym (router_is w o T stand k n there) ∙ ap (λ m. is_router o.config m) (router_number w o T stand k ∙ same) ∙ router), there);
})

-- A router acts in a step: what stands of it before, and what the network then stands for.

-- an event, its line, the node that acted, and what its store shows
abbrev pub step_of : EventValue → ℕ → ShownStore → Line → Step
step_of event node s line = record { event = event; line = line; actor = node; shown = s }

-- and its turn
abbrev pub turn_at : Opening → List Step → ℕ → Fate → ShownStore → Context
turn_at o T node fate s = record { opening = o; past = T; node = node; fate = fate; before = shown_store o T node; after = s }

-- the store of the node that acts shows what the step says
pub shown_now : (o : Opening) (T : List Step) (event : EventValue) (node : ℕ) (s : ShownStore) (line : Line) → shown_store o (step_of event node s line ∷ T) node ≡ s
shown_now o T event node s line = ap (λ b. if b then s else shown_store o T node) (same_number node)

-- what a router's step needs: its row, and what stands of the router afterwards
pub record RouterStep (o : Opening) (T : List Step) (event : EventValue) (node : ℕ) (s : ShownStore) (Row : Line → Type 0) (line : Line) (more : List DatagramValue) (after : RouterNodeState) : Type 0 where
  pub row : Row line
  pub count : (shown_store o T node).faults ≤ s.faults
  pub obedient : s.is_obedient ≡ (shown_store o T node).is_obedient
  pub adds : Adds o T (step_of event node s line) more
  pub shows : Shows after.store s
  pub part : StandsForRouter o (step_of event node s line ∷ T) node after

-- a step for which the store wasn't used, or only armed
pub idle_step : (o : Opening) (T : List Step) (event : EventValue) (node : ℕ) (Row : Line → Type 0) (line : Line) (more : List DatagramValue) (after : RouterNodeState) → Row line → Adds o T (step_of event node (shown_store o T node) line) more
    → Shows after.store (shown_store o T node) → StandsForRouter o (step_of event node (shown_store o T node) line ∷ T) node after → RouterStep o T event node (shown_store o T node) Row line more after
idle_step o T event node Row line more after row adds shows part = record { row = row; count = omega arith; obedient = refl; adds = adds; shows = shows; part = part }

-- the same of another line, other datagrams and another node that are equal to these
pub moved : (o : Opening) (T : List Step) (event : EventValue) (node : ℕ) (s : ShownStore) (Row : Line → Type 0) (line said : Line) (more posts : List DatagramValue) (after left : RouterNodeState)
    → line ≡ said → more ≡ posts → after ≡ left → RouterStep o T event node s Row said posts left → RouterStep o T event node s Row line more after
moved o T event node s Row line said more posts after left same_line same_posts same_node step =
    subst (λ (p : Line × List DatagramValue × RouterNodeState). RouterStep o T event node s Row p.0 p.1 p.2) {x = (said, posts, left)} {y = (line, more, after)} (λ i. (sym same_line i, sym same_posts i, sym same_node i)) step

module _ (old new : WorldState) (node : ℕ) (more : List DatagramValue) (acts : RouterActs old new node more) (o : Opening) (T : List Step) (stand : Stands old o T) where
  -- the node is a router
  pub acts_router : is_router o.config node ≡ true
  acts_router = ap (is_router o.config) acts.number ∙ router_is old o T stand acts.place acts.before acts.was

  -- it stands for the trace before the step
  pub acts_part : StandsForRouter o T node acts.before
  acts_part = subst (λ (n : ℕ). StandsForRouter o T n acts.before) (sym acts.number) (router_stands old o T stand acts.place acts.before acts.was)

  -- and so does its store
  pub acts_shows : Shows acts.before.store (shown_store o T node)
  acts_shows = subst (λ (n : ℕ). Shows acts.before.store (shown_store o T n)) (sym acts.number) (router_shows old o T stand acts.place acts.before acts.was)

  -- its list names no server twice
  pub acts_once : AllPairs (λ a b. a ≢ b) (router_at o.config node).servers
  acts_once = is.once
    where
      low : node - length o.config.servers < length o.config.routers
      low = let within = slice_get_within old.routers acts.place acts.before acts.was in
          let servers = stand.steps.servers in
          let routers = stand.steps.routers in
          omega (arith, within, servers, routers, acts.number)

      is : HasServers o.config.servers (router_at o.config node)
      is = all_at (HasServers o.config.servers) o.config.routers stand.steps.network.servers (node - length o.config.servers) _ low

  -- a router that is down says so, and stays as it was
  pub down_step : (event : EventValue) (Row : Line → Type 0) (line : Line) → (acts.after ≡ acts.before) × (line ≡ lines.Down node) × (more ≡ []) → Row (lines.Down node)
      → bag o (step_of event node (shown_store o T node) (lines.Down node) ∷ T) ≡ bag o T ++ [] → SameLife o T (step_of event node (shown_store o T node) (lines.Down node) ∷ T) node
      → SameRounds o T (step_of event node (shown_store o T node) (lines.Down node) ∷ T) node → RouterStep o T event node (shown_store o T node) Row line more acts.after
  down_step event Row line is row adds life rounds = moved o T event node (shown_store o T node) Row line (lines.Down node) more [] acts.after acts.before is.1 is.2 is.0
      (idle_step o T event node Row (lines.Down node) [] acts.before row (adds_none o T _ adds) acts_shows
      (idle_stays o T _ node life rounds (shown_now o T event node (shown_store o T node) (lines.Down node)) acts.before acts_part))

  -- with such a step the network stands for the trace
  pub stands_by : (event : EventValue) (s : ShownStore) (line : Line) → is_timeless event ≡ true → RouterStep o T event node s (MayCome (turn_at o T node (fate_of event) s) event) line more acts.after → Stands new o (step_of event node s line ∷ T)
  stands_by event s line timeless step = router_acts old new node more acts o T (step_of event node s line) stand refl timeless (record { faults = λ other. step.count; obedient = step.obedient; row = step.row }) step.adds step.shows step.part

-- How a router's rounds go on in a step that sends to one of its Map-Servers, or counts from it.

-- three tests that all hold
all_same : (a b c : ℕ) → (a == a && b == b && c == c) ≡ true
all_same a b c = λ i. same_number a i && same_number b i && same_number c i

-- the second fails
second_other : (a b c d e : ℕ) → b ≢ c → (a == a && b == c && d == e) ≡ false
second_other a b c d e differ = λ i. same_number a i && other_number b c differ i && d == e

-- the third fails
third_other : (a b c d : ℕ) → c ≢ d → (a == a && b == b && c == d) ≡ false
third_other a b c d differ = λ i. same_number a i && same_number b i && other_number c d differ i

-- what a round keeps of its timer after a send that was counted
renews : (r : Round) (begin : ℕ) (moments : List ℕ) → KeepsRoundTime r begin moments → KeepsRoundTime (round_after_count r) (with_renewal (record { begin = begin; moments = moments }) moments).begin (with_renewal (record { begin = begin; moments = moments }) moments).moments
renews r begin [] keeps = rounds_keep_time.idle r begin keeps
renews r begin (last ∷ before) keeps = rounds_keep_time.renew r begin last before keeps

-- what counting leaves of the last nonce
counted_latest : (r : Round) → (round_after_count r).latest ≡ r.latest
counted_latest r = at (r.sends == 0)
  where
    at : (b : Bool) → (if b then r else record r { due = r.renewal; sends = 0 }).latest ≡ r.latest
    at true = refl
    at false = refl

module _ (T : List Step) (event : EventValue) (node : ℕ) (s : ShownStore) (server part key nonce : ℕ) where
  -- a Map-Register of the part went out to the server
  module _ (datagram : ℕ) where
    abbrev pub sent_steps : List Step
    sent_steps = step_of event node s (lines.Sent node server part key nonce datagram) ∷ T

    -- what the moments of a round are, by whether it is that of the part with the server
    abbrev sent_times : ℕ → ℕ → Bool → RoundTimes
    sent_times k q b = if b then record (round T node k q) { moments = clock T ∷ (round T node k q).moments } else round T node k q

    -- its round goes on
    sent_part : (r : Round) → StandsForRound T node server part r → StandsForRound sent_steps node server part (round_after_send nonce (clock T) r)
    sent_part r old = record {
      keeps = subst (λ b. KeepsRoundTime (round_after_send nonce (clock T) r) (sent_times server part b).begin (sent_times server part b).moments)
          (sym (all_same node server part)) (rounds_keep_time.send r (round T node server part).begin (round T node server part).moments nonce (clock T) old.keeps);
      latest = ap (λ b. if b then nonce else latest_nonce T node server part) (sym (all_same node server part));
    }

    -- and any other stays
    sent_other : (k q : ℕ) (r : Round) → (node == node && server == k && part == q) ≡ false → StandsForRound T node k q r → StandsForRound sent_steps node k q r
    sent_other k q r other old = record {
      keeps = subst (λ b. KeepsRoundTime r (sent_times k q b).begin (sent_times k q b).moments) (sym other) old.keeps;
      latest = old.latest ∙ ap (λ b. if b then nonce else latest_nonce T node k q) (sym other);
    }

    -- so the rounds of all parts with the server stand
    pub sent_here : (now : ℕ) (rs : Rounds) → now ≡ clock T → part < most_parts → StandsForRounds T node server rs → StandsForRounds sent_steps node server (rounds_after_send part nonce now rs)
    sent_here now rs moment low old = subst (λ (m : ℕ). StandsForRounds sent_steps node server (rounds_after_send part nonce m rs)) (sym moment) (record {
      parts = length-slice_set rs.parts part (round_after_send nonce (clock T) (round_of rs part)) ∙ old.parts;
      acked_parts = old.acked_parts;
      round = round_set T node server rs old sent_steps part (round_after_send nonce (clock T) (round_of rs part))
          (sent_part (round_of rs part) (old.round part (round_of rs part) (round_there T node server rs old part low)))
          (λ other r differ. sent_other server other r (third_other node server part other differ));
      acked = old.acked;
    })

    -- and those with another one
    pub sent_there : (other : ℕ) (rs : Rounds) → server ≢ other → StandsForRounds T node other rs → StandsForRounds sent_steps node other rs
    sent_there other rs differ old = rounds_stay T node other rs old sent_steps (λ q. refl) (λ q r. sent_other other q r (second_other node server other part q differ))

  -- the last Map-Register of the part to the server was counted
  abbrev pub counted_steps : List Step
  counted_steps = step_of event node s (lines.Counted node server part key nonce) ∷ T

  -- what the moments of a round are, by whether it is that of the part with the server
  abbrev counted_times : ℕ → ℕ → Bool → RoundTimes
  counted_times k q b = if b then with_renewal (round T node k q) (round T node k q).moments else round T node k q

  -- its round goes on
  counted_part : (r : Round) → StandsForRound T node server part r → StandsForRound counted_steps node server part (round_after_count r)
  counted_part r old = record {
    keeps = subst (λ b. KeepsRoundTime (round_after_count r) (counted_times server part b).begin (counted_times server part b).moments)
        (sym (all_same node server part)) (renews r (round T node server part).begin (round T node server part).moments old.keeps);
    latest = counted_latest r ∙ old.latest;
  }

  -- and any other stays
  counted_other : (k q : ℕ) (r : Round) → (node == node && server == k && part == q) ≡ false → StandsForRound T node k q r → StandsForRound counted_steps node k q r
  counted_other k q r other old = record {
    keeps = subst (λ b. KeepsRoundTime r (counted_times k q b).begin (counted_times k q b).moments) (sym other) old.keeps;
    latest = old.latest;
  }

  acked_other : (k q : ℕ) → (node == node && server == k && part == q) ≡ false → acked counted_steps node k q ≡ acked T node k q
  acked_other k q other = ap (λ b. if b then Some (key, nonce) else acked T node k q) other

  -- so the rounds of all parts with the server stand
  pub counted_here : (rs : Rounds) → nonce ≡ (round_of rs part).latest → slice_get rs.parts part ≡ Some (round_of rs part) → StandsForRounds T node server rs → StandsForRounds counted_steps node server (rounds_after_count key part rs)
  counted_here rs is there old = record {
    parts = length-slice_set rs.parts part (round_after_count (round_of rs part)) ∙ old.parts;
    acked_parts = length-slice_set rs.acked part (Some (key, (round_of rs part).latest)) ∙ old.acked_parts;
    round = round_set T node server rs old counted_steps part (round_after_count (round_of rs part)) (counted_part (round_of rs part) (old.round part (round_of rs part) there))
        (λ other r differ. counted_other server other r (third_other node server part other differ));
    acked = λ other pair set. at other pair (get_set rs.acked part other (Some (key, (round_of rs part).latest)) pair set);
  }
    where
      at : (other : ℕ) (pair : Option (ℕ × ℕ)) → ((other ≡ part) × (Some (key, (round_of rs part).latest) ≡ pair)) ⊎ ((other ≢ part) × (slice_get rs.acked other ≡ Some pair)) → pair ≡ acked counted_steps node server other
      at other pair (inl set) = sym set.1 ∙ ap (λ (n : ℕ). Some (key, n)) (sym is) ∙ sym
          (ap (λ b. if b then Some (key, nonce) else acked T node server part) (all_same node server part))
          ∙ ap (acked counted_steps node server) (sym set.0)
      at other pair (inr same) = old.acked other pair same.1 ∙ sym (acked_other server other (third_other node server part other (λ part_is. same.0 (sym part_is))))

  -- and those with another one
  pub counted_there : (other : ℕ) (rs : Rounds) → server ≢ other → StandsForRounds T node other rs → StandsForRounds counted_steps node other rs
  counted_there other rs differ old = rounds_stay T node other rs old counted_steps (λ q. acked_other other q (second_other node server other part q differ)) (λ q r. counted_other other q r (second_other node server other part q differ))

-- the rounds with all servers, where those at one place were set
module _ (T U : List Step) (node : ℕ) (servers : List ℕ) (rounds : List Rounds) (place server : ℕ) (x : Rounds) (once : AllPairs (λ a b. a ≢ b) servers) (there : slice_get servers place ≡ Some server)
    (here : StandsForRounds U node server x) (others : (other : ℕ) (rs : Rounds) → server ≢ other → StandsForRounds T node other rs → StandsForRounds U node other rs)
    (old : (i k : ℕ) (rs : Rounds) → slice_get servers i ≡ Some k → slice_get rounds i ≡ Some rs → StandsForRounds T node k rs) where
  pub rounds_set : (i k : ℕ) (rs : Rounds) → slice_get servers i ≡ Some k → slice_get (slice_set rounds place x) i ≡ Some rs → StandsForRounds U node k rs
  rounds_set i k rs listed is = at (get_set rounds place i x rs is)
    where
      at : ((i ≡ place) × (x ≡ rs)) ⊎ ((i ≢ place) × (slice_get rounds i ≡ Some rs)) → StandsForRounds U node k rs
      at (inl set) = subst (λ (y : Rounds). StandsForRounds U node k y) set.1 (subst (λ (n : ℕ). StandsForRounds U node n x) (
          (let both : ◌≡◌ {A = Option ℕ} (Some server) (Some k) = sym there ∙ ap (slice_get servers) (sym set.0) ∙ listed in cc)) here)
      at (inr same) = others k rs (other_element servers once place i server k there listed same.0) (old i k rs listed same.1)
