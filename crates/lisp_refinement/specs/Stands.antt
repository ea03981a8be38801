-- What a network stands for a trace means.
use Rattle.std.specs.Prelude.{◌≡◌, ◌≢◌, ◌↔◌, ℕ, ◌+◌, ◌<◌, ◌≤◌, IsTrue, Bool, true, false, List, ◌∷◌, length, slice_get, Option, Some, None}
use Rattle.std.specs.List.{Contains}
use Rattle.std.specs.Option.{option_map, option_and_then}
use Rattle.lisp_records.specs.declared.router.RouterId.{RouterId}
use Rattle.lisp_records.specs.Address.{PrefixValue}
use Rattle.lisp_records.specs.Moment.{max_moment}
use Rattle.lisp_records.specs.Parts.{most_parts}
use Rattle.lisp_records.specs.Row.{RowValue}
use Rattle.lisp_nonces.specs.declared.pair.Pair.{Pair}
use Rattle.lisp_nonces.specs.Kept.{kept_at, number, NoneBelow}
use Rattle.lisp_nonces.specs.Store.{StoreState}
use Rattle.lisp_messages.specs.Message.{IsMessage}
use Rattle.lisp_lookup.specs.Table.{row_at, if_alive}
use Rattle.lisp_etr.specs.Etr.{EtrState}
use Rattle.lisp_etr.specs.Round.{KeepsRoundTime}
use Rattle.lisp_etr.specs.declared.round.Round.{Round}
use Rattle.lisp_etr.specs.declared.rounds.Rounds.{Rounds}
use Rattle.lisp_server.specs.LastNonces.{nonce_at}
use Rattle.lisp_server.specs.Contacts.{contact_at}
use Rattle.lisp_server.specs.Receiving.{contact_of}
use Rattle.lisp_admission.specs.Pairs.{notice_pair}
use Rattle.lisp_server.specs.Notices.{StandingNoticeValue, notice_at}
use Rattle.lisp_model.specs.Trace.{ShownStore, EventValue, Step, Opening, addresses, router_at, etr_config, sites, address_at, shown_store, clock, is_up, database}
use Rattle.lisp_model.specs.Keys.{keys_since_loss, keys_before_loss}
use Rattle.lisp_model.specs.declared.line.Line.{Line}
use Rattle.lisp_model.specs.Held.{last_of, heard_last, held_row}
use Rattle.lisp_model.specs.Timers.{round, Notice, notice_to, last_notice}
use Rattle.lisp_model.specs.Bag.{Item, bytes_of, bag, since_start}
use Rattle.lisp_model.specs.Life.{began}
use Rattle.lisp_model.specs.Counted.{latest_nonce, acked}
use Rattle.lisp_model.specs.Sending.{pair_at, CountsFrom}
use Rattle.lisp_model.specs.Legal.{LegalTrace}
use Rattle.lisp_model.specs.Network.{IsNetwork}
use Rattle.lisp_refinement.specs.World.{DatagramValue, ServerNodeState, RouterCoreState, Up, Down, UsedKeysState, key_count, is_used, RouterNodeState, WorldState}

-- what a store shows of itself
abbrev pub shown_by : StoreState → ShownStore
shown_by store = record { kept = store.kept; faults = store.faults; is_obedient = store.is_obedient }

-- an honest store shows what the trace says
pub record Shows (store : StoreState) (s : ShownStore) : Type 0 where
  pub honest : IsTrue store.is_honest
  pub kept : store.kept ≡ s.kept
  pub faults : store.faults ≡ s.faults
  pub obedient : store.is_obedient ≡ s.is_obedient

-- what is kept of the configuration, steps and stores
pub record StandsInSteps (w : WorldState) (o : Opening) (T : List Step) : Type 0 where
  pub sites : w.sites ≡ o.config.sites
  pub addresses : w.addresses ≡ addresses o.config
  pub network : IsNetwork o.config
  pub legal : LegalTrace o T
  pub servers : length w.servers ≡ length o.config.servers
  pub routers : length w.routers ≡ length o.config.routers
  pub server_stores : (k : ℕ) (n : ServerNodeState) → slice_get w.servers k ≡ Some n → Shows n.store (shown_store o T k)
  pub router_stores : (k : ℕ) (n : RouterNodeState) → slice_get w.routers k ≡ Some n
      → Shows n.store (shown_store o T (length o.config.servers + k))

-- a datagram carries an item
pub record Carries (d : DatagramValue) (i : Item) : Type 0 where
  pub from : d.from ≡ i.from
  pub to : d.to ≡ i.to
  pub bytes : d.bytes ≡ bytes_of i
  pub message : IsMessage i.message

-- clock and bag
pub record StandsInBag (w : WorldState) (o : Opening) (T : List Step) : Type 0 where
  pub moment : w.clock ≡ clock T
  pub bound : clock T ≤ max_moment
  pub count : length w.bag ≡ length (bag o T)
  pub each : (k : ℕ) (d : DatagramValue) (i : Item) → slice_get w.bag k ≡ Some d → slice_get (bag o T) k ≡ Some i
      → Carries d i

-- a router's round of a part with a server
pub record StandsForRound (T : List Step) (router server part : ℕ) (r : Round) : Type 0 where
  pub keeps : KeepsRoundTime r (round T router server part).begin (round T router server part).moments
  pub latest : r.latest ≡ latest_nonce T router server part

-- and all of them, with what was counted of each
pub record StandsForRounds (T : List Step) (router server : ℕ) (rs : Rounds) : Type 0 where
  pub parts : length rs.parts ≡ most_parts
  pub acked_parts : length rs.acked ≡ most_parts
  pub round : (part : ℕ) (r : Round) → slice_get rs.parts part ≡ Some r → StandsForRound T router server part r
  pub acked : (part : ℕ) (pair : Option (ℕ × ℕ)) → slice_get rs.acked part ≡ Some pair
      → pair ≡ acked T router server part

-- the numbers that a router counts from; of its rounds each are those of a server
pub record StandsForEtr (o : Opening) (T : List Step) (router : ℕ) (e : EtrState) : Type 0 where
  pub up : is_up T router ≡ true
  pub config : e.config ≡ etr_config o T router
  pub database : e.database ≡ database o T router
  pub last : (base : Option ℕ) × CountsFrom o T router base × (e.last ≡ number base)
  pub safe : NoneBelow e.safe (kept_at (shown_store o T router).kept (pair_at o T router))
  pub count : length e.rounds ≡ length (router_at o.config router).servers
  pub rounds : (i server : ℕ) (rs : Rounds) → slice_get (router_at o.config router).servers i ≡ Some server
      → slice_get e.rounds i ≡ Some rs → StandsForRounds T router server rs

abbrev pub StandsForCore : Opening → List Step → ℕ → RouterCoreState → Type 0
StandsForCore o T router (Up e) = StandsForEtr o T router e
StandsForCore o T router (Down config db) =
    (is_up T router ≡ false) × (config ≡ etr_config o T router) × (db ≡ database o T router)

-- the flags of these keys are set, and no other
abbrev pub Marks : List Bool → List ℕ → Type 0
Marks used keys = (key : ℕ) → key < key_count → (is_used used key ≡ true) ↔ Contains keys key

pub record StandsForKeys (o : Opening) (T : List Step) (router : ℕ) (used : UsedKeysState) : Type 0 where
  pub since_loss : Marks used.since_loss (keys_since_loss o T router)
  pub before_loss : Marks used.before_loss (keys_before_loss o T router)

-- a router
pub record StandsForRouter (o : Opening) (T : List Step) (router : ℕ) (n : RouterNodeState) : Type 0 where
  pub me : n.me ≡ (router_at o.config router).me
  pub servers : n.servers ≡ (router_at o.config router).servers
  pub used : StandsForKeys o T router n.used
  pub core : StandsForCore o T router n.core

-- a notice as a server keeps it
pub record IsStanding (o : Opening) (T : List Step) (server : ℕ) (n : Notice) (kept : StandingNoticeValue)
    : Type 0 where
  pub router : kept.router ≡ n.router
  pub key : kept.key ≡ n.key
  pub nonce : kept.nonce ≡ n.nonce
  pub item : Item
  pub sent : slice_get (bag o T) n.datagram ≡ Some item
  pub from : item.from ≡ address_at o.config server
  pub to : kept.to ≡ item.to
  pub bytes : kept.bytes ≡ bytes_of item
  pub earlier : List ℕ
  pub moments : n.moments ≡ kept.last ∷ earlier
  pub resends : kept.resends ≡ length earlier

-- a notice stands where the server keeps one
abbrev pub SameNotice : Opening → List Step → ℕ → Option Notice → Option StandingNoticeValue → Type 0
SameNotice o T server (Some n) (Some kept) = IsStanding o T server n kept
SameNotice o T server None None = Unit {0}
SameNotice o T server _ _ = ⊥

-- a server
pub record StandsForServer (o : Opening) (T : List Step) (server : ℕ) (n : ServerNodeState) : Type 0 where
  pub sites : n.core.sites ≡ sites o T server
  pub rows : (router : RouterId) (eid : PrefixValue)
      → option_and_then (if_alive (clock T)) (row_at n.core.rows router eid)
      ≡ held_row (since_start o T server) router eid (clock T)
  pub nonces : (pair : Pair) → pair ≢ notice_pair → nonce_at n.core.nonces pair ≡ last_of pair (since_start o T server)
  pub notice_nonce : nonce_at n.core.nonces notice_pair ≡ last_notice T server
  pub contacts : (router : RouterId) (eid : PrefixValue) (h : RowValue)
      → held_row (since_start o T server) router eid (clock T) ≡ Some h → contact_at n.core.contacts router
      ≡ option_map (λ a. contact_of a.message a.from) (heard_last router (since_start o T server))
  pub notices : (router : RouterId)
      → SameNotice o T server (notice_to o T server router) (notice_at n.core.notices router)
  pub started : n.started ≡ began T server

-- the network stands for the trace: its steps and stores, clock and bag, each server and each router
pub record Stands (w : WorldState) (o : Opening) (T : List Step) : Type 0 where
  pub steps : StandsInSteps w o T
  pub bag : StandsInBag w o T
  pub servers : (k : ℕ) (n : ServerNodeState) → slice_get w.servers k ≡ Some n → StandsForServer o T k n
  pub routers : (k : ℕ) (n : RouterNodeState) → slice_get w.routers k ≡ Some n
      → StandsForRouter o T (length o.config.servers + k) n

-- the network stands for the trace followed by one step more: the event, its line, and what the store of a node shows
abbrev pub StandsAfter : WorldState → WorldState → EventValue → Line → Type 0
StandsAfter old new event line = (o : Opening) (T : List Step) → Stands old o T
    → (actor : ℕ) × (s : ShownStore)
    × Stands new o (record { event = event; line = line; actor = actor; shown = s } ∷ T)
