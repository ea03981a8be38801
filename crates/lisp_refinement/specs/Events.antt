-- What an event makes of the network, by the call of the node that acts.
use Rattle.std.specs.Prelude.{◌≡◌, ◌⊎◌, ℕ, ◌+◌, ◌<◌, ◌≤◌, ◌==◌, Bool, true, false, List, [], ◌∷◌, ◌++◌, length, position, slice_get, slice_set, slice_index_or, Option, Some, None, Result, Ok, Err, if◌then◌else◌}
use Rattle.std.specs.Option.{option_map, option_to_list, unwrap_or}
use Rattle.lisp_records.specs.Database.{database_of as checked_database}
use Rattle.lisp_records.specs.declared.address.Addr.{Addr}
use Rattle.lisp_records.specs.declared.router.RouterId.{RouterId}
use Rattle.lisp_records.specs.declared.address.Addr.TheVariants.{V4}
use Rattle.lisp_records.specs.Address.{addr_eq}
use Rattle.lisp_records.specs.Moment.{max_moment}
use Rattle.lisp_records.specs.Record.{MapRecordValue}
use Rattle.lisp_messages.specs.declared.head.Head.{Head}
use Rattle.lisp_messages.specs.Head.{head_at}
use Rattle.lisp_policy.specs.Site.{SiteValue}
use Rattle.lisp_policy.specs.Extends.{extends}
use Rattle.lisp_nonces.specs.declared.fate.Fate.{Fate}
use Rattle.lisp_nonces.specs.Store.{StoreState}
use Rattle.lisp_etr.specs.Etr.{EtrState, etr_changed}
use Rattle.lisp_etr.specs.declared.notify_fault.NotifyFault.{NotifyFault}
use Rattle.lisp_etr.specs.declared.seen.Seen.{Seen}
use Rattle.lisp_etr.specs.declared.seen.Seen.TheVariants.{Counted, Notice}
use Rattle.lisp_etr.specs.declared.send_fault.SendFault.{SendFault}
use Rattle.lisp_etr.specs.declared.rotate_fault.RotateFault.{RotateFault}
use Rattle.lisp_etr.specs.declared.start_fault.StartFault.{StartFault}
use Rattle.lisp_admission.specs.Checks.{secret_at as known_secret}
use Rattle.lisp_admission.specs.declared.refused.Refused.{Refused}
use Rattle.lisp_admission.specs.declared.notice_fault.NoticeFault.{NoticeFault}
use Rattle.lisp_lookup.specs.Table.{Expires}
use Rattle.lisp_server.specs.declared.took.Took.{Took}
use Rattle.lisp_server.specs.declared.took.Took.TheVariants.{Accepted, NoticeDone}
use Rattle.lisp_server.specs.Notices.{Resends, RefusesResend}
use Rattle.lisp_server.specs.Server.{reloaded}
use Rattle.lisp_model.specs.declared.line.Line.{Line}
use Rattle.lisp_model.specs.declared.line.Line.TheVariants as lines
use Rattle.lisp_model.specs.declared.refusal.Refusal.TheVariants as refusals
use Rattle.lisp_refinement.specs.World.{DatagramValue, ServerNodeState, RouterNodeState, RouterCoreState, Up, Down, UsedKeysState, key_count, is_used, UsesKey, WorldState}
use Rattle.lisp_refinement.specs.Nodes.{fresh_server}
use Rattle.lisp_refinement.specs.Calls.{UsesStore, CoreAnswersSendOver, CoreAnswersRotateOver, CoreHears, NodeReceives, NodeNotifies, StoreRestarts, NodeRestarts, NodeLoses}

-- the address of a node, and the first node with an address
abbrev pub address_of : WorldState → ℕ → Addr
address_of w node = slice_index_or w.addresses node (V4 [])

abbrev pub node_with : WorldState → Addr → Option ℕ
node_with w address = position (λ a. addr_eq a address) w.addresses

-- a Map-Server acted: its node changed, and these datagrams went to the end of the bag; nothing else changed
pub record ServerActs (old new : WorldState) (node : ℕ) (more : List DatagramValue) : Type 0 where
  pub before : ServerNodeState
  pub after : ServerNodeState
  pub was : slice_get old.servers node ≡ Some before
  pub left : new ≡ record old { bag = old.bag ++ more; servers = slice_set old.servers node after }

-- and a router
pub record RouterActs (old new : WorldState) (node : ℕ) (more : List DatagramValue) : Type 0 where
  pub place : ℕ
  pub number : node ≡ length old.servers + place
  pub before : RouterNodeState
  pub after : RouterNodeState
  pub was : slice_get old.routers place ≡ Some before
  pub left : new ≡ record old { bag = old.bag ++ more; routers = slice_set old.routers place after }

-- time passes: each Map-Server drops its dead rows
pub record ExpiresNode (old new : ServerNodeState) (now : ℕ) : Type 0 where
  pub rows : Expires old.core.rows new.core.rows now
  pub rest : new ≡ record old { core = record old.core { rows = new.core.rows } }

abbrev pub ExpiresEach : List ServerNodeState → List ServerNodeState → ℕ → Type 0
ExpiresEach old new now = (k : ℕ) (n m : ServerNodeState) → slice_get old k ≡ Some n → slice_get new k ≡ Some m
    → ExpiresNode n m now

pub record NetworkTicks (old new : WorldState) (ms : ℕ) (line : Line) : Type 0 where
  pub bound : old.clock + ms ≤ max_moment
  pub count : length new.servers ≡ length old.servers
  pub each : ExpiresEach old.servers new.servers (old.clock + ms)
  pub left : new ≡ record old { clock = old.clock + ms; servers = new.servers }
  pub said : line ≡ lines.Ticked ms (old.clock + ms)

-- a router is given another database, if it is up
abbrev pub changed_core : List MapRecordValue → ℕ → RouterCoreState → RouterCoreState
changed_core db now (Up e) = Up (etr_changed e db now)
changed_core db now (Down config database) = Down config database

abbrev pub changed_node : List MapRecordValue → ℕ → RouterNodeState → RouterNodeState
changed_node db now node = record node { core = changed_core db now node.core }

abbrev pub is_up : RouterCoreState → Bool
is_up (Up e) = true
is_up (Down config database) = false

abbrev pub change_line : ℕ → List MapRecordValue → RouterCoreState → Line
change_line router db (Up e) = lines.Changed router (length db)
change_line router db (Down config database) = lines.Down router

pub record NetworkChanges (old new : WorldState) (router : ℕ) (db : List MapRecordValue) (line : Line) : Type 0 where
  pub acts : RouterActs old new router []
  pub fits : checked_database db ≡ Ok db
  pub changes : acts.after ≡ changed_node db old.clock acts.before
  pub said : line ≡ change_line router db acts.before.core

-- the place of a Map-Server in a router's list; where it isn't listed, the list's length
abbrev pub place_of : List ℕ → ℕ → ℕ
place_of servers server = unwrap_or (position (λ s. s == server) servers) (length servers)

-- a router that is up was asked to send a part of its database to the Map-Server with a number
pub record NodeSends (before after : RouterNodeState) (server part : ℕ) (fate : Fate) (now : ℕ)
    (answer : Result (List ℕ) SendFault) : Type 0 where
  pub etr : EtrState
  pub was : before.core ≡ Up etr
  pub left : EtrState
  pub is : after ≡ record before { core = Up left; store = after.store }
  pub call : CoreAnswersSendOver etr left before.store after.store fate (place_of before.servers server) part now answer

-- a node sent a message: its line has the Key ID and the nonce that stand in the datagram
pub record SaysMessage (old : WorldState) (node : ℕ) (to : Addr) (bytes : List ℕ) (line_of : ℕ → ℕ → Line) (line : Line)
    (more : List DatagramValue) : Type 0 where
  pub head : Head
  pub read : head_at bytes ≡ Some head
  pub said : line ≡ line_of head.key_id head.nonce
  pub posts : more ≡ record { from = address_of old node; to = to; bytes = bytes } ∷ []

-- a router that was asked to send
abbrev pub SaysSendAnswer : WorldState → ℕ → ℕ → ℕ → Result (List ℕ) SendFault → Line → List DatagramValue → Type 0
SaysSendAnswer old router server part (Ok bytes) line more =
    SaysMessage old router (address_of old server) bytes
    (λ key nonce. lines.Sent router server part key nonce (length old.bag)) line more
SaysSendAnswer old router server part (Err fault) line more =
    (line ≡ lines.Refused router (refusals.Send fault)) × (more ≡ [])

pub record UpRouterSends (old : WorldState) (router server part : ℕ) (fate : Fate) (before after : RouterNodeState)
    (line : Line) (more : List DatagramValue) : Type 0 where
  pub answer : Result (List ℕ) SendFault
  pub sends : NodeSends before after server part fate old.clock answer
  pub says : SaysSendAnswer old router server part answer line more

abbrev pub RouterSends : WorldState → ℕ → ℕ → ℕ → Fate → RouterNodeState → RouterNodeState → RouterCoreState → Line
    → List DatagramValue → Type 0
RouterSends old router server part fate before after (Up e) line more =
    UpRouterSends old router server part fate before after line more
RouterSends old router server part fate before after (Down config database) line more =
    (after ≡ before) × (line ≡ lines.Down router) × (more ≡ [])

pub record NetworkSends (old new : WorldState) (router server part : ℕ) (fate : Fate) (line : Line) : Type 0 where
  pub kind : server < length old.servers
  pub more : List DatagramValue
  pub acts : RouterActs old new router more
  pub sends : RouterSends old router server part fate acts.before acts.after acts.before.core line more

-- an answer from an address to another, if there is one
abbrev pub datagram_to : Addr → Addr → Option (List ℕ) → List DatagramValue
datagram_to from to reply = option_to_list (option_map (λ bytes. record { from = from; to = to; bytes = bytes }) reply)

-- what arrives at a Map-Server, and what it answers
abbrev pub reply_number : {A : Type 0} → ℕ → Option A → Option ℕ
reply_number next reply = option_map (λ r. next) reply

abbrev pub server_line : {A : Type 0} → ℕ → ℕ → Result (Took A) Refused → Line
server_line node next (Ok (Accepted router key nonce reply)) =
    lines.Accepted node router key nonce (reply_number next reply)
server_line node next (Ok (NoticeDone router nonce)) = lines.Done node router nonce
server_line node next (Err why) = lines.Refused node (refusals.Receive why)

abbrev pub replies : {A : Type 0} → Addr → Addr → Result (Took A) Refused → List DatagramValue
replies from to (Ok (Accepted router key nonce reply)) = datagram_to from to reply
replies from to _ = []

pub record ArrivesAtServer (A : Type 0) (old new : WorldState) (node : ℕ) (fate : Fate) (from : Addr) (bytes : List ℕ)
    (line : Line) : Type 0 where
  pub answer : Result (Took A) Refused
  pub acts : ServerActs old new node (replies (address_of old node) from answer)
  pub receives : NodeReceives acts.before acts.after fate from bytes old.clock answer
  pub said : line ≡ server_line node (length old.bag) answer

-- what arrives at a router, and what it answers
abbrev pub server_number : List ℕ → ℕ → ℕ
server_number servers place = slice_index_or servers place 0

abbrev pub router_line : {A : Type 0} → ℕ → ℕ → List ℕ → ℕ → Result (Seen A) NotifyFault → Line
router_line node next servers key (Ok (Counted place part nonce)) =
    lines.Counted node (server_number servers place) part key nonce
router_line node next servers key (Ok (Notice place nonce records answer)) =
    lines.Noticed node (server_number servers place) nonce next
router_line node next servers key (Err fault) = lines.Refused node (refusals.Notify fault)

abbrev pub acknowledges : {A : Type 0} → Addr → Addr → Result (Seen A) NotifyFault → List DatagramValue
acknowledges from to (Ok (Notice place nonce records answer)) = record { from = from; to = to; bytes = answer } ∷ []
acknowledges from to _ = []

-- a router that is up was given bytes from an address
pub record NodeHears {A : Type 0} (before after : RouterNodeState) (fate : Fate) (from : Addr) (bytes : List ℕ)
    (answer : Result (Seen A) NotifyFault) : Type 0 where
  pub etr : EtrState
  pub was : before.core ≡ Up etr
  pub left : EtrState
  pub is : after ≡ record before { core = Up left; store = after.store }
  pub armed : StoreState
  pub uses : UsesStore before.store fate armed armed after.store
  pub call : CoreHears etr left from bytes answer

-- so it was, and this is its line and its answer
pub record UpRouterHears (A : Type 0) (old : WorldState) (node : ℕ) (before after : RouterNodeState) (fate : Fate)
    (from : Addr) (bytes : List ℕ) (line : Line) (more : List DatagramValue) : Type 0 where
  pub answer : Result (Seen A) NotifyFault
  pub hears : NodeHears before after fate from bytes answer
  pub said : line ≡ router_line node (length old.bag) before.servers hears.etr.config.key_id answer
  pub posts : more ≡ acknowledges (address_of old node) from answer

abbrev pub RouterHears : Type 0 → WorldState → ℕ → RouterNodeState → RouterNodeState → Fate → Addr → List ℕ
    → RouterCoreState → Line → List DatagramValue → Type 0
RouterHears A old node before after fate from bytes (Up e) line more =
    UpRouterHears A old node before after fate from bytes line more
RouterHears A old node before after fate from bytes (Down config database) line more =
    (after ≡ before) × (line ≡ lines.Down node) × (more ≡ [])

pub record ArrivesAtRouter (A : Type 0) (old new : WorldState) (node : ℕ) (fate : Fate) (from : Addr) (bytes : List ℕ)
    (line : Line) : Type 0 where
  pub more : List DatagramValue
  pub acts : RouterActs old new node more
  pub hears : RouterHears A old node acts.before acts.after fate from bytes acts.before.core line more

-- bytes arrive at a node, of either kind; a datagram that was sent arrives where it was sent to, or nowhere
abbrev pub Arrives : Type 0 → WorldState → WorldState → ℕ → Fate → Addr → List ℕ → Line → Type 0
Arrives A old new node fate from bytes line =
    ArrivesAtServer A old new node fate from bytes line ⊎ ArrivesAtRouter A old new node fate from bytes line

abbrev pub ArrivesWhere : Type 0 → WorldState → WorldState → ℕ → Fate → DatagramValue → Option ℕ → Line → Type 0
ArrivesWhere A old new k fate d (Some node) line = Arrives A old new node fate d.from d.bytes line
ArrivesWhere A old new k fate d None line = (new ≡ old) × (line ≡ lines.Nowhere k)

pub record NetworkDelivers (A : Type 0) (old new : WorldState) (k : ℕ) (fate : Fate) (line : Line) : Type 0 where
  pub datagram : DatagramValue
  pub sent : slice_get old.bag k ≡ Some datagram
  pub arrives : ArrivesWhere A old new k fate datagram (node_with old datagram.to) line

-- a Map-Server stops, its store crashes, and it starts with its sites alone, at the network's clock
pub record NetworkRestartsServer (old new : WorldState) (node pick : ℕ) (line : Line) : Type 0 where
  pub acts : ServerActs old new node []
  pub core : acts.after.core ≡ fresh_server acts.before.core.sites
  pub crashes : StoreRestarts acts.before.store acts.after.store pick
  pub started : acts.after.started ≡ old.clock
  pub said : line ≡ lines.Restarted node

-- a Map-Server takes other sites at a moment; where they lack something that its own had, another life of it begins
pub record NodeReloads (old new : ServerNodeState) (sites : List SiteValue) (now : ℕ) : Type 0 where
  pub core : new.core ≡ reloaded old.core sites
  pub store : new.store ≡ old.store
  pub started : new.started ≡ (if extends old.core.sites sites then old.started else now)

-- its line says whether it keeps what it holds, and how many sites there are
abbrev pub reload_line : ℕ → Bool → ℕ → Line
reload_line server true count = lines.Reloaded server count
reload_line server false count = lines.Renewed server count

pub record NetworkReloads (old new : WorldState) (server : ℕ) (sites : List SiteValue) (line : Line) : Type 0 where
  pub acts : ServerActs old new server []
  pub reloads : NodeReloads acts.before acts.after sites old.clock
  pub said : line ≡ reload_line server (extends acts.before.core.sites sites) (length sites)

abbrev pub start_line : ℕ → Result (Unit {0}) StartFault → Line
start_line node (Ok done) = lines.Restarted node
start_line node (Err fault) = lines.Refused node (refusals.Start fault)

-- and a router, which is down where it doesn't start
pub record NetworkRestartsRouter (old new : WorldState) (node pick : ℕ) (db : Option (List MapRecordValue))
    (line : Line) : Type 0 where
  pub acts : RouterActs old new node []
  pub answer : Result (Unit {0}) StartFault
  pub restarts : NodeRestarts acts.before acts.after pick db old.clock answer
  pub said : line ≡ start_line node answer

-- a node, of either kind; a Map-Server is given no database
abbrev pub NetworkRestarts : WorldState → WorldState → ℕ → ℕ → Option (List MapRecordValue) → Line → Type 0
NetworkRestarts old new node pick db line =
    ((db ≡ None) × NetworkRestartsServer old new node pick line) ⊎ NetworkRestartsRouter old new node pick db line

-- a router that is up was asked to go over to a key; where it did, the key is a used one
abbrev pub UsesKeyIfOk : UsedKeysState → UsedKeysState → ℕ → Result (Unit {0}) RotateFault → Type 0
UsesKeyIfOk old new key (Ok done) = UsesKey old new key
UsesKeyIfOk old new key (Err fault) = new ≡ old

pub record NodeRotates (before after : RouterNodeState) (key : ℕ) (secret : List ℕ) (fate : Fate) (now : ℕ)
    (answer : Result (Unit {0}) RotateFault) : Type 0 where
  pub etr : EtrState
  pub was : before.core ≡ Up etr
  pub left : EtrState
  pub is : after ≡ record before { used = after.used; core = Up left; store = after.store }
  pub used : UsesKeyIfOk before.used after.used key answer
  pub call : CoreAnswersRotateOver etr left before.store after.store key secret fate now answer

abbrev pub rotate_line : ℕ → ℕ → Result (Unit {0}) RotateFault → Line
rotate_line router key (Ok done) = lines.Rotated router key
rotate_line router key (Err fault) = lines.Refused router (refusals.Rotate fault)

pub record UpRouterRotates (router key : ℕ) (secret : List ℕ) (fate : Fate) (now : ℕ) (before after : RouterNodeState)
    (line : Line) : Type 0 where
  pub answer : Result (Unit {0}) RotateFault
  pub rotates : NodeRotates before after key secret fate now answer
  pub said : line ≡ rotate_line router key answer

abbrev pub RouterRotates : ℕ → ℕ → List ℕ → Fate → ℕ → RouterNodeState → RouterNodeState → RouterCoreState → Line → Type 0
RouterRotates router key secret fate now before after (Up e) line =
    UpRouterRotates router key secret fate now before after line
RouterRotates router key secret fate now before after (Down config database) line =
    (after ≡ before) × (line ≡ lines.Down router)

-- a key of a router's site, and its secret
pub record IsKeyOf (w : WorldState) (node : RouterNodeState) (key : ℕ) : Type 0 where
  pub bound : key < key_count
  pub secret : List ℕ
  pub known : known_secret w.sites node.me.site key ≡ Some secret

-- a router goes over to a key of its site that it didn't use before its store was lost last
pub record NetworkRotates (old new : WorldState) (router key : ℕ) (fate : Fate) (line : Line) : Type 0 where
  pub acts : RouterActs old new router []
  pub of : IsKeyOf old acts.before key
  pub unused : is_used acts.before.used.before_loss key ≡ false
  pub rotates : RouterRotates router key of.secret fate old.clock acts.before acts.after acts.before.core line

abbrev pub loss_line : ℕ → ℕ → Result (Unit {0}) StartFault → Line
loss_line router key (Ok done) = lines.Emptied router key
loss_line router key (Err fault) = lines.Refused router (refusals.Start fault)

-- a router's store is lost, and it starts under a key of its site that it never used; or it is down
pub record NetworkLoses (old new : WorldState) (router key : ℕ) (db : Option (List MapRecordValue)) (line : Line)
    : Type 0 where
  pub acts : RouterActs old new router []
  pub of : IsKeyOf old acts.before key
  pub unused_since : is_used acts.before.used.since_loss key ≡ false
  pub unused_before : is_used acts.before.used.before_loss key ≡ false
  pub answer : Result (Unit {0}) StartFault
  pub loses : NodeLoses acts.before acts.after key of.secret db old.clock answer
  pub said : line ≡ loss_line router key answer

-- a Map-Server sends a router a notice
abbrev pub SaysNoticeAnswer : WorldState → ℕ → ℕ → Result (Addr × List ℕ) NoticeFault → Line → List DatagramValue
    → Type 0
SaysNoticeAnswer old server router (Ok sent) line more =
    SaysMessage old server sent.0 sent.1 (λ key nonce. lines.Notice server router key nonce (length old.bag)) line more
SaysNoticeAnswer old server router (Err fault) line more =
    (line ≡ lines.Refused server (refusals.Notice fault)) × (more ≡ [])

pub record NetworkNotifies (old new : WorldState) (server router : ℕ) (fate : Fate) (line : Line) : Type 0 where
  pub place : ℕ
  pub number : router ≡ length old.servers + place
  pub node : RouterNodeState
  pub there : slice_get old.routers place ≡ Some node
  pub more : List DatagramValue
  pub acts : ServerActs old new server more
  pub answer : Result (Addr × List ℕ) NoticeFault
  pub notifies : NodeNotifies acts.before acts.after fate node.me old.clock answer
  pub says : SaysNoticeAnswer old server router answer line more

-- a Map-Server sends a notice again; its store isn't used
abbrev pub SaysResendAnswer : WorldState → ℕ → ℕ → Result (Addr × List ℕ) NoticeFault → Line → List DatagramValue
    → Type 0
SaysResendAnswer old server router (Ok sent) line more =
    (line ≡ lines.Resent server router (length old.bag))
    × (more ≡ record { from = address_of old server; to = sent.0; bytes = sent.1 } ∷ [])
SaysResendAnswer old server router (Err fault) line more =
    (line ≡ lines.Refused server (refusals.Notice fault)) × (more ≡ [])

-- the rest of a Map-Server is left as it was, its store too
abbrev pub ChangesNoticesAlone : ServerNodeState → ServerNodeState → Type 0
ChangesNoticesAlone old new = new ≡ record old { core = record old.core { notices = new.core.notices } }

abbrev pub NodeResends : ServerNodeState → ServerNodeState → ℕ → RouterId → Result (Addr × List ℕ) NoticeFault → Type 0
NodeResends before after now router (Ok sent) = Resends before.core.notices after.core.notices router now sent.0 sent.1
NodeResends before after now router (Err fault) = RefusesResend before.core.notices router now fault × (after ≡ before)

pub record NetworkResends (old new : WorldState) (server router : ℕ) (line : Line) : Type 0 where
  pub place : ℕ
  pub number : router ≡ length old.servers + place
  pub node : RouterNodeState
  pub there : slice_get old.routers place ≡ Some node
  pub more : List DatagramValue
  pub acts : ServerActs old new server more
  pub rest : ChangesNoticesAlone acts.before acts.after
  pub answer : Result (Addr × List ℕ) NoticeFault
  pub resends : NodeResends acts.before acts.after old.clock node.me answer
  pub says : SaysResendAnswer old server router answer line more
