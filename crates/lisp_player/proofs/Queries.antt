-- What is asked of a node of a network that stands for a trace.
use Rattle.std.proofs.Common.{Bor, ◌≡◌, ℕ, ◌+◌, ◌-◌, ◌<◌, ◌≤◌, nat_lt, Bool, true, false, List, length, Option, Some, None, inl, inr, refl, sym, ap, subst, ◌∙◌, arith}
use Rattle.std.specs.Prelude.{is_some, slice_get, slice_index_or, if◌then◌else◌}
use Rattle.std.specs.List.{flat_map}
use Rattle.std.specs.Option.{option_map, option_and_then, unwrap_or}
use Rattle.std.proofs.lemmas.Bool.{ltb-true, ltb-false, lt-ltb, le-ltb, cases_lt}
use Rattle.std.proofs.lemmas.Option.{slice_get_within, get_or_from_slice_get}
use Rattle.lisp_records.specs.declared.address.Addr.{Addr}
use Rattle.lisp_records.specs.declared.router.RouterId.{RouterId}
use Rattle.lisp_records.specs.Address.{PrefixValue}
use Rattle.lisp_records.specs.Row.{RowValue}
use Rattle.lisp_policy.specs.Configuration.{ConfigValue, RouterEntryValue}
use Rattle.lisp_lookup.specs.declared.answer.Answer.{Answer}
use Rattle.lisp_lookup.specs.Answer.{Answers}
use Rattle.lisp_lookup.specs.Table.{OneEach, IsHeld}
use Rattle.lisp_replies.specs.declared.reply.Reply.{Reply}
use Rattle.lisp_etr.specs.Etr.{EtrState}
use Rattle.lisp_etr.specs.Rounds.{first_part}
use Rattle.lisp_server.specs.Server.{ServerState}
use Rattle.lisp_server.specs.Notices.{OneForEach, IsDueRouter}
use Rattle.lisp_model.specs.Trace.{Step, Opening, router_at, clock, is_up}
use Rattle.lisp_model.specs.Timers.{due_part}
use Rattle.lisp_refinement.specs.World.{WorldState, ServerNodeState, RouterNodeState, RouterCoreState, Up, Down}
use Rattle.lisp_refinement.specs.Nodes.{server_at, up_in, etr_at}
use Rattle.lisp_refinement.specs.Stands.{StandsForCore, Stands}
use Rattle.lisp_refinement.specs.Asked.{ServerTells, RouterTells}
use Rattle.lisp_refinement.specs.Replied.{Replies, IsPromised}
use Rattle.lisp_refinement.proofs.Gets.{none_is_some, same_some, get_within}
use Rattle.lisp_refinement.proofs.Asking.{servers_tell, routers_tell}
use Rattle.lisp_lines.specs.declared.datagram_place.DatagramPlace.TheVariants.{Shown}
use Rattle.lisp_lines.specs.declared.wording.Wording.TheVariants.{Schedule}
use Rattle.lisp_lines.specs.Query.{hold_text, ack_text, ask_text, due_text, due_server, due_router}
use Rattle.lisp_lines.specs.Reply.{request_text}
use Rattle.lisp_lines.specs.Router.{CountedFrom, due_of, due_in}
use Rattle.lisp_sites.specs.Numbers.{router_at as entry_at}
use Rattle.lisp_player.specs.Asked.{Where, Holds, Asks, Requests, first_minute, Acknowledges, IsDue, IsDueAtRouter, OfTraces, acked_parts, is_router, of_router, down_text, fault_text, missing_text}
use Rattle.lisp_model.specs.declared.world_fault.WorldFault.{WorldFault}
use Rattle.lisp_model.specs.declared.world_fault.WorldFault.TheVariants.{NoNode, WrongKind}

-- of two, the one that a test picks
where_true : (test : Bool) (Yes No : Type 0) → test ≡ true → Yes → Where test Yes No
where_true test Yes No is holds = subst (λ (b : Bool). Where b Yes No) (sym is) holds

where_false : (test : Bool) (Yes No : Type 0) → test ≡ false → No → Where test Yes No
where_false test Yes No is holds = subst (λ (b : Bool). Where b Yes No) (sym is) holds

-- the node of a Map-Server that runs
node_of : (found : Option ServerNodeState) (core : ServerState) → Some core ≡ option_map (λ (n : ServerNodeState). n.core) found → (n : ServerNodeState) × (found ≡ Some n) × (n.core ≡ core)
node_of (Some n) core is = (n, refl, sym (same_some core n.core is))
node_of None core is = absurd (none_is_some (sym is))

-- the node of a router that is up
router_of : (found : Option RouterNodeState) (etr : EtrState) → Some etr ≡ option_and_then (λ (n : RouterNodeState). up_in n.core) found → (n : RouterNodeState) × (found ≡ Some n) × (n.core ≡ Up etr)
router_of (Some n) etr is = (n, refl, by n.core is)
  where
    by : (core : RouterCoreState) → Some etr ≡ up_in core → core ≡ Up etr
    by (Up e) same = ap Up (sym (same_some etr e same))
    by (Down config database) same = absurd (none_is_some (sym same))
router_of None etr is = absurd (none_is_some (sym is))

-- no is not yes
false_is_true : false ≡ true → ⊥
false_is_true e = absurd cc

module _ (w : WorldState) (o : Opening) (T : List Step) (stand : Stands w o T) where
  -- a Map-Server tells what the trace says
  server_told : (A : Type 0) (server : ℕ) (core : ServerState) → Some core ≡ server_at w server → (nat_lt server (length o.config.servers) ≡ true) × ServerTells A o T server core w.clock
  server_told A server core at =
      let node = node_of (slice_get w.servers server) core at in
      let low = slice_get_within w.servers server node.0 node.1 in
      let count = stand.steps.servers in
      (lt-ltb server (length o.config.servers) (omega (arith, low, count)), subst (λ (core : ServerState). ServerTells A o T server core w.clock) node.2 (servers_tell A w o T stand server node.0 node.1))

  -- no Map-Server has a number
  server_missing : (server : ℕ) → None ≡ server_at w server → nat_lt server (length o.config.servers) ≡ false
  server_missing server at = by (nat_lt server (length o.config.servers)) refl
    where
      by : (b : Bool) → nat_lt server (length o.config.servers) ≡ b → b ≡ false
      by false past = refl
      by true below =
          let count = stand.steps.servers in
          let its = get_within w.servers server (omega (arith, count, ltb-true server (length o.config.servers) below)) in
          absurd (none_is_some (at ∙ ap (option_map (λ (n : ServerNodeState). n.core)) its.1))

  -- a router that is up tells what the trace says
  router_told : (node : ℕ) (etr : EtrState) → Some etr ≡ etr_at w node → (is_up T node ≡ true) × RouterTells o T node etr w.clock
  router_told node etr running = by (nat_lt node (length w.servers)) refl running
    where
      at_place : (k : ℕ) → length w.servers ≤ node → k ≡ node - length w.servers
          → Some etr ≡ option_and_then (λ (n : RouterNodeState). up_in n.core) (slice_get w.routers k) → (is_up T node ≡ true) × RouterTells o T node etr w.clock
      at_place k past is_place is =
          let its = router_of (slice_get w.routers k) etr is in
          let count = stand.steps.servers in
          let same : length o.config.servers + k ≡ node = omega (arith, count, past, is_place) in
          let standing = subst (λ (core : RouterCoreState). StandsForCore o T (length o.config.servers + k) core) its.2 (stand.routers k its.0 its.1).core in
          subst (λ (r : ℕ). (is_up T r ≡ true) × RouterTells o T r etr w.clock) same (standing.up, routers_tell w o T stand k its.0 etr its.1 its.2)

      by : (b : Bool) → nat_lt node (length w.servers) ≡ b
          → Some etr ≡ option_and_then (λ (n : RouterNodeState). up_in n.core) (if b then None else slice_get w.routers (node - length w.servers)) → (is_up T node ≡ true) × RouterTells o T node etr w.clock
      by true below is = absurd (none_is_some (sym is))
      by false past is = at_place (node - length w.servers) (ltb-false node (length w.servers) past) refl is

  -- a router that doesn't run is down
  router_down : (node : ℕ) → is_router o.config node ≡ true → None ≡ etr_at w node → is_up T node ≡ false
  router_down node is_there none = by (nat_lt node (length o.config.servers)) refl is_there
    where
      count : length w.servers ≡ length o.config.servers
      count = stand.steps.servers

      of_core : (k : ℕ) (core : RouterCoreState) → StandsForCore o T (length o.config.servers + k) core → None ≡ up_in core → is_up T (length o.config.servers + k) ≡ false
      of_core k (Up etr) standing at = absurd (none_is_some at)
      of_core k (Down config database) standing at = standing.0

      at_place : (k : ℕ) → length o.config.servers + k ≡ node → k < length w.routers
          → None ≡ option_and_then (λ (n : RouterNodeState). up_in n.core) (slice_get w.routers k) → is_up T node ≡ false
      at_place k same within at =
          let its = get_within w.routers k within in
          let core : None ≡ up_in its.0.core = at ∙ ap (option_and_then (λ (n : RouterNodeState). up_in n.core)) its.1 in
          subst (λ (r : ℕ). is_up T r ≡ false) same (of_core k its.0.core (stand.routers k its.0 its.1).core core)

      by : (b : Bool) → nat_lt node (length o.config.servers) ≡ b → (if b then false else nat_lt node (length o.config.servers + length o.config.routers)) ≡ true → is_up T node ≡ false
      by true below there' = absurd (false_is_true there')
      by false past there' =
          let low = ltb-false node (length o.config.servers) past in
          let high = ltb-true node (length o.config.servers + length o.config.routers) there' in
          let routers = stand.steps.routers in
          let no_server : nat_lt node (length w.servers) ≡ false = le-ltb node (length w.servers) (omega (arith, count, low)) in
          let at = none ∙ ap (λ (b : Bool). option_and_then (λ (n : RouterNodeState). up_in n.core) (if b then None else slice_get w.routers (node - length w.servers))) no_server in
          at_place (node - length w.servers) (omega (arith, count, low)) (omega (arith, count, low, high, routers)) at

-- what is said of a configuration, for each trace over it
of_config : (w : WorldState) (c : ConfigValue) (Said : ConfigValue → Type 0) (P : Opening → List Step → Type 0) → Said c → ((o : Opening) (T : List Step) → Stands w o T → Said o.config → P o T) → OfTraces w c P
of_config w c Said P said given = λ o T stand config. given o T stand (subst Said (sym config) said)

-- the router of a configuration with a number, or none
module _ (c : ConfigValue) (node : ℕ) where
  router_found : (entry : RouterEntryValue) → Some entry ≡ entry_at c node → (is_router c node ≡ true) × (entry ≡ router_at c node)
  router_found entry at = by (nat_lt node (length c.servers)) refl at
    where
      by : (b : Bool) → nat_lt node (length c.servers) ≡ b → Some entry ≡ (if b then None else slice_get c.routers (node - length c.servers)) → (is_router c node ≡ true) × (entry ≡ router_at c node)
      by true before is = absurd (none_is_some (sym is))
      by false behind is =
          let place = node - length c.servers in
          let low = ltb-false node (length c.servers) behind in
          let within = slice_get_within c.routers place entry (sym is) in
          (rw (behind, lt-ltb node (length c.servers + length c.routers) (omega (arith, low, within))) refl, sym (get_or_from_slice_get c.routers place entry _ (sym is)))

  router_missing : None ≡ entry_at c node → is_router c node ≡ false
  router_missing at = by (nat_lt node (length c.servers)) refl at
    where
      past : length c.servers ≤ node → None ≡ slice_get c.routers (node - length c.servers) → length c.servers + length c.routers ≤ node
      past low is = elim (cases_lt node (length c.servers + length c.routers)) [
        | inl lt ↦ absurd (none_is_some (is ∙ (get_within c.routers (node - length c.servers) (omega (arith, low, lt))).1))
        | inr le ↦ le
      ]

      by : (b : Bool) → nat_lt node (length c.servers) ≡ b → None ≡ (if b then None else slice_get c.routers (node - length c.servers)) → is_router c node ≡ false
      by true before is = rw before refl
      by false behind is = rw (behind, le-ltb node (length c.servers + length c.routers) (past (ltb-false node (length c.servers) behind) is)) refl

-- a node that is missing: of the other kind, or there is none
pub missing_wrong : (c : ConfigValue) (node : ℕ) (fault : WorldFault) → fault ≡ WrongKind → node < length c.servers + length c.routers → fault_text fault ≡ missing_text c node
missing_wrong c node fault is below = ap fault_text is ∙ sym (ap (λ (b : Bool). if b then fault_text WrongKind else fault_text NoNode) (lt-ltb node (length c.servers + length c.routers) below))

pub missing_none : (c : ConfigValue) (node : ℕ) (fault : WorldFault) → fault ≡ NoNode → length c.servers + length c.routers ≤ node → fault_text fault ≡ missing_text c node
missing_none c node fault is past = ap fault_text is ∙ sym (ap (λ (b : Bool). if b then fault_text WrongKind else fault_text NoNode) (le-ltb node (length c.servers + length c.routers) past))

-- which rows a Map-Server holds
pub hold_told : (w : WorldState) (c : ConfigValue) (server : ℕ) (core : ServerState) (now : ℕ) (told listed : List RowValue) (text : List ℕ)
    → Some core ≡ server_at w server → now ≡ w.clock → told ≡ listed → IsHeld core.rows now listed → text ≡ hold_text c (Schedule Shown) server now told → OfTraces w c (λ o T. Holds o T server text)
hold_told w c server core now told listed text at moment same held is =
    of_config w c (λ (c : ConfigValue). text ≡ hold_text c (Schedule Shown) server now told) (λ o T. Holds o T server text) is (λ o T stand said.
    let tells = server_told w o T stand (Unit {0}) server core at in
    let all = tells.1.held listed (subst (λ (n : ℕ). IsHeld core.rows n listed) moment held) in
    where_true _ _ _ tells.0 (said ∙ ap (λ (n : ℕ). hold_text o.config (Schedule Shown) server n told) (moment ∙ stand.bag.moment) ∙ ap (hold_text o.config (Schedule Shown) server (clock T)) (same ∙ all)))

pub hold_missing : (w : WorldState) (c : ConfigValue) (server : ℕ) (text : List ℕ) → None ≡ server_at w server → text ≡ missing_text c server → OfTraces w c (λ o T. Holds o T server text)
hold_missing w c server text at is =
    of_config w c (λ (c : ConfigValue). text ≡ missing_text c server) (λ o T. Holds o T server text) is (λ o T stand said. where_false _ _ _ (server_missing w o T stand server at) said)

-- who answers for an address
pub ask_told : (A : Type 0) (w : WorldState) (c : ConfigValue) (server : ℕ) (core : ServerState) (addr : Addr) (now : ℕ) (answer : Answer A) (text : List ℕ)
    → Some core ≡ server_at w server → now ≡ w.clock → OneEach core.rows → Answers core.rows core.sites addr now answer → text ≡ ask_text c server addr answer → OfTraces w c (λ o T. Asks A o T server addr text)
ask_told A w c server core addr now answer text at moment one answers is =
    of_config w c (λ (c : ConfigValue). text ≡ ask_text c server addr answer) (λ o T. Asks A o T server addr text) is (λ o T stand said.
    let tells = server_told w o T stand A server core at in
    where_true _ _ _ tells.0 (answer, tells.1.answer addr answer one (subst (λ (n : ℕ). Answers core.rows core.sites addr n answer) moment answers), said))

pub ask_missing : (A : Type 0) (w : WorldState) (c : ConfigValue) (server : ℕ) (addr : Addr) (text : List ℕ) → None ≡ server_at w server → text ≡ missing_text c server → OfTraces w c (λ o T. Asks A o T server addr text)
ask_missing A w c server addr text at is =
    of_config w c (λ (c : ConfigValue). text ≡ missing_text c server) (λ o T. Asks A o T server addr text) is (λ o T stand said. where_false _ _ _ (server_missing w o T stand server at) said)

-- what it would send for an EID-Prefix
pub request_told : (A : Type 0) (w : WorldState) (c : ConfigValue) (server : ℕ) (asked : PrefixValue) (from : Option Addr) (reply : Reply A) (text : List ℕ)
    → Replies w server asked first_minute reply → IsPromised w server asked first_minute reply → text ≡ request_text c server asked from reply → OfTraces w c (λ o T. Requests A o T server asked from text)
request_told A w c server asked from reply text replies promised is =
    of_config w c (λ (c : ConfigValue). text ≡ request_text c server asked from reply) (λ o T. Requests A o T server asked from text) is (λ o T stand said.
    let at : Some replies.node.core ≡ server_at w server = sym (ap (option_map (λ (n : ServerNodeState). n.core)) replies.running) in
    let tells = server_told w o T stand A server replies.node.core at in
    where_true _ _ _ tells.0 (reply, (promised o T stand).is, said))

pub request_missing : (A : Type 0) (w : WorldState) (c : ConfigValue) (server : ℕ) (asked : PrefixValue) (from : Option Addr) (text : List ℕ) → None ≡ server_at w server → text ≡ missing_text c server → OfTraces w c (λ o T. Requests A o T server asked from text)
request_missing A w c server asked from text at is =
    of_config w c (λ (c : ConfigValue). text ≡ missing_text c server) (λ o T. Requests A o T server asked from text) is (λ o T stand said. where_false _ _ _ (server_missing w o T stand server at) said)

-- to which router a notice is due
pub due_told : (w : WorldState) (c : ConfigValue) (node : ℕ) (core : ServerState) (now : ℕ) (router : Option RouterId) (text : List ℕ)
    → Some core ≡ server_at w node → now ≡ w.clock → OneForEach core.notices → IsDueRouter core.notices now router → text ≡ due_text c node (due_router c (Schedule Shown) router) → OfTraces w c (λ o T. IsDue o T node text)
due_told w c node core now router text at moment one is_due is =
    of_config w c (λ (c : ConfigValue). text ≡ due_text c node (due_router c (Schedule Shown) router)) (λ o T. IsDue o T node text) is (λ o T stand said.
    let tells = server_told w o T stand (Unit {0}) node core at in
    where_true _ _ _ tells.0 (router, tells.1.due_notices router one (subst (λ (n : ℕ). IsDueRouter core.notices n router) moment is_due), said))

pub due_otherwise : (w : WorldState) (c : ConfigValue) (node : ℕ) (text : List ℕ) → None ≡ server_at w node → OfTraces w c (λ o T. IsDueAtRouter o T node text) → OfTraces w c (λ o T. IsDue o T node text)
due_otherwise w c node text at told = λ o T stand config. where_false _ _ _ (server_missing w o T stand node at) (told o T stand config)

-- a router that is up, or down, or none
module _ (w : WorldState) (c : ConfigValue) (node : ℕ) (text : List ℕ) (Told : Opening → List Step → List ℕ) where
  -- of a router what it tells, else that there is none
  abbrev IsOfRouter : Opening → List Step → Type 0
  IsOfRouter o T = text ≡ (if is_router o.config node then of_router o T node (Told o T) else missing_text o.config node)

  up_told : (entry : RouterEntryValue) (etr : EtrState) (Said : ConfigValue → Type 0) → Some entry ≡ entry_at c node → Some etr ≡ etr_at w node → Said c
      → ((o : Opening) (T : List Step) → Stands w o T → RouterTells o T node etr w.clock → entry ≡ router_at o.config node → Said o.config → text ≡ Told o T) → OfTraces w c IsOfRouter
  up_told entry etr Said found at said given =
      of_config w c (λ (c : ConfigValue). (Some entry ≡ entry_at c node) × Said c) IsOfRouter (found, said) (λ o T stand both.
      let its = router_found o.config node entry both.0 in
      let tells = router_told w o T stand node etr at in
      given o T stand tells.1 its.1 both.1
      ∙ sym (ap (λ (b : Bool). if b then of_router o T node (Told o T) else missing_text o.config node) its.0 ∙ ap (λ (b : Bool). if b then Told o T else down_text o.config node) tells.0))

  down_told : (entry : RouterEntryValue) → Some entry ≡ entry_at c node → None ≡ etr_at w node → text ≡ down_text c node → OfTraces w c IsOfRouter
  down_told entry found at is =
      of_config w c (λ (c : ConfigValue). (Some entry ≡ entry_at c node) × (text ≡ down_text c node)) IsOfRouter (found, is) (λ o T stand both.
      let its = router_found o.config node entry both.0 in
      both.1 ∙ sym (ap (λ (b : Bool). if b then of_router o T node (Told o T) else missing_text o.config node) its.0 ∙ ap (λ (b : Bool). if b then Told o T else down_text o.config node) (router_down w o T stand node its.0 at)))

  none_told : None ≡ entry_at c node → text ≡ missing_text c node → OfTraces w c IsOfRouter
  none_told found is =
      of_config w c (λ (c : ConfigValue). (None ≡ entry_at c node) × (text ≡ missing_text c node)) IsOfRouter (found, is) (λ o T stand both.
      both.1 ∙ sym (ap (λ (b : Bool). if b then of_router o T node (Told o T) else missing_text o.config node) (router_missing o.config node both.0)))

-- what a router counted from each of its Map-Servers
abbrev counts : ℕ → Opening → List Step → List ℕ
counts router o T = flat_map (λ server. ack_text o.config router server (acked_parts T router server)) (router_at o.config router).servers

pub acks_told : (w : WorldState) (c : ConfigValue) (router : ℕ) (entry : RouterEntryValue) (etr : EtrState) (listed : List ℕ) (text : List ℕ)
    → Some entry ≡ entry_at c router → Some etr ≡ etr_at w router → listed ≡ entry.servers
    → ((counted : ℕ → List (Option (ℕ × ℕ))) → CountedFrom etr listed counted → text ≡ flat_map (λ server. ack_text c router server (counted server)) listed)
    → OfTraces w c (λ o T. Acknowledges o T router text)
acks_told w c router entry etr listed text found at all lines =
    up_told w c router text (counts router) entry etr (λ (c : ConfigValue). (counted : ℕ → List (Option (ℕ × ℕ))) → CountedFrom etr listed counted → text ≡ flat_map (λ server. ack_text c router server (counted server)) listed) found at lines (λ o T stand tells same said.
    let list = all ∙ ap (λ (r : RouterEntryValue). r.servers) same in
    said (acked_parts T router) (subst (λ (servers : List ℕ). CountedFrom etr servers (acked_parts T router)) (sym list) tells.acked)
    ∙ ap (flat_map (λ server. ack_text o.config router server (acked_parts T router server))) list)

pub acks_down : (w : WorldState) (c : ConfigValue) (router : ℕ) (entry : RouterEntryValue) (text : List ℕ) → Some entry ≡ entry_at c router → None ≡ etr_at w router → text ≡ down_text c router → OfTraces w c (λ o T. Acknowledges o T router text)
acks_down w c router entry text found at is = down_told w c router text (counts router) entry found at is

pub acks_missing : (w : WorldState) (c : ConfigValue) (router : ℕ) (text : List ℕ) → None ≡ entry_at c router → text ≡ missing_text c router → OfTraces w c (λ o T. Acknowledges o T router text)
acks_missing w c router text found is = none_told w c router text (counts router) found is

-- which Map-Server is due to a router, and of which part
abbrev dues : ℕ → Opening → List Step → List ℕ
dues node o T = due_text o.config node (due_server o.config (due_of (router_at o.config node).servers (first_part (due_part o T node) (router_at o.config node).servers)))

pub due_up : (w : WorldState) (c : ConfigValue) (node : ℕ) (entry : RouterEntryValue) (etr : EtrState) (now : ℕ) (due : Option (ℕ × ℕ)) (listed : List ℕ) (text : List ℕ)
    → Some entry ≡ entry_at c node → Some etr ≡ etr_at w node → now ≡ w.clock → listed ≡ entry.servers → due ≡ due_in etr listed now → text ≡ due_text c node (due_server c due) → OfTraces w c (λ o T. IsDueAtRouter o T node text)
due_up w c node entry etr now due listed text found at moment all its is =
    up_told w c node text (dues node) entry etr (λ (c : ConfigValue). text ≡ due_text c node (due_server c due)) found at is (λ o T stand tells same said.
    let servers = all ∙ ap (λ (r : RouterEntryValue). r.servers) same in
    let first : due ≡ due_of (router_at o.config node).servers (first_part (due_part o T node) (router_at o.config node).servers) =
    its ∙ ap (λ (n : ℕ). due_in etr listed n) moment ∙ ap (λ (list : List ℕ). due_in etr list w.clock) servers ∙ ap (due_of (router_at o.config node).servers) tells.due in
    said ∙ ap (λ (d : Option (ℕ × ℕ)). due_text o.config node (due_server o.config d)) first)

pub due_down : (w : WorldState) (c : ConfigValue) (node : ℕ) (entry : RouterEntryValue) (text : List ℕ) → Some entry ≡ entry_at c node → None ≡ etr_at w node → text ≡ down_text c node → OfTraces w c (λ o T. IsDueAtRouter o T node text)
due_down w c node entry text found at is = down_told w c node text (dues node) entry found at is

pub due_missing : (w : WorldState) (c : ConfigValue) (node : ℕ) (text : List ℕ) → None ≡ entry_at c node → text ≡ missing_text c node → OfTraces w c (λ o T. IsDueAtRouter o T node text)
due_missing w c node text found is = none_told w c node text (dues node) found is
