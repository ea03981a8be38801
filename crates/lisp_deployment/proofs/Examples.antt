-- Examples: a turn and a life of a deployment, and near misses, each but for one thing: what the definitions don't allow.
use Rattle.std.proofs.Common.{Ok, Err, length, true≢false, ◌≡◌, inl, inr, ℕ, zero, suc, ◌<◌, ◌≤◌, Bool, true, false, List, [], ◌∷◌, ◌++◌, map, Option, Some, None, refl, sym, ap, subst, ◌∙◌, arith}
use Rattle.std.specs.Prelude.{◌≢◌, ◌⊎◌, ◌==◌, if◌then◌else◌, IsTrue, Result}
use Rattle.std.specs.FinMap.{empty}
use Rattle.std.specs.List.{Contains, flat_map}
use Rattle.std.specs.Option.{option_and_then}
use Rattle.lisp_records.specs.declared.router.RouterId.{RouterId}
use Rattle.lisp_records.specs.Address.{PrefixValue}
use Rattle.lisp_records.specs.Row.{RowValue, is_alive}
use Rattle.lisp_policy.specs.Configuration.{ConfigValue}
use Rattle.lisp_policy.specs.Site.{SiteValue}
use Rattle.lisp_nonces.specs.declared.fate.Fate.TheVariants.{Done}
use Rattle.lisp_nonces.specs.declared.pair.Pair.{Pair}
use Rattle.lisp_nonces.specs.Kept.{kept_at, KeepsSome}
use Rattle.lisp_nonces.specs.Store.{StoreState}
use Rattle.lisp_nonces.proofs.Kept.{kept_at-empty}
use Rattle.lisp_lookup.specs.Table.{row_at, if_alive, IsHeld}
use Rattle.lisp_model.proofs.ListLemmas.{in_tail}
use Rattle.lisp_model.proofs.Locality.{other_number}
use Rattle.lisp_turns.specs.declared.order.Order.TheVariants as orders
use Rattle.lisp_refinement.specs.Calls.{config_of, database_of}
use Rattle.lisp_refinement.specs.World.{ServerNodeState, RouterNodeState, DatagramValue}
use Rattle.lisp_nodes.specs.Cores.{first_used}
use Rattle.lisp_turns.specs.Acts.{TurnAct}
use Rattle.lisp_turns.specs.Beginning.{Begins}
use Rattle.lisp_turns.specs.Due.{IsDuty, IsRefused}
use Rattle.lisp_turns.specs.Node.{NodeState, Server, Router}
use Rattle.lisp_turns.specs.Outside.{Call, Listens}
use Rattle.lisp_turns.specs.Turn.{TurnState, IsTurn}
use Rattle.lisp_deployment.specs.Deployment.{DeploymentState, node_count, calls_in, sent_by, TakesTurn, IsAmong}
use Rattle.lisp_deployment.specs.Lives.{Survives, IsCut, BeginsLife, EndsAsConfigured, sites_taken}
use Rattle.lisp_deployment.specs.Opening.{DeploymentBegins, DeploymentsBegin}
use Rattle.lisp_refinement.specs.Passing.{PassesNode}
use Rattle.lisp_deployment.specs.Deeds.{Deed, Turn, Life, DoesDeed, DoDeeds}
use Rattle.lisp_deployment.specs.Printed.{all_lines, accepted_nonces}
use Rattle.lisp_model.specs.declared.event.Event.TheVariants as events
use Rattle.lisp_model.specs.declared.line.Line.TheVariants as lines
use Rattle.lisp_records.specs.declared.address.Addr.TheVariants.{V4}
use Rattle.lisp_turns.specs.Act.{ActValue, line_act, numbered}
use Rattle.lisp_turns.specs.Part.{lines_of, arrived_in}
use Rattle.lisp_records.specs.declared.address.Addr.{Addr}
use Rattle.lisp_messages.specs.declared.fault.ReadFault.{ReadFault}
use Rattle.lisp_messages.specs.Authentic.{is_authentic}
use Rattle.lisp_messages.specs.Message.{MessageValue}
use Rattle.lisp_messages.specs.Reading.{message_at}
use Rattle.lisp_model.specs.declared.line.Line.{Line}
use Rattle.lisp_model.specs.Keys.{KnowsKey}
use Rattle.lisp_model.specs.Network.{IsNetwork}
use Rattle.lisp_model.specs.Trace.{Step, Opening, address_at, etr_config_of, router_at, secret_at, is_server}
use Rattle.lisp_deployment.specs.Received.{received_in, sites_told, MayHold, IsUnforged, ReceivesUnforged}
use Rattle.lisp_deployment.specs.Told.{Holds, AnswersShowHeld, RowWasSent, HeldRowsWereSent, CountedLinesWereAccepted}

-- a live row isn't dropped, and a dead one may stay
live_row : (old new : ServerNodeState) (now : ℕ) (router : RouterId) (eid : PrefixValue) (h : RowValue) → PassesNode old new now → row_at old.core.rows router eid ≡ Some h → is_alive h now ≡ true
    → row_at new.core.rows router eid ≡ None → ⊥
live_row old new now router eid h passes was alive gone =
    let left : ◌≡◌ {A = Option RowValue} None (Some h) =
    ap (λ (r : Option RowValue). option_and_then (if_alive now) r) (sym gone) ∙ passes.rows router eid ∙ ap (λ (r : Option RowValue). option_and_then (if_alive now) r) was
    ∙ ap (λ (b : Bool). if b then Some h else None) alive in cc

dead_row : (old : ServerNodeState) (now : ℕ) → PassesNode old old now
dead_row old now = record { rows = λ router eid. refl; rest = refl }

-- no store changes while time passes
other_store : (old new : ServerNodeState) (now : ℕ) → PassesNode old new now → old.store ≢ new.store → ⊥
other_store old new now passes differs = differs (sym (ap (λ (n : ServerNodeState). n.store) passes.rest))

-- what was sent is among what a network sent: all of it, and in its order
module _ {X : Type 0} (a b : X) where
  unsent : IsAmong (a ∷ []) [] → ⊥
  unsent among = among

  sent_once : IsAmong (a ∷ a ∷ []) (a ∷ []) → ⊥
  sent_once (inl (same, among)) = among
  sent_once (inr among) = among

  other_order : a ≢ b → IsAmong (a ∷ b ∷ []) (b ∷ a ∷ []) → ⊥
  other_order differs (inl (same, among)) = differs (sym same)
  other_order differs (inr (inl (same, among))) = among
  other_order differs (inr (inr among)) = among

  sent_besides : IsAmong (a ∷ []) (b ∷ a ∷ [])
  sent_besides = inr (inl (refl, tt))

-- a node takes a turn, and all others do nothing
module _ (A : Type 0) (config : ConfigValue) where
  module _ (places : ℕ) (s t : TurnState) (turn : IsTurn A config 0 places s t) where
    abbrev its_calls : List Call
    its_calls = calls_in A config 0 places s t turn

    alone : 0 < node_count config → TakesTurn A config 0 its_calls (record { moment = s.outside.moment; nodes = λ k. s; sent = [] })
        (record { moment = turn.now; nodes = λ k. if k == 0 then t else s; sent = sent_by config 0 its_calls })
    alone some = record {
      known = some;
      places = places;
      turn = turn;
      asked = refl;
      later = turn.hearing.later;
      moment = refl;
      others = λ k other. ap (λ (b : Bool). if b then t else s) (other_number k 0 other);
      sent = refl;
    }

  module _ (number : ℕ) (calls : List Call) (old new : DeploymentState) where
    -- no clock goes back along the turns
    early_turn : new.moment < old.moment → TakesTurn A config number calls old new → ⊥
    early_turn early takes = omega (arith, early, takes.later, takes.moment)

    -- no other node changes in a turn
    other_node : (k : ℕ) → k ≢ number → old.nodes k ≢ new.nodes k → TakesTurn A config number calls old new → ⊥
    other_node k other differs takes = differs (sym (takes.others k other))

    -- nor does one that isn't configured take one
    unknown_node : node_count config ≤ number → TakesTurn A config number calls old new → ⊥
    unknown_node high takes = omega (arith, high, takes.known)

  module _ (number : ℕ) (told : List TurnAct) (old new : DeploymentState) where
    -- a life doesn't begin before the one before it ended, nor before a turn that was taken
    early_life : new.moment < old.moment → BeginsLife A config number told old new → ⊥
    early_life early life = omega (arith, early, life.later.0, life.later.1)

    -- a life that begins doesn't change another node
    other_life : (k : ℕ) → k ≢ number → old.nodes k ≢ new.nodes k → BeginsLife A config number told old new → ⊥
    other_life k other differs life = differs (sym (life.others k other))

-- a store that no schedule arms, and that keeps nothing
abbrev plain : StoreState
plain = record { kept = empty; faults = 0; is_honest = true; is_quiet = false; is_obedient = false; fate = Done }

plain_survives : Survives plain plain
plain_survives = record {
  honest = (refl, refl);
  unscheduled = (refl, refl);
  narrows = λ pair. record { some = (None, subst (λ (values : List (Option ℕ)). Contains values None) (sym (kept_at-empty pair)) (0, omega arith, refl)); each = λ v has. has };
}

-- a store doesn't forget over a crash: what it said that it saved is kept
forgotten : (last next : StoreState) (pair : Pair) (nonce : ℕ) → kept_at last.kept pair ≡ Some nonce ∷ [] → kept_at next.kept pair ≡ None ∷ [] → Survives last next → ⊥
forgotten last next pair nonce saved lost survives =
    let had = (survives.narrows pair).each None (subst (λ (values : List (Option ℕ)). Contains values None) (sym lost) (0, omega arith, refl)) in
    only (subst (λ (values : List (Option ℕ)). Contains values None) saved had)
  where
    only : Contains (Some nonce ∷ []) None → ⊥
    only (zero, within, is) = absurd (let clash : ◌≡◌ {A = Option ℕ} (Some nonce) None = is in cc)
    only (suc i, within, is) = omega (arith, within)

-- a Map-Server doesn't begin at another moment
other_start : (config : ConfigValue) (sites : List SiteValue) (number now : ℕ) (store : StoreState) (n : ServerNodeState) → n.started ≢ now → Begins config sites number store now (Server n) → ⊥
other_start config sites number now store n differs begins = differs (ap (λ (x : ServerNodeState). x.started) begins.1)

-- nor under other sites than its own
other_sites : (config : ConfigValue) (sites : List SiteValue) (number now : ℕ) (store : StoreState) (n : ServerNodeState) → n.core.sites ≢ sites → Begins config sites number store now (Server n) → ⊥
other_sites config sites number now store n differs begins = differs (ap (λ (x : ServerNodeState). x.core.sites) begins.1)

-- nor is an act that was told one of which nobody was told, if it wasn't due
untold_act : (A : Type 0) (config : ConfigValue) (number : ℕ) (old last : NodeState) (now : ℕ) (act : TurnAct) → act.told ≡ false → (IsDuty number act.event → ⊥)
    → IsCut A config number old last now [] (act ∷ []) → ⊥
untold_act A config number old last now act untold undue cut = by cut.are_told.0
  where
    by : (act.told ≡ true) ⊎ (IsDuty number act.event × IsRefused act.act.line) → ⊥
    by (inl told) = absurd (true≢false (sym told ∙ untold))
    by (inr (due, refused)) = undue due

-- a router that went over to another key, used another one, or was given another database doesn't end as it is configured
module _ (config : ConfigValue) (number : ℕ) (n : RouterNodeState) (ends : EndsAsConfigured config number (Router n)) where
  under_its_key : config_of n.core ≡ etr_config_of config (router_at config number)
  under_its_key = ends.settings

  used_its_key : n.used ≡ first_used (router_at config number).key_id
  used_its_key = ends.used

  has_its_database : database_of n.core ≡ (router_at config number).database
  has_its_database = ends.database

-- a deployment begins at moment 0, each of its nodes over its own honest store, and nothing was sent
module _ (config : ConfigValue) (stores : ℕ → StoreState) (d : DeploymentState) where
  late_server : (k : ℕ) (n : ServerNodeState) → k < node_count config → (d.nodes k).node ≡ Server n → n.started ≢ 0 → DeploymentBegins config stores d → ⊥
  late_server k n known is late begins = other_start config config.sites k 0 (stores k) n late (subst (λ (x : NodeState). Begins config config.sites k (stores k) 0 x) is (begins.nodes k known))

  any_store : (k : ℕ) → k < node_count config → (IsTrue (stores k).is_honest → ⊥) → DeploymentBegins config stores d → ⊥
  any_store k known lies begins = lies (begins.honest k known)

  late_start : d.moment ≢ 0 → DeploymentBegins config stores d → ⊥
  late_start late begins = late begins.moment

  sent_early : d.sent ≢ [] → DeploymentBegins config stores d → ⊥
  sent_early some begins = some begins.unsent

-- one begins over the very stores that are given
over_stores : (all : DeploymentsBegin) (config : ConfigValue) (stores : ℕ → StoreState) (fit : (k : ℕ) → k < node_count config → IsTrue (stores k).is_honest × KeepsSome (stores k).kept)
    → DeploymentBegins config stores (all config stores fit).0
over_stores all config stores fit = (all config stores fit).1

-- a line counts for its own Map-Server, router and key
abbrev me : RouterId
me = record { site = 5; xtr = [] }

its_nonce : accepted_nonces 0 me 1 (lines.Accepted 0 me 1 7 None ∷ lines.Restarted 0 ∷ lines.Accepted 0 me 1 6 (Some 3) ∷ []) ≡ 7 ∷ 6 ∷ []
its_nonce = refl

other_nonces : accepted_nonces 0 me 1 (lines.Accepted 1 me 1 7 None ∷ lines.Accepted 0 me 2 8 None ∷ lines.Accepted 0 (record { site = 6; xtr = [] }) 1 9 None ∷ []) ≡ []
other_nonces = refl

-- nor is what a life told before its crash forgotten
abbrev heard : TurnAct
heard = record { event = events.Junk 0 (V4 []) []; act = line_act (lines.Accepted 0 me 1 7 None); told = true; taken = true }

two_lives : (calls : List Call) → all_lines (Turn 0 calls ∷ Life 0 (heard ∷ []) ∷ []) ≡ lines_of calls ++ lines.Accepted 0 me 1 7 None ∷ []
two_lives calls = refl

-- what comes from another address than its sender's, or goes to another one than the receiver's, is no datagram that was sent
abbrev here : Addr
here = V4 (1 ∷ [])

abbrev there : Addr
there = V4 (2 ∷ [])

moved : (config : ConfigValue) (given : List (List SiteValue)) (number : ℕ) (bytes secret : List ℕ) (message : MessageValue) → address_at config number ≡ there → message_at bytes ≡ Ok message → MayHold config given number secret → is_authentic bytes secret ≡ true
    → IsUnforged config given (record { from = here; to = here; bytes = bytes } ∷ []) number (here, bytes) → ⊥
moved config given number bytes secret message address reads holds authentic (inl (zero, within, is)) = (let differs : V4 (1 ∷ []) ≡ V4 (2 ∷ []) = ap (λ (x : DatagramValue). x.to) is ∙ address in absurd cc)
moved config given number bytes secret message address reads holds authentic (inl (suc i, within, is)) = omega (arith, within)
moved config given number bytes secret message address reads holds authentic (inr (inl noise)) = (let clash : ◌≡◌ {A = Result MessageValue ReadFault} (Err noise.0) (Ok message) = sym noise.1 ∙ reads in absurd cc)
moved config given number bytes secret message address reads holds authentic (inr (inr forged)) = absurd (true≢false (sym authentic ∙ forged secret holds))

-- a router may be under each key of its site, and hold its secret; it doesn't hold those of other sites
module _ (config : ConfigValue) (given : List (List SiteValue)) (number : ℕ) where
  under_another : (key : ℕ) → KnowsKey config number key → is_server config number ≡ false → MayHold config given number (secret_at config.sites (router_at config number).me.site key)
  under_another key known router = inr (router, key, inr known, refl)

  other_secret : (secret : List ℕ) → is_server config number ≡ false → ((key : ℕ) → secret ≢ secret_at config.sites (router_at config number).me.site key) → MayHold config given number secret → ⊥
  other_secret secret router differs (inl (server, sites, given_is, has)) = absurd (true≢false (sym server ∙ router))
  other_secret secret router differs (inr (kind, key, under, is)) = differs key is

  -- a Map-Server may hold those of sites that were given, and of no others
  given_secret : (sites : List SiteValue) (secret : List ℕ) → is_server config number ≡ true → Contains given sites → Contains (flat_map (λ s. map (λ k. k.secret) s.keys) sites) secret → MayHold config given number secret
  given_secret sites secret server given_is has = inl (server, sites, in_tail config.sites given sites given_is, has)

not_given : (config : ConfigValue) (number : ℕ) (secret : List ℕ) → is_server config number ≡ true → (Contains (flat_map (λ s. map (λ k. k.secret) s.keys) config.sites) secret → ⊥) → MayHold config [] number secret → ⊥
not_given config number secret server lacks (inl (kind, sites, (zero, low, is), has)) = lacks (subst (λ (l : List SiteValue). Contains (flat_map (λ s. map (λ k. k.secret) s.keys) l) secret) (sym is) has)
not_given config number secret server lacks (inl (kind, sites, (suc i, low, is), has)) = omega (arith, low)
not_given config number secret server lacks (inr (router, key, under, is)) = absurd (true≢false (sym server ∙ router))

-- sites that a Map-Server is told to take are given, and so are those that it took before a crash
told_once : (sites : List SiteValue) → sites_told (Listens (Some (orders.Reload sites)) ∷ Listens None ∷ []) ≡ sites ∷ []
told_once sites = refl

taken_once : (sites : List SiteValue) (act : ActValue) → sites_taken (record { event = events.Reload 0 sites; act = act; told = false; taken = false } ∷ []) ≡ sites ∷ []
taken_once sites act = refl

-- what a crash cut off was received, too
module _ (A : Type 0) (config : ConfigValue) (number : ℕ) (old new : DeploymentState) (begins : DoesDeed A config (Life number []) old new) (cut_off : begins.life.untold ≡ heard ∷ []) where
  received_too : received_in A config (Life number []) old new begins ≡ (V4 [], []) ∷ []
  received_too = ap (λ (acts : List TurnAct). arrived_in (acts ++ [])) cut_off

-- of a row that is held both lines were printed: no crash swallowed one
module _ (o : Opening) (T : List Step) (printed : List Line) (server : ℕ) (row : RowValue) (sent : RowWasSent o T printed server row) where
  swallowed_send : (Contains printed (numbered 0 sent.was.sending.line) → ⊥) → ⊥
  swallowed_send unprinted = unprinted sent.sent

  swallowed_acceptance : (Contains printed (numbered 0 sent.was.accepting.line) → ⊥) → ⊥
  swallowed_acceptance unprinted = unprinted sent.accepted

-- they are among what the nodes printed
are_printed : (A : Type 0) (all : HeldRowsWereSent A) (config : ConfigValue) (stores : ℕ → StoreState) (begun d : DeploymentState) (deeds : List Deed) → IsNetwork config → DeploymentBegins config stores begun
    → (did : DoDeeds A config deeds begun d) → ReceivesUnforged A config deeds begun d did → (server : ℕ) (held : List RowValue) → Holds config d server held → (row : RowValue) → Contains held row
    → (o : Opening) × (T : List Step) × RowWasSent o T (all_lines deeds) server row
are_printed A all config stores begun d deeds network begins did unforged server held holds row has =
    let run = all config stores begun d deeds network begins did unforged in (run.1, run.3.has.trace, run.4 server held holds row has)

-- so is the line of an acceptance that a router counted
counted_printed : (A : Type 0) (all : CountedLinesWereAccepted A) (config : ConfigValue) (stores : ℕ → StoreState) (begun d : DeploymentState) (deeds : List Deed) → IsNetwork config → DeploymentBegins config stores begun
    → (did : DoDeeds A config deeds begun d) → ReceivesUnforged A config deeds begun d did → (node server part key nonce : ℕ) → Contains (all_lines deeds) (lines.Counted node server part key nonce)
    → (reply : Option ℕ) × Contains (all_lines deeds) (lines.Accepted server (router_at config node).me key nonce reply)
counted_printed A all config stores begun d deeds network begins did unforged node server part key nonce has = all config stores begun d deeds network begins did unforged node server part key nonce has

-- a router holds no rows of a Map-Server's
no_server : (config : ConfigValue) (d : DeploymentState) (held : List RowValue) → Holds config d (length config.servers) held → ⊥
no_server config d held holds = omega (arith, holds.known)

-- what is shown is of the core between what was taken in and what was due, and is held at the turn's end
shown_between : (A : Type 0) (all : AnswersShowHeld A) (config : ConfigValue) (server : ℕ) (calls : List Call) (old new : DeploymentState) (takes : TakesTurn A config server calls old new) → server < length config.servers
    → (shown : ServerNodeState) (held : List RowValue) → takes.turn.between ≡ Server shown → IsHeld shown.core.rows takes.turn.now held → Holds config new server held
shown_between A all config server calls old new takes known shown held is rows = all config server calls old new takes known shown held is rows
