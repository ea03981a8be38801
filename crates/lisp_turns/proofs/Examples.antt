-- Examples: a turn that is one, and near misses, each but for one thing: what the definitions don't allow.
use Rattle.std.proofs.Common.{◌≡◌, ◌⊎◌, inl, inr, ℕ, ◌-◌, ◌^◌, ◌<◌, Bool, true, false, true≢false, List, [], ◌∷◌, length, Option, Some, None, Ok, Err, refl, sym, ap, subst, ◌∙◌, arith, suc, Result}
use Rattle.std.specs.Prelude.{if◌then◌else◌}
use Rattle.std.specs.FinMap.{empty}
use Rattle.std.specs.Option.{option_and_then}
use Rattle.lisp_records.specs.declared.address.Addr.{Addr}
use Rattle.lisp_records.specs.declared.address.Addr.TheVariants.{V4}
use Rattle.lisp_records.specs.declared.router.RouterId.{RouterId}
use Rattle.lisp_records.specs.Address.{PrefixValue}
use Rattle.lisp_records.specs.Record.{MapRecordValue}
use Rattle.lisp_records.specs.Row.{RowValue, is_alive}
use Rattle.lisp_policy.specs.Configuration.{ConfigValue}
use Rattle.lisp_policy.specs.Site.{SiteValue}
use Rattle.lisp_policy.specs.Extends.{extends}
use Rattle.lisp_nonces.specs.declared.fate.Fate.TheVariants.{Done, Doubt}
use Rattle.lisp_nonces.specs.Memory.{empty_memory, memory_state}
use Rattle.lisp_etr.specs.Etr.{EtrState, due_at}
use Rattle.lisp_etr.specs.declared.send_fault.SendFault.{SendFault}
use Rattle.lisp_lookup.specs.Table.{row_at}
use Rattle.lisp_server.specs.Notices.{notice_at}
use Rattle.lisp_model.specs.declared.event.Event.TheVariants as events
use Rattle.lisp_model.specs.declared.line.Line.{Line}
use Rattle.lisp_model.specs.declared.line.Line.TheVariants as lines
use Rattle.lisp_model.specs.declared.world_fault.WorldFault.{WorldFault}
use Rattle.lisp_model.specs.Trace.{EventValue, Step, address_at}
use Rattle.lisp_refinement.specs.Nodes.{up_in, fresh_server}
use Rattle.lisp_refinement.specs.World.{ServerNodeState, RouterNodeState}
use Rattle.lisp_refinement.specs.Events.{reload_line}
use Rattle.lisp_budget.specs.Budget.{unused}
use Rattle.lisp_turns.specs.Act.{ActValue, numbered}
use Rattle.lisp_turns.specs.Acts.{TurnAct, act_calls, DoesOne}
use Rattle.lisp_turns.specs.Beginning.{IsMute}
use Rattle.lisp_turns.specs.Due.{IsRegisterDue, IsSend, IsResend, SendsDue, ResendsDue, IsRefused}
use Rattle.lisp_turns.specs.Node.{NodeState, ServerCore, Server, Router, IsPlaced, Passes, IsDead, TellsDead}
use Rattle.lisp_turns.specs.Obeying.{Obeys}
use Rattle.lisp_turns.specs.Outside.{Reception, Datagram, Nothing, Failed, Call, Receives, Reads, Commits, Prints, Sends, Listens, Answers, Requests}
use Rattle.lisp_turns.specs.Part.{IsOwn, WasOrdered, ArePrinted, arrivals, sent_of}
use Rattle.lisp_turns.specs.Pause.{may_try, is_told, failed}
use Rattle.lisp_turns.specs.Turn.{TurnState, Hears, IsGroup, IsPut, AreDone, DoesDuties, Serves, commit_calls, hearing_calls, IsTurn}
use Rattle.lisp_turns.specs.declared.order.Order.{Order}
use Rattle.lisp_turns.specs.declared.order.Order.TheVariants.{Change, Reload}
use Rattle.lisp_turns.specs.declared.outside.Printed.TheVariants as printed
use Rattle.lisp_turns.specs.declared.pause.Pause.{Pause}
use Rattle.lisp_turns.proofs.DeadRows.{tells_none}
use Rattle.lisp_turns.specs.Made.{IsMade}
use Rattle.lisp_turns.specs.Serving.{answer_act, SendAct}

-- a Map-Server that holds nothing takes a turn in which no datagram comes
abbrev pub silent : ServerNodeState
silent = record { core = fresh_server []; store = memory_state empty_memory; started = 0 }

abbrev pub none_failed : Pause
none_failed = record { next_try = 0; next_line = 0 }

abbrev pub before : TurnState
before = record { node = Server silent; receives = none_failed; sends = none_failed; resolving = record { quiet = 60000; budget = unused 4096 262144 }; outside = record { log = Some []; moment = 0; is_cut = false; is_asked = true } }

abbrev pub after : TurnState
after = record before { outside = record { log = Some (Requests None ∷ Answers (ServerCore silent.core) 5 None ∷ Listens None ∷ Reads 5 ∷ Receives Nothing ∷ []); moment = 5; is_cut = false; is_asked = true } }

-- it holds no row, so none that is dead
none_held : (key : RouterId × PrefixValue) (row : RowValue) → row_at silent.core.rows key.0 key.1 ≡ Some row → ⊥
unfolding row_at
none_held key row there = absurd (let clash : ◌≡◌ {A = Option RowValue} None (Some row) = there in cc)

pub silent_turn : (A : Type 0) (config : ConfigValue) (places : ℕ) → IsTurn A config 0 places before after
unfolding notice_at
silent_turn A config places = record {
  reception = Nothing;
  now = 5;
  dead = [];
  intake = record { others = []; heard = []; order = None; outcome = None; taken = false };
  between = Server silent;
  hearing = record {
    later = omega arith;
    bound = omega arith;
    apart = (tt, tt);
    passed = Server silent;
    expires = tells_none (Server silent) 5 (λ key dead. none_held key dead.0 dead.1);
    takes = record {
      group = record { few = omega arith; some = inr refl; datagrams = tt; full = λ is. absurd is };
      hears = refl;
      between = Server silent;
      did_hear = refl;
      obeys = refl;
    };
  };
  left = Server silent;
  withdrawn = (tells_none (Server silent) 5 (λ key dead. none_held key dead.0 dead.1)).passes;
  receives = refl;
  served = [];
  did_serve = refl;
  serves = record { duties = tt; due = tt; notices_due = tt; once = λ i j d less within. absurd (omega (arith, within)); done = refl; all = inr (inl (λ router. refl)) };
  deeds = [];
  ended = true;
  answers = record { few = omega arith; all = inl refl; does = refl; same = refl };
  calls = refl;
}

-- a dead row isn't left; and a router isn't changed
dead_row : (old new : ServerNodeState) (now : ℕ) (router : RouterId) (eid : PrefixValue) (h : RowValue) → Passes (Server old) (Server new) now → row_at old.core.rows router eid ≡ Some h → is_alive h now ≡ false
    → row_at new.core.rows router eid ≡ Some h → ⊥
dead_row old new now router eid h passes was dead left =
    let gone : row_at new.core.rows router eid ≡ None =
    passes.rows router eid ∙ ap (λ (o : Option RowValue). option_and_then (λ g. if is_alive g now then Some g else None) o) was ∙ ap (λ (b : Bool). if b then Some h else None) dead in
    let clash : ◌≡◌ {A = Option RowValue} None (Some h) = sym gone ∙ left in cc

module _ (old new : NodeState) (now : ℕ) (key : RouterId × PrefixValue) where
  -- a row that dies isn't kept from the operator, nor told twice
  untold_death : IsDead old now key → TellsDead old new now [] → ⊥
  untold_death dead tells = omega (arith, ((tells.each key).1 dead).1)

  told_twice : TellsDead old new now (key ∷ key ∷ []) → ⊥
  told_twice tells = tells.once 0 1 key (omega arith) (omega arith) refl

  -- nor is one told that doesn't die
  told_alive : (IsDead old now key → ⊥) → TellsDead old new now (key ∷ []) → ⊥
  told_alive alive tells = alive ((tells.each key).0 (0, omega arith, refl))

-- a Map-Server doesn't become a router
other_kind : (config : ConfigValue) (number : ℕ) (n : RouterNodeState) → number < length config.servers → IsPlaced config number (Router n) → ⊥
other_kind config number n low placed = omega (arith, low, placed.2)

-- a datagram isn't ignored, and what is made of it isn't kept from the operator
ignored : (from : Addr) (bytes : List ℕ) → Hears 0 (Datagram from bytes ∷ []) [] → ⊥
ignored from bytes (a, rest, is, event, told, more) = absurd (let clash : ◌≡◌ {A = List TurnAct} [] (a ∷ rest) = is in cc)

untold : (from : Addr) (bytes : List ℕ) (a : TurnAct) → a.told ≡ false → Hears 0 (Datagram from bytes ∷ []) (a ∷ []) → ⊥
untold from bytes a quiet (b, rest, is, event, told, more) =
    absurd (true≢false (sym told ∙ ap (λ (l : List TurnAct). first_told l) (sym is) ∙ quiet))
  where
    first_told : List TurnAct → Bool
    first_told [] = false
    first_told (x ∷ xs) = x.told

-- a group has one datagram at least, and no more than its places
module _ (first : Reception) (a b : Reception) where
  too_many : IsGroup 2 first (a ∷ b ∷ []) → ⊥
  too_many group = omega (arith, group.few)

  -- nothing is asked for behind a receive that failed
  after_failure : IsGroup 9 Failed (a ∷ []) → ⊥
  after_failure group = by group.some
    where
      by : ⊥ ⊎ (a ∷ [] ≡ []) → ⊥
      by (inl never) = never
      by (inr is) = absurd (let clash : ◌≡◌ {A = List Reception} (a ∷ []) [] = is in cc)

  -- nor behind one that found none
  after_none : IsGroup 9 first (a ∷ Nothing ∷ []) → ⊥
  after_none group = group.datagrams.0

-- what is heard isn't left uncommitted, and none of it is told before the commit
uncommitted : (a : TurnAct) → commit_calls (a ∷ []) true ≡ [] → ⊥
uncommitted a is = absurd (let clash : ◌≡◌ {A = List Call} (Commits true ∷ []) [] = is in cc)

silent_until_committed : (from : Addr) (bytes : List ℕ) (now : ℕ) (heard : List TurnAct) (done : Bool)
    → IsMute (hearing_calls 0 (Datagram from bytes) now [] (record { others = Nothing ∷ []; heard = heard; order = None; outcome = None; taken = false }) done)
silent_until_committed from bytes now [] done = (refl, refl)
silent_until_committed from bytes now (a ∷ earlier) done = (refl, refl)

-- what a user tells isn't left undone, nor done where nobody tells it
undone : (A : Type 0) (config : ConfigValue) (old new : NodeState) (now : ℕ) (order : Order) → Obeys A config 0 old new now (Some order) None → ⊥
undone A config old new now order obeys = obeys

untold_order : (A : Type 0) (config : ConfigValue) (old new : NodeState) (now : ℕ) (act : ActValue) → Obeys A config 0 old new now None (Some (Ok act)) → ⊥
untold_order A config old new now act obeys = obeys

-- and a router isn't kept from registering another database
refused_change : (A : Type 0) (config : ConfigValue) (old : RouterNodeState) (new : NodeState) (now : ℕ) (db : List MapRecordValue) (fault : WorldFault)
    → Obeys A config 0 (Router old) new now (Some (Change db)) (Some (Err fault)) → ⊥
refused_change A config old new now db fault obeys = absurd (let clash : ◌≡◌ {A = Option WorldFault} None (Some fault) = obeys.1 in cc)

-- nor a Map-Server from taking other sites
refused_sites : (A : Type 0) (config : ConfigValue) (old : ServerNodeState) (new : NodeState) (now : ℕ) (sites : List SiteValue) (fault : WorldFault)
    → Obeys A config 0 (Server old) new now (Some (Reload sites)) (Some (Err fault)) → ⊥
refused_sites A config old new now sites fault obeys = absurd (let clash : ◌≡◌ {A = Option WorldFault} None (Some fault) = obeys.1 in cc)

-- sites that nobody told it to take aren't taken
untold_sites : (sites : List SiteValue) → WasOrdered [] (events.Reload 0 sites) → ⊥
untold_sites sites ordered = omega (arith, ordered.1)

-- and another node's order isn't the node's own
other_order : IsOwn 0 (events.Rotate 1 7 Done) → ⊥
other_order own = omega (arith, own)

-- the address of the first message
abbrev address_in : Addr → List (Addr × List ℕ) → Addr
address_in none [] = none
address_in none (message ∷ more) = message.0

module _ (to other : Addr) (bytes : List ℕ) (line : Line) where
  abbrev answers : TurnAct
  answers = record { event = events.Junk 0 to bytes; act = record { line = line; message = Some (to, bytes) }; told = true; taken = true }

  -- the line goes first, then the message
  line_first : act_calls answers ≡ Sends to bytes true ∷ Prints (printed.Heard line to) ∷ []
  line_first = refl

  -- and that to no other address
  no_other_address : sent_of (act_calls answers) ≡ (other, bytes) ∷ [] → to ≡ other
  no_other_address is = ap (address_in to) is

module _ (config : ConfigValue) (number now : ℕ) (pause left : Pause) (a b : TurnAct) where
  -- nothing goes on after what was refused
  goes_on_refused : IsRefused b.act.line → AreDone pause left now (a ∷ b ∷ []) → ⊥
  goes_on_refused refused done = done.1.0.taken refused

  -- a refusal is told where none was within a minute, and else isn't
  told_wrongly : IsPut pause left now a → a.told ≡ true → is_told pause now ≡ false → ⊥
  told_wrongly put told quiet = absurd (true≢false (sym told ∙ put.told ∙ quiet))

  untold_wrongly : IsPut pause left now a → a.told ≡ false → is_told pause now ≡ true → ⊥
  untold_wrongly put quiet told = absurd (true≢false (sym told ∙ sym put.told ∙ quiet))

  -- a Map-Register isn't sent twice
  twice : (m n : RouterNodeState) → IsSend a.event → a.event ≡ b.event → DoesDuties config number (Router m) (Router n) now pause left (a ∷ b ∷ []) → ⊥
  twice m n sends same duties = duties.once 0 1 a (omega arith) (omega arith) sends same

  -- nor where it isn't due
  not_due : (m n : RouterNodeState) (server part : ℕ) → a.event ≡ events.Send number server part Done → (IsRegisterDue m server part now → ⊥) → DoesDuties config number (Router m) (Router n) now pause left (a ∷ []) → ⊥
  not_due m n server part sends never duties =
      never (subst (λ (e : EventValue). IsSend e → SendsDue (Router m) number now e) sends duties.due.0 tt).1

  -- and no notice is sent again that isn't due
  notice_not_due : (m n : ServerNodeState) (router : ℕ) → a.event ≡ events.Resend number router → (ResendsDue config (Server m) now (events.Resend number router) → ⊥) → DoesDuties config number (Server m) (Server n) now pause left (a ∷ []) → ⊥
  notice_not_due m n router sends never duties =
      never (subst (λ (e : EventValue). IsResend e → ResendsDue config (Server m) now e) sends duties.notices_due.0 tt)

  -- what is due isn't left
  left_due : (m n : RouterNodeState) (etr : EtrState) (due : ℕ × ℕ) → up_in n.core ≡ Some etr → due_at etr now ≡ Some due → DoesDuties config number (Router m) (Router n) now pause left [] → ⊥
  left_due m n etr due up is duties = by duties.all
    where
      by : ⊥ ⊎ (((e : EtrState) → up_in n.core ≡ Some e → due_at e now ≡ None) ⊎ (0 ≡ 2 ^ 64 - 1)) → ⊥
      by (inl never) = never
      by (inr (inl nothing)) = absurd (let clash : ◌≡◌ {A = Option (ℕ × ℕ)} (Some due) None = sym is ∙ nothing etr up in cc)
      by (inr (inr many)) = omega (arith, many)

  -- what was refused isn't tried again within a second
  too_soon : (old new : NodeState) → Serves config number old new 999 (failed none_failed 0) left (a ∷ []) → ⊥
  too_soon old new serves = absurd (let clash : ◌≡◌ {A = List TurnAct} (a ∷ []) [] = serves.0 in cc)

-- a second and a minute
try_again : may_try (failed none_failed 0) 1000 ≡ true
try_again = refl

told_again : (is_told (failed none_failed 0) 59999 ≡ false) × (is_told (failed none_failed 0) 60000 ≡ true)
told_again = (refl, refl)

-- another node's Map-Register isn't the node's own, nor is a delivery or a restart
other_send : IsOwn 0 (events.Send 1 0 0 Done) → ⊥
other_send own = omega (arith, own)

own_delivery : IsOwn 0 (events.Deliver 0 Done) → ⊥
own_delivery own = own

other_sites : (sites : List SiteValue) → IsOwn 0 (events.Reload 1 sites) → ⊥
other_sites sites own = omega (arith, own)

own_restart : IsOwn 0 (events.Restart 0 0 None) → ⊥
own_restart own = own

module _ (router : RouterId) (n m : ℕ) where
  abbrev accepted : ℕ → Line
  accepted nonce = lines.Accepted 0 router 1 nonce None

  abbrev step : EventValue → Step
  step event = record { event = event; line = accepted n; actor = 0; shown = record { kept = empty; faults = 0; is_obedient = true } }

  -- a line that isn't printed, and one that says another nonce
  unprinted : ArePrinted (step (events.Junk 0 (V4 []) []) ∷ []) [] → ⊥
  unprinted (inl (quiet, rest)) = quiet
  unprinted (inr (line, rest, is, same, more)) = absurd (let clash : ◌≡◌ {A = List Line} [] (line ∷ rest) = is in cc)

  misprinted : ArePrinted (step (events.Junk 0 (V4 []) []) ∷ []) (accepted m ∷ []) → m ≡ n
  misprinted (inl (quiet, rest)) = absurd quiet
  misprinted (inr (line, rest, is, same, more)) = ap (λ (l : List Line). first_nonce l) is ∙ ap nonce_of same
    where
      nonce_of : Line → ℕ
      nonce_of (lines.Accepted server who key nonce datagram) = nonce
      nonce_of _ = 0

      first_nonce : List Line → ℕ
      first_nonce [] = 0
      first_nonce (l ∷ ls) = nonce_of l

  -- what arrived came from where it came
  other_source : (from other : Addr) (bytes : List ℕ) → arrivals (step (events.Junk 0 from bytes) ∷ []) ≡ (other, bytes) ∷ [] → from ≡ other
  other_source from other bytes is = ap (address_in from) is

-- ---- what a node's core doesn't say of an act, so that the node didn't do it, whatever its store

-- the number of a Map-Register's datagram
abbrev number_of : Line → ℕ
number_of (lines.Sent router server part key nonce datagram) = datagram
number_of _ = 0

-- the address of a message
abbrev message_address : Addr → Option (Addr × List ℕ) → Addr
message_address none None = none
message_address none (Some message) = message.0

module _ (A : Type 0) (config : ConfigValue) (number now : ℕ) (act : ActValue) where
  -- a node that runs has no number for a datagram but 0
  other_number : (old new : NodeState) (event : EventValue) (server part key nonce datagram : ℕ) → DoesOne A config number old new now event act
      → act.line ≡ lines.Sent number server part key nonce (suc datagram) → ⊥
  other_number old new event server part key nonce datagram does is =
      absurd (let clash : ◌≡◌ {A = ℕ} (suc datagram) 0 = ap number_of (sym is ∙ does.plain ∙ ap (numbered 0) is) in omega (arith, clash))

  -- a reply goes back to where the bytes came from
  module _ (from to : Addr) (bytes message : List ℕ) (is : act.message ≡ Some (to, message)) where
    back : (line : Line) (reply : Option (List ℕ)) → act ≡ answer_act line from reply → to ≡ from
    back line None made = absurd (let clash : ◌≡◌ {A = Option (Addr × List ℕ)} (Some (to, message)) None = sym is ∙ ap (λ (a : ActValue). a.message) made in cc)
    back line (Some answer) made = ap (message_address to) (sym is ∙ ap (λ (a : ActValue). a.message) made)

    server_replies_elsewhere : (old new : ServerNodeState) → IsMade A config number (Server old) (Server new) now (events.Junk number from bytes) act → to ≡ from
    server_replies_elsewhere old new made = back act.line made.1.0 made.1.2

    router_replies_elsewhere : (old new : RouterNodeState) → IsMade A config number (Router old) (Router new) now (events.Junk number from bytes) act → to ≡ from
    router_replies_elsewhere old new made = back act.line made.1.0 made.1.2

  module _ (old new : RouterNodeState) (server part : ℕ) where
    abbrev IsSending : Type 0
    IsSending = IsMade A config number (Router old) (Router new) now (events.Send number server part Done) act

    -- a Map-Register goes to the address of its Map-Server
    sent_elsewhere : IsSending → (to : Addr) (message : List ℕ) → act.message ≡ Some (to, message) → to ≡ address_at config server
    sent_elsewhere made to message is = by made.1.0 made.1.2
      where
        by : (answer : Result (List ℕ) SendFault) → SendAct config number server part answer act → to ≡ address_at config server
        by (Ok bytes) sent = ap (message_address to) (sym is ∙ ap (λ (a : ActValue). a.message) sent.is)
        by (Err fault) refused = absurd (let clash : ◌≡◌ {A = Option (Addr × List ℕ)} (Some (to, message)) None = sym is ∙ ap (λ (a : ActValue). a.message) refused in cc)

    -- and isn't kept back where it is said to be sent
    kept_back : IsSending → (IsRefused act.line → ⊥) → act.message ≡ None → ⊥
    kept_back made done is = by made.1.0 made.1.2
      where
        by : (answer : Result (List ℕ) SendFault) → SendAct config number server part answer act → ⊥
        by (Ok bytes) sent = absurd (let clash : ◌≡◌ {A = Option (Addr × List ℕ)} (Some (address_at config server, bytes)) None = sym (ap (λ (a : ActValue). a.message) sent.is) ∙ is in cc)
        by (Err fault) refused = done (subst (λ (a : ActValue). IsRefused a.line) (sym refused) tt)

  -- what another node is given isn't this one's; nor does a store do other than it is asked
  other_node : (old new : NodeState) (from : Addr) (bytes : List ℕ) → IsMade A config number old new now (events.Junk (suc number) from bytes) act → ⊥
  other_node old new from bytes made = omega (arith, made.0)

  doubtful_store : (old new : NodeState) (server part : ℕ) → IsMade A config number old new now (events.Send number server part Doubt) act → ⊥
  doubtful_store old new server part made = made

  -- a Map-Server sends no Map-Register, and a router no notice again
  server_sends : (old new : ServerNodeState) (server part : ℕ) → IsMade A config number (Server old) (Server new) now (events.Send number server part Done) act → ⊥
  server_sends old new server part made = made.1

  router_resends : (old new : RouterNodeState) (router : ℕ) → IsMade A config number (Router old) (Router new) now (events.Resend number router) act → ⊥
  router_resends old new router made = made.1

  -- nor does a router take sites; and a Map-Server that goes on under other ones doesn't say that it started anew
  router_takes_sites : (old new : RouterNodeState) (sites : List SiteValue) → IsMade A config number (Router old) (Router new) now (events.Reload number sites) act → ⊥
  router_takes_sites old new sites made = made.1

  renewed_wrongly : (old new : ServerNodeState) (sites : List SiteValue) (count : ℕ) → IsMade A config number (Server old) (Server new) now (events.Reload number sites) act → extends old.core.sites sites ≡ true
      → act.line ≡ lines.Renewed number count → ⊥
  renewed_wrongly old new sites count made goes_on says =
      clash (sym (ap (λ (a : ActValue). a.line) made.1.1 ∙ ap (λ (b : Bool). reload_line number b (length sites)) goes_on) ∙ says)
    where
      clash : lines.Reloaded number (length sites) ≡ lines.Renewed number count → ⊥
      clash e = absurd cc

-- a printed line has no other number for a datagram, whatever that is in a network
module _ (server part key nonce datagram other : ℕ) where
  abbrev sent_step : Step
  sent_step = record {
    event = events.Send 1 server part Done;
    line = lines.Sent 1 server part key nonce datagram;
    actor = 1;
    shown = record { kept = empty; faults = 0; is_obedient = true };
  }

  printed_number : ArePrinted (sent_step ∷ []) (lines.Sent 1 server part key nonce (suc other) ∷ []) → ⊥
  printed_number (inl (quiet, rest)) = quiet
  printed_number (inr (line, rest, is, same, more)) = absurd (let clash : ◌≡◌ {A = ℕ} (suc other) 0 = ap first_number is ∙ ap number_of same in omega (arith, clash))
    where
      first_number : List Line → ℕ
      first_number [] = 0
      first_number (l ∷ ls) = number_of l
