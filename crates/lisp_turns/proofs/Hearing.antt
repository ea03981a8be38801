-- Bytes arrive at a node: each network that has it takes the event with the line that it tells, and with its answer.
use Rattle.std.proofs.Common.{◌≡◌, ℕ, ◌+◌, List, [], ◌++◌, length, Option, Some, None, Result, Ok, Err, refl, sym, ap, subst, inl, inr, ◌∙◌, arith}
use Rattle.std.specs.Prelude.{◌-◌, slice_set}
use Rattle.std.specs.Option.{option_map}
use Rattle.lisp_records.specs.declared.address.Addr.{Addr}
use Rattle.lisp_policy.specs.Configuration.{ConfigValue}
use Rattle.lisp_nonces.specs.declared.fate.Fate.TheVariants.{Done}
use Rattle.lisp_etr.specs.Etr.{EtrState}
use Rattle.lisp_etr.specs.Hearing.{etr_after}
use Rattle.lisp_etr.specs.declared.notify_fault.NotifyFault.{NotifyFault}
use Rattle.lisp_etr.specs.declared.seen.Seen.{Seen}
use Rattle.lisp_etr.specs.declared.seen.Seen.TheVariants.{Counted, Notice}
use Rattle.std.proofs.lemmas.List.{length-set}
use Rattle.lisp_admission.specs.declared.refused.Refused.{Refused}
use Rattle.lisp_server.specs.declared.took.Took.{Took}
use Rattle.lisp_server.specs.declared.took.Took.TheVariants.{Accepted, NoticeDone}
use Rattle.lisp_model.specs.declared.event.Event.TheVariants as events
use Rattle.lisp_model.specs.declared.line.Line.{Line}
use Rattle.lisp_nodes.specs.declared.arrival.Arrival.{Arrival}
use Rattle.lisp_nodes.specs.Hearing.{ServerHears, OneRouterHears}
use Rattle.lisp_refinement.specs.World.{DatagramValue, ServerNodeState, RouterNodeState, RouterCoreState, Up, Down, WorldState}
use Rattle.lisp_refinement.specs.Calls.{NodeReceives}
use Rattle.lisp_refinement.specs.Nodes.{up_in}
use Rattle.lisp_refinement.specs.Events.{address_of, datagram_to, replies, server_line, router_line, RouterHears}
use Rattle.lisp_refinement.proofs.Gets.{same_some}
use Rattle.lisp_turns.specs.Act.{ActValue, numbered}
use Rattle.lisp_turns.specs.Acts.{Does, DoesOne, datagrams, with_act}
use Rattle.lisp_turns.specs.Made.{arrival}
use Rattle.lisp_turns.specs.Node.{Server, Router, HasRounds, IsPlaced}
use Rattle.lisp_turns.specs.Serving.{answer_act}

-- an answer as a datagram of a network
pub answered : (from to : Addr) (reply : Option (List ℕ)) → datagram_to from to reply ≡ datagrams from (option_map (λ bytes. (to, bytes)) reply)
answered from to None = refl
answered from to (Some bytes) = refl

-- a line, once its datagram has its number in the network
module _ {A : Type 0} (node n : ℕ) where
  server_numbered : (answer : Result (Took A) Refused) → numbered n (server_line node 0 answer) ≡ server_line node n answer
  server_numbered (Ok (Accepted router key nonce None)) = refl
  server_numbered (Ok (Accepted router key nonce (Some reply))) = refl
  server_numbered (Ok (NoticeDone router nonce)) = refl
  server_numbered (Err why) = refl

  router_numbered : (servers : List ℕ) (key : ℕ) (answer : Result (Seen A) NotifyFault) → numbered n (router_line node 0 servers key answer) ≡ router_line node n servers key answer
  router_numbered servers key (Ok (Counted place part nonce)) = refl
  router_numbered servers key (Ok (Notice place nonce records bytes)) = refl
  router_numbered servers key (Err fault) = refl

-- a router's place by its number
pub place_is : (number count place : ℕ) → number ≡ count + place → number - count ≡ place
place_is number count place is = omega (arith, is)

-- a router's node that is written over another, by its number
pub router_left : (w : WorldState) (number place : ℕ) (new : RouterNodeState) (act : ActValue) → number ≡ length w.servers + place
    → with_act w number (Router new) act ≡ record w { bag = w.bag ++ datagrams (address_of w number) act.message; routers = slice_set w.routers place new }
router_left w number place new act is =
    ap (λ (k : ℕ). record w { bag = w.bag ++ datagrams (address_of w number) act.message; routers = slice_set w.routers k new }) (place_is number (length w.servers) place is)

-- a router that is up keeps its place where it keeps as many rounds
module _ (config : ConfigValue) (number : ℕ) (old new : RouterNodeState) (etr left : EtrState) (was : old.core ≡ Up etr) (is : new.core ≡ Up left) (listed : new.servers ≡ old.servers)
    (same : length left.rounds ≡ length etr.rounds) (placed : IsPlaced config number (Router old)) where
  rounds_up : HasRounds new
  rounds_up e up =
      let its : left ≡ e = same_some left e (sym (ap up_in is) ∙ up) in
      ap (λ (x : EtrState). length x.rounds) (sym its) ∙ same ∙ placed.5 etr (ap up_in was) ∙ sym (ap (λ (l : List ℕ). length l) listed)

  pub placed_up : IsPlaced config number (Router new)
  placed_up = (placed.0, placed.1, placed.2, placed.3, listed ∙ placed.4, rounds_up)

-- what it hears leaves as many
heard_length : {A : Type 0} (etr : EtrState) (answer : Result (Seen A) NotifyFault) {left : EtrState} → left ≡ etr_after etr answer → length left.rounds ≡ length etr.rounds
heard_length etr (Ok (Counted place part nonce)) is = ap (λ (e : EtrState). length e.rounds) is ∙ length-set etr.rounds place _
heard_length etr (Ok (Notice place nonce records bytes)) is = ap (λ (e : EtrState). length e.rounds) is
heard_length etr (Err fault) is = ap (λ (e : EtrState). length e.rounds) is

module _ (A : Type 0) (config : ConfigValue) (number : ℕ) (from : Addr) (bytes : List ℕ) (now : ℕ) (line : Line) (reply : Option (List ℕ)) where
  abbrev how : Arrival
  how = arrival from now

  abbrev act : ActValue
  act = answer_act line from reply

  -- at a Map-Server
  server_does : (old new : ServerNodeState) → ServerHears A old new number how bytes (line, reply)
      → Does A config number (Server old) (Server new) now (events.Junk number from bytes) (answer_act line from reply)
  server_does old new heard w o T stands same has clock = inl (record {
    answer = heard.0;
    acts = record { before = old; after = new; was = has; left = left };
    receives = subst (λ (m : ℕ). NodeReceives old new Done from bytes m heard.0) (sym clock) heard.1;
    said = ap (numbered (length w.bag)) heard.2 ∙ server_numbered number (length w.bag) heard.0;
  })
    where
      left : with_act w number (Server new) (answer_act line from reply) ≡ record w { bag = w.bag ++ replies (address_of w number) from heard.0; servers = slice_set w.servers number new }
      left = ap (λ (more : List DatagramValue). record w { bag = w.bag ++ more; servers = slice_set w.servers number new })
          (sym (heard.3 (address_of w number) from ∙ answered (address_of w number) from reply))

  -- its line has the number 0
  server_plain : (old new : ServerNodeState) → ServerHears A old new number how bytes (line, reply) → line ≡ numbered 0 line
  server_plain old new heard = heard.2 ∙ sym (server_numbered number 0 heard.0) ∙ ap (numbered 0) (sym heard.2)

  server_does_act : (old new : ServerNodeState) → ServerHears A old new number how bytes (line, reply) → IsPlaced config number (Server old)
      → DoesOne A config number (Server old) (Server new) now (events.Junk number from bytes) act
  server_does_act old new heard placed = record {
    does = server_does old new heard;
    made = (refl, (reply, heard, refl));
    placed = placed;
    plain = server_plain old new heard;
  }

  pub server_does_one : (old new : ServerNodeState) (made : ActValue) → made ≡ act → ServerHears A old new number how bytes (line, reply) → IsPlaced config number (Server old)
      → DoesOne A config number (Server old) (Server new) now (events.Junk number from bytes) made
  server_does_one old new made is heard placed =
      subst (λ (a : ActValue). DoesOne A config number (Server old) (Server new) now (events.Junk number from bytes) a) (sym is) (server_does_act old new heard placed)

  -- at a router of a network whose bag is empty, and of one with any other bag
  hears_numbered : (w : WorldState) (old new : RouterNodeState) (core : RouterCoreState)
      → RouterHears A (record w { bag = [] }) number old new Done from bytes core line (datagram_to (address_of w number) from reply)
      → RouterHears A w number old new Done from bytes core (numbered (length w.bag) line) (datagrams (address_of w number) (answer_act line from reply).message)
  hears_numbered w old new (Up e) up = record {
    answer = up.answer;
    hears = up.hears;
    said = ap (numbered (length w.bag)) up.said ∙ router_numbered number (length w.bag) old.servers up.hears.etr.config.key_id up.answer;
    posts = sym (answered (address_of w number) from reply) ∙ up.posts;
  }
  hears_numbered w old new (Down settings database) down =
      (down.0, ap (numbered (length w.bag)) down.1, sym (answered (address_of w number) from reply) ∙ down.2)

  router_does : (old new : RouterNodeState) → OneRouterHears A old new number how bytes (line, reply)
      → Does A config number (Router old) (Router new) now (events.Junk number from bytes) (answer_act line from reply)
  router_does old new heard w o T stands same has clock = inr (record {
    more = datagrams (address_of w number) (answer_act line from reply).message;
    acts = record { place = has.0; number = has.1; before = old; after = new; was = has.2; left = router_left w number has.0 new (answer_act line from reply) has.1 };
    hears = hears_numbered w old new old.core (heard (record w { bag = [] }) refl);
  })

  -- the router keeps its place, and its line has the number 0
  record Keeps (new : RouterNodeState) : Type 0 where
    pub placed : IsPlaced config number (Router new)
    pub plain : line ≡ numbered 0 line

  router_keeps : (old new : RouterNodeState) → OneRouterHears A old new number how bytes (line, reply) → IsPlaced config number (Router old) → Keeps new
  router_keeps old new heard placed = at old.core refl (heard none refl)
    where
      none : WorldState
      none = record { sites = []; addresses = []; clock = 0; bag = []; servers = []; routers = [] }

      at : (core : RouterCoreState) → old.core ≡ core → RouterHears A none number old new Done from bytes core line (datagram_to (address_of none number) from reply) → Keeps new
      at (Up e) is up = record {
        placed = placed_up config number old new up.hears.etr up.hears.left up.hears.was (ap (λ (n : RouterNodeState). n.core) up.hears.is) (ap (λ (n : RouterNodeState). n.servers) up.hears.is) (heard_length up.hears.etr up.answer up.hears.call.after) placed;
        plain = up.said ∙ sym (router_numbered number 0 old.servers up.hears.etr.config.key_id up.answer) ∙ ap (numbered 0) (sym up.said);
      }
      at (Down settings database) is down = record {
        placed = subst (λ (n : RouterNodeState). IsPlaced config number (Router n)) (sym down.0) placed;
        plain = down.1 ∙ ap (numbered 0) (sym down.1);
      }

  router_does_act : (old new : RouterNodeState) → OneRouterHears A old new number how bytes (line, reply) → IsPlaced config number (Router old)
      → DoesOne A config number (Router old) (Router new) now (events.Junk number from bytes) act
  router_does_act old new heard placed = record {
    does = router_does old new heard;
    made = (refl, (reply, heard, refl));
    placed = (router_keeps old new heard placed).placed;
    plain = (router_keeps old new heard placed).plain;
  }

  pub router_does_one : (old new : RouterNodeState) (made : ActValue) → made ≡ act → OneRouterHears A old new number how bytes (line, reply) → IsPlaced config number (Router old)
      → DoesOne A config number (Router old) (Router new) now (events.Junk number from bytes) made
  router_does_one old new made is heard placed =
      subst (λ (a : ActValue). DoesOne A config number (Router old) (Router new) now (events.Junk number from bytes) a) (sym is) (router_does_act old new heard placed)
