-- A router is told to register another database, or to go over to another key; a Map-Server is told to send a notice, or to take other
-- sites: each network that has the node takes the event.
use Rattle.std.proofs.Common.{Global, ◌≡◌, ℕ, ◌<◌, List, [], ◌++◌, length, append-nil, map, get_or, arith, Option, Some, None, Result, Ok, Err, refl, sym, ap, subst, ◌∙◌, Bool, true, false}
use Rattle.std.specs.Prelude.{IfSome, slice_set}
use Rattle.std.proofs.lemmas.List.{length-map}
use Rattle.std.proofs.lemmas.Option.{slice_get_within, get_or_from_slice_get}
use Rattle.lisp_records.specs.Database.{database_of}
use Rattle.lisp_records.specs.Record.{MapRecordValue}
use Rattle.lisp_records.specs.declared.address.Addr.{Addr}
use Rattle.lisp_records.specs.declared.router.RouterId.{RouterId}
use Rattle.lisp_policy.specs.Configuration.{ConfigValue}
use Rattle.lisp_policy.specs.Extends.{extends}
use Rattle.lisp_policy.specs.Site.{SiteValue}
use Rattle.lisp_nonces.specs.Store.{StoreState}
use Rattle.lisp_nonces.specs.declared.fate.Fate.TheVariants.{Done}
use Rattle.lisp_etr.specs.Etr.{EtrState}
use Rattle.lisp_etr.specs.Rounds.{new_rounds, rotated_rounds}
use Rattle.lisp_etr.specs.declared.rotate_fault.RotateFault.{RotateFault}
use Rattle.lisp_admission.specs.Checks.{secret_at}
use Rattle.lisp_admission.specs.declared.notice_fault.NoticeFault.{NoticeFault}
use Rattle.lisp_model.specs.declared.event.Event.TheVariants as events
use Rattle.lisp_model.specs.declared.line.Line.{Line}
use Rattle.lisp_model.specs.Trace.{Step, Opening, is_router, router_at}
use Rattle.lisp_refinement.specs.World.{DatagramValue, RouterNodeState, RouterCoreState, Up, Down, WorldState, key_count, ServerNodeState}
use Rattle.lisp_refinement.specs.Calls.{CoreAnswersRotate, NodeNotifies}
use Rattle.lisp_refinement.specs.Events.{NodeRotates, changed_node, changed_core, change_line, address_of, SaysNoticeAnswer, NodeReloads, reload_line}
use Rattle.lisp_refinement.specs.Stands.{Stands}
use Rattle.lisp_refinement.specs.Taking.{NetworkTakes}
use Rattle.lisp_nodes.specs.Asked.{asked_rotate_line}
use Rattle.lisp_world.specs.Faults.{IsPlaceWithKey, router_fault}
use Rattle.lisp_world.proofs.Keys.{rotated}
use Rattle.lisp_turns.specs.Act.{ActValue, numbered, line_act}
use Rattle.lisp_turns.specs.Acts.{Does, DoesOne, with_act, datagrams}
use Rattle.lisp_turns.specs.Made.{RotatesTo}
use Rattle.lisp_turns.specs.Node.{Router, IsPlaced, HasNode, Server}
use Rattle.lisp_turns.proofs.Hearing.{router_left, placed_up}
use Rattle.lisp_turns.proofs.AgreeingFaults.{no_fault, there}
use Rattle.lisp_turns.specs.Serving.{NoticeAct}
use Rattle.lisp_turns.proofs.ServingServer.{HasRouter}

-- ---- another database

-- the line has no number for a datagram
changed_plain : (n number : ℕ) (db : List MapRecordValue) (core : RouterCoreState) → change_line number db core ≡ numbered n (change_line number db core)
changed_plain n number db (Up e) = refl
changed_plain n number db (Down config database) = refl

module _ (config : ConfigValue) (number now : ℕ) (old new : RouterNodeState) (db : List MapRecordValue) (act : ActValue)
    (fits : database_of db ≡ Ok db) (changes : new ≡ changed_node db now old) (said : act ≡ line_act (change_line number db old.core)) where
  change_does : Does Global config number (Router old) (Router new) now (events.Change number db) act
  change_does w o T stand same has clock = record {
    acts = record { place = has.0; number = has.1; before = old; after = new; was = has.2; left = left };
    fits = fits;
    changes = changes ∙ ap (λ (m : ℕ). changed_node db m old) (sym clock);
    said = ap (λ (a : ActValue). numbered (length w.bag) a.line) said ∙ sym (changed_plain (length w.bag) number db old.core);
  }
    where
      left : with_act w number (Router new) act ≡ record w { bag = w.bag ++ []; routers = slice_set w.routers has.0 new }
      left = ap (λ (a : ActValue). with_act w number (Router new) a) said ∙ router_left w number has.0 new (line_act (change_line number db old.core)) has.1

  -- it keeps as many rounds
  placed_core : (core : RouterCoreState) → old.core ≡ core → IsPlaced config number (Router old) → IsPlaced config number (Router new)
  placed_core (Up e) was placed =
      placed_up config number old new e (record e { database = db; rounds = map (new_rounds now) e.rounds }) was
      (ap (λ (n : RouterNodeState). n.core) changes ∙ ap (changed_core db now) was) (ap (λ (n : RouterNodeState). n.servers) changes) (length-map e.rounds (new_rounds now)) placed
  placed_core (Down settings database) was placed =
      subst (λ (n : RouterNodeState). IsPlaced config number (Router n)) (sym (changes ∙ ap (λ (c : RouterCoreState). record old { core = changed_core db now c }) was ∙ ap (λ (c : RouterCoreState). record old { core = c }) (sym was))) placed

  pub change_does_one : IsPlaced config number (Router old) → DoesOne Global config number (Router old) (Router new) now (events.Change number db) act
  change_does_one placed = record {
    does = change_does;
    made = (refl, (fits, changes, said));
    placed = placed_core old.core refl placed;
    plain = ap (λ (a : ActValue). a.line) said ∙ changed_plain 0 number db old.core ∙ ap (λ (a : ActValue). numbered 0 a.line) (sym said);
  }

-- ---- another key

rotated_plain : (n number key : ℕ) (answer : Option (Result (Unit {0}) RotateFault)) → asked_rotate_line number key answer ≡ numbered n (asked_rotate_line number key answer)
rotated_plain n number key (Some (Ok done)) = refl
rotated_plain n number key (Some (Err fault)) = refl
rotated_plain n number key None = refl

-- in a network that has the router
module _ (w : WorldState) (o : Opening) (T : List Step) (stand : Stands w o T) (config : ConfigValue) (number key : ℕ) (old : RouterNodeState) (same : o.config ≡ config) (has : HasNode w number (Router old)) where
  within : has.0 < length w.routers
  within = slice_get_within w.routers has.0 old has.2

  none : router_fault w number ≡ None
  none = no_fault w o T stand number has.0 (omega (arith, has.1, stand.steps.servers)) (omega (arith, within, stand.steps.routers))

  secrets : (known : Option (List ℕ)) → secret_at config.sites old.me.site key ≡ known → secret_at w.sites old.me.site key ≡ known
  secrets known is = ap (λ s. secret_at s old.me.site key) (stand.steps.sites ∙ ap (λ (c : ConfigValue). c.sites) same) ∙ is

  -- it has the key
  module _ (secret : List ℕ) (known : secret_at config.sites old.me.site key ≡ Some secret) where
    abbrev its : IsPlaceWithKey w number key has.0 secret
    its = record { is_place = (has.1, within); none = none; node = old; there = has.2; known = secrets (Some secret) known }

    read : old ≡ get_or w.routers has.0 old
    read = sym (get_or_from_slice_get w.routers has.0 old old has.2)

module _ (config : ConfigValue) (number now key : ℕ) (bound : key < key_count) (old new : RouterNodeState) (act : ActValue) (to : RotatesTo config number old new now key act) where
  rotate_does : Does Global config number (Router old) (Router new) now (events.Rotate number key Done) act
  rotate_does w o T stand same has clock =
      subst (λ (p : WorldState × Line). NetworkTakes Global w p.0 (events.Rotate number key Done) p.1)
      {x = (record w { routers = slice_set w.routers has.0 new }, asked_rotate_line number key to.answer)}
      {y = (with_act w number (Router new) act, numbered (length w.bag) act.line)}
      (λ i. (sym left i, sym line i))
      (rotated w number key has.0 to.secret (its w o T stand config number key old same has to.secret to.known) old (read w o T stand config number key old same has to.secret to.known) new bound
      Done to.answer to.unused
      (subst (λ (m : ℕ). IfSome to.answer (λ a. NodeRotates old new key to.secret Done m a)) (sym clock) to.up) to.down)
    where
      left : with_act w number (Router new) act ≡ record w { routers = slice_set w.routers has.0 new }
      left =
          ap (λ (a : ActValue). with_act w number (Router new) a) to.said
          ∙ router_left w number has.0 new (line_act (asked_rotate_line number key to.answer)) has.1
          ∙ ap (λ (b : List DatagramValue). record w { bag = b; routers = slice_set w.routers has.0 new }) (append-nil w.bag)

      line : numbered (length w.bag) act.line ≡ asked_rotate_line number key to.answer
      line = ap (λ (a : ActValue). numbered (length w.bag) a.line) to.said ∙ sym (rotated_plain (length w.bag) number key to.answer)

  -- it keeps as many rounds
  same_length : (a : Result (Unit {0}) RotateFault) (etr left : EtrState) (armed called : StoreState) (secret : List ℕ) → CoreAnswersRotate etr left key secret armed called now a → length left.rounds ≡ length etr.rounds
  same_length (Ok done) etr left armed called secret call = ap (λ (e : EtrState). length e.rounds) call.rotates ∙ length-map etr.rounds (rotated_rounds now)
  same_length (Err fault) etr left armed called secret call = ap (λ (e : EtrState). length e.rounds) call.0

  placed_answer : (answer : Option (Result (Unit {0}) RotateFault)) → IfSome answer (NodeRotates old new key to.secret Done now) → (answer ≡ None → new ≡ old)
      → IsPlaced config number (Router old) → IsPlaced config number (Router new)
  placed_answer (Some a) up down placed =
      placed_up config number old new up.etr up.left up.was (ap (λ (n : RouterNodeState). n.core) up.is) (ap (λ (n : RouterNodeState). n.servers) up.is)
      (same_length a up.etr up.left up.call.armed up.call.called to.secret up.call.call) placed
  placed_answer None up down placed = subst (λ (n : RouterNodeState). IsPlaced config number (Router n)) (sym (down refl)) placed

  pub rotate_does_one : IsPlaced config number (Router old) → DoesOne Global config number (Router old) (Router new) now (events.Rotate number key Done) act
  rotate_does_one placed = record {
    does = rotate_does;
    made = (refl, to);
    placed = placed_answer to.answer to.up (λ none. (to.down none).1) placed;
    plain = ap (λ (a : ActValue). a.line) to.said ∙ rotated_plain 0 number key to.answer ∙ ap (λ (a : ActValue). numbered 0 a.line) (sym to.said);
  }

-- ---- a notice

module _ (config : ConfigValue) (number router now : ℕ) (old new : ServerNodeState) (answer : Result (Addr × List ℕ) NoticeFault) (act : ActValue)
    (kind : is_router config router ≡ true) (notifies : NodeNotifies old new Done (router_at config router).me now answer) (told : NoticeAct number router answer act) where
  -- its line and its datagram, in a network
  says : (w : WorldState) (a : Result (Addr × List ℕ) NoticeFault) → NoticeAct number router a act
      → SaysNoticeAnswer w number router a (numbered (length w.bag) act.line) (datagrams (address_of w number) act.message)
  says w (Ok sent) its = record {
    head = its.head;
    read = its.read;
    said = ap (λ (a : ActValue). numbered (length w.bag) a.line) its.is;
    posts = ap (λ (a : ActValue). datagrams (address_of w number) a.message) its.is;
  }
  says w (Err fault) its = (ap (λ (a : ActValue). numbered (length w.bag) a.line) its, ap (λ (a : ActValue). datagrams (address_of w number) a.message) its)

  notice_does : Does Global config number (Server old) (Server new) now (events.Notice number router Done) act
  notice_does w o T stand same has clock =
      let r = subst (λ (c : ConfigValue). HasRouter w router (router_at c router).me) same (there w o T stand router (ap (λ (c : ConfigValue). is_router c router) same ∙ kind)) in
      record {
        place = r.place;
        number = r.is;
        node = r.node;
        there = r.there;
        more = datagrams (address_of w number) act.message;
        acts = record { before = old; after = new; was = has; left = refl };
        answer = answer;
        notifies = subst (λ (p : ℕ × RouterId). NodeNotifies old new Done p.1 p.0 answer) (λ i. (sym clock i, sym r.its i)) notifies;
        says = says w answer told;
      }

  -- its line has the number 0
  plain : (a : Result (Addr × List ℕ) NoticeFault) → NoticeAct number router a act → act.line ≡ numbered 0 act.line
  plain (Ok sent) its = ap (λ (a : ActValue). a.line) its.is ∙ ap (λ (a : ActValue). numbered 0 a.line) (sym its.is)
  plain (Err fault) its = ap (λ (a : ActValue). a.line) its ∙ ap (λ (a : ActValue). numbered 0 a.line) (sym its)

  pub notice_does_one : IsPlaced config number (Server old) → DoesOne Global config number (Server old) (Server new) now (events.Notice number router Done) act
  notice_does_one placed = record {
    does = notice_does;
    made = (refl, (kind, answer, notifies, told));
    placed = placed;
    plain = plain answer told;
  }

-- ---- other sites

-- the line has no number for a datagram
reload_plain : (n number count : ℕ) (kept : Bool) → reload_line number kept count ≡ numbered n (reload_line number kept count)
reload_plain n number count true = refl
reload_plain n number count false = refl

module _ (config : ConfigValue) (number now : ℕ) (old new : ServerNodeState) (sites : List SiteValue) (act : ActValue)
    (reloads : NodeReloads old new sites now) (said : act ≡ line_act (reload_line number (extends old.core.sites sites) (length sites))) where
  reload_does : Does Global config number (Server old) (Server new) now (events.Reload number sites) act
  reload_does w o T stand same has clock = record {
    acts = record { before = old; after = new; was = has; left = left };
    reloads = subst (λ (m : ℕ). NodeReloads old new sites m) (sym clock) reloads;
    said = ap (λ (a : ActValue). numbered (length w.bag) a.line) said ∙ sym (reload_plain (length w.bag) number (length sites) (extends old.core.sites sites));
  }
    where
      left : with_act w number (Server new) act ≡ record w { bag = w.bag ++ []; servers = slice_set w.servers number new }
      left = ap (λ (a : ActValue). with_act w number (Server new) a) said

  pub reload_does_one : IsPlaced config number (Server old) → DoesOne Global config number (Server old) (Server new) now (events.Reload number sites) act
  reload_does_one placed = record {
    does = reload_does;
    made = (refl, (reloads, said));
    placed = placed;
    plain = ap (λ (a : ActValue). a.line) said ∙ reload_plain 0 number (length sites) (extends old.core.sites sites) ∙ ap (λ (a : ActValue). numbered 0 a.line) (sym said);
  }
