-- A router sends a Map-Register that is due: each network that has it takes the event, and it isn't due any more.
use Rattle.std.proofs.Common.{Global, ◌≡◌, ℕ, ◌<◌, List, [], ◌∷◌, length, Result, Ok, Err, refl, sym, ap, subst, ◌∙◌}
use Rattle.std.specs.Prelude.{slice_get}
use Rattle.std.proofs.lemmas.List.{length-set}
use Rattle.lisp_records.specs.declared.address.Addr.{Addr}
use Rattle.lisp_policy.specs.Configuration.{ConfigValue}
use Rattle.lisp_nonces.specs.declared.fate.Fate.TheVariants.{Done}
use Rattle.lisp_etr.specs.Etr.{EtrState}
use Rattle.lisp_etr.specs.declared.rounds.Rounds.{Rounds}
use Rattle.lisp_etr.specs.declared.send_fault.SendFault.{SendFault}
use Rattle.lisp_model.specs.declared.event.Event.TheVariants as events
use Rattle.lisp_model.specs.Trace.{EventValue, Step, Opening, address_at}
use Rattle.lisp_nodes.proofs.RouterCalls.{sends_up}
use Rattle.lisp_refinement.specs.World.{DatagramValue, RouterNodeState, Up, WorldState}
use Rattle.lisp_refinement.specs.Calls.{CoreAnswersSend}
use Rattle.lisp_refinement.specs.Nodes.{up_in}
use Rattle.lisp_refinement.specs.Events.{address_of, place_of, NodeSends, SaysSendAnswer}
use Rattle.lisp_refinement.specs.Stands.{Stands}
use Rattle.lisp_refinement.proofs.Acting.{address_is}
use Rattle.lisp_turns.specs.Act.{ActValue, numbered}
use Rattle.lisp_turns.specs.Acts.{Does, DoesOne, datagrams}
use Rattle.lisp_turns.specs.Due.{IsRegisterDue, SendsDue, IsRefused, DoesDuty}
use Rattle.lisp_turns.specs.Node.{Router, IsPlaced}
use Rattle.lisp_turns.specs.Serving.{SendAct}
use Rattle.lisp_turns.proofs.Hearing.{router_left, placed_up}
use Rattle.lisp_turns.proofs.ServingDue.{due_before}

module _ (config : ConfigValue) (number server part now : ℕ) (old new : RouterNodeState) (act : ActValue) (answer : Result (List ℕ) SendFault)
    (sends : NodeSends old new server part Done now answer) (told : SendAct config number server part answer act) (kind : server < length config.servers) where
  -- its line and its datagram, in a network
  module _ (w : WorldState) (o : Opening) (T : List Step) (stand : Stands w o T) (same : o.config ≡ config) where
    abbrev more : List DatagramValue
    more = datagrams (address_of w number) act.message

    its_address : address_at config server ≡ address_of w server
    its_address = ap (λ (c : ConfigValue). address_at c server) (sym same) ∙ sym (address_is w o T stand server)

    says : (a : Result (List ℕ) SendFault) → SendAct config number server part a act → SaysSendAnswer w number server part a (numbered (length w.bag) act.line) more
    says (Ok bytes) its = record {
      head = its.head;
      read = its.read;
      said = ap (λ (a : ActValue). numbered (length w.bag) a.line) its.is;
      posts = ap (λ (a : ActValue). datagrams (address_of w number) a.message) its.is ∙ ap (λ (to : Addr). record { from = address_of w number; to = to; bytes = bytes } ∷ []) its_address;
    }
    says (Err fault) its = (ap (λ (a : ActValue). numbered (length w.bag) a.line) its, ap (λ (a : ActValue). datagrams (address_of w number) a.message) its)

  does : Does Global config number (Router old) (Router new) now (events.Send number server part Done) act
  does w o T stand same has clock = record {
    kind = subst (λ (n : ℕ). server < n) (sym (stand.steps.servers ∙ ap (λ (c : ConfigValue). length c.servers) same)) kind;
    more = datagrams (address_of w number) act.message;
    acts = record { place = has.0; number = has.1; before = old; after = new; was = has.2; left = router_left w number has.0 new act has.1 };
    sends = sends_up w number server part Done old new answer (numbered (length w.bag) act.line) (datagrams (address_of w number) act.message)
        (subst (λ (m : ℕ). NodeSends old new server part Done m answer) (sym clock) sends) (says w o T stand same answer told);
  }

  listed : new.servers ≡ old.servers
  listed = ap (λ (n : RouterNodeState). n.servers) sends.is

  its_core : new.core ≡ Up sends.left
  its_core = ap (λ (n : RouterNodeState). n.core) sends.is

  abbrev place : ℕ
  place = place_of old.servers server

  abbrev Answers : Result (List ℕ) SendFault → Type 0
  Answers a = CoreAnswersSend sends.etr sends.left sends.call.armed sends.call.called place part now a

  done : (a : Result (List ℕ) SendFault) → Answers a → SendAct config number server part a act → (IsRefused act.line → ⊥) → (number ≡ number) × IsRegisterDue new server part now → ⊥
  done (Ok bytes) call its some due = (due_before old new place part now sends.etr sends.left sends.was its_core listed call.sends server part due.1).other refl refl
  done (Err fault) call its some due = some (subst (λ (a : ActValue). IsRefused a.line) (sym its) tt)

  -- where it refused it is due as before
  refused_due : sends.left ≡ sends.etr → (s p : ℕ) → IsRegisterDue new s p now → IsRegisterDue old s p now
  refused_due unchanged s p d = record {
    etr = d.etr;
    up = ap up_in (sends.was ∙ ap Up (sym unchanged) ∙ sym its_core) ∙ d.up;
    rounds = d.rounds;
    with_server = (λ i. slice_get d.etr.rounds (place_of (sym listed i) s)) ∙ d.with_server;
    round = d.round;
    of_part = d.of_part;
    there = d.there;
    due = d.due;
  }

  was_due : (a : Result (List ℕ) SendFault) → Answers a → (s p : ℕ) → IsRegisterDue new s p now → IsRegisterDue old s p now
  was_due (Ok bytes) call s p d = (due_before old new place part now sends.etr sends.left sends.was its_core listed call.sends s p d).due
  was_due (Err fault) call s p d = refused_due call.err s p d

  others : (other : EventValue) → SendsDue (Router new) number now other → SendsDue (Router old) number now other
  others (events.Send r s p Done) due = (due.0, was_due answer sends.call.call s p due.1)
  others _ due = absurd due

  -- its line has the number 0
  plain : (a : Result (List ℕ) SendFault) → SendAct config number server part a act → act.line ≡ numbered 0 act.line
  plain (Ok bytes) its = ap (λ (a : ActValue). a.line) its.is ∙ ap (λ (a : ActValue). numbered 0 a.line) (sym its.is)
  plain (Err fault) its = ap (λ (a : ActValue). a.line) its ∙ ap (λ (a : ActValue). numbered 0 a.line) (sym its)

  -- it has as many rounds as before
  same_length : (a : Result (List ℕ) SendFault) → Answers a → length sends.left.rounds ≡ length sends.etr.rounds
  same_length (Ok bytes) call = ap (λ (rs : List Rounds). length rs) call.sends.rounds ∙ length-set sends.etr.rounds place _
  same_length (Err fault) call = ap (λ (e : EtrState). length e.rounds) call.err

  does_one : IsPlaced config number (Router old) → DoesOne Global config number (Router old) (Router new) now (events.Send number server part Done) act
  does_one placed = record {
    does = does;
    made = (refl, (answer, sends, told));
    placed = placed_up config number old new sends.etr sends.left sends.was its_core listed (same_length answer sends.call.call) placed;
    plain = plain answer told;
  }

  pub sends_duty : IsPlaced config number (Router old) → IsRegisterDue old server part now → DoesDuty Global config number (Router old) (Router new) now act
  sends_duty placed due = record {
    event = events.Send number server part Done;
    does = does_one placed;
    duty = refl;
    was_due = λ is. (refl, due);
    notice_was_due = λ is. absurd is;
    done = done answer sends.call.call told;
    others = others;
    other_notices = λ other due. absurd due;
  }
