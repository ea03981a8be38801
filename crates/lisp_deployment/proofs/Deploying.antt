-- Turns of several nodes, in any order, are one legal trace's.
use Rattle.std.proofs.Common.{◌≡◌, inl, Bool, true, false, true≢false, ℕ, suc, ◌≤◌, List, [], ◌∷◌, ◌++◌, map, reverse, refl, sym, ap, subst, ◌∙◌, arith}
use Rattle.std.specs.Prelude.{◌≢◌, ◌==◌}
use Rattle.std.proofs.lemmas.List.{append_assoc}
use Rattle.std.proofs.lemmas.Bool.Decides.{Decides-eqb}
use Rattle.lisp_records.specs.declared.address.Addr.{Addr}
use Rattle.lisp_policy.specs.Configuration.{ConfigValue}
use Rattle.lisp_model.specs.Trace.{Step, Opening, address_at}
use Rattle.lisp_refinement.specs.World.{DatagramValue, WorldState}
use Rattle.lisp_refinement.specs.Events.{address_of}
use Rattle.lisp_refinement.proofs.Acting.{address_is}
use Rattle.lisp_turns.specs.Node.{NodeState, HasNode}
use Rattle.lisp_turns.specs.Outside.{Call}
use Rattle.lisp_turns.specs.Part.{WasOrdered, lines_of, sent_of, received_of, datagram_from, IsPart}
use Rattle.lisp_turns.specs.Turn.{TurnState}
use Rattle.lisp_turns.proofs.Parts.{turn_listens, turn_reaches, part_of, turns_part}
use Rattle.lisp_turns.proofs.Reaching.{Reaches}
use Rattle.lisp_deployment.specs.Deployment.{DeploymentState, calls_in, sent_by, TakesTurn, IsAmong, DeploymentStands, TurnsAreOneTrace}
use Rattle.lisp_deployment.specs.Late.{LateTurnsAreParts}
use Rattle.lisp_deployment.proofs.Among.{among_itself, among_both}

-- where one node changed, and a network has that, it has all nodes
pub nodes_stand : (number : ℕ) (old new : DeploymentState) (w left : WorldState) → ((k : ℕ) → k ≢ number → new.nodes k ≡ old.nodes k) → HasNode left number (new.nodes number).node
    → ((k : ℕ) (other : NodeState) → k ≢ number → HasNode w k other → HasNode left k other) → (k : ℕ) → HasNode w k (old.nodes k).node → HasNode left k (new.nodes k).node
nodes_stand number old new w left same has others k there = by (k == number) refl
  where
    by : (b : Bool) → (k == number) ≡ b → HasNode left k (new.nodes k).node
    by true is = let here : number ≡ k = sym ((Decides-eqb k number).0 is) in subst (λ m. HasNode left m (new.nodes m).node) here has
    by false is = let differs : (k ≢ number) = λ e. absurd (true≢false (sym ((Decides-eqb k number).1 e) ∙ is)) in
        subst (λ (x : TurnState). HasNode left k x.node) (sym (same k differs)) (others k (old.nodes k).node differs there)

-- a node has the address of its configuration
pub its_address : (config : ConfigValue) (number : ℕ) (d : DeploymentState) (w : WorldState) (o : Opening) (T : List Step) → DeploymentStands config d w o T → address_of w number ≡ address_at config number
its_address config number d w o T stand = address_is w o T stand.stands number ∙ ap (λ (c : ConfigValue). address_at c number) stand.config_is

-- a deployment goes on by a turn
module _ (A : Type 0) (config : ConfigValue) (number : ℕ) (asked : List Call) (old new : DeploymentState) (takes : TakesTurn A config number asked old new) (w : WorldState) (o : Opening) (T : List Step)
    (stand : DeploymentStands config old w o T) where
  abbrev Turned : List Call → Type 0
  Turned calls = Reaches (WasOrdered calls) number (lines_of calls) (sent_of calls) (received_of calls) (new.nodes number).node takes.turn.now w o T

  abbrev pub turned : Turned asked
  turned =
      let turn = takes.turn in
      let s = old.nodes number in
      subst Turned (sym takes.asked) (turn_reaches A config number takes.places s (new.nodes number) turn w o T stand.stands stand.config_is (stand.nodes number takes.known)
      (subst (λ m. m ≤ turn.now) (sym stand.clock) takes.later) (calls_in A config number takes.places s (new.nodes number) turn)
      (turn_listens number turn.reception s.receives turn.now turn.dead turn.intake turn.between turn.served turn.ended turn.deeds))

  pub its_part : IsPart number asked w turned.left o T turned.steps
  its_part = part_of number asked (new.nodes number).node takes.turn.now w o T turned

  pub turn_bag : turned.left.bag ≡ w.bag ++ sent_by config number asked
  turn_bag = its_part.sent ∙ ap (λ (a : Addr). w.bag ++ map (datagram_from a) (reverse (sent_of asked))) (its_address config number old w o T stand)

  more_sent : IsAmong new.sent turned.left.bag
  more_sent = subst (λ (p : List DatagramValue × List DatagramValue). IsAmong p.0 p.1) {x = (old.sent ++ sent_by config number asked, w.bag ++ sent_by config number asked)} {y = (new.sent, turned.left.bag)}
      (λ i. (sym takes.sent i, sym turn_bag i)) (among_both old.sent w.bag (sent_by config number asked) (sent_by config number asked) stand.sent (among_itself (sent_by config number asked)))

  pub turn_stands : DeploymentStands config new turned.left o (turned.steps ++ T)
  turn_stands = record {
    stands = turned.stands;
    config_is = stand.config_is;
    nodes = λ k known. nodes_stand number old new w turned.left takes.others turned.node_is turned.others k (stand.nodes k known);
    clock = turned.clock ∙ sym takes.moment;
    sent = more_sent;
  }

-- and by turns
pub turns_are_one_trace : (A : Type 0) → TurnsAreOneTrace A
turns_are_one_trace A config [] old new is w o T stand = record {
  steps = [];
  left = w;
  parts = (refl, refl);
  stands = subst (λ (d : DeploymentState). DeploymentStands config d w o T) (sym is) stand;
}
turns_are_one_trace A config (turn ∷ earlier) old new (between, took, takes) w o T stand =
    let first = turns_are_one_trace A config earlier old between took w o T stand in
    let second = turned A config turn.0 turn.1 between new takes first.left o (first.steps ++ T) first.stands in
    record {
      steps = second.steps ++ first.steps;
      left = second.left;
      parts = (first.left, first.steps, second.steps, first.parts, its_part A config turn.0 turn.1 between new takes first.left o (first.steps ++ T) first.stands, refl);
      stands = subst (λ (l : List Step). DeploymentStands config new second.left o l) (sym (append_assoc second.steps first.steps T))
          (turn_stands A config turn.0 turn.1 between new takes first.left o (first.steps ++ T) first.stands);
    }

-- turns that begin late
pub late_turns_are_parts : (A : Type 0) → LateTurnsAreParts A
late_turns_are_parts A config number places count s t turns w o T stand same has early = turns_part A config number places (suc count) s t turns w o T stand same has early (inl (omega arith))
