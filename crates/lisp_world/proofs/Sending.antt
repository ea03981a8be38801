-- A router that was asked for a Map-Register, and what the network says of it.
use Rattle.std.proofs.Common.{[], ◌≡◌, ℕ, ◌+◌, ◌<◌, List, get_or, ◌∷◌, ◌++◌, Option, Some, None, Result, Ok, Err, false, refl, sym, ap, ◌∙◌, subst, length}
use Rattle.std.specs.Prelude.{IfOk, IfSome, IsSome, slice_set}
use Rattle.lisp_messages.specs.Head.{head_at}
use Rattle.lisp_records.specs.declared.address.Addr.{Addr}
use Rattle.lisp_nonces.specs.declared.fate.Fate.{Fate}
use Rattle.lisp_etr.specs.declared.send_fault.SendFault.{SendFault}
use Rattle.lisp_model.specs.declared.line.Line.{Line}
use Rattle.lisp_model.specs.declared.line.Line.TheVariants as lines
use Rattle.lisp_nodes.specs.Asked.{SaysSent}
use Rattle.lisp_nodes.proofs.RouterCalls.{acted, sent_head, sends_up, sends_down}
use Rattle.lisp_refinement.specs.World.{DatagramValue, RouterNodeState, WorldState}
use Rattle.lisp_refinement.specs.Events.{datagram_to, NetworkSends, RouterSends, NodeSends, is_up}
use Rattle.lisp_world.specs.Asked.{SaysAsked, BagGrowsBySend}

-- the bytes of a Map-Register that was made have a Key ID and a nonce
pub sent_headed : (before after : RouterNodeState) (server part : ℕ) (fate : Fate) (now : ℕ) (answer : Option (Result (List ℕ) SendFault))
    → IfSome answer (λ a. NodeSends before after server part fate now a) → IfSome answer (λ a. IfOk a (λ bytes. IsSome (head_at bytes)))
sent_headed before after server part fate now None up = tt
sent_headed before after server part fate now (Some (Err fault)) up = tt
sent_headed before after server part fate now (Some (Ok bytes)) up = sent_head _ _ _ _ _ _ _ _ up.call.call

-- a router that was read by its place was asked
module _ (old : WorldState) (router server part place : ℕ) (fate : Fate) (line : Line) (before after : RouterNodeState) (bag : List DatagramValue)
    (there : (router ≡ length old.servers + place) × (place < length old.routers)) (kind : server < length old.servers) (read : before ≡ get_or old.routers place before) where
  asked : (answer : Option (Result (List ℕ) SendFault)) (more : List DatagramValue) → IfSome answer (λ a. NodeSends before after server part fate old.clock a)
      → (answer ≡ None → (is_up before.core ≡ false) × (after ≡ before)) → SaysAsked old router server part answer line more → RouterSends old router server part fate before after before.core line more
  asked (Some answer) more up down says = sends_up old router server part fate before after answer line more up says
  asked None more up down says =
      subst (λ (said : Line × List DatagramValue). RouterSends old router server part fate before after before.core said.0 said.1) (λ i. (sym says.0 i, sym says.1 i))
      (sends_down old router server part fate before after before.core (down refl).0 (down refl).1)

  pub sent : (answer : Option (Result (List ℕ) SendFault)) → IfSome answer (λ a. NodeSends before after server part fate old.clock a)
      → (answer ≡ None → (is_up before.core ≡ false) × (after ≡ before)) → (more : List DatagramValue) × (bag ≡ old.bag ++ more) × SaysAsked old router server part answer line more
      → NetworkSends old (record old { bag = bag; routers = slice_set old.routers place after }) router server part fate line
  sent answer up down told = record {
    kind = kind;
    more = told.0;
    acts = acted old _ router place told.0 before after there read (ap (λ (b : List DatagramValue). record old { bag = b; routers = slice_set old.routers place after }) told.1);
    sends = asked answer told.0 up down told.2;
  }

-- what a router made of being asked goes to the end of a bag
module _ (old new : List DatagramValue) (from to : Addr) (router server part : ℕ) (said : Line × Option (List ℕ)) (line : Line)
    (is : line ≡ said.0) (posted : new ≡ old ++ datagram_to from to said.1) where
  pub grows_by_send : (answer : Option (Result (List ℕ) SendFault)) → SaysSent router server part (length old) answer said → BagGrowsBySend old new from to router server part answer line
  grows_by_send (Some (Ok bytes)) says = λ w bag from_is to_is.
      let more : List DatagramValue = record { from = from; to = to; bytes = bytes } ∷ [] in (
        more,
        posted ∙ ap (λ (s : Line × Option (List ℕ)). old ++ datagram_to from to s.1) says.is ∙ ap (λ (b : List DatagramValue). b ++ more) bag,
        record {
          head = says.head;
          read = says.read;
          said = is ∙ ap (λ (s : Line × Option (List ℕ)). s.0) says.is ∙ ap (λ (b : List DatagramValue). lines.Sent router server part says.head.key_id says.head.nonce (length b)) bag;
          posts = λ i. record { from = from_is i; to = to_is i; bytes = bytes } ∷ [];
        },
      )
  grows_by_send (Some (Err fault)) says = λ w bag from_is to_is. (
    [],
    posted ∙ ap (λ (s : Line × Option (List ℕ)). old ++ datagram_to from to s.1) says ∙ ap (λ (b : List DatagramValue). b ++ []) bag,
    (is ∙ ap (λ (s : Line × Option (List ℕ)). s.0) says, refl),
  )
  grows_by_send None says = λ w bag from_is to_is. (
    [],
    posted ∙ ap (λ (s : Line × Option (List ℕ)). old ++ datagram_to from to s.1) says ∙ ap (λ (b : List DatagramValue). b ++ []) bag,
    (is ∙ ap (λ (s : Line × Option (List ℕ)). s.0) says, refl),
  )
