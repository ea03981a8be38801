-- A network goes on by steps of one node, and then by more of them.
use Rattle.std.proofs.Common.{◌≡◌, inl, inr, ℕ, List, [], ◌∷◌, ◌++◌, map, reverse, refl, sym, ap, subst, ◌∙◌, append-nil}
use Rattle.std.specs.Prelude.{◌≢◌}
use Rattle.std.specs.List.{AllByRecursion}
use Rattle.std.proofs.lemmas.List.{append_assoc, reverse-append, map-append}
use Rattle.lisp_records.specs.declared.address.Addr.{Addr}
use Rattle.lisp_model.specs.declared.line.Line.{Line}
use Rattle.lisp_model.specs.Trace.{EventValue, Step, Opening}
use Rattle.lisp_refinement.specs.World.{DatagramValue, WorldState}
use Rattle.lisp_refinement.specs.Events.{address_of}
use Rattle.lisp_refinement.specs.Stands.{Stands}
use Rattle.lisp_turns.specs.Node.{NodeState, HasNode}
use Rattle.lisp_turns.specs.Part.{IsOwn, ArePrinted, arrival, arrivals, datagram_from}

-- a network went on by steps of the node with a number, to a moment: their events are allowed ones, these lines were printed of
-- them, this was sent, and this arrived; the other nodes are as they were
pub record Reaches (Allows : EventValue → Type 0) (number : ℕ) (lines : List Line) (sent received : List (Addr × List ℕ)) (node : NodeState) (now : ℕ)
    (old : WorldState) (o : Opening) (T : List Step) : Type 0 where
  pub steps : List Step
  pub left : WorldState
  pub stands : Stands left o (steps ++ T)
  pub own : AllByRecursion (λ s. IsOwn number s.event) steps
  pub allowed : AllByRecursion (λ s. Allows s.event) steps
  pub are_printed : ArePrinted steps lines
  pub bag : left.bag ≡ old.bag ++ map (datagram_from (address_of old number)) (reverse sent)
  pub heard : arrivals steps ≡ received
  pub node_is : HasNode left number node
  pub clock : left.clock ≡ now
  pub others : (k : ℕ) (other : NodeState) → k ≢ number → HasNode old k other → HasNode left k other

-- it goes nowhere
pub stays_there : (Allows : EventValue → Type 0) (number : ℕ) (node : NodeState) (now : ℕ) (w : WorldState) (o : Opening) (T : List Step) → Stands w o T → HasNode w number node → w.clock ≡ now → Reaches Allows number [] [] [] node now w o T
stays_there Allows number node now w o T stand has clock = record {
  steps = [];
  left = w;
  stands = stand;
  own = tt;
  allowed = tt;
  are_printed = refl;
  bag = sym (append-nil w.bag);
  heard = refl;
  node_is = has;
  clock = clock;
  others = λ k other differs there. there;
}

-- what holds of two lists holds of both
pub all_append : {X : Type 0} (P : X → Type 0) (xs ys : List X) → AllByRecursion P xs → AllByRecursion P ys → AllByRecursion P (xs ++ ys)
all_append P [] ys first second = second
all_append P (x ∷ xs) ys first second = (first.0, all_append P xs ys first.1 second)

-- and what holds of both holds of each
pub all_split : {X : Type 0} (P : X → Type 0) (xs ys : List X) → AllByRecursion P (xs ++ ys) → AllByRecursion P xs × AllByRecursion P ys
all_split P [] ys all = (tt, all)
all_split P (x ∷ xs) ys all = let rest = all_split P xs ys all.1 in ((all.0, rest.0), rest.1)

-- the lines of both
printed_append : (later earlier : List Step) (ls ms : List Line) → ArePrinted later ls → ArePrinted earlier ms → ArePrinted (later ++ earlier) (ls ++ ms)
printed_append [] earlier ls ms first second = subst (λ (l : List Line). ArePrinted earlier (l ++ ms)) (sym first) second
printed_append (s ∷ later) earlier ls ms (inl (quiet, first)) second = inl (quiet, printed_append later earlier ls ms first second)
printed_append (s ∷ later) earlier ls ms (inr (line, rest, is, same, first)) second =
    inr (line, rest ++ ms, ap (λ (l : List Line). l ++ ms) is, same, printed_append later earlier rest ms first second)

-- what arrived in both
pub arrivals_append : (later earlier : List Step) → arrivals (later ++ earlier) ≡ arrivals later ++ arrivals earlier
arrivals_append [] earlier = refl
arrivals_append (s ∷ later) earlier = ap (λ (l : List (Addr × List ℕ)). arrival s.event ++ l) (arrivals_append later earlier) ∙ sym (append_assoc (arrival s.event) (arrivals later) (arrivals earlier))

-- the datagrams of both
sent_both : (f : Addr × List ℕ → DatagramValue) (bag : List DatagramValue) (earlier later : List (Addr × List ℕ))
    → (bag ++ map f (reverse earlier)) ++ map f (reverse later) ≡ bag ++ map f (reverse (later ++ earlier))
sent_both f bag earlier later =
    append_assoc bag (map f (reverse earlier)) (map f (reverse later))
    ∙ ap (λ (l : List DatagramValue). bag ++ l) (sym (map-append f (reverse earlier) (reverse later)) ∙ ap (map f) (sym (reverse-append later earlier)))

-- and then it goes on
module _ (Allows : EventValue → Type 0) (number : ℕ) (lines_1 lines_2 : List Line) (sent_1 sent_2 received_1 received_2 : List (Addr × List ℕ)) (node_1 node_2 : NodeState) (now_1 now_2 : ℕ)
    (w : WorldState) (o : Opening) (T : List Step) (stand : Stands w o T) (first : Reaches Allows number lines_1 sent_1 received_1 node_1 now_1 w o T)
    (second : Reaches Allows number lines_2 sent_2 received_2 node_2 now_2 first.left o (first.steps ++ T)) where
  -- a node has the address that it had
  same_address : address_of first.left number ≡ address_of w number
  same_address = ap (λ (l : List Addr). address_in l) (first.stands.steps.addresses ∙ sym stand.steps.addresses)
    where
      address_in : List Addr → Addr
      address_in l = address_of (record w { addresses = l }) number

  pub goes_further : Reaches Allows number (lines_2 ++ lines_1) (sent_2 ++ sent_1) (received_2 ++ received_1) node_2 now_2 w o T
  goes_further = record {
    steps = second.steps ++ first.steps;
    left = second.left;
    stands = subst (λ (l : List Step). Stands second.left o l) (sym (append_assoc second.steps first.steps T)) second.stands;
    own = all_append (λ s. IsOwn number s.event) second.steps first.steps second.own first.own;
    allowed = all_append (λ s. Allows s.event) second.steps first.steps second.allowed first.allowed;
    are_printed = printed_append second.steps first.steps lines_2 lines_1 second.are_printed first.are_printed;
    bag = second.bag
        ∙ (λ i. first.bag i ++ map (datagram_from (same_address i)) (reverse sent_2))
        ∙ sent_both (datagram_from (address_of w number)) w.bag sent_1 sent_2;
    heard = arrivals_append second.steps first.steps ∙ (λ i. second.heard i ++ first.heard i);
    node_is = second.node_is;
    clock = second.clock;
    others = λ k other differs there. second.others k other differs (first.others k other differs there);
  }

-- each event that is allowed is so where more are
pub all_wider : {X : Type 0} (P Q : X → Type 0) → ((x : X) → P x → Q x) → (xs : List X) → AllByRecursion P xs → AllByRecursion Q xs
all_wider P Q wider [] all = tt
all_wider P Q wider (x ∷ xs) all = (wider x all.0, all_wider P Q wider xs all.1)

pub reaches_more : (Allows More : EventValue → Type 0) → ((event : EventValue) → Allows event → More event) → (number : ℕ) (lines : List Line) (sent received : List (Addr × List ℕ)) (node : NodeState) (now : ℕ)
    (w : WorldState) (o : Opening) (T : List Step) → Reaches Allows number lines sent received node now w o T → Reaches More number lines sent received node now w o T
reaches_more Allows More more number lines sent received node now w o T reaches = record {
  steps = reaches.steps;
  left = reaches.left;
  stands = reaches.stands;
  own = reaches.own;
  allowed = all_wider (λ s. Allows s.event) (λ s. More s.event) (λ s. more s.event) reaches.steps reaches.allowed;
  are_printed = reaches.are_printed;
  bag = reaches.bag;
  heard = reaches.heard;
  node_is = reaches.node_is;
  clock = reaches.clock;
  others = reaches.others;
}
