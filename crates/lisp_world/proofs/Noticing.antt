-- A Map-Server's notice, made or made again, and what the network says of it.
use Rattle.std.proofs.Common.{[], ◌≡◌, ℕ, ◌+◌, ◌<◌, List, get_or, ◌∷◌, ◌++◌, Option, Result, Ok, Err, refl, ap, ◌∙◌, subst, length}
use Rattle.std.proofs.lemmas.Option.{slice_get_read}
use Rattle.std.specs.Prelude.{IfOk, IsSome, slice_set}
use Rattle.lisp_records.specs.declared.{address.Addr.Addr, router.RouterId.RouterId}
use Rattle.lisp_nonces.specs.declared.fate.Fate.{Fate}
use Rattle.lisp_admission.specs.declared.notice_fault.NoticeFault.{NoticeFault}
use Rattle.lisp_model.specs.declared.line.Line.{Line}
use Rattle.lisp_model.specs.declared.line.Line.TheVariants as lines
use Rattle.lisp_nodes.specs.Asked.{SaysNotice, said_resent, datagram_of}
use Rattle.lisp_nodes.proofs.ServerCalls.{server_acted, notice_head}
use Rattle.lisp_world.specs.Asked.{BagGrowsByNotice, BagGrowsByResend}
use Rattle.lisp_messages.specs.Head.{head_at}
use Rattle.lisp_refinement.specs.Calls.{NodeNotifies}
use Rattle.lisp_refinement.specs.World.{DatagramValue, ServerNodeState, RouterNodeState, WorldState}
use Rattle.lisp_refinement.specs.Events.{NetworkNotifies, NetworkResends, NodeResends, SaysNoticeAnswer, SaysResendAnswer}

-- the bytes of a notice that was made have a Key ID and a nonce
pub notice_headed : (before after : ServerNodeState) (fate : Fate) (me : RouterId) (now : ℕ) {answer : Result (Addr × List ℕ) NoticeFault}
    → NodeNotifies before after fate me now answer → IfOk answer (λ sent. IsSome (head_at sent.1))
notice_headed before after fate me now {answer = Ok sent} notifies = notice_head _ _ _ _ _ _ _ _ notifies.announces
notice_headed before after fate me now {answer = Err fault} notifies = tt

-- a Map-Server that was read by its number was asked for a notice of a router that was read by its place
module _ (old : WorldState) (server router place : ℕ) (line : Line) (before after : ServerNodeState) (node : RouterNodeState) (me : RouterId) (bag : List DatagramValue)
    (beside : (router ≡ length old.servers + place) × (place < length old.routers)) (serves : server < length old.servers)
    (read_server : before ≡ get_or old.servers server before) (read_router : node ≡ get_or old.routers place node) (is_me : me ≡ node.me)
    (answer : Result (Addr × List ℕ) NoticeFault) where
  pub noticed : (fate : Fate) → NodeNotifies before after fate me old.clock answer → (more : List DatagramValue) × (bag ≡ old.bag ++ more) × SaysNoticeAnswer old server router answer line more
      → NetworkNotifies old (record old { bag = bag; servers = slice_set old.servers server after }) server router fate line
  noticed fate notifies told = record {
    place = place;
    number = beside.0;
    node = node;
    there = slice_get_read old.routers _ place node refl beside.1 read_router;
    more = told.0;
    acts = server_acted old server before after bag told.0 serves read_server told.1;
    answer = answer;
    notifies = subst (λ (r : RouterId). NodeNotifies before after fate r old.clock answer) is_me notifies;
    says = told.2;
  }

  pub resent : after ≡ record before { core = record before.core { notices = after.core.notices } } → NodeResends before after old.clock me answer
      → (more : List DatagramValue) × (bag ≡ old.bag ++ more) × SaysResendAnswer old server router answer line more
      → NetworkResends old (record old { bag = bag; servers = slice_set old.servers server after }) server router line
  resent rest resends told = record {
    place = place;
    number = beside.0;
    node = node;
    there = slice_get_read old.routers _ place node refl beside.1 read_router;
    more = told.0;
    acts = server_acted old server before after bag told.0 serves read_server told.1;
    rest = rest;
    answer = answer;
    resends = subst (λ (r : RouterId). NodeResends before after old.clock r answer) is_me resends;
    says = told.2;
  }

-- what a Map-Server made of being asked goes to the end of a bag
module _ (old new : List DatagramValue) (from : Addr) (server router : ℕ) (said : Line × Option (Addr × List ℕ)) (line : Line)
    (is : line ≡ said.0) (posted : new ≡ old ++ datagram_of from said.1) where
  abbrev Said : Type 0
  Said = Line × Option (Addr × List ℕ)

  grown : (w : WorldState) (message : Said) → said ≡ message → old ≡ w.bag → new ≡ w.bag ++ datagram_of from message.1
  grown w message says bag = posted ∙ ap (λ (s : Said). old ++ datagram_of from s.1) says ∙ ap (λ (b : List DatagramValue). b ++ datagram_of from message.1) bag

  pub grows_by_notice : (notice : Result (Addr × List ℕ) NoticeFault) → SaysNotice server router (length old) notice said → BagGrowsByNotice old new from server router notice line
  grows_by_notice (Ok sent) says = λ w bag from_is. (
    record { from = from; to = sent.0; bytes = sent.1 } ∷ [],
    grown w _ says.is bag,
    record {
      head = says.head;
      read = says.read;
      said = is ∙ ap (λ (s : Said). s.0) says.is ∙ ap (λ (b : List DatagramValue). lines.Notice server router says.head.key_id says.head.nonce (length b)) bag;
      posts = ap (λ (from : Addr). record { from = from; to = sent.0; bytes = sent.1 } ∷ []) from_is;
    },
  )
  grows_by_notice (Err fault) says = λ w bag from_is. ([], grown w _ says bag, (is ∙ ap (λ (s : Said). s.0) says, refl))

  pub grows_by_resend : (notice : Result (Addr × List ℕ) NoticeFault) → said ≡ said_resent server router (length old) notice → BagGrowsByResend old new from server router notice line
  grows_by_resend (Ok sent) says = λ w bag from_is. (
    record { from = from; to = sent.0; bytes = sent.1 } ∷ [],
    grown w _ says bag,
    (
      is ∙ ap (λ (s : Said). s.0) says ∙ ap (λ (b : List DatagramValue). lines.Resent server router (length b)) bag,
      ap (λ (from : Addr). record { from = from; to = sent.0; bytes = sent.1 } ∷ []) from_is,
    ),
  )
  grows_by_resend (Err fault) says = λ w bag from_is. ([], grown w _ says bag, (is ∙ ap (λ (s : Said). s.0) says, refl))
