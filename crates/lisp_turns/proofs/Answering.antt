-- What a node makes of Map-Requests, and which datagrams go out.
use Rattle.std.proofs.Common.{◌≡◌, ◌⊎◌, inl, inr, ℕ, ◌+◌, ◌<◌, Bool, true, false, List, [], ◌∷◌, ◌++◌, length, Option, Some, None, Result, refl, sym, ap, subst, ◌∙◌, arith}
use Rattle.std.specs.Global.{Global}
use Rattle.std.proofs.lemmas.List.{append_assoc, append-nil}
use Rattle.lisp_budget.specs.Budget.{BudgetState, takes, after_take}
use Rattle.lisp_etr.specs.Etr.{EtrState}
use Rattle.lisp_mapping.specs.Handling.{HandledValue, Handles, probed}
use Rattle.lisp_mapping.specs.declared.outcome.Outcome.{Outcome}
use Rattle.lisp_policy.specs.Configuration.{ConfigValue, ServerEntryValue, RouterEntryValue}
use Rattle.lisp_records.specs.declared.address.Addr.{Addr}
use Rattle.lisp_records.specs.declared.address.Family.{Family}
use Rattle.lisp_records.specs.Address.{PrefixValue, family}
use Rattle.lisp_refinement.specs.Nodes.{up_in}
use Rattle.lisp_refinement.specs.World.{ServerNodeState, RouterNodeState}
use Rattle.lisp_replies.specs.Own.{IsOwnReply}
use Rattle.lisp_replies.specs.Reply.{IsReply, is_starting}
use Rattle.lisp_mapping.specs.Asked.{encapsulated_asked, router_asked}
use Rattle.lisp_mapping.specs.Sends.{DatagramValue}
use Rattle.lisp_mapping.specs.declared.replier.Replier.TheVariants.{MapServer}
use Rattle.lisp_mapping.specs.declared.unasked.Unasked.{Unasked}
use Rattle.lisp_server.specs.Server.{ServerState}
use Rattle.lisp_sites.specs.Numbers.{NodeValue, node_at}
use Rattle.lisp_sites.specs.Numbers as nodes
use Rattle.lisp_turns.specs.Node.{NodeState, Server, Router}
use Rattle.lisp_turns.specs.Outside.{CameValue, Call, Prints, Requests, Replies, OutsideState, Logs, LogsLine}
use Rattle.lisp_turns.specs.Requests.{Makes, MakesAs, Passage, Held, Sent, counted, PassesEach, passages_calls, passage_calls, outcome_calls, made_calls, deeds_calls, end_calls, RequestDeed, DoesRequests, DoesRequest, ResolvingValue, AnswersRequests}
use Rattle.lisp_turns.specs.Stretch.{Asks, PassesOne, PassesAll, TellsMade, AnswersOne, HasAnswered, AnswersWaiting}
use Rattle.lisp_turns.specs.declared.outside.Printed.TheVariants as printed
use Rattle.lisp_turns.specs.declared.outside.SocketCall.TheVariants as calls
use Rattle.lisp_turns.proofs.Asking.{asks_none, asks_one, asks_then}

-- a Map-Server handles it by its entry of the configuration
pub server_makes : (config : ConfigValue) (number : ℕ) (entry : ServerEntryValue) (n : ServerNodeState) (quiet now : ℕ) (came : CameValue) (made : Result HandledValue Unasked)
    (core : ServerState) (resolve : List PrefixValue) (own : Family) (starting : Bool) → node_at config number ≡ Some (nodes.Server entry) → core ≡ n.core → resolve ≡ entry.resolve → own ≡ family entry.address
    → starting ≡ is_starting n.started quiet now
    → Handles {A = Global} (λ _ eid reply. IsReply core.rows core.sites eid starting now reply) came.bytes (encapsulated_asked MapServer resolve own came.bytes) made → Makes config number (Server n) quiet now came (Some made)
server_makes config number entry n quiet now came made core resolve own starting is core_is resolve_is own_is starting_is handles =
    subst (λ (o : Option NodeValue). MakesAs o (Server n) quiet now came (Some made)) (sym is)
    (subst (λ (p : ServerState × List PrefixValue × Family × Bool). Handles {A = Global} (λ _ eid reply. IsReply p.0.rows p.0.sites eid p.3 now reply) came.bytes (encapsulated_asked MapServer p.1 p.2 came.bytes) made)
    {x = (core, resolve, own, starting)} {y = (n.core, entry.resolve, family entry.address, is_starting n.started quiet now)} (λ i. (core_is i, resolve_is i, own_is i, starting_is i)) handles)

-- and so does a router
pub router_makes : (config : ConfigValue) (number : ℕ) (entry : RouterEntryValue) (n : RouterNodeState) (etr : EtrState) (quiet now : ℕ) (came : CameValue) (made : Result HandledValue Unasked)
    (resolve : List PrefixValue) (own : Addr) → node_at config number ≡ Some (nodes.Router entry) → up_in n.core ≡ Some etr → resolve ≡ entry.resolve → own ≡ entry.address
    → Handles {A = Global} (λ asked eid reply. IsOwnReply etr.database eid (probed asked own) reply) came.bytes (router_asked resolve (family own) came.port came.bytes) made → Makes config number (Router n) quiet now came (Some made)
router_makes config number entry n etr quiet now came made resolve own is up resolve_is own_is handles =
    subst (λ (o : Option NodeValue). MakesAs o (Router n) quiet now came (Some made)) (sym is) (
      etr,
      up,
      subst (λ (p : List PrefixValue × Addr). Handles {A = Global} (λ asked eid reply. IsOwnReply etr.database eid (probed asked p.1) reply) came.bytes (router_asked p.0 (family p.1) came.port came.bytes) made)
          {x = (resolve, own)} {y = (entry.resolve, entry.address)} (λ i. (resolve_is i, own_is i)) handles,
    )

-- ---- datagrams

module _ {now : ℕ} {from : Addr} {d : DatagramValue} {old new : BudgetState} {a b : OutsideState} where
  pub held : takes old (counted d now) ≡ false → new ≡ after_take old (counted d now) → LogsLine a b (printed.OverBudget from) → PassesOne now from d old new a b
  held is left logs = record { passage = Held; is = sym is; left = left; asked = logs }

  pub sent : takes old (counted d now) ≡ true → new ≡ after_take old (counted d now) → Logs a b (Replies d true) → PassesOne now from d old new a b
  sent is left logs = record { passage = Sent true; is = sym is; left = left; asked = asks_one a b (Replies d true) logs }

pub failed : {now : ℕ} {from : Addr} {d : DatagramValue} {old new : BudgetState} {a s b : OutsideState} → takes old (counted d now) ≡ true → new ≡ after_take old (counted d now) → Logs a s (Replies d false)
    → LogsLine s b (printed.Failed calls.Send) → PassesOne now from d old new a b
failed {now} {from} {d} {old} {new} {a} {s} {b} is left logs line =
    record { passage = Sent false; is = sym is; left = left; asked = asks_then a s b (Replies d false ∷ []) (Prints (printed.Failed calls.Send) ∷ []) (asks_one a s (Replies d false) logs) line }

-- one more of them
passes_push : (now : ℕ) (ds : List DatagramValue) (d : DatagramValue) (passages : List Passage) (passage : Passage) (old between new : BudgetState) → PassesEach now ds passages old between
    → Rattle.lisp_turns.specs.Requests.is_sent passage ≡ takes between (counted d now) → new ≡ after_take between (counted d now) → PassesEach now (ds ++ d ∷ []) (passages ++ passage ∷ []) old new
passes_push now [] d passages passage old between new (none, same) is left =
    (passage, [], ap (λ (l : List Passage). l ++ passage ∷ []) none, is ∙ ap (λ (x : BudgetState). takes x (counted d now)) same, (refl, left ∙ ap (λ (x : BudgetState). after_take x (counted d now)) same))
passes_push now (e ∷ ds) d passages passage old between new (first, rest, are, goes, others) is left =
    (first, rest ++ passage ∷ [], ap (λ (l : List Passage). l ++ passage ∷ []) are, goes, passes_push now ds d rest passage (after_take old (counted e now)) between new others is left)

calls_push : (from : Addr) (now : ℕ) (ds : List DatagramValue) (d : DatagramValue) (passages : List Passage) (passage : Passage) (old new : BudgetState) → PassesEach now ds passages old new
    → passages_calls from (ds ++ d ∷ []) (passages ++ passage ∷ []) ≡ passage_calls from d passage ++ passages_calls from ds passages
calls_push from now [] d passages passage old new (none, same) =
    ap (λ (l : List Passage). passages_calls from (d ∷ []) (l ++ passage ∷ [])) none ∙ sym (append-nil (passage_calls from d passage))
calls_push from now (e ∷ ds) d passages passage old new (first, rest, are, goes, others) =
    ap (λ (l : List Passage). passages_calls from (e ∷ ds ++ d ∷ []) (l ++ passage ∷ [])) are
    ∙ ap (λ (l : List Call). l ++ passage_calls from e first) (calls_push from now ds d rest passage (after_take old (counted e now)) new others)
    ∙ append_assoc (passage_calls from d passage) (passages_calls from ds rest) (passage_calls from e first)
    ∙ sym (ap (λ (l : List Passage). passage_calls from d passage ++ passages_calls from (e ∷ ds) l) are)

module _ {now : ℕ} {from : Addr} {ds : List DatagramValue} {old between new : BudgetState} {a s b : OutsideState} where
  -- what went out goes on by one more
  pub passes_more : {d : DatagramValue} → PassesAll now from ds old between a s → PassesOne now from d between new s b → PassesAll now from (ds ++ d ∷ []) old new a b
  passes_more {d} so_far one = record {
    passages = so_far.passages ++ one.passage ∷ [];
    passes = passes_push now ds d so_far.passages one.passage old between new so_far.passes one.is one.left;
    asked = subst (λ (l : List Call). Asks a b l) (sym (calls_push from now ds d so_far.passages one.passage old between so_far.passes)) (asks_then a s b (passages_calls from ds so_far.passages) (passage_calls from d one.passage) so_far.asked one.asked);
  }

-- ---- lines of EID-Prefixes

-- so many of them were told, and these are left
pub record Told (to : Addr) (eids : List PrefixValue) (outcomes : List Outcome) (eids_left : List PrefixValue) (outcomes_left : List Outcome) (before after : OutsideState) : Type 0 where
  pub said : List Call
  pub asked : Asks before after said
  pub all : outcome_calls to eids outcomes ≡ outcome_calls to eids_left outcomes_left ++ said

pub told_none : (to : Addr) (eids : List PrefixValue) (outcomes : List Outcome) (s : OutsideState) → Told to eids outcomes eids outcomes s s
told_none to eids outcomes s = record { said = []; asked = asks_none s; all = sym (append-nil (outcome_calls to eids outcomes)) }

module _ {to : Addr} {eids : List PrefixValue} {outcomes : List Outcome} {before s : OutsideState} where
  pub told_more : {eid : PrefixValue} {outcome : Outcome} {eids_left more_eids : List PrefixValue} {outcomes_left more_outcomes : List Outcome} {after : OutsideState} → Told to eids outcomes more_eids more_outcomes before s
      → more_eids ≡ eid ∷ eids_left → more_outcomes ≡ outcome ∷ outcomes_left → LogsLine s after (printed.Asked eid to outcome) → Told to eids outcomes eids_left outcomes_left before after
  told_more {eid} {outcome} {eids_left} {more_eids} {outcomes_left} {more_outcomes} {after} so_far eids_are outcomes_are line = record {
    said = Prints (printed.Asked eid to outcome) ∷ so_far.said;
    asked = asks_then before s after so_far.said (Prints (printed.Asked eid to outcome) ∷ []) so_far.asked line;
    all = so_far.all ∙ (λ i. outcome_calls to (eids_are i) (outcomes_are i) ++ so_far.said) ∙ append_assoc (outcome_calls to eids_left outcomes_left) (Prints (printed.Asked eid to outcome) ∷ []) so_far.said;
  }

  pub told_all : {eids_left : List PrefixValue} {outcomes_left : List Outcome} → Told to eids outcomes eids_left outcomes_left before s → (length eids_left ≡ 0) ⊎ (length outcomes_left ≡ 0) → Asks before s (outcome_calls to eids outcomes)
  told_all {eids_left} {outcomes_left} so_far none = subst (λ (l : List Call). Asks before s l) (sym (so_far.all ∙ ap (λ (l : List Call). l ++ so_far.said) (ends eids_left outcomes_left none))) so_far.asked
    where
      ends : (es : List PrefixValue) (os : List Outcome) → (length es ≡ 0) ⊎ (length os ≡ 0) → outcome_calls to es os ≡ []
      ends [] os none = refl
      ends (e ∷ es) [] none = refl
      ends (e ∷ es) (o ∷ os) (inl is) = absurd (omega (arith, is))
      ends (e ∷ es) (o ∷ os) (inr is) = absurd (omega (arith, is))

-- ---- Map-Requests one after the other

pub answers_one : {config : ConfigValue} {number : ℕ} {node : NodeState} {quiet now : ℕ} (came : CameValue) {made : Option (Result HandledValue Unasked)} {old new : BudgetState} {a s b : OutsideState} → Logs a s (Requests (Some came))
    → Makes config number node quiet now came made → TellsMade now came.from made old new s b → AnswersOne config number node quiet now old new a b
answers_one {config} {number} {node} {quiet} {now} came {made} {old} {new} {a} {s} {b} logs makes tells = record {
  deed = record { came = came; made = made; passages = tells.passages };
  does = record { makes = makes; passes = tells.passes };
  asked = asks_then a s b (Requests (Some came) ∷ []) (made_calls came.from made tells.passages) (asks_one a s (Requests (Some came)) logs) tells.asked;
}

module _ {config : ConfigValue} {number : ℕ} {node : NodeState} {quiet now : ℕ} {old between new : BudgetState} {a s b : OutsideState} where
  pub answered_more : {count : ℕ} → HasAnswered config number count node quiet now old between a s → AnswersOne config number node quiet now between new s b → HasAnswered config number (count + 1) node quiet now old new a b
  answered_more {count} so_far one = record {
    deeds = one.deed ∷ so_far.deeds;
    counted = omega (arith, so_far.counted);
    does = (between, so_far.does, one.does);
    asked = asks_then a s b (deeds_calls so_far.deeds) _ so_far.asked one.asked;
  }

module _ {config : ConfigValue} {number places : ℕ} {node : NodeState} {now : ℕ} {old new : ResolvingValue} {count : ℕ} {a s : OutsideState} (so_far : HasAnswered config number count node old.quiet now old.budget new.budget a s) (same : new.quiet ≡ old.quiet) where
  -- none waits any more
  pub answered_all : {b : OutsideState} → count < places → Asks s b (Requests None ∷ []) → AnswersWaiting config number places node now old new a b
  answered_all {b} few none = record {
    deeds = so_far.deeds;
    ended = true;
    answers = record { few = omega (arith, so_far.counted, few); all = inl refl; does = so_far.does; same = same };
    asked = asks_then a s b (deeds_calls so_far.deeds) (Requests None ∷ []) so_far.asked none;
  }

  -- or so many were answered
  pub answered_most : count ≡ places → AnswersWaiting config number places node now old new a s
  answered_most is = record {
    deeds = so_far.deeds;
    ended = false;
    answers = record { few = omega (arith, so_far.counted, is); all = inr (so_far.counted ∙ is); does = so_far.does; same = same };
    asked = so_far.asked;
  }
