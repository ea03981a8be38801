-- What a node prints and sends in its turns is a legal trace's part of it.
use Rattle.std.proofs.Common.{◌≡◌, ◌⊎◌, inl, inr, ℕ, zero, suc, ◌<◌, ◌≤◌, Bool, true, false, List, [], ◌∷◌, ◌++◌, map, refl, sym, ap, subst, ◌∙◌, append-nil, arith}
use Rattle.std.specs.List.{Contains}
use Rattle.std.proofs.lemmas.List.{append_assoc}
use Rattle.std.proofs.lemmas.List.Elements.{Contains-append_left, Contains-append_right}
use Rattle.lisp_records.specs.declared.address.Addr.{Addr}
use Rattle.lisp_records.specs.declared.router.RouterId.{RouterId}
use Rattle.lisp_records.specs.Address.{PrefixValue}
use Rattle.lisp_policy.specs.Configuration.{ConfigValue}
use Rattle.lisp_model.specs.declared.line.Line.{Line}
use Rattle.lisp_model.specs.declared.event.Event.TheVariants as events
use Rattle.lisp_model.specs.Trace.{EventValue, Step, Opening}
use Rattle.lisp_model.proofs.ListLemmas.{at_head}
use Rattle.lisp_refinement.specs.World.{WorldState}
use Rattle.lisp_refinement.specs.Stands.{Stands}
use Rattle.lisp_turns.specs.Acts.{TurnAct, DoesAll, acts_calls}
use Rattle.lisp_turns.specs.Node.{NodeState, core_of, HasNode}
use Rattle.lisp_turns.specs.Obeying.{answer_of}
use Rattle.lisp_turns.specs.Outside.{Call, Reception, Receives, Polls, Reads, Listens, Answers, OutsideState, logged}
use Rattle.lisp_turns.specs.Part.{WasOrdered, lines_of, sent_of, received_of, IsPart, GoesOn, TurnsAreParts}
use Rattle.lisp_turns.specs.Pause.{may_try}
use Rattle.lisp_turns.specs.Requests.{RequestDeed, answered_calls}
use Rattle.lisp_turns.specs.Turn.{TurnState, Intake, acts_of, IsTakenIn, failure_calls, rest_calls, expired_calls, commit_calls, hearing_calls, telling_calls, turn_calls, IsTurn, Turns}
use Rattle.lisp_turns.specs.declared.pause.Pause.{Pause}
use Rattle.lisp_turns.proofs.Calls.{lines_append, sent_append, received_append, no_lines, no_sent, none_received, of_five, of_four}
use Rattle.lisp_turns.proofs.Asking.{logged_none, logged_twice}
use Rattle.lisp_turns.proofs.CallKinds.{IsOfKinds, AreOfKinds, acts_kinds, polls_kinds, rest_kinds, failure_kinds, expired_kinds, commit_kinds, answered_kinds}
use Rattle.lisp_turns.proofs.Reaching.{all_append, Reaches, stays_there, goes_further, reaches_more}
use Rattle.lisp_turns.proofs.Ticking.{passes_may, tick_reaches}
use Rattle.lisp_turns.proofs.Acting.{AreOwn, arrived, acts_reach}
use Rattle.lisp_turns.proofs.OwnActs.{AreOrdered, AreServed, came, heard_ordered, heard_own, heard_arrived, polls_came, taken_ordered, taken_own, taken_arrived, taken_did, are_served}

-- what a node asks until it took in all says no line and sends nothing, and receives what it heard
module _ (number : ℕ) (first : Reception) (now : ℕ) (dead : List (RouterId × PrefixValue)) (intake : Intake) (done : Bool) where
  abbrev acts : List TurnAct
  acts = acts_of number intake

  abbrev asks : List Call
  asks = hearing_calls number first now dead intake done

  -- a commit and rows that died are of no event, and receive nothing
  abbrev committed : AreOfKinds false false false (commit_calls acts done)
  committed = commit_kinds false false false acts done

  abbrev expired : AreOfKinds false false false (expired_calls dead)
  expired = expired_kinds false false false dead

  abbrev first_calls : List Call
  first_calls = Reads now ∷ Receives first ∷ []

  hearing_parts : {X : Type 0} (f : List Call → List X) → ((cs ds : List Call) → f (cs ++ ds) ≡ f cs ++ f ds) → f (commit_calls acts done) ≡ [] → f (expired_calls dead) ≡ []
      → f asks ≡ f (Listens intake.order ∷ map Polls intake.others) ++ f first_calls
  hearing_parts f append = of_four f append (commit_calls acts done) (Listens intake.order ∷ map Polls intake.others) (expired_calls dead) first_calls

  pub hearing_lines : lines_of asks ≡ []
  hearing_lines = hearing_parts lines_of lines_append (no_lines false false _ committed) (no_lines false false _ expired) ∙ ap (λ (l : List Line). l ++ []) (no_lines true false _ (polls_kinds false false intake.others))

  pub hearing_sent : sent_of asks ≡ []
  hearing_sent = hearing_parts sent_of sent_append (no_sent false false _ committed) (no_sent false false _ expired) ∙ ap (λ (l : List (Addr × List ℕ)). l ++ []) (no_sent true false _ (polls_kinds false false intake.others))

  -- and listens for its order
  pub hearing_listens : Contains asks (Listens intake.order)
  hearing_listens =
      Contains-append_left (commit_calls acts done ++ (Listens intake.order ∷ map Polls intake.others) ++ expired_calls dead) first_calls (Listens intake.order)
      (Contains-append_left (commit_calls acts done ++ (Listens intake.order ∷ map Polls intake.others)) (expired_calls dead) (Listens intake.order)
      (Contains-append_right (commit_calls acts done) (Listens intake.order ∷ map Polls intake.others) (Listens intake.order) (at_head (Listens intake.order) (map Polls intake.others))))

  hearing_received : received_of asks ≡ came (intake.others ++ first ∷ [])
  hearing_received = hearing_parts received_of received_append (none_received false false _ committed) (none_received false false _ expired)
      ∙ sym (received_append (map Polls intake.others) (Receives first ∷ []))
      ∙ polls_came intake.others first

-- what a turn's calls come to
module _ (number : ℕ) (first : Reception) (receives : Pause) (now : ℕ) (dead : List (RouterId × PrefixValue)) (intake : Intake) (node : NodeState) (served : List TurnAct) (ended : Bool) (deeds : List RequestDeed) where
  abbrev requests : List Call
  requests = answered_calls ended deeds

  abbrev all_calls : List Call
  all_calls = turn_calls number first receives now dead intake node served requests

  abbrev told : List Call
  told = acts_calls (acts_of number intake)

  abbrev rested : AreOfKinds false false true (rest_calls first ++ requests)
  rested = all_append (IsOfKinds false false true) (rest_calls first) requests (rest_kinds false false true first) (answered_kinds false false ended deeds)

  abbrev failed : AreOfKinds false false false (failure_calls first receives now)
  failed = failure_kinds false false false first receives now

  abbrev hearing : List Call
  hearing = hearing_calls number first now dead intake true

  abbrev answered : List Call
  answered = Answers (core_of node) now (answer_of intake.outcome) ∷ told

  turn_parts : {X : Type 0} (f : List Call → List X) → ((cs ds : List Call) → f (cs ++ ds) ≡ f cs ++ f ds) → f (rest_calls first ++ requests) ≡ [] → f (failure_calls first receives now) ≡ []
      → f all_calls ≡ f (acts_calls served) ++ f answered ++ f hearing
  turn_parts f append none_one none_two =
      ap (λ (l : List Call). f (l ++ hearing)) (sym (append_assoc (rest_calls first ++ requests ++ acts_calls served) answered (failure_calls first receives now)))
      ∙ of_five f append (rest_calls first ++ requests) (acts_calls served) answered (failure_calls first receives now) hearing none_one none_two

  pub turn_listens : Contains all_calls (Listens intake.order)
  turn_listens =
      Contains-append_right (rest_calls first ++ requests ++ acts_calls served ++ telling_calls number first receives now intake node) hearing (Listens intake.order)
      (hearing_listens number first now dead intake true)

  turn_lines : lines_of all_calls ≡ lines_of (acts_calls served) ++ (lines_of told ++ [])
  turn_lines = turn_parts lines_of lines_append (no_lines false true _ rested) (no_lines false false _ failed)
      ∙ ap (λ (l : List Line). lines_of (acts_calls served) ++ lines_of told ++ l) (hearing_lines number first now dead intake true)
      ∙ append_assoc (lines_of (acts_calls served)) (lines_of told) []

  turn_sent : sent_of all_calls ≡ sent_of (acts_calls served) ++ (sent_of told ++ [])
  turn_sent = turn_parts sent_of sent_append (no_sent false true _ rested) (no_sent false false _ failed)
      ∙ ap (λ (l : List (Addr × List ℕ)). sent_of (acts_calls served) ++ sent_of told ++ l) (hearing_sent number first now dead intake true)
      ∙ append_assoc (sent_of (acts_calls served)) (sent_of told) []

  turn_received : received_of all_calls ≡ came (intake.others ++ first ∷ [])
  turn_received = turn_parts received_of received_append (none_received false true _ rested) (none_received false false _ failed)
      ∙ (λ i. none_received true false _ (acts_kinds false false served) i ++ none_received true false _ (acts_kinds false false (acts_of number intake)) i ++ hearing_received number first now dead intake true i)

-- a network goes on by a turn
module _ (A : Type 0) (config : ConfigValue) (number places : ℕ) (s t : TurnState) (turn : IsTurn A config number places s t) (w : WorldState) (o : Opening) (T : List Step) (stand : Stands w o T)
    (same : o.config ≡ config) (has : HasNode w number s.node) (early : w.clock ≤ turn.now) (asked : List Call) (listens : Contains asked (Listens turn.intake.order)) where
  abbrev calls : List Call
  calls = turn_calls number turn.reception s.receives turn.now turn.dead turn.intake turn.between turn.served (answered_calls turn.ended turn.deeds)

  abbrev receptions : List Reception
  receptions = turn.intake.others ++ turn.reception ∷ []

  abbrev its_acts : List TurnAct
  its_acts = acts_of number turn.intake

  abbrev takes : IsTakenIn A config number places turn.hearing.passed turn.between turn.now turn.reception turn.intake
  takes = turn.hearing.takes

  did : DoesAll A config number turn.hearing.passed turn.between turn.now its_acts
  did = taken_did A config number turn.now turn.hearing.passed takes.between turn.between turn.intake.heard takes.did_hear turn.intake.order turn.intake.outcome turn.intake.taken takes.obeys

  own : AreOwn number its_acts
  own = taken_own number turn.intake.order turn.intake.outcome turn.intake.taken turn.intake.heard (heard_own number receptions turn.intake.heard takes.hears)

  ordered : AreOrdered asked its_acts
  ordered = taken_ordered asked number turn.intake.order turn.intake.outcome turn.intake.taken turn.intake.heard listens (heard_ordered asked number receptions turn.intake.heard takes.hears)

  abbrev After : List Line → List (Addr × List ℕ) → List (Addr × List ℕ) → Type 0
  After lines sent received = Reaches (WasOrdered asked) number lines sent received t.node turn.now w o T

  ticked : Reaches (WasOrdered asked) number [] [] [] turn.hearing.passed turn.now w o T
  ticked = tick_reaches number s.node turn.hearing.passed turn.now w o T stand has early turn.hearing.bound (passes_may s.node turn.hearing.passed turn.now turn.hearing.expires.passes) (WasOrdered asked) (λ ms. tt)

  hears_reach : Reaches (WasOrdered asked) number (lines_of (acts_calls its_acts) ++ []) (sent_of (acts_calls its_acts) ++ []) (arrived its_acts ++ []) turn.between turn.now w o T
  hears_reach = goes_further (WasOrdered asked) number [] (lines_of (acts_calls its_acts)) [] (sent_of (acts_calls its_acts)) [] (arrived its_acts) turn.hearing.passed turn.between turn.now turn.now w o T stand ticked
      (acts_reach A (WasOrdered asked) config number turn.hearing.passed turn.between turn.now its_acts did own ordered ticked.left o (ticked.steps ++ T) ticked.stands same ticked.node_is ticked.clock)

  -- the rows that it withdrew leave at the same moment
  withdrawn : Reaches (WasOrdered asked) number (lines_of (acts_calls its_acts) ++ []) (sent_of (acts_calls its_acts) ++ []) (arrived its_acts ++ []) turn.left turn.now w o T
  withdrawn = goes_further (WasOrdered asked) number (lines_of (acts_calls its_acts) ++ []) [] (sent_of (acts_calls its_acts) ++ []) [] (arrived its_acts ++ []) [] turn.between turn.left turn.now turn.now w o T stand hears_reach
      (tick_reaches number turn.between turn.left turn.now hears_reach.left o (hears_reach.steps ++ T) hears_reach.stands hears_reach.node_is (omega (arith, hears_reach.clock)) turn.hearing.bound
      (passes_may turn.between turn.left turn.now turn.withdrawn) (WasOrdered asked) (λ ms. tt))

  served : AreServed number turn.served
  served = are_served number config (may_try s.sends turn.now) s.sends t.sends turn.now turn.left t.node turn.served turn.serves

  serves_reach : After (lines_of (acts_calls turn.served) ++ (lines_of (acts_calls its_acts) ++ [])) (sent_of (acts_calls turn.served) ++ (sent_of (acts_calls its_acts) ++ [])) (arrived turn.served ++ (arrived its_acts ++ []))
  serves_reach = goes_further (WasOrdered asked) number (lines_of (acts_calls its_acts) ++ []) (lines_of (acts_calls turn.served)) (sent_of (acts_calls its_acts) ++ []) (sent_of (acts_calls turn.served)) (arrived its_acts ++ []) (arrived turn.served)
      turn.left t.node turn.now turn.now w o T stand withdrawn
      (acts_reach A (WasOrdered asked) config number turn.left t.node turn.now turn.served turn.did_serve served.own (served.ordered asked) withdrawn.left o (withdrawn.steps ++ T) withdrawn.stands same withdrawn.node_is withdrawn.clock)

  all_arrived : arrived turn.served ++ (arrived its_acts ++ []) ≡ received_of calls
  all_arrived = (λ i. served.none i ++ append-nil (arrived its_acts) i)
      ∙ taken_arrived number turn.intake.order turn.intake.outcome turn.intake.taken turn.intake.heard
      ∙ heard_arrived number receptions turn.intake.heard takes.hears
      ∙ sym (turn_received number turn.reception s.receives turn.now turn.dead turn.intake turn.between turn.served turn.ended turn.deeds)

  pub turn_reaches : After (lines_of calls) (sent_of calls) (received_of calls)
  turn_reaches = subst (λ (p : List Line × List (Addr × List ℕ) × List (Addr × List ℕ)). After p.0 p.1 p.2)
      {x = (lines_of (acts_calls turn.served) ++ (lines_of (acts_calls its_acts) ++ []), sent_of (acts_calls turn.served) ++ (sent_of (acts_calls its_acts) ++ []), arrived turn.served ++ (arrived its_acts ++ []))}
      {y = (lines_of calls, sent_of calls, received_of calls)}
      (λ i. (sym (turn_lines number turn.reception s.receives turn.now turn.dead turn.intake turn.between turn.served turn.ended turn.deeds) i, sym (turn_sent number turn.reception s.receives turn.now turn.dead turn.intake turn.between turn.served turn.ended turn.deeds) i, all_arrived i)) serves_reach

-- what was told is told among more calls
more_ordered : (more calls : List Call) (event : EventValue) → WasOrdered calls event → WasOrdered (more ++ calls) event
more_ordered more calls (events.Notice server router fate) has = Contains-append_right more calls _ has
more_ordered more calls (events.Change router db) has = Contains-append_right more calls _ has
more_ordered more calls (events.Rotate router key fate) has = Contains-append_right more calls _ has
more_ordered more calls (events.Reload server sites) has = Contains-append_right more calls _ has
more_ordered more calls _ has = tt

-- so it does by turns; where the network's clock is behind the node's, that of the last turn is the node's again
record GoesOnTo (number count : ℕ) (s t : TurnState) (w : WorldState) (o : Opening) (T : List Step) : Type 0 where
  pub calls : List Call
  pub asked : t.outside.log ≡ logged calls s.outside.log
  pub moment : ℕ
  pub early : moment ≤ t.outside.moment
  pub exact : (0 < count) ⊎ (w.clock ≡ s.outside.moment) → moment ≡ t.outside.moment
  pub reaches : Reaches (WasOrdered calls) number (lines_of calls) (sent_of calls) (received_of calls) t.node moment w o T

module _ (A : Type 0) (config : ConfigValue) (number places n : ℕ) (s m t : TurnState) (w : WorldState) (o : Opening) (T : List Step) (stand : Stands w o T) (same : o.config ≡ config) where
  next_turn : GoesOnTo number n s m w o T → IsTurn A config number places m t → GoesOnTo number (suc n) s t w o T
  next_turn first turn =
      let more : List Call = turn_calls number turn.reception m.receives turn.now turn.dead turn.intake turn.between turn.served (answered_calls turn.ended turn.deeds) in
      let so_far = reaches_more (WasOrdered first.calls) (WasOrdered (more ++ first.calls)) (more_ordered more first.calls) number (lines_of first.calls) (sent_of first.calls) (received_of first.calls) m.node first.moment w o T first.reaches in
      let listens = turn_listens number turn.reception m.receives turn.now turn.dead turn.intake turn.between turn.served turn.ended turn.deeds in
      let one = turn_reaches A config number places m t turn so_far.left o (so_far.steps ++ T) so_far.stands same so_far.node_is (omega (arith, so_far.clock, first.early, turn.hearing.later)) (more ++ first.calls) (Contains-append_left more first.calls (Listens turn.intake.order) listens) in
      let both = goes_further (WasOrdered (more ++ first.calls)) number (lines_of first.calls) (lines_of more) (sent_of first.calls) (sent_of more) (received_of first.calls) (received_of more) m.node t.node first.moment turn.now w o T stand so_far one in
      let moment : t.outside.moment ≡ turn.now = ap (λ (x : OutsideState). x.moment) turn.calls in
      record {
        calls = more ++ first.calls;
        asked = ap (λ (x : OutsideState). x.log) turn.calls ∙ ap (logged more) first.asked ∙ logged_twice first.calls more s.outside.log;
        moment = turn.now;
        early = omega (arith, moment);
        exact = λ which. sym moment;
        reaches = subst (λ (p : List Line × List (Addr × List ℕ) × List (Addr × List ℕ)). Reaches (WasOrdered (more ++ first.calls)) number p.0 p.1 p.2 t.node turn.now w o T)
            {x = (lines_of more ++ lines_of first.calls, sent_of more ++ sent_of first.calls, received_of more ++ received_of first.calls)}
            {y = (lines_of (more ++ first.calls), sent_of (more ++ first.calls), received_of (more ++ first.calls))}
            (λ i. (sym (lines_append more first.calls) i, sym (sent_append more first.calls) i, sym (received_append more first.calls) i)) both;
      }

-- and that is a part
pub part_of : (number : ℕ) (calls : List Call) (node : NodeState) (now : ℕ) (w : WorldState) (o : Opening) (T : List Step)
    → (reaches : Reaches (WasOrdered calls) number (lines_of calls) (sent_of calls) (received_of calls) node now w o T) → IsPart number calls w reaches.left o T reaches.steps
part_of number _ node now w o T reaches =
    record { stands = reaches.stands; own = reaches.own; printed = reaches.are_printed; sent = reaches.bag; heard = reaches.heard; ordered = reaches.allowed }

module _ (A : Type 0) (config : ConfigValue) (number places : ℕ) where
  turns_reach : (count : ℕ) (s t : TurnState) → Turns A config number places count s t → (w : WorldState) (o : Opening) (T : List Step) → Stands w o T → o.config ≡ config
      → HasNode w number s.node → w.clock ≤ s.outside.moment → GoesOnTo number count s t w o T
  turns_reach zero s t is w o T stand same has early =
      subst (λ (x : TurnState). GoesOnTo number zero s x w o T) (sym is) (record {
        calls = [];
        asked = sym (logged_none s.outside.log);
        moment = w.clock;
        early = early;
        exact = λ which. elim which [ inl some ↦ absurd (omega (arith, some)) | inr exact ↦ exact ];
        reaches = stays_there (WasOrdered []) number s.node w.clock w o T stand has refl;
      })
  turns_reach (suc n) s t (between, turns, turn) w o T stand same has early = next_turn A config number places n s between t w o T stand same (turns_reach n s between turns w o T stand same has early) turn

  pub turns_part : (count : ℕ) (s t : TurnState) → Turns A config number places count s t → (w : WorldState) (o : Opening) (T : List Step) → Stands w o T → o.config ≡ config
      → HasNode w number s.node → w.clock ≤ s.outside.moment → (0 < count) ⊎ (w.clock ≡ s.outside.moment) → GoesOn number s t w o T
  turns_part count s t turns w o T stand same has early which =
      let all = turns_reach count s t turns w o T stand same has early in
      let reaches = all.reaches in
      record {
        calls = all.calls;
        asked = all.asked;
        steps = reaches.steps;
        left = reaches.left;
        part = part_of number all.calls t.node all.moment w o T reaches;
        node = reaches.node_is;
        clock = reaches.clock ∙ all.exact which;
      }

pub turns_are_parts : (A : Type 0) → TurnsAreParts A
turns_are_parts A config number places count s t turns w o T stand same has clock = turns_part A config number places count s t turns w o T stand same has (omega (arith, clock)) (inr clock)
