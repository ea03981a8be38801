-- Over all its turns a node keeps its budget: what is given to the socket for Map-Requests is taken from it.
use Rattle.std.proofs.Common.{◌≡◌, ℕ, ◌≤◌, Bool, true, false, cond, List, [], ◌∷◌, ◌++◌, inl, refl, sym, subst, ◌∙◌, arith, true≢false, append-nil, map, ap, Option, Some, None, Result, Ok, Err, zero, suc}
use Rattle.std.specs.List.{All}
use Rattle.std.proofs.lemmas.List.Elements.{All-nil, All-push, All-weaker}
use Rattle.std.proofs.lemmas.List.{append_assoc}
use Rattle.lisp_budget.specs.Budget.{BudgetState, unused, slot_of, at_slot, counted as counted_in, takes, after_take, Accounts}
use Rattle.lisp_budget.specs.Sent.{SentValue, KeepsBudget}
use Rattle.lisp_budget.proofs.AccountLaws.{known_in, not_over, accounts_taken}
use Rattle.lisp_records.specs.declared.router.RouterId.{RouterId}
use Rattle.lisp_records.specs.Address.{PrefixValue}
use Rattle.lisp_records.specs.declared.address.Addr.{Addr}
use Rattle.lisp_turns.specs.Acts.{TurnAct, acts_calls}
use Rattle.lisp_turns.specs.Node.{NodeState, core_of}
use Rattle.lisp_turns.specs.Obeying.{answer_of}
use Rattle.lisp_turns.specs.Outside.{Call, Reception, Receives, Polls, Reads, Listens, Answers, Replies, Prints, Requests, OutsideState, logged}
use Rattle.lisp_turns.specs.Requests.{counted, Passage, Held, Sent, is_sent, PassesEach, PassesOf, RequestDeed, DoesRequests, passage_calls, passages_calls, outcome_calls, made_calls, deed_calls, deeds_calls, end_calls, answered_calls}
use Rattle.lisp_turns.specs.Turn.{Intake, acts_of, failure_calls, rest_calls, expired_calls, commit_calls, hearing_calls, telling_calls, turn_calls, TurnState, IsTurn, UncutTurns}
use Rattle.lisp_turns.specs.declared.outside.Printed.TheVariants as printed
use Rattle.lisp_turns.specs.declared.pause.Pause.{Pause}
use Rattle.lisp_turns.proofs.CallKinds.{IsOfKinds, AreOfKinds, acts_kinds, polls_kinds, rest_kinds, failure_kinds, expired_kinds, commit_kinds, outcomes_kinds, end_kinds, passage_kinds, deeds_kinds}
use Rattle.lisp_turns.proofs.Reaching.{all_append}
use Rattle.lisp_turns.proofs.Asking.{logged_none, logged_twice}
use Rattle.lisp_deployment.specs.Budgeted.{moment_in, replied, RepliesKeepTheBudget}
use Rattle.lisp_mapping.specs.Handling.{HandledValue}
use Rattle.lisp_mapping.specs.Sends.{DatagramValue}
use Rattle.lisp_mapping.specs.declared.unasked.Unasked.{Unasked}
use Rattle.lisp_policy.specs.Configuration.{ConfigValue}

-- a budget of so many bytes accounts for what was sent, nothing of it later than a moment
pub record HasSent (now each all : ℕ) (b : BudgetState) (sent : List SentValue) : Type 0 where
  pub accounts : Accounts b sent
  pub early : All (λ s. s.at ≤ now) sent
  pub each_is : b.each ≡ each
  pub all_is : b.all ≡ all

-- at first for nothing
pub sent_none : (now each all : ℕ) → HasSent now each all (unused each all) []
sent_none now each all = record {
  accounts = record {
    counts = record {
      differ = tt;
      past = All-nil _;
      before_each = λ to. refl;
      present_each = λ to. refl;
      known = λ to is. absurd (true≢false (sym is));
      before_all = refl;
      present_all = refl;
    };
    last = inl refl;
    keeps = record { of_each = λ to from. omega arith; of_all = λ from. omega arith };
  };
  early = All-nil _;
  each_is = refl;
  all_is = refl;
}

-- and then for one more, if it is taken
module _ (each all : ℕ) (b : BudgetState) (sent : List SentValue) (s : SentValue) (has : HasSent s.at each all b sent) where
  sent_by : (counts : Bool) → takes b s ≡ counts → HasSent s.at each all (cond counts (counted_in (at_slot b (slot_of s.at)) s.to s.bytes) b) (sent ++ cond counts (s ∷ []) [])
  sent_by true may =
      let known = known_in b (slot_of s.at) sent has.accounts.counts (not_over b sent s.at has.accounts has.early) in
      record {
        accounts = accounts_taken b sent s has.accounts has.early may;
        early = All-push (λ x. x.at ≤ s.at) sent s has.early (omega arith);
        each_is = known.each ∙ has.each_is;
        all_is = known.all ∙ has.all_is;
      }
  sent_by false may = subst (HasSent s.at each all b) (sym (append-nil sent)) has

  pub sent_one : (counts : Bool) → counts ≡ takes b s → HasSent s.at each all (after_take b s) (sent ++ cond counts (s ∷ []) [])
  sent_one counts is = subst (λ (t : Bool). HasSent s.at each all (after_take b s) (sent ++ cond t (s ∷ []) [])) (sym is) (sent_by (takes b s) refl)

-- so what was sent keeps to it
pub keeps_budget : (now each all : ℕ) (b : BudgetState) (sent : List SentValue) → HasSent now each all b sent → KeepsBudget sent each all
keeps_budget now each all b sent has =
    subst (λ n. KeepsBudget sent n all) has.each_is (subst (λ n. KeepsBudget sent b.each n) has.all_is has.accounts.keeps)

-- ---- what was given to the socket for Map-Requests, in parts of what was asked outside

-- of calls one after the other
moment_append : (start : ℕ) (cs ds : List Call) → moment_in start (cs ++ ds) ≡ moment_in (moment_in start ds) cs
moment_append start [] ds = refl
moment_append start (Reads now ∷ cs) ds = refl
moment_append start (_ ∷ cs) ds = moment_append start cs ds

pub replied_append : (start : ℕ) (cs ds : List Call) → replied start (cs ++ ds) ≡ replied start ds ++ replied (moment_in start ds) cs
replied_append start [] ds = sym (append-nil (replied start ds))
replied_append start (Replies d taken ∷ cs) ds =
    (λ i. replied_append start cs ds i ++ counted d (moment_append start cs ds i) ∷ [])
    ∙ append_assoc (replied start ds) (replied (moment_in start ds) cs) (counted d (moment_in (moment_in start ds) cs) ∷ [])
replied_append start (_ ∷ cs) ds = replied_append start cs ds

-- calls that read no clock leave the moment, and some give nothing to the socket for a Map-Request either
pub timeless : (replies : Bool) (cs : List Call) → AreOfKinds true true replies cs → (start : ℕ) → moment_in start cs ≡ start
timeless replies [] all start = refl
timeless replies (Reads now ∷ cs) all start = absurd all.0
timeless replies (_ ∷ cs) all start = timeless replies cs all.1 start

pub no_replies : (cs : List Call) → AreOfKinds true true false cs → (start : ℕ) → replied start cs ≡ []
no_replies [] all start = refl
no_replies (Replies d taken ∷ cs) all start = absurd all.0
no_replies (_ ∷ cs) all start = no_replies cs all.1 start

-- what such calls leave of those after them, and of those before them
silent_first : (cs ds : List Call) → AreOfKinds true true false ds → (start : ℕ) → replied start (cs ++ ds) ≡ replied start cs
silent_first cs ds silent start = replied_append start cs ds ∙ (λ i. no_replies ds silent start i ++ replied (timeless false ds silent start i) cs)

silent_last : (cs ds : List Call) → AreOfKinds true true false cs → (start : ℕ) → replied start (cs ++ ds) ≡ replied start ds
silent_last cs ds silent start = replied_append start cs ds ∙ (ap (λ l. replied start ds ++ l) (no_replies cs silent (moment_in start ds)) ∙ append-nil (replied start ds))

-- ---- a turn

module _ (number : ℕ) (first : Reception) (receives : Pause) (now : ℕ) (dead : List (RouterId × PrefixValue)) (intake : Intake) where
  abbrev heard_calls : List Call
  heard_calls = commit_calls (acts_of number intake) true ++ (Listens intake.order ∷ map Polls intake.others) ++ expired_calls dead

  abbrev Silent : Call → Type 0
  Silent call = IsOfKinds true true false call

  heard_silent : AreOfKinds true true false heard_calls
  heard_silent =
      all_append Silent (commit_calls (acts_of number intake) true ++ (Listens intake.order ∷ map Polls intake.others)) (expired_calls dead)
      (all_append Silent (commit_calls (acts_of number intake) true) (Listens intake.order ∷ map Polls intake.others) (commit_kinds true true false (acts_of number intake) true) (tt, polls_kinds true false intake.others))
      (expired_kinds true true false dead)

  -- it reads the clock once, before it gives anything to the socket
  hearing_moment : (start : ℕ) → moment_in start (hearing_calls number first now dead intake true) ≡ now
  hearing_moment start = moment_append start heard_calls (Reads now ∷ Receives first ∷ []) ∙ timeless false heard_calls heard_silent now

  hearing_replied : (start : ℕ) → replied start (hearing_calls number first now dead intake true) ≡ []
  hearing_replied start = silent_last heard_calls (Reads now ∷ Receives first ∷ []) heard_silent start

  telling_silent : (node : NodeState) → AreOfKinds true true false (telling_calls number first receives now intake node)
  telling_silent node = all_append Silent (Answers (core_of node) now (answer_of intake.outcome) ∷ acts_calls (acts_of number intake)) (failure_calls first receives now)
      (tt, acts_kinds true false (acts_of number intake)) (failure_kinds true true false first receives now)

  -- and gives it what it answers to Map-Requests, and nothing else
  pub turn_replied : (node : NodeState) (served : List TurnAct) (answered : List Call) (start : ℕ) → replied start (turn_calls number first receives now dead intake node served answered) ≡ replied now answered
  turn_replied node served answered start =
      let told = telling_calls number first receives now intake node in
      replied_append start (rest_calls first ++ answered ++ acts_calls served ++ told) (hearing_calls number first now dead intake true)
      ∙ (λ i. hearing_replied start i ++ replied (hearing_moment start i) (rest_calls first ++ answered ++ acts_calls served ++ told))
      ∙ silent_first (rest_calls first ++ answered ++ acts_calls served) told (telling_silent node) now
      ∙ silent_first (rest_calls first ++ answered) (acts_calls served) (acts_kinds true false served) now
      ∙ silent_last (rest_calls first) answered (rest_kinds true true false first) now

-- ---- what is given to it for the Map-Requests of a turn is taken from the budget

-- what comes of calls at a moment, where no clock is read: first of the earlier ones
both_replied : (now : ℕ) (cs ds : List Call) → AreOfKinds true true true ds → replied now (cs ++ ds) ≡ replied now ds ++ replied now cs
both_replied now cs ds all = replied_append now cs ds ∙ ap (λ n. replied now ds ++ replied n cs) (timeless true ds all now)

passage_replied : (now : ℕ) (from : Addr) (d : DatagramValue) (passage : Passage) → cond (is_sent passage) (counted d now ∷ []) [] ≡ replied now (passage_calls from d passage)
passage_replied now from d Held = refl
passage_replied now from d (Sent true) = refl
passage_replied now from d (Sent false) = refl

module _ (now each all : ℕ) where
  -- by what was sent for some calls
  abbrev GoesOn : BudgetState → BudgetState → List Call → Type 0
  GoesOn old new calls = (sent : List SentValue) → HasSent now each all old sent → HasSent now each all new (sent ++ replied now calls)

  stays : (old new : BudgetState) (calls : List Call) → AreOfKinds true true false calls → new ≡ old → GoesOn old new calls
  stays old new calls silent same sent has =
      subst (λ (b : BudgetState). HasSent now each all b (sent ++ replied now calls)) (sym same)
      (subst (HasSent now each all old) (sym (ap (λ l. sent ++ l) (no_replies calls silent now) ∙ append-nil sent)) has)

  goes_further : (old between new : BudgetState) (cs ds : List Call) → AreOfKinds true true true ds → GoesOn old between ds → GoesOn between new cs → GoesOn old new (cs ++ ds)
  goes_further old between new cs ds timeless first second sent has =
      subst (HasSent now each all new)
      (append_assoc sent (replied now ds) (replied now cs) ∙ ap (λ l. sent ++ l) (sym (both_replied now cs ds timeless)))
      (second (sent ++ replied now ds) (first sent has))

  passage_goes : (from : Addr) (d : DatagramValue) (passage : Passage) (old : BudgetState) → is_sent passage ≡ takes old (counted d now) → GoesOn old (after_take old (counted d now)) (passage_calls from d passage)
  passage_goes from d passage old is sent has =
      subst (λ l. HasSent now each all (after_take old (counted d now)) (sent ++ l)) (passage_replied now from d passage)
      (sent_one each all old sent (counted d now) has (is_sent passage) is)

  passages_go : (from : Addr) (ds : List DatagramValue) (passages : List Passage) (old new : BudgetState) → PassesEach now ds passages old new → GoesOn old new (passages_calls from ds passages)
  passages_go from [] passages old new (none, same) = stays old new [] tt same
  passages_go from (d ∷ ds) passages old new (first, rest, is, passed, more) =
      subst (λ (l : List Passage). GoesOn old new (passages_calls from (d ∷ ds) l)) (sym is)
      (goes_further old (after_take old (counted d now)) new (passages_calls from ds rest) (passage_calls from d first) (passage_kinds true true from d first)
      (passage_goes from d first old passed)
      (passages_go from ds rest (after_take old (counted d now)) new more))

  made_goes : (from : Addr) (made : Option (Result HandledValue Unasked)) (passages : List Passage) (old new : BudgetState) → PassesOf now made passages old new → GoesOn old new (made_calls from made passages)
  made_goes from None passages old new (none, same) = stays old new [] tt same
  made_goes from (Some (Err why)) passages old new (none, same) = stays old new (Prints (printed.Unasked from why) ∷ []) (tt, tt) same
  made_goes from (Some (Ok handled)) passages old new passes =
      let outcomes = outcome_calls handled.asked.to handled.asked.eids handled.outcomes in
      goes_further old old new (passages_calls from handled.datagrams passages) outcomes (outcomes_kinds true true true handled.asked.to handled.asked.eids handled.outcomes)
      (stays old old outcomes (outcomes_kinds true true false handled.asked.to handled.asked.eids handled.outcomes) refl) (passages_go from handled.datagrams passages old new passes)

  deeds_go : (config : ConfigValue) (number : ℕ) (node : NodeState) (quiet : ℕ) (deeds : List RequestDeed) (old new : BudgetState) → DoesRequests config number node quiet now deeds old new → GoesOn old new (deeds_calls deeds)
  deeds_go config number node quiet [] old new same = stays old new [] tt same
  deeds_go config number node quiet (deed ∷ earlier) old new (between, before, does) =
      goes_further old between new (deed_calls deed) (deeds_calls earlier) (deeds_kinds true true earlier) (deeds_go config number node quiet earlier old between before)
      (goes_further between between new (made_calls deed.came.from deed.made deed.passages) (Requests (Some deed.came) ∷ []) (tt, tt)
      (stays between between (Requests (Some deed.came) ∷ []) (tt, tt) refl) (made_goes deed.came.from deed.made deed.passages between new does.passes))

  pub answered_go : (config : ConfigValue) (number : ℕ) (node : NodeState) (quiet : ℕ) (ended : Bool) (deeds : List RequestDeed) (old new : BudgetState) → DoesRequests config number node quiet now deeds old new → GoesOn old new (answered_calls ended deeds)
  answered_go config number node quiet ended deeds old new does =
      goes_further old new new (end_calls ended) (deeds_calls deeds) (deeds_kinds true true deeds)
      (deeds_go config number node quiet deeds old new does)
      (stays new new (end_calls ended) (end_kinds true true false ended) refl)

-- ---- over all turns

-- what was asked so far, and that the budget accounts for what was given to the socket for Map-Requests
record HasAsked (each all : ℕ) (s t : TurnState) : Type 0 where
  pub calls : List Call
  pub asked : t.outside.log ≡ logged calls s.outside.log
  pub sent : HasSent t.outside.moment each all t.resolving.budget (replied s.outside.moment calls)

later : (now then each all : ℕ) (b : BudgetState) (sent : List SentValue) → now ≤ then → HasSent now each all b sent → HasSent then each all b sent
later now then each all b sent after has = record {
  accounts = has.accounts;
  early = All-weaker (λ s. s.at ≤ now) (λ s. s.at ≤ then) (λ s le. omega arith) sent has.early;
  each_is = has.each_is;
  all_is = has.all_is;
}

next_turn : (A : Type 0) (config : ConfigValue) (number places each all : ℕ) (s between t : TurnState) → HasAsked each all s between → IsTurn A config number places between t → HasAsked each all s t
next_turn A config number places each all s between t so_far turn =
    let answered : List Call = answered_calls turn.ended turn.deeds in
    let more : List Call = turn_calls number turn.reception between.receives turn.now turn.dead turn.intake turn.between turn.served answered in
    let start : ℕ = s.outside.moment in
    let moment : t.outside.moment ≡ turn.now = ap (λ (o : OutsideState). o.moment) turn.calls in
    let before = later between.outside.moment turn.now each all between.resolving.budget (replied start so_far.calls) turn.hearing.later so_far.sent in
    let after = answered_go turn.now each all config number t.node between.resolving.quiet turn.ended turn.deeds between.resolving.budget t.resolving.budget turn.answers.does (replied start so_far.calls) before in
    let all_replied : replied start (more ++ so_far.calls) ≡ replied start so_far.calls ++ replied turn.now answered =
    replied_append start more so_far.calls
    ∙ ap (λ (l : List SentValue). replied start so_far.calls ++ l) (turn_replied number turn.reception between.receives turn.now turn.dead turn.intake turn.between turn.served answered (moment_in start so_far.calls)) in
    record {
      calls = more ++ so_far.calls;
      asked = ap (λ (o : OutsideState). o.log) turn.calls ∙ (ap (logged more) so_far.asked ∙ logged_twice so_far.calls more s.outside.log);
      sent = subst (λ n. HasSent n each all t.resolving.budget (replied start (more ++ so_far.calls))) (sym moment)
          (subst (HasSent turn.now each all t.resolving.budget) (sym all_replied) after);
    }

all_turns : (A : Type 0) (config : ConfigValue) (number places count each all : ℕ) (s t : TurnState) → UncutTurns A config number places count s t → s.resolving.budget ≡ unused each all → HasAsked each all s t
all_turns A config number places zero each all s t same none =
    subst (HasAsked each all s) (sym same)
    (record {
      calls = [];
      asked = sym (logged_none s.outside.log);
      sent = subst (λ (b : BudgetState). HasSent s.outside.moment each all b []) (sym none) (sent_none s.outside.moment each all);
    })
all_turns A config number places (suc n) each all s t (between, turns, uncut, turn) none =
    next_turn A config number places each all s between t (all_turns A config number places n each all s between turns none) turn

pub replies_keep_the_budget : (A : Type 0) → RepliesKeepTheBudget A
replies_keep_the_budget A config number places count s t turns each all none =
    let asked = all_turns A config number places count each all s t turns none in
    (asked.calls, asked.asked, keeps_budget t.outside.moment each all t.resolving.budget (replied s.outside.moment asked.calls) asked.sent)
