-- A turn, stretch by stretch; and turn after turn.
use Rattle.std.proofs.Common.{◌≡◌, ℕ, zero, suc, ◌+◌, ◌<◌, ◌≤◌, Bool, true, false, List, [], ◌∷◌, ◌++◌, map, refl, ap, subst, ◌∙◌, arith}
use Rattle.std.specs.List.{AllByRecursion}
use Rattle.std.proofs.lemmas.List.{append_assoc}
use Rattle.lisp_policy.specs.Configuration.{ConfigValue}
use Rattle.lisp_turns.specs.Acts.{acts_calls}
use Rattle.lisp_turns.specs.Node.{NodeState, Passes}
use Rattle.lisp_turns.specs.Outside.{Reception, Call, Receives, Polls, Reads, Listens, OutsideState, IsApart, Logs, ReadsClock, logged}
use Rattle.lisp_turns.specs.Pause.{may_try, no_pause}
use Rattle.lisp_turns.specs.Turn.{TurnState, acts_of, IsHearing, IsTurn, IsLostTurn, Turns, UncutTurns, IsUncut, LosesTurn, commit_calls, telling_calls, expired_calls, rest_calls, hearing_calls, turn_calls}
use Rattle.lisp_turns.specs.Requests.{ResolvingValue, answered_calls}
use Rattle.lisp_turns.specs.Stretch.{Asks, Expires, told_calls, TakesIn, ServesDue, AnswersWaiting, beginning, StartsTurns}
use Rattle.lisp_turns.specs.declared.pause.Pause.{Pause}
use Rattle.lisp_turns.proofs.Asking.{asks_then, logged_twice}

one_more : (n : ℕ) → suc n ≡ n + 1
one_more n = omega arith

pub uncut_more : (n : ℕ) (s : TurnState) → s.outside.is_cut ≡ false → IsUncut (n + 1) s
uncut_more n s uncut = subst (λ (k : ℕ). IsUncut k s) (one_more n) uncut

-- what is asked in a turn, in the stretches of it
regroup : (rest requests due told commit others dead first : List Call) → (rest ++ (requests ++ (due ++ (told ++ commit ++ others))) ++ dead) ++ first ≡ rest ++ requests ++ due ++ told ++ (commit ++ others ++ dead ++ first)
regroup rest requests due told commit others dead first = simp append_assoc

-- what holds of all and of one more holds of all of them
all_then : {X : Type 0} (Holds : X → Type 0) (xs : List X) (x : X) → AllByRecursion Holds xs → Holds x → AllByRecursion Holds (xs ++ x ∷ [])
all_then Holds [] x all one = (one, tt)
all_then Holds (y ∷ ys) x all one = (all.0, all_then Holds ys x all.1 one)

module _ (A : Type 0) (config : ConfigValue) (number places : ℕ) where
  module _ (node passed between : NodeState) (receives receives_left sends sends_between : Pause) (resolving resolving_between : ResolvingValue) (s asked_once begun expired heard : OutsideState) (reception : Reception) (now : ℕ) (done : Bool)
      (logs : Logs s asked_once (Receives reception)) (is_apart : IsApart s.is_asked reception) (reads : ReadsClock asked_once begun now) (expires : Expires node passed now begun expired)
      (takes : TakesIn A config number places (record { node = passed; receives = receives; sends = sends; resolving = resolving; outside = expired })
      (record { node = between; receives = receives_left; sends = sends_between; resolving = resolving_between; outside = heard }) now reception done) where
    abbrev old : TurnState
    old = record { node = node; receives = receives; sends = sends; resolving = resolving; outside = s }

    same_asked : expired.is_asked ≡ s.is_asked
    same_asked = ap (λ (t : OutsideState). t.is_asked) expires.asked ∙ ap (λ (t : OutsideState). t.is_asked) reads.left ∙ ap (λ (t : OutsideState). t.is_asked) logs

    is_hearing : IsHearing A config number places old between now reception expires.dead takes.intake
    is_hearing = record {
      later = subst (λ (t : OutsideState). t.moment ≤ now) logs reads.later;
      bound = reads.bound;
      apart = all_then (IsApart s.is_asked) takes.intake.others reception (subst (λ (b : Bool). AllByRecursion (IsApart b) takes.intake.others) same_asked takes.apart) is_apart;
      passed = passed;
      expires = expires.told;
      takes = takes.takes;
    }

    -- what was asked first
    abbrev first_calls : List Call
    first_calls = Reads now ∷ Receives reception ∷ []

    first_asked : begun ≡ record s { log = logged first_calls s.log; moment = now }
    first_asked =
        reads.left ∙ (λ i. record { log = (ap (λ (t : OutsideState). logged (Reads now ∷ []) t.log) logs ∙ logged_twice (Receives reception ∷ []) (Reads now ∷ []) s.log) i; moment = now; is_cut = (logs i).is_cut; is_asked = (logs i).is_asked })

    -- and then
    asked_all : (after : OutsideState) (later_calls all_calls : List Call) → Asks begun after later_calls → later_calls ++ first_calls ≡ all_calls
        → after ≡ record s { log = logged all_calls s.log; moment = now; is_cut = after.is_cut }
    asked_all after later_calls all_calls later_asked same =
        later_asked
        ∙ (λ i. record {
          log = (ap (λ (t : OutsideState). logged later_calls t.log) first_asked
              ∙ logged_twice first_calls later_calls s.log
              ∙ ap (λ (calls : List Call). logged calls s.log) same) i;
          moment = (first_asked i).moment;
          is_cut = after.is_cut;
          is_asked = (first_asked i).is_asked;
        })

    -- what was asked while it took in
    abbrev asked_in : Bool → List Call
    asked_in b = told_calls number b reception receives now takes.intake between ++ commit_calls (acts_of number takes.intake) b ++ Listens takes.intake.order ∷ map Polls takes.intake.others

    -- it is lost
    pub turn_lost : done ≡ false → IsLostTurn A config number places old between heard
    turn_lost is =
        let asked = asks_then begun expired heard _ (asked_in false) expires.asked (subst (λ (b : Bool). Asks expired heard (asked_in b)) is takes.asked) in
        record {
          reception = reception;
          now = now;
          dead = expires.dead;
          intake = takes.intake;
          hearing = is_hearing;
          some = takes.some is;
          calls = asked_all heard _ (hearing_calls number reception now expires.dead takes.intake false) asked refl;
        }

    -- or goes on
    module _ (swept left : NodeState) (receives_before receives_served sends_left : Pause) (resolving_before resolving_served resolving_left : ResolvingValue) (served answered after : OutsideState) (is : done ≡ true)
        (withdrawn : Passes between swept now)
        (serves : ServesDue A config number (record { node = swept; receives = receives_before; sends = sends; resolving = resolving_before; outside = heard })
        (record { node = left; receives = receives_served; sends = sends_left; resolving = resolving_served; outside = served }) now (may_try sends now))
        (answers : AnswersWaiting config number places left now resolving resolving_left served answered)
        (rests : Asks answered after (rest_calls reception)) where
      -- what was asked then
      abbrev requests : List Call
      requests = answered_calls answers.ended answers.deeds

      abbrev later_calls : List Call
      later_calls = rest_calls reception ++ (requests ++ (acts_calls serves.served ++ asked_in true)) ++ expired_calls expires.dead

      later_asked : Asks begun after later_calls
      later_asked = asks_then begun expired after _ _ expires.asked
          (asks_then expired answered after _ _ (asks_then expired served answered _ _ (asks_then expired heard served _ _ (subst (λ (b : Bool). Asks expired heard (asked_in b)) is takes.asked) serves.asked) answers.asked) rests)

      pub turn_made : IsTurn A config number places old (record { node = left; receives = receives_left; sends = sends_left; resolving = resolving_left; outside = after })
      turn_made =
          record {
            reception = reception;
            now = now;
            dead = expires.dead;
            intake = takes.intake;
            between = between;
            hearing = is_hearing;
            left = swept;
            withdrawn = withdrawn;
            receives = takes.left_is is;
            served = serves.served;
            did_serve = serves.did;
            serves = serves.serves;
            deeds = answers.deeds;
            ended = answers.ended;
            answers = answers.answers;
            calls = asked_all after later_calls (turn_calls number reception receives now expires.dead takes.intake between serves.served requests) later_asked
                (regroup (rest_calls reception) requests (acts_calls serves.served) (telling_calls number reception receives now takes.intake between) (commit_calls (acts_of number takes.intake) true)
                (Listens takes.intake.order ∷ map Polls takes.intake.others) (expired_calls expires.dead) first_calls);
          }

  -- a turn more, after turns whose lines could be printed
  pub turns_more : (n : ℕ) (first between last : TurnState) → UncutTurns A config number places n first between → IsUncut n between
      → IsTurn A config number places between last → UncutTurns A config number places (n + 1) first last
  turns_more n first between last turns uncut turn = subst (λ (k : ℕ). UncutTurns A config number places k first last) (one_more n) (between, turns, uncut, turn)

  pub starts : (turns count : ℕ) (begun node : NodeState) (before after : OutsideState) (receives sends : Pause) (resolving left : ResolvingValue) → count ≤ turns
      → (count < turns → after.is_cut ≡ true)
      → UncutTurns A config number places count (record { node = begun; receives = no_pause; sends = no_pause; resolving = resolving; outside = before }) (record { node = node; receives = receives; sends = sends; resolving = left; outside = after })
      → StartsTurns A config number places turns begun node resolving before after
  starts turns count begun node before after receives sends resolving left few cut took =
      record { receives = receives; sends = sends; left = left; took = record { count = count; few = few; took = took; cut = cut } }

  pub loses : (turns left count : ℕ) (begun : NodeState) (resolving : ResolvingValue) (before after : OutsideState) (last : TurnState) (node : NodeState) → count + 1 + left ≡ turns
      → UncutTurns A config number places count (beginning begun resolving before) last → IsUncut count last → IsLostTurn A config number places last node after
      → LosesTurn A config number places turns left (beginning begun resolving before) node after
  loses turns left count begun resolving before after last node counted took uncut lost = record { count = count; counted = counted; before = last; took = took; uncut = uncut; lost = lost }

  pub turns_are : (n : ℕ) (first last : TurnState) → UncutTurns A config number places n first last → Turns A config number places n first last
  turns_are zero first last turns = turns
  turns_are (suc n) first last turns = (turns.0, turns_are n first turns.0 turns.1, turns.3)
