-- What a node takes in in a turn: one datagram after the other is heard, and an order is done; and then all is told.
use Rattle.std.proofs.Common.{◌≡◌, ◌⊎◌, inl, inr, ℕ, ◌+◌, ◌-◌, ◌<◌, ◌≤◌, Bool, true, false, true≢false, List, [], ◌∷◌, ◌++◌, length, map, drop, reverse, Option, Some, None, Ok, Err, refl, sym, ap, subst, ◌∙◌, arith}
use Rattle.std.specs.Prelude.{◌≢◌, if◌then◌else◌}
use Rattle.std.specs.List.{AllByRecursion}
use Rattle.std.proofs.lemmas.List.{append_assoc, reverse-append}
use Rattle.lisp_memory.specs.Refusal.{MachineMayRefuse}
use Rattle.lisp_records.specs.declared.address.Addr.{Addr}
use Rattle.lisp_policy.specs.Configuration.{ConfigValue}
use Rattle.lisp_model.specs.declared.event.Event.TheVariants as events
use Rattle.lisp_model.specs.declared.line.Line.{Line}
use Rattle.lisp_model.specs.declared.world_fault.WorldFault.{WorldFault}
use Rattle.lisp_turns.specs.Act.{ActValue}
use Rattle.lisp_turns.specs.Acts.{TurnAct, DoesOne, DoesAll, send_calls, acts_calls, printed_of}
use Rattle.lisp_turns.specs.Group.{HearsEach, IsHeard, HearsNext, HearsOthers, HearsGroup, TakesAll, has_acts, TellsEach, TellsOutcome, TellsAll}
use Rattle.lisp_turns.specs.Node.{NodeState, core_of}
use Rattle.lisp_turns.specs.Obeying.{Outcome, Obeys, obeyed, answer_of}
use Rattle.lisp_turns.specs.Order.{event_of}
use Rattle.lisp_turns.specs.Outside.{Reception, Datagram, Nothing, Failed, Call, Polls, Commits, Prints, Listens, Answers, OutsideState, IsApart, Logs, logged}
use Rattle.lisp_turns.specs.Requests.{ResolvingValue}
use Rattle.lisp_turns.specs.Stretch.{Asks, Tells, TakesIn}
use Rattle.lisp_turns.specs.Turn.{Hears, IsDatagram, IsGroup, Intake, acts_of, IsTakenIn, receives_after, failure_calls, commit_calls}
use Rattle.lisp_turns.specs.declared.group.Heard.{Heard}
use Rattle.lisp_turns.specs.declared.order.Order.{Order}
use Rattle.lisp_turns.specs.declared.order.Order.TheVariants.{Notice}
use Rattle.lisp_turns.specs.declared.outside.Printed.{Printed}
use Rattle.lisp_turns.specs.declared.outside.Printed.TheVariants as printed
use Rattle.lisp_turns.specs.declared.pause.Pause.{Pause}
use Rattle.lisp_turns.proofs.Asking.{asks_none, asks_one, asks_then}

-- what is told goes on by one more
pub tells_more : (told : List Heard) (h : Heard) (before s after : OutsideState) → TellsEach (reverse told) before s → Tells s after (printed.Heard h.act.line h.from) h.act.message → TellsEach (reverse (told ++ h ∷ [])) before after
tells_more told h before s after so_far tells =
    subst (λ (l : List Heard). TellsEach l before after) (sym (reverse-append told (h ∷ []))) (s, so_far, tells)

-- the first is told before all others
pub tells_first : (others : List Heard) (h : Heard) (before s after : OutsideState) → Tells before s (printed.Heard h.act.line h.from) h.act.message → TellsEach others s after → TellsEach (others ++ h ∷ []) before after
tells_first [] h before s after tells same = (before, refl, subst (λ (t : OutsideState). Tells before t (printed.Heard h.act.line h.from) h.act.message) (sym same) tells)
tells_first (newest ∷ earlier) h before s after tells (between, more, last) = (between, tells_first earlier h before s between tells more, last)

-- there is one
abbrev any : {X : Type 0} → List X → Bool
any [] = false
any (x ∷ xs) = true

module _ (A : Type 0) (config : ConfigValue) (number now : ℕ) where
  module _ (received : List Reception) (heard : List Heard) (old between new : NodeState) where
    -- what is heard goes on by one more
    pub hears_more : (reception : Reception) (newest : Heard) → HearsEach A config number now received (reverse heard) old between → IsHeard A config number now reception (Some newest) between new
        → HearsEach A config number now (reception ∷ received) (reverse (heard ++ newest ∷ [])) old new
    hears_more (Datagram from bytes) newest so_far (from_is, does) = (newest, reverse heard, between, reverse-append heard (newest ∷ []), from_is, so_far, does)
    hears_more _ newest so_far is = absurd is

    -- or by nothing
    pub hears_no_more : (reception : Reception) → HearsEach A config number now received heard old between → IsHeard A config number now reception None between new
        → HearsEach A config number now (reception ∷ received) heard old new
    hears_no_more (Datagram from bytes) so_far is = absurd is
    hears_no_more _ so_far is = subst (λ (n : NodeState). HearsEach A config number now received heard old n) (sym is) so_far

  -- the first was heard before all others
  pub hears_first : (others : List Reception) (heard : List Heard) (old between new : NodeState) (from : Addr) (bytes : List ℕ) (first : Heard) → first.from ≡ from
      → DoesOne A config number old between now (events.Junk number from bytes) first.act → HearsEach A config number now others heard between new
      → HearsEach A config number now (others ++ Datagram from bytes ∷ []) (heard ++ first ∷ []) old new
  hears_first [] heard old between new from bytes first from_is does (none, same) =
      (first, [], old, ap (λ (l : List Heard). l ++ first ∷ []) none, from_is, (refl, refl), subst (λ (n : NodeState). DoesOne A config number old n now (events.Junk number from bytes) first.act) (sym same) does)
  hears_first (Datagram where_from more ∷ earlier) heard old between new from bytes first from_is does (newest, rest, middle, is, its_from, so_far, its) =
      (newest, rest ++ first ∷ [], middle, ap (λ (l : List Heard). l ++ first ∷ []) is, its_from, hears_first earlier rest old between middle from bytes first from_is does so_far, its)
  hears_first (_ ∷ earlier) heard old between new from bytes first from_is does hears = hears_first earlier heard old between new from bytes first from_is does hears

  -- the acts of a turn's datagrams, which were told
  pub record Acted (received : List Reception) (heard : List Heard) (old new : NodeState) (before after : OutsideState) : Type 0 where
    pub acts : List TurnAct
    pub any_acts : any acts ≡ any heard
    pub hears : Hears number received acts
    pub did : DoesAll A config number old new now acts
    pub asked : Asks before after (acts_calls acts)

  pub acted : (received : List Reception) (heard : List Heard) (old new : NodeState) (before after : OutsideState) → HearsEach A config number now received heard old new → TellsEach heard before after → Acted received heard old new before after
  acted [] heard old new before after (none, same) tells = record {
    acts = [];
    any_acts = sym (ap any none);
    hears = refl;
    did = same;
    asked = subst (λ (s : OutsideState). Asks before s []) (sym (subst (λ (l : List Heard). TellsEach l before after) none tells)) (asks_none before);
  }
  acted (Datagram from bytes ∷ earlier) heard old new before after (newest, rest, between, is, from_is, hears, does) tells =
      let told = subst (λ (l : List Heard). TellsEach l before after) is tells in
      let so_far = acted earlier rest old between before told.0 hears told.1 in
      record {
        acts = record { event = events.Junk number from bytes; act = newest.act; told = true; taken = told.2.taken } ∷ so_far.acts;
        any_acts = sym (ap any is);
        hears = (_, so_far.acts, refl, refl, refl, so_far.hears);
        did = (between, so_far.did, does);
        asked = asks_then before told.0 after (acts_calls so_far.acts) _ so_far.asked
            (subst (λ (a : Addr). Asks told.0 after (send_calls newest.act.message told.2.taken ++ Prints (printed.Heard newest.act.line a) ∷ [])) from_is told.2.asked);
      }
  acted (_ ∷ earlier) heard old new before after hears tells = (let a = acted earlier heard old new before after hears tells in record { acts = a.acts; any_acts = a.any_acts; hears = a.hears; did = a.did; asked = a.asked })

-- lines and messages could be told
told_some : (heard : List Heard) (before : OutsideState) → (after : OutsideState) × TellsEach heard before after
told_some [] before = (before, refl)
told_some (h ∷ earlier) before =
    let s = told_some earlier before in
    (record s.0 { log = logged (send_calls h.act.message false ++ Prints (printed.Heard h.act.line h.from) ∷ []) s.0.log }, (s.0, s.1, record { taken = false; asked = refl }))

-- a node heard some of the datagrams that waited, so many, and goes on
pub record HeardSome (A : Type 0) (config : ConfigValue) (number places : ℕ) (old new : NodeState) (now count : ℕ) (heard : List Heard) (before after : OutsideState) : Type 0 where
  pub received : List Reception
  pub apart : AllByRecursion (IsApart before.is_asked) received
  pub counted : length received + 1 ≡ count
  pub few : length received ≤ places - 1
  pub datagrams : AllByRecursion IsDatagram received
  pub hears : HearsEach A config number now received (reverse heard) old new
  pub asked : Asks before after (map Polls received)

-- whether Map-Requests wait apart stays as it is
apart_before : (before s : OutsideState) (calls : List Call) (reception : Reception) → Asks before s calls → IsApart s.is_asked reception → IsApart before.is_asked reception
apart_before before s calls reception asked apart = subst (λ (b : Bool). IsApart b reception) (ap (λ (t : OutsideState). t.is_asked) asked) apart

-- all but the newest of some is among them
all_drop_one : (received : List Reception) → AllByRecursion IsDatagram received → AllByRecursion IsDatagram (drop 1 received)
all_drop_one [] all = tt
all_drop_one (r ∷ earlier) all = all.1

module _ (A : Type 0) (config : ConfigValue) (number now : ℕ) (old new : NodeState) where
  is_datagram : (heard : Heard) (reception : Reception) → IsHeard A config number now reception (Some heard) old new → IsDatagram reception
  is_datagram heard (Datagram from bytes) is = tt
  is_datagram heard _ is = absurd is

  no_datagram : (reception : Reception) → IsHeard A config number now reception None old new → IsDatagram reception → ⊥
  no_datagram (Datagram from bytes) is there = is
  no_datagram _ is there = there

module _ {A : Type 0} {config : ConfigValue} {number places : ℕ} {old : NodeState} {now : ℕ} {before : OutsideState} where
  pub heard_none : HeardSome A config number places old old now 1 [] before before
  heard_none = record { received = []; apart = tt; counted = refl; few = omega arith; datagrams = tt; hears = (refl, refl); asked = asks_none before }

  module _ {between new : NodeState} {count : ℕ} {heard : List Heard} {s after : OutsideState} (so_far : HeardSome A config number places old between now count heard before s) (room : count < places) where
    pub heard_more : {newest : Heard} → HearsNext A config number between new now (Some newest) s after → HeardSome A config number places old new now (count + 1) (heard ++ newest ∷ []) before after
    heard_more {newest} next = record {
      received = next.reception ∷ so_far.received;
      apart = (apart_before before s (map Polls so_far.received) next.reception so_far.asked next.apart, so_far.apart);
      counted = omega (arith, so_far.counted);
      few = omega (arith, so_far.counted, room);
      datagrams = (is_datagram A config number now between new newest next.reception next.heard, so_far.datagrams);
      hears = hears_more A config number now so_far.received heard old between new next.reception newest so_far.hears next.heard;
      asked = asks_then before s after (map Polls so_far.received) (Polls next.reception ∷ []) so_far.asked next.asked;
    }

    -- none waits any more
    pub heard_last : HearsNext A config number between new now None s after → HearsOthers A config number places old new now (reverse heard) before after
    heard_last next = record {
      others = next.reception ∷ so_far.received;
      apart = (apart_before before s (map Polls so_far.received) next.reception so_far.asked next.apart, so_far.apart);
      few = omega (arith, so_far.counted, room);
      datagrams = so_far.datagrams;
      full = λ datagram. absurd (no_datagram A config number now between new next.reception next.heard datagram);
      hears = hears_no_more A config number now so_far.received (reverse heard) old between new next.reception so_far.hears next.heard;
      asked = asks_then before s after (map Polls so_far.received) (Polls next.reception ∷ []) so_far.asked next.asked;
    }

  -- the group is full, or memory was refused
  pub heard_full : {new : NodeState} {count : ℕ} {heard : List Heard} {after : OutsideState} → HeardSome A config number places old new now count heard before after → (places ≤ count) ⊎ MachineMayRefuse
      → HearsOthers A config number places old new now (reverse heard) before after
  heard_full {new} {count} {heard} {after} so_far full = record {
    others = so_far.received;
    apart = so_far.apart;
    few = so_far.few;
    datagrams = all_drop_one so_far.received so_far.datagrams;
    full = λ datagram. by full;
    hears = so_far.hears;
    asked = so_far.asked;
  }
    where
      by : (places ≤ count) ⊎ MachineMayRefuse → (length so_far.received ≡ places - 1) ⊎ MachineMayRefuse
      by (inl more) = inl (omega (arith, so_far.counted, so_far.few, more))
      by (inr refused) = inr refused

-- a group was heard, behind a first datagram
module _ (A : Type 0) (config : ConfigValue) (number places : ℕ) (old between new : NodeState) (now : ℕ) (from : Addr) (bytes : List ℕ) (first : Heard) (heard : List Heard) (before after : OutsideState)
    (does : DoesOne A config number old between now (events.Junk number from bytes) first.act) (from_is : first.from ≡ from) (hears : HearsOthers A config number places between new now heard before after) where
  pub hears_group : HearsGroup A config number places old new now (Datagram from bytes) (heard ++ first ∷ []) before after
  hears_group = record {
    others = hears.others;
    apart = hears.apart;
    group = record { few = hears.few; some = inl tt; datagrams = hears.datagrams; full = λ is datagram. hears.full datagram };
    hears = hears_first A config number now hears.others heard old between new from bytes first from_is does hears.hears;
    asked = hears.asked;
  }

-- nothing came first, or the socket failed
module _ (A : Type 0) (config : ConfigValue) (number places : ℕ) (node : NodeState) (now : ℕ) (before : OutsideState) where
  none_group : (first : Reception) → (IsDatagram first → ⊥) → IsGroup places first []
  none_group first other = record { few = omega arith; some = inr refl; datagrams = tt; full = λ is. absurd (other is) }

  pub hears_none : HearsGroup A config number places node node now Nothing [] before before
  hears_none = record { others = []; apart = tt; group = none_group Nothing (λ is. is); hears = (refl, refl); asked = asks_none before }

  pub hears_failure : HearsGroup A config number places node node now Failed [] before before
  hears_failure = record { others = []; apart = tt; group = none_group Failed (λ is. is); hears = (refl, refl); asked = asks_none before }

-- what is to be committed, by whether a node did something
abbrev pub to_commit : Bool → Bool → List Call
to_commit has done = if has then Commits done ∷ [] else []

-- it is committed, where there are acts
heard_commits : (heard : List Heard) (acts : List TurnAct) (done : Bool) → any acts ≡ any heard → commit_calls acts done ≡ to_commit (any heard) done
heard_commits [] [] done same = refl
heard_commits [] (a ∷ acts) done same = absurd (true≢false same)
heard_commits (h ∷ heard) [] done same = absurd (true≢false (sym same))
heard_commits (h ∷ heard) (a ∷ acts) done same = refl

any_none : (heard : List Heard) → has_acts heard None ≡ any heard
any_none [] = refl
any_none (h ∷ heard) = refl

any_fault : (heard : List Heard) (fault : WorldFault) → has_acts heard (Some (Err fault)) ≡ any heard
any_fault [] fault = refl
any_fault (h ∷ heard) fault = refl

any_act : (heard : List Heard) (act : ActValue) → has_acts heard (Some (Ok act)) ≡ true
any_act [] act = refl
any_act (h ∷ heard) act = refl

-- there are acts where something is to be committed
some_acts : (acts : List TurnAct) (done : Bool) → commit_calls acts done ≡ Commits done ∷ [] → acts ≢ []
some_acts acts done is none = absurd (let clash : ◌≡◌ {A = List Call} [] (Commits done ∷ []) = sym (ap (λ (l : List TurnAct). commit_calls l done) none) ∙ is in cc)

-- an order's line is that of an event
event_line : (number : ℕ) (order : Order) (line : Line) → printed_of (event_of number order) line ≡ printed.Event line
event_line number (Notice router) line = refl
event_line number _ line = refl

module _ (A : Type 0) (config : ConfigValue) (number now : ℕ) (between new : NodeState) where
  taken_commits : (order : Option Order) (outcome : Outcome) → Obeys A config number between new now order outcome → (taken : Bool) (heard : List Heard) (acts : List TurnAct) (done : Bool) → any acts ≡ any heard
      → commit_calls (obeyed number order outcome taken ++ acts) done ≡ to_commit (has_acts heard outcome) done
  taken_commits (Some order) (Some (Ok act)) obeys taken heard acts done same = ap (λ (b : Bool). to_commit b done) (sym (any_act heard act))
  taken_commits (Some order) (Some (Err fault)) obeys taken heard acts done same = heard_commits heard acts done same ∙ ap (λ (b : Bool). to_commit b done) (sym (any_fault heard fault))
  taken_commits None None obeys taken heard acts done same = heard_commits heard acts done same ∙ ap (λ (b : Bool). to_commit b done) (sym (any_none heard))
  taken_commits None (Some outcome) obeys taken heard acts done same = absurd obeys
  taken_commits (Some order) None obeys taken heard acts done same = absurd obeys

  -- what came of an order is told behind what was heard
  taken_told : (order : Option Order) (outcome : Outcome) → Obeys A config number between new now order outcome → (acts : List TurnAct) (before s after : OutsideState) → Asks before s (acts_calls acts)
      → TellsOutcome outcome s after → (taken : Bool) × Asks before after (acts_calls (obeyed number order outcome taken ++ acts))
  taken_told (Some order) (Some (Ok act)) obeys acts before s after asked tells = (
    tells.taken,
    asks_then before s after (acts_calls acts) _ asked
        (subst (λ (p : Printed). Asks s after (send_calls act.message tells.taken ++ Prints p ∷ [])) (sym (event_line number order act.line)) tells.asked),
  )
  taken_told (Some order) (Some (Err fault)) obeys acts before s after asked same = (false, subst (λ (t : OutsideState). Asks before t (acts_calls acts)) (sym same) asked)
  taken_told None None obeys acts before s after asked same = (false, subst (λ (t : OutsideState). Asks before t (acts_calls acts)) (sym same) asked)
  taken_told None (Some outcome) obeys acts before s after asked tells = absurd obeys
  taken_told (Some order) None obeys acts before s after asked tells = absurd obeys

told_last : (acts failure commit asked : List Call) → acts ++ (failure ++ (commit ++ asked)) ≡ ((acts ++ failure) ++ commit) ++ asked
told_last acts failure commit asked = simp append_assoc

-- a node took in what came; and its commit was done or not
module _ (A : Type 0) (config : ConfigValue) (number places : ℕ) (old new : NodeState) (now : ℕ) (first : Reception) (heard : List Heard) (outcome : Outcome) (receives : Pause) (resolving resolving_left : ResolvingValue)
    (before s : OutsideState) (takes : TakesAll A config number places old new now first heard outcome before s) where
  abbrev received : List Reception
  received = takes.hears.others ++ first ∷ []

  abbrev asked_first : List Call
  asked_first = Listens takes.order ∷ map Polls takes.hears.others

  listened : Asks before s asked_first
  listened = asks_then before takes.listening s (map Polls takes.hears.others) (Listens takes.order ∷ []) takes.hears.asked takes.asked

  abbrev intake_of : List TurnAct → Bool → Intake
  intake_of acts taken = record { others = takes.hears.others; heard = acts; order = takes.order; outcome = outcome; taken = taken }

  taken_in : (acts : List TurnAct) (taken : Bool) → Hears number received acts → DoesAll A config number old takes.between now acts → IsTakenIn A config number places old new now first (intake_of acts taken)
  taken_in acts taken hears did = record { group = takes.hears.group; hears = hears; between = takes.between; did_hear = did; obeys = takes.obeys }

  commits : (acts : List TurnAct) (taken done : Bool) → any acts ≡ any heard → commit_calls (acts_of number (intake_of acts taken)) done ≡ to_commit (has_acts heard outcome) done
  commits acts taken done same = taken_commits A config number now takes.between new takes.order outcome takes.obeys taken heard acts done same

  abbrev Takes : (left sends sends_left : Pause) (after : OutsideState) (done : Bool) → Type 0
  Takes left sends sends_left after done =
      TakesIn A config number places (record { node = old; receives = receives; sends = sends; resolving = resolving; outside = before }) (record { node = new; receives = left; sends = sends_left; resolving = resolving_left; outside = after }) now first done

  pub loses : (sends sends_left : Pause) (after : OutsideState) → has_acts heard outcome ≡ true → Logs s after (Commits false) → Takes receives sends sends_left after false
  loses sends sends_left after has logs =
      let told = told_some heard s in
      let all = acted A config number now received heard old takes.between s told.0 takes.hears.hears told.1 in
      let committed = commits all.acts false false all.any_acts ∙ ap (λ (b : Bool). to_commit b false) has in
      record {
        intake = intake_of all.acts false;
        takes = taken_in all.acts false all.hears all.did;
        apart = takes.hears.apart;
        some = λ is. some_acts (acts_of number (intake_of all.acts false)) false committed;
        left_is = λ is. absurd (true≢false (sym is));
        asked = asks_then before s after asked_first (commit_calls (acts_of number (intake_of all.acts false)) false) listened (subst (λ (l : List Call). Asks s after l) (sym committed) (asks_one s after (Commits false) logs));
      }

  pub takes_in : (sends sends_left : Pause) (committed failed told after : OutsideState) (left : Pause) → Asks s committed (to_commit (has_acts heard outcome) true) → left ≡ receives_after first receives now
      → Asks committed failed (failure_calls first receives now) → TellsAll heard outcome failed told → Logs told after (Answers (core_of new) now (answer_of outcome))
      → Takes left sends sends_left after true
  takes_in sends sends_left committed failed told after left commits_asked left_is failure tells answers =
      let all = acted A config number now received heard old takes.between failed tells.0 takes.hears.hears tells.1 in
      let last = taken_told A config number now takes.between new takes.order outcome takes.obeys all.acts failed tells.0 told all.asked tells.2 in
      let intake = intake_of all.acts last.0 in
      let first_asked = asks_then before s committed asked_first (commit_calls (acts_of number intake) true) listened
      (subst (λ (l : List Call). Asks s committed l) (sym (commits all.acts last.0 true all.any_acts)) commits_asked) in
      let second_asked = asks_then before committed failed _ (failure_calls first receives now) first_asked failure in
      let third_asked = asks_then before failed told _ (acts_calls (acts_of number intake)) second_asked last.1 in
      record {
        intake = intake;
        takes = taken_in all.acts last.0 all.hears all.did;
        apart = takes.hears.apart;
        some = λ is. absurd (true≢false is);
        left_is = λ is. left_is;
        asked = subst (λ (l : List Call). Asks before after (Answers (core_of new) now (answer_of outcome) ∷ l))
            (told_last (acts_calls (acts_of number intake)) (failure_calls first receives now) (commit_calls (acts_of number intake) true) asked_first)
            (asks_then before told after _ (Answers (core_of new) now (answer_of outcome) ∷ []) third_asked (asks_one told after (Answers (core_of new) now (answer_of outcome)) answers));
      }
