-- A node of a network acts, and the network goes on by its step.
use Rattle.std.proofs.Common.{◌≡◌, ◌⊎◌, inl, inr, ℕ, ◌+◌, Bool, true, false, true≢false, List, [], ◌∷◌, ◌++◌, length, map, reverse, Option, Some, None, Result, Ok, Err, refl, sym, ap, subst, ◌∙◌, append-nil, arith}
use Rattle.std.specs.Prelude.{if◌then◌else◌}
use Rattle.std.specs.List.{AllByRecursion}
use Rattle.std.specs.Option.{option_to_list}
use Rattle.std.proofs.lemmas.Option.{slice_get_within}
use Rattle.lisp_records.specs.declared.address.Addr.{Addr}
use Rattle.lisp_policy.specs.Configuration.{ConfigValue}
use Rattle.lisp_nonces.specs.declared.fate.Fate.{Fate}
use Rattle.lisp_nonces.specs.declared.fate.Fate.TheVariants.{Done}
use Rattle.lisp_etr.specs.declared.send_fault.SendFault.{SendFault}
use Rattle.lisp_admission.specs.declared.notice_fault.NoticeFault.{NoticeFault}
use Rattle.lisp_model.specs.declared.event.Event.TheVariants as events
use Rattle.lisp_model.specs.declared.line.Line.{Line}
use Rattle.lisp_model.specs.declared.line.Line.TheVariants as lines
use Rattle.lisp_model.specs.Trace.{EventValue, Step, Opening}
use Rattle.lisp_refinement.specs.World.{DatagramValue, RouterNodeState, RouterCoreState, Up, Down, WorldState}
use Rattle.lisp_refinement.specs.Events.{address_of, NetworkSends, RouterSends, SaysSendAnswer, NetworkResends, SaysResendAnswer}
use Rattle.lisp_refinement.specs.Stands.{Stands}
use Rattle.lisp_refinement.specs.Taking.{NetworkTakes}
use Rattle.lisp_refinement.proofs.Taking.{taking_agrees}
use Rattle.lisp_turns.specs.Act.{ActValue, numbered}
use Rattle.lisp_turns.specs.Acts.{datagrams, with_act, DoesOne, TurnAct, DoesAll, printed_of, act_calls, acts_calls}
use Rattle.lisp_turns.specs.Due.{IsDuty, IsRefused}
use Rattle.lisp_turns.specs.Node.{NodeState, Server, Router, HasNode, with_node, IsPlaced}
use Rattle.lisp_turns.specs.Outside.{Call}
use Rattle.lisp_turns.specs.Part.{IsOwn, IsQuiet, ArePrinted, arrival, lines_of, sent_of, datagram_from}
use Rattle.lisp_turns.proofs.Beside.{IsThere, has_one, has_others}
use Rattle.lisp_turns.proofs.Calls.{lines_append, sent_append, told_calls, told_lines, told_sent, numbered_last}
use Rattle.lisp_turns.proofs.Reaching.{Reaches, stays_there, goes_further}

-- a network has a node in the place of another
placed_there : (w : WorldState) (o : Opening) (T : List Step) (config : ConfigValue) (number : ℕ) (node : NodeState) → Stands w o T → o.config ≡ config → IsPlaced config number node → IsThere w number node
placed_there w o T config number (Server n) stand same placed = omega (arith, placed, stand.steps.servers, ap (λ (c : ConfigValue). length c.servers) same)
placed_there w o T config number (Router n) stand same (place, entry, number_is, there, listed, rounds) =
    let servers = stand.steps.servers ∙ ap (λ (c : ConfigValue). length c.servers) same in
    let routers = stand.steps.routers ∙ ap (λ (c : ConfigValue). length c.routers) same in
    let within = slice_get_within config.routers place entry there in
    (place, number_is ∙ ap (λ m. m + place) (sym servers), omega (arith, within, routers))

-- the clock stays
same_clock : (w : WorldState) (number : ℕ) (node : NodeState) (act : ActValue) → (with_act w number node act).clock ≡ w.clock
same_clock w number (Server n) act = refl
same_clock w number (Router n) act = refl

-- the message that goes out is the network's datagram
sent_is : (from : Addr) (message : Option (Addr × List ℕ)) → datagrams from message ≡ map (datagram_from from) (reverse (option_to_list message))
sent_is from None = refl
sent_is from (Some m) = refl

-- the number is nothing to a refused line
still_refused : (n : ℕ) (line : Line) → IsRefused line → IsRefused (numbered n line)
still_refused n (lines.Refused node what) refused = refused
still_refused n _ refused = absurd refused

-- a Map-Register that wasn't sent: why is told once a minute, and no datagram went out
module _ (w : WorldState) (router server part : ℕ) (line : Line) (more : List DatagramValue) (refused : IsRefused line) where
  unsent_answer : (answer : Result (List ℕ) SendFault) → SaysSendAnswer w router server part answer line more → IsQuiet line × (more ≡ [])
  unsent_answer (Ok bytes) says = absurd (subst IsRefused says.said refused)
  unsent_answer (Err fault) (said, none) = (subst IsQuiet (sym said) tt, none)

  unsent_core : (before after : RouterNodeState) (core : RouterCoreState) (fate : Fate) → RouterSends w router server part fate before after core line more → IsQuiet line × (more ≡ [])
  unsent_core before after (Up e) fate sends = unsent_answer sends.answer sends.says
  unsent_core before after (Down config database) fate (same, said, none) = absurd (subst IsRefused said refused)

pub unsent : (w new : WorldState) (router server part : ℕ) (fate : Fate) (line : Line) → IsRefused line → NetworkSends w new router server part fate line → IsQuiet line × (new.bag ≡ w.bag)
unsent w new router server part fate line refused turn =
    let none = unsent_core w router server part line turn.more refused turn.acts.before turn.acts.after turn.acts.before.core fate turn.sends in
    (none.0, ap (λ (x : WorldState). x.bag) turn.acts.left ∙ ap (λ (l : List DatagramValue). w.bag ++ l) none.1 ∙ append-nil w.bag)

-- and a notice that wasn't sent again
module _ (w : WorldState) (server router : ℕ) (line : Line) (more : List DatagramValue) (refused : IsRefused line) where
  unresent_answer : (answer : Result (Addr × List ℕ) NoticeFault) → SaysResendAnswer w server router answer line more → IsQuiet line × (more ≡ [])
  unresent_answer (Ok sent) (said, posts) = absurd (subst IsRefused said refused)
  unresent_answer (Err fault) (said, none) = (subst IsQuiet (sym said) tt, none)

pub unresent : (w new : WorldState) (server router : ℕ) (line : Line) → IsRefused line → NetworkResends w new server router line → IsQuiet line × (new.bag ≡ w.bag)
unresent w new server router line refused turn =
    let none = unresent_answer w server router line turn.more refused turn.answer turn.says in
    (none.0, ap (λ (x : WorldState). x.bag) turn.acts.left ∙ ap (λ (l : List DatagramValue). w.bag ++ l) none.1 ∙ append-nil w.bag)

-- what was due and refused
pub put_off : (A : Type 0) (w new : WorldState) (number : ℕ) (event : EventValue) (line : Line) → IsDuty number event → IsRefused line → NetworkTakes A w new event line → IsQuiet line × (new.bag ≡ w.bag)
put_off A w new number (events.Send router server part Done) line duty refused turn = unsent w new router server part Done line refused turn
put_off A w new number (events.Resend server router) line duty refused turn = unresent w new server router line refused turn
put_off A w new number _ line duty refused turn = absurd duty

-- what is due is the node's own
pub own_duty : (number : ℕ) (event : EventValue) → IsDuty number event → IsOwn number event
own_duty number (events.Send router server part Done) duty = duty
own_duty number (events.Resend server router) duty = duty
own_duty number _ duty = absurd duty

-- of what is due nothing arrives
pub nothing_arrives : (number : ℕ) (event : EventValue) → IsDuty number event → arrival event ≡ []
nothing_arrives number (events.Send router server part Done) duty = refl
nothing_arrives number (events.Resend server router) duty = refl
nothing_arrives number _ duty = absurd duty

-- an act is told, or was due and was refused
abbrev pub IsTold : ℕ → TurnAct → Type 0
IsTold number a = (a.told ≡ true) ⊎ (IsDuty number a.event × IsRefused a.act.line)

-- one act
module _ (A : Type 0) (Allows : EventValue → Type 0) (config : ConfigValue) (number : ℕ) (old new : NodeState) (now : ℕ) (a : TurnAct) (does : DoesOne A config number old new now a.event a.act)
    (own : IsOwn number a.event) (allowed : Allows a.event) (w : WorldState) (o : Opening) (T : List Step) (stand : Stands w o T) (same : o.config ≡ config) (has : HasNode w number old) (clock : w.clock ≡ now) where
  abbrev left : WorldState
  left = with_act w number new a.act

  abbrev line : Line
  line = numbered (length w.bag) a.act.line

  abbrev more : List DatagramValue
  more = w.bag ++ datagrams (address_of w number) a.act.message

  there : IsThere w number new
  there = placed_there w o T config number new stand same does.placed

  takes : NetworkTakes A w left a.event line
  takes = does.does w o T stand same has clock

  abbrev step : Step
  step = (let after = taking_agrees A w left a.event line takes o T stand in record { event = a.event; line = line; actor = after.0; shown = after.1 })

  abbrev its_calls : List Call
  its_calls = told_calls a.act.message a.taken (printed_of a.event a.act.line)

  abbrev ByTold : List Call → Type 0
  ByTold calls = Reaches Allows number (lines_of calls) (sent_of calls) (arrival a.event) new now w o T

  -- by its step, of which these lines were printed, and this was sent
  by_step : (said : List Line) (sent : List (Addr × List ℕ)) → ArePrinted (step ∷ []) said → left.bag ≡ w.bag ++ map (datagram_from (address_of w number)) (reverse sent) → Reaches Allows number said sent (arrival a.event) new now w o T
  by_step said sent printed bag = record {
    steps = step ∷ [];
    left = left;
    stands = (taking_agrees A w left a.event line takes o T stand).2;
    own = (own, tt);
    allowed = (allowed, tt);
    are_printed = printed;
    bag = bag;
    heard = append-nil (arrival a.event);
    node_is = has_one w number (with_node w number new).clock more new there;
    clock = same_clock w number new a.act ∙ clock;
    others = has_others w number (with_node w number new).clock more new there;
  }

  -- it is told
  told_reaches : ByTold its_calls
  told_reaches = by_step (lines_of its_calls) (sent_of its_calls)
      (inr (a.act.line, [], told_lines a.act.message a.taken a.event a.act.line, does.plain ∙ sym (numbered_last 0 (length w.bag) a.act.line), refl))
      (ap (λ (l : List DatagramValue). w.bag ++ l) (sent_is (address_of w number) a.act.message ∙ ap (λ (l : List (Addr × List ℕ)). map (datagram_from (address_of w number)) (reverse l)) (sym (told_sent a.act.message a.taken (printed_of a.event a.act.line)))))

  -- it isn't
  quiet_reaches : IsDuty number a.event → IsRefused a.act.line → ByTold []
  quiet_reaches duty refused =
      let quiet = put_off A w left number a.event line duty (still_refused (length w.bag) a.act.line refused) takes in
      by_step [] [] (inl (quiet.0, refl)) (quiet.1 ∙ sym (append-nil w.bag))

  pub act_reaches : IsTold number a → ByTold (act_calls a)
  act_reaches told = by a.told told
    where
      by : (b : Bool) → (b ≡ true) ⊎ (IsDuty number a.event × IsRefused a.act.line) → ByTold (if b then its_calls else [])
      by true told = told_reaches
      by false (inl is) = absurd (true≢false (sym is))
      by false (inr (duty, refused)) = quiet_reaches duty refused

-- what arrived in acts
abbrev pub arrived : List TurnAct → List (Addr × List ℕ)
arrived [] = []
arrived (a ∷ earlier) = arrival a.event ++ arrived earlier

-- so is each of them
abbrev pub AreOwn : ℕ → List TurnAct → Type 0
AreOwn number acts = AllByRecursion (λ a. IsOwn number a.event × IsTold number a) acts

-- acts one after the other
pub acts_reach : (A : Type 0) (Allows : EventValue → Type 0) (config : ConfigValue) (number : ℕ) (old new : NodeState) (now : ℕ) (acts : List TurnAct) → DoesAll A config number old new now acts → AreOwn number acts
    → AllByRecursion (λ a. Allows a.event) acts
    → (w : WorldState) (o : Opening) (T : List Step) → Stands w o T → o.config ≡ config → HasNode w number old → w.clock ≡ now
    → Reaches Allows number (lines_of (acts_calls acts)) (sent_of (acts_calls acts)) (arrived acts) new now w o T
acts_reach A Allows config number old new now [] is own all w o T stand same has clock = stays_there Allows number new now w o T stand (subst (λ (n : NodeState). HasNode w number n) (sym is) has) clock
acts_reach A Allows config number old new now (a ∷ earlier) (between, did, does) own all w o T stand same has clock =
    let first = acts_reach A Allows config number old between now earlier did own.1 all.1 w o T stand same has clock in
    let second = act_reaches A Allows config number between new now a does own.0.0 all.0 first.left o (first.steps ++ T) first.stands same first.node_is first.clock own.0.1 in
    subst (λ (p : List Line × List (Addr × List ℕ)). Reaches Allows number p.0 p.1 (arrived (a ∷ earlier)) new now w o T)
    {x = (lines_of (act_calls a) ++ lines_of (acts_calls earlier), sent_of (act_calls a) ++ sent_of (acts_calls earlier))}
    {y = (lines_of (acts_calls (a ∷ earlier)), sent_of (acts_calls (a ∷ earlier)))}
    (λ i. (sym (lines_append (act_calls a) (acts_calls earlier)) i, sym (sent_append (act_calls a) (acts_calls earlier)) i))
    (goes_further Allows number (lines_of (acts_calls earlier)) (lines_of (act_calls a)) (sent_of (acts_calls earlier)) (sent_of (act_calls a)) (arrived earlier) (arrival a.event) between new now now w o T stand first second)
