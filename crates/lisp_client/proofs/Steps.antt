-- What stands in a list of steps.
use Rattle.std.proofs.Common.{◌≡◌, ℕ, zero, suc, List, [], ◌∷◌, ◌++◌, length, Option, Some, None, refl, sym, ap, subst, inl, inr, ◌∙◌, arith, Ok, Err, Bool, true, false, true≢false}
use Rattle.std.specs.Prelude.{◌⊎◌, reverse, slice_get, Result, ◌==◌, if◌then◌else◌}
use Rattle.std.proofs.lemmas.List.{length-reverse, reverse-append}
use Rattle.std.specs.List.{Contains}
use Rattle.std.specs.Option.{option_map, option_to_list}
use Rattle.std.proofs.lemmas.Bool.Decides.{Decides-eqb}
use Rattle.std.proofs.lemmas.List.Elements.{Contains-append_cases, Contains-append_right}
use Rattle.lisp_model.specs.Trace.{Step, Opening, clock}
use Rattle.lisp_model.specs.Legal.{LegalTrace, Legal, context_of}
use Rattle.lisp_refinement.specs.Headline.{OfEachStep}
use Rattle.lisp_records.specs.declared.router.RouterId.{RouterId}
use Rattle.lisp_messages.specs.declared.fault.ReadFault.{ReadFault}
use Rattle.lisp_messages.specs.Message.{MessageValue, MapRegisterValue, Registers, Notifies}
use Rattle.lisp_admission.specs.Pairs.{router_of}
use Rattle.lisp_model.specs.declared.line.Line.{Line}
use Rattle.lisp_model.specs.declared.line.Line.TheVariants as lines
use Rattle.lisp_model.specs.Held.{Acceptance}
use Rattle.lisp_model.specs.Bag.{Arrival, arrival_in, as_register, acceptances_in, bag, since_start, since_start_after}
use Rattle.lisp_model.specs.Accepted.{acceptances_in_step, acceptances, acceptances_after}
use Rattle.lisp_model.proofs.ListLemmas.{head_or_tail, in_none, at_head}
use Rattle.lisp_model.proofs.Locality.{same_number}
use Rattle.lisp_client.specs.Steps.{IsIn, Arrives, StartsAnew}
use Rattle.lisp_model.proofs.Rows.{Arrived, Following, tells}

module _ {X : Type 0} where
  pub none_is_some : {x : X} → ◌≡◌ {A = Option X} None (Some x) → ⊥
  none_is_some e = absurd cc

  -- of a list with one more element at its end
  pub at_end : (xs : List X) (y : X) (k : ℕ) (x : X) → slice_get (xs ++ y ∷ []) k ≡ Some x → ((k ≡ length xs) × (x ≡ y)) ⊎ (slice_get xs k ≡ Some x)
  at_end [] y zero x is = inl (refl, let same : x ≡ y = cc in same)
  at_end [] y (suc k) x is = absurd (none_is_some is)
  at_end (z ∷ xs) y zero x is = inr is
  at_end (z ∷ xs) y (suc k) x is = by (at_end xs y k x is)
    where
      by : ((k ≡ length xs) × (x ≡ y)) ⊎ (slice_get xs k ≡ Some x) → ((suc k ≡ length (z ∷ xs)) × (x ≡ y)) ⊎ (slice_get xs k ≡ Some x)
      by (inl both) = let at = both.0 in inl (omega (arith, at), both.1)
      by (inr before) = inr before

-- the last step of a trace, and the others
abbrev pub here : (s : Step) (T : List Step) → IsIn (s ∷ T) s T
here s T = record { after = []; splits = refl }

abbrev pub later : (x : Step) (T : List Step) (s : Step) (before : List Step) → IsIn T s before → IsIn (x ∷ T) s before
later x T s before there = record { after = x ∷ there.after; splits = ap (λ (U : List Step). x ∷ U) there.splits }

module _ (P : List Step → Type 0) where
  -- what goes over to the trace before the last step, and to the trace with one step more
  from_front : ((x : Step) (T : List Step) → P (x ∷ T) → P T) → (after T : List Step) → P (after ++ T) → P T
  from_front down [] T holds = holds
  from_front down (x ∷ after) T holds = from_front down after T (down x (after ++ T) holds)

  to_front : ((x : Step) (T : List Step) → P T → P (x ∷ T)) → (after T : List Step) → P T → P (after ++ T)
  to_front up [] T holds = holds
  to_front up (x ∷ after) T holds = up x (after ++ T) (to_front up after T holds)

  pub goes_down : ((x : Step) (T : List Step) → P (x ∷ T) → P T) → (T : List Step) (s : Step) (before : List Step) → IsIn T s before → P T → P (s ∷ before)
  goes_down down T s before there holds = from_front down there.after (s ∷ before) (subst P there.splits holds)

  pub goes_up : ((x : Step) (T : List Step) → P T → P (x ∷ T)) → (T : List Step) (s : Step) (before : List Step) → IsIn T s before → P (s ∷ before) → P T
  goes_up up T s before there holds = subst P (sym there.splits) (to_front up there.after (s ∷ before) holds)

-- each step is legal after those before it
pub legal_at : (o : Opening) (T : List Step) → LegalTrace o T → (s : Step) (before : List Step) → IsIn T s before → LegalTrace o (s ∷ before)
legal_at o T legal s before there = goes_down (LegalTrace o) (λ x U all. all.1) T s before there legal

-- what holds of each step
pub each_at : (P : List Step → Step → Type 0) (T : List Step) → OfEachStep P T → (s : Step) (before : List Step) → IsIn T s before → P before s
each_at P T each s before there = (goes_down (OfEachStep P) (λ x U all. all.1) T s before there each).0

-- a step by its place, the first one having place 0
pub record IsPlaced (T : List Step) (place : ℕ) (s : Step) : Type 0 where
  pub before : List Step
  pub there : IsIn T s before
  pub place_is : length before ≡ place

pub placed : (T : List Step) (place : ℕ) (s : Step) → slice_get (reverse T) place ≡ Some s → IsPlaced T place s
placed [] place s is = absurd (none_is_some is)
placed (x ∷ T) place s is = by (at_end (reverse T) x place s (ap (λ (xs : List Step). slice_get xs place) (sym (reverse-append (x ∷ []) T)) ∙ is)) (placed T place s)
  where
    by : ((place ≡ length (reverse T)) × (s ≡ x)) ⊎ (slice_get (reverse T) place ≡ Some s) → (slice_get (reverse T) place ≡ Some s → IsPlaced T place s) → IsPlaced (x ∷ T) place s
    by (inl both) go = record {
      before = T;
      there = subst (λ (y : Step). IsIn (x ∷ T) y T) (sym both.1) (here x T);
      place_is = sym (length-reverse T) ∙ sym both.0;
    }
    by (inr old) go = let p = go old in record { before = p.before; there = later x T s p.before p.there; place_is = p.place_is }

-- What is taken of a Map-Register that arrives in a step.

-- what a Map-Server takes of it
abbrev pub taken_of : (o : Opening) (s : Step) (before : List Step) (router : RouterId) (key nonce : ℕ) → Arrives o s before router key nonce → Acceptance
taken_of o s before router key nonce a = record { message = a.message; from = a.arrival.from; moment = clock before }

-- and nothing else
pub taken_alone : (o : Opening) (s : Step) (before : List Step) (router : RouterId) (key nonce : ℕ) (a : Arrives o s before router key nonce)
    → acceptances_in_step o before s ≡ taken_of o s before router key nonce a ∷ []
taken_alone o s before router key nonce a =
    ap (λ (b : Option Arrival). acceptances_in b (clock before)) a.comes
    ∙ ap (λ (r : Result MessageValue ReadFault). option_to_list (option_map (λ (m : MapRegisterValue). record { message = m; from = a.arrival.from; moment = clock before }) (as_register r))) a.read

-- a Map-Register that was taken arrived
pub record IsTaken (o : Opening) (s : Step) (before : List Step) (x : Acceptance) : Type 0 where
  pub arrived : Arrives o s before (router_of x.message) x.message.key_id x.message.nonce
  pub is : x ≡ taken_of o s before (router_of x.message) x.message.key_id x.message.nonce arrived

module _ (o : Opening) (s : Step) (before : List Step) where
  -- what arrives, with its own router, key and nonce
  its_own : (router : RouterId) (key nonce : ℕ) (a : Arrives o s before router key nonce) (x : Acceptance) → x ≡ taken_of o s before router key nonce a → IsTaken o s before x
  its_own router key nonce a x is = record {
    arrived = record {
      arrival = a.arrival;
      comes = a.comes;
      message = a.message;
      read = a.read;
      who = ap (λ (y : Acceptance). router_of y.message) (sym is);
      under = ap (λ (y : Acceptance). y.message.key_id) (sym is);
      number = ap (λ (y : Acceptance). y.message.nonce) (sym is);
    };
    is = is;
  }

  pub was_taken : (x : Acceptance) → Contains (acceptances_in_step o before s) x → IsTaken o s before x
  was_taken x has = by (arrival_in (bag o before) s.event) refl has
    where
      of_read : (b : Arrival) → arrival_in (bag o before) s.event ≡ Some b → (read : Result MessageValue ReadFault) → b.read ≡ read
          → Contains (option_to_list (option_map (λ (m : MapRegisterValue). record { message = m; from = b.from; moment = clock before }) (as_register read))) x → IsTaken o s before x
      of_read b comes (Ok (Registers m)) read has = one (head_or_tail (record { message = m; from = b.from; moment = clock before }) [] x has)
        where
          one : (x ≡ record { message = m; from = b.from; moment = clock before }) ⊎ Contains [] x → IsTaken o s before x
          one (inl is) = its_own (router_of m) m.key_id m.nonce (record { arrival = b; comes = comes; message = m; read = read; who = refl; under = refl; number = refl }) x is
          one (inr none) = absurd (in_none x none)
      of_read b comes (Ok (Notifies n)) read has = absurd (in_none x has)
      of_read b comes (Err fault) read has = absurd (in_none x has)

      by : (found : Option Arrival) → arrival_in (bag o before) s.event ≡ found → Contains (acceptances_in found (clock before)) x → IsTaken o s before x
      by None comes has = absurd (in_none x has)
      by (Some b) comes has = of_read b comes b.read refl has

-- a legal step with a line of acceptance: the Map-Register that it tells of arrives
pub accepting : (o : Opening) (s : Step) (before : List Step) → Legal o before s → (server : ℕ) (router : RouterId) (key nonce : ℕ) (reply : Option ℕ)
    → s.line ≡ lines.Accepted server router key nonce reply → Arrives o s before router key nonce
accepting o s before legal server router key nonce reply is =
    let c : Arrived (context_of o before s) s.event (lines.Accepted server router key nonce reply) = subst (λ (line : Line). Following (context_of o before s) s.event line) is (tells (context_of o before s) s.event s.line legal.row).follows in
    record {
      arrival = c.arrival;
      comes = c.is;
      message = c.row.message;
      read = c.row.admits.read;
      who = sym c.row.who;
      under = sym c.row.under;
      number = sym c.row.number;
    }

-- What a Map-Server accepted, by the steps in which it did.

-- nothing that was accepted is forgotten
stays : (line : Line) (new old : List Acceptance) (server : ℕ) (x : Acceptance) → Contains old x → Contains (acceptances_after line new server old) x
stays (lines.Accepted node _ _ _ _) new old server x has = by (node == server)
  where
    by : (b : Bool) → Contains (if b then new ++ old else old) x
    by true = Contains-append_right new old x has
    by false = has
stays _ new old server x has = has

-- a step with a line of acceptance adds what arrives
pub adds : (o : Opening) (s : Step) (before : List Step) (server : ℕ) (router : RouterId) (key nonce : ℕ) (reply : Option ℕ) → s.line ≡ lines.Accepted server router key nonce reply
    → (a : Arrives o s before router key nonce) → acceptances o (s ∷ before) server ≡ taken_of o s before router key nonce a ∷ acceptances o before server
adds o s before server router key nonce reply is a =
    ap (λ (line : Line). acceptances_after line (acceptances_in_step o before s) server (acceptances o before server)) is
    ∙ ap (λ (b : Bool). if b then acceptances_in_step o before s ++ acceptances o before server else acceptances o before server) (same_number server)
    ∙ ap (λ (new : List Acceptance). new ++ acceptances o before server) (taken_alone o s before router key nonce a)

-- and that stays
pub stays_accepted : (o : Opening) (T : List Step) (s : Step) (before : List Step) → IsIn T s before → (server : ℕ) (router : RouterId) (key nonce : ℕ) (reply : Option ℕ)
    → s.line ≡ lines.Accepted server router key nonce reply → (a : Arrives o s before router key nonce) → Contains (acceptances o T server) (taken_of o s before router key nonce a)
stays_accepted o T s before there server router key nonce reply is a =
    let x = taken_of o s before router key nonce a in
    goes_up (λ (U : List Step). Contains (acceptances o U server) x) (λ y U has. stays y.line (acceptances_in_step o U y) (acceptances o U server) server x has) T s before there
    (subst (λ (xs : List Acceptance). Contains xs x) (sym (adds o s before server router key nonce reply is a)) (at_head x (acceptances o before server)))

-- a line of acceptance, and what is new by it
record IsNew (line : Line) (new : List Acceptance) (server : ℕ) (x : Acceptance) : Type 0 where
  router : RouterId
  key : ℕ
  nonce : ℕ
  reply : Option ℕ
  line_is : line ≡ lines.Accepted server router key nonce reply
  among : Contains new x

accepted_case : (line : Line) (new old : List Acceptance) (server : ℕ) (x : Acceptance) → Contains (acceptances_after line new server old) x → IsNew line new server x ⊎ Contains old x
accepted_case (lines.Accepted node router key nonce reply) new old server x has = by (node == server) refl has
  where
    by : (b : Bool) → (node == server) ≡ b → Contains (if b then new ++ old else old) x → IsNew (lines.Accepted node router key nonce reply) new server x ⊎ Contains old x
    by true same has = either (Contains-append_cases new old x has)
      where
        either : Contains new x ⊎ Contains old x → IsNew (lines.Accepted node router key nonce reply) new server x ⊎ Contains old x
        either (inl one) = inl (record { router = router; key = key; nonce = nonce; reply = reply; line_is = ap (λ (n : ℕ). lines.Accepted n router key nonce reply) ((Decides-eqb node server).0 same); among = one })
        either (inr before) = inr before
    by false other has = inr has
accepted_case _ new old server x has = inr has

-- what a Map-Server holds though one started anew: it is another
since_other : (node server : ℕ) (line : Line) (new old : List Acceptance) (x : Acceptance) → (StartsAnew line server → node ≡ server) → (b : Bool) → (node == server) ≡ b → Contains (if b then [] else old) x
    → IsNew line new server x ⊎ ((StartsAnew line server → ⊥) × Contains old x)
since_other node server line new old x starts true same has = absurd (in_none x has)
since_other node server line new old x starts false other has = inr (λ start. true≢false (sym ((Decides-eqb node server).1 (starts start)) ∙ other), has)

-- what was accepted since a Map-Server's last start
since_case : (line : Line) (new old : List Acceptance) (server : ℕ) (x : Acceptance) → Contains (since_start_after line new server old) x
    → IsNew line new server x ⊎ ((StartsAnew line server → ⊥) × Contains old x)
since_case (lines.Accepted node router key nonce reply) new old server x has = by (accepted_case (lines.Accepted node router key nonce reply) new old server x has)
  where
    by : IsNew (lines.Accepted node router key nonce reply) new server x ⊎ Contains old x → IsNew (lines.Accepted node router key nonce reply) new server x ⊎ ((StartsAnew (lines.Accepted node router key nonce reply) server → ⊥) × Contains old x)
    by (inl one) = inl one
    by (inr before) = inr (λ start. start, before)
since_case (lines.Restarted node) new old server x has = since_other node server (lines.Restarted node) new old x (λ is. is) (node == server) refl has
since_case (lines.Renewed node count) new old server x has = since_other node server (lines.Renewed node count) new old x (λ is. is) (node == server) refl has
since_case _ new old server x has = inr (λ start. start, has)

-- a step in which a Map-Server accepted
pub record IsAcceptedAs (o : Opening) (server : ℕ) (x : Acceptance) (t : Step) (before : List Step) : Type 0 where
  pub taken : IsTaken o t before x
  pub reply : Option ℕ
  pub line : t.line ≡ lines.Accepted server (router_of x.message) x.message.key_id x.message.nonce reply

module _ (o : Opening) (server : ℕ) (x : Acceptance) where
  -- its line is that of the message
  accepted_as : (s : Step) (before : List Step) → Legal o before s → IsNew s.line (acceptances_in_step o before s) server x → IsAcceptedAs o server x s before
  accepted_as s before legal new =
      let a = accepting o s before legal server new.router new.key new.nonce new.reply new.line_is in
      let only = alone (head_or_tail (taken_of o s before new.router new.key new.nonce a) [] x (subst (λ (xs : List Acceptance). Contains xs x) (taken_alone o s before new.router new.key new.nonce a) new.among)) in
      let who : new.router ≡ router_of x.message = sym a.who ∙ ap (λ (y : Acceptance). router_of y.message) (sym only) in
      let under : new.key ≡ x.message.key_id = sym a.under ∙ ap (λ (y : Acceptance). y.message.key_id) (sym only) in
      let number : new.nonce ≡ x.message.nonce = sym a.number ∙ ap (λ (y : Acceptance). y.message.nonce) (sym only) in
      record {
        taken = was_taken o s before x new.among;
        reply = new.reply;
        line = new.line_is ∙ (λ i. lines.Accepted server (who i) (under i) (number i) new.reply);
      }
    where
      alone : {y : Acceptance} → (x ≡ y) ⊎ Contains [] x → x ≡ y
      alone (inl is) = is
      alone (inr none) = absurd (in_none x none)

  -- what was accepted, at any time
  pub record WasAccepted (T : List Step) : Type 0 where
    pub step : Step
    pub before : List Step
    pub there : IsIn T step before
    pub how : IsAcceptedAs o server x step before

  pub was_accepted : (T : List Step) → LegalTrace o T → Contains (acceptances o T server) x → WasAccepted T
  was_accepted [] legal has = absurd (in_none x has)
  was_accepted (s ∷ T) legal has = by (accepted_case s.line (acceptances_in_step o T s) (acceptances o T server) server x has) (was_accepted T legal.1)
    where
      by : IsNew s.line (acceptances_in_step o T s) server x ⊎ Contains (acceptances o T server) x → (Contains (acceptances o T server) x → WasAccepted T) → WasAccepted (s ∷ T)
      by (inl new) go = record { step = s; before = T; there = here s T; how = accepted_as s T legal.0 new }
      by (inr old) go = let w = go old in record { step = w.step; before = w.before; there = later s T w.step w.before w.there; how = w.how }

  -- and what was accepted since the Map-Server's last start
  pub record WasAcceptedSince (T : List Step) : Type 0 where
    pub step : Step
    pub before : List Step
    pub there : IsIn T step before
    pub how : IsAcceptedAs o server x step before
    pub no_start : (r : Step) → Contains there.after r → StartsAnew r.line server → ⊥

  pub was_accepted_since : (T : List Step) → LegalTrace o T → Contains (since_start o T server) x → WasAcceptedSince T
  was_accepted_since [] legal has = absurd (in_none x has)
  was_accepted_since (s ∷ T) legal has = by (since_case s.line (acceptances_in_step o T s) (since_start o T server) server x has) (was_accepted_since T legal.1)
    where
      by : IsNew s.line (acceptances_in_step o T s) server x ⊎ ((StartsAnew s.line server → ⊥) × Contains (since_start o T server) x) → (Contains (since_start o T server) x → WasAcceptedSince T) → WasAcceptedSince (s ∷ T)
      by (inl new) go = record { step = s; before = T; there = here s T; how = accepted_as s T legal.0 new; no_start = λ r has. absurd (in_none r has) }
      by (inr old) go =
          let w = go old.1 in
          record { step = w.step; before = w.before; there = later s T w.step w.before w.there; how = w.how; no_start = λ r has. none r w.there.after w.no_start (head_or_tail s w.there.after r has) }
        where
          none : (r : Step) (after : List Step) → ((q : Step) → Contains after q → StartsAnew q.line server → ⊥) → (r ≡ s) ⊎ Contains after r → StartsAnew r.line server → ⊥
          none r after rest (inl is) start = old.0 (subst (λ (q : Step). StartsAnew q.line server) is start)
          none r after rest (inr more) start = rest r more start
