-- Accepted nonces rise.
use Rattle.std.proofs.Common.{◌≡◌, ℕ, ◌<◌, ◌≤◌, true, false, cond, List, [], ◌∷◌, ◌++◌, Option, Some, None, refl, sym, ap, subst, inl, inr, ◌∙◌, arith, Bool, Ok, true≢false}
use Rattle.std.specs.Prelude.{◌⊎◌, map, ◌≢◌, ◌==◌, if◌then◌else◌}
use Rattle.std.specs.List.{Contains, filter, find, flat_map}
use Rattle.std.specs.Option.{option_map, option_to_list}
use Rattle.std.proofs.lemmas.List.Elements.{Contains-append_cases}
use Rattle.std.proofs.lemmas.Option.{none-some}
use Rattle.std.specs.Ordering.{eq_by_cmp}
use Rattle.lisp_nonces.specs.declared.pair.Pair.{Pair}
use Rattle.lisp_nonces.specs.Kept.{InDoubt, kept_at}
use Rattle.lisp_admission.specs.Nonces.{IsBelow}
use Rattle.lisp_nonces.specs.Pair.{pair_cmp}
use Rattle.lisp_messages.specs.Message.{MapRegisterValue, Registers}
use Rattle.lisp_admission.specs.Pairs.{pair_of}
use Rattle.lisp_admission.specs.declared.refused.Refused.TheVariants.{Replay}
use Rattle.lisp_model.specs.Held.{Acceptance, is_of_pair, last_of}
use Rattle.lisp_model.specs.Accepted.{nonces_of, acceptances_after, tried_nonces_after, acceptances, acceptances_in_step, tried_nonces}
use Rattle.lisp_model.specs.Context.{IsBase, Context, values, values_after, SameOthers}
use Rattle.lisp_model.specs.Promises.{Falls, NoncesRise, ReplaysAreTried}
use Rattle.lisp_model.specs.Trace.{EventValue, is_server, is_router, clock, Step, Opening, shown_store, Event, Line, Refusal}
use Rattle.lisp_model.specs.Bag.{Arrival, arrival_in, as_register, acceptances_in, bag, since_start, since_start_after, arrival_of, junk_arrival}
use Rattle.lisp_model.specs.Receiving.{IsFresh, last_in, Refused}
use Rattle.lisp_model.specs.Legal.{MayCome, Arrives, Legal, LegalTrace, context_of}
use Rattle.lisp_model.proofs.KeptLemmas.{only_value, pair_itself, pair_same}
use Rattle.lisp_model.proofs.ListLemmas.{at_head, in_tail, head_or_tail, in_none, only, cases, some_same}
use Rattle.lisp_model.proofs.HearingLemmas.{not_both}
use Rattle.lisp_model.proofs.Locality.{same_number, other_number, since_other, accepted_other, tried_other, none_accepted, of_each, here}
use Rattle.lisp_model.proofs.Rows.{Tells, tells}
use Rattle.lisp_nonces.specs.declared.pair.PairKind.{PairKind}

-- a value is a number that isn't below
abbrev pub AtLeast : ℕ → Option ℕ → Type 0
AtLeast n None = ⊥
AtLeast n (Some m) = n ≤ m

-- what holds of a pair at a server: what was accepted, also since the start; what was tried; what is kept
pub record Safe (q : Pair) (acc since : List Acceptance) (tried : List ℕ) (kept : List (Option ℕ)) : Type 0 where
  pub falls : Falls (nonces_of q acc)
  pub floor : (n : ℕ) → Contains (nonces_of q acc) n → (v : Option ℕ) → Contains kept v → AtLeast n v
  pub last : (l : ℕ) → last_of q since ≡ Some l → (n : ℕ) → Contains (nonces_of q acc) n → n ≤ l
  pub tried_kept : (m : ℕ) → Contains kept (Some m) → Contains tried m
  pub tried_last : (l : ℕ) → last_of q since ≡ Some l → Contains tried l

module _ (q : Pair) (acc since : List Acceptance) (tried : List ℕ) (kept : List (Option ℕ)) (safe : Safe q acc since tried kept) where
  -- nothing new is kept
  pub safe_narrows : (new : List (Option ℕ)) → ((v : Option ℕ) → Contains new v → Contains kept v) → Safe q acc since tried new
  safe_narrows new each = record { falls = safe.falls; floor = λ n has v in_it. safe.floor n has v (each v in_it); last = safe.last; tried_kept = λ m has. safe.tried_kept m (each (Some m) has); tried_last = safe.tried_last }

  -- and the server forgets
  pub safe_restarts : (new : List (Option ℕ)) → ((v : Option ℕ) → Contains new v → Contains kept v) → Safe q acc [] tried new
  safe_restarts new each = record { falls = safe.falls; floor = λ n has v in_it. safe.floor n has v (each v in_it); last = λ l e n has. absurd (none-some _ e); tried_kept = λ m has. safe.tried_kept m (each (Some m) has); tried_last = λ l e. absurd (none-some _ e) }

  -- a base is at least each accepted nonce
  above_all : (last : Option ℕ) → last_of q since ≡ last → (base : Option ℕ) → IsBase last kept base → (nonce : ℕ) → IsBelow base nonce → (n : ℕ) → Contains (nonces_of q acc) n → n < nonce
  above_all (Some l) is base e nonce below n has = let low : l < nonce = subst (λ (b : Option ℕ). IsBelow b nonce) e below in let at : n ≤ l = safe.last l is n has in omega (arith, low, at)
  above_all None is None e nonce below n has = absurd (safe.floor n has None e)
  above_all None is (Some b) e nonce below n has = let at : n ≤ b = safe.floor n has (Some b) e in omega (arith, below, at)

  module _ (base : Option ℕ) (counts : IsBase (last_of q since) kept base) (nonce : ℕ) (below : IsBelow base nonce) where
    pub fresh : (n : ℕ) → Contains (nonces_of q acc) n → n < nonce
    fresh = above_all (last_of q since) refl base counts nonce below

    -- a save of it is in doubt
    pub safe_doubts : (new : List (Option ℕ)) → InDoubt kept new nonce → Safe q acc since (nonce ∷ tried) new
    safe_doubts new doubt = record {
      falls = safe.falls;
      floor = λ n has v in_it. floors doubt n has v in_it;
      last = safe.last;
      tried_kept = λ m has. tries doubt m has;
      tried_last = λ l e. in_tail nonce tried l (safe.tried_last l e);
    }
      where
        floors : InDoubt kept new nonce → (n : ℕ) → Contains (nonces_of q acc) n → (v : Option ℕ) → Contains new v → AtLeast n v
        floors (inl same) n has v in_it = safe.floor n has v (subst (λ (vs : List (Option ℕ)). Contains vs v) same in_it)
        floors (inr more) n has v in_it = cases (Contains-append_cases kept (Some nonce ∷ []) v (subst (λ (vs : List (Option ℕ)). Contains vs v) more in_it))
            (λ old. safe.floor n has v old)
            (λ one. subst (λ (w : Option ℕ). AtLeast n w) (sym (only_value (Some nonce) v one)) (omega (arith, fresh n has)))

        tries : InDoubt kept new nonce → (m : ℕ) → Contains new (Some m) → Contains (nonce ∷ tried) m
        tries (inl same) m has = in_tail nonce tried m (safe.tried_kept m (subst (λ (vs : List (Option ℕ)). Contains vs (Some m)) same has))
        tries (inr more) m has = cases (Contains-append_cases kept (Some nonce ∷ []) (Some m) (subst (λ (vs : List (Option ℕ)). Contains vs (Some m)) more has))
            (λ old. in_tail nonce tried m (safe.tried_kept m old))
            (λ one. let same : ◌≡◌ {A = Option ℕ} (Some m) (Some nonce) = only_value (Some nonce) (Some m) one in let equal : m ≡ nonce = cc in subst (λ (x : ℕ). Contains (nonce ∷ tried) x) (sym equal) (at_head nonce tried))

-- one more message of the pair, or of another
pub nonces_of-same : (q : Pair) (a : Acceptance) (acc : List Acceptance) → is_of_pair q a ≡ true → nonces_of q (a ∷ acc) ≡ a.message.nonce ∷ nonces_of q acc
nonces_of-same q a acc e = ap (λ b. map (λ x. x.message.nonce) (cond b (a ∷ filter (is_of_pair q) acc) (filter (is_of_pair q) acc))) e

pub nonces_of-other : (q : Pair) (a : Acceptance) (acc : List Acceptance) → is_of_pair q a ≡ false → nonces_of q (a ∷ acc) ≡ nonces_of q acc
nonces_of-other q a acc e = ap (λ b. map (λ x. x.message.nonce) (cond b (a ∷ filter (is_of_pair q) acc) (filter (is_of_pair q) acc))) e

last_of-same : (q : Pair) (a : Acceptance) (since : List Acceptance) → is_of_pair q a ≡ true → last_of q (a ∷ since) ≡ Some a.message.nonce
last_of-same q a since e = ap (λ b. option_map (λ x. x.message.nonce) (cond b (Some a) (find (is_of_pair q) since))) e

last_of-other : (q : Pair) (a : Acceptance) (since : List Acceptance) → is_of_pair q a ≡ false → last_of q (a ∷ since) ≡ last_of q since
last_of-other q a since e = ap (λ b. option_map (λ x. x.message.nonce) (cond b (Some a) (find (is_of_pair q) since))) e

module _ (q : Pair) (acc since : List Acceptance) (tried : List ℕ) (kept : List (Option ℕ)) (safe : Safe q acc since tried kept) (a : Acceptance) (new : List (Option ℕ)) where
  -- it is of the pair, above a base, and alone is kept
  pub safe_takes : is_of_pair q a ≡ true → (base : Option ℕ) → IsBase (last_of q since) kept base → IsBelow base a.message.nonce → new ≡ Some a.message.nonce ∷ [] → Safe q (a ∷ acc) (a ∷ since) (nonces_of q (a ∷ []) ++ tried) new
  safe_takes is base counts below one = record {
    falls = subst Falls (sym list) (newest, safe.falls);
    floor = λ n has v in_it. subst (λ (w : Option ℕ). AtLeast n w) (sym (only_value (Some a.message.nonce) v (subst (λ (vs : List (Option ℕ)). Contains vs v) one in_it))) (at_most n has);
    last = λ l e n has. subst (λ (x : ℕ). n ≤ x) (is_nonce l e) (at_most n has);
    tried_kept = λ m has. is_tried m (some_same m a.message.nonce (only_value (Some a.message.nonce) (Some m) (subst (λ (vs : List (Option ℕ)). Contains vs (Some m)) one has)));
    tried_last = λ l e. is_tried l (sym (is_nonce l e));
  }
    where
      list : nonces_of q (a ∷ acc) ≡ a.message.nonce ∷ nonces_of q acc
      list = nonces_of-same q a acc is

      newest : (n : ℕ) → Contains (nonces_of q acc) n → n < a.message.nonce
      newest = fresh q acc since tried kept safe base counts a.message.nonce below

      at_most : (n : ℕ) → Contains (nonces_of q (a ∷ acc)) n → n ≤ a.message.nonce
      at_most n has = cases (head_or_tail a.message.nonce (nonces_of q acc) n (subst (λ (ns : List ℕ). Contains ns n) list has)) (λ e. omega (arith, e)) (λ old. omega (arith, newest n old))

      is_nonce : (l : ℕ) → last_of q (a ∷ since) ≡ Some l → a.message.nonce ≡ l
      is_nonce l e = sym (some_same l a.message.nonce (sym e ∙ last_of-same q a since is))

      is_tried : (m : ℕ) → m ≡ a.message.nonce → Contains (nonces_of q (a ∷ []) ++ tried) m
      is_tried m e = subst (λ (ns : List ℕ). Contains (ns ++ tried) m) (sym (nonces_of-same q a [] is)) (subst (λ (x : ℕ). Contains (a.message.nonce ∷ tried) x) (sym e) (at_head a.message.nonce tried))

  -- it is of another pair
  pub safe_passes : is_of_pair q a ≡ false → new ≡ kept → Safe q (a ∷ acc) (a ∷ since) (nonces_of q (a ∷ []) ++ tried) new
  safe_passes is same = record {
    falls = subst Falls (sym list) safe.falls;
    floor = λ n has v in_it. safe.floor n (old n has) v (subst (λ (vs : List (Option ℕ)). Contains vs v) same in_it);
    last = λ l e n has. safe.last l (sym (last_of-other q a since is) ∙ e) n (old n has);
    tried_kept = λ m has. tried_too m (safe.tried_kept m (subst (λ (vs : List (Option ℕ)). Contains vs (Some m)) same has));
    tried_last = λ l e. tried_too l (safe.tried_last l (sym (last_of-other q a since is) ∙ e));
  }
    where
      list : nonces_of q (a ∷ acc) ≡ nonces_of q acc
      list = nonces_of-other q a acc is

      old : (n : ℕ) → Contains (nonces_of q (a ∷ acc)) n → Contains (nonces_of q acc) n
      old n has = subst (λ (ns : List ℕ). Contains ns n) list has

      tried_too : (m : ℕ) → Contains tried m → Contains (nonces_of q (a ∷ []) ++ tried) m
      tried_too m has = subst (λ (ns : List ℕ). Contains (ns ++ tried) m) (sym (nonces_of-other q a [] is)) has

-- Each legal step keeps what makes accepted nonces rise.

differs_at : (q p : Pair) → eq_by_cmp pair_cmp q p ≡ false → q ≢ p
differs_at q p e same = true≢false (sym (pair_itself q) ∙ ap (λ (x : Pair). eq_by_cmp pair_cmp q x) same ∙ e)

-- what is taken is the message that is read
pub taken_one : (a : Arrival) (now : ℕ) (m : MapRegisterValue) → a.read ≡ Ok (Registers m) → acceptances_in (Some a) now ≡ record { message = m; from = a.from; moment = now } ∷ []
taken_one a now m read = ap (λ r. option_to_list (option_map (λ x. record { message = x; from = a.from; moment = now }) (as_register r))) read

module _ (t : Context) (its : is_server t.opening.config t.node ≡ true) (q : Pair) (kind : q.kind ≡ PairKind.Received) (acc : List Acceptance) (old : List ℕ) (safe : Safe q acc (since_start t.opening t.past t.node) old (values t q)) where
  -- the list of the pair is as it was
  stays : values_after t q ≡ values t q → Safe q acc (since_start t.opening t.past t.node) old (values_after t q)
  stays e = safe_narrows q acc (since_start t.opening t.past t.node) old (values t q) safe (values_after t q) (λ v has. subst (λ (vs : List (Option ℕ)). Contains vs v) e has)

  -- a Map-Register is accepted
  module _ (a : Arrival) (m : MapRegisterValue) (read : a.read ≡ Ok (Registers m)) (fresh : IsFresh t m) (now : ℕ) where
    base_at : q ≡ pair_of m → IsBase (last_of q (since_start t.opening t.past t.node)) (values t q) fresh.base
    base_at e = subst (λ (p : Pair). IsBase (last_of p (since_start t.opening t.past t.node)) (values t p) fresh.base) (sym e) fresh.counts

    takes_safe : values_after t (pair_of m) ≡ Some m.nonce ∷ [] → SameOthers t (pair_of m) → (b : Bool) → eq_by_cmp pair_cmp q (pair_of m) ≡ b
        → Safe q (record { message = m; from = a.from; moment = now } ∷ acc) (record { message = m; from = a.from; moment = now } ∷ since_start t.opening t.past t.node) (nonces_of q (record { message = m; from = a.from; moment = now } ∷ []) ++ old) (values_after t q)
    takes_safe kept others true e = safe_takes q acc (since_start t.opening t.past t.node) old (values t q) safe (record { message = m; from = a.from; moment = now }) (values_after t q) e fresh.base (base_at (pair_same q (pair_of m) e)) fresh.above (ap (values_after t) (pair_same q (pair_of m) e) ∙ kept)
    takes_safe kept others false e = safe_passes q acc (since_start t.opening t.past t.node) old (values t q) safe (record { message = m; from = a.from; moment = now }) (values_after t q) e (others q (differs_at q (pair_of m) e))

    doubts_safe : InDoubt (values t (pair_of m)) (values_after t (pair_of m)) m.nonce → SameOthers t (pair_of m) → (b : Bool) → eq_by_cmp pair_cmp q (pair_of m) ≡ b
        → Safe q acc (since_start t.opening t.past t.node) (nonces_of q (record { message = m; from = a.from; moment = now } ∷ []) ++ old) (values_after t q)
    doubts_safe doubt others true e = subst (λ (ns : List ℕ). Safe q acc (since_start t.opening t.past t.node) (ns ++ old) (values_after t q)) (sym (nonces_of-same q (record { message = m; from = a.from; moment = now }) [] e))
        (safe_doubts q acc (since_start t.opening t.past t.node) old (values t q) safe fresh.base (base_at (pair_same q (pair_of m) e)) m.nonce fresh.above (values_after t q) (subst (λ (p : Pair). InDoubt (values t p) (values_after t p) m.nonce) (sym (pair_same q (pair_of m) e)) doubt))
    doubts_safe doubt others false e = subst (λ (ns : List ℕ). Safe q acc (since_start t.opening t.past t.node) (ns ++ old) (values_after t q)) (sym (nonces_of-other q (record { message = m; from = a.from; moment = now }) [] e)) (stays (others q (differs_at q (pair_of m) e)))

  -- what is kept to afterwards
  abbrev After : List Acceptance → Line → Type 0
  After new line = Safe q (acceptances_after line new t.node acc) (since_start_after line new t.node (since_start t.opening t.past t.node)) (tried_nonces_after line (nonces_of q new) t.node old) (values_after t q)

  accept_line : (server : ℕ) (new : List Acceptance) → t.node ≡ server → Safe q (new ++ acc) (new ++ since_start t.opening t.past t.node) (nonces_of q new ++ old) (values_after t q)
      → Safe q (if server == t.node then new ++ acc else acc) (if server == t.node then new ++ since_start t.opening t.past t.node else since_start t.opening t.past t.node) (if server == t.node then nonces_of q new ++ old else old) (values_after t q)
  accept_line server new is = here (λ b. Safe q (if b then new ++ acc else acc) (if b then new ++ since_start t.opening t.past t.node else since_start t.opening t.past t.node) (if b then nonces_of q new ++ old else old) (values_after t q)) server t.node (sym is)

  -- a router's store isn't the server's
  no_router : {X : Type 0} (node : ℕ) → is_router t.opening.config node ≡ true → t.node ≡ node → X
  no_router node kind acts = absurd (not_both t.opening.config node kind (ap (is_server t.opening.config) (sym acts) ∙ its))

  -- any legal step of the server
  pub row_safe : (e : EventValue) (line : Line) → Tells t e line → After (acceptances_in (arrival_in (bag t.opening t.past) e) (clock t.past)) line
  row_safe e (Line.Accepted server router key nonce datagram) told =
      let f = told.follows in
      subst (λ (a : Option Arrival). After (acceptances_in a (clock t.past)) (Line.Accepted server router key nonce datagram)) (sym f.is)
      (accept_line server (acceptances_in (Some f.arrival) (clock t.past)) f.row.acts.acts (subst (λ (new : List Acceptance). Safe q (new ++ acc) (new ++ since_start t.opening t.past t.node) (nonces_of q new ++ old) (values_after t q)) (sym (taken_one f.arrival (clock t.past) f.row.message f.row.admits.read))
      (takes_safe f.arrival f.row.message f.row.admits.read f.row.fresh (clock t.past) f.row.kept f.row.others (eq_by_cmp pair_cmp q (pair_of f.row.message)) refl)))
  row_safe e (Line.Refused named (Refusal.Receive (Refused.StoreSave fault))) told =
      let f = told.follows in
      let row = f.row.1 in
      subst (λ (a : Option Arrival). After (acceptances_in a (clock t.past)) (Line.Refused named (Refusal.Receive (Refused.StoreSave fault)))) (sym f.is)
      (here (λ (b : Bool). Safe q acc (since_start t.opening t.past t.node) (if b then nonces_of q (acceptances_in (Some f.arrival) (clock t.past)) ++ old else old) (values_after t q)) named t.node told.by (subst (λ (new : List Acceptance). Safe q acc (since_start t.opening t.past t.node) (nonces_of q new ++ old) (values_after t q)) (sym (taken_one f.arrival (clock t.past) row.message row.admits.read))
      (doubts_safe f.arrival row.message row.admits.read row.fresh (clock t.past) row.fails.here row.fails.others (eq_by_cmp pair_cmp q (pair_of row.message)) refl)))
  row_safe e (Line.Restarted named) told = here (λ (b : Bool). Safe q acc (if b then [] else since_start t.opening t.past t.node) old (values_after t q)) named t.node told.by (safe_restarts q acc (since_start t.opening t.past t.node) old (values t q) safe (values_after t q) (told.follows.3.narrows q).each)
  row_safe e (Line.Renewed named count) told = here (λ (b : Bool). Safe q acc (if b then [] else since_start t.opening t.past t.node) old (values_after t q)) named t.node told.by (safe_restarts q acc (since_start t.opening t.past t.node) old (values t q) safe (values_after t q) (λ v has. subst (λ (vs : List (Option ℕ)). Contains vs v) (told.stays.kept PairKind.Received refl q kind) has))
  row_safe e (Line.Emptied named under) told = no_router named told.follows.2.lost.kind told.follows.2.lost.acts
  row_safe e (Line.Refused named (Refusal.Start fault)) told = cases told.follows
      (λ f. no_router named f.3.kind f.3.acts)
      (λ f. no_router named f.3.lost.kind f.3.lost.acts)
  row_safe e line told = stays (told.stays.kept PairKind.Received refl q kind)

-- Over legal traces accepted nonces rise, and replays are told with numbers that were tried.

-- a number among values is among their numbers
some_number : (v : Option ℕ) (m : ℕ) (ms : List ℕ) → (Some m ≡ v) ⊎ Contains ms m → Contains (option_to_list v ++ ms) m
some_number None m ms (inl e) = absurd (none-some _ (sym e))
some_number None m ms (inr has) = has
some_number (Some n) m ms (inl e) = let same : m ≡ n = cc in subst (λ (x : ℕ). Contains (n ∷ ms) x) (sym same) (at_head n ms)
some_number (Some n) m ms (inr has) = in_tail n ms m has

in_numbers : (vs : List (Option ℕ)) (m : ℕ) → Contains vs (Some m) → Contains (flat_map option_to_list vs) m
in_numbers [] m has = absurd (in_none (Some m) has)
in_numbers (v ∷ vs) m has = some_number v m (flat_map option_to_list vs) (cases (head_or_tail v vs (Some m) has) (λ e. inl e) (λ later. inr (in_numbers vs m later)))

-- at each server, for each pair of received nonces
module _ (o : Opening) (q : Pair) (kind : q.kind ≡ PairKind.Received) where
  abbrev SafeAt : List Step → ℕ → Type 0
  SafeAt T k = Safe q (acceptances o T k) (since_start o T k) (tried_nonces o T k q) (kept_at (shown_store o T k).kept q)

  safe_opening : (k : ℕ) → SafeAt [] k
  safe_opening k = record {
    falls = tt;
    floor = λ n has. absurd (in_none n has);
    last = λ l e. absurd (none-some _ e);
    tried_kept = in_numbers (kept_at (shown_store o [] k).kept q);
    tried_last = λ l e. absurd (none-some _ e);
  }

  safe_actor : (T : List Step) (s : Step) → Legal o T s → is_server o.config s.actor ≡ true → SafeAt T s.actor → SafeAt (s ∷ T) s.actor
  safe_actor T s l its safe = subst (λ b. Safe q (acceptances o (s ∷ T) s.actor) (since_start o (s ∷ T) s.actor) (tried_nonces o (s ∷ T) s.actor q) (kept_at (if b then s.shown else shown_store o T s.actor).kept q)) (sym (same_number s.actor))
      (row_safe (context_of o T s) its q kind (acceptances o T s.actor) (tried_nonces o T s.actor q) safe s.event s.line (tells (context_of o T s) s.event s.line l.row))

  safe_other : (T : List Step) (s : Step) (k : ℕ) → k ≢ s.actor → Legal o T s → SafeAt T k → SafeAt (s ∷ T) k
  safe_other T s k differ l safe =
      let by = (tells (context_of o T s) s.event s.line l.row).by in
      subst (λ (acc : List Acceptance). Safe q acc (since_start o (s ∷ T) k) (tried_nonces o (s ∷ T) k q) (kept_at (shown_store o (s ∷ T) k).kept q)) (sym (accepted_other s.actor k differ s.line by (acceptances_in_step o T s) (acceptances o T k)))
      (subst (λ (new : List Acceptance). Safe q (acceptances o T k) new (tried_nonces o (s ∷ T) k q) (kept_at (shown_store o (s ∷ T) k).kept q)) (sym (since_other s.actor k differ s.line by (acceptances_in_step o T s) (since_start o T k)))
      (subst (λ (ns : List ℕ). Safe q (acceptances o T k) (since_start o T k) ns (kept_at (shown_store o (s ∷ T) k).kept q)) (sym (tried_other s.actor k differ s.line by (nonces_of q (acceptances_in_step o T s)) (tried_nonces o T k q)))
      (subst (λ b. Safe q (acceptances o T k) (since_start o T k) (tried_nonces o T k q) (kept_at (if b then s.shown else shown_store o T k).kept q)) (sym (other_number s.actor k (λ e. differ (sym e)))) safe)))

  pub safe_trace : (T : List Step) → LegalTrace o T → (k : ℕ) → is_server o.config k ≡ true → SafeAt T k
  safe_trace [] legal = λ k its. safe_opening k
  safe_trace (s ∷ T) legal = of_each (λ k. is_server o.config k ≡ true → SafeAt (s ∷ T) k) s.actor
      (λ its. safe_actor T s legal.0 its (safe_trace T legal.1 s.actor its)) (λ k differ its. safe_other T s k differ legal.0 (safe_trace T legal.1 k its))

-- pairs of other kinds have no accepted nonces
no_nonces : (q : Pair) → q.kind ≢ PairKind.Received → (acc : List Acceptance) → nonces_of q acc ≡ []
no_nonces q other [] = refl
no_nonces q other (a ∷ acc) = at (eq_by_cmp pair_cmp q (pair_of a.message)) refl (no_nonces q other acc)
  where
    at : (b : Bool) → eq_by_cmp pair_cmp q (pair_of a.message) ≡ b → nonces_of q acc ≡ [] → map (λ (x : Acceptance). x.message.nonce) (cond b (a ∷ filter (is_of_pair q) acc) (filter (is_of_pair q) acc)) ≡ []
    at true e rest = absurd (other (ap (λ (p : Pair). p.kind) (pair_same q (pair_of a.message) e)))
    at false e rest = rest

pub nonces_rise : (o : Opening) (T : List Step) → LegalTrace o T → NoncesRise o T
nonces_rise o T legal server q = at q.kind refl
  where
    at : (kind : PairKind) → q.kind ≡ kind → Falls (nonces_of q (acceptances o T server))
    at PairKind.Received e = received (is_server o.config server) refl
      where
        received : (b : Bool) → is_server o.config server ≡ b → Falls (nonces_of q (acceptances o T server))
        received true its = (safe_trace o q e T legal server its).falls
        received false other = subst (λ (acc : List Acceptance). Falls (nonces_of q acc)) (sym (none_accepted o server other T legal)) tt
    at PairKind.Sent e = subst Falls (sym (no_nonces q (λ is. let clash : PairKind.Sent ≡ PairKind.Received = sym e ∙ is in absurd cc) (acceptances o T server))) tt
    at PairKind.Notice e = subst Falls (sym (no_nonces q (λ is. let clash : PairKind.Notice ≡ PairKind.Received = sym e ∙ is in absurd cc) (acceptances o T server))) tt

-- a replay has a base
module _ (t : Context) (server saved : ℕ) where
  record HasBase (x : Acceptance) : Type 0 where
    kind : is_server t.opening.config server ≡ true
    acts : t.node ≡ server
    base : IsBase (last_in t (pair_of x.message)) (values t (pair_of x.message)) (Some saved)

  has_base : (a : Arrival) (now : ℕ) → Arrives t a (Line.Refused server (Refusal.Receive (Replay saved))) → (x : Acceptance) → Contains (acceptances_in (Some a) now) x → HasBase x
  has_base a now row x has =
      let one = only _ x (subst (λ (xs : List Acceptance). Contains xs x) (taken_one a now row.1.message row.1.admits.read) has) in
      record { kind = row.0.kind; acts = row.0.acts; base = subst (λ (y : Acceptance). IsBase (last_in t (pair_of y.message)) (values t (pair_of y.message)) (Some saved)) (sym one) row.1.counts }

  replay_base : (e : EventValue) → MayCome t e (Line.Refused server (Refusal.Receive (Replay saved))) → (x : Acceptance) → Contains (acceptances_in (arrival_in (bag t.opening t.past) e) (clock t.past)) x → HasBase x
  replay_base (Event.Deliver k fate) row x has = has_base (arrival_of row.item) (clock t.past) row.arrives x (subst (λ (a : Option Arrival). Contains (acceptances_in a (clock t.past)) x) (ap (option_map arrival_of) row.sent) has)
  replay_base (Event.Junk to from bytes) row x has = has_base (junk_arrival from bytes) (clock t.past) row.arrives x has
  replay_base _ row x has = absurd row

based : (q : Pair) (acc since_start : List Acceptance) (tried_nonces : List ℕ) (kept : List (Option ℕ)) → Safe q acc since_start tried_nonces kept → (saved : ℕ) (last : Option ℕ) → last_of q since_start ≡ last → IsBase last kept (Some saved) → Contains tried_nonces saved
based q acc since_start tried_nonces kept safe saved (Some l) is base = let same : saved ≡ l = cc in subst (Contains tried_nonces) (sym same) (safe.tried_last l is)
based q acc since_start tried_nonces kept safe saved None is base = safe.tried_kept saved base

pub replays_tried : (o : Opening) (T : List Step) (s : Step) → LegalTrace o T → Legal o T s → ReplaysAreTried o T s
replays_tried o T s legal l server saved is x has =
    let found = replay_base (context_of o T s) server saved s.event (subst (MayCome (context_of o T s) s.event) is l.row) x has in
    let q = pair_of x.message in
    subst (λ (k : ℕ). Contains (tried_nonces o T k (pair_of x.message)) saved) found.acts
    (based q (acceptances o T s.actor) (since_start o T s.actor) (tried_nonces o T s.actor q) (kept_at (shown_store o T s.actor).kept q) (safe_trace o q refl T legal s.actor (ap (is_server o.config) found.acts ∙ found.kind)) saved (last_of q (since_start o T s.actor)) refl found.base)
