-- Stores in memory that were just made.
use Rattle.std.proofs.Common.{◌≡◌, ℕ, zero, suc, false, List, [], ◌∷◌, map, replicate, Some, refl, sym, ap, subst, ◌∙◌, ◌<◌, Bool, true, cond, ◌++◌, inl, inr, Option, Bor, ◌+◌, ◌-◌, ◌^◌, ◌≤◌, nat_lt, nat_le, ◌&&◌, length, get_or, take, None, Ok, Err, arith}
use Rattle.std.specs.Prelude.{slice_get, slice_index_or, ◌⊎◌, ◌==◌, if◌then◌else◌, Result, IfOk, IfSome, IfNone, OnErr, is_some, IsTrue}
use Rattle.std.specs.FinMap.{empty}
use Rattle.std.specs.List.{AllByRecursion, Contains, filter, flat_map}
use Rattle.std.specs.Ordering.{eq_by_cmp}
use Rattle.std.specs.Option.{option_to_list, option_copied, option_flatten, option_map, option_and_then, unwrap_or}
use Rattle.std.proofs.lemmas.Bool.Decides.{Decides-eqb}
use Rattle.std.proofs.lemmas.List.Elements.{Contains-append_cases}
use Rattle.std.proofs.lemmas.Bool.{ltb-true, ltb-false, leb-true}
use Rattle.std.proofs.lemmas.List.{append-nil, get_or_past}
use Rattle.std.proofs.lemmas.Option.{get_or_from_slice_get, slice_get_read, slice_get_within, unwrap_or-slice_get}
use Rattle.std.specs.Result.{result_ok}
use Rattle.lisp_policy.specs.Configuration.{ConfigValue}
use Rattle.lisp_nonces.specs.Kept.{Kept, kept_at}
use Rattle.lisp_nonces.specs.Memory.{MemoryStoreState, memory_state}
use Rattle.lisp_nonces.specs.Store.{StoreState}
use Rattle.lisp_model.specs.Trace.{shown_store, Step, Opening, EventValue, router_at, is_server, is_router, is_up}
use Rattle.lisp_refinement.specs.World.{WorldState, ServerNodeState, RouterNodeState, RouterCoreState, Up, Down}
use Rattle.lisp_refinement.specs.Stands.{shown_by, Stands, StandsForCore, StandsForEtr, StandsForRounds}
use Rattle.lisp_refinement.proofs.Gets.{get_mapped, get_replicate, none_is_some, same_some, get_within}
use Rattle.lisp_world.specs.Quiet.{stores_of, AllHonest, AllCalm, IsCalm}
use Rattle.lisp_world.specs.Openings.{opening, lists_of, repeats}
use Rattle.lisp_records.specs.declared.router.RouterId.{RouterId}
use Rattle.lisp_nonces.specs.declared.pair.Pair.{Pair}
use Rattle.lisp_nonces.specs.declared.pair.PairKind.TheVariants as kinds
use Rattle.lisp_nonces.specs.Pair.{pair_cmp}
use Rattle.lisp_messages.specs.Message.{MapRegisterValue}
use Rattle.lisp_admission.specs.Pairs.{router_of, pair_of}
use Rattle.lisp_model.specs.declared.line.Line.{Line}
use Rattle.lisp_model.specs.declared.line.Line.TheVariants as lines
use Rattle.lisp_model.specs.Held.{Acceptance, is_of_pair}
use Rattle.lisp_model.specs.Accepted.{acceptances, acceptances_after, acceptances_in_step, nonces_of, tried_nonces, tried_nonces_after}
use Rattle.lisp_model.specs.Legal.{LegalTrace}
use Rattle.lisp_model.specs.Promises.{Falls, notice_nonces, notice_nonces_after}
use Rattle.lisp_model.specs.Promises as schedules
use Rattle.lisp_model.proofs.KeptLemmas.{pair_itself, pair_same}
use Rattle.lisp_model.proofs.Locality.{same_number}
use Rattle.lisp_model.proofs.ListLemmas.{at_head, in_tail, head_or_tail, in_none}
use Rattle.lisp_admission.specs.declared.refused.Refused.TheVariants.{StoreSave}
use Rattle.lisp_model.specs.declared.refusal.Refusal.TheVariants.{Receive}
use Rattle.lisp_nonces.proofs.Kept.{kept_at-empty}
use Rattle.lisp_refinement.specs.Headline.{OfEachStep, Lists, IsSentRow, OverClean, Promises}
use Rattle.lisp_nonces.specs.declared.fault.StoreFault.TheVariants as faults
use Rattle.lisp_records.specs.Row.{RowValue}
use Rattle.lisp_lookup.specs.Table.{IsHeld}
use Rattle.lisp_etr.specs.Etr.{EtrState}
use Rattle.lisp_etr.specs.Rounds.{acked_at}
use Rattle.lisp_etr.specs.declared.rounds.Rounds.{Rounds}
use Rattle.lisp_etr.specs.declared.start_fault.StartFault.TheVariants as starts
use Rattle.lisp_server.specs.Server.{ServerState}
use Rattle.lisp_model.specs.History.{SentRegister}
use Rattle.lisp_model.specs.Counted.{acked}
use Rattle.lisp_model.specs.Numbers.{part_numbers}
use Rattle.lisp_model.specs.declared.world_fault.WorldFault.{WorldFault}
use Rattle.lisp_model.specs.declared.world_fault.WorldFault.TheVariants.{Repeated, OutOfMemory, Start}
use Rattle.lisp_refinement.specs.Nodes.{server_at, up_in, etr_at}
use Rattle.lisp_world.specs.Faults.{fault_of}
use Rattle.lisp_world.specs.Making.{AllBelowEnd, IsCalmFault}
use Rattle.lisp_world.specs.Runs.{RunsOn, StopsAt}
use Rattle.lisp_refinement.proofs.Places.{list_by_parts}
use Rattle.lisp_client.specs.Stores.{fresh}
use Rattle.lisp_client.specs.Promised.{NoncesRise, NoticeNoncesRise, Tries, WasTried, ReplaysAreTried, WasRegistered}
use Rattle.lisp_client.specs.declared.question.Question.{Question}
use Rattle.lisp_client.specs.Answers.{HasRun, IsPromised, IsPromisedOverClean, IsNotThere, HasNotRun, IsUntold, counted_of, counted_at}
use Rattle.lisp_client.proofs.Steps.{goes_down, goes_up, legal_at, taken_of, accepting, adds, stays_accepted, here, later, each_at, taken_alone, was_taken}
use Rattle.lisp_client.proofs.Rows.{registered, agree}
use Rattle.lisp_client.proofs.Counts.{counted_were_accepted, accepted_were_sent, counted as was_counted, done_was_noticed}

-- what is so of it is so of each of many
pub each_fresh : (P : StoreState → Type 0) → P (memory_state fresh) → (n k : ℕ) (s : StoreState) → slice_get (map memory_state (replicate n fresh)) k ≡ Some s → P s
each_fresh P holds n k s at =
    let its = get_mapped memory_state (replicate n fresh) k s at in
    subst P (ap memory_state (get_replicate n fresh k its.0 its.1) ∙ its.2) holds

-- they keep nothing
abbrev AllEmpty : List Kept → Type 0
AllEmpty kept = AllByRecursion (λ k. k ≡ empty) kept

fresh_empty : (n : ℕ) → AllEmpty (lists_of (map memory_state (replicate n fresh)))
fresh_empty zero = tt
fresh_empty (suc n) = (refl, fresh_empty n)

empty_at : (stores : List StoreState) → AllEmpty (lists_of stores) → (node : ℕ) → (slice_index_or (map shown_by stores) node (record { kept = empty; faults = 0; is_obedient = false })).kept ≡ empty
empty_at [] all node = refl
empty_at (s ∷ stores) all zero = all.0
empty_at (s ∷ stores) all (suc node) = empty_at stores all.1 node

-- nor does the network over them at its opening
pub nothing_kept : (n : ℕ) (stores : List MemoryStoreState) → stores ≡ replicate n fresh → (c : ConfigValue) (w : WorldState) → lists_of (stores_of w) ≡ lists_of (map memory_state stores)
    → (node : ℕ) → (shown_store (opening c w) [] node).kept ≡ empty
nothing_kept n stores made c w same node =
    empty_at (stores_of w) (subst AllEmpty (sym (same ∙ ap (λ (xs : List MemoryStoreState). lists_of (map memory_state xs)) made)) (fresh_empty n)) node

-- Nonces rise: of Map-Registers that a Map-Server accepted, and of its notices.

-- what the nonces of a router under a key are kept for
abbrev pub pair_at : RouterId → ℕ → Pair
pair_at router key = record { kind = kinds.Received; router = router; key = key }

-- a Map-Register has its pair's
its_pair : (m : MapRegisterValue) (router : RouterId) (key : ℕ) → router_of m ≡ router → m.key_id ≡ key → pair_at router key ≡ pair_of m
its_pair m router key who under = λ i. pair_at (sym who i) (sym under i)

-- its nonce comes first
pub nonces_of-own : (pair : Pair) (a : Acceptance) (old : List Acceptance) → pair ≡ pair_of a.message → nonces_of pair (a ∷ old) ≡ a.message.nonce ∷ nonces_of pair old
nonces_of-own pair a old same =
    ap (λ (b : Bool). map (λ (x : Acceptance). x.message.nonce) (cond b (a ∷ filter (is_of_pair pair) old) (filter (is_of_pair pair) old)))
    (ap (λ (p : Pair). eq_by_cmp pair_cmp pair p) (sym same) ∙ pair_itself pair)

-- the nonce of a message among the acceptances is among those of its pair
pub among_nonces : (pair : Pair) (all : List Acceptance) (a : Acceptance) → Contains all a → pair ≡ pair_of a.message → Contains (nonces_of pair all) a.message.nonce
among_nonces pair [] a has same = absurd (in_none a has)
among_nonces pair (x ∷ all) a has same = by (head_or_tail x all a has) (λ more. among_nonces pair all a more same)
  where
    other : (b : Bool) → Contains (nonces_of pair all) a.message.nonce → Contains (map (λ (y : Acceptance). y.message.nonce) (cond b (x ∷ filter (is_of_pair pair) all) (filter (is_of_pair pair) all))) a.message.nonce
    other true before = in_tail x.message.nonce (nonces_of pair all) a.message.nonce before
    other false before = before

    by : (a ≡ x) ⊎ Contains all a → (Contains all a → Contains (nonces_of pair all) a.message.nonce) → Contains (nonces_of pair (x ∷ all)) a.message.nonce
    by (inl is) go =
        subst (λ (ns : List ℕ). Contains ns a.message.nonce) (sym (nonces_of-own pair x all (same ∙ ap (λ (y : Acceptance). pair_of y.message) is)))
        (subst (λ (y : Acceptance). Contains (y.message.nonce ∷ nonces_of pair all) a.message.nonce) is (at_head a.message.nonce (nonces_of pair all)))
    by (inr more) go = other (is_of_pair pair x) (go more)

-- what falls with more in front falls
falls_append : (new old : List ℕ) → Falls (new ++ old) → Falls old
falls_append [] old falls = falls
falls_append (n ∷ new) old falls = falls_append new old falls.1

nonces_of-append : (pair : Pair) (new old : List Acceptance) → nonces_of pair (new ++ old) ≡ nonces_of pair new ++ nonces_of pair old
nonces_of-append pair [] old = refl
nonces_of-append pair (a ∷ new) old = by (is_of_pair pair a) (nonces_of-append pair new old)
  where
    by : (b : Bool) → nonces_of pair (new ++ old) ≡ nonces_of pair new ++ nonces_of pair old → map (λ (x : Acceptance). x.message.nonce) (cond b (a ∷ filter (is_of_pair pair) (new ++ old)) (filter (is_of_pair pair) (new ++ old)))
        ≡ map (λ (x : Acceptance). x.message.nonce) (cond b (a ∷ filter (is_of_pair pair) new) (filter (is_of_pair pair) new)) ++ nonces_of pair old
    by true rest = ap (λ (ns : List ℕ). a.message.nonce ∷ ns) rest
    by false rest = rest

-- nonces that fall did so before the last step
falls_before : (pair : Pair) (line : Line) (new old : List Acceptance) (server : ℕ) → Falls (nonces_of pair (acceptances_after line new server old)) → Falls (nonces_of pair old)
falls_before pair (lines.Accepted node _ _ _ _) new old server falls = by (node == server) falls
  where
    by : (b : Bool) → Falls (nonces_of pair (if b then new ++ old else old)) → Falls (nonces_of pair old)
    by true falls = falls_append (nonces_of pair new) (nonces_of pair old) (subst Falls (nonces_of-append pair new old) falls)
    by false falls = falls
falls_before pair _ new old server falls = falls

-- of two Map-Registers that were accepted the later one has the greater nonce
pub nonces_rise : (o : Opening) (T : List Step) → LegalTrace o T → schedules.NoncesRise o T → NoncesRise T
nonces_rise o T legal rise s t earlier between later_is earlier_is server router key m n c d first second =
    let pair = pair_at router key in
    let legal_t = legal_at o T legal t between later_is in
    let a = accepting o t between legal_t.0 server router key n d second in
    let b = accepting o s earlier (legal_at o between legal_t.1 s earlier earlier_is).0 server router key m c first in
    let x = taken_of o t between router key n a in
    let y = taken_of o s earlier router key m b in
    let falls = goes_down (λ (U : List Step). Falls (nonces_of pair (acceptances o U server))) (λ z U. falls_before pair z.line (acceptances_in_step o U z) (acceptances o U server) server) T t between later_is (rise server pair) in
    let list = ap (nonces_of pair) (adds o t between server router key n d second a) ∙ nonces_of-own pair x (acceptances o between server) (its_pair a.message router key a.who a.under) in
    let has = among_nonces pair (acceptances o between server) y (stays_accepted o between s earlier earlier_is server router key m c first b) (its_pair b.message router key b.who b.under) in
    let less : b.message.nonce < a.message.nonce = (subst Falls list falls).0 b.message.nonce has in
    subst (λ (k : ℕ). k < n) b.number (subst (λ (k : ℕ). b.message.nonce < k) a.number less)

-- the nonce of a notice comes first, and those before it stay
notice_adds : (s : Step) (before : List Step) (server router key nonce datagram : ℕ) → s.line ≡ lines.Notice server router key nonce datagram → notice_nonces (s ∷ before) server ≡ nonce ∷ notice_nonces before server
notice_adds s before server router key nonce datagram is =
    ap (λ (line : Line). notice_nonces_after line server (notice_nonces before server)) is
    ∙ ap (λ (b : Bool). if b then nonce ∷ notice_nonces before server else notice_nonces before server) (same_number server)

notice_stays : (line : Line) (server : ℕ) (old : List ℕ) (n : ℕ) → Contains old n → Contains (notice_nonces_after line server old) n
notice_stays (lines.Notice node _ _ nonce _) server old n has = by (node == server)
  where
    by : (b : Bool) → Contains (if b then nonce ∷ old else old) n
    by true = in_tail nonce old n has
    by false = has
notice_stays _ server old n has = has

notice_before : (line : Line) (server : ℕ) (old : List ℕ) → Falls (notice_nonces_after line server old) → Falls old
notice_before (lines.Notice node _ _ nonce _) server old falls = by (node == server) falls
  where
    by : (b : Bool) → Falls (if b then nonce ∷ old else old) → Falls old
    by true falls = falls.1
    by false falls = falls
notice_before _ server old falls = falls

-- of two notices that a Map-Server sent the later one has the greater nonce
pub notice_nonces_rise : (T : List Step) → schedules.NoticeNoncesRise T → NoticeNoncesRise T
notice_nonces_rise T rise s t earlier between later_is earlier_is server one other j k m n c d first second =
    let falls = goes_down (λ (U : List Step). Falls (notice_nonces U server)) (λ z U. notice_before z.line server (notice_nonces U server)) T t between later_is (rise server) in
    let has = goes_up (λ (U : List Step). Contains (notice_nonces U server) m) (λ z U. notice_stays z.line server (notice_nonces U server) m) between s earlier earlier_is
    (subst (λ (ns : List ℕ). Contains ns m) (sym (notice_adds s earlier server one j m c first)) (at_head m (notice_nonces earlier server))) in
    (subst Falls (notice_adds t between server other k n d second) falls).0 m has

-- Numbers that a Map-Server tried are those of Map-Registers that arrived.

-- a nonce of a pair is that of a message
record IsOfOne (pair : Pair) (all : List Acceptance) (nonce : ℕ) : Type 0 where
  one : Acceptance
  among : Contains all one
  its : pair ≡ pair_of one.message
  number : nonce ≡ one.message.nonce

of_one : (pair : Pair) (all : List Acceptance) (nonce : ℕ) → Contains (nonces_of pair all) nonce → IsOfOne pair all nonce
of_one pair [] nonce has = absurd (in_none nonce has)
of_one pair (a ∷ all) nonce has = by (is_of_pair pair a) refl has (of_one pair all nonce)
  where
    more : IsOfOne pair all nonce → IsOfOne pair (a ∷ all) nonce
    more old = record { one = old.one; among = in_tail a all old.one old.among; its = old.its; number = old.number }

    by : (b : Bool) → is_of_pair pair a ≡ b → Contains (map (λ (x : Acceptance). x.message.nonce) (cond b (a ∷ filter (is_of_pair pair) all) (filter (is_of_pair pair) all))) nonce
        → (Contains (nonces_of pair all) nonce → IsOfOne pair all nonce) → IsOfOne pair (a ∷ all) nonce
    by true same has go = either (head_or_tail a.message.nonce (nonces_of pair all) nonce has)
      where
        either : (nonce ≡ a.message.nonce) ⊎ Contains (nonces_of pair all) nonce → IsOfOne pair (a ∷ all) nonce
        either (inl is) = record { one = a; among = at_head a all; its = pair_same pair (pair_of a.message) same; number = is }
        either (inr old) = more (go old)
    by false other has go = more (go has)

-- a line tries what arrives, or what was tried was tried before
tried_case : (line : Line) (new old : List ℕ) (server nonce : ℕ) → Contains (tried_nonces_after line new server old) nonce → (Tries server line × Contains new nonce) ⊎ Contains old nonce
tried_case (lines.Accepted node router key n reply) new old server nonce has = by (node == server) refl has
  where
    by : (b : Bool) → (node == server) ≡ b → Contains (if b then new ++ old else old) nonce → ((node ≡ server) × Contains new nonce) ⊎ Contains old nonce
    by true same has = either (Contains-append_cases new old nonce has)
      where
        either : Contains new nonce ⊎ Contains old nonce → ((node ≡ server) × Contains new nonce) ⊎ Contains old nonce
        either (inl one) = inl ((Decides-eqb node server).0 same, one)
        either (inr before) = inr before
    by false other has = inr has
tried_case (lines.Refused node (Receive (StoreSave fault))) new old server nonce has = by (node == server) refl has
  where
    by : (b : Bool) → (node == server) ≡ b → Contains (if b then new ++ old else old) nonce → ((node ≡ server) × Contains new nonce) ⊎ Contains old nonce
    by true same has = either (Contains-append_cases new old nonce has)
      where
        either : Contains new nonce ⊎ Contains old nonce → ((node ≡ server) × Contains new nonce) ⊎ Contains old nonce
        either (inl one) = inl ((Decides-eqb node server).0 same, one)
        either (inr before) = inr before
    by false other has = inr has
tried_case _ new old server nonce has = inr has

module _ (o : Opening) (server : ℕ) (nothing : (shown_store o [] server).kept ≡ empty) (router : RouterId) (key nonce : ℕ) where
  -- in the step
  tried_now : (s : Step) (T : List Step) → Tries server s.line → IsOfOne (pair_at router key) (acceptances_in_step o T s) nonce → WasTried o (s ∷ T) server router key nonce
  tried_now s T tries its =
      let t = was_taken o s T its.one its.among in
      let a = t.arrived in
      record {
        step = s;
        before = T;
        there = here s T;
        arrived = record {
          arrival = a.arrival;
          comes = a.comes;
          message = a.message;
          read = a.read;
          who = a.who ∙ sym (ap (λ (p : Pair). p.router) its.its);
          under = a.under ∙ sym (ap (λ (p : Pair). p.key) its.its);
          number = a.number ∙ sym its.number;
        };
        tried = tries;
      }

  -- what was tried over a store that began with nothing arrived
  pub was_tried : (T : List Step) → Contains (tried_nonces o T server (pair_at router key)) nonce → WasTried o T server router key nonce
  was_tried [] has =
      let none = ap (λ (kept : Kept). kept_at kept (pair_at router key)) nothing ∙ kept_at-empty (pair_at router key) in
      absurd (in_none nonce (subst (λ (vs : List (Option ℕ)). Contains (flat_map option_to_list vs) nonce) none has))
  was_tried (s ∷ T) has = by (tried_case s.line (nonces_of (pair_at router key) (acceptances_in_step o T s)) (tried_nonces o T server (pair_at router key)) server nonce has) (was_tried T)
    where
      by : (Tries server s.line × Contains (nonces_of (pair_at router key) (acceptances_in_step o T s)) nonce) ⊎ Contains (tried_nonces o T server (pair_at router key)) nonce
          → (Contains (tried_nonces o T server (pair_at router key)) nonce → WasTried o T server router key nonce) → WasTried o (s ∷ T) server router key nonce
      by (inl new) go = tried_now s T new.0 (of_one (pair_at router key) (acceptances_in_step o T s) nonce new.1)
      by (inr old) go = let w = go old in record { step = w.step; before = w.before; there = later s T w.step w.before w.there; arrived = w.arrived; tried = w.tried }

-- a replay is told with such a number
pub replays_are_tried : (o : Opening) → ((node : ℕ) → (shown_store o [] node).kept ≡ empty) → (T : List Step) → OfEachStep (schedules.ReplaysAreTried o) T → ReplaysAreTried o T
replays_are_tried o nothing T each s before there server saved is router key nonce a =
    let x = taken_of o s before router key nonce a in
    let has = subst (λ (xs : List Acceptance). Contains xs x) (sym (taken_alone o s before router key nonce a)) (at_head x []) in
    let told = each_at (schedules.ReplaysAreTried o) T each s before there server saved is x has in
    was_tried o server (nothing server) router key saved before
    (subst (λ (p : Pair). Contains (tried_nonces o before server p) saved) (λ i. pair_at (a.who i) (a.under i)) told)

-- From the network's contracts to the client's.

module _ (n : ℕ) (stores : List MemoryStoreState) (made : stores ≡ replicate n fresh) where
  -- they are honest
  pub are_honest : AllHonest (map memory_state stores)
  are_honest k s at = each_fresh (λ x. IsTrue x.is_honest) refl n k s (rw made at at)

  -- over them a network isn't made where two nodes are alike, or for want of memory
  pub not_made : (memory : Type 0) (c : ConfigValue) (events : List EventValue) (why : WorldFault)
      → (AllCalm (map memory_state stores) → AllBelowEnd (map memory_state stores) → IsCalmFault memory memory why)
      → (why ≡ Repeated → repeats c ≡ true) → HasNotRun memory c events
  not_made memory c events why calm_fault twice = by why (calm_fault calm below) twice
    where
      calm : AllCalm (map memory_state stores)
      calm k s at = each_fresh IsCalm (record { obedient = refl; quiet = refl }) n k s (rw made at at)

      below : AllBelowEnd (map memory_state stores)
      below k s at = each_fresh (λ x. x.faults < 2 ^ 64 - 1) (omega arith) n k s (rw made at at)

      by : (why : WorldFault) → IsCalmFault memory memory why → (why ≡ Repeated → repeats c ≡ true) → HasNotRun memory c events
      by Repeated may twice = inl (twice refl)
      by OutOfMemory may twice = inr (inr may)
      by (Start _ starts.OutOfMemory) may twice = inr (inr may)
      by (Start _ (starts.Store faults.OutOfMemory)) may twice = inr (inr may)
      by _ may twice = absurd may

  -- over them it keeps nothing at its opening: one that took the events has run
  pub has_run : (N S : Type 0) (c : ConfigValue) (events : List EventValue) (old new : WorldState) (before after : List Line)
      → lists_of (stores_of old) ≡ lists_of (map memory_state stores) → Stands old (opening c old) [] → Promises new → RunsOn N S old new before after events → HasRun c events new
  has_run N S c events old new before after same stands promises runs =
      let follows = runs.follows (opening c old) [] stands in
      record {
        opening = opening c old;
        config = refl;
        nothing_kept = nothing_kept n stores made c old same;
        trace = follows.steps ++ [];
        events_are = ap (λ (T : List Step). map (λ (s : Step). s.event) T) (append-nil follows.steps) ∙ follows.events_are;
        stands = follows.stands;
        promises = promises;
      }

  -- and one that was made, but took only those before one, has a fault of that one, or memory was refused
  pub not_taken : (memory S : Type 0) (c : ConfigValue) (events : List EventValue) (old new : WorldState) (before after : List Line) (place : ℕ) (fault : WorldFault)
      → lists_of (stores_of old) ≡ lists_of (map memory_state stores) → Stands old (opening c old) [] → Promises new
      → StopsAt memory S old new before after events place fault → (fault ≡ OutOfMemory → memory) → HasNotRun memory c events
  not_taken memory S c events old new before after place fault same stands promises stops may = by stops.why
    where
      by : (fault_of new stops.event ≡ Some fault) ⊎ (fault ≡ OutOfMemory) → HasNotRun memory c events
      by (inl why) = inr (inl (record {
        place = place;
        event = stops.event;
        there = stops.there;
        network = new;
        ran = has_run memory S c (take place events) old new before after same stands promises stops.runs;
        fault = fault;
        why = why;
      }))
      by (inr out) = inr (inr (may out))

-- a router's number is behind the Map-Servers'
router_bounds : (c : ConfigValue) (router : ℕ) → is_router c router ≡ true → (length c.servers ≤ router) × (router < length c.servers + length c.routers)
router_bounds c router is = by (nat_le (length c.servers) router) (nat_lt router (length c.servers + length c.routers)) refl refl is
  where
    by : (a b : Bool) → nat_le (length c.servers) router ≡ a → nat_lt router (length c.servers + length c.routers) ≡ b → (a && b) ≡ true
        → (length c.servers ≤ router) × (router < length c.servers + length c.routers)
    by true true least most holds = (leb-true (length c.servers) router least, ltb-true router (length c.servers + length c.routers) most)
    by true false least most holds = absurd cc
    by false b least most holds = absurd cc

-- what is read of a part is what was counted of it
pub part_read : (counted : List (Option (ℕ × ℕ))) (part : ℕ) (r : Option (Bor (Option (ℕ × ℕ)))) → is_some r ≡ nat_lt part (length counted) → IfSome r (λ x. x.now ≡ get_or counted part x.now)
    → option_flatten (option_copied r) ≡ counted_of counted part
part_read counted part (Some x) there read =
    sym (get_or_from_slice_get counted part x.now None (slice_get_read counted (length counted) part x.now refl (ltb-true part (length counted) (sym there)) read))
part_read counted part None past read = sym (get_or_past counted part None (ltb-false part (length counted) (sym past)))

-- what was counted of a part stands at its place
counted_there : (counted : List (Option (ℕ × ℕ))) (part : ℕ) (x : ℕ × ℕ) → counted_of counted part ≡ Some x → slice_get counted part ≡ Some (Some x)
counted_there counted part x is = by (slice_get counted part) refl
  where
    by : (found : Option (Option (ℕ × ℕ))) → slice_get counted part ≡ found → found ≡ Some (Some x)
    by (Some y) at = ap Some (sym (get_or_from_slice_get counted part y None at) ∙ is)
    by None at = absurd (none_is_some (sym (ap (λ (found : Option (Option (ℕ × ℕ))). unwrap_or found None) at) ∙ unwrap_or-slice_get counted part None ∙ is))

-- what a router counted of a part from a Map-Server, if it has it in its list
abbrev counted_of_rounds : ℕ → Option Rounds → Option (ℕ × ℕ)
counted_of_rounds part found = counted_of (unwrap_or (option_map (λ (rs : Rounds). rs.acked) found) []) part

-- part by part a router counted what the trace counts
counts_part : (T : List Step) (router server : ℕ) (rs : Rounds) → StandsForRounds T router server rs → (part : ℕ) → counted_of rs.acked part ≡ counted_of (map (acked T router server) part_numbers) part
counts_part T router server rs stands part =
    ap (λ (counted : List (Option (ℕ × ℕ))). counted_of counted part) (list_by_parts (acked T router server) rs.acked stands.acked_parts stands.acked)

-- of two lists of one length, what is behind the end of one is behind that of the other
both_past : {X Y : Type 0} (xs : List X) (ys : List Y) (k : ℕ) → length xs ≡ length ys → slice_get ys k ≡ None → slice_get xs k ≡ None
both_past [] ys k count past = refl
both_past (x ∷ xs) [] k count past = absurd (omega (arith, count))
both_past (x ∷ xs) (y ∷ ys) zero count past = absurd (none_is_some (sym past))
both_past (x ∷ xs) (y ∷ ys) (suc k) count past = both_past xs ys k (omega (arith, count)) past

module _ (w : WorldState) (o : Opening) (T : List Step) (stand : Stands w o T) where
  -- what is so of the node of a router, by its place among the routers, is so of the router
  abbrev place : ℕ → ℕ
  place router = router - length w.servers

  numbered : (router : ℕ) → nat_lt router (length w.servers) ≡ false → length o.config.servers + place router ≡ router
  numbered router past =
      let behind = ltb-false router (length w.servers) past in
      let count = stand.steps.servers in
      omega (arith, behind, count)

  -- a router that is up
  up_part : (router : ℕ) (etr : EtrState) → etr_at w router ≡ Some etr → StandsForEtr o T router etr
  up_part router etr is_up = by (nat_lt router (length w.servers)) refl is_up
    where
      of_core : (r : ℕ) (core : RouterCoreState) → StandsForCore o T r core → up_in core ≡ Some etr → StandsForEtr o T r etr
      of_core r (Up e) part is = subst (λ (e : EtrState). StandsForEtr o T r e) (same_some e etr is) part
      of_core r (Down config database) part is = absurd (none_is_some is)

      of_node : (found : Option RouterNodeState) → slice_get w.routers (place router) ≡ found → option_and_then (λ (n : RouterNodeState). up_in n.core) found ≡ Some etr
          → StandsForEtr o T (length o.config.servers + place router) etr
      of_node (Some n) at is = of_core (length o.config.servers + place router) n.core (stand.routers (place router) n at).core is
      of_node None at is = absurd (none_is_some is)

      by : (b : Bool) → nat_lt router (length w.servers) ≡ b
          → option_and_then (λ (n : RouterNodeState). up_in n.core) (if b then None else slice_get w.routers (place router)) ≡ Some etr → StandsForEtr o T router etr
      by true before is = absurd (none_is_some is)
      by false past is = subst (λ (r : ℕ). StandsForEtr o T r etr) (numbered router past) (of_node (slice_get w.routers (place router)) refl is)

  -- counted what the trace counts, from each Map-Server of its list, and nothing behind its end
  pub counts_so : (router : ℕ) (etr : EtrState) → etr_at w router ≡ Some etr → (k : ℕ)
      → (part : ℕ) → counted_of (acked_at etr.rounds k) part ≡ counted_at o.config T router k part
  counts_so router etr is_up k part = by (slice_get (router_at o.config router).servers k) refl
    where
      its_part : StandsForEtr o T router etr
      its_part = up_part router etr is_up

      by : (found : Option ℕ) → slice_get (router_at o.config router).servers k ≡ found
          → counted_of_rounds part (slice_get etr.rounds k) ≡ option_and_then (λ (server : ℕ). counted_of (map (acked T router server) part_numbers) part) found
      by None past = ap (counted_of_rounds part) (both_past etr.rounds (router_at o.config router).servers k its_part.count past) ∙ get_or_past [] part None (omega arith)
      by (Some server) listed =
          let low = slice_get_within (router_at o.config router).servers k server listed in
          let count = its_part.count in
          let its = get_within etr.rounds k (omega (arith, low, count)) in
          ap (counted_of_rounds part) its.1 ∙ counts_part T router server its.0 (its_part.rounds k server its.0 listed its.1) part

  -- one that isn't up has no number of a router, or is down
  pub router_missing : (router : ℕ) → etr_at w router ≡ None → (is_router o.config router ≡ false) ⊎ (is_up T router ≡ false)
  router_missing router none = by (is_router o.config router) refl
    where
      of_core : (r : ℕ) (core : RouterCoreState) → StandsForCore o T r core → up_in core ≡ None → is_up T r ≡ false
      of_core r (Up e) part is = absurd (none_is_some (sym is))
      of_core r (Down config database) part is = part.0

      of_node : (found : Option RouterNodeState) → slice_get w.routers (place router) ≡ found → place router < length w.routers → option_and_then (λ (n : RouterNodeState). up_in n.core) found ≡ None
          → is_up T (length o.config.servers + place router) ≡ false
      of_node (Some n) at within is = of_core (length o.config.servers + place router) n.core (stand.routers (place router) n at).core is
      of_node None at within is = absurd (none_is_some (sym at ∙ (get_within w.routers (place router) within).1))

      behind : (b : Bool) → nat_lt router (length w.servers) ≡ b → length o.config.servers ≤ router → router < length o.config.servers + length o.config.routers
          → option_and_then (λ (n : RouterNodeState). up_in n.core) (if b then None else slice_get w.routers (place router)) ≡ None → is_up T router ≡ false
      behind true before least most is =
          let low = ltb-true router (length w.servers) before in
          let count = stand.steps.servers in
          absurd (omega (arith, low, count, least))
      behind false past least most is =
          let count = stand.steps.servers in
          let routers = stand.steps.routers in
          subst (λ (r : ℕ). is_up T r ≡ false) (numbered router past) (of_node (slice_get w.routers (place router)) refl (omega (arith, count, routers, least, most)) is)

      by : (b : Bool) → is_router o.config router ≡ b → (is_router o.config router ≡ false) ⊎ (is_up T router ≡ false)
      by false is = inl is
      by true is =
          let both = router_bounds o.config router is in
          inr (behind (nat_lt router (length w.servers)) refl both.0 both.1 none)

  -- nor has one a number of a Map-Server
  pub server_missing : (server : ℕ) → server_at w server ≡ None → is_server o.config server ≡ false
  server_missing server none = by (is_server o.config server) refl
    where
      by : (b : Bool) → is_server o.config server ≡ b → b ≡ false
      by false past = refl
      by true below =
          let count = stand.steps.servers in
          let its = get_within w.servers server (omega (arith, count, ltb-true server (length o.config.servers) below)) in
          absurd (none_is_some (sym none ∙ ap (option_map (λ (n : ServerNodeState). n.core)) its.1))

-- what a Map-Server lists
pub lists : (w : WorldState) (server : ℕ) (listed : List RowValue) (core : ServerState) (now : ℕ) → server_at w server ≡ Some core → now ≡ w.clock → IsHeld core.rows now listed → Lists w server listed
lists w server listed core now serves clock holds = record { core = core; running = serves; held = subst (λ (moment : ℕ). IsHeld core.rows moment listed) clock holds }

-- what its nodes told is as promised
module _ (c : ConfigValue) (events : List EventValue) (w : WorldState) (ran : HasRun c events w) (question : Question) where
  module _ (listed listed_by_other : List RowValue) (one : Lists w question.server listed) (other : Lists w question.other listed_by_other)
      (etr : EtrState) (is_up : etr_at w question.router ≡ Some etr) (counted : Option (ℕ × ℕ)) (told : counted ≡ counted_of (acked_at etr.rounds question.place) question.part) where
    over_clean : OverClean w ran.opening ran.trace → IsPromisedOverClean ran.opening ran.trace question listed listed_by_other counted
    over_clean promised =
        let legal = ran.stands.steps.legal in
        let network = ran.stands.steps.network in
        record {
          accepted_were_sent = accepted_were_sent ran.opening ran.trace promised.accepted_was_sent;
          registered = λ row has. row_registered question.server row (promised.listed_was_sent question.server listed one row has);
          registered_at_other = λ row has. row_registered question.other row (promised.listed_was_sent question.other listed_by_other other row has);
          agree = agree w ran.opening ran.trace legal network promised.listed_was_sent promised.listed_agree question.server question.other listed listed_by_other one other;
          counted_was_accepted = λ key nonce server is_place is.
              was_counted ran.opening ran.trace legal network promised.accepted_was_sent question.router server question.part key nonce
              (promised.counts_are_accepted question.router question.place question.part key nonce server is_place
              (record { core = etr; running = is_up; counted = counted_there (acked_at etr.rounds question.place) question.part (key, nonce) (sym told ∙ is) }));
          counted_were_accepted = counted_were_accepted ran.opening ran.trace legal network promised.accepted_was_sent promised.counted_was_accepted;
          done = done_was_noticed ran.opening ran.trace promised.done_was_noticed;
        }
      where
        row_registered : (server : ℕ) (row : RowValue) → (e : SentRegister) × IsSentRow ran.opening ran.trace server row e → WasRegistered ran.opening ran.trace server row
        row_registered server row sent = registered ran.opening ran.trace ran.stands.steps.legal server row sent.0 sent.1

    pub promised : IsPromised c events question listed listed_by_other counted
    promised =
        let headline = ran.promises ran.opening ran.trace ran.stands in
        record {
          opening = ran.opening;
          config = ran.config;
          nothing_kept = ran.nothing_kept;
          trace = ran.trace;
          legal = ran.stands.steps.legal;
          events_are = ran.events_are;
          held = headline.listed_is_held question.server listed one;
          held_by_other = headline.listed_is_held question.other listed_by_other other;
          counts = subst (λ (d : ConfigValue). counted ≡ counted_at d ran.trace question.router question.place question.part) ran.config
              (told ∙ counts_so w ran.opening ran.trace ran.stands question.router etr is_up question.place question.part);
          nonces_rise = nonces_rise ran.opening ran.trace ran.stands.steps.legal headline.nonces_rise;
          replays_are_tried = replays_are_tried ran.opening ran.nothing_kept ran.trace headline.replays_are_tried;
          notice_nonces_rise = notice_nonces_rise ran.trace headline.notice_nonces_rise;
          over_clean = λ clean. over_clean (headline.over_clean clean);
        }

-- or a node isn't there
pub not_there : (c : ConfigValue) (events : List EventValue) (w : WorldState) → (ran : HasRun c events w) → (question : Question)
    → (server_at w question.server ≡ None) ⊎ (server_at w question.other ≡ None) ⊎ (etr_at w question.router ≡ None) → IsNotThere c events question
not_there c events w ran question none = record { network = w; ran = ran; missing = subst Missing ran.config (by none) }
  where
    Missing : ConfigValue → Type 0
    Missing d = (is_server d question.server ≡ false) ⊎ (is_server d question.other ≡ false) ⊎ (is_router d question.router ≡ false) ⊎ (is_up ran.trace question.router ≡ false)

    by : (server_at w question.server ≡ None) ⊎ (server_at w question.other ≡ None) ⊎ (etr_at w question.router ≡ None) → Missing ran.opening.config
    by (inl none) = inl (server_missing w ran.opening ran.trace ran.stands question.server none)
    by (inr (inl none)) = inr (inl (server_missing w ran.opening ran.trace ran.stands question.other none))
    by (inr (inr none)) = inr (inr (router_missing w ran.opening ran.trace ran.stands question.router none))

-- what is so of a result's value, and of a fault
pub at_value : {X F : Type 0} (r : Result X F) (P : X → Type 0) (x : X) → ◌≡◌ {A = Option X} (Some x) (result_ok r) → IfOk r P → P x
at_value (Ok y) P x is holds = let same : y ≡ x = cc in subst P same holds
at_value (Err fault) P x is holds = absurd (none_is_some (sym is))

pub at_fault : {X F : Type 0} (r : Result X F) (P : Type 0) → ◌≡◌ {A = Option X} None (result_ok r) → OnErr r P → P
at_fault (Ok x) P is holds = absurd (none_is_some is)
at_fault (Err fault) P is holds = holds

-- what is so of no value, and what follows from it
pub if_none : {X : Type 0} (o : Option X) (P : Type 0) → P → IfNone o P
if_none (Some x) P is = tt
if_none None P is = is

pub none_more : {X : Type 0} (o : Option X) (P Q : Type 0) → (P → Q) → IfNone o P → IfNone o Q
none_more (Some x) P Q follows is = tt
none_more None P Q follows is = follows is

-- what follows from it for each value
pub if_some : {X : Type 0} (o : Option X) (P Q : X → Type 0) → ((x : X) → P x → Q x) → IfSome o P → IfSome o Q
if_some (Some x) P Q follows is = follows x is
if_some None P Q follows is = tt

-- why a client is told nothing by a network that took the events
pub unheard : (memory : Type 0) (c : ConfigValue) (events : List EventValue) (w : WorldState) → HasRun c events w → (question : Question)
    → memory ⊎ ((c : ConfigValue) (events : List EventValue) → HasRun c events w → IsNotThere c events question) → IsUntold memory c events question
unheard memory c events w ran question (inl out) = inl (inr (inr out))
unheard memory c events w ran question (inr none) = inr (none c events ran)
