-- What a legal step leaves of the values that a router's store keeps for its own nonces, under each of its keys.
use Rattle.std.proofs.Common.{arith, ◌≡◌, ℕ, ◌+◌, ◌<◌, false, List, Option, refl, sym, ap, subst, ◌∙◌, ◌≤◌, Bool, true, [], ◌∷◌, ◌++◌, length, Some, None, inl, inr, zero, suc, map, get_or, true≢false, Ok}
use Rattle.std.specs.Prelude.{◌≢◌, ◌⊎◌, ◌==◌, if◌then◌else◌, position, ◌&&◌, nat_lt, nat_le, slice_get, Result}
use Rattle.std.specs.List.{Contains, position_or_len}
use Rattle.std.proofs.lemmas.List.Elements.{Contains-append_cases, Contains-append_left, Contains-append_right}
use Rattle.std.proofs.lemmas.Bool.Decides.{Decides-eqb}
use Rattle.lisp_nonces.specs.declared.pair.Pair.{Pair}
use Rattle.lisp_nonces.specs.Kept.{number, InDoubt, Kept, kept_at}
use Rattle.lisp_etr.specs.Sending.{block_end, last_nonce}
use Rattle.lisp_etr.proofs.SafeLaws.{block_bound}
use Rattle.lisp_records.specs.Record.{MapRecordValue}
use Rattle.lisp_model.specs.Trace.{Opening, key as key_of, etr_config, router_at, EventValue, Step, key_after, shown_store, database, ShownStore, is_up, up_after, clock, database_after, is_server, is_router, is_listed, Event, Fate, Line, Refusal}
use Rattle.lisp_model.specs.Context.{Context, values, values_after, IsBase, Saves, IsAtNoNode, its_sites, StoreFault}
use Rattle.lisp_model.specs.Sending.{CountsFrom, pair_at, RefusesToSend, IsSent, last_sent, last_sent_after, start_values, start_values_after, HasPart, SendFault}
use Rattle.lisp_model.specs.Keys.{keys_since_loss, keys_since_loss_after, keys_before_loss, keys_before_loss_after}
use Rattle.lisp_model.specs.History.{SentRegister, sent_registers_in, history}
use Rattle.lisp_model.specs.Rotating.{IsRotated, IsLost}
use Rattle.lisp_model.specs.Legal.{MayCome, Legal, LegalTrace, context_of, Arrives}
use Rattle.lisp_model.proofs.Rows.{touches, Untouched, GoesOn, Refusing, Following, Tells, tells, goes_on, changes}
use Rattle.lisp_model.proofs.KeptLemmas.{only_value}
use Rattle.lisp_model.proofs.ListLemmas.{at_head, head_or_tail, in_none, in_tail, only, cases, err_clash}
use Rattle.lisp_model.proofs.HeardLines.{IsBy, Passes, comes_to}
use Rattle.lisp_model.proofs.Locality.{same_number, other_number, key_other, since_loss_other, before_loss_other, last_sent_other, start_values_other, of_each, up_other, database_other}
use Rattle.std.proofs.lemmas.Bool.{lt-ltb, and_parts, ltb-true, leb-true, le-leb}
use Rattle.std.proofs.lemmas.List.Quantifiers.{position-Some}
use Rattle.std.proofs.lemmas.List.Sums.{fails_before_first}
use Rattle.lisp_records.specs.Parts.{most_parts, part_count}
use Rattle.lisp_etr.specs.Rounds.{is_latest, part_with}
use Rattle.lisp_model.specs.Counted.{latest_nonce, latest_nonces, latest_nonce_after}
use Rattle.lisp_model.specs.Numbers.{numbers_from, numbers_below}
use Rattle.lisp_model.specs.Timers.{RoundTimes, with_renewal, round, round_after, Notice}
use Rattle.lisp_model.specs.Promises.{AbsentPartsRest}
use Rattle.std.specs.Option.{option_map}
use Rattle.std.proofs.lemmas.Option.{none-some}
use Rattle.std.proofs.Math.Logic.{⊎_map}
use Rattle.lisp_etr.specs.Hearing.{ServerNotify, first_notice}
use Rattle.lisp_messages.specs.Message.{MessageValue, MapRegisterValue, MapNotifyValue, Registers, Notifies}
use Rattle.lisp_policy.specs.Configuration.{ConfigValue}
use Rattle.lisp_admission.specs.Checks.{most_jump_at, most_routers_at, most_rows_at}
use Rattle.lisp_lookup.proofs.GrowthLaws.{full_or_fits}
use Rattle.lisp_admission.specs.Nonces.{IsNear, IsFar}
use Rattle.lisp_admission.specs.Pairs.{pair_of}
use Rattle.lisp_model.specs.Hearing.{Hears, counted_line, counted_or_stale, heard_line, NotifyFault}
use Rattle.lisp_model.specs.Must.{is_counted, is_noticed, Must, MustSend, IsExcused, Follows, is_sent, is_accepted, is_done, Excuse, DeviceFailed}
use Rattle.lisp_model.specs.Bag.{Item, Arrival, arrival_of, arrival_in, junk_arrival, bag, ReadFault}
use Rattle.lisp_model.specs.Receiving.{Admits, HasSpace, LacksSpace, rows_before, rows_with, last_in, awaiting, has_tag_for, RefusesMessage, RefusesAck, FailsNotify, FailsCheck, Refused}
use Rattle.lisp_model.specs.Memory.{is_store_memory, MayTell}
use Rattle.lisp_nonces.specs.declared.pair.PairKind.{PairKind}
use Rattle.lisp_etr.specs.declared.start_fault.StartFault.{StartFault}

-- what the nonces of a router under a key are kept for
abbrev pub pair_under : Opening → ℕ → ℕ → Pair
pair_under o router key = record { kind = PairKind.Sent; router = (router_at o.config router).me; key = key }

-- what the store of the router that acts keeps for a key before, and after
abbrev pub key_values : Context → ℕ → List (Option ℕ)
key_values t key = values t (pair_under t.opening t.node key)

abbrev pub key_values_after : Context → ℕ → List (Option ℕ)
key_values_after t key = values_after t (pair_under t.opening t.node key)

-- its key before; what is kept for that
abbrev pub own_key : Context → ℕ
own_key t = key_of t.opening t.past t.node

abbrev pub own_values : Context → List (Option ℕ)
own_values t = key_values t (own_key t)

abbrev pub own_values_after : Context → List (Option ℕ)
own_values_after t = key_values_after t (own_key t)

-- the values of a key are as they were; those of each; those of each but the router's
abbrev pub SameAt : Context → ℕ → Type 0
SameAt t key = key_values_after t key ≡ key_values t key

abbrev pub SameKeys : Context → Type 0
SameKeys t = (key : ℕ) → SameAt t key

abbrev pub SameOtherKeys : Context → Type 0
SameOtherKeys t = (key : ℕ) → key ≢ own_key t → SameAt t key

-- a nonce above the number that the router counts from may have been saved
pub record Doubts (t : Context) : Type 0 where
  pub base : Option ℕ
  pub counts : CountsFrom t.opening t.past t.node base
  pub nonce : ℕ
  pub above : number base < nonce
  pub doubt : InDoubt (own_values t) (own_values_after t) nonce
  pub others : SameOtherKeys t

-- the values are as they were, or a nonce is in doubt
abbrev pub Stays : Context → Type 0
Stays t = SameKeys t ⊎ Doubts t

module _ (t : Context) where
  -- the pair of another key is another one
  pub not_own : (router : ℕ) → t.node ≡ router → (key : ℕ) → key ≢ own_key t → pair_under t.opening t.node key ≢ pair_at t.opening t.past router
  not_own router is key differ e = differ (ap (λ (x : Pair). x.key) e ∙ ap (key_of t.opening t.past) (sym is))

  -- a line that leaves the values of routers
  pub same_keys : (line : Line) → Untouched t line → touches PairKind.Sent line ≡ false → SameKeys t
  same_keys line stays none key = stays.kept PairKind.Sent none (pair_under t.opening t.node key) refl

  -- a Map-Register couldn't be saved
  pub not_saved : (router server part : ℕ) (fault : StoreFault) → t.node ≡ router → RefusesToSend t router server part (SendFault.Store fault) → Doubts t
  not_saved router server part fault is row = record {
    base = row.1.base;
    counts = subst (λ (n : ℕ). CountsFrom t.opening t.past n row.1.base) (sym is) row.1.counts;
    nonce = block_end (number row.1.base + 1) (etr_config t.opening t.past router).nonce_block;
    above = (let bound = block_bound (number row.1.base + 1) (etr_config t.opening t.past router).nonce_block (let left = row.1.left in omega (arith, left)) in let least = bound.least in omega (arith, least));
    doubt = subst (λ (n : ℕ). InDoubt (values t (pair_at t.opening t.past n)) (values_after t (pair_at t.opening t.past n)) (block_end (number row.1.base + 1) (etr_config t.opening t.past router).nonce_block)) (sym is) row.1.fails.here;
    others = λ key differ. row.1.fails.others (pair_under t.opening t.node key) (not_own router is key differ);
  }

-- No router uses a nonce twice under one key.

-- a router's key; the keys that it used since its store was lost, and before; the nonce of its last entry; what its store
-- kept at its start; and what the store keeps
record Keyed : Type 0 where
  key : ℕ
  since : List ℕ
  before : List ℕ
  last : Option ℕ
  start : List (Option ℕ)
  kept : Kept

abbrev keyed_at : Opening → List Step → ℕ → Keyed
keyed_at o T r = record { key = key_of o T r; since = keys_since_loss o T r; before = keys_before_loss o T r; last = last_sent T r; start = start_values o T r; kept = (shown_store o T r).kept }

-- each entry of the router is under a key that it used. No number that the store keeps for a key that was used since the
-- loss is below the nonce of an entry under that key; nor is one that the next nonce counts from, for the present key
record Sound (o : Opening) (r : ℕ) (entries : List SentRegister) (k : Keyed) : Type 0 where
  floor : (key : ℕ) → Contains k.since key → (e : SentRegister) → Contains entries e → e.router ≡ r → e.key ≡ key → (v : Option ℕ) → Contains (kept_at k.kept (pair_under o r key)) v → e.nonce ≤ number v
  below : (base : Option ℕ) → IsBase k.last k.start base → (e : SentRegister) → Contains entries e → e.router ≡ r → e.key ≡ k.key → e.nonce ≤ number base
  used : (e : SentRegister) → Contains entries e → e.router ≡ r → Contains (k.since ++ k.before) e.key
  here : Contains k.since k.key

-- before a step, and after it
abbrev keyed : Context → Keyed
keyed t = record { key = own_key t; since = keys_since_loss t.opening t.past t.node; before = keys_before_loss t.opening t.past t.node; last = last_sent t.past t.node; start = start_values t.opening t.past t.node; kept = t.before.kept }

abbrev keyed_after : Context → EventValue → Line → Keyed
keyed_after t e line = record {
  key = key_after e line t.node (own_key t);
  since = keys_since_loss_after e line t.node (keys_since_loss t.opening t.past t.node);
  before = keys_before_loss_after e t.node (keys_since_loss t.opening t.past t.node) (keys_before_loss t.opening t.past t.node);
  last = last_sent_after line t.node (last_sent t.past t.node);
  start = start_values_after line (key_values_after t (key_after e line t.node (own_key t))) t.node (start_values t.opening t.past t.node);
  kept = t.after.kept;
}

module _ (t : Context) (was : Sound t.opening t.node (history t.opening t.past) (keyed t)) where
  abbrev Then : Keyed → Type 0
  Then k = Sound t.opening t.node (history t.opening t.past) k

  abbrev Still : Type 0
  Still = Then (record (keyed t) { kept = t.after.kept })

  narrower : ((key : ℕ) (v : Option ℕ) → Contains (key_values_after t key) v → Contains (key_values t key) v) → Still
  narrower each = record { floor = λ key is e has its under v in_it. was.floor key is e has its under v (each key v in_it); below = was.below; used = was.used; here = was.here }

  same_in : (key : ℕ) → SameAt t key → (v : Option ℕ) → Contains (key_values_after t key) v → Contains (key_values t key) v
  same_in key same v has = subst (λ (vs : List (Option ℕ)). Contains vs v) same has

  -- a nonce is in doubt: it is above those of the entries under the router's key
  module _ (saved : Doubts t) where
    own_floor : InDoubt (own_values t) (own_values_after t) saved.nonce → (e : SentRegister) → Contains (history t.opening t.past) e → e.router ≡ t.node → e.key ≡ own_key t → (v : Option ℕ) → Contains (own_values_after t) v → e.nonce ≤ number v
    own_floor (inl same) e has its under v in_it = was.floor (own_key t) was.here e has its under v (same_in (own_key t) same v in_it)
    own_floor (inr more) e has its under v in_it = cases (Contains-append_cases (own_values t) (Some saved.nonce ∷ []) v (subst (λ (vs : List (Option ℕ)). Contains vs v) more in_it))
        (λ old. was.floor (own_key t) was.here e has its under v old)
        (λ one. let low = was.below saved.base saved.counts e has its under in let above = saved.above in subst (λ (w : Option ℕ). e.nonce ≤ number w) (sym (only_value (Some saved.nonce) v one)) (omega (arith, low, above)))

    doubts : Still
    doubts = record { floor = λ key is e has its under v in_it. at key is e has its under v in_it (key == own_key t) refl; below = was.below; used = was.used; here = was.here }
      where
        at : (key : ℕ) → Contains (keys_since_loss t.opening t.past t.node) key → (e : SentRegister) → Contains (history t.opening t.past) e → e.router ≡ t.node → e.key ≡ key → (v : Option ℕ) → Contains (key_values_after t key) v → (b : Bool) → (key == own_key t) ≡ b → e.nonce ≤ number v
        at key is e has its under v in_it true same =
            let own : key ≡ own_key t = (Decides-eqb key (own_key t)).0 same in
            own_floor saved.doubt e has its (under ∙ own) v (subst (λ (k : ℕ). Contains (key_values_after t k) v) own in_it)
        at key is e has its under v in_it false other = was.floor key is e has its under v (same_in key (saved.others key (differs key other)) v in_it)
          where
            differs : (k : ℕ) → (k == own_key t) ≡ false → k ≢ own_key t
            differs k other own = let clash : true ≡ false = sym ((Decides-eqb k (own_key t)).1 own) ∙ other in absurd cc

  abbrev After : EventValue → Line → Type 0
  After e line = Sound t.opening t.node (sent_registers_in t.opening t.past line ++ history t.opening t.past) (keyed_after t e line)

  names_node : (named router : ℕ) → named ≡ router → t.node ≡ router → (named == t.node) ≡ true
  names_node named router names acts = ap (λ x. x == t.node) (names ∙ sym acts) ∙ same_number t.node

  -- every entry of the router under its key has a lower nonce than the next one
  sent_above : (router server part key nonce datagram : ℕ) → IsSent t router server part key nonce datagram → (f : SentRegister) → Contains (history t.opening t.past) f → f.router ≡ router → f.key ≡ key → f.nonce < nonce
  sent_above router server part key nonce datagram row f has its under =
      let low = was.below row.base (subst (λ (n : ℕ). CountsFrom t.opening t.past n row.base) (sym row.acts.acts) row.counts) f has (its ∙ sym row.acts.acts) (under ∙ row.under ∙ ap (key_of t.opening t.past) (sym row.acts.acts)) in
      let next = row.next in
      omega (arith, low, next)

  -- a Map-Register went out
  module _ (r s p key nonce datagram router server part : ℕ) (names : r ≡ router) (row : IsSent t router server part key nonce datagram) where
    abbrev one : SentRegister
    one = record { router = r; key = key; nonce = nonce; server = s; database = database t.opening t.past r; part = p; position = length t.past }

    own : key ≡ own_key t
    own = row.under ∙ ap (key_of t.opening t.past) (sym row.acts.acts)

    at_most : (e : SentRegister) → Contains (one ∷ history t.opening t.past) e → e.router ≡ t.node → e.key ≡ own_key t → e.nonce ≤ nonce
    at_most e has its under = cases (head_or_tail one (history t.opening t.past) e has)
        (λ same. let number = ap (λ (x : SentRegister). x.nonce) same in omega (arith, number))
        (λ old. let low = sent_above router server part key nonce datagram row e old (its ∙ row.acts.acts) (under ∙ sym own) in omega (arith, low))

    sent_floor : (k : ℕ) → Contains (keys_since_loss t.opening t.past t.node) k → (e : SentRegister) → Contains (one ∷ history t.opening t.past) e → e.router ≡ t.node → e.key ≡ k → (v : Option ℕ) → Contains (key_values_after t k) v → (b : Bool) → (k == own_key t) ≡ b → e.nonce ≤ number v
    sent_floor k is e has its under v in_it true same =
        let mine : k ≡ own_key t = (Decides-eqb k (own_key t)).0 same in
        let low = at_most e has its (under ∙ mine) in
        let high = row.saves.none_below v (subst (λ (n : ℕ). Contains (values_after t (pair_at t.opening t.past n)) v) row.acts.acts (subst (λ (x : ℕ). Contains (key_values_after t x) v) mine in_it)) in
        omega (arith, low, high)
    sent_floor k is e has its under v in_it false other = cases (head_or_tail one (history t.opening t.past) e has)
        (λ same. absurd (differs (sym under ∙ ap (λ (x : SentRegister). x.key) same ∙ own)))
        (λ old. was.floor k is e old its under v (same_in k (row.saves.others (pair_under t.opening t.node k) (not_own t router row.acts.acts k differs)) v in_it))
      where
        differs : k ≢ own_key t
        differs mine = let clash : true ≡ false = sym ((Decides-eqb k (own_key t)).1 mine) ∙ other in absurd cc

    sends_on : Sound t.opening t.node (one ∷ history t.opening t.past) (record (keyed t) { last = if r == t.node then Some nonce else last_sent t.past t.node; kept = t.after.kept })
    sends_on = subst (λ (b : Bool). Sound t.opening t.node (one ∷ history t.opening t.past) (record (keyed t) { last = if b then Some nonce else last_sent t.past t.node; kept = t.after.kept })) (sym (names_node r router names row.acts.acts)) (record {
      floor = λ k is e has its under v in_it. sent_floor k is e has its under v in_it (k == own_key t) refl;
      below = λ base is e has its under. subst (λ (b : Option ℕ). e.nonce ≤ number b) (sym is) (at_most e has its under);
      used = λ e has its. cases (head_or_tail one (history t.opening t.past) e has)
          (λ same. Contains-append_left (keys_since_loss t.opening t.past t.node) (keys_before_loss t.opening t.past t.node) e.key (subst (λ (k : ℕ). Contains (keys_since_loss t.opening t.past t.node) k) (sym (ap (λ (x : SentRegister). x.key) same ∙ own)) was.here))
          (λ old. was.used e old its);
      here = was.here;
    })

  -- the router started again
  restarts_on : (named : ℕ) → named ≡ t.node → ((key : ℕ) (v : Option ℕ) → Contains (key_values_after t key) v → Contains (key_values t key) v)
      → Then (record (keyed t) { last = if named == t.node then None else last_sent t.past t.node; start = if named == t.node then own_values_after t else start_values t.opening t.past t.node; kept = t.after.kept })
  restarts_on named is each = subst (λ (b : Bool). Then (record (keyed t) { last = if b then None else last_sent t.past t.node; start = if b then own_values_after t else start_values t.opening t.past t.node; kept = t.after.kept }))
      (sym (ap (λ x. x == t.node) is ∙ same_number t.node))
      (record { floor = (narrower each).floor; below = λ base has e in_it its under. was.floor (own_key t) was.here e in_it its under base (each (own_key t) base has); used = was.used; here = was.here })

  -- it went over to another key
  module _ (router key named under : ℕ) (row : IsRotated t router key named under) where
    same_after : (k : ℕ) → SameAt t k
    same_after k = ap (λ (x : Kept). kept_at x (pair_under t.opening t.node k)) row.same

    new_floor : (e : SentRegister) → Contains (history t.opening t.past) e → e.router ≡ t.node → e.key ≡ key → (v : Option ℕ) → Contains (key_values_after t key) v → e.nonce ≤ number v
    new_floor e has its is v in_it = cases (Contains-append_cases (keys_since_loss t.opening t.past t.node) (keys_before_loss t.opening t.past t.node) e.key (was.used e has its))
        (λ in_since. was.floor key (subst (λ (k : ℕ). Contains (keys_since_loss t.opening t.past t.node) k) is in_since) e has its is v (same_in key (same_after key) v in_it))
        (λ in_before. absurd (row.may.unused (subst (λ (n : ℕ). Contains (keys_before_loss t.opening t.past n) key) row.acts.acts (subst (λ (k : ℕ). Contains (keys_before_loss t.opening t.past t.node) k) is in_before))))

    abbrev rotated : Bool → Bool → Keyed
    rotated a b = record {
      key = if a then key else own_key t;
      since = if a then key ∷ keys_since_loss t.opening t.past t.node else keys_since_loss t.opening t.past t.node;
      before = keys_before_loss t.opening t.past t.node;
      last = if b then None else last_sent t.past t.node;
      start = if b then key_values_after t (if a then key else own_key t) else start_values t.opening t.past t.node;
      kept = t.after.kept;
    }

    rotates_on : Then (rotated (router == t.node) (named == t.node))
    rotates_on = subst (λ (a : Bool). Then (rotated a (named == t.node))) (sym (names_node router router refl row.acts.acts))
        (subst (λ (b : Bool). Then (rotated true b)) (sym (names_node named router row.names row.acts.acts)) (record {
          floor = λ k is e has its of v in_it. at k e has its of v in_it (head_or_tail key (keys_since_loss t.opening t.past t.node) k is);
          below = λ base has e in_it its of. new_floor e in_it its of base has;
          used = λ e has its. in_tail key (keys_since_loss t.opening t.past t.node ++ keys_before_loss t.opening t.past t.node) e.key (was.used e has its);
          here = at_head key (keys_since_loss t.opening t.past t.node);
        }))
      where
        at : (k : ℕ) → (e : SentRegister) → Contains (history t.opening t.past) e → e.router ≡ t.node → e.key ≡ k → (v : Option ℕ) → Contains (key_values_after t k) v → (k ≡ key) ⊎ Contains (keys_since_loss t.opening t.past t.node) k → e.nonce ≤ number v
        at k e has its of v in_it (inl same) = new_floor e has its (of ∙ same) v (subst (λ (x : ℕ). Contains (key_values_after t x) v) same in_it)
        at k e has its of v in_it (inr old) = was.floor k old e has its of v (same_in k (same_after k) v in_it)

  -- its store was lost: no entry is under its new key
  module _ (router key : ℕ) (db : Option (List MapRecordValue)) (row : IsLost t router key db) where
    none_under : (e : SentRegister) → Contains (history t.opening t.past) e → e.router ≡ t.node → e.key ≡ key → ⊥
    none_under e has its is = row.may.unused (subst (λ (n : ℕ). Contains (keys_since_loss t.opening t.past n ++ keys_before_loss t.opening t.past n) key) row.acts
        (subst (λ (k : ℕ). Contains (keys_since_loss t.opening t.past t.node ++ keys_before_loss t.opening t.past t.node) k) is (was.used e has its)))

    abbrev lost : Bool → Option ℕ → List (Option ℕ) → Keyed
    lost a last start = record {
      key = if a then key else own_key t;
      since = if a then key ∷ [] else keys_since_loss t.opening t.past t.node;
      before = if a then keys_since_loss t.opening t.past t.node ++ keys_before_loss t.opening t.past t.node else keys_before_loss t.opening t.past t.node;
      last = last;
      start = start;
      kept = t.after.kept;
    }

    loses_on : (last : Option ℕ) (start : List (Option ℕ)) → Then (lost (router == t.node) last start)
    loses_on last start = subst (λ (a : Bool). Then (lost a last start)) (sym (names_node router router refl row.acts)) (record {
      floor = λ k is e has its of v in_it. absurd (none_under e has its (of ∙ only key k is));
      below = λ base counts e has its of. absurd (none_under e has its of);
      used = λ e has its. in_tail key (keys_since_loss t.opening t.past t.node ++ keys_before_loss t.opening t.past t.node) e.key (was.used e has its);
      here = at_head key [];
    })

  -- the router goes on as it was
  goes : (e : EventValue) (line : Line) → GoesOn e line → Still → Then (record (keyed t) {
    key = key_after e line t.node (own_key t);
    since = keys_since_loss_after e line t.node (keys_since_loss t.opening t.past t.node);
    before = keys_before_loss_after e t.node (keys_since_loss t.opening t.past t.node) (keys_before_loss t.opening t.past t.node);
    kept = t.after.kept;
  })
  goes e line on = subst Then (λ i. record (keyed t) {
    key = sym (on.key t.node (own_key t)) i;
    since = sym (on.since_loss t.node (keys_since_loss t.opening t.past t.node)) i;
    before = sym (on.before_loss t.node (keys_since_loss t.opening t.past t.node) (keys_before_loss t.opening t.past t.node)) i;
    kept = t.after.kept;
  })

  -- any legal step of the node
  row_sound : (e : EventValue) (line : Line) → MayCome t e line → Tells t e line → After e line
  row_sound e (Line.Sent r s p key nonce datagram) row told = subst (λ (f : EventValue). After f (Line.Sent r s p key nonce datagram)) told.follows.1 (sends_on r s p key nonce datagram r s p refl told.follows.2)
  row_sound e (Line.Restarted named) row told = subst (λ (f : EventValue). After f (Line.Restarted named)) told.follows.2 (restarts_on named told.by (λ key. (told.follows.3.narrows (pair_under t.opening t.node key)).each))
  row_sound e (Line.Rotated named under) row told = subst (λ (f : EventValue). After f (Line.Rotated named under)) told.follows.1 (rotates_on named under named under told.follows.2)
  row_sound e (Line.Emptied named under) row told = subst (λ (f : EventValue). After f (Line.Emptied named under)) told.follows.1 (loses_on named under told.follows.0 told.follows.2.lost _ _)
  row_sound e (Line.Refused named (Refusal.Start fault)) row told = cases told.follows
      (λ f. subst (λ (x : EventValue). After x (Line.Refused named (Refusal.Start fault))) f.2 (narrower (λ key. (f.3.narrows (pair_under t.opening t.node key)).each)))
      (λ f. subst (λ (x : EventValue). After x (Line.Refused named (Refusal.Start fault))) f.2 (loses_on named f.0 f.1 f.3.lost _ _))
  row_sound e (Line.Refused named (Refusal.Send (SendFault.Store fault))) row told =
      let f = told.follows in
      goes e (Line.Refused named (Refusal.Send (SendFault.Store fault))) (goes_on t e (Line.Refused named (Refusal.Send (SendFault.Store fault))) row refl) (doubts (not_saved t named f.0 f.1 fault (sym told.by) f.4))
  row_sound e line row told = goes e line (goes_on t e line row refl) (narrower (λ key. same_in key (same_keys t line told.stays refl key)))

module _ (o : Opening) where
  abbrev SoundAt : List Step → ℕ → Type 0
  SoundAt T r = Sound o r (history o T) (keyed_at o T r)

  sound_actor : (T : List Step) (s : Step) → Legal o T s → SoundAt T s.actor → SoundAt (s ∷ T) s.actor
  sound_actor T s l old = subst (λ (b : Bool). Sound o s.actor (history o (s ∷ T)) (record (keyed_at o (s ∷ T) s.actor) { kept = (if b then s.shown else shown_store o T s.actor).kept })) (sym (same_number s.actor))
      (row_sound (context_of o T s) old s.event s.line l.row (tells (context_of o T s) s.event s.line l.row))

  -- an entry of another router is an old one
  old_entry : (T : List Step) (line : Line) (node r : ℕ) → r ≢ node → IsBy line node → (e : SentRegister) → Contains (sent_registers_in o T line ++ history o T) e → e.router ≡ r → Contains (history o T) e
  old_entry T (Line.Sent router server part key nonce datagram) node r differ is e has its = cases (head_or_tail _ (history o T) e has)
      (λ same. absurd (differ (sym its ∙ ap (λ (x : SentRegister). x.router) same ∙ is)))
      (λ old. old)
  old_entry T _ node r differ is e has its = has

  module _ (T : List Step) (s : Step) (r : ℕ) (differ : r ≢ s.actor) (l : Legal o T s) where
    by : IsBy s.line s.actor
    by = (tells (context_of o T s) s.event s.line l.row).by

    -- a router that doesn't act
    keyed_other : keyed_at o (s ∷ T) r ≡ keyed_at o T r
    keyed_other =
        let given = (tells (context_of o T s) s.event s.line l.row).named in
        let key_is = key_other s.actor r differ s.event s.line given (key_of o T r) in
        let since_is = since_loss_other s.actor r differ s.event s.line given (keys_since_loss o T r) in
        let before_is = before_loss_other s.actor r differ s.event s.line given (keys_since_loss o T r) (keys_before_loss o T r) in
        let last_is = last_sent_other s.actor r differ s.line by (last_sent T r) in
        let start_is = start_values_other s.actor r differ s.line by (kept_at s.shown.kept (pair_under o r (key_of o (s ∷ T) r))) (start_values o T r) in
        let kept_is = ap (λ (b : Bool). (if b then s.shown else shown_store o T r).kept) (other_number s.actor r (λ e. differ (sym e))) in
        (λ i. record { key = key_is i; since = since_is i; before = before_is i; last = last_is i; start = start_is i; kept = kept_is i })

    sound_other : SoundAt T r → SoundAt (s ∷ T) r
    sound_other old = subst (Sound o r (history o (s ∷ T))) (sym keyed_other) (record {
      floor = λ key is e has its. old.floor key is e (old_entry T s.line s.actor r differ by e has its) its;
      below = λ base counts e has its. old.below base counts e (old_entry T s.line s.actor r differ by e has its) its;
      used = λ e has its. old.used e (old_entry T s.line s.actor r differ by e has its) its;
      here = old.here;
    })

  sound : (T : List Step) → LegalTrace o T → (r : ℕ) → SoundAt T r
  sound [] legal r = record { floor = λ key is e has. absurd (in_none e has); below = λ base counts e has. absurd (in_none e has); used = λ e has. absurd (in_none e has); here = at_head _ [] }
  sound (s ∷ T) legal r = of_each (SoundAt (s ∷ T)) s.actor (sound_actor T s legal.0 (sound T legal.1 s.actor)) (λ k differ. sound_other T s k differ legal.0 (sound T legal.1 k)) r

  -- entries of one router, key and nonce are one
  abbrev pub Unique : List SentRegister → Type 0
  Unique entries = (e f : SentRegister) → Contains entries e → Contains entries f → f.router ≡ e.router → f.key ≡ e.key → f.nonce ≡ e.nonce → f ≡ e

  new_unique : (one : SentRegister) (entries : List SentRegister) → Unique entries → ((f : SentRegister) → Contains entries f → f.router ≡ one.router → f.key ≡ one.key → f.nonce < one.nonce) → Unique (one ∷ entries)
  new_unique one entries old below e f has_e has_f router key nonce = at (head_or_tail one entries e has_e) (head_or_tail one entries f has_f)
    where
      at : (e ≡ one) ⊎ Contains entries e → (f ≡ one) ⊎ Contains entries f → f ≡ e
      at (inl is_e) (inl is_f) = is_f ∙ sym is_e
      at (inl is_e) (inr in_f) = let low = below f in_f (router ∙ ap (λ (x : SentRegister). x.router) is_e) (key ∙ ap (λ (x : SentRegister). x.key) is_e) in let same = ap (λ (x : SentRegister). x.nonce) is_e in absurd (omega (arith, low, same, nonce))
      at (inr in_e) (inl is_f) = let low = below e in_e (sym router ∙ ap (λ (x : SentRegister). x.router) is_f) (sym key ∙ ap (λ (x : SentRegister). x.key) is_f) in let same = ap (λ (x : SentRegister). x.nonce) is_f in absurd (omega (arith, low, same, nonce))
      at (inr in_e) (inr in_f) = old e f in_e in_f router key nonce

  unique_row : (T : List Step) (s : Step) → Legal o T s → SoundAt T s.actor → Unique (history o T) → Unique (history o (s ∷ T))
  unique_row T s l safe old = at s.line (tells (context_of o T s) s.event s.line l.row).follows
    where
      at : (line : Line) → Following (context_of o T s) s.event line → Unique (sent_registers_in o T line ++ history o T)
      at (Line.Sent r to p key nonce datagram) told = new_unique _ (history o T) old (sent_above (context_of o T s) safe r to p key nonce datagram told.2)
      at _ told = old

  pub unique : (T : List Step) → LegalTrace o T → Unique (history o T)
  unique [] legal = λ e f has. absurd (in_none e has)
  unique (s ∷ T) legal = unique_row T s legal.0 (sound T legal.1 s.actor) (unique T legal.1)

-- Of some numbers, part by part, the least part that passes a test; and the last nonces of parts.

module _ (f : ℕ → ℕ) where
  long : (first n : ℕ) → length (map f (numbers_from first n)) ≡ n
  long first zero = refl
  long first (suc n) = ap suc (long (suc first) n)

  get_number : (first n k d : ℕ) → k < n → get_or (map f (numbers_from first n)) k d ≡ f (first + k)
  get_number first zero k d low = absurd (omega (arith, low))
  get_number first (suc n) zero d low = ap f (omega arith)
  get_number first (suc n) (suc k) d low = get_number (suc first) n k d (omega (arith, low)) ∙ ap f (omega arith)

  module _ (p : ℕ → Bool) where
    -- the least place that passes is one of them, and passes
    pub passes_there : (n part : ℕ) → position p (map f (numbers_from 0 n)) ≡ Some part → (part < n) × (p (f part) ≡ true)
    passes_there n part e =
        let found = position-Some p (map f (numbers_from 0 n)) part 0 e in
        let low : part < n = subst (λ (k : ℕ). part < k) (long 0 n) found.0 in
        let same : part ≡ 0 + part = omega arith in
        (low, ap (λ (k : ℕ). p (f k)) same ∙ ap p (sym (get_number 0 n part 0 low)) ∙ found.1)

    -- where one passes, there is a least one
    pub passes_somewhere : (n k : ℕ) → k < n → p (f k) ≡ true → (part : ℕ) × (position p (map f (numbers_from 0 n)) ≡ Some part)
    passes_somewhere n k low e = (position_or_len p (map f (numbers_from 0 n)), rw (lt-ltb (position_or_len p (map f (numbers_from 0 n))) (length (map f (numbers_from 0 n))) inside) refl)
      where
        not_before : ¬ (k < position_or_len p (map f (numbers_from 0 n)))
        not_before before = true≢false (sym (ap p (get_number 0 n k 0 low ∙ ap f (omega arith)) ∙ e) ∙ fails_before_first p (map f (numbers_from 0 n)) k 0 before)

        inside : position_or_len p (map f (numbers_from 0 n)) < length (map f (numbers_from 0 n))
        inside = let size = long 0 n in omega (arith, low, size, not_before)

-- the part that a nonce counts for has it as its latest
pub counted_part : (T : List Step) (router server nonce part : ℕ) → part_with nonce (latest_nonces T router server) ≡ Some part → (part < most_parts) × (is_latest nonce (latest_nonce T router server part) ≡ true)
unfolding numbers_below
counted_part T router server nonce part e = passes_there (latest_nonce T router server) (is_latest nonce) most_parts part e

-- where it is the latest of a part, it counts for some part
pub counts_for_some : (T : List Step) (router server nonce part : ℕ) → part < most_parts → is_latest nonce (latest_nonce T router server part) ≡ true → (other : ℕ) × (part_with nonce (latest_nonces T router server) ≡ Some other)
unfolding numbers_below
counts_for_some T router server nonce part low e = passes_somewhere (latest_nonce T router server) (is_latest nonce) most_parts part low e

-- The latest nonce of a part is that of an entry, under the router's key while it is up.

-- an entry of a router to a server, of a part, under a key, with a nonce
pub record IsEntryOf (entries : List SentRegister) (router server part key nonce : ℕ) : Type 0 where
  pub entry : SentRegister
  pub sent : Contains entries entry
  pub who : entry.router ≡ router
  pub whom : entry.server ≡ server
  pub of : entry.part ≡ part
  pub under : entry.key ≡ key
  pub number : entry.nonce ≡ nonce

-- nothing was sent, or an entry has it
abbrev pub IsLatest : Opening → List SentRegister → ℕ → ℕ → ℕ → ℕ → ℕ → Type 0
IsLatest o entries router server part key nonce = (nonce ≡ 0) ⊎ IsEntryOf entries router server part key nonce

module _ (o : Opening) (T : List Step) (actor : ℕ) (after : ShownStore) (r k p : ℕ) where
  abbrev Was : Type 0
  Was = is_up T r ≡ true → IsLatest o (history o T) r k p (key_of o T r) (latest_nonce T r k p)

  abbrev LatestRow : EventValue → Line → Type 0
  LatestRow e line = MayCome (context_of o T (record { event = e; line = line; actor = actor; shown = after })) e line

  abbrev Now : EventValue → Line → Type 0
  Now e line = up_after e line r (is_up T r) ≡ true
      → IsLatest o (sent_registers_in o T line ++ history o T) r k p (key_after e line r (key_of o T r)) (latest_nonce_after line r k p (latest_nonce T r k p))

  abbrev Telling : EventValue → Line → Type 0
  Telling e line = Tells (context_of o T (record { event = e; line = line; actor = actor; shown = after })) e line

  -- an old entry is still one
  still_latest : (more : List SentRegister) (key nonce : ℕ) → IsLatest o (history o T) r k p key nonce → IsLatest o (more ++ history o T) r k p key nonce
  still_latest more key nonce (inl none) = inl none
  still_latest more key nonce (inr e) = inr (record { entry = e.entry; sent = Contains-append_right more (history o T) e.entry e.sent; who = e.who; whom = e.whom; of = e.of; under = e.under; number = e.number })

  -- a Map-Register goes out
  module _ (router server part key nonce : ℕ) where
    abbrev sent_one : SentRegister
    sent_one = record { router = router; key = key; nonce = nonce; server = server; database = database o T router; part = part; position = length T }

    sent_now : Was → key ≡ key_of o T router → is_up T r ≡ true → (b : Bool) → (router == r && server == k && part == p) ≡ b → IsLatest o (sent_one ∷ history o T) r k p (key_of o T r) (if b then nonce else latest_nonce T r k p)
    sent_now was under up false is = still_latest (sent_one ∷ []) (key_of o T r) (latest_nonce T r k p) (was up)
    sent_now was under up true is =
        let all = and_parts (router == r && server == k) (part == p) is in
        let both = and_parts (router == r) (server == k) all.0 in
        let who : router ≡ r = (Decides-eqb router r).0 both.0 in
        inr (record {
          entry = sent_one;
          sent = at_head sent_one (history o T);
          who = who;
          whom = (Decides-eqb server k).0 both.1;
          of = (Decides-eqb part p).0 all.1;
          under = under ∙ ap (key_of o T) who;
          number = refl;
        })

  -- the router doesn't act where the line names another one
  not_named : (named : ℕ) → named ≡ actor → (named == r) ≡ false → r ≢ actor
  not_named named by is same = true≢false (sym ((Decides-eqb named r).1 (by ∙ sym same)) ∙ is)

  -- the router is up, so that its start wasn't refused
  not_refused : (e : EventValue) (named : ℕ) (fault : StartFault) → Telling e (Line.Refused named (Refusal.Start fault)) → up_after e (Line.Refused named (Refusal.Start fault)) r (is_up T r) ≡ true → r ≢ actor
  not_refused e named fault told up same = true≢false (sym up ∙ down told.follows ∙ ap (λ (b : Bool). if b then false else is_up T r) ((Decides-eqb named r).1 (told.by ∙ sym same)))
    where
      down : Refusing (context_of o T (record { event = e; line = Line.Refused named (Refusal.Start fault); actor = actor; shown = after })) e named (Refusal.Start fault)
          → up_after e (Line.Refused named (Refusal.Start fault)) r (is_up T r) ≡ (if named == r then false else is_up T r)
      down (inl f) = subst (λ (x : EventValue). up_after x (Line.Refused named (Refusal.Start fault)) r (is_up T r) ≡ (if named == r then false else is_up T r)) f.2 refl
      down (inr f) = subst (λ (x : EventValue). up_after x (Line.Refused named (Refusal.Start fault)) r (is_up T r) ≡ (if named == r then false else is_up T r)) f.2 refl

  module _ (was : Was) (e : EventValue) (line : Line) (told : Telling e line) (up : up_after e line r (is_up T r) ≡ true) where
    -- another router's step
    stays_latest : r ≢ actor → IsLatest o (history o T) r k p (key_after e line r (key_of o T r)) (latest_nonce T r k p)
    stays_latest differ = subst (λ (key : ℕ). IsLatest o (history o T) r k p key (latest_nonce T r k p)) (sym (key_other actor r differ e line told.named (key_of o T r)))
        (was (sym (up_other actor r differ e line told.by (is_up T r)) ∙ up))

    -- a start, or another key: nothing is the latest any more
    none_latest : (named : ℕ) → named ≡ actor → IsLatest o (history o T) r k p (key_after e line r (key_of o T r)) (if named == r then 0 else latest_nonce T r k p)
    none_latest named by = at (named == r) refl
      where
        at : (b : Bool) → (named == r) ≡ b → IsLatest o (history o T) r k p (key_after e line r (key_of o T r)) (if b then 0 else latest_nonce T r k p)
        at true is = inl refl
        at false is = stays_latest (not_named named by is)

  -- any legal step
  now : Was → (e : EventValue) (line : Line) → LatestRow e line → Telling e line → Now e line
  now was e (Line.Sent x y z key nonce datagram) row told = subst (λ (f : EventValue). Now f (Line.Sent x y z key nonce datagram)) told.follows.1
      (λ up. sent_now x y z key nonce was told.follows.2.under up (x == r && y == k && z == p) refl)
  now was e (Line.Restarted named) row told = λ up. none_latest was e (Line.Restarted named) told up named told.by
  now was e (Line.Rotated named under) row told = λ up. none_latest was e (Line.Rotated named under) told up named told.by
  now was e (Line.Emptied named under) row told = λ up. none_latest was e (Line.Emptied named under) told up named told.by
  now was e (Line.Refused named (Refusal.Start fault)) row told = λ up. stays_latest was e (Line.Refused named (Refusal.Start fault)) told up (not_refused e named fault told up)
  now was e line row told = λ up.
      let on = goes_on _ e line row refl in
      subst (λ (key : ℕ). IsLatest o (history o T) r k p key (latest_nonce T r k p)) (sym (on.key r (key_of o T r))) (was (sym (on.up r (is_up T r)) ∙ up))

  -- A part that the database of a router that is up doesn't have has no sends in its round.
  abbrev Rests : RoundTimes → Type 0
  Rests x = x.moments ≡ []

  abbrev Absent : List MapRecordValue → Type 0
  Absent db = part_count db ≤ p

  abbrev Rested : Type 0
  Rested = is_up T r ≡ true → Absent (database o T r) → Rests (round T r k p)

  abbrev RestsNow : EventValue → Line → Type 0
  RestsNow e line = up_after e line r (is_up T r) ≡ true → Absent (database_after e line r (database o T r)) → Rests (round_after line (clock T) r k p (round T r k p))

  module _ (was : Rested) (e : EventValue) (line : Line) (up : up_after e line r (is_up T r) ≡ true) (none : Absent (database_after e line r (database o T r))) where
    module _ (told : Telling e line) where
      -- another router's step
      stays_rested : r ≢ actor → Rests (round T r k p)
      stays_rested differ = was (sym (up_other actor r differ e line told.by (is_up T r)) ∙ up) (subst Absent (database_other actor r differ e line told.named (database o T r)) none)

      -- a new round begins
      begins : (named : ℕ) → named ≡ actor → Rests (if named == r then record { begin = clock T; moments = [] } else round T r k p)
      begins named by = at (named == r) refl
        where
          at : (b : Bool) → (named == r) ≡ b → Rests (if b then record { begin = clock T; moments = [] } else round T r k p)
          at true is = refl
          at false is = stays_rested (not_named named by is)

    -- the router goes on as it was
    goes_rested : GoesOn e line → changes line ≡ false → Rests (round T r k p)
    goes_rested on same = was (sym (on.up r (is_up T r)) ∙ up) (subst Absent (on.database same r (database o T r)) none)

  -- what is sent is there
  sends_there : Rested → (x y z : ℕ) → z < part_count (database o T x) → (b : Bool) → (x == r && y == k && z == p) ≡ b → is_up T r ≡ true → Absent (database o T r)
      → Rests (if b then record (round T r k p) { moments = clock T ∷ (round T r k p).moments } else round T r k p)
  sends_there was x y z there false is up none = was up none
  sends_there was x y z there true is up none =
      let all = and_parts (x == r && y == k) (z == p) is in
      let who : x ≡ r = (Decides-eqb x r).0 (and_parts (x == r) (y == k) all.0).0 in
      let of : z ≡ p = (Decides-eqb z p).0 all.1 in
      let here : z < part_count (database o T r) = subst (λ (n : ℕ). z < part_count (database o T n)) who there in
      absurd (omega (arith, of, here, none))

  renewed : (old : RoundTimes) → Rests old → (b : Bool) → Rests (if b then with_renewal old old.moments else old)
  renewed old rest true = subst (λ (ms : List ℕ). Rests (with_renewal old ms)) (sym rest) rest
  renewed old rest false = rest

  -- any legal step
  rests_now : Rested → (e : EventValue) (line : Line) → LatestRow e line → Telling e line → RestsNow e line
  rests_now was e (Line.Sent x y z key nonce datagram) row told = subst (λ (f : EventValue). RestsNow f (Line.Sent x y z key nonce datagram)) told.follows.1
      (sends_there was x y z told.follows.2.there (x == r && y == k && z == p) refl)
  rests_now was e (Line.Counted x y z key nonce) row told = λ up none.
      renewed (round T r k p) (goes_rested was e (Line.Counted x y z key nonce) up none (goes_on _ e (Line.Counted x y z key nonce) row refl) refl) (x == r && y == k && z == p)
  rests_now was e (Line.Changed named records) row told = λ up none. begins was e (Line.Changed named records) up none told named told.by
  rests_now was e (Line.Restarted named) row told = λ up none. begins was e (Line.Restarted named) up none told named told.by
  rests_now was e (Line.Rotated named under) row told = λ up none. begins was e (Line.Rotated named under) up none told named told.by
  rests_now was e (Line.Emptied named under) row told = λ up none. begins was e (Line.Emptied named under) up none told named told.by
  rests_now was e (Line.Refused named (Refusal.Start fault)) row told = λ up none. stays_rested was e (Line.Refused named (Refusal.Start fault)) up none told (not_refused e named fault told up)
  rests_now was e line row told = λ up none. goes_rested was e line up none (goes_on _ e line row refl) refl

pub latest_is_sent : (o : Opening) (T : List Step) → LegalTrace o T → (r k p : ℕ) → is_up T r ≡ true → IsLatest o (history o T) r k p (key_of o T r) (latest_nonce T r k p)
latest_is_sent o [] legal r k p up = inl refl
latest_is_sent o (s ∷ T) legal r k p up = now o T s.actor s.shown r k p (latest_is_sent o T legal.1 r k p) s.event s.line legal.0.row (tells (context_of o T s) s.event s.line legal.0.row) up

pub absent_parts_rest : (o : Opening) (T : List Step) → LegalTrace o T → AbsentPartsRest o T
absent_parts_rest o [] legal r k p up none = refl
absent_parts_rest o (s ∷ T) legal r k p up none = rests_now o T s.actor s.shown r k p (absent_parts_rest o T legal.1 r k p) s.event s.line legal.0.row (tells (context_of o T s) s.event s.line legal.0.row) up none

-- The number that a router counts from isn't above all that its store keeps.

-- of the values that are kept one isn't below a base
abbrev pub Reached : List (Option ℕ) → Option ℕ → List (Option ℕ) → Type 0
Reached kept last start = (base : Option ℕ) → IsBase last start base → (v : Option ℕ) × Contains kept v × (number base ≤ number v)

module _ (t : Context) (was : is_up t.past t.node ≡ true → Reached (own_values t) (last_sent t.past t.node) (start_values t.opening t.past t.node)) where
  abbrev Later : Type 0
  Later = is_up t.past t.node ≡ true → Reached (own_values_after t) (last_sent t.past t.node) (start_values t.opening t.past t.node)

  -- what was kept still is
  grows : ((v : Option ℕ) → Contains (own_values t) v → Contains (own_values_after t) v) → Later
  grows each up base counts = let old = was up base counts in (old.0, each old.0 old.1, old.2)

  stays_reached : own_values_after t ≡ own_values t → Later
  stays_reached e = grows (λ v has. subst (λ (vs : List (Option ℕ)). Contains vs v) (sym e) has)

  doubts_reached : Doubts t → Later
  doubts_reached saved = cases saved.doubt
      (λ same. stays_reached same)
      (λ more. grows (λ v has. subst (λ (vs : List (Option ℕ)). Contains vs v) (sym more) (Contains-append_left (own_values t) (Some saved.nonce ∷ []) v has)))

  abbrev AfterReached : EventValue → Line → Type 0
  AfterReached e line = up_after e line t.node (is_up t.past t.node) ≡ true
      → Reached (key_values_after t (key_after e line t.node (own_key t))) (last_sent_after line t.node (last_sent t.past t.node)) (start_values_after line (key_values_after t (key_after e line t.node (own_key t))) t.node (start_values t.opening t.past t.node))

  -- a Map-Register went out
  sent_reached : (r nonce : ℕ) → r ≡ t.node → ((v : Option ℕ) × Contains (own_values_after t) v × (nonce ≤ number v))
      → Reached (own_values_after t) (if r == t.node then Some nonce else last_sent t.past t.node) (start_values t.opening t.past t.node)
  sent_reached r nonce is found = subst (λ b. Reached (own_values_after t) (if b then Some nonce else last_sent t.past t.node) (start_values t.opening t.past t.node)) (sym (ap (λ s. s == t.node) is ∙ same_number t.node))
      (λ base e. (found.0, found.1, subst (λ (b : Option ℕ). number b ≤ number found.0) (sym e) found.2))

  saves_reached : (router nonce : ℕ) → t.node ≡ router → is_up t.past router ≡ true → (base : Option ℕ) → CountsFrom t.opening t.past router base → (bound : ℕ) → Saves t (pair_at t.opening t.past router) nonce bound
      → (v : Option ℕ) × Contains (own_values_after t) v × (nonce ≤ number v)
  saves_reached router nonce is up base counts bound saves = subst (λ (n : ℕ). (v : Option ℕ) × Contains (values_after t (pair_at t.opening t.past n)) v × (nonce ≤ number v)) (sym is) (cases saves.here
      (λ same. let has = subst (λ (vs : List (Option ℕ)). Contains vs old.0) (sym same) old.1 in (old.0, has, saves.none_below old.0 has))
      (λ one. let has = subst (λ (vs : List (Option ℕ)). Contains vs (Some bound)) (sym one.0) (at_head (Some bound) []) in (Some bound, has, saves.none_below (Some bound) has)))
    where
      old : (v : Option ℕ) × Contains (values t (pair_at t.opening t.past router)) v × (number base ≤ number v)
      old = subst (λ (n : ℕ). (v : Option ℕ) × Contains (values t (pair_at t.opening t.past n)) v × (number base ≤ number v)) is
          (was (ap (is_up t.past) is ∙ up) base (subst (λ (n : ℕ). CountsFrom t.opening t.past n base) (sym is) counts))

  -- the router starts, or goes over to another key
  starts_reached : (named : ℕ) → named ≡ t.node → (kept : List (Option ℕ)) (last : Option ℕ) → Reached kept (if named == t.node then None else last) (if named == t.node then kept else start_values t.opening t.past t.node)
  starts_reached named is kept last = subst (λ b. Reached kept (if b then None else last) (if b then kept else start_values t.opening t.past t.node)) (sym (ap (λ s. s == t.node) is ∙ same_number t.node))
      (λ base has. (base, has, omega arith))

  down_now : (named : ℕ) → named ≡ t.node → (if named == t.node then false else is_up t.past t.node) ≡ false
  down_now named is = ap (λ b. if b then false else is_up t.past t.node) (ap (λ s. s == t.node) is ∙ same_number t.node)

  -- the router goes on as it was
  goes_reached : (e : EventValue) (line : Line) → GoesOn e line → Later → up_after e line t.node (is_up t.past t.node) ≡ true
      → Reached (key_values_after t (key_after e line t.node (own_key t))) (last_sent t.past t.node) (start_values t.opening t.past t.node)
  goes_reached e line on later up = subst (λ (key : ℕ). Reached (key_values_after t key) (last_sent t.past t.node) (start_values t.opening t.past t.node)) (sym (on.key t.node (own_key t)))
      (later (sym (on.up t.node (is_up t.past t.node)) ∙ up))

  -- a start that is refused
  refused_reached : (e : EventValue) (named : ℕ) (fault : StartFault) → named ≡ t.node → Refusing t e named (Refusal.Start fault) → AfterReached e (Line.Refused named (Refusal.Start fault))
  refused_reached e named fault is (inl f) = subst (λ (x : EventValue). AfterReached x (Line.Refused named (Refusal.Start fault))) f.2 (λ up. absurd (true≢false (sym up ∙ down_now named is)))
  refused_reached e named fault is (inr f) = subst (λ (x : EventValue). AfterReached x (Line.Refused named (Refusal.Start fault))) f.2 (λ up. absurd (true≢false (sym up ∙ down_now named is)))

  -- any legal step of the node
  pub row_reached : (e : EventValue) (line : Line) → MayCome t e line → Tells t e line → AfterReached e line
  row_reached e (Line.Sent r s p key nonce datagram) row told = subst (λ (f : EventValue). AfterReached f (Line.Sent r s p key nonce datagram)) told.follows.1
      (λ up. let its = told.follows.2 in sent_reached r nonce told.by (saves_reached r nonce its.acts.acts its.acts.state its.base its.counts _ its.saves))
  row_reached e (Line.Restarted named) row told = λ up. starts_reached named told.by _ (last_sent t.past t.node)
  row_reached e (Line.Rotated named under) row told = λ up. starts_reached named told.by _ (last_sent t.past t.node)
  row_reached e (Line.Emptied named under) row told = λ up. starts_reached named told.by _ (last_sent t.past t.node)
  row_reached e (Line.Refused named (Refusal.Start fault)) row told = refused_reached e named fault told.by told.follows
  row_reached e (Line.Refused named (Refusal.Send (SendFault.Store fault))) row told =
      let f = told.follows in
      goes_reached e (Line.Refused named (Refusal.Send (SendFault.Store fault))) (goes_on t e (Line.Refused named (Refusal.Send (SendFault.Store fault))) row refl) (doubts_reached (not_saved t named f.0 f.1 fault (sym told.by) f.4))
  row_reached e line row told = goes_reached e line (goes_on t e line row refl) (stays_reached (same_keys t line told.stays refl (own_key t)))

module _ (o : Opening) where
  abbrev ReachedAt : List Step → ℕ → Type 0
  ReachedAt T r = is_up T r ≡ true → Reached (kept_at (shown_store o T r).kept (pair_at o T r)) (last_sent T r) (start_values o T r)

  reached_actor : (T : List Step) (s : Step) → Legal o T s → ReachedAt T s.actor → ReachedAt (s ∷ T) s.actor
  reached_actor T s l old = subst (λ b. is_up (s ∷ T) s.actor ≡ true → Reached (kept_at (if b then s.shown else shown_store o T s.actor).kept (pair_at o (s ∷ T) s.actor)) (last_sent (s ∷ T) s.actor) (start_values o (s ∷ T) s.actor)) (sym (same_number s.actor))
      (row_reached (context_of o T s) old s.event s.line l.row (tells (context_of o T s) s.event s.line l.row))

  reached_other : (T : List Step) (s : Step) (r : ℕ) → r ≢ s.actor → Legal o T s → ReachedAt T r → ReachedAt (s ∷ T) r
  reached_other T s r differ l old up =
      let by = (tells (context_of o T s) s.event s.line l.row).by in
      let given = (tells (context_of o T s) s.event s.line l.row).named in
      let was = old (sym (up_other s.actor r differ s.event s.line by (is_up T r)) ∙ up) in
      subst (λ (last : Option ℕ). Reached (kept_at (shown_store o (s ∷ T) r).kept (pair_at o (s ∷ T) r)) last (start_values o (s ∷ T) r)) (sym (last_sent_other s.actor r differ s.line by (last_sent T r)))
      (subst (λ (start : List (Option ℕ)). Reached (kept_at (shown_store o (s ∷ T) r).kept (pair_at o (s ∷ T) r)) (last_sent T r) start) (sym (start_values_other s.actor r differ s.line by (kept_at s.shown.kept (pair_at o (s ∷ T) r)) (start_values o T r)))
      (subst (λ (key : ℕ). Reached (kept_at (shown_store o (s ∷ T) r).kept (pair_under o r key)) (last_sent T r) (start_values o T r)) (sym (key_other s.actor r differ s.event s.line given (key_of o T r)))
      (subst (λ b. Reached (kept_at (if b then s.shown else shown_store o T r).kept (pair_at o T r)) (last_sent T r) (start_values o T r)) (sym (other_number s.actor r (λ e. differ (sym e)))) was)))

  pub reached : (T : List Step) → LegalTrace o T → (r : ℕ) → ReachedAt T r
  reached [] legal r = λ up base has. (base, has, omega arith)
  reached (s ∷ T) legal r = of_each (ReachedAt (s ∷ T)) s.actor (reached_actor T s legal.0 (reached T legal.1 s.actor)) (λ k differ. reached_other T s k differ legal.0 (reached T legal.1 k)) r

-- What meets its conditions is sent, accepted or done.

-- no node is of both kinds
apart : (c : ConfigValue) (node : ℕ) → is_server c node ≡ true → is_router c node ≡ true → ⊥
apart c node server router =
    let below = ltb-true node (length c.servers) server in
    let parts = and_parts (nat_le (length c.servers) node) (nat_lt node (length c.servers + length c.routers)) router in
    let above = leb-true (length c.servers) node parts.0 in
    absurd (omega (arith, below, above))

-- a refusal to send for its nonces needs a value as great
module _ (t : Context) (reached_here : is_up t.past t.node ≡ true → Reached (values t (pair_at t.opening t.past t.node)) (last_sent t.past t.node) (start_values t.opening t.past t.node)) where
  module _ (router server part : ℕ) (up : is_up t.past router ≡ true) (listed : is_listed t.opening.config router server ≡ true) (there : HasPart t router part) (below : (v : Option ℕ) → Contains (values t (pair_at t.opening t.past router)) v → number v < last_nonce) where
    sends_or_excused : (named : ℕ) (why : SendFault) → t.node ≡ router → RefusesToSend t router server part why → IsExcused t (Line.Refused named (Refusal.Send why))
    sends_or_excused named SendFault.NoServer is row = absurd (true≢false (sym listed ∙ row.0))
    sends_or_excused named SendFault.NoPart is row = let none = row.1 in absurd (omega (arith, none, there))
    sends_or_excused named SendFault.NonceSpent is row =
        let found = reached_here (ap (is_up t.past) is ∙ up) row.1.0 (subst (λ (n : ℕ). CountsFrom t.opening t.past n row.1.0) (sym is) row.1.1) in
        let low = below found.0 (subst (λ (n : ℕ). Contains (values t (pair_at t.opening t.past n)) found.0) is found.1) in
        let high = row.1.2 in
        let between = found.2 in
        absurd (omega (arith, low, high, between))
    sends_or_excused named SendFault.OutOfMemory is row = λ other. absurd (other refl)
    sends_or_excused named (SendFault.Store fault) is row = row.1.fails.cause

    sends_row : (fate : Fate) (line : Line) → MayCome t (Event.Send router server part fate) line → (is_sent line ≡ true) ⊎ IsExcused t line
    sends_row fate (Line.Sent r s p key nonce datagram) row = inl refl
    sends_row fate (Line.Down named) row = absurd (true≢false (sym up ∙ row.1.acts.state))
    sends_row fate (Line.Refused named (Refusal.Send why)) row = inr (sends_or_excused named why row.2.acts row.3)
    sends_row fate _ row = absurd row

  must_send : (e : EventValue) (line : Line) → MayCome t e line → MustSend IsExcused t e line
  must_send e line row router server part fate is up listed there below = sends_row router server part up listed there below fate line (subst (λ (x : EventValue). MayCome t x line) is row)

-- a Map-Register that passes all checks with a fresh nonce
module _ (t : Context) (kind : is_server t.opening.config t.node ≡ true) (a : Arrival) where
  module _ (m : MapRegisterValue) (admits : Admits t a m) (above : Follows (most_jump_at (its_sites t) m.site) (last_in t (pair_of m)) (values t (pair_of m)) m.nonce) (space : HasSpace t a m) where
    same_register : (x : MapRegisterValue) → a.read ≡ Ok (Registers x) → m ≡ x
    same_register x read = let both : ◌≡◌ {A = Result MessageValue ReadFault} (Ok (Registers m)) (Ok (Registers x)) = sym admits.read ∙ read in cc

    not_stale : (jump last : Option ℕ) (kept : List (Option ℕ)) (nonce saved : ℕ) → Follows jump last kept nonce → IsBase last kept (Some saved) → nonce ≤ saved → ⊥
    not_stale jump (Some l) kept nonce saved over base low = let same : saved ≡ l = cc in let under : l < nonce = over.0 in absurd (omega (arith, under, low, same))
    not_stale jump None kept nonce saved over base low = let under : saved < nonce = (over (Some saved) base).0 in absurd (omega (arith, under, low))

    near_itself : (jump : Option ℕ) (base nonce : ℕ) → IsNear jump (Some base) nonce → IsFar jump base nonce → ⊥
    near_itself None base nonce near far = far
    near_itself (Some jump) base nonce near far = absurd (omega (arith, near, far))

    not_far : (jump last : Option ℕ) (kept : List (Option ℕ)) (nonce saved : ℕ) → Follows jump last kept nonce → IsBase last kept (Some saved) → IsFar jump saved nonce → ⊥
    not_far jump (Some l) kept nonce saved over base far = let same : l ≡ saved = cc in near_itself jump saved nonce (subst (λ (b : ℕ). IsNear jump (Some b) nonce) same over.1) far
    not_far jump None kept nonce saved over base far = near_itself jump saved nonce (over (Some saved) base).1 far

    passes_no_check : (why : Refused) (read : Result MessageValue ReadFault) → read ≡ Ok (Registers m) → FailsCheck t a read why → ⊥
    passes_no_check why read is fails = err_clash (sym (subst (λ (r : Result MessageValue ReadFault). FailsCheck t a r why) is fails) ∙ admits.checks)

    accept_or_excused : (named : ℕ) (why : Refused) → RefusesMessage t a why → IsExcused t (Line.Refused named (Refusal.Receive why))
    accept_or_excused named (Refused.StoreLoad fault) row = row.fails.cause
    accept_or_excused named (Refused.Replay saved) row = absurd (not_stale (most_jump_at (its_sites t) m.site) (last_in t (pair_of m)) (values t (pair_of m)) m.nonce saved above
        (subst (λ (x : MapRegisterValue). IsBase (last_in t (pair_of x)) (values t (pair_of x)) (Some saved)) (sym (same_register row.message row.admits.read)) row.counts)
        (subst (λ (x : MapRegisterValue). x.nonce ≤ saved) (sym (same_register row.message row.admits.read)) row.stale))
    accept_or_excused named (Refused.Jump site saved) row = absurd (not_far (most_jump_at (its_sites t) m.site) (last_in t (pair_of m)) (values t (pair_of m)) m.nonce saved above
        (subst (λ (x : MapRegisterValue). IsBase (last_in t (pair_of x)) (values t (pair_of x)) (Some saved)) (sym (same_register row.message row.admits.read)) row.counts)
        (subst (λ (x : MapRegisterValue). IsFar (most_jump_at (its_sites t) x.site) saved x.nonce) (sym (same_register row.message row.admits.read)) row.far))
    accept_or_excused named (Refused.Full site full) row =
        let same = sym (same_register row.message row.admits.read) in
        absurd (full_or_fits (most_routers_at (its_sites t) m.site) (most_rows_at (its_sites t) m.site) m.site (rows_before t) (rows_with t a m) full space (subst (λ (x : MapRegisterValue). LacksSpace t a x full) same row.lacks))
    accept_or_excused named Refused.OutOfMemory row = λ other. absurd (other refl)
    accept_or_excused named (Refused.StoreSave fault) row = row.fails.cause
    accept_or_excused named _ row = absurd (passes_no_check _ a.read admits.read row.0)

    is_no_notify : (n : MapNotifyValue) → a.read ≡ Ok (Notifies n) → ⊥
    is_no_notify n read = let both : ◌≡◌ {A = Result MessageValue ReadFault} (Ok (Registers m)) (Ok (Notifies n)) = sym admits.read ∙ read in absurd cc

    pub accept_arrives : (line : Line) → Arrives t a line → (is_accepted line ≡ true) ⊎ IsExcused t line
    accept_arrives (Line.Accepted server router key nonce datagram) row = inl refl
    accept_arrives (Line.Done server router nonce) row = absurd (is_no_notify row.message row.read)
    accept_arrives (Line.Counted router server part key nonce) row = absurd (apart t.opening.config t.node kind row.acts.kind)
    accept_arrives (Line.Noticed router server nonce datagram) row = absurd (apart t.opening.config t.node kind row.acts.kind)
    accept_arrives (Line.Down router) row = absurd (apart t.opening.config t.node kind (ap (is_router t.opening.config) row.acts.acts ∙ row.acts.kind))
    accept_arrives (Line.Refused node (Refusal.Receive why)) row = inr (accept_or_excused node why row.1)
    accept_arrives (Line.Refused node (Refusal.Notify why)) row = absurd (apart t.opening.config t.node kind row.acts.kind)
    accept_arrives _ row = absurd row

  -- a Map-Notify-Ack that a notice waits for
  module _ (m : MapNotifyValue) (n : Notice) (read : a.read ≡ Ok (Notifies m)) (ack : m.ack ≡ true) (waits : awaiting t a.from m ≡ Some n) (tag : has_tag_for t a n ≡ true) where
    is_no_register : (x : MapRegisterValue) → a.read ≡ Ok (Registers x) → ⊥
    is_no_register x other = let both : ◌≡◌ {A = Result MessageValue ReadFault} (Ok (Notifies m)) (Ok (Registers x)) = sym read ∙ other in absurd cc

    ack_fails : (why : Refused) (found : Option Notice) → found ≡ Some n → RefusesAck t a found why → ⊥
    ack_fails why None is fails = none-some _ is
    ack_fails why (Some x) is fails = let same : x ≡ n = cc in absurd (true≢false (sym tag ∙ sym (ap (has_tag_for t a) same) ∙ fails.0))

    notify_fails : (why : Refused) (b : Bool) → b ≡ true → FailsNotify t a m b why → ⊥
    notify_fails why true is fails = ack_fails why (awaiting t a.from m) waits fails
    notify_fails why false is fails = absurd (true≢false (sym is))

    ends_no_check : (why : Refused) (r : Result MessageValue ReadFault) → r ≡ Ok (Notifies m) → FailsCheck t a r why → ⊥
    ends_no_check why r is fails = notify_fails why m.ack ack (subst (λ (x : Result MessageValue ReadFault). FailsCheck t a x why) is fails)

    end_or_excused : (named : ℕ) (why : Refused) → RefusesMessage t a why → IsExcused t (Line.Refused named (Refusal.Receive why))
    end_or_excused named (Refused.StoreLoad fault) row = row.fails.cause
    end_or_excused named (Refused.Replay saved) row = absurd (is_no_register row.message row.admits.read)
    end_or_excused named (Refused.Jump site saved) row = absurd (is_no_register row.message row.admits.read)
    end_or_excused named (Refused.Full site full) row = absurd (is_no_register row.message row.admits.read)
    end_or_excused named Refused.OutOfMemory row = λ other. absurd (other refl)
    end_or_excused named (Refused.StoreSave fault) row = row.fails.cause
    end_or_excused named _ row = absurd (ends_no_check _ a.read read row.0)

    pub end_arrives : (line : Line) → Arrives t a line → (is_done line ≡ true) ⊎ IsExcused t line
    end_arrives (Line.Accepted server router key nonce datagram) row = absurd (is_no_register row.message row.admits.read)
    end_arrives (Line.Done server router nonce) row = inl refl
    end_arrives (Line.Counted router server part key nonce) row = absurd (apart t.opening.config t.node kind row.acts.kind)
    end_arrives (Line.Noticed router server nonce datagram) row = absurd (apart t.opening.config t.node kind row.acts.kind)
    end_arrives (Line.Down router) row = absurd (apart t.opening.config t.node kind (ap (is_router t.opening.config) row.acts.acts ∙ row.acts.kind))
    end_arrives (Line.Refused node (Refusal.Receive why)) row = inr (end_or_excused node why row.1)
    end_arrives (Line.Refused node (Refusal.Notify why)) row = absurd (apart t.opening.config t.node kind row.acts.kind)
    end_arrives _ row = absurd row

-- what arrives at a node is seen by its row
module _ (t : Context) (there : IsAtNoNode t → ⊥) (a : Arrival) where
  arrived : (e : EventValue) (line : Line) → arrival_in (bag t.opening t.past) e ≡ Some a → MayCome t e line → Arrives t a line
  arrived (Event.Deliver k fate) (Line.Nowhere datagram) is row = absurd (there row.idle)
  arrived (Event.Deliver k fate) line is row = subst (λ (x : Arrival). Arrives t x line) (same row.item row.sent) row.arrives
    where
      same : (i : Item) → slice_get (bag t.opening t.past) k ≡ Some i → arrival_of i ≡ a
      same i sent = let both : Some (arrival_of i) ≡ Some a = sym (ap (option_map arrival_of) sent) ∙ is in cc
  arrived (Event.Junk to from bytes) line is row = subst (λ (x : Arrival). Arrives t x line) (let both : Some (junk_arrival from bytes) ≡ Some a = is in cc) row.arrives
  arrived _ line is row = absurd (none-some _ is)

-- a Map-Notify that a router hears
module _ (t : Context) (kind : is_router t.opening.config t.node ≡ true) (up : is_up t.past t.node ≡ true) (a : Arrival) (h : ServerNotify) (passes : Passes t a h) where
  no_server : (server : ℕ) → is_server t.opening.config server ≡ true → t.node ≡ server → ⊥
  no_server server is acts = apart t.opening.config t.node (ap (is_server t.opening.config) acts ∙ is) kind

  -- its line is of the kind that is due to it, or memory ran out
  by_kind : (is_kind : Line → Bool) → is_kind (heard_line t h) ≡ true → (line : Line) → Hears t a line → (is_kind line ≡ true) ⊎ IsExcused t line
  by_kind is_kind due line hears = cases (comes_to t a h passes line hears)
      (λ is. inl (ap is_kind is ∙ due))
      (λ out. inr (subst (IsExcused t) (sym out) (λ other. absurd (other refl))))

  heard_arrives : (is_kind : Line → Bool) → is_kind (heard_line t h) ≡ true → (line : Line) → Arrives t a line → (is_kind line ≡ true) ⊎ IsExcused t line
  heard_arrives is_kind due (Line.Accepted server router key nonce datagram) row = absurd (no_server server row.acts.kind row.acts.acts)
  heard_arrives is_kind due (Line.Done server router nonce) row = absurd (no_server server row.acts.kind row.acts.acts)
  heard_arrives is_kind due (Line.Counted router server part key nonce) row = by_kind is_kind due _ row
  heard_arrives is_kind due (Line.Noticed router server nonce datagram) row = by_kind is_kind due _ row
  heard_arrives is_kind due (Line.Down router) row = absurd (true≢false (sym up ∙ ap (is_up t.past) row.acts.acts ∙ row.acts.state))
  heard_arrives is_kind due (Line.Refused node (Refusal.Receive why)) row = absurd (no_server node row.0.kind row.0.acts)
  heard_arrives is_kind due (Line.Refused node (Refusal.Notify why)) row = by_kind is_kind due _ row
  heard_arrives is_kind due _ row = absurd row

  is_due_to_count : h.message.nonce < first_notice → (part : ℕ) → part < most_parts → is_latest h.message.nonce (latest_nonce t.past t.node h.server part) ≡ true → is_counted (heard_line t h) ≡ true
  is_due_to_count low part within last = at (nat_le first_notice h.message.nonce) refl
    where
      at : (b : Bool) → nat_le first_notice h.message.nonce ≡ b → is_counted (if b then Line.Noticed t.node h.server h.message.nonce (length (bag t.opening t.past)) else counted_or_stale t h (latest_nonces t.past t.node h.server)) ≡ true
      at true high = let above = leb-true first_notice h.message.nonce high in absurd (omega (arith, low, above))
      at false _ = ap (λ (x : Option ℕ). is_counted (counted_line t h (latest_nonces t.past t.node h.server) x)) (counts_for_some t.past t.node h.server h.message.nonce part within last).1

  notices : first_notice ≤ h.message.nonce → is_noticed (heard_line t h) ≡ true
  notices high = rw (le-leb first_notice h.message.nonce high) refl

-- legal steps do what they must
pub must : (o : Opening) (T : List Step) (s : Step) → LegalTrace o T → Legal o T s → Must IsExcused o T s
must o T s legal l = record {
  send = must_send (context_of o T s) (reached o T legal s.actor) s.event s.line l.row;
  accept = λ a m is kind admits above space. accept_arrives (context_of o T s) kind a m admits above space s.line (arrived (context_of o T s) (λ idle. true≢false (sym kind ∙ idle.server)) a s.event s.line is l.row);
  done = λ a m n is kind read ack waits tag. end_arrives (context_of o T s) kind a m n read ack waits tag s.line (arrived (context_of o T s) (λ idle. true≢false (sym kind ∙ idle.server)) a s.event s.line is l.row);
  counted = λ a h part is kind up passes low within last. heard_arrives (context_of o T s) kind up a h passes is_counted (is_due_to_count (context_of o T s) kind up a h passes low part within last) s.line (arrived (context_of o T s) (λ idle. true≢false (sym kind ∙ idle.router)) a s.event s.line is l.row);
  noticed = λ a h is kind up passes high. heard_arrives (context_of o T s) kind up a h passes is_noticed (notices (context_of o T s) kind up a h passes high) s.line (arrived (context_of o T s) (λ idle. true≢false (sym kind ∙ idle.router)) a s.event s.line is l.row);
}

-- What must be done where no memory may be refused.

-- what must be done but for one excuse must be but for another that the first one gives
excused_by : (One Other : Excuse) (o : Opening) (T : List Step) (s : Step) → (One (context_of o T s) s.line → Other (context_of o T s) s.line)
    → Must One o T s → Must Other o T s
excused_by One Other o T s gives must = record {
  send = λ router server part fate is up listed there below. ⊎_map (λ e. e) gives (must.send router server part fate is up listed there below);
  accept = λ a m is kind admits above space. ⊎_map (λ e. e) gives (must.accept a m is kind admits above space);
  done = λ a m n is kind read ack waits tag. ⊎_map (λ e. e) gives (must.done a m n is kind read ack waits tag);
  counted = λ a h part is kind up passes low within last. ⊎_map (λ e. e) gives (must.counted a h part is kind up passes low within last);
  noticed = λ a h is kind up passes high. ⊎_map (λ e. e) gives (must.noticed a h is kind up passes high);
}

-- where no memory may be refused, an excuse is a device that failed
module _ (node store : Type 0) (no_node : ¬ node) (no_store : ¬ store) where
  -- a refusal for a store's fault isn't for out of memory
  not_memory : (why : StoreFault → Refusal) → is_store_memory (why StoreFault.OutOfMemory) ≡ true
      → (fault : StoreFault) → (is_store_memory (why fault) ≡ true → store) → fault ≢ StoreFault.OutOfMemory
  not_memory why says fault may is = no_store (may (ap (λ (f : StoreFault). is_store_memory (why f)) is ∙ says))

  device_failed : (t : Context) (line : Line) → MayTell node store line → IsExcused t line → DeviceFailed t line
  device_failed t (Line.Refused named (Refusal.Send SendFault.OutOfMemory)) may excused = absurd (no_node (may.0 refl))
  device_failed t (Line.Refused named (Refusal.Send (SendFault.Store fault))) may excused =
      (not_memory (λ f. Refusal.Send (SendFault.Store f)) refl fault may.1, excused)
  device_failed t (Line.Refused named (Refusal.Notify NotifyFault.OutOfMemory)) may excused = absurd (no_node (may.0 refl))
  device_failed t (Line.Refused named (Refusal.Receive Refused.OutOfMemory)) may excused = absurd (no_node (may.0 refl))
  device_failed t (Line.Refused named (Refusal.Receive (Refused.StoreLoad fault))) may excused =
      (not_memory (λ f. Refusal.Receive (Refused.StoreLoad f)) refl fault may.1, excused)
  device_failed t (Line.Refused named (Refusal.Receive (Refused.StoreSave fault))) may excused =
      (not_memory (λ f. Refusal.Receive (Refused.StoreSave f)) refl fault may.1, excused)
  device_failed t _ may excused = absurd excused

-- where no memory may be refused, legal steps do what they must unless a device failed
pub must_with_memory : (node store : Type 0) → ¬ node → ¬ store → (o : Opening) (T : List Step) (s : Step) → LegalTrace o T → Legal o T s
    → MayTell node store s.line → Must DeviceFailed o T s
must_with_memory node store no_node no_store o T s trace legal may =
    excused_by IsExcused DeviceFailed o T s (device_failed node store no_node no_store (context_of o T s) s.line may) (must o T s trace legal)
