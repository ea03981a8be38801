-- The nonces of a server's notices rise.
use Rattle.std.proofs.Common.{◌≡◌, ℕ, ◌+◌, ◌<◌, ◌≤◌, Bool, true, false, List, [], ◌∷◌, Option, Some, None, refl, sym, ap, subst, inl, inr, ◌∙◌, arith, map}
use Rattle.std.specs.Prelude.{◌≢◌, ◌⊎◌, ◌==◌, ◌^◌, if◌then◌else◌}
use Rattle.std.specs.List.{Contains}
use Rattle.std.proofs.Math.Nat.{le-max_right}
use Rattle.std.proofs.lemmas.List.Elements.{Contains-append_cases}
use Rattle.std.proofs.lemmas.Option.{none-some}
use Rattle.lisp_nonces.specs.Kept.{kept_at, number, InDoubt, NoneBelow}
use Rattle.lisp_admission.specs.Pairs.{notice_pair}
use Rattle.lisp_admission.specs.Nonces.{nonce_after}
use Rattle.lisp_records.specs.declared.router.RouterId.{RouterId}
use Rattle.lisp_records.specs.Router.{router_eq}
use Rattle.lisp_model.specs.Trace.{EventValue, Step, Opening, is_server, is_router, shown_store, clock, router_at, Line, Refusal}
use Rattle.lisp_model.specs.Timers.{last_notice, last_notice_after, Notice, notices, notices_after, notices_to_others, resent_at}
use Rattle.lisp_model.specs.Context.{Context, values, values_after, IsBase}
use Rattle.lisp_model.specs.Legal.{Legal, LegalTrace, context_of}
use Rattle.lisp_model.specs.Promises.{Falls, notice_nonces, notice_nonces_after, NoticeNoncesRise, NoticesDiffer}
use Rattle.lisp_model.proofs.ListLemmas.{head_or_tail, in_none, at_head, in_tail, only, cases, some_same}
use Rattle.lisp_model.proofs.HeardLines.{IsBy}
use Rattle.lisp_model.proofs.HearingLemmas.{not_both}
use Rattle.lisp_model.proofs.Locality.{unless, same_number, other_number, last_notice_other, no_notices, of_each, here}
use Rattle.lisp_model.proofs.Rows.{Tells, tells}
use Rattle.lisp_model.proofs.CleanLemmas.{from_map}
use Rattle.lisp_model.proofs.NoticeOrigins.{notices_left, of_others}
use Rattle.lisp_admission.specs.declared.notice_fault.NoticeFault.{NoticeFault}
use Rattle.lisp_nonces.specs.declared.pair.PairKind.{PairKind}

-- what holds at a server: its notices' nonces fall from the last one, and are at most each kept value, and
-- at most the last one since its start
record NoticeSafe (nonces : List ℕ) (last : Option ℕ) (kept : List (Option ℕ)) : Type 0 where
  falls : Falls nonces
  floor : (n : ℕ) → Contains nonces n → NoneBelow n kept
  top : (l : ℕ) → last ≡ Some l → (n : ℕ) → Contains nonces n → n ≤ l

-- the next nonce is above the last one
above : (base : Option ℕ) → number base < nonce_after base
above base = (let least : number base + 1 ≤ nonce_after base = le-max_right (2 ^ 63) (number base + 1) in omega (arith, least))

module _ (nonces : List ℕ) (last : Option ℕ) (kept : List (Option ℕ)) (safe : NoticeSafe nonces last kept) where
  narrows : (new : List (Option ℕ)) → ((v : Option ℕ) → Contains new v → Contains kept v) → NoticeSafe nonces last new
  narrows new each = record { falls = safe.falls; floor = λ n has v in_it. safe.floor n has v (each v in_it); top = safe.top }

  forgets : (new : List (Option ℕ)) → ((v : Option ℕ) → Contains new v → Contains kept v) → NoticeSafe nonces None new
  forgets new each = record { falls = safe.falls; floor = λ n has v in_it. safe.floor n has v (each v in_it); top = λ l e. absurd (none-some _ e) }

  -- a base is at least each nonce
  at_most : (base : Option ℕ) → IsBase last kept base → (n : ℕ) → Contains nonces n → n ≤ number base
  at_most base counts n has = by last refl counts
    where
      by : (o : Option ℕ) → last ≡ o → IsBase o kept base → n ≤ number base
      by (Some l) is e = subst (λ (b : Option ℕ). n ≤ number b) (sym e) (safe.top l is n has)
      by None is e = safe.floor n has base e

  module _ (base : Option ℕ) (counts : IsBase last kept base) where
    below : (n : ℕ) → Contains nonces n → n < nonce_after base
    below n has = (let low = at_most base counts n has in let up = above base in omega (arith, low, up))

    tells_next : (new : List (Option ℕ)) → NoneBelow (nonce_after base) new → NoticeSafe (nonce_after base ∷ nonces) (Some (nonce_after base)) new
    tells_next new none_below = record {
      falls = (below, safe.falls);
      floor = λ n has v in_it. let low : nonce_after base ≤ number v = none_below v in_it in cases (head_or_tail (nonce_after base) nonces n has) (λ is. omega (arith, low, is)) (λ old. omega (arith, low, below n old));
      top = λ l e n has. let same = some_same (nonce_after base) l e in cases (head_or_tail (nonce_after base) nonces n has) (λ is. omega (arith, same, is)) (λ old. omega (arith, same, below n old));
    }

    doubts : (new : List (Option ℕ)) → InDoubt kept new (nonce_after base) → NoticeSafe nonces last new
    doubts new (inl same) = narrows new (λ v has. subst (λ (vs : List (Option ℕ)). Contains vs v) same has)
    doubts new (inr more) = record {
      falls = safe.falls;
      floor = λ n has v in_it. cases (Contains-append_cases kept (Some (nonce_after base) ∷ []) v (subst (λ (vs : List (Option ℕ)). Contains vs v) more in_it)) (λ old. safe.floor n has v old)
          (λ new. subst (λ (w : Option ℕ). n ≤ number w) (sym (only (Some (nonce_after base)) v new)) (omega (arith, below n has)));
      top = safe.top;
    }

-- a step of the server
module _ (t : Context) (its : is_server t.opening.config t.node ≡ true) (nonces : List ℕ) (safe : NoticeSafe nonces (last_notice t.past t.node) (values t notice_pair)) where
  abbrev After : Line → Type 0
  After line = NoticeSafe (notice_nonces_after line t.node nonces) (last_notice_after line t.node (last_notice t.past t.node)) (values_after t notice_pair)

  abbrev Stays : Type 0
  Stays = NoticeSafe nonces (last_notice t.past t.node) (values_after t notice_pair)

  stays : values_after t notice_pair ≡ values t notice_pair → Stays
  stays e = narrows nonces (last_notice t.past t.node) (values t notice_pair) safe (values_after t notice_pair) (λ v has. subst (λ (vs : List (Option ℕ)). Contains vs v) e has)

  -- a router's store isn't the server's
  no_router : {X : Type 0} (node : ℕ) → is_router t.opening.config node ≡ true → t.node ≡ node → X
  no_router node kind acts = absurd (not_both t.opening.config node kind (ap (is_server t.opening.config) (sym acts) ∙ its))

  row_safe : (e : EventValue) (line : Line) → Tells t e line → After line
  row_safe e (Line.Notice server router key nonce datagram) told =
      let row = told.follows.2 in
      let new : NoticeSafe (nonce_after row.base ∷ nonces) (Some (nonce_after row.base)) (values_after t notice_pair) = tells_next nonces (last_notice t.past t.node) (values t notice_pair) safe row.base row.counts (values_after t notice_pair) (subst (λ (n : ℕ). NoneBelow n (values_after t notice_pair)) row.next row.saves.none_below) in
      here (λ (b : Bool). NoticeSafe (if b then nonce ∷ nonces else nonces) (if b then Some nonce else last_notice t.past t.node) (values_after t notice_pair)) server t.node told.by (subst (λ (n : ℕ). NoticeSafe (n ∷ nonces) (Some n) (values_after t notice_pair)) (sym row.next) new)
  row_safe e (Line.Refused named (Refusal.Notice (NoticeFault.StoreSave fault))) told = cases told.follows
      (λ f. let row = f.3 in doubts nonces (last_notice t.past t.node) (values t notice_pair) safe row.0 row.1.counts (values_after t notice_pair) row.2.here)
      (λ f. absurd f.2)
  row_safe e (Line.Restarted named) told = here (λ (b : Bool). NoticeSafe nonces (if b then None else last_notice t.past t.node) (values_after t notice_pair)) named t.node told.by (forgets nonces (last_notice t.past t.node) (values t notice_pair) safe (values_after t notice_pair) (told.follows.3.narrows notice_pair).each)
  row_safe e (Line.Renewed named count) told = here (λ (b : Bool). NoticeSafe nonces (if b then None else last_notice t.past t.node) (values_after t notice_pair)) named t.node told.by (forgets nonces (last_notice t.past t.node) (values t notice_pair) safe (values_after t notice_pair) (λ v has. subst (λ (vs : List (Option ℕ)). Contains vs v) (told.stays.kept PairKind.Notice refl notice_pair refl) has))
  row_safe e (Line.Emptied named under) told = no_router named told.follows.2.lost.kind told.follows.2.lost.acts
  row_safe e (Line.Refused named (Refusal.Start fault)) told = cases told.follows
      (λ f. no_router named f.3.kind f.3.acts)
      (λ f. no_router named f.3.lost.kind f.3.lost.acts)
  row_safe e line told = stays (told.stays.kept PairKind.Notice refl notice_pair refl)

-- another node's step
nonces_other : (node k : ℕ) → k ≢ node → (line : Line) → IsBy line node → (old : List ℕ) → notice_nonces_after line k old ≡ old
nonces_other node k differ (Line.Notice server _ _ nonce _) is old = unless server k (nonce ∷ old) old (λ e. differ (sym e ∙ is))
nonces_other node k differ _ is old = refl

module _ (o : Opening) where
  abbrev SafeAt : List Step → ℕ → Type 0
  SafeAt T k = NoticeSafe (notice_nonces T k) (last_notice T k) (kept_at (shown_store o T k).kept notice_pair)

  safe_opening : (k : ℕ) → SafeAt [] k
  safe_opening k = record { falls = tt; floor = λ n has. absurd (in_none n has); top = λ l e. absurd (none-some _ e) }

  safe_actor : (T : List Step) (s : Step) → Legal o T s → is_server o.config s.actor ≡ true → SafeAt T s.actor → SafeAt (s ∷ T) s.actor
  safe_actor T s l its safe = subst (λ (b : Bool). NoticeSafe (notice_nonces (s ∷ T) s.actor) (last_notice (s ∷ T) s.actor) (kept_at (if b then s.shown else shown_store o T s.actor).kept notice_pair)) (sym (same_number s.actor))
      (row_safe (context_of o T s) its (notice_nonces T s.actor) safe s.event s.line (tells (context_of o T s) s.event s.line l.row))

  safe_other : (T : List Step) (s : Step) (k : ℕ) → k ≢ s.actor → Legal o T s → SafeAt T k → SafeAt (s ∷ T) k
  safe_other T s k differ l safe =
      let by = (tells (context_of o T s) s.event s.line l.row).by in
      subst (λ (ns : List ℕ). NoticeSafe ns (last_notice (s ∷ T) k) (kept_at (shown_store o (s ∷ T) k).kept notice_pair)) (sym (nonces_other s.actor k differ s.line by (notice_nonces T k)))
      (subst (λ (last : Option ℕ). NoticeSafe (notice_nonces T k) last (kept_at (shown_store o (s ∷ T) k).kept notice_pair)) (sym (last_notice_other s.actor k differ s.line by (last_notice T k)))
      (subst (λ (b : Bool). NoticeSafe (notice_nonces T k) (last_notice T k) (kept_at (if b then s.shown else shown_store o T k).kept notice_pair)) (sym (other_number s.actor k (λ e. differ (sym e)))) safe))

  safe_trace : (T : List Step) → LegalTrace o T → (k : ℕ) → is_server o.config k ≡ true → SafeAt T k
  safe_trace [] legal = λ k its. safe_opening k
  safe_trace (s ∷ T) legal = of_each (λ k. is_server o.config k ≡ true → SafeAt (s ∷ T) k) s.actor
      (λ its. safe_actor T s legal.0 its (safe_trace T legal.1 s.actor its)) (λ k differ its. safe_other T s k differ legal.0 (safe_trace T legal.1 k its))

pub notice_nonces_rise : (o : Opening) (T : List Step) → LegalTrace o T → NoticeNoncesRise T
notice_nonces_rise o T legal server = at (is_server o.config server) refl
  where
    at : (b : Bool) → is_server o.config server ≡ b → Falls (notice_nonces T server)
    at true its = (safe_trace o T legal server its).falls
    at false other = subst Falls (sym (no_notices o server other T legal)) tt

-- No two standing notices of a server have one nonce.

same_nonce : (router : RouterId) (now : ℕ) (x : Notice) → (resent_at router now x).nonce ≡ x.nonce
same_nonce router now x = at (router_eq x.router router)
  where
    at : (b : Bool) → (if b then record x { moments = now ∷ x.moments } else x).nonce ≡ x.nonce
    at true = refl
    at false = refl

-- its notices have nonces of the list
abbrev Known : List Notice → List ℕ → Type 0
Known old nonces = (x : Notice) → Contains old x → Contains nonces x.nonce

-- a nonce is that of one notice
abbrev Differ : List Notice → Type 0
Differ old = (m n : Notice) → Contains old m → Contains old n → m.nonce ≡ n.nonce → m ≡ n

-- a notice comes to those of other routers
module _ (one : Notice) (router : RouterId) (old : List Notice) (nonces : List ℕ) (known : Known old nonces) where
  known_more : Known (one ∷ notices_to_others router old) (one.nonce ∷ nonces)
  known_more x has = cases (head_or_tail one (notices_to_others router old) x has)
      (λ same. subst (λ (y : Notice). Contains (one.nonce ∷ nonces) y.nonce) (sym same) (at_head one.nonce nonces))
      (λ more. in_tail one.nonce nonces x.nonce (known x (of_others router old x more)))

  differ_more : Differ old → ((m : ℕ) → Contains nonces m → m < one.nonce) → Differ (one ∷ notices_to_others router old)
  differ_more differ above m n has_m has_n same = at (head_or_tail one (notices_to_others router old) m has_m) (head_or_tail one (notices_to_others router old) n has_n)
    where
      was : (x : Notice) → Contains (notices_to_others router old) x → Contains old x
      was = of_others router old

      apart : (x : Notice) → Contains (notices_to_others router old) x → x.nonce ≡ one.nonce → m ≡ n
      apart x more is = let low = above x.nonce (known x (was x more)) in absurd (omega (arith, low, is))

      at : (m ≡ one) ⊎ Contains (notices_to_others router old) m → (n ≡ one) ⊎ Contains (notices_to_others router old) n → m ≡ n
      at (inl one_m) (inl one_n) = one_m ∙ sym one_n
      at (inl one_m) (inr more_n) = apart n more_n (sym same ∙ ap (λ (x : Notice). x.nonce) one_m)
      at (inr more_m) (inl one_n) = apart m more_m (same ∙ ap (λ (x : Notice). x.nonce) one_n)
      at (inr more_m) (inr more_n) = differ m n (was m more_m) (was n more_n) same

module _ (o : Opening) where
  -- a notice's nonce comes to them, and they stay
  nonces_more : (line : Line) (k router key nonce datagram : ℕ) (nonces : List ℕ) → line ≡ Line.Notice k router key nonce datagram → notice_nonces_after line k nonces ≡ nonce ∷ nonces
  nonces_more line k router key nonce datagram nonces is = ap (λ (l : Line). notice_nonces_after l k nonces) is ∙ ap (λ (b : Bool). if b then nonce ∷ nonces else nonces) (same_number k)

  stays_known : (line : Line) (k n : ℕ) (nonces : List ℕ) → Contains nonces n → Contains (notice_nonces_after line k nonces) n
  stays_known (Line.Notice server _ _ nonce _) k n nonces has = at (server == k)
    where
      at : (b : Bool) → Contains (if b then nonce ∷ nonces else nonces) n
      at true = in_tail nonce nonces n has
      at false = has
  stays_known _ k n nonces has = has

  known_case : (line : Line) (now k : ℕ) (old : List Notice) (nonces : List ℕ) → Known old nonces → Known (notices_after o.config line now k old) (notice_nonces_after line k nonces)
  known_case line now k old nonces known = notices_left o.config now k old (λ ns. Known ns (notice_nonces_after line k nonces)) still again (λ router x has. still x (of_others router old x has)) (λ x has. absurd (in_none x has)) line more
    where
      still : Known old (notice_nonces_after line k nonces)
      still x has = stays_known line k x.nonce nonces (known x has)

      again : (router : RouterId) → Known (map (resent_at router now) old) (notice_nonces_after line k nonces)
      again router x has = let found = from_map (resent_at router now) old x has in subst (Contains (notice_nonces_after line k nonces)) (sym (ap (λ (y : Notice). y.nonce) found.2 ∙ same_nonce router now found.0)) (still found.0 found.1)

      more : (router key nonce datagram : ℕ) → line ≡ Line.Notice k router key nonce datagram
          → Known (record { router = (router_at o.config router).me; key = key; nonce = nonce; datagram = datagram; moments = now ∷ [] } ∷ notices_to_others (router_at o.config router).me old) (notice_nonces_after line k nonces)
      more router key nonce datagram is = subst (λ (ns : List ℕ). Known (record { router = (router_at o.config router).me; key = key; nonce = nonce; datagram = datagram; moments = now ∷ [] } ∷ notices_to_others (router_at o.config router).me old) ns)
          (sym (nonces_more line k router key nonce datagram nonces is)) (known_more (record { router = (router_at o.config router).me; key = key; nonce = nonce; datagram = datagram; moments = now ∷ [] }) (router_at o.config router).me old nonces known)

  known_nonces : (T : List Step) (k : ℕ) → Known (notices o T k) (notice_nonces T k)
  known_nonces [] k x has = absurd (in_none x has)
  known_nonces (s ∷ T) k x has = known_case s.line (clock T) k (notices o T k) (notice_nonces T k) (known_nonces T k) x has

  differ_case : (line : Line) (now k : ℕ) (old : List Notice) (nonces : List ℕ) → Known old nonces → Falls (notice_nonces_after line k nonces) → Differ old → Differ (notices_after o.config line now k old)
  differ_case line now k old nonces known falls differ = notices_left o.config now k old Differ differ again (λ router m n has_m has_n. differ m n (of_others router old m has_m) (of_others router old n has_n)) (λ m n has_m. absurd (in_none m has_m)) line
      (λ router key nonce datagram is. differ_more (record { router = (router_at o.config router).me; key = key; nonce = nonce; datagram = datagram; moments = now ∷ [] }) (router_at o.config router).me old nonces known differ (subst Falls (nonces_more line k router key nonce datagram nonces is) falls).0)
    where
      again : (router : RouterId) → Differ (map (resent_at router now) old)
      again router m n has_m has_n same =
          let of_m = from_map (resent_at router now) old m has_m in
          let of_n = from_map (resent_at router now) old n has_n in
          let both : of_m.0.nonce ≡ of_n.0.nonce = sym (ap (λ (y : Notice). y.nonce) of_m.2 ∙ same_nonce router now of_m.0) ∙ same ∙ ap (λ (y : Notice). y.nonce) of_n.2 ∙ same_nonce router now of_n.0 in
          of_m.2 ∙ ap (resent_at router now) (differ of_m.0 of_n.0 of_m.1 of_n.1 both) ∙ sym of_n.2

  pub notices_differ : (T : List Step) → LegalTrace o T → NoticesDiffer o T
  notices_differ [] legal k m n has_m has_n same = absurd (in_none m has_m)
  notices_differ (s ∷ T) legal k m n has_m has_n same = differ_case s.line (clock T) k (notices o T k) (notice_nonces T k) (known_nonces T k) (notice_nonces_rise o (s ∷ T) legal k) (notices_differ T legal.1 k) m n has_m has_n same
