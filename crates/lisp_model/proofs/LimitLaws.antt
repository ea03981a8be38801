-- A row that is held is that of a message that was accepted.
use Rattle.std.proofs.Common.{◌≡◌, ℕ, Bool, true, false, cond, List, [], ◌∷◌, ◌++◌, map, Option, Some, None, refl, sym, ap, inl, inr, ◌∙◌, Ok, subst, ◌+◌, ◌-◌, ◌≤◌, true≢false, arith}
use Rattle.std.specs.Prelude.{◌⊎◌, ◌&&◌, if◌then◌else◌, reverse, ◌==◌, ◌≢◌}
use Rattle.std.specs.List.{Contains, find, flat_map}
use Rattle.std.specs.Option.{option_and_then, option_map, unwrap_or, is_some}
use Rattle.std.proofs.lemmas.Option.{none-some}
use Rattle.std.proofs.lemmas.List.Elements.{Contains-append_cases, Contains-append_left, Contains-append_right}
use Rattle.lisp_records.specs.declared.router.RouterId.{RouterId}
use Rattle.lisp_records.specs.Address.{PrefixValue, prefix_eq}
use Rattle.lisp_records.specs.Record.{MapRecordValue}
use Rattle.lisp_records.specs.Router.{router_eq}
use Rattle.lisp_records.specs.Row.{RowValue, is_alive}
use Rattle.lisp_lookup.specs.Table.{is_row_of, if_alive}
use Rattle.lisp_admission.specs.Pairs.{router_of}
use Rattle.lisp_admission.specs.AcceptedRows.{row_value, row_values}
use Rattle.lisp_admission.proofs.Turned.{turned}
use Rattle.lisp_records.proofs.PartLaws.{part_look_up}
use Rattle.lisp_records.specs.Database.{record_for}
use Rattle.lisp_model.specs.Held.{Acceptance, accepted_rows, held_row, held_rows}
use Rattle.lisp_model.specs.Trace.{Step, Opening, clock, EventValue, sites, sites_after, time_of, Event, Line}
use Rattle.lisp_model.specs.Bag.{since_start, since_start_after, Arrival, acceptances_in, arrival_in, arrival_of, bag, junk_arrival}
use Rattle.lisp_model.specs.Accepted.{acceptances, acceptances_after, acceptances_in_step}
use Rattle.lisp_model.specs.Clean.{Clean}
use Rattle.lisp_model.specs.Legal.{LegalTrace, MayCome, context_of}
use Rattle.lisp_model.specs.Promises.{HeldWasSent, IsWithin, SitesStayWithin}
use Rattle.lisp_model.specs.Network.{IsNetwork}
use Rattle.lisp_model.proofs.ListLemmas.{at_head, in_tail, in_none, cases}
use Rattle.lisp_model.proofs.Origins.{accepted_was_sent, ReadsBack, one_taken}
use Rattle.lisp_model.proofs.ReplyOrigins.{entry_is}
use Rattle.std.proofs.lemmas.Bool.Decides.{Decides-eqb, Decides-ltb}
use Rattle.std.proofs.lemmas.Bool.{and_parts, cases_eq}
use Rattle.lisp_policy.specs.Site.{SiteValue, secret_of, site_of}
use Rattle.lisp_policy.specs.Extends.{extends}
use Rattle.lisp_messages.specs.Message.{MapRegisterValue}
use Rattle.lisp_admission.specs.Checks.{secret_at, secret_under, most_routers_at, most_rows_at}
use Rattle.lisp_admission.proofs.Secrets.{its_secret}
use Rattle.lisp_admission.proofs.Extended.{secret_kept, routers_widen, rows_widen}
use Rattle.lisp_records.specs.declared.address.Addr.{Addr}
use Rattle.lisp_records.proofs.RouterLaws.{router_eq-Decides}
use Rattle.lisp_lookup.specs.Growth.{AtMost, Fits, HasRow, HasRouter, StaysWithin}
use Rattle.lisp_lookup.proofs.GrowthLaws.{renewed_fits, fits_at_most}
use Rattle.lisp_model.specs.Receiving.{IsAccepted}
use Rattle.lisp_model.proofs.CleanLemmas.{in_find, in_flat_map, secret_in}
use Rattle.lisp_model.proofs.Locality.{same_number, unless}
use Rattle.lisp_model.proofs.RisingLaws.{taken_one}
use Rattle.lisp_model.proofs.Rows.{Arrived, tells}
use Rattle.lisp_model.proofs.RowLaws.{held_other}
use Rattle.lisp_model.proofs.HearingLemmas.{find_true}

module _ {X : Type 0} (p : X → Bool) where
  either_case : (x g : X) (xs ys : List X) (b : Bool) (far near : Option X) → cond b (Some x) far ≡ Some g → (far ≡ Some g → (near ≡ Some g) ⊎ (find p ys ≡ Some g)) → (cond b (Some x) near ≡ Some g) ⊎ (find p ys ≡ Some g)
  either_case x g xs ys true far near e later = inl e
  either_case x g xs ys false far near e later = later e

  find_either : (xs ys : List X) (g : X) → find p (xs ++ ys) ≡ Some g → (find p xs ≡ Some g) ⊎ (find p ys ≡ Some g)
  find_either [] ys g e = inr e
  find_either (x ∷ xs) ys g e = either_case x g xs ys (p x) (find p (xs ++ ys)) (find p xs) e (find_either xs ys g)

module _ {X Y : Type 0} (f : X → Y) where
  record FromFind (p : Y → Bool) (xs : List X) (g : Y) : Type 0 where
    value : X
    found : find (λ x. p (f x)) xs ≡ Some value
    is : g ≡ f value

  case_of : (p : Y → Bool) (x : X) (xs : List X) (g : Y) (b : Bool) → p (f x) ≡ b → cond b (Some (f x)) (find p (map f xs)) ≡ Some g → (find p (map f xs) ≡ Some g → FromFind p xs g) → FromFind p (x ∷ xs) g
  case_of p x xs g true is e later = let same : f x ≡ g = cc in record { value = x; found = ap (λ b. cond b (Some x) (find (λ x. p (f x)) xs)) is; is = sym same }
  case_of p x xs g false is e later = let one = later e in record { value = one.value; found = ap (λ b. cond b (Some x) (find (λ x. p (f x)) xs)) is ∙ one.found; is = one.is }

  find_map : (p : Y → Bool) (xs : List X) (g : Y) → find p (map f xs) ≡ Some g → FromFind p xs g
  find_map p [] g e = absurd (none-some g e)
  find_map p (x ∷ xs) g e = case_of p x xs g (p (f x)) refl e (find_map p xs g)

-- a row that is held is that of a message
pub record Found (since : List Acceptance) (router : RouterId) (eid : PrefixValue) (g : RowValue) : Type 0 where
  pub acceptance : Acceptance
  pub taken : Contains since acceptance
  pub mapping : MapRecordValue
  pub last : find (λ r. router_eq (router_of acceptance.message) router && prefix_eq r.eid eid) (reverse acceptance.message.records) ≡ Some mapping
  pub is : g ≡ row_value acceptance.message acceptance.from acceptance.moment mapping

found_in : (since : List Acceptance) (router : RouterId) (eid : PrefixValue) (g : RowValue) → find (is_row_of router eid) (accepted_rows since) ≡ Some g → Found since router eid g
found_in [] router eid g e = absurd (none-some _ e)
found_in (a ∷ since) router eid g e = cases (find_either (is_row_of router eid) (reverse (row_values a.message a.from a.moment)) (accepted_rows since) g e)
    (λ here. let one = find_map (row_value a.message a.from a.moment) (is_row_of router eid) (reverse a.message.records) g (ap (find (is_row_of router eid)) (turned (row_value a.message a.from a.moment) a.message.records) ∙ here) in
    record { acceptance = a; taken = at_head a since; mapping = one.value; last = one.found; is = one.is })
    (λ there. let f = found_in since router eid g there in record { acceptance = f.acceptance; taken = in_tail a since f.acceptance f.taken; mapping = f.mapping; last = f.last; is = f.is })

pub held_found : (since : List Acceptance) (router : RouterId) (eid : PrefixValue) (now : ℕ) (g : RowValue) → held_row since router eid now ≡ Some g → Found since router eid g
held_found since router eid now g e = at (find (is_row_of router eid) (accepted_rows since)) refl e
  where
    alive : (h : RowValue) (b : Bool) → (if b then Some h else None) ≡ Some g → h ≡ g
    alive h true e = cc
    alive h false e = absurd (none-some _ e)

    at : (o : Option RowValue) → find (is_row_of router eid) (accepted_rows since) ≡ o → option_and_then (if_alive now) o ≡ Some g → Found since router eid g
    at None is e = absurd (none-some _ e)
    at (Some h) is e = found_in since router eid g (is ∙ ap Some (alive h (is_alive h now) e))

-- Over clean traces what is held is what was sent.

-- what was accepted since the start was accepted
within : (line : Line) (new new_since old : List Acceptance) (k : ℕ) (x : Acceptance) → (Contains new_since x → Contains old x) → Contains (since_start_after line new k new_since) x → Contains (acceptances_after line new k old) x
within (Line.Accepted server _ _ _ _) new sin old k x before has = at (server == k) has
  where
    at : (b : Bool) → Contains (if b then new ++ sin else sin) x → Contains (if b then new ++ old else old) x
    at true has = cases (Contains-append_cases new sin x has)
        (λ one. Contains-append_left new old x one)
        (λ later. Contains-append_right new old x (before later))
    at false has = before has
within (Line.Restarted node) new sin old k x before has = at (node == k) has
  where
    at : (b : Bool) → Contains (if b then [] else sin) x → Contains old x
    at true has = absurd (in_none x has)
    at false has = before has
within (Line.Renewed server _) new sin old k x before has = at (server == k) has
  where
    at : (b : Bool) → Contains (if b then [] else sin) x → Contains old x
    at true has = absurd (in_none x has)
    at false has = before has
within _ new sin old k x before has = before has

pub since_accepted : (o : Opening) (T : List Step) (k : ℕ) (x : Acceptance) → Contains (since_start o T k) x → Contains (acceptances o T k) x
since_accepted o [] k x has = absurd (in_none x has)
since_accepted o (s ∷ T) k x has = within s.line (acceptances_in_step o T s) (since_start o T k) (acceptances o T k) k x (since_accepted o T k x) has

-- a search under a fact finds what the search finds
module _ {X : Type 0} (p : X → Bool) where
  under_none : (xs : List X) → find (λ x. false && p x) xs ≡ None
  under_none [] = refl
  under_none (x ∷ xs) = under_none xs

  under_fact : (b : Bool) (xs : List X) (v : X) → find (λ x. b && p x) xs ≡ Some v → find p xs ≡ Some v
  under_fact true xs v e = e
  under_fact false xs v e = absurd (none-some _ (sym (under_none xs) ∙ e))

module _ (o : Opening) (distinct : IsNetwork o.config) (reads : ReadsBack) (T : List Step) (legal : LegalTrace o T) (clean : Clean o T) where
  pub held_was_sent : HeldWasSent o T
  held_was_sent server router eid h is_held =
      let x = held_found (since_start o T server) router eid (clock T) h is_held in
      let found = accepted_was_sent o distinct.addresses reads T legal clean server x.acceptance (since_accepted o T server x.acceptance x.taken) in
      let w = found.1 in
      let has : record_for x.acceptance.message.records eid ≡ Some x.mapping = under_fact (λ m. prefix_eq m.eid eid) (router_eq (router_of x.acceptance.message) router) (reverse x.acceptance.message.records) x.mapping x.last in (
        found.0,
        w.sent,
        w.whom,
        record {
          router = ap (λ (z : RowValue). z.router) x.is ∙ ap router_of w.message;
          key = ap (λ (z : RowValue). z.key) x.is ∙ ap (λ m. m.key_id) w.message;
          nonce = ap (λ (z : RowValue). z.nonce) x.is ∙ ap (λ m. m.nonce) w.message;
        },
        part_look_up found.0.database found.0.part eid h.mapping (entry_is o T legal found.0 w.sent).fits (ap (λ m. record_for m.records eid) (sym w.message) ∙ has ∙ ap Some (sym (ap (λ (z : RowValue). z.mapping) x.is))),
        record {
          acceptance = x.acceptance;
          taken = x.taken;
          message = w;
          row = x.is ∙ ap (row_value x.acceptance.message x.acceptance.from x.acceptance.moment) (sym (ap (λ (z : RowValue). z.mapping) x.is));
        },
      )

-- What a legal step does to the sites of a Map-Server, and what was accepted under them since its start.

-- a site has a secret under a key
abbrev pub Signs : List SiteValue → ℕ → ℕ → Type 0
Signs sites site key = (secret : List ℕ) × (secret_at sites site key ≡ Some secret)

-- sites stay, or others come that have all that they had
abbrev pub Keeps : List SiteValue → List SiteValue → Type 0
Keeps old new = (new ≡ old) ⊎ (extends old new ≡ true)

pub signs_on : (old new : List SiteValue) (site key : ℕ) → Keeps old new → Signs old site key → Signs new site key
signs_on old new site key (inl same) signs = subst (λ (sites : List SiteValue). Signs sites site key) (sym same) signs
signs_on old new site key (inr more) signs = (signs.0, secret_kept old new more site key signs.0 signs.1)

-- the secret is one of those of the sites
pub signs_in : (sites : List SiteValue) (site key : ℕ) → Signs sites site key → Contains (flat_map (λ s. map (λ k. k.secret) s.keys) sites) (unwrap_or (secret_at sites site key) [])
signs_in sites site key signs = by (site_of sites site) refl signs.1
  where
    by : (o : Option SiteValue) → site_of sites site ≡ o → option_and_then (λ s. secret_of s key) o ≡ Some signs.0 → Contains (flat_map (λ s. map (λ k. k.secret) s.keys) sites) (unwrap_or (secret_at sites site key) [])
    by None is e = absurd (none-some signs.0 e)
    by (Some its) is e = subst (λ (found : Option (List ℕ)). Contains (flat_map (λ s. map (λ k. k.secret) s.keys) sites) (unwrap_or found [])) (sym signs.1)
        (in_flat_map (λ s. map (λ k. k.secret) s.keys) sites its signs.0 (in_find (λ s. s.id == site) sites its is) (secret_in its key signs.0 e))

-- a server starts anew under other sites
abbrev pub Renews : Line → ℕ → Type 0
Renews (Line.Renewed server _) k = server ≡ k
Renews _ k = ⊥

module _ (o : Opening) (T : List Step) (s : Step) where
  pub sites_step : (e : EventValue) (line : Line) → MayCome (context_of o T s) e line → (k : ℕ) → Keeps (sites o T k) (sites_after e k (sites o T k)) ⊎ Renews line k
  sites_step (Event.Reload server new) (Line.Reloaded named count) row k = at (server == k) refl
    where
      at : (b : Bool) → (server == k) ≡ b → Keeps (sites o T k) (if b then new else sites o T k) ⊎ ⊥
      at true is = inl (inr (subst (λ (n : ℕ). extends (sites o T n) new ≡ true) (row.acts.acts ∙ (Decides-eqb server k).0 is) row.keeps))
      at false is = inl (inl refl)
  sites_step (Event.Reload server new) (Line.Renewed named count) row k = at (server == k) refl
    where
      at : (b : Bool) → (server == k) ≡ b → Keeps (sites o T k) (if b then new else sites o T k) ⊎ (named ≡ k)
      at true is = inr (row.names ∙ (Decides-eqb server k).0 is)
      at false is = inl (inl refl)
  sites_step (Event.Reload server new) _ row k = absurd row
  sites_step _ line row k = inl (inl refl)

  -- an accepted message was checked under a secret of its site
  pub accepted_signs : (a : Arrival) (server : ℕ) (row : (router : _) × (key : ℕ) × (nonce : ℕ) × (datagram : Option ℕ) × IsAccepted (context_of o T s) a server router key nonce datagram) (x : Acceptance)
      → Contains (acceptances_in (Some a) (clock T)) x → Signs (sites o T server) x.message.site x.message.key_id
  accepted_signs a server row x has = subst (λ (m : MapRegisterValue). Signs (sites o T server) m.site m.key_id) (sym (ap (λ (y : Acceptance). y.message) is)) signs
    where
      its : IsAccepted (context_of o T s) a server row.0 row.1 row.2 row.3
      its = row.4

      is : x ≡ record { message = its.message; from = a.from; moment = clock T }
      is = one_taken a (clock T) its.message its.admits.read x has

      signs : Signs (sites o T server) its.message.site its.message.key_id
      signs = (
        its.admits.secret,
        its_secret (sites o T server) a.from a.bytes its.message its.admits.secret
            (subst (λ (n : ℕ). secret_under (sites o T n) a.from a.bytes its.message ≡ Ok its.admits.secret) its.acts.acts its.admits.checks),
      )

  -- where a server starts anew, nothing was accepted since
  forgotten : (node k : ℕ) (x : Acceptance) → Contains (if node == k then [] else since_start o T k) x → (Contains (since_start o T k) x → Signs (sites o T k) x.message.site x.message.key_id) → Signs (sites o T k) x.message.site x.message.key_id
  forgotten node k x has old = at (node == k) has
    where
      at : (b : Bool) → Contains (if b then [] else since_start o T k) x → Signs (sites o T k) x.message.site x.message.key_id
      at true has = absurd (in_none x has)
      at false has = old has

  since_case : (e : EventValue) (line : Line) → MayCome (context_of o T s) e line → (k : ℕ) (x : Acceptance) → Contains (since_start_after line (acceptances_in (arrival_in (bag o T) e) (clock T)) k (since_start o T k)) x
      → (Contains (since_start o T k) x → Signs (sites o T k) x.message.site x.message.key_id) → Keeps (sites o T k) (sites_after e k (sites o T k)) ⊎ Renews line k → Signs (sites_after e k (sites o T k)) x.message.site x.message.key_id
  since_case e (Line.Accepted server router key nonce datagram) row k x has old (inl keeps) = signs_on (sites o T k) (sites_after e k (sites o T k)) x.message.site x.message.key_id keeps (at (server == k) refl has)
    where
      f : Arrived (context_of o T s) e (Line.Accepted server router key nonce datagram)
      f = (tells (context_of o T s) e (Line.Accepted server router key nonce datagram) row).follows

      new : Contains (acceptances_in (arrival_in (bag o T) e) (clock T)) x → Signs (sites o T server) x.message.site x.message.key_id
      new has = accepted_signs f.arrival server (router, key, nonce, datagram, f.row) x (subst (λ (a : Option Arrival). Contains (acceptances_in a (clock T)) x) f.is has)

      at : (b : Bool) → (server == k) ≡ b → Contains (if b then acceptances_in (arrival_in (bag o T) e) (clock T) ++ since_start o T k else since_start o T k) x → Signs (sites o T k) x.message.site x.message.key_id
      at true is has = cases (Contains-append_cases (acceptances_in (arrival_in (bag o T) e) (clock T)) (since_start o T k) x has)
          (λ one. subst (λ (n : ℕ). Signs (sites o T n) x.message.site x.message.key_id) ((Decides-eqb server k).0 is) (new one))
          (λ before. old before)
      at false is has = old has
  since_case e (Line.Restarted node) row k x has old (inl keeps) = signs_on (sites o T k) (sites_after e k (sites o T k)) x.message.site x.message.key_id keeps (forgotten node k x has old)
  since_case e (Line.Renewed server count) row k x has old (inl keeps) = signs_on (sites o T k) (sites_after e k (sites o T k)) x.message.site x.message.key_id keeps (forgotten server k x has old)
  since_case e (Line.Renewed server count) row k x has old (inr renews) = absurd (in_none x (subst (λ (b : Bool). Contains (if b then [] else since_start o T k) x) (ap (λ (n : ℕ). n == k) renews ∙ same_number k) has))
  since_case e line row k x has old (inl keeps) = signs_on (sites o T k) (sites_after e k (sites o T k)) x.message.site x.message.key_id keeps (old has)
  since_case e line row k x has old (inr renews) = absurd renews

-- each message that a server accepted since its start is of a site that it has, under a key of that site
pub since_signs : (o : Opening) (T : List Step) → LegalTrace o T → (k : ℕ) (x : Acceptance) → Contains (since_start o T k) x → Signs (sites o T k) x.message.site x.message.key_id
since_signs o [] legal k x has = absurd (in_none x has)
since_signs o (s ∷ T) legal k x has = since_case o T s s.event s.line legal.0.row k x has (since_signs o T legal.1 k x) (sites_step o T s s.event s.line legal.0.row k)

-- At each moment a server holds no more of a site than the site may have.

-- what is alive at a moment was alive before
pub alive_before : (h : RowValue) (now later : ℕ) → now ≤ later → is_alive h later ≡ true → is_alive h now ≡ true
alive_before h now later before lives = let lt = (Decides-ltb (later - h.accepted) h.life).0 lives in (Decides-ltb (now - h.accepted) h.life).1 (omega (arith, lt, before))

live_before : (since : List Acceptance) (now later : ℕ) → now ≤ later → (router : RouterId) (eid : PrefixValue) → is_some (held_rows since later router eid) ≡ true → is_some (held_rows since now router eid) ≡ true
live_before since now later before router eid some = by (find (is_row_of router eid) (accepted_rows since)) some
  where
    at : (h : RowValue) (b c : Bool) → (b ≡ true → c ≡ true) → is_some (if b then Some h else None) ≡ true → is_some (if c then Some h else None) ≡ true
    at h b true keeps some = refl
    at h true false keeps some = absurd (true≢false (sym (keeps refl)))
    at h false false keeps some = absurd (true≢false (sym some))

    by : (o : Option RowValue) → is_some (option_and_then (if_alive later) o) ≡ true → is_some (option_and_then (if_alive now) o) ≡ true
    by None some = absurd (true≢false (sym some))
    by (Some h) some = at h (is_alive h later) (is_alive h now) (alive_before h now later before) some

module _ (sites : List SiteValue) (site : ℕ) where
  -- time takes rows away alone
  passes : (since : List Acceptance) (now later : ℕ) → now ≤ later → IsWithin sites since now site → IsWithin sites since later site
  passes since now later before was = record {
    routers = λ most is. renewed_fits most (HasRouter (held_rows since now) site) (HasRouter (held_rows since later) site) (was.routers most is) (λ router has. (has.0, has.1, live_before since now later before router has.1 has.2));
    rows = λ most is. renewed_fits most (HasRow (held_rows since now) site) (HasRow (held_rows since later) site) (was.rows most is) (λ key has. (has.0, live_before since now later before key.0 key.1 has.1));
  }

  -- nothing is held at first
  none_within : (now : ℕ) → IsWithin sites [] now site
  none_within now = record {
    routers = λ most is. ([], omega arith, λ router has. absurd (true≢false (sym has.2)));
    rows = λ most is. ([], omega arith, λ key has. absurd (true≢false (sym has.1)));
  }

  -- a Map-Register is accepted where its site has space for it
  module _ (m : MapRegisterValue) (from : Addr) (now : ℕ) (since : List Acceptance) (was : IsWithin sites since now site)
      (fits : Fits (most_routers_at sites m.site) (most_rows_at sites m.site) m.site (held_rows since now) (held_rows (record { message = m; from = from; moment = now } ∷ since) now)) where
    abbrev more : List Acceptance
    more = record { message = m; from = from; moment = now } ∷ since

    own : site ≡ m.site → IsWithin sites more now site
    own is = record {
      routers = λ most limit. fits_at_most most (HasRouter (held_rows since now) site) (HasRouter (held_rows more now) site) (was.routers most limit)
          (subst (λ (o : Option ℕ). StaysWithin o (HasRouter (held_rows since now) site) (HasRouter (held_rows more now) site)) limit
          (subst (λ (s : ℕ). StaysWithin (most_routers_at sites s) (HasRouter (held_rows since now) s) (HasRouter (held_rows more now) s)) (sym is) fits.routers));
      rows = λ most limit. fits_at_most most (HasRow (held_rows since now) site) (HasRow (held_rows more now) site) (was.rows most limit)
          (subst (λ (o : Option ℕ). StaysWithin o (HasRow (held_rows since now) site) (HasRow (held_rows more now) site)) limit
          (subst (λ (s : ℕ). StaysWithin (most_rows_at sites s) (HasRow (held_rows since now) s) (HasRow (held_rows more now) s)) (sym is) fits.rows));
    }

    -- the rows of another site stay
    not_its : (router : RouterId) → router.site ≡ site → site ≢ m.site → router_eq (router_of m) router ≡ false
    not_its router of differ = at (router_eq (router_of m) router) refl
      where
        at : (b : Bool) → router_eq (router_of m) router ≡ b → b ≡ false
        at true same = absurd (differ (sym of ∙ sym (ap (λ (r : RouterId). r.site) ((router_eq-Decides (router_of m) router).0 same))))
        at false other = refl

    stays : site ≢ m.site → (router : RouterId) (eid : PrefixValue) → router.site ≡ site → is_some (held_rows more now router eid) ≡ true → is_some (held_rows since now router eid) ≡ true
    stays differ router eid of some = ap is_some (held_other m from now since router eid (not_its router of differ)) ∙ some

    others : site ≢ m.site → IsWithin sites more now site
    others differ = record {
      routers = λ most limit. renewed_fits most (HasRouter (held_rows since now) site) (HasRouter (held_rows more now) site) (was.routers most limit) (λ router has. (has.0, has.1, stays differ router has.1 has.0 has.2));
      rows = λ most limit. renewed_fits most (HasRow (held_rows since now) site) (HasRow (held_rows more now) site) (was.rows most limit) (λ key has. (has.0, stays differ key.0 key.1 has.0 has.1));
    }

    one_more : IsWithin sites more now site
    one_more = cases (cases_eq site m.site)
        (λ is. own is)
        (λ differ. others differ)

at_most_more : {K : Type 0} (least most : ℕ) (Is : K → Type 0) → least ≤ most → AtMost Is least → AtMost Is most
at_most_more least most Is wide (listed, few, all) = (listed, omega (arith, wide, few), all)

-- sites whose limits are as wide
module _ (old new : List SiteValue) (site : ℕ) (since : List Acceptance) (now : ℕ) (known : (x : Acceptance) → Contains since x → Signs old x.message.site x.message.key_id) where
  -- nothing is held of a site that isn't there
  none_of : site_of old site ≡ None → (router : RouterId) (eid : PrefixValue) → router.site ≡ site → is_some (held_rows since now router eid) ≡ true → ⊥
  none_of none router eid of some = by (held_rows since now router eid) refl some
    where
      no_secret : (key : ℕ) → Signs old site key → ⊥
      no_secret key signs = none-some _ (sym (ap (option_and_then (λ s. secret_of s key)) none) ∙ signs.1)

      by : (h : Option RowValue) → held_rows since now router eid ≡ h → is_some h ≡ true → ⊥
      by None is some = true≢false (sym some)
      by (Some h) is some =
          let found = held_found since router eid now h is in
          let matches = find_true (λ r. router_eq (router_of found.acceptance.message) router && prefix_eq r.eid eid) (reverse found.acceptance.message.records) found.mapping found.last in
          let who = (router_eq-Decides (router_of found.acceptance.message) router).0 (and_parts (router_eq (router_of found.acceptance.message) router) (prefix_eq found.mapping.eid eid) matches).0 in
          let its : Signs old router.site found.acceptance.message.key_id = subst (λ (r : RouterId). Signs old r.site found.acceptance.message.key_id) who (known found.acceptance found.taken) in
          no_secret found.acceptance.message.key_id (subst (λ (n : ℕ). Signs old n found.acceptance.message.key_id) of its)

  widens : extends old new ≡ true → IsWithin old since now site → IsWithin new since now site
  widens more was = by (site_of old site) refl
    where
      by : (o : Option SiteValue) → site_of old site ≡ o → IsWithin new since now site
      by None none = record {
        routers = λ most is. ([], omega arith, λ router has. absurd (none_of none router has.1 has.0 has.2));
        rows = λ most is. ([], omega arith, λ key has. absurd (none_of none key.0 key.1 has.0 has.1));
      }
      by (Some its) found = record {
        routers = λ most is. let w = routers_widen old new more site its found most is in at_most_more w.0 most (HasRouter (held_rows since now) site) w.2 (was.routers w.0 w.1);
        rows = λ most is. let w = rows_widen old new more site its found most is in at_most_more w.0 most (HasRow (held_rows since now) site) w.2 (was.rows w.0 w.1);
      }

-- a legal step keeps to the limits
module _ (o : Opening) (T : List Step) (legal : LegalTrace o T) (s : Step) (server site : ℕ) (was : IsWithin (sites o T server) (since_start o T server) (clock T) site) where
  abbrev now : ℕ
  now = clock T

  abbrev old : List Acceptance
  old = since_start o T server

  abbrev its : List SiteValue
  its = sites o T server

  later : (since : List Acceptance) (e : EventValue) (has : List SiteValue) → IsWithin has since now site → IsWithin has since (now + time_of e) site
  later since e has within = passes has site since now (now + time_of e) (omega arith) within

  keeps : (since : List Acceptance) (new : List SiteValue) → ((x : Acceptance) → Contains since x → Contains old x) → Keeps its new → IsWithin its since now site → IsWithin new since now site
  keeps since new sub (inl same) within = subst (λ (has : List SiteValue). IsWithin has since now site) (sym same) within
  keeps since new sub (inr more) within = widens its new site since now (λ x has. since_signs o T legal server x (sub x has)) more within

  accepts : (a : Arrival) (named : ℕ) (router : RouterId) (key nonce : ℕ) (datagram : Option ℕ) → IsAccepted (context_of o T s) a named router key nonce datagram
      → IsWithin its (if named == server then acceptances_in (Some a) now ++ old else old) now site
  accepts a named router key nonce datagram row = cases (cases_eq named server)
      (λ is. subst (λ (b : Bool). IsWithin its (if b then acceptances_in (Some a) now ++ old else old) now site) (sym (ap (λ (n : ℕ). n == server) is ∙ same_number server))
      (subst (λ (new : List Acceptance). IsWithin its (new ++ old) now site) (sym (taken_one a now row.message row.admits.read)) (taken is)))
      (λ differ. subst (λ (since : List Acceptance). IsWithin its since now site) (sym (unless named server (acceptances_in (Some a) now ++ old) old differ)) was)
    where
      taken : named ≡ server → IsWithin its (record { message = row.message; from = a.from; moment = now } ∷ old) now site
      taken is = one_more its site row.message a.from now old was
          (subst (λ (node : ℕ). Fits (most_routers_at (sites o T node) row.message.site) (most_rows_at (sites o T node) row.message.site) row.message.site (held_rows (since_start o T node) now) (held_rows (record { message = row.message; from = a.from; moment = now } ∷ since_start o T node) now)) (row.acts.acts ∙ is) row.space)

  renews : (named : ℕ) (new : List SiteValue) → Keeps its new ⊎ (named ≡ server) → IsWithin new (if named == server then [] else old) now site
  renews named new (inl kept) = by (named == server)
    where
      by : (b : Bool) → IsWithin new (if b then [] else old) now site
      by true = none_within new site now
      by false = keeps old new (λ x has. has) kept was
  renews named new (inr is) = subst (λ (b : Bool). IsWithin new (if b then [] else old) now site) (sym (ap (λ (n : ℕ). n == server) is ∙ same_number server)) (none_within new site now)

  within_after : (e : EventValue) (line : Line) → MayCome (context_of o T s) e line → Keeps its (sites_after e server its) ⊎ Renews line server
      → IsWithin (sites_after e server its) (since_start_after line (acceptances_in (arrival_in (bag o T) e) now) server old) (now + time_of e) site
  within_after (Event.Deliver k fate) (Line.Accepted named router key nonce datagram) row kept = later _ (Event.Deliver k fate) its
      (subst (λ (a : Option Arrival). IsWithin its (if named == server then acceptances_in a now ++ old else old) now site) (sym (ap (option_map arrival_of) row.sent)) (accepts (arrival_of row.item) named router key nonce datagram row.arrives))
  within_after (Event.Junk to from bytes) (Line.Accepted named router key nonce datagram) row kept = later _ (Event.Junk to from bytes) its (accepts (junk_arrival from bytes) named router key nonce datagram row.arrives)
  within_after e (Line.Accepted named router key nonce datagram) row kept = absurd row
  within_after e (Line.Restarted named) row (inl kept) = later _ e (sites_after e server its) (renews named (sites_after e server its) (inl kept))
  within_after e (Line.Renewed named count) row kept = later _ e (sites_after e server its) (renews named (sites_after e server its) kept)
  within_after e line row (inl kept) = later old e (sites_after e server its) (keeps old (sites_after e server its) (λ x has. has) kept was)
  within_after e line row (inr renewed) = absurd renewed

pub sites_stay_within : (o : Opening) (T : List Step) → LegalTrace o T → SitesStayWithin o T
sites_stay_within o [] legal server site = none_within o.config.sites site 0
sites_stay_within o (s ∷ T) legal server site = within_after o T legal.1 s server site (sites_stay_within o T legal.1 server site) s.event s.line legal.0.row (sites_step o T s s.event s.line legal.0.row server)
