-- Entries with no change between have one database.
use Rattle.std.proofs.Common.{◌≡◌, ℕ, zero, suc, ◌<◌, false, List, [], ◌∷◌, ◌++◌, length, Some, refl, sym, ap, subst, inl, inr, ◌∙◌, arith}
use Rattle.std.specs.Prelude.{◌⊎◌, if◌then◌else◌, reverse, slice_get}
use Rattle.std.specs.List.{Contains}
use Rattle.std.proofs.lemmas.List.{length-reverse, reverse-append}
use Rattle.lisp_records.specs.Record.{MapRecordValue}
use Rattle.lisp_model.specs.Trace.{EventValue, Step, Opening, database, database_after, Event, Line}
use Rattle.lisp_model.specs.History.{SentRegister, sent_registers_in, history}
use Rattle.lisp_model.specs.Change.{gives_database, Keeps}
use Rattle.lisp_model.specs.Legal.{Legal, LegalTrace, context_of}
use Rattle.lisp_model.proofs.ListLemmas.{head_or_tail, in_none, cases}
use Rattle.lisp_model.proofs.Rows.{Following, tells}

-- an event that gives nothing
given_none : (e : EventValue) (line : Line) (r : ℕ) (old : List MapRecordValue) → gives_database e r ≡ false → database_after e line r old ≡ old
given_none (Event.Change router db) (Line.Changed _ _) r old none = ap (λ b. if b then db else old) none
given_none (Event.Restart node pick (Some db)) line r old none = ap (λ b. if b then db else old) none
given_none (Event.Lose node key (Some db)) line r old none = ap (λ b. if b then db else old) none
given_none e line r old none = refl

-- places in a list with one more element at its end
module _ {X : Type 0} where
  get_before : (xs ys : List X) (k : ℕ) → k < length xs → slice_get (xs ++ ys) k ≡ slice_get xs k
  get_before [] ys k low = absurd (omega arith)
  get_before (x ∷ xs) ys zero low = refl
  get_before (x ∷ xs) ys (suc k) low = get_before xs ys k (omega arith)

  pub get_last : (xs : List X) (y : X) → slice_get (xs ++ y ∷ []) (length xs) ≡ Some y
  get_last [] y = refl
  get_last (x ∷ xs) y = get_last xs y

module _ (s : Step) (T : List Step) where
  reversed : reverse (s ∷ T) ≡ reverse T ++ s ∷ []
  reversed = reverse-append (s ∷ []) T

  earlier_place : (place : ℕ) → place < length T → slice_get (reverse (s ∷ T)) place ≡ slice_get (reverse T) place
  earlier_place place low = ap (λ (xs : List Step). slice_get xs place) reversed ∙ get_before (reverse T) (s ∷ []) place (let long = length-reverse T in omega (arith, low, long))

  last_place : slice_get (reverse (s ∷ T)) (length T) ≡ Some s
  last_place = ap (λ (xs : List Step). slice_get xs (length T)) reversed ∙ ap (λ (k : ℕ). slice_get (reverse T ++ s ∷ []) k) (sym (length-reverse T)) ∙ get_last (reverse T) s

-- an entry is that of the last step, or an old one
pub record IsNew (o : Opening) (T : List Step) (line : Line) (d : SentRegister) : Type 0 where
  pub router : ℕ
  pub server : ℕ
  pub part : ℕ
  pub key : ℕ
  pub nonce : ℕ
  pub datagram : ℕ
  pub sent : line ≡ Line.Sent router server part key nonce datagram
  pub is : d ≡ record { router = router; key = key; nonce = nonce; server = server; database = database o T router; part = part; position = length T }

pub new_or_old : (o : Opening) (T : List Step) (line : Line) (d : SentRegister) → Contains (sent_registers_in o T line ++ history o T) d → IsNew o T line d ⊎ Contains (history o T) d
new_or_old o T (Line.Sent router server part key nonce datagram) d has = cases (head_or_tail _ (history o T) d has)
    (λ e. inl (record { router = router; server = server; part = part; key = key; nonce = nonce; datagram = datagram; sent = refl; is = e }))
    (λ old. inr old)
new_or_old o T _ d has = inr has

module _ (o : Opening) where
  below_length : (T : List Step) (d : SentRegister) → Contains (history o T) d → d.position < length T
  below_length [] d has = absurd (in_none d has)
  below_length (s ∷ T) d has = cases (new_or_old o T s.line d has)
      (λ new. let e = ap (λ (x : SentRegister). x.position) new.is in omega (arith, e))
      (λ old. let low = (below_length T d) old in omega (arith, low))

  -- nothing was given to a router after a place
  abbrev NothingAfter : List Step → ℕ → ℕ → Type 0
  NothingAfter T r p = (place : ℕ) (s : Step) → p < place → place < length T → slice_get (reverse T) place ≡ Some s → gives_database s.event r ≡ false

  nothing_before : (s : Step) (T : List Step) (r p : ℕ) → NothingAfter (s ∷ T) r p → NothingAfter T r p
  nothing_before s T r p none place x low high is = none place x low (omega (arith, high)) (earlier_place s T place high ∙ is)

  -- its event is a send, which gives nothing
  pub new_follows : (T : List Step) (s : Step) → Legal o T s → (d : SentRegister) → (new : IsNew o T s.line d) → Following (context_of o T s) s.event (Line.Sent new.router new.server new.part new.key new.nonce new.datagram)
  new_follows T s l d new = subst (λ (line : Line). Following (context_of o T s) s.event line) new.sent (tells (context_of o T s) s.event s.line l.row).follows

  new_sent : (T : List Step) (s : Step) → Legal o T s → (d : SentRegister) → (new : IsNew o T s.line d) → gives_database s.event d.router ≡ false
  new_sent T s l d new = subst (λ (e : EventValue). gives_database e d.router ≡ false) (new_follows T s l d new).1 refl

  kept_since : (T : List Step) → LegalTrace o T → (d : SentRegister) → Contains (history o T) d → NothingAfter T d.router d.position → d.database ≡ database o T d.router
  kept_since [] legal d has none = absurd (in_none d has)
  kept_since (s ∷ T) legal d has none = cases (new_or_old o T s.line d has)
      (λ new. ap (λ (x : SentRegister). x.database) new.is ∙ ap (database o T) (sym (ap (λ (x : SentRegister). x.router) new.is)) ∙ sym (given_none s.event s.line d.router (database o T d.router) (new_sent T s legal.0 d new)))
      (λ old. kept_since T legal.1 d old (nothing_before s T d.router d.position none) ∙ sym (given_none s.event s.line d.router (database o T d.router) (none (length T) s (below_length T d old) (omega arith) (last_place s T))))

  -- the later of two entries of a router has the database of the earlier
  pub same_database : (T : List Step) → LegalTrace o T → (d e : SentRegister) → Contains (history o T) d → Contains (history o T) e → d.router ≡ e.router → d.position < e.position → Keeps T d.router d.position e.position → d.database ≡ e.database
  same_database [] legal d e has_d has_e = absurd (in_none d has_d)
  same_database (s ∷ T) legal d e has_d has_e = at (new_or_old o T s.line d has_d) (new_or_old o T s.line e has_e) (same_database T legal.1 d e)
    where
      at : IsNew o T s.line d ⊎ Contains (history o T) d → IsNew o T s.line e ⊎ Contains (history o T) e
          → (Contains (history o T) d → Contains (history o T) e → d.router ≡ e.router → d.position < e.position → Keeps T d.router d.position e.position → d.database ≡ e.database)
          → d.router ≡ e.router → d.position < e.position → Keeps (s ∷ T) d.router d.position e.position → d.database ≡ e.database
      at (inl new) (inl other) later router before keeps = let p = ap (λ (x : SentRegister). x.position) new.is in let q = ap (λ (x : SentRegister). x.position) other.is in absurd (omega (arith, p, q, before))
      at (inl new) (inr old) later router before keeps = let p = ap (λ (x : SentRegister). x.position) new.is in let q = below_length T e old in absurd (omega (arith, p, q, before))
      at (inr old) (inl new) later router before keeps =
          let q = ap (λ (x : SentRegister). x.position) new.is in
          kept_since T legal.1 d old (λ place x low high is. keeps place x low (omega (arith, high, q)) (earlier_place s T place high ∙ is))
          ∙ ap (database o T) (router ∙ ap (λ (x : SentRegister). x.router) new.is) ∙ sym (ap (λ (x : SentRegister). x.database) new.is)
      at (inr old_d) (inr old_e) later router before keeps = later old_d old_e router before (λ place x low high is. let top = below_length T e old_e in keeps place x low high (earlier_place s T place (omega (arith, high, top)) ∙ is))

  -- entries at one place are one
  pub one_place : (T : List Step) (d e : SentRegister) → Contains (history o T) d → Contains (history o T) e → d.position ≡ e.position → d ≡ e
  one_place [] d e has_d has_e = absurd (in_none d has_d)
  one_place (s ∷ T) d e has_d has_e = at (new_or_old o T s.line d has_d) (new_or_old o T s.line e has_e) (one_place T d e)
    where
      both : (x : IsNew o T s.line d) (y : IsNew o T s.line e) → d ≡ e
      both x y =
          let line : Line.Sent x.router x.server x.part x.key x.nonce x.datagram ≡ Line.Sent y.router y.server y.part y.key y.nonce y.datagram = sym x.sent ∙ y.sent in
          let r : x.router ≡ y.router = cc in
          let k : x.key ≡ y.key = cc in
          let n : x.nonce ≡ y.nonce = cc in
          let t : x.server ≡ y.server = cc in
          let p : x.part ≡ y.part = cc in
          x.is ∙ (λ i. record { router = r i; key = k i; nonce = n i; server = t i; database = database o T (r i); part = p i; position = length T }) ∙ sym y.is

      at : IsNew o T s.line d ⊎ Contains (history o T) d → IsNew o T s.line e ⊎ Contains (history o T) e → (Contains (history o T) d → Contains (history o T) e → d.position ≡ e.position → d ≡ e) → d.position ≡ e.position → d ≡ e
      at (inl new) (inl other) later same = both new other
      at (inl new) (inr old) later same = let p = ap (λ (x : SentRegister). x.position) new.is in let q = below_length T e old in absurd (omega (arith, p, q, same))
      at (inr old) (inl new) later same = let p = ap (λ (x : SentRegister). x.position) new.is in let q = below_length T d old in absurd (omega (arith, p, q, same))
      at (inr old_d) (inr old_e) later same = later old_d old_e same
