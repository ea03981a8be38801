-- The nodes by their numbers: their names and addresses, and the number of the node with a name.
use Rattle.std.proofs.Common.{◌≡◌, ℕ, zero, suc, ◌+◌, ◌-◌, ◌<◌, ◌≤◌, Bool, true, false, cond, not, ◌||◌, List, [], ◌∷◌, ◌++◌, length, map, get_or, nat_lt, position, ltb, Option, Some, None, inl, inr, refl, sym, ap, ◌∙◌, true≢false, length-append, arith}
use Rattle.std.specs.Prelude.{slice_get, if◌then◌else◌, is_some, MatchOption}
use Rattle.std.specs.List.{position_or_len, list_any}
use Rattle.std.specs.Option.{option_map}
use Rattle.std.specs.Str.{bytes_eq}
use Rattle.std.proofs.lemmas.Bool.{lt-ltb, le-ltb, cases_lt}
use Rattle.std.proofs.lemmas.List.{length-map}
use Rattle.std.proofs.lemmas.List.Quantifiers.{position-Some}
use Rattle.std.proofs.lemmas.Option.{none-some, same_Some, slice_get-get_or, slice_get-map}
use Rattle.std.proofs.lemmas.Slice.Eq.{bytes_eq-Decides}
use Rattle.lisp_policy.specs.Configuration.{ServerEntryValue, RouterEntryValue, ConfigValue, names}
use Rattle.lisp_sites.specs.Numbers.{NodeValue, Server, Router, node_count, name_of, address_of, name_at, address_at, number_of, server_number_of, router_number_of, HasName, NoneNamed, addresses}
use Rattle.lisp_sites.proofs.Placed.{has_place}

-- ---- the element at a number in two lists, one behind the other

module _ {X Y Z : Type 0} (f : X → Z) (g : Y → Z) where
  in_front : (xs : List X) (zs : List Z) (n : ℕ) → n < length xs → option_map f (slice_get xs n) ≡ slice_get (map f xs ++ zs) n
  in_front [] zs n low = absurd (omega (arith, low))
  in_front (x ∷ xs) zs zero low = refl
  in_front (x ∷ xs) zs (suc n) low = in_front xs zs n (omega (arith, low))

  behind : (xs : List X) (ys : List Y) (n : ℕ) → length xs ≤ n → option_map g (slice_get ys (n - length xs)) ≡ slice_get (map f xs ++ map g ys) n
  behind [] ys n past = ap (λ (k : ℕ). option_map g (slice_get ys k)) (omega arith) ∙ sym (slice_get-map g ys n)
  behind (x ∷ xs) ys zero past = absurd (omega (arith, past))
  behind (x ∷ xs) ys (suc n) past = ap (λ (k : ℕ). option_map g (slice_get ys k)) (omega arith) ∙ behind xs ys n (omega (arith, past))

  front_or_back : (xs : List X) (ys : List Y) (n : ℕ) → (if nat_lt n (length xs) then option_map f (slice_get xs n) else option_map g (slice_get ys (n - length xs))) ≡ slice_get (map f xs ++ map g ys) n
  front_or_back xs ys n = elim (cases_lt n (length xs)) [
    | inl low ↦ rw (lt-ltb n (length xs) low) (in_front xs (map g ys) n low)
    | inr past ↦ rw (le-ltb n (length xs) past) (behind xs ys n past)
  ]

-- what a node of either kind shows
shown_either : {Z : Type 0} (shown : NodeValue → Z) (b : Bool) (s : Option ServerEntryValue) (r : Option RouterEntryValue) → option_map shown (if b then option_map Server s else option_map Router r) ≡ (if b then option_map (λ x. shown (Server x)) s else option_map (λ x. shown (Router x)) r)
shown_either shown true (Some s) r = refl
shown_either shown true None r = refl
shown_either shown false s (Some r) = refl
shown_either shown false s None = refl

module _ (c : ConfigValue) where
  -- names and addresses are listed in the order of the numbers
  pub name_at-names : (n : ℕ) → name_at c n ≡ slice_get (names c) n
  name_at-names n = shown_either name_of (nat_lt n (length c.servers)) (slice_get c.servers n) (slice_get c.routers (n - length c.servers)) ∙ front_or_back (λ s. s.name) (λ r. r.name) c.servers c.routers n

  pub address_at-addresses : (n : ℕ) → address_at c n ≡ slice_get (addresses c) n
  address_at-addresses n = shown_either address_of (nat_lt n (length c.servers)) (slice_get c.servers n) (slice_get c.routers (n - length c.servers)) ∙ front_or_back (λ s. s.address) (λ r. r.address) c.servers c.routers n

-- ---- the first place where something passes, in two lists, one behind the other

-- a place, or none where it isn't within the length
abbrev within : ℕ → ℕ → Option ℕ
within l n = cond (ltb l n) (Some l) None

-- one further on, in one more
within_more : (l n : ℕ) → within (1 + l) (suc n) ≡ option_map (λ i. 1 + i) (within l n)
within_more l n = elim (cases_lt l n) [
  | inl lt ↦ rw (lt-ltb l n lt, lt-ltb (1 + l) (suc n) (omega arith)) refl
  | inr le ↦ rw (le-ltb l n le, le-ltb (1 + l) (suc n) (omega arith)) refl
]

-- the same, after a head that passes or not
from_head : (t : Bool) (l n : ℕ) → within (cond (not t) (1 + l) 0) (suc n) ≡ cond t (Some 0) (option_map (λ i. 1 + i) (within l n))
from_head true l n = rw (lt-ltb 0 (suc n) (omega arith)) refl
from_head false l n = within_more l n

-- the first place of a list by that of its tail
position_cons : {X : Type 0} (p : X → Bool) (x : X) (xs : List X) → position p (x ∷ xs) ≡ cond (p x) (Some 0) (option_map (λ i. 1 + i) (position p xs))
position_cons p x xs = from_head (p x) (position_or_len p xs) (length xs)

-- the first place in two lists: that in the front one, or that in the one behind it
abbrev or_behind : Option ℕ → ℕ → Option ℕ → Option ℕ
or_behind (Some i) n later = Some i
or_behind None n later = option_map (λ i. n + i) later

-- behind an empty list
none_before : (later : Option ℕ) → later ≡ or_behind None 0 later
none_before (Some i) = ap Some (omega arith)
none_before None = refl

-- behind one more element
one_before : (t : Bool) (o : Option ℕ) (n : ℕ) (later : Option ℕ) → cond t (Some 0) (option_map (λ i. 1 + i) (or_behind o n later)) ≡ or_behind (cond t (Some 0) (option_map (λ i. 1 + i) o)) (suc n) later
one_before true o n later = refl
one_before false (Some i) n later = refl
one_before false None n (Some i) = ap Some (omega arith)
one_before false None n None = refl

position_both : {X Y : Type 0} (p : Y → Bool) (f : X → Y) (xs : List X) (ys : List Y) → position p (map f xs ++ ys) ≡ or_behind (position (λ x. p (f x)) xs) (length xs) (position p ys)
position_both p f [] ys = none_before (position p ys)
position_both p f (x ∷ xs) ys =
    position_cons p (f x) (map f xs ++ ys)
    ∙ ap (λ (o : Option ℕ). cond (p (f x)) (Some 0) (option_map (λ i. 1 + i) o)) (position_both p f xs ys)
    ∙ one_before (p (f x)) (position (λ y. p (f y)) xs) (length xs) (position p ys)
    ∙ ap (λ (o : Option ℕ). or_behind o (suc (length xs)) (position p ys)) (sym (position_cons (λ y. p (f y)) x xs))

-- the first place in what elements are mapped to
position_mapped : {X Y : Type 0} (p : Y → Bool) (f : X → Y) (xs : List X) → position p (map f xs) ≡ position (λ x. p (f x)) xs
position_mapped p f [] = refl
position_mapped p f (x ∷ xs) =
    position_cons p (f x) (map f xs)
    ∙ ap (λ (o : Option ℕ). cond (p (f x)) (Some 0) (option_map (λ i. 1 + i) o)) (position_mapped p f xs)
    ∙ sym (position_cons (λ y. p (f y)) x xs)

-- where none passes, the element at no number does
fails_at : {X : Type 0} (p : X → Bool) (xs : List X) (k : ℕ) (x : X) → list_any p xs ≡ false → slice_get xs k ≡ Some x → p x ≡ false
fails_at p [] k x none at = absurd (none-some x at)
fails_at p (y ∷ ys) zero x none at = ap p (sym (same_Some y x at)) ∙ first (p y) (list_any p ys) none
  where
    first : (a b : Bool) → (a || b) ≡ false → a ≡ false
    first true b none = absurd (true≢false none)
    first false b none = refl
fails_at p (y ∷ ys) (suc k) x none at = fails_at p ys k x (rest (p y) (list_any p ys) none) at
  where
    rest : (a b : Bool) → (a || b) ≡ false → b ≡ false
    rest true b none = absurd (true≢false none)
    rest false b none = none

-- ---- the number of the node with a name

module _ (c : ConfigValue) (name : List ℕ) where
  -- that of the Map-Server with it, or else of the router
  number_by_kind : number_of c name ≡ or_behind (server_number_of c name) (length c.servers) (position (λ r. bytes_eq r.name name) c.routers)
  number_by_kind =
      position_both (λ n. bytes_eq n name) (λ s. s.name) c.servers (map (λ r. r.name) c.routers)
      ∙ ap (or_behind (server_number_of c name) (length c.servers)) (position_mapped (λ n. bytes_eq n name) (λ r. r.name) c.routers)

  pub number_of_server : (n : ℕ) → server_number_of c name ≡ Some n → Some n ≡ number_of c name
  number_of_server n is = sym (number_by_kind ∙ ap (λ (o : Option ℕ). or_behind o (length c.servers) (position (λ r. bytes_eq r.name name) c.routers)) is)

  pub number_of_router : server_number_of c name ≡ None → router_number_of c name ≡ number_of c name
  number_of_router none = sym (number_by_kind ∙ ap (λ (o : Option ℕ). or_behind o (length c.servers) (position (λ r. bytes_eq r.name name) c.routers)) none)

  -- the node with it has the name; where none has a number, none has the name
  has_name : (n : ℕ) → number_of c name ≡ Some n → HasName c name n
  has_name n is =
      let first = position-Some (λ x. bytes_eq x name) (names c) n [] is in
      let long : length (names c) ≡ node_count c = length-append (map (λ s. s.name) c.servers) (map (λ r. r.name) c.routers) ∙ (λ i. length-map c.servers (λ s. s.name) i + length-map c.routers (λ r. r.name) i) in
      let here : get_or (names c) n [] ≡ name = (bytes_eq-Decides (get_or (names c) n []) name).0 first.1 in
      (omega (arith, first.0, long), name_at-names c n ∙ slice_get-get_or (names c) n [] first.0 ∙ ap Some here)

  none_named : number_of c name ≡ None → NoneNamed c name
  none_named none k low is =
      let fails : list_any (λ x. bytes_eq x name) (names c) ≡ false = sym (has_place (λ x. bytes_eq x name) (names c)) ∙ ap is_some none in
      let not_here : bytes_eq name name ≡ false = fails_at (λ x. bytes_eq x name) (names c) k name fails (sym (name_at-names c k) ∙ is) in
      true≢false (sym ((bytes_eq-Decides name name).1 refl) ∙ not_here)

  pub is_named : (o : Option ℕ) → o ≡ number_of c name → MatchOption o (NoneNamed c name) (HasName c name)
  is_named (Some n) is = has_name n (sym is)
  is_named None is = none_named (sym is)
