-- No two of a list are alike: as a loop finds it, which compares each element with those behind it, and as a network needs it.
use Rattle.std.proofs.Common.{[], ◌≡◌, ℕ, suc, zero, ◌+◌, ◌-◌, ◌<◌, ◌≤◌, Bool, true, false, List, ◌∷◌, ◌++◌, length, map, get_or, take, drop, refl, sym, ap, ◌∙◌, add-one, true≢false, arith, Option, Some, None, Result, subst}
use Rattle.std.proofs.Math.Seq.{drop-cons}
use Rattle.std.proofs.Math.ListN.{drop_of_length-le}
use Rattle.std.proofs.lemmas.List.{take_all, length-drop}
use Rattle.std.proofs.lemmas.List.Folds.{list_any-append}
use Rattle.std.proofs.lemmas.Slice.Eq.{bytes_eq-Decides}
use Rattle.std.proofs.lemmas.Bool.{le-ltb}
use Rattle.std.proofs.lemmas.Option.{get_or_from_slice_get}
use Rattle.std.specs.Prelude.{◌||◌, ◌≢◌, slice_index_or, IfSome, slice_get, slice_set, if◌then◌else◌}
use Rattle.std.specs.List.{AllByRecursion, AllPairs, list_any}
use Rattle.lisp_sites.proofs.Names.{list_any-map}
use Rattle.lisp_records.specs.declared.address.Addr.{Addr}
use Rattle.lisp_records.specs.declared.address.Addr.TheVariants.{V4, V6}
use Rattle.lisp_records.specs.Address.{addr_eq}
use Rattle.lisp_records.specs.Router.{router_eq}
use Rattle.lisp_records.specs.Record.{MapRecordValue}
use Rattle.lisp_records.proofs.RouterLaws.{router_eq-Decides}
use Rattle.lisp_policy.specs.Configuration.{ConfigValue, RouterEntryValue, HasServers, IsRouterEntry, IsConfig}
use Rattle.lisp_model.specs.Trace.{addresses}
use Rattle.lisp_model.specs.Network.{IsNetwork}
use Rattle.lisp_model.specs.declared.world_fault.WorldFault.TheVariants.{KeyUsed, UnknownKey}
use Rattle.lisp_world.specs.Openings.{has_twice, repeats}
use Rattle.lisp_world.specs.Faults.{IsRouterPlace, IsPlaceWithKey, RefusesKey, router_fault, router_key_fault, used_before_loss, used_ever}
use Rattle.lisp_nonces.specs.declared.fate.Fate.{Fate}
use Rattle.lisp_etr.specs.declared.{rotate_fault.RotateFault.RotateFault, start_fault.StartFault.StartFault}
use Rattle.lisp_admission.specs.Checks.{secret_at as known_secret}
use Rattle.lisp_nodes.{proofs.RouterCalls.router_changed, specs.Asked.asked_rotate_line}
use Rattle.lisp_refinement.specs.World.{RouterNodeState, RouterCoreState, Up, Down, UsedKeysState, key_count, is_used, WorldState}
use Rattle.lisp_refinement.specs.Nodes.{router_at}
use Rattle.lisp_refinement.specs.Calls.{NodeLoses}
use Rattle.lisp_refinement.specs.Events.{IsKeyOf, NodeRotates, RouterRotates, NetworkRotates, NetworkLoses, RouterActs, is_up, rotate_line, loss_line}
use Rattle.lisp_model.specs.declared.line.Line.TheVariants as lines

module _ {X : Type 0} where
  -- the elements behind a place
  abbrev pub behind : List X → ℕ → List X
  behind xs i = take (length xs - (i + 1)) (drop (i + 1) xs)

  behind_is : (xs : List X) (i : ℕ) → behind xs i ≡ drop (i + 1) xs
  behind_is xs i = take_all (length xs - (i + 1)) (drop (i + 1) xs) (omega (arith, length-drop (i + 1) xs))

  -- an element is compared with those behind it
  pub next_twice : (alike : X → X → Bool) (xs : List X) (i : ℕ) (x : X) → i < length xs → x ≡ get_or xs i x
      → has_twice alike (drop i xs) ≡ (list_any (alike x) (behind xs i) || has_twice alike (drop (i + 1) xs))
  next_twice alike xs i x low at = rw (behind_is xs i, at, drop-cons xs i x low, add-one) refl

-- of two tests the first one is passed, or the second one
pub passed_first : (a b : Bool) → a ≡ true → (a || b) ≡ true
passed_first a b some = rw some refl

pub passed_second : (a b : Bool) → b ≡ true → (a || b) ≡ true
passed_second true b some = refl
passed_second false b some = some

-- of two tests none is passed
pub neither : (a b : Bool) → (a || b) ≡ false → (a ≡ false) × (b ≡ false)
neither true b none = absurd cc
neither false b none = (refl, none)

-- two tests of which one is passed, in front of others
either_passed : (a b c d : Bool) → (a || b) ≡ true → ((a || c) || (b || d)) ≡ true
either_passed true b c d some = refl
either_passed false true true d some = refl
either_passed false true false d some = refl
either_passed false false c d some = absurd cc

-- a list whose elements are compared in two ways
module _ {X : Type 0} (alike same : X → X → Bool) (xs : List X) where
  -- two of these elements are alike or the same
  abbrev pub again : List X → Bool
  again ys = has_twice alike ys || has_twice same ys

  module _ (i : ℕ) (x : X) (low : i < length xs) (at : x ≡ get_or xs i x) (so_far : again (drop i xs) ≡ again xs) where
    -- the comparisons from a place on
    from_here : again (drop i xs) ≡ ((list_any (alike x) (behind xs i) || has_twice alike (drop (i + 1) xs)) || (list_any (same x) (behind xs i) || has_twice same (drop (i + 1) xs)))
    from_here = λ j. next_twice alike xs i x low at j || next_twice same xs i x low at j

    -- one behind it is alike or the same
    pub again_here : (list_any (alike x) (behind xs i) || list_any (same x) (behind xs i)) ≡ true → true ≡ again xs
    again_here some = sym (from_here ∙ either_passed (list_any (alike x) (behind xs i)) (list_any (same x) (behind xs i)) (has_twice alike (drop (i + 1) xs)) (has_twice same (drop (i + 1) xs)) some) ∙ so_far

    -- none is
    pub again_later : list_any (alike x) (behind xs i) ≡ false → list_any (same x) (behind xs i) ≡ false → again (drop (i + 1) xs) ≡ again xs
    again_later one other = sym (from_here ∙ (rw (one, other) refl)) ∙ so_far

  -- no element is left
  pub again_nowhere : (i : ℕ) → length xs ≤ i → again (drop i xs) ≡ again xs → false ≡ again xs
  again_nowhere i high so_far =
      let none : again (drop i xs) ≡ false = rw (drop_of_length-le xs high) refl in
      sym none ∙ so_far

-- what two lists have of a third kind, compared by it: those of one list first, then those of the other
module _ {X Y Z : Type 0} (alike : Z → Z → Bool) (f : X → Z) (g : Y → Z) (xs : List X) (ys : List Y) where
  -- two from these elements on are alike
  abbrev pub joined : List X → Bool
  joined zs = has_twice alike (map f zs ++ map g ys)

  -- one is like some of both lists
  abbrev pub meets : Z → List X → Bool
  meets z zs = list_any (λ x. alike z (f x)) zs || list_any (λ y. alike z (g y)) ys

  -- the first one is compared with those behind it
  joined_first : (x : X) (zs : List X) → joined (x ∷ zs) ≡ (meets (f x) zs || joined zs)
  joined_first x zs = ap (λ (b : Bool). b || joined zs) (
      (list_any-append (alike (f x)) (map f zs) (map g ys) ∙ (λ j. list_any-map (alike (f x)) f zs j || list_any-map (alike (f x)) g ys j)))

  module _ (i : ℕ) (x : X) (low : i < length xs) (at : x ≡ get_or xs i x) (so_far : joined (drop i xs) ≡ joined xs) where
    -- the comparisons from a place on
    joined_here : joined (drop i xs) ≡ (meets (f x) (behind xs i) || joined (drop (i + 1) xs))
    joined_here = ap joined (drop-cons xs i x low) ∙ ap (λ (y : X). joined (y ∷ drop (suc i) xs)) (sym at) ∙ joined_first x (drop (suc i) xs)
        ∙ rw (behind_is xs i, add-one) refl

    -- one of both lists is like it
    pub meets_here : meets (f x) (behind xs i) ≡ true → true ≡ joined xs
    meets_here some = sym (joined_here ∙ (rw some refl)) ∙ so_far

    -- none is
    pub meets_later : list_any (λ y. alike (f x) (f y)) (behind xs i) ≡ false → list_any (λ y. alike (f x) (g y)) ys ≡ false → joined (drop (i + 1) xs) ≡ joined xs
    meets_later one other = sym (joined_here ∙ (rw (one, other) refl)) ∙ so_far

-- two of a mapped list are alike where two of the list are by what they are mapped to
pub twice_mapped : {X Y : Type 0} (alike : Y → Y → Bool) (f : X → Y) (xs : List X) → has_twice alike (map f xs) ≡ has_twice (λ a b. alike (f a) (f b)) xs
twice_mapped alike f [] = refl
twice_mapped alike f (x ∷ xs) = λ j. list_any-map (alike (f x)) f xs j || twice_mapped alike f xs j

-- none of one list is left: only those of the other are compared
pub joined_rest : {X Y Z : Type 0} (alike : Z → Z → Bool) (f : X → Z) (g : Y → Z) (xs : List X) (ys : List Y) (i : ℕ) → length xs ≤ i
    → joined alike f g xs ys (drop i xs) ≡ joined alike f g xs ys xs → has_twice (λ a b. alike (g a) (g b)) ys ≡ joined alike f g xs ys xs
joined_rest alike f g xs ys i high so_far =
    let none : joined alike f g xs ys (drop i xs) ≡ has_twice alike (map g ys) = rw (drop_of_length-le xs high) refl in
    sym (none ∙ twice_mapped alike g ys) ∙ so_far

-- a list of which no element passes a test
none_any : {X : Type 0} (p : X → Bool) (xs : List X) → list_any p xs ≡ false → (i : ℕ) (d : X) → i < length xs → p (slice_index_or xs i d) ≡ false
none_any p [] none i d low = absurd (omega (arith, low))
none_any p (x ∷ xs) none zero d low = (neither (p x) (list_any p xs) none).0
none_any p (x ∷ xs) none (suc i) d low = none_any p xs (neither (p x) (list_any p xs) none).1 i d (omega (arith, low))

-- no two elements are alike
pub no_twice : {X : Type 0} (alike : X → X → Bool) (xs : List X) → has_twice alike xs ≡ false → AllPairs (λ a b. alike a b ≡ false) xs
no_twice alike [] none i j d less low = absurd (omega (arith, low))
no_twice alike (x ∷ xs) none i zero d less low = absurd (omega (arith, less))
no_twice alike (x ∷ xs) none zero (suc j) d less low = none_any (alike x) xs (neither (list_any (alike x) xs) (has_twice alike xs) none).0 j d (omega (arith, low))
no_twice alike (x ∷ xs) none (suc i) (suc j) d less low = no_twice alike xs (neither (list_any (alike x) xs) (has_twice alike xs) none).1 i j d (omega (arith, less)) (omega (arith, low))

-- an address is like itself
addr_itself : (a : Addr) → addr_eq a a ≡ true
addr_itself (V4 bytes) = (bytes_eq-Decides bytes bytes).1 refl
addr_itself (V6 bytes) = (bytes_eq-Decides bytes bytes).1 refl

-- addresses that aren't alike differ
addr_differs : (a b : Addr) → addr_eq a b ≡ false → a ≢ b
addr_differs a b other same = true≢false (sym (addr_itself a) ∙ ap (addr_eq a) same ∙ other)

-- a configuration in which nothing repeats is that of a network
pub is_network : (c : ConfigValue) → IsConfig c → repeats c ≡ false → IsNetwork c
is_network c configured none = record {
  addresses = λ i j d less low. addr_differs _ _ (no_twice addr_eq (addresses c) parts.0 i j d less low);
  routers = λ i j d less low same. (let other = no_twice (λ a b. router_eq a.me b.me) c.routers parts.1 i j d less low in true≢false (sym ((router_eq-Decides _ _).1 same) ∙ other));
  servers = each c.routers configured.routers;
}
  where
    parts : (has_twice addr_eq (addresses c) ≡ false) × (has_twice (λ a b. router_eq a.me b.me) c.routers ≡ false)
    parts = neither (has_twice addr_eq (addresses c)) (has_twice (λ a b. router_eq a.me b.me) c.routers) none

    each : (rs : List RouterEntryValue) → AllByRecursion (IsRouterEntry c) rs → AllByRecursion (HasServers c.servers) rs
    each [] all = tt
    each (r ∷ rs) all = (all.0.servers, each rs all.1)

-- ---- A key of a router's site: whether the router may go over to it, or start under it once its store was lost.

-- a router at its place
module _ (w : WorldState) (router key place : ℕ) (node : RouterNodeState) (is_place : IsRouterPlace w router place) (there : slice_get w.routers place ≡ Some node) where
  router_is : router_at w router ≡ Some node
  router_is =
      let number = is_place.0 in
      ap (λ (b : Bool). if b then None else slice_get w.routers (router - length w.servers)) (le-ltb router (length w.servers) (omega (arith, number)))
      ∙ ap (slice_get w.routers) (omega (arith, number)) ∙ there

  -- its site has no such key
  pub unknown_key : router_fault w router ≡ None → known_secret w.sites node.me.site key ≡ None → RefusesKey w router key UnknownKey
  unknown_key none unknown was_used = rw (none, router_is, unknown) refl

-- the place of a router whose site has a key
module _ (w : WorldState) (router key place : ℕ) (secret : List ℕ) (at : IsPlaceWithKey w router key place secret) where
  -- the key has a fault where the router used it
  key_fault_is : (was_used : UsedKeysState → Bool) → router_key_fault w router key was_used ≡ (if was_used at.node.used then Some KeyUsed else None)
  key_fault_is was_used = rw (at.none, router_is w router key place at.node at.is_place at.there, at.known) refl

  -- so it has none where the router didn't
  pub no_key_fault : (was_used : UsedKeysState → Bool) → was_used at.node.used ≡ false → router_key_fault w router key was_used ≡ None
  no_key_fault was_used unused = key_fault_is was_used ∙ ap (λ (b : Bool). if b then Some KeyUsed else None) unused

  -- the router that is read there
  module _ (before : RouterNodeState) (read : before ≡ get_or w.routers place before) where
    read_is : before ≡ at.node
    read_is = read ∙ get_or_from_slice_get w.routers place at.node before at.there

    pub used_there : (was_used : UsedKeysState → Bool) (used : Bool) → used ≡ was_used before.used → was_used at.node.used ≡ used
    used_there was_used used is = ap (λ (n : RouterNodeState). was_used n.used) (sym read_is) ∙ sym is

    pub used_key : (was_used : UsedKeysState → Bool) (used : Bool) → used ≡ was_used before.used → used ≡ true → router_key_fault w router key was_used ≡ Some KeyUsed
    used_key was_used used is holds = key_fault_is was_used ∙ ap (λ (b : Bool). if b then Some KeyUsed else None) (used_there was_used used is ∙ holds)

    abbrev key_of : key < key_count → IsKeyOf w before key
    key_of bound = record {
      bound = bound;
      secret = secret;
      known = ap (λ (n : RouterNodeState). known_secret w.sites n.me.site key) read_is ∙ at.known;
    }

    module _ (after : RouterNodeState) (bound : key < key_count) where
      abbrev acts : RouterActs w (record w { routers = slice_set w.routers place after }) router []
      acts = router_changed w router place before after at.is_place.0 at.is_place.1 read

      -- it was asked to go over to the key
      rotates_down : (fate : Fate) (core : RouterCoreState) → is_up core ≡ false → after ≡ before → RouterRotates router key secret fate w.clock before after core (lines.Down router)
      rotates_down fate (Up e) down same = absurd (true≢false down)
      rotates_down fate (Down config database) down same = (same, refl)

      asked : (fate : Fate) (answer : Option (Result (Unit {0}) RotateFault)) → IfSome answer (λ a. NodeRotates before after key secret fate w.clock a)
          → (answer ≡ None → (is_up before.core ≡ false) × (after ≡ before)) → RouterRotates router key secret fate w.clock before after before.core (asked_rotate_line router key answer)
      asked fate (Some answer) up down = subst (λ (core : RouterCoreState). RouterRotates router key secret fate w.clock before after core (rotate_line router key answer)) (sym up.was)
          (record { answer = answer; rotates = up; said = refl })
      asked fate None up down = rotates_down fate before.core (down refl).0 (down refl).1

      pub rotated : (fate : Fate) (answer : Option (Result (Unit {0}) RotateFault)) → used_before_loss key at.node.used ≡ false
          → IfSome answer (λ a. NodeRotates before after key secret fate w.clock a) → (answer ≡ None → (is_up before.core ≡ false) × (after ≡ before))
          → NetworkRotates w (record w { routers = slice_set w.routers place after }) router key fate (asked_rotate_line router key answer)
      rotated fate answer unused up down = record {
        acts = acts;
        of = key_of bound;
        unused = ap (λ (n : RouterNodeState). used_before_loss key n.used) read_is ∙ unused;
        rotates = asked fate answer up down;
      }

      -- its store was lost, and it was to start under the key
      pub lost : (db : Option (List MapRecordValue)) (answer : Result (Unit {0}) StartFault) → used_ever key at.node.used ≡ false
          → NodeLoses before after key secret db w.clock answer → NetworkLoses w (record w { routers = slice_set w.routers place after }) router key db (loss_line router key answer)
      lost db answer unused loses =
          let each = neither (is_used before.used.since_loss key) (is_used before.used.before_loss key) (ap (λ (n : RouterNodeState). used_ever key n.used) read_is ∙ unused) in
          record {
            acts = acts;
            of = key_of bound;
            unused_since = each.0;
            unused_before = each.1;
            answer = answer;
            loses = loses;
            said = refl;
          }
