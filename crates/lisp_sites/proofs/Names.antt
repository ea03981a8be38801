-- Nodes that are read, no two of one name.
use Rattle.std.proofs.Common.{◌≡◌, ◌≢◌, ℕ, Bool, false, ◌||◌, List, [], ◌∷◌, ◌++◌, map, Result, Ok, refl, sym, ap, subst, ◌∙◌, append_assoc, append-nil}
use Rattle.std.specs.List.{AllByRecursion, AllPairs, list_any}
use Rattle.std.specs.Str.{bytes_eq}
use Rattle.std.proofs.lemmas.List.{map-append}
use Rattle.std.proofs.lemmas.List.Quantifiers.{all_pairs_push}
use Rattle.std.proofs.lemmas.Slice.Eq.{bytes_eq-Decides}
use Rattle.toml.specs.Data.{Data, Items}
use Rattle.lisp_sites.specs.declared.field.Field.{Field}
use Rattle.lisp_sites.specs.declared.place.PlacedFault.{PlacedFault}
use Rattle.lisp_sites.specs.Table.{each}
use Rattle.lisp_sites.proofs.Readings.{none_like, each_keeps, all_push}

pub list_any-map : {X Y : Type 0} (test : Y → Bool) (f : X → Y) (xs : List X) → list_any test (map f xs) ≡ list_any (λ x. test (f x)) xs
list_any-map test f [] = refl
list_any-map test f (x ∷ xs) = ap (λ (b : Bool). test (f x) || b) (list_any-map test f xs)

-- nodes of a kind, whose names differ from one another and from those of others
pub record AreNamed {X : Type 0} (Kind : X → Type 0) (name : X → List ℕ) (others : List (List ℕ)) (xs : List X) : Type 0 where
  pub kind : AllByRecursion Kind xs
  pub names : AllPairs (λ a b. a ≢ b) (others ++ map name xs)

-- a node whose name none has before it
pub record TakesName {X : Type 0} (Kind : X → Type 0) (name : X → List ℕ) (others : List (List ℕ)) (before : List X) (x : X) : Type 0 where
  pub kind : Kind x
  pub new : list_any (λ n. bytes_eq n (name x)) (others ++ map name before) ≡ false

module _ {X : Type 0} (Kind : X → Type 0) (name : X → List ℕ) (others : List (List ℕ)) where
  named_push : (before : List X) (x : X) → AreNamed Kind name others before → TakesName Kind name others before x → AreNamed Kind name others (before ++ x ∷ [])
  named_push before x so_far one =
      let all = others ++ map name before in
      let more = append_assoc others (map name before) (name x ∷ []) ∙ ap (λ (t : List (List ℕ)). others ++ t) (sym (map-append name before (x ∷ []))) in
      let apart = none_like (λ n. bytes_eq n (name x)) (λ n. n ≡ name x) (λ n. (bytes_eq-Decides n (name x)).1) all one.new in
      record {
        kind = all_push Kind before x so_far.kind one.kind;
        names = subst (AllPairs (λ a b. a ≢ b)) more (all_pairs_push (λ a b. a ≢ b) all (name x) so_far.names apart);
      }

  -- nodes that are read so
  pub each_named : (array : Field) (read : List X → Data → Result X PlacedFault) → ((before : List X) (d : Data) (x : X) → read before d ≡ Ok x → TakesName Kind name others before x) → AllPairs (λ a b. a ≢ b) others → (ds : Items) (xs : List X) → each array read [] 1 ds ≡ Ok xs → AreNamed Kind name others xs
  each_named array read one apart ds xs e =
      each_keeps (AreNamed Kind name others) array read (λ before d x reads so_far. named_push before x so_far (one before d x reads)) ds [] xs 1 e
      (record { kind = tt; names = subst (AllPairs (λ a b. a ≢ b)) (sym (append-nil others)) apart })
