-- Reading lines one after the other, as a loop does.
use Rattle.std.proofs.Common.{◌≡◌, ℕ, ◌+◌, ltb, not, Bool, true, false, List, [], ◌∷◌, ◌++◌, length, map, drop, position, Option, Some, None, Ok, Err, Bor, refl, sym, ap, ◌∙◌, arith, length-append}
use Rattle.std.specs.List.{AllByRecursion, filter_map, cons_option, position_or_len}
use Rattle.std.specs.Option.{option_to_list}
use Rattle.std.proofs.lemmas.Bool.{lt-ltb, le-ltb}
use Rattle.std.proofs.lemmas.List.{length-map, map-append}
use Rattle.std.proofs.lemmas.List.Elements.{filter_map-append}
use Rattle.lisp_lemmas.proofs.NumberedLines.{IsNext, texts}
use Rattle.lisp_upkeep.specs.declared.accepted_nonce.AcceptedNonce.{AcceptedNonce}
use Rattle.lisp_upkeep.specs.Line.{nonce_of}
use Rattle.lisp_upkeep.specs.List.{is_right, nonces_of, unless_wrong, list_of}

-- ---- the first that passes a test

module _ {X : Type 0} (p : X → Bool) where
  abbrev NonePasses : List X → Type 0
  NonePasses xs = AllByRecursion (λ x. p x ≡ false) xs

  place_of_none : (xs : List X) → NonePasses xs → position_or_len p xs ≡ length xs
  place_of_none [] none = refl
  place_of_none (x ∷ xs) none = rw none.0 (omega (arith, place_of_none xs none.1))

  place_of_first : (front behind : List X) (x : X) → NonePasses front → p x ≡ true → position_or_len p (front ++ x ∷ behind) ≡ length front
  place_of_first [] behind x none is = rw is refl
  place_of_first (y ∷ front) behind x none is = rw none.0 (omega (arith, place_of_first front behind x none.1 is))

  none_found : (xs : List X) → NonePasses xs → position p xs ≡ None
  none_found xs none = rw (place_of_none xs none, le-ltb (length xs) (length xs) (omega arith)) refl

  first_found : (front behind : List X) (x : X) → NonePasses front → p x ≡ true → position p (front ++ x ∷ behind) ≡ Some (length front)
  first_found front behind x none is =
      let within : ltb (length front) (length (front ++ x ∷ behind)) ≡ true = lt-ltb _ _ (omega (arith, length-append front (x ∷ behind))) in
      rw (place_of_first front behind x none is, within) refl

  none_more : (xs : List X) (x : X) → NonePasses xs → p x ≡ false → NonePasses (xs ++ x ∷ [])
  none_more [] x none is = (is, tt)
  none_more (y ∷ xs) x none is = (none.0, none_more xs x none.1 is)

-- ---- reading lines

abbrev is_wrong : List ℕ → Bool
is_wrong line = not (is_right line)

-- the lines so far are right, and these are their nonces
pub record SaySoFar (lines : List (List ℕ)) (nonces : List AcceptedNonce) : Type 0 where
  pub right : AllByRecursion (λ line. is_wrong line ≡ false) lines
  pub nonces_are : nonces ≡ nonces_of lines

pub nothing_yet : (nonces : List AcceptedNonce) → nonces ≡ [] → SaySoFar [] nonces
nothing_yet nonces none = record { right = tt; nonces_are = none }

one_alone : {Y : Type 0} (o : Option Y) → option_to_list o ≡ cons_option o []
one_alone (Some y) = refl
one_alone None = refl

-- one more line, which is right
pub goes_on : (xs : List (ℕ × Bor (List ℕ))) (x : ℕ × Bor (List ℕ)) (before after : List AcceptedNonce) → SaySoFar (texts xs) before → true ≡ is_right x.1.now → after ≡ before ++ option_to_list (nonce_of x.1.now)
    → SaySoFar (texts (xs ++ x ∷ [])) after
goes_on xs x before after so_far right more =
    let apart : texts (xs ++ x ∷ []) ≡ texts xs ++ x.1.now ∷ [] = map-append (λ y. y.1.now) xs (x ∷ []) in
    let all : SaySoFar (texts xs ++ x.1.now ∷ []) after = record {
      right = none_more is_wrong (texts xs) x.1.now so_far.right (ap not (sym right));
      nonces_are = more ∙ (λ j. so_far.nonces_are j ++ one_alone (nonce_of x.1.now) j) ∙ sym (filter_map-append nonce_of (texts xs) (x.1.now ∷ []));
    } in
    rw apart all

-- all lines
pub all_said : (lines : List (List ℕ)) (nonces : List AcceptedNonce) → SaySoFar lines nonces → list_of lines ≡ Ok nonces
all_said lines nonces said = ap (λ (place : Option ℕ). unless_wrong place (nonces_of lines)) (none_found is_wrong lines said.right) ∙ ap Ok (sym said.nonces_are)

-- a line that is wrong
pub stops : (lines : List (List ℕ)) (xs : List (ℕ × Bor (List ℕ))) (x : ℕ × Bor (List ℕ)) (nonces : List AcceptedNonce) → SaySoFar (texts xs) nonces → false ≡ is_right x.1.now → IsNext lines xs x → list_of lines ≡ Err (x.0 + 1)
stops lines xs x nonces so_far wrong next =
    let place = first_found is_wrong (texts xs) (drop (length xs + 1) lines) x.1.now so_far.right (ap not (sym wrong)) in
    let number : length (texts xs) ≡ x.0 = omega (arith, next.number, length-map xs (λ (y : ℕ × Bor (List ℕ)). y.1.now)) in
    ap (λ (place : Option ℕ). unless_wrong place (nonces_of lines)) (ap (λ (ls : List (List ℕ)). position is_wrong ls) next.parts ∙ place)
    ∙ ap (λ (n : ℕ). Err (n + 1)) number
