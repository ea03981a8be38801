-- The first place in a list whose element passes a test.
use Rattle.std.proofs.Common.{◌≡◌, ℕ, zero, suc, Bool, true, false, cond, List, [], ◌∷◌, length, position, Option, Some, None, refl, sym, ap, ◌∙◌, true≢false}
use Rattle.std.specs.Prelude.{◌≢◌, ◌==◌, ◌+◌, slice_get, slice_index_or}
use Rattle.std.specs.List.{AllPairs, find}
use Rattle.std.specs.Option.{unwrap_or}
use Rattle.std.proofs.lemmas.Bool.Decides.{Decides-eqb}
use Rattle.std.proofs.lemmas.Option.{get_or_from_slice_get}
use Rattle.lisp_records.specs.declared.address.Addr.TheVariants.{V4}
use Rattle.lisp_policy.specs.Configuration.{ConfigValue, RouterEntryValue}
use Rattle.lisp_model.specs.Trace.{router_at}
use Rattle.lisp_model.proofs.HearingLemmas.{find_true}
use Rattle.lisp_refinement.specs.Events.{place_of}
use Rattle.lisp_refinement.proofs.Gets.{none_is_some, same_some}
use Rattle.lisp_refinement.proofs.Places.{Placed, first_place, other_element}
use Rattle.lisp_turns.proofs.Hearing.{place_is}

module _ {X : Type 0} (p : X → Bool) where
  -- a place, its element, and that this passes
  pub record FirstPlace (xs : List X) : Type 0 where
    pub place : ℕ
    pub is : position p xs ≡ Some place
    pub element : X
    pub there : slice_get xs place ≡ Some element
    pub passes : p element ≡ true

  -- where an element passes, one is found
  found : (xs : List X) (k : ℕ) (x : X) → slice_get xs k ≡ Some x → p x ≡ true → find p xs ≡ None → ⊥
  found [] k x there passes none = none_is_some there
  found (y ∷ ys) zero x there passes none = none_is_some (sym none ∙ ap (λ (b : Bool). cond b (Some y) (find p ys)) (ap p (same_some y x there) ∙ passes))
  found (y ∷ ys) (suc k) x there passes none = by (p y) none (found ys k x there passes)
    where
      by : (b : Bool) → cond b (Some y) (find p ys) ≡ None → (find p ys ≡ None → ⊥) → ⊥
      by true e later = none_is_some (sym e)
      by false e later = later e

  pub first : (xs : List X) (k : ℕ) (x : X) → slice_get xs k ≡ Some x → p x ≡ true → FirstPlace xs
  first xs k x there passes = by (position p xs) (find p xs) refl refl (first_place p xs)
    where
      by : (place : Option ℕ) (element : Option X) → position p xs ≡ place → find p xs ≡ element → Placed xs place element → FirstPlace xs
      by (Some i) (Some y) is e at = record { place = i; is = is; element = y; there = at; passes = find_true p xs y e }
      by (Some i) None is e at = absurd at
      by None (Some y) is e at = absurd at
      by None None is e at = absurd (found xs k x there passes e)

-- in a list without repeats an element has its own place
module _ (servers : List ℕ) (once : AllPairs (λ a b. a ≢ b) servers) (at server : ℕ) (there : slice_get servers at ≡ Some server) where
  its : FirstPlace (λ (s : ℕ). s == server) servers
  its = first (λ (s : ℕ). s == server) servers at server there ((Decides-eqb server server).1 refl)

  same_place : (b : Bool) → (its.place == at) ≡ b → its.place ≡ at
  same_place true is = (Decides-eqb its.place at).0 is
  same_place false is = absurd (other_element servers once at its.place server its.element there its.there
      (λ same. true≢false (sym ((Decides-eqb its.place at).1 same) ∙ is)) (sym ((Decides-eqb its.element server).0 its.passes)))

  pub place_there : place_of servers server ≡ at
  place_there = ap (λ (p : Option ℕ). unwrap_or p (length servers)) its.is ∙ same_place (its.place == at) refl

-- the router with a number is the one at its place
pub router_is_at : (config : ConfigValue) (number place : ℕ) (entry : RouterEntryValue) → number ≡ length config.servers + place → slice_get config.routers place ≡ Some entry → router_at config number ≡ entry
router_is_at config number place entry is there =
    ap (λ (k : ℕ). slice_index_or config.routers k nobody) (place_is number (length config.servers) place is) ∙ get_or_from_slice_get config.routers place entry nobody there
  where
    nobody : RouterEntryValue
    nobody = record { name = []; address = V4 []; me = record { site = 0; xtr = [] }; key_id = 0; servers = []; proxy = false; use_ttl = false; nonce_block = 1; database = []; resolve = [] }
