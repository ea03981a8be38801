-- Kept: for each pair the values that a load may still answer. 'Nothing' is a value too.
use Rattle.std.specs.Prelude.{◌≡◌, ◌≢◌, ◌⊎◌, ℕ, ◌-◌, ◌≤◌, ◌==◌, min, Bool, false, List, [], ◌∷◌, ◌++◌, length, slice_index_or, Option, Some, None, if◌then◌else◌}
use Rattle.std.specs.Coded.{Coded, coded_ℕ, coded_list, coded_option}
use Rattle.std.specs.FinMap.{FinMap, get, code}
use Rattle.std.specs.List.{Contains, list_any}
use Rattle.std.specs.Option.{unwrap_or}
use Rattle.lisp_nonces.specs.declared.pair.Pair.{Pair}
use Rattle.lisp_nonces.specs.Pair.{pair_cmp, pair_code}

-- the lists of the pairs that have one; the others keep 'nothing' alone
abbrev pub Kept : Type 0
Kept = FinMap pair_cmp (List (Option ℕ))

abbrev pub kept_code : Coded Kept
kept_code = code pair_code (coded_list (coded_option coded_ℕ))

unfoldable pub kept_at : Kept → Pair → List (Option ℕ)
kept_at kept pair = unwrap_or (get kept pair) (None ∷ [])

-- what is kept, as a number: nothing counts as 0
abbrev pub number : Option ℕ → ℕ
number value = unwrap_or value 0

-- n is the number of one of the values
abbrev pub IsKept : List (Option ℕ) → ℕ → Type 0
IsKept values n = (v : Option ℕ) × Contains values v × (n ≡ number v)

-- no value is below n; of 0 this asks nothing
abbrev pub NoneBelow : ℕ → List (Option ℕ) → Type 0
NoneBelow n values = (v : Option ℕ) → Contains values v → n ≤ number v

-- every other pair keeps what it kept
abbrev pub SameElsewhere : Kept → Kept → Pair → Type 0
SameElsewhere old new pair = (q : Pair) → q ≢ pair → kept_at new q ≡ kept_at old q

-- after a save that failed: the list is as it was, or has the value too
abbrev pub InDoubt : List (Option ℕ) → List (Option ℕ) → ℕ → Type 0
InDoubt old new nonce = (new ≡ old) ⊎ (new ≡ old ++ Some nonce ∷ [])

-- after such a save: the pair's list is as it was, or has the value too
abbrev pub PairInDoubt : Kept → Kept → Pair → ℕ → Type 0
PairInDoubt old new pair nonce = InDoubt (kept_at old pair) (kept_at new pair) nonce

-- after a restart: some value is left, and none was added
pub record Narrows (old new : List (Option ℕ)) : Type 0 where
  pub some : (v : Option ℕ) × Contains new v
  pub each : (v : Option ℕ) → Contains new v → Contains old v

-- so it is for each pair
abbrev pub NarrowsEach : Kept → Kept → Type 0
NarrowsEach old new = (q : Pair) → Narrows (kept_at old q) (kept_at new q)

abbrev pub option_eq : Option ℕ → ℕ → Bool
option_eq None nonce = false
option_eq (Some n) nonce = n == nonce

-- the value is in the list
abbrev pub has_value : List (Option ℕ) → ℕ → Bool
has_value vs nonce = list_any (λ v. option_eq v nonce) vs

-- a value added at the end, once
abbrev pub with_value : List (Option ℕ) → ℕ → List (Option ℕ)
with_value vs nonce = if has_value vs nonce then vs else vs ++ Some nonce ∷ []

-- some value may be kept for each pair
abbrev pub KeepsSome : Kept → Type 0
KeepsSome kept = (q : Pair) → (v : Option ℕ) × Contains (kept_at kept q) v

-- the member at a place, or the last
abbrev pub picked : List (Option ℕ) → ℕ → Option ℕ
picked vs pick = slice_index_or vs (min pick (length vs - 1)) None

-- of each pair's values the one at a place is left, or the last
abbrev pub PicksEach : Kept → Kept → ℕ → Type 0
PicksEach old new pick = (q : Pair) → kept_at new q ≡ picked (kept_at old q) pick ∷ []
