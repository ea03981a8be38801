-- What is warned of secrets.
use Rattle.std.specs.Prelude.{◌≡◌, ℕ, nat_lt, ◌==◌, ◌&&◌, Bool, List, [], ◌∷◌, ◌++◌, length, Option, Some, None, if◌then◌else◌}
use Rattle.std.specs.BTreeMap.{BTreeMap, get_by}
use Rattle.std.specs.Cmp.Lexicographic.{slice_cmp}
use Rattle.std.specs.List.{find, flat_map}
use Rattle.std.specs.Option.{option_map, option_or}
use Rattle.std.specs.Ordering.{nat_cmp}
use Rattle.std.specs.Str.{bytes_eq}
use denote.Ref.{Bor}
use Rattle.lisp_check.specs.declared.secret.KeyPlace.{KeyPlace}
use Rattle.lisp_check.specs.declared.secret.SecretWarning.{SecretWarning}
use Rattle.lisp_check.specs.declared.secret.SecretWarning.TheVariants.{Short, Same}

-- the secret of a key, and where the key stands
pub record KeySecretValue : Type 0 where
  pub place : KeyPlace
  pub secret : List ℕ

-- a secret below 16 bytes, and one like another
abbrev pub is_short : KeySecretValue → Bool
is_short s = nat_lt (length s.secret) 16

abbrev pub is_like : KeySecretValue → KeySecretValue → Bool
is_like s other = bytes_eq other.secret s.secret

abbrev pub is_place : KeyPlace → KeyPlace → Bool
is_place place other = (other.site == place.site) && (other.key == place.key)

-- the first key with the secret of a key, unless it is that key
abbrev pub other_place : KeyPlace → Option KeySecretValue → Option KeyPlace
other_place place (Some first) = if is_place place first.place then None else Some first.place
other_place place None = None

abbrev pub first_like : List KeySecretValue → KeySecretValue → Option KeyPlace
first_like secrets s = other_place s.place (find (is_like s) secrets)

-- a place, unless it is that of a key
abbrev pub unless_own : KeyPlace → Option KeyPlace → Option KeyPlace
unless_own place (Some first) = if is_place place first then None else Some first
unless_own place None = None

-- what a map has for a secret; and that for each secret it has the place of the first key with it
abbrev pub place_for : BTreeMap (Bor (List ℕ)) KeyPlace → List ℕ → Option KeyPlace
place_for firsts secret = get_by (λ k. slice_cmp nat_cmp secret k.now) firsts

unfoldable pub AreFirsts : BTreeMap (Bor (List ℕ)) KeyPlace → List KeySecretValue → Type 0
AreFirsts firsts secrets = (secret : List ℕ) → place_for firsts secret ≡ option_map (λ k. k.place) (find (λ k. bytes_eq k.secret secret) secrets)

-- a map has the place of a key too, where it had none for its secret
abbrev pub AddsFirst : BTreeMap (Bor (List ℕ)) KeyPlace → BTreeMap (Bor (List ℕ)) KeyPlace → KeySecretValue → Type 0
AddsFirst old new s = (secret : List ℕ) → place_for new secret ≡ option_or (place_for old secret) (if bytes_eq s.secret secret then Some s.place else None)

-- what is warned of a secret among others, and of all
abbrev pub short_of : KeySecretValue → List SecretWarning
short_of s = if is_short s then Short s.place ∷ [] else []

abbrev pub same_of : KeyPlace → Option KeyPlace → List SecretWarning
same_of place (Some first) = Same first place ∷ []
same_of place None = []

abbrev pub of_secret : List KeySecretValue → KeySecretValue → List SecretWarning
of_secret secrets s = short_of s ++ same_of s.place (first_like secrets s)

abbrev pub of_secrets : List KeySecretValue → List SecretWarning
of_secrets secrets = flat_map (of_secret secrets) secrets
