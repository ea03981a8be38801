-- The first keys with secrets, found by a map; and what lists of warnings of secrets gain.
use Rattle.std.proofs.Common.{◌≡◌, ◌∙◌, ℕ, Bool, true, false, cond, true≢false, List, [], ◌∷◌, ◌++◌, Option, Some, None, Bor, ap, sym, refl, append_assoc}
use Rattle.std.specs.Prelude.{is_some}
use Rattle.std.specs.BTreeMap.{BTreeMap, IsEmpty, Updates}
use Rattle.std.specs.Cmp.Lexicographic.{slice_cmp}
use Rattle.std.specs.List.{find, flat_map}
use Rattle.std.specs.Option.{option_map, option_or}
use Rattle.std.specs.Ordering.{nat_cmp}
use Rattle.std.specs.Str.{bytes_eq}
use Rattle.std.proofs.lemmas.Map.Text.{btree_map_updates_str}
use Rattle.std.proofs.lemmas.Slice.Eq.{bytes_eq-Decides}
use Rattle.lisp_policy.proofs.Found.{or_none}
use Rattle.lisp_check.specs.declared.secret.KeyPlace.{KeyPlace}
use Rattle.lisp_check.specs.declared.secret.SecretWarning.{SecretWarning}
use Rattle.lisp_check.specs.Secret.{KeySecretValue, AreFirsts, AddsFirst, place_for, unless_own, other_place, is_like, first_like, short_of, same_of, of_secret, of_secrets}

is_none : {X : Type 0} (o : Option X) → is_some o ≡ false → o ≡ None
is_none None none = refl
is_none (Some x) none = absurd (true≢false none)

abbrev pub Places : Type 0
Places = BTreeMap (Bor (List ℕ)) KeyPlace

-- the place of the first key with a secret
abbrev first_place : List KeySecretValue → List ℕ → Option KeyPlace
first_place secrets secret = option_map (λ k. k.place) (find (λ k. bytes_eq k.secret secret) secrets)

-- the place of a key whose secret has none
pub new_place : (old new : Places) (key : Bor (List ℕ)) (place : KeyPlace) (s : KeySecretValue) → key.now ≡ s.secret → place ≡ s.place → is_some (place_for old key.now) ≡ false
    → Updates (λ x y. slice_cmp nat_cmp x.now y.now) old new key (Some place) → AddsFirst old new s
new_place old new key place s here there none updates secret =
    btree_map_updates_str key.now old new (Some place) updates secret
    ∙ either (bytes_eq key.now secret) refl
    ∙ ap (λ (own : List ℕ). option_or (place_for old secret) (cond (bytes_eq own secret) (Some place) None)) here
    ∙ ap (λ (p : KeyPlace). option_or (place_for old secret) (cond (bytes_eq s.secret secret) (Some p) None)) there
  where
    either : (same : Bool) → bytes_eq key.now secret ≡ same → cond same (Some place) (place_for old secret) ≡ option_or (place_for old secret) (cond same (Some place) None)
    either true same =
        let own : key.now ≡ secret = (bytes_eq-Decides key.now secret).0 same in
        ap (λ (o : Option KeyPlace). option_or o (Some place)) (sym (is_none (place_for old secret) (ap (λ (l : List ℕ). is_some (place_for old l)) (sym own) ∙ none)))
    either false same = sym (or_none (place_for old secret))

-- for each secret a map has the place of its first key, or else others have the first key of all
pub record GoesOn (firsts : Places) (others all : List KeySecretValue) : Type 0 where
  pub on : (secret : List ℕ) → option_or (place_for firsts secret) (first_place others secret) ≡ first_place all secret

pub no_firsts : (firsts : Places) (secrets : List KeySecretValue) → IsEmpty firsts → GoesOn firsts secrets secrets
no_firsts firsts secrets empty = record { on = λ secret. rw empty refl }

pub one_more_first : (old new : Places) (s : KeySecretValue) (others all : List KeySecretValue) → GoesOn old (s ∷ others) all → AddsFirst old new s → GoesOn new others all
one_more_first old new s others all so_far adds = record {
  on = λ secret.
      ap (λ (o : Option KeyPlace). option_or o (first_place others secret)) (adds secret) ∙ joined (place_for old secret) (bytes_eq s.secret secret) secret ∙ so_far.on secret;
}
  where
    joined : (o : Option KeyPlace) (same : Bool) (secret : List ℕ) → option_or (option_or o (cond same (Some s.place) None)) (first_place others secret)
        ≡ option_or o (option_map (λ k. k.place) (cond same (Some s) (find (λ k. bytes_eq k.secret secret) others)))
    joined (Some p) same secret = refl
    joined None true secret = refl
    joined None false secret = refl

pub all_firsts : (firsts : Places) (secrets : List KeySecretValue) → GoesOn firsts [] secrets → AreFirsts firsts secrets
unfolding AreFirsts
all_firsts firsts secrets are secret = sym (or_none (place_for firsts secret)) ∙ are.on secret

-- the first key with a secret
pub first_found : (firsts : Places) (secrets : List KeySecretValue) (s : KeySecretValue) → AreFirsts firsts secrets → unless_own s.place (place_for firsts s.secret) ≡ first_like secrets s
unfolding AreFirsts
first_found firsts secrets s are = ap (λ (o : Option KeyPlace). unless_own s.place o) (are s.secret) ∙ unless (find (is_like s) secrets)
  where
    unless : (o : Option KeySecretValue) → unless_own s.place (option_map (λ k. k.place) o) ≡ other_place s.place o
    unless None = refl
    unless (Some k) = refl

-- both warnings of a secret
pub both : (firsts : Places) (s : KeySecretValue) (place : KeyPlace) (first : Option KeyPlace) (a b c : List SecretWarning) → place ≡ s.place
    → ((secrets : List KeySecretValue) → AreFirsts firsts secrets → first ≡ first_like secrets s) → b ≡ a ++ short_of s → c ≡ b ++ same_of place first
    → (secrets : List KeySecretValue) → AreFirsts firsts secrets → c ≡ a ++ of_secret secrets s
both firsts s place first a b c here is short same secrets are =
    same
    ∙ ap (λ (l : List SecretWarning). l ++ same_of place first) short
    ∙ ap (λ (p : KeyPlace). (a ++ short_of s) ++ same_of p first) here
    ∙ ap (λ (o : Option KeyPlace). (a ++ short_of s) ++ same_of s.place o) (is secrets are)
    ∙ append_assoc a (short_of s) (same_of s.place (first_like secrets s))

-- those of one more secret, and of the others
pub more_secrets : (all left others : List KeySecretValue) (a b : List SecretWarning) (s : KeySecretValue) → left ≡ s ∷ others → b ≡ a ++ of_secret all s
    → a ++ flat_map (of_secret all) left ≡ of_secrets all → b ++ flat_map (of_secret all) others ≡ of_secrets all
more_secrets all left others a b s parts added so_far =
    ap (λ (l : List SecretWarning). l ++ flat_map (of_secret all) others) added ∙ append_assoc a (of_secret all s) (flat_map (of_secret all) others)
    ∙ ap (λ (l : List KeySecretValue). a ++ flat_map (of_secret all) l) (sym parts) ∙ so_far
