-- What a Map-Register that passes all checks stands under.
use Rattle.std.proofs.Common.{◌≡◌, ℕ, Bool, true, false, List, Option, Some, None, Result, Ok, Err, ok_or, refl, sym, ap, ◌∙◌}
use Rattle.std.specs.Option.{option_and_then}
use Rattle.lisp_records.specs.declared.address.Addr.{Addr}
use Rattle.lisp_records.specs.Result.{◌>>=◌}
use Rattle.lisp_messages.specs.Message.{MapRegisterValue}
use Rattle.lisp_messages.specs.Authentic.{is_authentic}
use Rattle.lisp_policy.specs.Site.{SiteValue, site_of, secret_of}
use Rattle.lisp_admission.specs.declared.refused.Refused.{Refused}
use Rattle.lisp_admission.specs.declared.refused.Refused.TheVariants.{UnknownSite, UnknownKey, BadAuth}
use Rattle.lisp_admission.specs.Checks.{check, admitted, secret_under, secret_at}

-- its site, the key's secret, and the tag under it
pub record StandsUnder (sites : List SiteValue) (bytes : List ℕ) (m : MapRegisterValue) (key : List ℕ) : Type 0 where
  pub site : SiteValue
  pub found : site_of sites m.site ≡ Some site
  pub known : secret_of site m.key_id ≡ Some key
  pub authentic : is_authentic bytes key ≡ true

module _ {X : Type 0} where
  pub err_clash : {why : Refused} {x : X} → ◌≡◌ {A = Result X Refused} (Err why) (Ok x) → ⊥
  err_clash e = absurd cc

module _ (sites : List SiteValue) (from : Addr) (bytes : List ℕ) (m : MapRegisterValue) (key : List ℕ) where
  same_secret : (r : Result Bool Refused) (secret : List ℕ) → (r >>= λ _. Ok secret) ≡ Ok key → secret ≡ key
  same_secret (Ok b) secret e = let same : ◌≡◌ {A = Result (List ℕ) Refused} (Ok secret) (Ok key) = e in cc
  same_secret (Err why) secret e = absurd (err_clash e)

  by_tag : (site : SiteValue) (secret : List ℕ) → site_of sites m.site ≡ Some site → secret_of site m.key_id ≡ Some secret → (b : Bool) → is_authentic bytes secret ≡ b
      → (check b BadAuth >>= λ _. admitted site from m >>= λ _. Ok secret) ≡ Ok key → StandsUnder sites bytes m key
  by_tag site secret found known true is e =
      let same : secret ≡ key = same_secret (admitted site from m) secret e in
      record { site = site; found = found; known = known ∙ ap Some same; authentic = ap (is_authentic bytes) (sym same) ∙ is }
  by_tag site secret found known false is e = absurd (err_clash e)

  by_key : (site : SiteValue) → site_of sites m.site ≡ Some site → (o : Option (List ℕ)) → secret_of site m.key_id ≡ o
      → (ok_or o UnknownKey >>= λ secret. check (is_authentic bytes secret) BadAuth >>= λ _. admitted site from m >>= λ _. Ok secret) ≡ Ok key → StandsUnder sites bytes m key
  by_key site found None is e = absurd (err_clash e)
  by_key site found (Some secret) is e = by_tag site secret found is (is_authentic bytes secret) refl e

  by_site : (o : Option SiteValue) → site_of sites m.site ≡ o
      → (ok_or o UnknownSite >>= λ site. ok_or (secret_of site m.key_id) UnknownKey >>= λ secret. check (is_authentic bytes secret) BadAuth >>= λ _. admitted site from m >>= λ _. Ok secret) ≡ Ok key
      → StandsUnder sites bytes m key
  by_site None is e = absurd (err_clash e)
  by_site (Some site) is e = by_key site is (secret_of site m.key_id) refl e

  -- it stands under the secret that the checks give
  pub stands_under : secret_under sites from bytes m ≡ Ok key → StandsUnder sites bytes m key
  unfolding secret_under
  stands_under e = by_site (site_of sites m.site) refl e

  -- which is that of its key
  pub its_secret : secret_under sites from bytes m ≡ Ok key → secret_at sites m.site m.key_id ≡ Some key
  its_secret e =
      let its = stands_under e in
      ap (option_and_then (λ s. secret_of s m.key_id)) its.found ∙ its.known
