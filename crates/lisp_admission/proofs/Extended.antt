-- What is admitted by sites that have all that others have.
use Rattle.std.proofs.Common.{◌≡◌, ℕ, ◌+◌, ◌≤◌, Bool, true, false, not, cond, List, [], ◌∷◌, Option, Some, None, Result, Ok, Err, position, ok_or, refl, sym, ap, ◌∙◌, true≢false}
use Rattle.std.specs.Option.{option_and_then}
use Rattle.std.specs.List.{position_from}
use Rattle.std.proofs.lemmas.Iterator.Adapters.{position_from-zero}
use Rattle.lisp_records.specs.declared.address.Addr.{Addr}
use Rattle.lisp_records.specs.Result.{◌>>=◌}
use Rattle.lisp_messages.specs.Message.{MapRegisterValue}
use Rattle.lisp_messages.specs.Authentic.{is_authentic}
use Rattle.lisp_policy.specs.Limits.{lets_router, lets_source, lets_ttl}
use Rattle.lisp_policy.specs.Site.{SiteValue, is_allowed, site_of, secret_of}
use Rattle.lisp_policy.specs.Extends.{keeps_site, extends}
use Rattle.lisp_policy.proofs.ExtendsLaws.{keeps_sites, keeps_secret, keeps_allowed, keeps_limits, keeps_router, keeps_source, keeps_ttl, widens_most_routers, widens_most_rows}
use Rattle.lisp_admission.specs.declared.limit.Limit.TheVariants.{Router, Source, Ttl}
use Rattle.lisp_admission.specs.declared.refused.Refused.{Refused}
use Rattle.lisp_admission.specs.declared.refused.Refused.TheVariants.{UnknownSite, UnknownKey, BadAuth, MergeAsked, NotAllowed, Limited}
use Rattle.lisp_admission.specs.Checks.{secret_at, first_not_allowed, first_out_of_bounds, check, check_all, admitted, secret_under, most_routers_at, most_rows_at}
use Rattle.lisp_admission.specs.Extended.{MoreSitesAdmitMore}
use Rattle.lisp_admission.proofs.Secrets.{err_clash}

none_clash : {X : Type 0} {x : X} → ◌≡◌ {A = Option X} None (Some x) → ⊥
none_clash e = absurd cc

module _ (old new : List SiteValue) (extended : extends old new ≡ true) where
  pub secret_kept : (site key : ℕ) (secret : List ℕ) → secret_at old site key ≡ Some secret → secret_at new site key ≡ Some secret
  secret_kept site key secret at = by (site_of old site) refl at
    where
      by : (o : Option SiteValue) → site_of old site ≡ o → option_and_then (λ s. secret_of s key) o ≡ Some secret → secret_at new site key ≡ Some secret
      by None found at = absurd (none_clash at)
      by (Some s) found at =
          let kept = keeps_sites old new extended site s found in
          ap (option_and_then (λ s. secret_of s key)) kept.found ∙ keeps_secret s kept.site kept.keeps key secret at

  pub routers_widen : (site : ℕ) (its : SiteValue) → site_of old site ≡ Some its → (more : ℕ) → most_routers_at new site ≡ Some more → (least : ℕ) × (most_routers_at old site ≡ Some least) × (least ≤ more)
  routers_widen site its found more at =
      let kept = keeps_sites old new extended site its found in
      let here = sym (ap (option_and_then (λ s. s.limits.most_routers)) kept.found) ∙ at in
      let was = widens_most_routers its.limits kept.site.limits (keeps_limits its kept.site kept.keeps) more here in
      (was.0, ap (option_and_then (λ s. s.limits.most_routers)) found ∙ was.1, was.2)

  pub rows_widen : (site : ℕ) (its : SiteValue) → site_of old site ≡ Some its → (more : ℕ) → most_rows_at new site ≡ Some more → (least : ℕ) × (most_rows_at old site ≡ Some least) × (least ≤ more)
  rows_widen site its found more at =
      let kept = keeps_sites old new extended site its found in
      let here = sym (ap (option_and_then (λ s. s.limits.most_rows)) kept.found) ∙ at in
      let was = widens_most_rows its.limits kept.site.limits (keeps_limits its kept.site kept.keeps) more here in
      (was.0, ap (option_and_then (λ s. s.limits.most_rows)) found ∙ was.1, was.2)

-- ---- all checks but that of the nonce

-- where a test fails wherever another does, it passes nowhere where the other doesn't
none_from : {X : Type 0} (p q : X → Bool) → ((x : X) → p x ≡ false → q x ≡ false) → (n : ℕ) (xs : List X) → position_from p n xs ≡ None → position_from q n xs ≡ None
none_from p q so n [] none = refl
none_from p q so n (x ∷ xs) none = by (p x) refl none (none_from p q so (n + 1) xs)
  where
    by : (b : Bool) → p x ≡ b → cond b (Some n) (position_from p (n + 1) xs) ≡ None → (position_from p (n + 1) xs ≡ None → position_from q (n + 1) xs ≡ None) → cond (q x) (Some n) (position_from q (n + 1) xs) ≡ None
    by true is none rest = absurd (none_clash (sym none))
    by false is none rest = ap (λ (b : Bool). cond b (Some n) (position_from q (n + 1) xs)) (so x is) ∙ rest none

none_so : {X : Type 0} (p q : X → Bool) → ((x : X) → p x ≡ false → q x ≡ false) → (xs : List X) → position p xs ≡ None → position q xs ≡ None
none_so p q so xs none = position_from-zero q xs ∙ none_from p q so 0 xs (sym (position_from-zero p xs) ∙ none)

not_so : (a b : Bool) → (a ≡ true → b ≡ true) → not a ≡ false → not b ≡ false
not_so true b so is = ap not (so refl)
not_so false b so is = absurd (true≢false is)

module _ {X : Type 0} (x : X) where
  -- a check that was passed
  checked : (b : Bool) (why : Refused) (rest : Bool → Result X Refused) → (check b why >>= rest) ≡ Ok x → (b ≡ true) × (rest true ≡ Ok x)
  checked true why rest is = (refl, is)
  checked false why rest is = absurd (err_clash is)

  passes : (b : Bool) (why : Refused) (rest : Bool → Result X Refused) → b ≡ true → rest true ≡ Ok x → (check b why >>= rest) ≡ Ok x
  passes b why rest holds is = ap (λ (t : Bool). check t why >>= rest) holds ∙ is

  all_checked : (o : Option ℕ) (why : ℕ → Refused) (rest : Bool → Result X Refused) → (check_all o why >>= rest) ≡ Ok x → (o ≡ None) × (rest true ≡ Ok x)
  all_checked None why rest is = (refl, is)
  all_checked (Some place) why rest is = absurd (err_clash is)

  all_pass : (o : Option ℕ) (why : ℕ → Refused) (rest : Bool → Result X Refused) → o ≡ None → rest true ≡ Ok x → (check_all o why >>= rest) ≡ Ok x
  all_pass o why rest none is = ap (λ (p : Option ℕ). check_all p why >>= rest) none ∙ is

last_checked : (o : Option ℕ) (why : ℕ → Refused) (b : Bool) → check_all o why ≡ Ok b → (o ≡ None) × (◌≡◌ {A = Result Bool Refused} (Ok true) (Ok b))
last_checked None why b is = (refl, is)
last_checked (Some place) why b is = absurd (err_clash is)

module _ (from : Addr) (bytes : List ℕ) (m : MapRegisterValue) where
  module _ (s n : SiteValue) (keeps : keeps_site s n ≡ true) where
    admitted_still : (b : Bool) → admitted s from m ≡ Ok b → admitted n from m ≡ Ok b
    admitted_still b is =
        let wide = keeps_limits s n keeps in
        let by_router = checked b (lets_router s.limits m.xtr) (Limited m.site Router) _ is in
        let by_source = checked b (lets_source s.limits from) (Limited m.site Source) _ by_router.1 in
        let by_merge = checked b (not m.merge) MergeAsked _ by_source.1 in
        let by_prefix = all_checked b (first_not_allowed s m.records) NotAllowed _ by_merge.1 in
        let by_ttl = last_checked (first_out_of_bounds s.limits m.use_ttl m.records) (λ place. Limited m.site (Ttl place)) b by_prefix.1 in
        let allowed = none_so (λ r. not (is_allowed s r.eid)) (λ r. not (is_allowed n r.eid)) (λ r. not_so (is_allowed s r.eid) (is_allowed n r.eid) (keeps_allowed s n keeps r.eid)) m.records by_prefix.0 in
        let within = none_so (λ r. not (lets_ttl s.limits m.use_ttl r.ttl)) (λ r. not (lets_ttl n.limits m.use_ttl r.ttl)) (λ r. not_so (lets_ttl s.limits m.use_ttl r.ttl) (lets_ttl n.limits m.use_ttl r.ttl) (keeps_ttl s.limits n.limits wide m.use_ttl r.ttl)) m.records by_ttl.0 in
        passes b (lets_router n.limits m.xtr) (Limited m.site Router) _ (keeps_router s.limits n.limits wide m.xtr by_router.0) (
        passes b (lets_source n.limits from) (Limited m.site Source) _ (keeps_source s.limits n.limits wide from by_source.0) (
        passes b (not m.merge) MergeAsked _ by_merge.0 (
        all_pass b (first_not_allowed n m.records) NotAllowed _ allowed (
        ap (λ (o : Option ℕ). check_all o (λ place. Limited m.site (Ttl place))) within ∙ by_ttl.1
        )
        )
        )
        )

    then_still : (key secret : List ℕ) → (admitted s from m >>= λ _. Ok key) ≡ Ok secret → (admitted n from m >>= λ _. Ok key) ≡ Ok secret
    then_still key secret is = by (admitted s from m) refl is
      where
        by : (r : Result Bool Refused) → admitted s from m ≡ r → (r >>= λ _. Ok key) ≡ Ok secret → (admitted n from m >>= λ _. Ok key) ≡ Ok secret
        by (Ok b) was is = ap (λ (r : Result Bool Refused). r >>= λ _. Ok key) (admitted_still b was) ∙ is
        by (Err why) was is = absurd (err_clash is)

    under_still : (secret : List ℕ)
        → (ok_or (secret_of s m.key_id) UnknownKey >>= λ key. check (is_authentic bytes key) BadAuth >>= λ _. admitted s from m >>= λ _. Ok key) ≡ Ok secret
        → (ok_or (secret_of n m.key_id) UnknownKey >>= λ key. check (is_authentic bytes key) BadAuth >>= λ _. admitted n from m >>= λ _. Ok key) ≡ Ok secret
    under_still secret is = by (secret_of s m.key_id) refl is
      where
        by : (o : Option (List ℕ)) → secret_of s m.key_id ≡ o
            → (ok_or o UnknownKey >>= λ key. check (is_authentic bytes key) BadAuth >>= λ _. admitted s from m >>= λ _. Ok key) ≡ Ok secret
            → (ok_or (secret_of n m.key_id) UnknownKey >>= λ key. check (is_authentic bytes key) BadAuth >>= λ _. admitted n from m >>= λ _. Ok key) ≡ Ok secret
        by None was is = absurd (err_clash is)
        by (Some key) was is =
            let by_tag = checked secret (is_authentic bytes key) BadAuth _ is in
            ap (λ (o : Option (List ℕ)). ok_or o UnknownKey >>= λ key. check (is_authentic bytes key) BadAuth >>= λ _. admitted n from m >>= λ _. Ok key) (keeps_secret s n keeps m.key_id key was)
            ∙ passes secret (is_authentic bytes key) BadAuth _ by_tag.0 (then_still key secret by_tag.1)

pub more_sites_admit_more : MoreSitesAdmitMore
unfolding secret_under
more_sites_admit_more old new extended from bytes m secret is = by (site_of old m.site) refl is
  where
    by : (o : Option SiteValue) → site_of old m.site ≡ o
        → (ok_or o UnknownSite >>= λ site. ok_or (secret_of site m.key_id) UnknownKey >>= λ key. check (is_authentic bytes key) BadAuth >>= λ _. admitted site from m >>= λ _. Ok key) ≡ Ok secret
        → (ok_or (site_of new m.site) UnknownSite >>= λ site. ok_or (secret_of site m.key_id) UnknownKey >>= λ key. check (is_authentic bytes key) BadAuth >>= λ _. admitted site from m >>= λ _. Ok key) ≡ Ok secret
    by None found is = absurd (err_clash is)
    by (Some s) found is =
        let kept = keeps_sites old new extended m.site s found in
        ap (λ (o : Option SiteValue). ok_or o UnknownSite >>= λ site. ok_or (secret_of site m.key_id) UnknownKey >>= λ key. check (is_authentic bytes key) BadAuth >>= λ _. admitted site from m >>= λ _. Ok key) kept.found
        ∙ under_still from bytes m s kept.site kept.keeps secret is
