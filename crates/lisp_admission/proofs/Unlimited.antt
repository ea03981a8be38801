-- Where no site has limits, each check is what it was without them.
use Rattle.std.proofs.Common.{◌≡◌, ℕ, ◌+◌, Bool, true, false, cond, not, List, [], ◌∷◌, Option, Some, None, Result, Ok, ok_or, refl, ap, subst, ◌∙◌}
use Rattle.std.specs.Prelude.{◌||◌, ◌==◌}
use Rattle.std.specs.Option.{option_and_then}
use Rattle.std.proofs.lemmas.Iterator.Adapters.{position_from-zero}
use Rattle.std.specs.List.{AllByRecursion, find, position_from}
use Rattle.lisp_records.specs.declared.address.Addr.{Addr}
use Rattle.lisp_records.specs.Record.{MapRecordValue}
use Rattle.lisp_records.specs.Result.{◌>>=◌}
use Rattle.lisp_messages.specs.Message.{MapRegisterValue}
use Rattle.lisp_messages.specs.Authentic.{is_authentic}
use Rattle.lisp_policy.specs.Limits.{LimitsValue, no_limits, lets_router, lets_source, lives_by_ttl, lets_ttl}
use Rattle.lisp_policy.specs.Site.{SiteValue, site_of, secret_of}
use Rattle.lisp_admission.specs.declared.limit.Limit.TheVariants.{Router, Source, Ttl}
use Rattle.lisp_admission.specs.declared.refused.Refused.{Refused}
use Rattle.lisp_admission.specs.declared.refused.Refused.TheVariants.{UnknownSite, UnknownKey, BadAuth, MergeAsked, NotAllowed, Limited}
use Rattle.lisp_admission.specs.Checks.{check, check_all, admitted, first_not_allowed, first_out_of_bounds, secret_under}
use Rattle.lisp_admission.specs.Unlimited.{secret_without_limits, NoLimitsChangeNothing}

or_true : (b : Bool) → (b || true) ≡ true
or_true true = refl
or_true false = refl

-- no TTL is out of bounds
within : (use_ttl : Bool) (r : MapRecordValue) → not (lets_ttl no_limits use_ttl r.ttl) ≡ false
within use_ttl r = ap not (or_true (not (lives_by_ttl use_ttl r.ttl)))

none_from : (use_ttl : Bool) (n : ℕ) (records : List MapRecordValue) → position_from (λ r. not (lets_ttl no_limits use_ttl r.ttl)) n records ≡ None
none_from use_ttl n [] = refl
none_from use_ttl n (r ∷ rs) = ap (λ (b : Bool). cond b (Some n) (position_from (λ r. not (lets_ttl no_limits use_ttl r.ttl)) (n + 1) rs)) (within use_ttl r) ∙ none_from use_ttl (n + 1) rs

none_out : (use_ttl : Bool) (records : List MapRecordValue) → first_out_of_bounds no_limits use_ttl records ≡ None
none_out use_ttl records = position_from-zero (λ r. not (lets_ttl no_limits use_ttl r.ttl)) records ∙ none_from use_ttl 0 records

module _ (from : Addr) (m : MapRegisterValue) where
  -- what is checked of a site under some limits
  abbrev under : SiteValue → LimitsValue → Result Bool Refused
  under site limits =
      check (lets_router limits m.xtr) (Limited m.site Router) >>= λ _. check (lets_source limits from) (Limited m.site Source) >>= λ _. check (not m.merge) MergeAsked
      >>= λ _. check_all (first_not_allowed site m.records) NotAllowed >>= λ _. check_all (first_out_of_bounds limits m.use_ttl m.records) (λ place. Limited m.site (Ttl place))

  -- two checks are left
  two_left : (b : Bool) (o : Option ℕ) (secret : List ℕ)
      → (check b MergeAsked >>= λ _. check_all o NotAllowed >>= λ _. check_all None (λ place. Limited m.site (Ttl place))) >>= (λ _. Ok secret) ≡ (check b MergeAsked >>= λ _. check_all o NotAllowed >>= λ _. Ok secret)
  two_left true None secret = refl
  two_left true (Some place) secret = refl
  two_left false o secret = refl

  pub unlimited : (site : SiteValue) (secret : List ℕ) → site.limits ≡ no_limits
      → (admitted site from m >>= λ _. Ok secret) ≡ (check (not m.merge) MergeAsked >>= λ _. check_all (first_not_allowed site m.records) NotAllowed >>= λ _. Ok secret)
  unlimited site secret none =
      ap (λ (limits : LimitsValue). under site limits >>= λ _. Ok secret) none
      ∙ ap (λ (o : Option ℕ). (check (not m.merge) MergeAsked >>= λ _. check_all (first_not_allowed site m.records) NotAllowed >>= λ _. check_all o (λ place. Limited m.site (Ttl place))) >>= λ _. Ok secret) (none_out m.use_ttl m.records)
      ∙ two_left (not m.merge) (first_not_allowed site m.records) secret

  by_tag : (site : SiteValue) (secret : List ℕ) (b : Bool) → site.limits ≡ no_limits
      → (check b BadAuth >>= λ _. admitted site from m >>= λ _. Ok secret) ≡ (check b BadAuth >>= λ _. check (not m.merge) MergeAsked >>= λ _. check_all (first_not_allowed site m.records) NotAllowed >>= λ _. Ok secret)
  by_tag site secret true none = unlimited site secret none
  by_tag site secret false none = refl

  by_key : (bytes : List ℕ) (site : SiteValue) (o : Option (List ℕ)) → site.limits ≡ no_limits
      → (ok_or o UnknownKey >>= λ secret. check (is_authentic bytes secret) BadAuth >>= λ _. admitted site from m >>= λ _. Ok secret)
      ≡ (ok_or o UnknownKey >>= λ secret. check (is_authentic bytes secret) BadAuth >>= λ _. check (not m.merge) MergeAsked >>= λ _. check_all (first_not_allowed site m.records) NotAllowed >>= λ _. Ok secret)
  by_key bytes site None none = refl
  by_key bytes site (Some secret) none = by_tag site secret (is_authentic bytes secret) none

-- a site that is found has no limits
module _ (id : ℕ) where
  found_case : (x site : SiteValue) (rest : Option SiteValue) (b : Bool) → x.limits ≡ no_limits → (rest ≡ Some site → site.limits ≡ no_limits) → cond b (Some x) rest ≡ Some site → site.limits ≡ no_limits
  found_case x site rest true none later e = let same : Some x ≡ Some site = e in subst (λ (s : SiteValue). s.limits ≡ no_limits) (let one : x ≡ site = cc in one) none
  found_case x site rest false none later e = later e

  found : (sites : List SiteValue) → AllByRecursion (λ s. s.limits ≡ no_limits) sites → (site : SiteValue) → site_of sites id ≡ Some site → site.limits ≡ no_limits
  found [] none site e = absurd (let clash : ◌≡◌ {A = Option SiteValue} None (Some site) = e in cc)
  found (x ∷ xs) none site e = found_case x site (find (λ s. s.id == id) xs) (x.id == id) none.0 (found xs none.1 site) e

module _ (sites : List SiteValue) (none : AllByRecursion (λ s. s.limits ≡ no_limits) sites) where
  same_secret : (from : Addr) (bytes : List ℕ) (m : MapRegisterValue) → secret_under sites from bytes m ≡ secret_without_limits sites bytes m
  unfolding secret_under
  same_secret from bytes m = at (site_of sites m.site) refl
    where
      at : (o : Option SiteValue) → site_of sites m.site ≡ o
          → (ok_or o UnknownSite >>= λ site. ok_or (secret_of site m.key_id) UnknownKey >>= λ secret. check (is_authentic bytes secret) BadAuth >>= λ _. admitted site from m >>= λ _. Ok secret)
          ≡ (ok_or o UnknownSite >>= λ site. ok_or (secret_of site m.key_id) UnknownKey >>= λ secret. check (is_authentic bytes secret) BadAuth >>= λ _. check (not m.merge) MergeAsked >>= λ _. check_all (first_not_allowed site m.records) NotAllowed >>= λ _. Ok secret)
      at None is = refl
      at (Some site) is = by_key from m bytes site (secret_of site m.key_id) (found m.site sites none site is)

  no_limit : (limit : LimitsValue → Option ℕ) → limit no_limits ≡ None → (site : ℕ) → option_and_then (λ s. limit s.limits) (site_of sites site) ≡ None
  no_limit limit off id = at (site_of sites id) refl
    where
      at : (o : Option SiteValue) → site_of sites id ≡ o → option_and_then (λ s. limit s.limits) (site_of sites id) ≡ None
      at None is = ap (λ (o : Option SiteValue). option_and_then (λ s. limit s.limits) o) is
      at (Some site) is = ap (λ (o : Option SiteValue). option_and_then (λ s. limit s.limits) o) is ∙ ap limit (found id sites none site is) ∙ off

pub no_limits_change_nothing : NoLimitsChangeNothing
no_limits_change_nothing sites none = (
  same_secret sites none,
  λ site. (
    no_limit sites none (λ l. l.most_jump) refl site,
    no_limit sites none (λ l. l.most_routers) refl site,
    no_limit sites none (λ l. l.most_rows) refl site,
  ),
)
