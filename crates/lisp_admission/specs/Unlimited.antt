-- What is checked where no site has limits: what was checked before there were any.
use Rattle.std.specs.Prelude.{◌≡◌, ℕ, not, List, None, Result, Ok, ok_or}
use Rattle.std.specs.List.{AllByRecursion}
use Rattle.lisp_records.specs.declared.address.Addr.{Addr}
use Rattle.lisp_records.specs.Result.{◌>>=◌}
use Rattle.lisp_messages.specs.Message.{MapRegisterValue}
use Rattle.lisp_messages.specs.Authentic.{is_authentic}
use Rattle.lisp_policy.specs.Limits.{no_limits}
use Rattle.lisp_policy.specs.Site.{SiteValue, site_of, secret_of}
use Rattle.lisp_admission.specs.Checks.{check, check_all, first_not_allowed, secret_under, most_jump_at, most_routers_at, most_rows_at}
use Rattle.lisp_admission.specs.declared.refused.Refused.{Refused}
use Rattle.lisp_admission.specs.declared.refused.Refused.TheVariants.{UnknownSite, UnknownKey, BadAuth, MergeAsked, NotAllowed}

-- site, key, tag, bit a and prefixes, wherever a Map-Register comes from
abbrev pub secret_without_limits : List SiteValue → List ℕ → MapRegisterValue → Result (List ℕ) Refused
secret_without_limits sites bytes m = do
  site ← ok_or (site_of sites m.site) UnknownSite
  secret ← ok_or (secret_of site m.key_id) UnknownKey
  _ ← check (is_authentic bytes secret) BadAuth
  _ ← check (not m.merge) MergeAsked
  _ ← check_all (first_not_allowed site m.records) NotAllowed
  Ok secret

-- where no site has limits a Map-Register fails the same check or none, no nonce is too far above the last one, and no site
-- is full
abbrev pub NoLimitsChangeNothing : Type 0
NoLimitsChangeNothing = (sites : List SiteValue) → AllByRecursion (λ s. s.limits ≡ no_limits) sites
    → ((from : Addr) (bytes : List ℕ) (m : MapRegisterValue) → secret_under sites from bytes m ≡ secret_without_limits sites bytes m)
    × ((site : ℕ) → (most_jump_at sites site ≡ None) × (most_routers_at sites site ≡ None) × (most_rows_at sites site ≡ None))
