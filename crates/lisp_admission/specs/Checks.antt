-- What a Map-Server checks of a Map-Register before it looks at its nonce (RFC 9301 section 8.2), and the Map-Notify
-- that answers it.
use Rattle.std.specs.Prelude.{ℕ, Bool, true, false, not, List, Option, Some, None, Result, Ok, Err, position, ok_or, if◌then◌else◌}
use Rattle.std.specs.Option.{option_and_then}
use Rattle.lisp_records.specs.declared.address.Addr.{Addr}
use Rattle.lisp_records.specs.Record.{MapRecordValue}
use Rattle.lisp_records.specs.Result.{◌>>=◌}
use Rattle.lisp_messages.specs.Message.{MapRegisterValue, MapNotifyValue}
use Rattle.lisp_messages.specs.Authentic.{is_authentic}
use Rattle.lisp_policy.specs.Limits.{LimitsValue, lets_router, lets_source, lets_ttl}
use Rattle.lisp_policy.specs.Site.{SiteValue, is_allowed, site_of, secret_of}
use Rattle.lisp_admission.specs.declared.limit.Limit.TheVariants.{Router, Source, Ttl}
use Rattle.lisp_admission.specs.declared.refused.Refused.{Refused}
use Rattle.lisp_admission.specs.declared.refused.Refused.TheVariants.{UnknownSite, UnknownKey, BadAuth, MergeAsked, NotAllowed, Limited}

-- the secret of a key of a site
abbrev pub secret_at : List SiteValue → ℕ → ℕ → Option (List ℕ)
secret_at sites site key = option_and_then (λ s. secret_of s key) (site_of sites site)

-- the place of the first record that the site doesn't allow
abbrev pub first_not_allowed : SiteValue → List MapRecordValue → Option ℕ
first_not_allowed site records = position (λ r. not (is_allowed site r.eid)) records

-- the place of the first record that would live for a TTL out of bounds
abbrev pub first_out_of_bounds : LimitsValue → Bool → List MapRecordValue → Option ℕ
first_out_of_bounds limits use_ttl records = position (λ r. not (lets_ttl limits use_ttl r.ttl)) records

-- a check: the refusal, unless the test holds
abbrev pub check : Bool → Refused → Result Bool Refused
check holds refused = if holds then Ok holds else Err refused

-- a check of records: the refusal of the first one that fails it
abbrev pub check_all : Option ℕ → (ℕ → Refused) → Result Bool Refused
check_all None refused = Ok true
check_all (Some place) refused = Err (refused place)

-- what is checked of an authentic Map-Register from an address: the site's routers and sources, bit a, the
-- prefixes and the TTLs
abbrev pub admitted : SiteValue → Addr → MapRegisterValue → Result Bool Refused
admitted site from m = do
  _ ← check (lets_router site.limits m.xtr) (Limited m.site Router)
  _ ← check (lets_source site.limits from) (Limited m.site Source)
  _ ← check (not m.merge) MergeAsked
  _ ← check_all (first_not_allowed site m.records) NotAllowed
  check_all (first_out_of_bounds site.limits m.use_ttl m.records) (λ place. Limited m.site (Ttl place))

-- the secret that a Map-Register stands under, or the first check that it fails
unfoldable pub secret_under : List SiteValue → Addr → List ℕ → MapRegisterValue → Result (List ℕ) Refused
secret_under sites from bytes m = do
  site ← ok_or (site_of sites m.site) UnknownSite
  secret ← ok_or (secret_of site m.key_id) UnknownKey
  _ ← check (is_authentic bytes secret) BadAuth
  _ ← admitted site from m
  Ok secret

-- how far above the last nonce the next one may be, where the site has such a limit
abbrev pub most_jump_at : List SiteValue → ℕ → Option ℕ
most_jump_at sites site = option_and_then (λ s. s.limits.most_jump) (site_of sites site)

-- how many routers with live rows, and live rows, the site may have, where it has such limits
abbrev pub most_routers_at : List SiteValue → ℕ → Option ℕ
most_routers_at sites site = option_and_then (λ s. s.limits.most_routers) (site_of sites site)

abbrev pub most_rows_at : List SiteValue → ℕ → Option ℕ
most_rows_at sites site = option_and_then (λ s. s.limits.most_rows) (site_of sites site)

-- bytes are authentic under a secret, if there is one
abbrev pub signed_by : Option (List ℕ) → List ℕ → Bool
signed_by None bytes = false
signed_by (Some secret) bytes = is_authentic bytes secret

-- the Map-Notify of a Map-Register has its nonce, Key ID and records (RFC 9301 section 5.7)
abbrev pub reply_to : MapRegisterValue → MapNotifyValue
reply_to m = record { ack = false; nonce = m.nonce; key_id = m.key_id; records = m.records }
