-- Whether sites have all that others have: each site, with its keys, their secrets and its prefixes, under limits that are as wide.
use Rattle.std.specs.Prelude.{ℕ, Bool, true, false, not, ◌&&◌, ◌||◌, ◌==◌, nat_le, List, length, Option, Some, None}
use Rattle.std.specs.List.{list_all, list_any}
use Rattle.std.specs.Str.{bytes_eq}
use Rattle.lisp_records.specs.Address.{PrefixValue, prefix_eq}
use Rattle.lisp_policy.specs.declared.site.SitePrefix.{SitePrefix}
use Rattle.lisp_policy.specs.Limits.{LimitsValue, lists_router}
use Rattle.lisp_policy.specs.Site.{SiteValue, secret_of, site_of}

-- the site has a secret under a Key ID, and that is this one
abbrev pub is_secret : Option (List ℕ) → List ℕ → Bool
is_secret None secret = false
is_secret (Some found) secret = bytes_eq found secret

abbrev pub keeps_keys : SiteValue → SiteValue → Bool
keeps_keys old new = list_all (λ k. is_secret (secret_of new k.id) k.secret) old.keys

-- an entry lets in what another does: the same prefix, and prefixes inside it where the other lets them in
abbrev pub is_as_wide : SitePrefix → SitePrefix → Bool
is_as_wide old new = prefix_eq new.eid old.eid && (not old.more_specifics || new.more_specifics)

abbrev pub keeps_prefixes : SiteValue → SiteValue → Bool
keeps_prefixes old new = list_all (λ p. list_any (is_as_wide p) new.prefixes) old.prefixes

-- a list of who may is as wide: it is empty, so that any may, or has each of the other one, which isn't empty
abbrev pub widens_routers : List (List ℕ) → List (List ℕ) → Bool
widens_routers old new = (length new == 0) || (not (length old == 0) && list_all (lists_router new) old)

abbrev pub lists_prefix : List PrefixValue → PrefixValue → Bool
lists_prefix prefixes p = list_any (λ q. prefix_eq q p) prefixes

abbrev pub widens_from : List PrefixValue → List PrefixValue → Bool
widens_from old new = (length new == 0) || (not (length old == 0) && list_all (lists_prefix new) old)

-- a least or a greatest value is as wide: it isn't given, or lets the other one be
abbrev pub widens_least : Option ℕ → Option ℕ → Bool
widens_least old None = true
widens_least None (Some new) = false
widens_least (Some old) (Some new) = nat_le new old

abbrev pub widens_most : Option ℕ → Option ℕ → Bool
widens_most old None = true
widens_most None (Some new) = false
widens_most (Some old) (Some new) = nat_le old new

abbrev pub widens_limits : LimitsValue → LimitsValue → Bool
widens_limits old new = widens_routers old.routers new.routers && widens_from old.from new.from && widens_least old.least_ttl new.least_ttl && widens_most old.most_ttl new.most_ttl && widens_most old.most_jump new.most_jump && widens_most old.most_routers new.most_routers && widens_most old.most_rows new.most_rows

abbrev pub keeps_site : SiteValue → SiteValue → Bool
keeps_site old new = keeps_keys old new && keeps_prefixes old new && widens_limits old.limits new.limits

-- the new sites have a site, if any, that has all of an old one
abbrev pub is_kept_by : Option SiteValue → SiteValue → Bool
is_kept_by None old = false
is_kept_by (Some new) old = keeps_site old new

-- the new sites have all that the old ones have; what else they have is theirs
abbrev pub extends : List SiteValue → List SiteValue → Bool
extends old new = list_all (λ s. is_kept_by (site_of new s.id) s) old
