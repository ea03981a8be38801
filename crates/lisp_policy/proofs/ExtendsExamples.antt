-- Examples: which sites have all that one site has, and which don't.
use Rattle.std.proofs.Common.{◌≡◌, ℕ, Bool, true, false, List, [], ◌∷◌, Some, refl}
use Rattle.lisp_records.specs.declared.address.Addr.TheVariants.{V4}
use Rattle.lisp_policy.specs.declared.site.SitePrefix.{SitePrefix}
use Rattle.lisp_policy.specs.Limits.{LimitsValue, no_limits}
use Rattle.lisp_policy.specs.Site.{SiteKeyValue, SiteValue}
use Rattle.lisp_policy.specs.Extends.{extends}

abbrev key : ℕ → List ℕ → SiteKeyValue
key id secret = record { id = id; secret = secret }

-- 10.n.0.0/16
abbrev entry : ℕ → Bool → SitePrefix
entry n more = record { eid = record { addr = V4 (10 ∷ n ∷ 0 ∷ 0 ∷ []); mask_len = 16 }; more_specifics = more }

abbrev site : ℕ → List SiteKeyValue → List SitePrefix → LimitsValue → SiteValue
site id keys prefixes limits = record { id = id; keys = keys; prefixes = prefixes; limits = limits }

abbrev rows_at_most : ℕ → LimitsValue
rows_at_most n = record no_limits { most_rows = Some n }

abbrev routers_of : List (List ℕ) → LimitsValue
routers_of xtrs = record no_limits { routers = xtrs }

abbrev ttl_from : ℕ → LimitsValue
ttl_from n = record no_limits { least_ttl = Some n }

-- a site with two keys and two prefixes
abbrev old : LimitsValue → SiteValue
old limits = site 1 (key 1 (7 ∷ 8 ∷ []) ∷ key 2 (9 ∷ []) ∷ []) (entry 1 false ∷ entry 2 true ∷ []) limits

abbrev kept : LimitsValue → List SiteValue → Bool
kept limits new = extends (old limits ∷ []) new

same : kept no_limits (old no_limits ∷ []) ≡ true
same = refl

-- a site, a key and a prefix may come, in any order, and prefixes inside one that was alone
site_came : kept no_limits (site 3 [] [] no_limits ∷ old no_limits ∷ []) ≡ true
site_came = refl

key_came : kept no_limits (site 1 (key 3 (1 ∷ []) ∷ key 2 (9 ∷ []) ∷ key 1 (7 ∷ 8 ∷ []) ∷ []) (entry 2 true ∷ entry 1 true ∷ entry 3 false ∷ []) no_limits ∷ []) ≡ true
key_came = refl

-- no site, key or prefix may go, nor what is inside a prefix
site_went : kept no_limits (site 3 [] [] no_limits ∷ []) ≡ false
site_went = refl

key_went : kept no_limits (site 1 (key 1 (7 ∷ 8 ∷ []) ∷ []) (entry 1 false ∷ entry 2 true ∷ []) no_limits ∷ []) ≡ false
key_went = refl

prefix_went : kept no_limits (site 1 (key 1 (7 ∷ 8 ∷ []) ∷ key 2 (9 ∷ []) ∷ []) (entry 2 true ∷ []) no_limits ∷ []) ≡ false
prefix_went = refl

more_specifics_went : kept no_limits (site 1 (key 1 (7 ∷ 8 ∷ []) ∷ key 2 (9 ∷ []) ∷ []) (entry 1 false ∷ entry 2 false ∷ []) no_limits ∷ []) ≡ false
more_specifics_went = refl

-- no secret may change
secret_changed : kept no_limits (site 1 (key 1 (7 ∷ 8 ∷ []) ∷ key 2 (9 ∷ 0 ∷ []) ∷ []) (entry 1 false ∷ entry 2 true ∷ []) no_limits ∷ []) ≡ false
secret_changed = refl

-- of several sites of one Site-ID the first counts
first_counts : kept no_limits (site 1 [] [] no_limits ∷ old no_limits ∷ []) ≡ false
first_counts = refl

-- limits may widen or go, and none may come or narrow
rows_limited : kept no_limits (old (rows_at_most 5) ∷ []) ≡ false
rows_limited = refl

rows_raised : kept (rows_at_most 5) (old (rows_at_most 6) ∷ []) ≡ true
rows_raised = refl

rows_lowered : kept (rows_at_most 5) (old (rows_at_most 4) ∷ []) ≡ false
rows_lowered = refl

limit_went : kept (rows_at_most 5) (old no_limits ∷ []) ≡ true
limit_went = refl

ttl_lowered : kept (ttl_from 5) (old (ttl_from 4) ∷ []) ≡ true
ttl_lowered = refl

ttl_raised : kept (ttl_from 5) (old (ttl_from 6) ∷ []) ≡ false
ttl_raised = refl

routers_listed : kept no_limits (old (routers_of ((1 ∷ []) ∷ [])) ∷ []) ≡ false
routers_listed = refl

router_came : kept (routers_of ((1 ∷ []) ∷ [])) (old (routers_of ((2 ∷ []) ∷ (1 ∷ []) ∷ [])) ∷ []) ≡ true
router_came = refl

router_went : kept (routers_of ((1 ∷ []) ∷ (2 ∷ []) ∷ [])) (old (routers_of ((2 ∷ []) ∷ [])) ∷ []) ≡ false
router_went = refl
