-- The text of what is held of sites, and which routers are a site's.
use Rattle.std.proofs.Common.{◌≡◌, ℕ, ◌+◌, ◌-◌, ◌^◌, ◌<◌, true, false, not, cond, List, [], ◌∷◌, ◌++◌, length, replicate, refl, ap, sym, subst, ◌∙◌, append_assoc, arith}
use Rattle.std.specs.Prelude.{◌==◌, ◌&&◌}
use Rattle.std.specs.Cmp.{ranks}
use Rattle.std.specs.Cmp.Lexicographic.{slice_cmp}
use Rattle.std.specs.Fmt.{char_count, digits, format_spec, padded_integral}
use Rattle.std.specs.List.{AllByRecursion}
use Rattle.std.specs.Ordering.{MatchOrdering, is_le, is_lt, nat_cmp, ordering_then}
use Rattle.std.specs.declared.cmp.Ordering.{Ordering}
use Rattle.std.specs.declared.cmp.Ordering.TheVariants.{Less, Equal, Greater}
use Rattle.std.proofs.lemmas.Bool.{eq-eqb, ne_eqb}
use Rattle.std.proofs.lemmas.List.{append-nil}
use Rattle.lisp_records.specs.declared.router.RouterId.{RouterId}
use Rattle.lisp_records.specs.Router.{router_cmp}
use Rattle.lisp_statistics.specs.SiteCounts.{IsXtr, RoutersOfSite, first_router, last_router}
use Rattle.lisp_statistics.specs.Sample.{site_id_text}

-- what `{:016x}` writes
pub site_digits : (site : ℕ) → padded_integral (format_spec 32 0 4 16 (2 ^ 64 - 1)) false [] (digits 16 false site) ≡ site_id_text site
unfolding padded_integral char_count
site_digits site =
    let zeros : (16 - length (digits 16 false site)) - 0 - 0 ≡ 16 - length (digits 16 false site) = omega arith in
    ap (λ (n : ℕ). replicate n 48 ++ (digits 16 false site ++ [])) zeros ∙ ap (λ (t : List ℕ). replicate (16 - length (digits 16 false site)) 48 ++ t) (append-nil (digits 16 false site))

pub ruleset written = (site_digits, append_assoc)

-- ---- the routers of a site

-- no bytes are before as many zeros
from_zeros : (xs : List ℕ) → is_le (slice_cmp nat_cmp (replicate (length xs) 0) xs) ≡ true
from_zeros [] = refl
from_zeros (x ∷ xs) = by (nat_cmp 0 x) (ranks 0 x) (from_zeros xs)
  where
    by : (order : Ordering) → MatchOrdering order (0 < x) (0 ≡ x) (x < 0) → is_le (slice_cmp nat_cmp (replicate (length xs) 0) xs) ≡ true → is_le (ordering_then order (slice_cmp nat_cmp (replicate (length xs) 0) xs)) ≡ true
    by Less lies rest = refl
    by Equal lies rest = rest
    by Greater lies rest = let none : x < 0 = lies in absurd (omega (arith, none))

-- and none are after as many of the greatest
up_to_last : (xs : List ℕ) → AllByRecursion (λ n. n < 256) xs → is_lt (slice_cmp nat_cmp (replicate (length xs) 255) xs) ≡ false
up_to_last [] bytes = refl
up_to_last (x ∷ xs) bytes = by (nat_cmp 255 x) (ranks 255 x) (up_to_last xs bytes.1)
  where
    by : (order : Ordering) → MatchOrdering order (255 < x) (255 ≡ x) (x < 255) → is_lt (slice_cmp nat_cmp (replicate (length xs) 255) xs) ≡ false → is_lt (ordering_then order (slice_cmp nat_cmp (replicate (length xs) 255) xs)) ≡ false
    by Less lies rest = let more : 255 < x = lies in let byte : x < 256 = bytes.0 in absurd (omega (arith, more, byte))
    by Equal lies rest = rest
    by Greater lies rest = refl

-- a router is one of a site where it is between the first and the last of it
is_of_site : (site : ℕ) (r : RouterId) → IsXtr r.xtr → (is_le (router_cmp (first_router site) r) && not (is_lt (router_cmp (last_router site) r))) ≡ (r.site == site)
is_of_site site r xtr = by (nat_cmp site r.site) (ranks site r.site)
  where
    from : is_le (slice_cmp nat_cmp (replicate 16 0) r.xtr) ≡ true
    from = subst (λ (n : ℕ). is_le (slice_cmp nat_cmp (replicate n 0) r.xtr) ≡ true) xtr.long (from_zeros r.xtr)

    up_to : is_lt (slice_cmp nat_cmp (replicate 16 255) r.xtr) ≡ false
    up_to = subst (λ (n : ℕ). is_lt (slice_cmp nat_cmp (replicate n 255) r.xtr) ≡ false) xtr.long (up_to_last r.xtr xtr.bytes)

    by : (order : Ordering) → MatchOrdering order (site < r.site) (site ≡ r.site) (r.site < site)
        → (is_le (ordering_then order (slice_cmp nat_cmp (replicate 16 0) r.xtr)) && not (is_lt (ordering_then order (slice_cmp nat_cmp (replicate 16 255) r.xtr)))) ≡ (r.site == site)
    by Less lies = let less : site < r.site = lies in sym (ne_eqb r.site site (λ e. omega (arith, less, e)))
    by Equal lies = let same : site ≡ r.site = lies in (λ i. from i && not (up_to i)) ∙ sym (eq-eqb r.site site (sym same))
    by Greater lies = let more : r.site < site = lies in sym (ne_eqb r.site site (λ e. omega (arith, more, e)))

pub routers_of_site : RoutersOfSite
routers_of_site [] site all = refl
routers_of_site (e ∷ counts) site all =
    let here = is_of_site site e.0 all.0 in
    let rest = routers_of_site counts site all.1 in
    λ i. cond (here i) (e ∷ rest i) (rest i)
