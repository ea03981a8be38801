-- Warnings that are added for each entry of a list.
use Rattle.std.proofs.Common.{◌≡◌, ◌∙◌, ℕ, ◌+◌, ◌-◌, ◌<◌, ◌≤◌, suc, List, [], ◌∷◌, ◌++◌, length, get_or, take, drop, sym, ap, refl, arith, append_assoc, append-nil}
use Rattle.std.proofs.Math.Seq.{drop-cons, take-length}
use Rattle.std.proofs.lemmas.List.{drop_all}
use Rattle.std.specs.Prelude.{◌==◌}
use Rattle.lisp_records.specs.declared.address.Addr.{Addr}
use Rattle.lisp_policy.specs.Site.{SiteValue}
use Rattle.lisp_policy.specs.Configuration.{ConfigValue, RouterEntryValue}
use Rattle.lisp_sites.specs.Numbers.{addresses}
use Rattle.lisp_check.specs.declared.warning.Warning.{Warning}
use Rattle.lisp_check.specs.declared.warning.Warning.TheVariants.{NoNodes}
use Rattle.lisp_check.specs.Warning.{all_warnings, each, each_from, given_if, of_node, of_router, of_site}

-- a list by its first element and the others, as a pattern of slices has them
pub parted : {X : Type 0} (xs : List X) (x : X) → 1 ≤ length xs → x ≡ get_or xs 0 x → xs ≡ x ∷ take (length xs - 1) (drop 1 xs)
parted [] x some first = absurd (omega (arith, some))
parted {X = X} (y ∷ ys) x some first =
    let all : length (y ∷ ys) - 1 ≡ length ys = omega arith in
    ap (λ (z : X). z ∷ ys) (sym first) ∙ ap (λ (l : List X). x ∷ l) (sym (ap (λ (n : ℕ). take n ys) all ∙ take-length ys))

pub ruleset steps = (append_assoc, append-nil)

-- those that were added, and those of the entries that are left
module _ {X : Type 0} (of : ℕ → X → List Warning) (xs : List X) (all : List Warning) where
  pub each_next : (i : ℕ) (x : X) (before after : List Warning) → i < length xs → x ≡ get_or xs i x
      → before ++ each_from of i (drop i xs) ≡ all → after ≡ before ++ of i x → after ++ each_from of (i + 1) (drop (i + 1) xs) ≡ all
  each_next i x before after low at so_far added =
      ap (λ (l : List Warning). l ++ rest) added ∙ append_assoc before (of i x) rest ∙ sym (ap (λ (l : List Warning). before ++ l) here) ∙ so_far
    where
      rest : List Warning
      rest = each_from of (i + 1) (drop (i + 1) xs)

      next : suc i ≡ i + 1
      next = omega arith

      here : each_from of i (drop i xs) ≡ of i x ++ rest
      here = ap (λ (l : List X). each_from of i l) (drop-cons xs i x low) ∙ ap (λ (y : X). of i y ++ each_from of (i + 1) (drop (suc i) xs)) (sym at)
          ∙ ap (λ (n : ℕ). of i x ++ each_from of (i + 1) (drop n xs)) next

  pub each_done : (i : ℕ) (added : List Warning) → length xs ≤ i → added ++ each_from of i (drop i xs) ≡ all → added ≡ all
  each_done i added end so_far = sym (append-nil added) ∙ ap (λ (l : List X). added ++ each_from of i l) (sym (drop_all i xs end)) ∙ so_far

-- those of all sites, nodes and routers
pub all_added : (c : ConfigValue) (addrs : List Addr) (sites : List SiteValue) (routers : List RouterEntryValue) → addrs ≡ addresses c → sites ≡ c.sites → routers ≡ c.routers
    → (a b d e : List Warning) → a ≡ given_if (length addrs == 0) NoNodes → b ≡ a ++ each (of_site sites routers) sites
    → d ≡ b ++ each (of_node c addrs) addrs → e ≡ d ++ each (of_router c) routers → e ≡ all_warnings c
all_added c addrs sites routers same_addrs same_sites same_routers a b d e first second third fourth =
    fourth ∙ ap (λ (l : List Warning). l ++ of_routers) third ∙ ap (λ (l : List Warning). (l ++ of_nodes) ++ of_routers) second
    ∙ ap (λ (l : List Warning). ((l ++ of_sites) ++ of_nodes) ++ of_routers) first ∙ regroup (given_if (length addrs == 0) NoNodes) of_sites of_nodes of_routers
    ∙ (λ i. given_if (length (same_addrs i) == 0) NoNodes ++ (each (of_site (same_sites i) (same_routers i)) (same_sites i) ++ (each (of_node c (same_addrs i)) (same_addrs i) ++ each (of_router c) (same_routers i))))
  where
    regroup : (w x y z : List Warning) → ((w ++ x) ++ y) ++ z ≡ w ++ (x ++ (y ++ z))
    regroup w x y z = simp append_assoc refl

    of_sites : List Warning
    of_sites = each (of_site sites routers) sites

    of_nodes : List Warning
    of_nodes = each (of_node c addrs) addrs

    of_routers : List Warning
    of_routers = each (of_router c) routers
