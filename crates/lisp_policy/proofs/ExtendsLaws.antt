-- What sites keep that have all that others have.
use Rattle.std.proofs.Common.{◌≡◌, ℕ, ◌≤◌, Bool, true, false, not, ◌&&◌, ◌||◌, ◌==◌, cond, List, [], ◌∷◌, length, Option, Some, None, refl, sym, ap, ◌∙◌, subst, true≢false, arith}
use Rattle.std.specs.List.{find, list_all, list_any}
use Rattle.std.specs.Option.{option_map}
use Rattle.std.specs.Str.{bytes_eq}
use Rattle.std.proofs.lemmas.Bool.{and_parts, and_from, leb-true, le-leb, or_left, or_right}
use Rattle.std.proofs.lemmas.Bool.Decides.{Decides-eqb}
use Rattle.std.proofs.lemmas.Slice.Eq.{bytes_eq-Decides}
use Rattle.lisp_records.proofs.DatabaseLaws.{block_eq-Decides}
use Rattle.lisp_records.specs.declared.address.Addr.{Addr}
use Rattle.lisp_records.specs.Address.{PrefixValue, prefix_eq, covers, holds}
use Rattle.lisp_policy.specs.declared.site.SitePrefix.{SitePrefix}
use Rattle.lisp_policy.specs.Limits.{LimitsValue, lists_router, lets_router, lists_source, lets_source, lives_by_ttl, is_at_least, is_at_most, lets_ttl}
use Rattle.lisp_policy.specs.Site.{SiteKeyValue, SiteValue, site_of, key_of, secret_of, lets_in, is_allowed, has_address, is_configured}
use Rattle.lisp_policy.specs.Extends.{is_secret, keeps_keys, is_as_wide, keeps_prefixes, widens_routers, lists_prefix, widens_from, widens_least, widens_most, widens_limits, keeps_site, is_kept_by, extends}

either : {P : Type 0} (a b : Bool) → (a || b) ≡ true → (a ≡ true → P) → (b ≡ true → P) → P
either true b is first second = first refl
either false b is first second = second is

module _ {X : Type 0} where
  some_same : {x y : X} → ◌≡◌ {A = Option X} (Some x) (Some y) → x ≡ y
  some_same e = cc

  none_clash : {x : X} → ◌≡◌ {A = Option X} None (Some x) → ⊥
  none_clash e = absurd cc

  -- what is found passes its test
  found_passes : (p : X → Bool) (xs : List X) (x : X) → find p xs ≡ Some x → p x ≡ true
  found_passes p [] x at = absurd (none_clash at)
  found_passes p (y ∷ ys) x at = by (p y) refl at (found_passes p ys x)
    where
      by : (b : Bool) → p y ≡ b → cond b (Some y) (find p ys) ≡ Some x → (find p ys ≡ Some x → p x ≡ true) → p x ≡ true
      by true test at rest = ap p (sym (some_same at)) ∙ test
      by false test at rest = rest at

  -- and what all pass
  found_of_all : (p q : X → Bool) (xs : List X) (x : X) → list_all q xs ≡ true → find p xs ≡ Some x → q x ≡ true
  found_of_all p q [] x all at = absurd (none_clash at)
  found_of_all p q (y ∷ ys) x all at = by (p y) at (found_of_all p q ys x (and_parts (q y) (list_all q ys) all).1)
    where
      by : (b : Bool) → cond b (Some y) (find p ys) ≡ Some x → (find p ys ≡ Some x → q x ≡ true) → q x ≡ true
      by true at rest = ap q (sym (some_same at)) ∙ (and_parts (q y) (list_all q ys) all).0
      by false at rest = rest at

  -- what is found is one that passes
  found_any : (p q : X → Bool) (xs : List X) (x : X) → find p xs ≡ Some x → q x ≡ true → list_any q xs ≡ true
  found_any p q [] x at passes = absurd (none_clash at)
  found_any p q (y ∷ ys) x at passes = by (p y) at (λ later. found_any p q ys x later passes)
    where
      by : (b : Bool) → cond b (Some y) (find p ys) ≡ Some x → (find p ys ≡ Some x → list_any q ys ≡ true) → list_any q (y ∷ ys) ≡ true
      by true at rest = or_left (q y) (list_any q ys) (ap q (some_same at) ∙ passes)
      by false at rest = or_right (q y) (list_any q ys) (rest at)

  any_so : (p q : X → Bool) (xs : List X) → ((x : X) → p x ≡ true → q x ≡ true) → list_any p xs ≡ true → list_any q xs ≡ true
  any_so p q [] so any = any
  any_so p q (x ∷ xs) so any = either (p x) (list_any p xs) any (λ here. or_left (q x) (list_any q xs) (so x here)) (λ there. or_right (q x) (list_any q xs) (any_so p q xs so there))

-- where each of some has a counterpart that passes where it does, one passes where one of them does
any_counterpart : {X Y : Type 0} (p : X → Bool) (wide : X → Y → Bool) (q : Y → Bool) → ((x : X) (y : Y) → wide x y ≡ true → p x ≡ true → q y ≡ true) → (xs : List X) (ys : List Y) → list_all (λ x. list_any (wide x) ys) xs ≡ true → list_any p xs ≡ true → list_any q ys ≡ true
any_counterpart p wide q so [] ys all any = absurd (true≢false (sym any))
any_counterpart p wide q so (x ∷ xs) ys all any =
    let parts = and_parts (list_any (wide x) ys) (list_all (λ z. list_any (wide z) ys) xs) all in
    either (p x) (list_any p xs) any (λ here. any_so (wide x) q ys (λ y is. so x y is here) parts.0) (λ there. any_counterpart p wide q so xs ys parts.1 there)

-- ---- a site

module _ (s n : SiteValue) (keeps : keeps_site s n ≡ true) where
  its_keys : keeps_keys s n ≡ true
  its_keys = (and_parts (keeps_keys s n) (keeps_prefixes s n) (and_parts (keeps_keys s n && keeps_prefixes s n) (widens_limits s.limits n.limits) keeps).0).0

  its_prefixes : keeps_prefixes s n ≡ true
  its_prefixes = (and_parts (keeps_keys s n) (keeps_prefixes s n) (and_parts (keeps_keys s n && keeps_prefixes s n) (widens_limits s.limits n.limits) keeps).0).1

  pub keeps_limits : widens_limits s.limits n.limits ≡ true
  keeps_limits = (and_parts (keeps_keys s n && keeps_prefixes s n) (widens_limits s.limits n.limits) keeps).1

  -- each secret is under its Key ID still
  pub keeps_secret : (id : ℕ) (secret : List ℕ) → secret_of s id ≡ Some secret → secret_of n id ≡ Some secret
  keeps_secret id secret at = by (key_of s.keys id) refl at
    where
      same : (o : Option (List ℕ)) (was : List ℕ) → is_secret o was ≡ true → o ≡ Some was
      same None was is = absurd (true≢false (sym is))
      same (Some found) was is = ap Some ((bytes_eq-Decides found was).0 is)

      by : (o : Option SiteKeyValue) → key_of s.keys id ≡ o → option_map (λ (k : SiteKeyValue). k.secret) o ≡ Some secret → secret_of n id ≡ Some secret
      by None found at = absurd (none_clash at)
      by (Some k) found at =
          let its_id : k.id ≡ id = (Decides-eqb k.id id).0 (found_passes (λ k. k.id == id) s.keys k found) in
          let kept = same (secret_of n k.id) k.secret (found_of_all (λ k. k.id == id) (λ k. is_secret (secret_of n k.id) k.secret) s.keys k its_keys found) in
          ap (secret_of n) (sym its_id) ∙ kept ∙ at

  -- and each prefix that it allows is allowed still
  pub keeps_allowed : (b : PrefixValue) → is_allowed s b ≡ true → is_allowed n b ≡ true
  keeps_allowed b allowed = any_counterpart (λ p. lets_in p b) is_as_wide (λ p. lets_in p b) so s.prefixes n.prefixes its_prefixes allowed
    where
      more : (was is : Bool) → (not was || is) ≡ true → was ≡ true → is ≡ true
      more true is wide t = wide
      more false is wide t = absurd (true≢false (sym t))

      so : (x y : SitePrefix) → is_as_wide x y ≡ true → lets_in x b ≡ true → lets_in y b ≡ true
      so x y wide lets =
          let parts = and_parts (prefix_eq y.eid x.eid) (not x.more_specifics || y.more_specifics) wide in
          let same : y.eid ≡ x.eid = (block_eq-Decides y.eid x.eid).0 parts.0 in
          either (prefix_eq x.eid b) (x.more_specifics && covers x.eid b) lets
          (λ alike. or_left (prefix_eq y.eid b) (y.more_specifics && covers y.eid b) (ap (λ (e : PrefixValue). prefix_eq e b) same ∙ alike))
          (λ inside. (
          let its = and_parts x.more_specifics (covers x.eid b) inside in
          or_right (prefix_eq y.eid b) (y.more_specifics && covers y.eid b) (and_from y.more_specifics (covers y.eid b) (more x.more_specifics y.more_specifics parts.1 its.0) (ap (λ (e : PrefixValue). covers e b) same ∙ its.1))
          ))

  -- each address of its prefixes is one still
  pub keeps_address : (a : Addr) → has_address s a ≡ true → has_address n a ≡ true
  keeps_address a has = any_counterpart (λ p. holds p.eid a) is_as_wide (λ p. holds p.eid a) so s.prefixes n.prefixes its_prefixes has
    where
      so : (x y : SitePrefix) → is_as_wide x y ≡ true → holds x.eid a ≡ true → holds y.eid a ≡ true
      so x y wide has = ap (λ (e : PrefixValue). holds e a) ((block_eq-Decides y.eid x.eid).0 (and_parts (prefix_eq y.eid x.eid) (not x.more_specifics || y.more_specifics) wide).0) ∙ has

-- ---- its limits

module _ (s n : LimitsValue) (wide : widens_limits s n ≡ true) where
  record Wide : Type 0 where
    routers : widens_routers s.routers n.routers ≡ true
    from : widens_from s.from n.from ≡ true
    least_ttl : widens_least s.least_ttl n.least_ttl ≡ true
    most_ttl : widens_most s.most_ttl n.most_ttl ≡ true
    most_jump : widens_most s.most_jump n.most_jump ≡ true
    most_routers : widens_most s.most_routers n.most_routers ≡ true
    most_rows : widens_most s.most_rows n.most_rows ≡ true

  parts : Wide
  parts =
      let rows = and_parts _ (widens_most s.most_rows n.most_rows) wide in
      let routers = and_parts _ (widens_most s.most_routers n.most_routers) rows.0 in
      let jump = and_parts _ (widens_most s.most_jump n.most_jump) routers.0 in
      let most = and_parts _ (widens_most s.most_ttl n.most_ttl) jump.0 in
      let least = and_parts _ (widens_least s.least_ttl n.least_ttl) most.0 in
      let from = and_parts (widens_routers s.routers n.routers) (widens_from s.from n.from) least.0 in
      record { routers = from.0; from = from.1; least_ttl = least.1; most_ttl = most.1; most_jump = jump.1; most_routers = routers.1; most_rows = rows.1 }

  lists : (any was is listed so : Bool) → (any || (not was && listed)) ≡ true → (was || is) ≡ true → (listed ≡ true → is ≡ true → so ≡ true) → (any || so) ≡ true
  lists true was is listed so wide may then = refl
  lists false true is listed so wide may then = absurd (true≢false (sym wide))
  lists false false is listed so wide may then = then wide may

  -- each router that might register may still
  pub keeps_router : (xtr : List ℕ) → lets_router s xtr ≡ true → lets_router n xtr ≡ true
  keeps_router xtr may = lists (length n.routers == 0) (length s.routers == 0) (lists_router s.routers xtr) (list_all (lists_router n.routers) s.routers) (lists_router n.routers xtr) parts.routers may
      (λ all any. any_counterpart (λ x. bytes_eq x xtr) (λ x y. bytes_eq y x) (λ x. bytes_eq x xtr) so s.routers n.routers all any)
    where
      so : (x y : List ℕ) → bytes_eq y x ≡ true → bytes_eq x xtr ≡ true → bytes_eq y xtr ≡ true
      so x y alike is = ap (λ (z : List ℕ). bytes_eq z xtr) ((bytes_eq-Decides y x).0 alike) ∙ is

  -- from each address that it might from
  pub keeps_source : (a : Addr) → lets_source s a ≡ true → lets_source n a ≡ true
  keeps_source a may = lists (length n.from == 0) (length s.from == 0) (lists_source s.from a) (list_all (lists_prefix n.from) s.from) (lists_source n.from a) parts.from may
      (λ all any. any_counterpart (λ p. holds p a) (λ x y. prefix_eq y x) (λ p. holds p a) so s.from n.from all any)
    where
      so : (x y : PrefixValue) → prefix_eq y x ≡ true → holds x a ≡ true → holds y a ≡ true
      so x y alike is = ap (λ (p : PrefixValue). holds p a) ((block_eq-Decides y x).0 alike) ∙ is

  at_least : (old new : Option ℕ) (t : ℕ) → widens_least old new ≡ true → is_at_least old t ≡ true → is_at_least new t ≡ true
  at_least old None t wide is = refl
  at_least None (Some least) t wide is = absurd (true≢false (sym wide))
  at_least (Some was) (Some least) t wide is = le-leb least t (omega (arith, leb-true least was wide, leb-true was t is))

  at_most : (old new : Option ℕ) (t : ℕ) → widens_most old new ≡ true → is_at_most old t ≡ true → is_at_most new t ≡ true
  at_most old None t wide is = refl
  at_most None (Some most) t wide is = absurd (true≢false (sym wide))
  at_most (Some was) (Some most) t wide is = le-leb t most (omega (arith, leb-true was most wide, leb-true t was is))

  -- under each TTL
  pub keeps_ttl : (use_ttl : Bool) (ttl : ℕ) → lets_ttl s use_ttl ttl ≡ true → lets_ttl n use_ttl ttl ≡ true
  keeps_ttl use_ttl ttl lets = either (not (lives_by_ttl use_ttl ttl)) (is_at_least s.least_ttl ttl && is_at_most s.most_ttl ttl) lets
      (λ apart. or_left (not (lives_by_ttl use_ttl ttl)) (is_at_least n.least_ttl ttl && is_at_most n.most_ttl ttl) apart)
      (λ within. (
      let both = and_parts (is_at_least s.least_ttl ttl) (is_at_most s.most_ttl ttl) within in
      or_right (not (lives_by_ttl use_ttl ttl)) (is_at_least n.least_ttl ttl && is_at_most n.most_ttl ttl) (and_from (is_at_least n.least_ttl ttl) (is_at_most n.most_ttl ttl) (at_least s.least_ttl n.least_ttl ttl parts.least_ttl both.0) (at_most s.most_ttl n.most_ttl ttl parts.most_ttl both.1))
      ))

  bound : (old new : Option ℕ) (more : ℕ) → widens_most old new ≡ true → new ≡ Some more → (least : ℕ) × (old ≡ Some least) × (least ≤ more)
  bound old None more wide at = absurd (none_clash at)
  bound None (Some most) more wide at = absurd (true≢false (sym wide))
  bound (Some was) (Some most) more wide at = (was, refl, subst (λ (m : ℕ). was ≤ m) (some_same at) (leb-true was most wide))

  -- where there is a greatest value there was one, which wasn't above it
  pub widens_jump : (more : ℕ) → n.most_jump ≡ Some more → (least : ℕ) × (s.most_jump ≡ Some least) × (least ≤ more)
  widens_jump more at = bound s.most_jump n.most_jump more parts.most_jump at

  pub widens_most_routers : (more : ℕ) → n.most_routers ≡ Some more → (least : ℕ) × (s.most_routers ≡ Some least) × (least ≤ more)
  widens_most_routers more at = bound s.most_routers n.most_routers more parts.most_routers at

  pub widens_most_rows : (more : ℕ) → n.most_rows ≡ Some more → (least : ℕ) × (s.most_rows ≡ Some least) × (least ≤ more)
  widens_most_rows more at = bound s.most_rows n.most_rows more parts.most_rows at

-- ---- all sites

-- the site that has all of an old one
pub record KeptSite (new : List SiteValue) (id : ℕ) (s : SiteValue) : Type 0 where
  pub site : SiteValue
  pub found : site_of new id ≡ Some site
  pub keeps : keeps_site s site ≡ true

kept_by : (new : List SiteValue) (s : SiteValue) → is_kept_by (site_of new s.id) s ≡ true → KeptSite new s.id s
kept_by new s is = by (site_of new s.id) refl is
  where
    by : (o : Option SiteValue) → site_of new s.id ≡ o → is_kept_by o s ≡ true → KeptSite new s.id s
    by None at is = absurd (true≢false (sym is))
    by (Some n) at is = record { site = n; found = at; keeps = is }

module _ (old new : List SiteValue) (extended : extends old new ≡ true) where
  pub keeps_sites : (id : ℕ) (s : SiteValue) → site_of old id ≡ Some s → KeptSite new id s
  keeps_sites id s at =
      let its_id : s.id ≡ id = (Decides-eqb s.id id).0 (found_passes (λ s. s.id == id) old s at) in
      subst (λ (i : ℕ). KeptSite new i s) its_id (kept_by new s (found_of_all (λ s. s.id == id) (λ s. is_kept_by (site_of new s.id) s) old s extended at))

-- each address that is configured is still
pub keeps_configured : (old new : List SiteValue) (a : Addr) → extends old new ≡ true → is_configured old a ≡ true → is_configured new a ≡ true
keeps_configured [] new a extended is = absurd (true≢false (sym is))
keeps_configured (s ∷ old) new a extended is =
    let parts = and_parts (is_kept_by (site_of new s.id) s) (list_all (λ x. is_kept_by (site_of new x.id) x) old) extended in
    let kept = kept_by new s parts.0 in
    either (has_address s a) (is_configured old a) is
    (λ here. found_any (λ n. n.id == s.id) (λ n. has_address n a) new kept.site kept.found (keeps_address s kept.site kept.keeps a here))
    (λ there. keeps_configured old new a parts.1 there)
