-- The warnings of a configuration are exactly those that it has.
use Rattle.std.proofs.Common.{◌≡◌, ◌≢◌, ◌∙◌, ◌⊎◌, ℕ, ◌+◌, zero, suc, Bool, true, false, not, List, [], ◌∷◌, ◌++◌, length, Option, Some, None, inl, inr, subst, sym, ap, refl, arith}
use Rattle.std.specs.Prelude.{◌==◌, ◌↔◌, IsTrue, is_some, slice_get, position}
use Rattle.std.specs.List.{Contains}
use Rattle.std.specs.Option.{option_map}
use Rattle.std.proofs.lemmas.Bool.Decides.{Decides-eqb}
use Rattle.std.proofs.lemmas.List.Elements.{Contains-append_cases, Contains-append_left, Contains-append_right}
use Rattle.lisp_records.specs.declared.address.Addr.{Addr}
use Rattle.lisp_records.specs.Record.{MapRecordValue}
use Rattle.lisp_policy.specs.declared.site.SitePrefix.{SitePrefix}
use Rattle.lisp_policy.specs.Site.{SiteValue}
use Rattle.lisp_policy.specs.Configuration.{ConfigValue, RouterEntryValue}
use Rattle.lisp_sites.specs.Numbers.{NodeValue, address_of, addresses, node_at}
use Rattle.lisp_sites.proofs.NumberLaws.{address_at-addresses}
use Rattle.lisp_check.specs.declared.warning.PrefixPlace.{PrefixPlace}
use Rattle.lisp_check.specs.declared.warning.Warning.{Warning}
use Rattle.lisp_check.specs.declared.warning.Warning.TheVariants.{NoNodes, NoKeys, NoPrefixes, SamePrefix, Inside, NoUnicast, SameAddress, AnyItrRloc, NoItrRloc, SameIdentity, NotAllowed, OtherFamily, SameKey, NoServers, NoMostRows, ManyRouters, NotListed, OtherSource, OutOfBounds, ManyRows}
use Rattle.lisp_check.specs.Warning.{IsWarned, all_warnings, any_of, each, each_from, given_if, has_address, has_around, has_many_rows, has_more_routers, has_prefix, inside_of, is_no_unicast, is_not_listed, is_of_other_family, is_of_other_source, is_out_of_bounds, is_twin, is_unbounded, lists_no_own, may_register, of_first, of_limits, of_node, of_prefix, of_record, of_resolve, of_router, of_server, of_site, same_key}

-- an element of a list's end, and one at a place
behind : {X : Type 0} (x w : X) (xs : List X) → Contains xs w → Contains (x ∷ xs) w
behind x w xs (k, within, is) = (suc k, omega (arith, within), is)

stands : {X : Type 0} (xs : List X) (i : ℕ) (x : X) → slice_get xs i ≡ Some x → Contains xs x
stands {X = X} [] i x at = absurd (let clash : ◌≡◌ {A = Option X} None (Some x) = at in cc)
stands (y ∷ xs) zero x at = let both : Some y ≡ Some x = at in let same : y ≡ x = cc in (0, omega arith, same)
stands (y ∷ xs) (suc i) x at = behind y x xs (stands xs i x at)

place : {X : Type 0} (xs : List X) (x : X) → Contains xs x → (i : ℕ) × (slice_get xs i ≡ Some x)
place [] x (k, within, same) = absurd (omega (arith, within))
place (y ∷ xs) x (zero, within, same) = (0, ap Some same)
place (y ∷ xs) x (suc k, within, same) = let (i, at) = place xs x (k, omega (arith, within), same) in (suc i, at)

-- ---- what lists of warnings have

-- exactly the warnings that something holds of
record Means (ws : List Warning) (Q : Warning → Type 0) : Type 0 where
  to : (w : Warning) → Contains ws w → Q w
  from : (w : Warning) → Q w → Contains ws w

nothing : Means [] (λ w. ⊥)
nothing = record { to = λ w (k, within, same). absurd (omega (arith, within)); from = λ w none. absurd none }

both : {xs ys : List Warning} {Q R : Warning → Type 0} → Means xs Q → Means ys R → Means (xs ++ ys) (λ w. Q w ⊎ R w)
both {xs} {ys} {Q} {R} one other = record {
  to = λ w held. elim (Contains-append_cases xs ys w held) [ inl h ↦ inl (one.to w h) | inr h ↦ inr (other.to w h) ];
  from = from;
} where
  from : (w : Warning) → Q w ⊎ R w → Contains (xs ++ ys) w
  from w (inl q) = Contains-append_left xs ys w (one.from w q)
  from w (inr r) = Contains-append_right xs ys w (other.from w r)

-- one that a test gives
abbrev If : Bool → Warning → Warning → Type 0
If is v w = IsTrue is × (v ≡ w)

given : (is : Bool) (v : Warning) → Means (given_if is v) (If is v)
given true v = record { to = to; from = λ w (is, same). (0, omega arith, same) }
  where
    to : (w : Warning) → Contains (v ∷ []) w → If true v w
    to w (zero, within, same) = (refl, same)
    to w (suc k, within, same) = absurd (omega (arith, within))
given false v = record { to = λ w (k, within, same). absurd (omega (arith, within)); from = λ w (is, same). absurd (let clash : false ≡ true = is in cc) }

-- that of the first of a kind, which is another one
abbrev First : (ℕ → Warning) → Option ℕ → ℕ → Warning → Type 0
First make found place w = (k : ℕ) × (k ≢ place) × (found ≡ Some k) × (make k ≡ w)

differ : (k place : ℕ) → IsTrue (not (k == place)) → k ≢ place
differ k place is e = let same : (k == place) ≡ true = (Decides-eqb k place).1 e in let clash : false ≡ true = sym (ap not same) ∙ is in cc

is_other : (k place : ℕ) (b : Bool) → (k == place) ≡ b → k ≢ place → IsTrue (not b)
is_other k place true same other = absurd (other ((Decides-eqb k place).0 same))
is_other k place false same other = refl

first : (make : ℕ → Warning) (found : Option ℕ) (place : ℕ) → Means (of_first make found place) (First make found place)
first make None place = record {
  to = λ w held. absurd (differ place place ((given (not (place == place)) (make place)).to w held).0 refl);
  from = λ w (k, other, none, same). absurd (let clash : ◌≡◌ {A = Option ℕ} None (Some k) = none in cc);
}
first make (Some n) place = record {
  to = λ w held. let (is, same) = (given (not (n == place)) (make n)).to w held in (n, differ n place is, refl, same);
  from = from;
} where
  from : (w : Warning) → First make (Some n) place w → Contains (of_first make (Some n) place) w
  from w (k, other, some, same) =
      let is_it : Some n ≡ Some k = some in
      let it : n ≡ k = cc in
      (given (not (n == place)) (make n)).from w (is_other n place (n == place) refl (λ e. other (sym it ∙ e)), ap make it ∙ same)

-- those of each entry of a list
abbrev Every : {X : Type 0} → List X → (ℕ → X → Warning → Type 0) → Warning → Type 0
Every {X} xs Q w = (i : ℕ) × (x : X) × (slice_get xs i ≡ Some x) × Q i x w

module _ {X : Type 0} (of : ℕ → X → List Warning) (Q : ℕ → X → Warning → Type 0) (means : (i : ℕ) (x : X) → Means (of i x) (Q i x)) where
  to_every : (n : ℕ) (xs : List X) (w : Warning) → Contains (each_from of n xs) w → (i : ℕ) × (x : X) × (slice_get xs i ≡ Some x) × Q (n + i) x w
  to_every n [] w (k, within, same) = absurd (omega (arith, within))
  to_every n (x ∷ xs) w held = elim (Contains-append_cases (of n x) (each_from of (n + 1) xs) w held) [
    | inl h ↦ (0, x, refl, subst (λ (m : ℕ). Q m x w) (let e : n ≡ n + 0 = omega arith in e) ((means n x).to w h))
    | inr h ↦ let (i, y, at, q) = to_every (n + 1) xs w h in (suc i, y, at, subst (λ (m : ℕ). Q m y w) (let e : n + 1 + i ≡ n + suc i = omega arith in e) q)
  ]

  from_every : (n : ℕ) (xs : List X) (w : Warning) (i : ℕ) (x : X) → slice_get xs i ≡ Some x → Q (n + i) x w → Contains (each_from of n xs) w
  from_every n [] w i x at q = absurd (let clash : ◌≡◌ {A = Option X} None (Some x) = at in cc)
  from_every n (y ∷ xs) w zero x at q =
      let some : Some y ≡ Some x = at in
      let same : y ≡ x = cc in
      let here : n + 0 ≡ n = omega arith in
      Contains-append_left (of n y) (each_from of (n + 1) xs) w ((means n y).from w (subst (λ (z : X). Q n z w) (sym same) (subst (λ (m : ℕ). Q m x w) here q)))
  from_every n (y ∷ xs) w (suc i) x at q =
      let next : n + suc i ≡ n + 1 + i = omega arith in
      Contains-append_right (of n y) (each_from of (n + 1) xs) w (from_every (n + 1) xs w i x at (subst (λ (m : ℕ). Q m x w) next q))

  every : (xs : List X) → Means (each of xs) (Every xs Q)
  every xs = record {
    to = λ w held. let (i, x, at, q) = to_every 0 xs w held in (i, x, at, subst (λ (m : ℕ). Q m x w) (let e : 0 + i ≡ i = omega arith in e) q);
    from = λ w (i, x, at, q). from_every 0 xs w i x at (subst (λ (m : ℕ). Q m x w) (let e : i ≡ 0 + i = omega arith in e) q);
  }

-- that of the site around a prefix
abbrev Around : PrefixPlace → Option ℕ → Warning → Type 0
Around at found w = (k : ℕ) × (found ≡ Some k) × (Inside k at ≡ w)

around : (at : PrefixPlace) (found : Option ℕ) → Means (inside_of at found) (Around at found)
around at None = record {
  to = λ w (k, within, same). absurd (omega (arith, within));
  from = λ w (k, none, same). absurd (let clash : ◌≡◌ {A = Option ℕ} None (Some k) = none in cc);
}
around at (Some n) = record { to = to; from = from }
  where
    to : (w : Warning) → Contains (Inside n at ∷ []) w → Around at (Some n) w
    to w (zero, within, same) = (n, refl, same)
    to w (suc k, within, same) = absurd (omega (arith, within))

    from : (w : Warning) → Around at (Some n) w → Contains (Inside n at ∷ []) w
    from w (k, some, same) =
        let is_it : Some n ≡ Some k = some in
        let it : n ≡ k = cc in
        (0, omega arith, ap (λ (m : ℕ). Inside m at) it ∙ same)

-- ---- the warnings of a configuration

abbrev at : ℕ → ℕ → PrefixPlace
at site n = record { site = site; prefix = n }

module _ (c : ConfigValue) where
  abbrev OfPrefix : ℕ → SiteValue → ℕ → SitePrefix → Warning → Type 0
  OfPrefix site s n p w = First (λ k. SamePrefix k (at site n)) (position (has_prefix p.eid) c.sites) site w ⊎ Around (at site n) (position (has_around s.id p.eid) c.sites) w

  abbrev OfSite : ℕ → SiteValue → Warning → Type 0
  OfSite site s w = If (length s.keys == 0) (NoKeys site) w ⊎ (If (length s.prefixes == 0) (NoPrefixes site) w ⊎ (Every s.prefixes (OfPrefix site s) w
      ⊎ (If (is_unbounded s) (NoMostRows site) w ⊎ If (has_more_routers c.routers s) (ManyRouters site) w)))

  abbrev OfResolve : ℕ → Option NodeValue → Warning → Type 0
  OfResolve node (Some n) w = If (is_some (any_of n)) (AnyItrRloc node) w ⊎ If (lists_no_own n) (NoItrRloc node) w
  OfResolve node None w = ⊥

  abbrev OfNode : ℕ → Addr → Warning → Type 0
  OfNode node a w = (If (is_no_unicast a) (NoUnicast node) w ⊎ First (λ k. SameAddress k node) (position (has_address a) (addresses c)) node w) ⊎ OfResolve node (node_at c node) w

  abbrev OfRecord : ℕ → RouterEntryValue → ℕ → MapRecordValue → Warning → Type 0
  OfRecord router r n m w = If (not (may_register c.sites r.me.site m.eid)) (NotAllowed router n) w ⊎ If (is_out_of_bounds c.sites r m.ttl) (OutOfBounds router n) w

  abbrev OfServer : ℕ → RouterEntryValue → ℕ → ℕ → Warning → Type 0
  OfServer router r n server w = If (is_of_other_family c.servers r server) (OtherFamily router server) w

  abbrev OfLimits : ℕ → RouterEntryValue → Warning → Type 0
  OfLimits router r w = If (is_not_listed c.sites r) (NotListed router) w ⊎ (If (is_of_other_source c.sites r) (OtherSource router) w ⊎ If (has_many_rows c.sites r) (ManyRows router) w)

  abbrev OfRouter : ℕ → RouterEntryValue → Warning → Type 0
  OfRouter router r w = First (λ k. SameIdentity k router) (position (is_twin r) c.routers) router w ⊎ (Every r.database (OfRecord router r) w ⊎ (Every r.servers (OfServer router r) w
      ⊎ (First (λ k. SameKey k router) (position (same_key r) c.routers) router w ⊎ (If (length r.servers == 0) (NoServers router) w ⊎ OfLimits router r w))))

  abbrev OfAll : Warning → Type 0
  OfAll w = If (length (addresses c) == 0) NoNodes w ⊎ (Every c.sites OfSite w ⊎ (Every (addresses c) OfNode w ⊎ Every c.routers OfRouter w))

  resolve_means : (node : ℕ) (o : Option NodeValue) → Means (of_resolve node o) (OfResolve node o)
  resolve_means node (Some n) = both (given (is_some (any_of n)) (AnyItrRloc node)) (given (lists_no_own n) (NoItrRloc node))
  resolve_means node None = nothing

  site_means : (site : ℕ) (s : SiteValue) → Means (of_site c.sites c.routers site s) (OfSite site s)
  site_means site s = both (given (length s.keys == 0) (NoKeys site)) (both (given (length s.prefixes == 0) (NoPrefixes site)) (both (every (of_prefix c.sites site s.id) (OfPrefix site s) prefix_means s.prefixes)
      (both (given (is_unbounded s) (NoMostRows site)) (given (has_more_routers c.routers s) (ManyRouters site)))))
    where
      prefix_means : (n : ℕ) (p : SitePrefix) → Means (of_prefix c.sites site s.id n p) (OfPrefix site s n p)
      prefix_means n p = both (first (λ k. SamePrefix k (at site n)) (position (has_prefix p.eid) c.sites) site) (around (at site n) (position (has_around s.id p.eid) c.sites))

  node_means : (node : ℕ) (a : Addr) → Means (of_node c (addresses c) node a) (OfNode node a)
  node_means node a = both (both (given (is_no_unicast a) (NoUnicast node)) (first (λ k. SameAddress k node) (position (has_address a) (addresses c)) node)) (resolve_means node (node_at c node))

  router_means : (router : ℕ) (r : RouterEntryValue) → Means (of_router c router r) (OfRouter router r)
  router_means router r = both (first (λ k. SameIdentity k router) (position (is_twin r) c.routers) router) (
      both (every (of_record c.sites router r) (OfRecord router r) record_means r.database) (
      both (every (of_server c.servers router r) (OfServer router r) server_means r.servers) (
      both (first (λ k. SameKey k router) (position (same_key r) c.routers) router) (both (given (length r.servers == 0) (NoServers router)) limits_means))))
    where
      record_means : (n : ℕ) (m : MapRecordValue) → Means (of_record c.sites router r n m) (OfRecord router r n m)
      record_means n m = both (given (not (may_register c.sites r.me.site m.eid)) (NotAllowed router n)) (given (is_out_of_bounds c.sites r m.ttl) (OutOfBounds router n))

      server_means : (n server : ℕ) → Means (of_server c.servers router r n server) (OfServer router r n server)
      server_means n server = given (is_of_other_family c.servers r server) (OtherFamily router server)

      limits_means : Means (of_limits c.sites router r) (OfLimits router r)
      limits_means = both (given (is_not_listed c.sites r) (NotListed router)) (both (given (is_of_other_source c.sites r) (OtherSource router)) (given (has_many_rows c.sites r) (ManyRows router)))

  all_mean : Means (all_warnings c) OfAll
  all_mean = both (given (length (addresses c) == 0) NoNodes) (both (every (of_site c.sites c.routers) OfSite site_means c.sites)
      (both (every (of_node c (addresses c)) OfNode node_means (addresses c)) (every (of_router c) OfRouter router_means c.routers)))

  -- what is among them is a warning of the configuration
  site_is : (site : ℕ) (s : SiteValue) → slice_get c.sites site ≡ Some s → (w : Warning) → OfSite site s w → IsWarned c w
  site_is site s at w (inl (is, same)) = subst (IsWarned c) same (s, at, is)
  site_is site s at w (inr (inl (is, same))) = subst (IsWarned c) same (s, at, is)
  site_is site s at w (inr (inr (inl (n, p, here, inl (k, other, is, same))))) = subst (IsWarned c) same (other, (s, at, (p, here, is)))
  site_is site s at w (inr (inr (inl (n, p, here, inr (k, is, same))))) = subst (IsWarned c) same (s, at, (p, here, is))
  site_is site s at w (inr (inr (inr (inl (is, same))))) = subst (IsWarned c) same (s, at, is)
  site_is site s at w (inr (inr (inr (inr (is, same))))) = subst (IsWarned c) same (s, at, is)

  resolve_is : (node : ℕ) (o : Option NodeValue) → node_at c node ≡ o → (w : Warning) → OfResolve node o w → IsWarned c w
  resolve_is node (Some n) at w (inl (is, same)) = subst (IsWarned c) same (n, at, is)
  resolve_is node (Some n) at w (inr (is, same)) = subst (IsWarned c) same (n, at, is)
  resolve_is node None at w none = absurd none

  node_is : (node : ℕ) (a : Addr) → slice_get (addresses c) node ≡ Some a → (w : Warning) → OfNode node a w → IsWarned c w
  node_is node a at w (inl (inl (is, same))) = subst (IsWarned c) same (a, at, is)
  node_is node a at w (inl (inr (k, other, is, same))) = subst (IsWarned c) same (other, (a, at, is))
  node_is node a at w (inr h) = resolve_is node (node_at c node) refl w h

  router_is : (router : ℕ) (r : RouterEntryValue) → slice_get c.routers router ≡ Some r → (w : Warning) → OfRouter router r w → IsWarned c w
  router_is router r at w (inl (k, other, is, same)) = subst (IsWarned c) same (other, (r, at, is))
  router_is router r at w (inr (inl (n, m, here, inl (is, same)))) = subst (IsWarned c) same (r, at, (m, here, is))
  router_is router r at w (inr (inl (n, m, here, inr (is, same)))) = subst (IsWarned c) same (r, at, (m, here, is))
  router_is router r at w (inr (inr (inl (n, server, here, (is, same))))) = subst (IsWarned c) same (r, at, (stands r.servers n server here, is))
  router_is router r at w (inr (inr (inr (inl (k, other, is, same))))) = subst (IsWarned c) same (other, (r, at, is))
  router_is router r at w (inr (inr (inr (inr (inl (is, same)))))) = subst (IsWarned c) same (r, at, is)
  router_is router r at w (inr (inr (inr (inr (inr (inl (is, same))))))) = subst (IsWarned c) same (r, at, is)
  router_is router r at w (inr (inr (inr (inr (inr (inr (inl (is, same)))))))) = subst (IsWarned c) same (r, at, is)
  router_is router r at w (inr (inr (inr (inr (inr (inr (inr (is, same)))))))) = subst (IsWarned c) same (r, at, is)

  is_warned : (w : Warning) → OfAll w → IsWarned c w
  is_warned w (inl (is, same)) = subst (IsWarned c) same is
  is_warned w (inr (inl (site, s, at, h))) = site_is site s at w h
  is_warned w (inr (inr (inl (node, a, at, h)))) = node_is node a at w h
  is_warned w (inr (inr (inr (router, r, at, h)))) = router_is router r at w h

  -- and each warning of the configuration is among them
  at_site : (site : ℕ) (s : SiteValue) → slice_get c.sites site ≡ Some s → (w : Warning) → OfSite site s w → OfAll w
  at_site site s at w h = inr (inl (site, s, at, h))

  at_address : (node : ℕ) (a : Addr) → slice_get (addresses c) node ≡ Some a → (w : Warning) → OfNode node a w → OfAll w
  at_address node a at w h = inr (inr (inl (node, a, at, h)))

  at_router : (router : ℕ) (r : RouterEntryValue) → slice_get c.routers router ≡ Some r → (w : Warning) → OfRouter router r w → OfAll w
  at_router router r at w h = inr (inr (inr (router, r, at, h)))

  at_node : (node : ℕ) (n : NodeValue) → node_at c node ≡ Some n → (w : Warning) → OfResolve node (Some n) w → OfAll w
  at_node node n at w h = at_address node (address_of n) (sym (address_at-addresses c node) ∙ ap (option_map address_of) at) w (inr (subst (λ (o : Option NodeValue). OfResolve node o w) (sym at) h))

  warned : (w : Warning) → IsWarned c w → OfAll w
  warned NoNodes h = inl (h, refl)
  warned (NoKeys site) (s, at, is) = at_site site s at (NoKeys site) (inl (is, refl))
  warned (NoPrefixes site) (s, at, is) = at_site site s at (NoPrefixes site) (inr (inl (is, refl)))
  warned (SamePrefix k place) (other, (s, at, (p, here, is))) = at_site place.site s at (SamePrefix k place) (inr (inr (inl (place.prefix, p, here, inl (k, other, is, refl)))))
  warned (Inside k place) (s, at, (p, here, is)) = at_site place.site s at (Inside k place) (inr (inr (inl (place.prefix, p, here, inr (k, is, refl)))))
  warned (NoMostRows site) (s, at, is) = at_site site s at (NoMostRows site) (inr (inr (inr (inl (is, refl)))))
  warned (ManyRouters site) (s, at, is) = at_site site s at (ManyRouters site) (inr (inr (inr (inr (is, refl)))))
  warned (NoUnicast node) (a, at, is) = at_address node a at (NoUnicast node) (inl (inl (is, refl)))
  warned (SameAddress k node) (other, (a, at, is)) = at_address node a at (SameAddress k node) (inl (inr (k, other, is, refl)))
  warned (AnyItrRloc node) (n, at, is) = at_node node n at (AnyItrRloc node) (inl (is, refl))
  warned (NoItrRloc node) (n, at, is) = at_node node n at (NoItrRloc node) (inr (is, refl))
  warned (SameIdentity k router) (other, (r, at, is)) = at_router router r at (SameIdentity k router) (inl (k, other, is, refl))
  warned (NotAllowed router n) (r, at, (m, here, is)) = at_router router r at (NotAllowed router n) (inr (inl (n, m, here, inl (is, refl))))
  warned (OutOfBounds router n) (r, at, (m, here, is)) = at_router router r at (OutOfBounds router n) (inr (inl (n, m, here, inr (is, refl))))
  warned (OtherFamily router server) (r, at, (held, is)) =
      let (n, here) = place r.servers server held in at_router router r at (OtherFamily router server) (inr (inr (inl (n, server, here, (is, refl)))))
  warned (SameKey k router) (other, (r, at, is)) = at_router router r at (SameKey k router) (inr (inr (inr (inl (k, other, is, refl)))))
  warned (NoServers router) (r, at, is) = at_router router r at (NoServers router) (inr (inr (inr (inr (inl (is, refl))))))
  warned (NotListed router) (r, at, is) = at_router router r at (NotListed router) (inr (inr (inr (inr (inr (inl (is, refl)))))))
  warned (OtherSource router) (r, at, is) = at_router router r at (OtherSource router) (inr (inr (inr (inr (inr (inr (inl (is, refl))))))))
  warned (ManyRows router) (r, at, is) = at_router router r at (ManyRows router) (inr (inr (inr (inr (inr (inr (inr (is, refl))))))))

pub exact : (c : ConfigValue) (w : Warning) → Contains (all_warnings c) w ↔ IsWarned c w
exact c w = (λ held. is_warned c w ((all_mean c).to w held), λ h. (all_mean c).from w (warned c w h))
