-- The prefix of a negative Map-Reply.
use Rattle.std.proofs.Common.{List, [], None, arith, false, true, refl, sym, ap, ◌∙◌, true≢false, ℕ, ◌∷◌, ◌≡◌}
use Rattle.std.proofs.lemmas.List.Elements.{All-cons, All-nil}
use Rattle.std.specs.List.{All, Contains}
use Rattle.lisp_records.specs.declared.address.Addr.{Addr}
use Rattle.lisp_records.specs.Address.{PrefixValue, covers, holds, masked, prefix_around, prefix_eq}
use Rattle.lisp_records.specs.Row.{RowValue, is_alive}
use Rattle.lisp_policy.specs.Limits.{no_limits}
use Rattle.lisp_policy.specs.Site.{SiteValue, is_configured, single}
use Rattle.lisp_policy.specs.declared.site.SitePrefix.{SitePrefix}
use Rattle.lisp_lookup.specs.Answer.{NoneAnswers, may_answer}
use Rattle.lisp_lookup.specs.Hole.{IsAlike, IsHole, IsHoleOf, KeepsBeside, KeepsSites}
use Rattle.lisp_lookup.specs.Replies.{HoleIsAnswered}
use Rattle.lisp_lookup.proofs.Examples.Rows.{all_below, below, block, dead, everything, fails, fails_below, gaps, in_first, ipv4, ipv6, ipv6_row, no, none_of, row}

-- a site that has a prefix
abbrev pub site : PrefixValue → List SiteValue
site eid = single 1 1 [] eid true

-- beside no site, and beside one
pub no_site : (addr : Addr) (eid : PrefixValue) → KeepsSites [] addr eid
no_site addr eid = All-nil (λ (s : SiteValue). All (λ (p : SitePrefix). KeepsBeside p.eid addr false eid) s.prefixes)

one_site : (of_site : PrefixValue) (addr : Addr) (eid : PrefixValue) → KeepsBeside of_site addr (is_configured (site of_site) addr) eid → KeepsSites (site of_site) addr eid
one_site of_site addr eid keeps = All-cons OfSite the_site [] (All-cons Beside the_prefix [] keeps (All-nil Beside)) (All-nil OfSite)
  where
    the_prefix : SitePrefix
    the_prefix = record { eid = of_site; more_specifics = true }

    the_site : SiteValue
    the_site = record { id = 1; keys = record { id = 1; secret = [] } ∷ []; prefixes = the_prefix ∷ []; limits = no_limits }

    Beside : SitePrefix → Type 0
    Beside p = KeepsBeside p.eid addr (is_configured (site of_site) addr) eid

    OfSite : SiteValue → Type 0
    OfSite s = All Beside s.prefixes

-- what such a site asks for
kept : (of_site : PrefixValue) (addr : Addr) (eid : PrefixValue) → KeepsSites (site of_site) addr eid → KeepsBeside of_site addr (is_configured (site of_site) addr) eid
kept of_site addr eid keeps = keeps 0 (record { id = 0; keys = []; prefixes = []; limits = no_limits }) (omega arith) 0 (record { eid = of_site; more_specifics = true }) (omega arith)

-- no row is there
pub in_none : {P : Type 0} → (h : RowValue) → Contains [] h → P
in_none h (k, lt, is) = absurd (omega (arith, lt))

-- between 10.0.0.0/24 and 10.0.2.0/24
pub between_alike : IsAlike gaps [] (ipv4 10 0 1 1) 0 (block 10 0 1 0 24)
unfolding masked
between_alike = record {
  empty = none_of (λ h. is_alive h 0) (λ h. covers (block 10 0 1 0 24) h.mapping.eid) gaps refl;
  bare = none_of (λ h. is_alive h 0) (λ h. covers h.mapping.eid (block 10 0 1 0 24)) gaps refl;
  keeps = no_site (ipv4 10 0 1 1) (block 10 0 1 0 24);
}

pub between : IsHole gaps [] (ipv4 10 0 1 1) 0 (block 10 0 1 0 24)
unfolding masked all_below
between = record {
  around = (omega arith, refl);
  alike = between_alike;
  widest = λ wider less alike. absurd (true≢false (sym (below 24 (λ n. covers (prefix_around (ipv4 10 0 1 1) n) (block 10 0 0 0 24)) refl wider less) ∙ alike.empty (row 1 (block 10 0 0 0 24) 60) (0, omega arith, refl) refl));
}

too_wide : IsHole gaps [] (ipv4 10 0 1 1) 0 (block 10 0 0 0 23) → ⊥
unfolding masked
too_wide hole = true≢false (hole.alike.empty (row 1 (block 10 0 0 0 24) 60) (0, omega arith, refl) refl)

too_long : IsHole gaps [] (ipv4 10 0 1 1) 0 (block 10 0 1 0 25) → ⊥
unfolding masked
too_long hole = hole.widest 24 (omega arith) between_alike

-- not of the address, though empty
another : IsHole gaps [] (ipv4 10 0 1 1) 0 (block 10 0 3 0 24) → ⊥
unfolding masked
another hole = true≢false (ap (λ (p : PrefixValue). prefix_eq p (block 10 0 3 0 24)) hole.around.1)

-- the same beside a site that has the address
configured_gap : IsHole gaps (site (block 10 0 0 0 16)) (ipv4 10 0 1 1) 0 (block 10 0 1 0 24)
unfolding masked all_below
configured_gap = record {
  around = (omega arith, refl);
  alike = record { empty = between_alike.empty; bare = between_alike.bare; keeps = one_site (block 10 0 0 0 16) (ipv4 10 0 1 1) (block 10 0 1 0 24) ((λ has. refl), (λ none. absurd (true≢false none))) };
  widest = λ wider less alike. absurd (true≢false (sym (below 24 (λ n. covers (prefix_around (ipv4 10 0 1 1) n) (block 10 0 0 0 24)) refl wider less) ∙ alike.empty (row 1 (block 10 0 0 0 24) 60) (0, omega arith, refl) refl));
}

-- no live row: all of the site's prefix, and no more; without a site all addresses, though a row is there that is dead
pub of_all_the_site : IsHole [] (site (block 10 0 0 0 16)) (ipv4 10 0 1 1) 0 (block 10 0 0 0 16)
unfolding masked all_below
of_all_the_site = record {
  around = (omega arith, refl);
  alike = record { empty = λ h has. in_none h has; bare = λ h has. in_none h has; keeps = one_site (block 10 0 0 0 16) (ipv4 10 0 1 1) (block 10 0 0 0 16) ((λ has. refl), (λ none. absurd (true≢false none))) };
  widest = λ wider less alike. absurd (true≢false (sym ((kept (block 10 0 0 0 16) (ipv4 10 0 1 1) (prefix_around (ipv4 10 0 1 1) wider) alike.keeps).0 refl) ∙ fails_below 16 (λ n. covers (block 10 0 0 0 16) (prefix_around (ipv4 10 0 1 1) n)) refl wider less));
}

leaves_the_site : IsHole [] (site (block 10 0 0 0 16)) (ipv4 10 0 1 1) 0 (block 0 0 0 0 0) → ⊥
unfolding masked
leaves_the_site hole = no ((kept (block 10 0 0 0 16) (ipv4 10 0 1 1) (block 0 0 0 0 0) hole.alike.keeps).0 refl)

of_all : IsHole (dead in_first ∷ []) [] (ipv4 10 0 1 1) 1 (block 0 0 0 0 0)
unfolding masked
of_all = record {
  around = (omega arith, refl);
  alike = record {
    empty = none_of (λ h. is_alive h 1) (λ h. covers (block 0 0 0 0 0) h.mapping.eid) (dead in_first ∷ []) refl;
    bare = none_of (λ h. is_alive h 1) (λ h. covers h.mapping.eid (block 0 0 0 0 0)) (dead in_first ∷ []) refl;
    keeps = no_site (ipv4 10 0 1 1) (block 0 0 0 0 0);
  };
  widest = λ wider less alike. absurd (omega (arith, less));
}

-- no site has the address: no prefix of another site lies in it. Where one has it, another one's may
beside_a_site : IsHole [] (site (block 11 0 0 0 8)) (ipv4 10 0 1 1) 0 (block 10 0 0 0 8)
unfolding masked all_below
beside_a_site = record {
  around = (omega arith, refl);
  alike = record { empty = λ h has. in_none h has; bare = λ h has. in_none h has; keeps = one_site (block 11 0 0 0 8) (ipv4 10 0 1 1) (block 10 0 0 0 8) (no, (λ none. refl)) };
  widest = λ wider less alike. absurd (true≢false (sym (below 8 (λ n. covers (prefix_around (ipv4 10 0 1 1) n) (block 11 0 0 0 8)) refl wider less) ∙ (kept (block 11 0 0 0 8) (ipv4 10 0 1 1) (prefix_around (ipv4 10 0 1 1) wider) alike.keeps).1 refl));
}

beside_too_wide : IsHole [] (site (block 11 0 0 0 8)) (ipv4 10 0 1 1) 0 (block 10 0 0 0 7) → ⊥
unfolding masked
beside_too_wide hole = true≢false ((kept (block 11 0 0 0 8) (ipv4 10 0 1 1) (block 10 0 0 0 7) hole.alike.keeps).1 refl)

-- so beside each of two sites
abbrev two_sites : List SiteValue
two_sites = record { id = 1; keys = []; prefixes = record { eid = block 12 0 0 0 8; more_specifics = true } ∷ []; limits = no_limits } ∷ record { id = 2; keys = []; prefixes = record { eid = block 11 0 0 0 8; more_specifics = true } ∷ []; limits = no_limits } ∷ []

beside_two : IsHole [] two_sites (ipv4 10 0 1 1) 0 (block 10 0 0 0 7) → ⊥
unfolding masked
beside_two hole = true≢false ((hole.alike.keeps 1 (record { id = 0; keys = []; prefixes = []; limits = no_limits }) (omega arith) 0 (record { eid = block 12 0 0 0 8; more_specifics = true }) (omega arith)).1 refl)

-- a site with 10.0.0.0/8 and 10.1.0.0/16
abbrev nested : List SiteValue
nested = record { id = 1; keys = []; prefixes = record { eid = block 10 0 0 0 8; more_specifics = true } ∷ record { eid = block 10 1 0 0 16; more_specifics = false } ∷ []; limits = no_limits } ∷ []

nested_keeps : (addr : Addr) (eid : PrefixValue) → KeepsBeside (block 10 0 0 0 8) addr (is_configured nested addr) eid → KeepsBeside (block 10 1 0 0 16) addr (is_configured nested addr) eid → KeepsSites nested addr eid
nested_keeps addr eid first second = All-cons OfSite (record { id = 1; keys = []; prefixes = outer ∷ inner ∷ []; limits = no_limits }) [] (All-cons Beside outer (inner ∷ []) first (All-cons Beside inner [] second (All-nil Beside))) (All-nil OfSite)
  where
    outer : SitePrefix
    outer = record { eid = block 10 0 0 0 8; more_specifics = true }

    inner : SitePrefix
    inner = record { eid = block 10 1 0 0 16; more_specifics = false }

    Beside : SitePrefix → Type 0
    Beside p = KeepsBeside p.eid addr (is_configured nested addr) eid

    OfSite : SiteValue → Type 0
    OfSite s = All Beside s.prefixes

of_the_outer : IsHole [] nested (ipv4 10 2 0 1) 0 (block 10 0 0 0 8)
unfolding masked all_below
of_the_outer = record {
  around = (omega arith, refl);
  alike = record { empty = λ h has. in_none h has; bare = λ h has. in_none h has; keeps = nested_keeps (ipv4 10 2 0 1) (block 10 0 0 0 8) ((λ has. refl), (λ none. absurd (true≢false none))) (no, (λ none. absurd (true≢false none))) };
  widest = λ wider less alike. absurd (true≢false (sym ((outer_kept wider alike.keeps).0 refl) ∙ fails_below 8 (λ n. covers (block 10 0 0 0 8) (prefix_around (ipv4 10 2 0 1) n)) refl wider less));
}
  where
    outer_kept : (wider : ℕ) → KeepsSites nested (ipv4 10 2 0 1) (prefix_around (ipv4 10 2 0 1) wider) → KeepsBeside (block 10 0 0 0 8) (ipv4 10 2 0 1) true (prefix_around (ipv4 10 2 0 1) wider)
    outer_kept wider keeps = keeps 0 (record { id = 0; keys = []; prefixes = []; limits = no_limits }) (omega arith) 0 (record { eid = block 10 0 0 0 8; more_specifics = true }) (omega arith)

of_the_inner : IsHole [] nested (ipv4 10 1 0 1) 0 (block 10 1 0 0 16)
unfolding masked all_below
of_the_inner = record {
  around = (omega arith, refl);
  alike = record { empty = λ h has. in_none h has; bare = λ h has. in_none h has; keeps = nested_keeps (ipv4 10 1 0 1) (block 10 1 0 0 16) ((λ has. refl), (λ none. absurd (true≢false none))) ((λ has. refl), (λ none. absurd (true≢false none))) };
  widest = λ wider less alike. absurd (true≢false (sym ((inner_kept wider alike.keeps).0 refl) ∙ fails_below 16 (λ n. covers (block 10 1 0 0 16) (prefix_around (ipv4 10 1 0 1) n)) refl wider less));
}
  where
    inner_kept : (wider : ℕ) → KeepsSites nested (ipv4 10 1 0 1) (prefix_around (ipv4 10 1 0 1) wider) → KeepsBeside (block 10 1 0 0 16) (ipv4 10 1 0 1) true (prefix_around (ipv4 10 1 0 1) wider)
    inner_kept wider keeps = keeps 0 (record { id = 0; keys = []; prefixes = []; limits = no_limits }) (omega arith) 1 (record { eid = block 10 1 0 0 16; more_specifics = true }) (omega arith)

-- 0.0.0.0/0 is registered: there is no hole
no_hole : IsHoleOf (everything ∷ []) [] (ipv4 10 0 1 1) 0 None
unfolding masked
no_hole = (everything, (0, omega arith, refl), refl)

hole_though_held : IsHole (everything ∷ []) [] (ipv4 10 0 1 1) 0 (block 10 0 1 1 32) → ⊥
unfolding masked
hole_though_held hole = true≢false (hole.alike.bare everything (0, omega arith, refl) refl)

none_though_free : IsHoleOf gaps [] (ipv4 10 0 1 1) 0 None → ⊥
unfolding masked
none_though_free (h, has, may) = absurd (true≢false (sym may ∙ fails (may_answer (ipv4 10 0 1 1) 0) gaps refl h has))

-- 2001:db8::/32 is registered, and 2001:db9::1 is asked for
ipv6_hole : IsHole (ipv6_row ∷ []) [] (ipv6 185 1) 0 (record { addr = ipv6 185 0; mask_len = 32 })
unfolding masked all_below
ipv6_hole = record {
  around = (omega arith, refl);
  alike = record {
    empty = none_of (λ h. is_alive h 0) (λ h. covers (record { addr = ipv6 185 0; mask_len = 32 }) h.mapping.eid) (ipv6_row ∷ []) refl;
    bare = none_of (λ h. is_alive h 0) (λ h. covers h.mapping.eid (record { addr = ipv6 185 0; mask_len = 32 })) (ipv6_row ∷ []) refl;
    keeps = no_site (ipv6 185 1) (record { addr = ipv6 185 0; mask_len = 32 });
  };
  widest = λ wider less alike. absurd (true≢false (sym (below 32 (λ n. covers (prefix_around (ipv6 185 1) n) ipv6_row.mapping.eid) refl wider less) ∙ alike.empty ipv6_row (0, omega arith, refl) refl));
}

-- of each address in a hole the law says that none answers for it, and of each in a site's that the site has it
hole_says : HoleIsAnswered gaps [] → NoneAnswers gaps (ipv4 10 0 1 200) 0
unfolding masked
hole_says law = (law (ipv4 10 0 1 1) 0 (block 10 0 1 0 24) between (ipv4 10 0 1 200) refl).0

hole_says_of_site : HoleIsAnswered [] (site (block 10 0 0 0 16)) → (addr : Addr) → holds (block 10 0 0 0 16) addr ≡ true → is_configured (site (block 10 0 0 0 16)) addr ≡ true
unfolding masked
hole_says_of_site law addr has = (law (ipv4 10 0 1 1) 0 (block 10 0 0 0 16) of_all_the_site addr has).1
