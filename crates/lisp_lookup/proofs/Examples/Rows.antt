-- Rows of the examples, and what holds of each element of a short list by a test.
use Rattle.std.proofs.Common.{Bool, List, [], ap, arith, false, true, refl, suc, subst, sym, zero, ℕ, not, is_gt, true≢false, Greater, Ordering, ◌&&◌, ◌<◌, ◌||◌, ◌∙◌, ◌∷◌, ◌≡◌, ◌≢◌}
use Rattle.std.proofs.lemmas.Bool.{cases_eq, and_from, and_parts, not-true}
use Rattle.std.specs.List.{AllByRecursion, Contains, list_all}
use Rattle.lisp_records.specs.Address.{PrefixValue, prefix_eq}
use Rattle.lisp_records.specs.Record.{MapRecordValue}
use Rattle.lisp_records.specs.Row.{RowValue, is_alive}
use Rattle.lisp_records.specs.declared.address.Addr.{Addr}
use Rattle.lisp_records.specs.declared.address.Addr.TheVariants.{V4, V6}
use Rattle.lisp_records.specs.declared.locator.Locator.{Locator}
use Rattle.lisp_records.specs.declared.router.RouterId.{RouterId}
use Rattle.lisp_lookup.specs.Answer.{rank_cmp}
use Rattle.lisp_lookup.proofs.Apart.{on_either}

-- ---- addresses, prefixes, routers and rows

abbrev pub ipv4 : ℕ → ℕ → ℕ → ℕ → Addr
ipv4 a b c d = V4 (a ∷ b ∷ c ∷ d ∷ [])

abbrev pub block : ℕ → ℕ → ℕ → ℕ → ℕ → PrefixValue
block a b c d n = record { addr = ipv4 a b c d; mask_len = n }

abbrev pub router : ℕ → RouterId
router n = record { site = 1; xtr = 0 ∷ 0 ∷ 0 ∷ 0 ∷ 0 ∷ 0 ∷ 0 ∷ 0 ∷ 0 ∷ 0 ∷ 0 ∷ 0 ∷ 0 ∷ 0 ∷ 0 ∷ n ∷ [] }

abbrev pub locator : Locator
locator = record { priority = 1; weight = 100; m_priority = 255; m_weight = 0; local = true; probe = false; reachable = true; addr = ipv4 192 0 2 1 }

-- a record that its router registered with A, with L for its locator, and with a Map-Version number
abbrev pub registered : ℕ → PrefixValue → ℕ → MapRecordValue
registered version eid ttl = record { ttl = ttl; act = 0; authoritative = true; version = version; eid = eid; locators = locator ∷ [] }

-- the row of a router that asked for proxy replies, which is alive for three minutes, from 0 on: its router's number is its Map-Version number too
abbrev pub row : ℕ → PrefixValue → ℕ → RowValue
row n eid ttl = record { router = router n; key = 1; nonce = 1; mapping = registered n eid ttl; accepted = 0; life = 180000; proxy = true; from = ipv4 192 0 2 1 }

-- the same of one that didn't
abbrev pub silent : RowValue → RowValue
silent h = record h { proxy = false }

-- it died at the moment 1
abbrev pub dead : RowValue → RowValue
dead h = record h { life = 1 }

-- it was accepted later, from the next router
abbrev pub newer : RowValue → RowValue
newer h = record h { router = router 9; accepted = 5 }

-- RFC 9301 section 5.5: 10.0.0.0/8, 10.1.0.0/16, 10.1.1.0/24 and 10.1.2.0/24 are registered
abbrev pub in_eight : RowValue
in_eight = row 1 (block 10 0 0 0 8) 60

abbrev pub in_sixteen : RowValue
in_sixteen = row 2 (block 10 1 0 0 16) 1440

abbrev pub in_first : RowValue
in_first = row 3 (block 10 1 1 0 24) 30

abbrev pub in_second : RowValue
in_second = row 4 (block 10 1 2 0 24) 90

abbrev pub four : List RowValue
four = in_eight ∷ in_sixteen ∷ in_first ∷ in_second ∷ []

-- 10.0.0.0/24 and 10.0.2.0/24, with a gap between them
abbrev pub gaps : List RowValue
gaps = row 1 (block 10 0 0 0 24) 60 ∷ row 2 (block 10 0 2 0 24) 60 ∷ []

-- 0.0.0.0/0
abbrev pub everything : RowValue
everything = row 1 (block 0 0 0 0 0) 60

-- an address 2001:db8::, with its fourth byte, and a last byte
abbrev pub ipv6 : ℕ → ℕ → Addr
ipv6 fourth last = V6 (32 ∷ 1 ∷ 13 ∷ fourth ∷ 0 ∷ 0 ∷ 0 ∷ 0 ∷ 0 ∷ 0 ∷ 0 ∷ 0 ∷ 0 ∷ 0 ∷ 0 ∷ last ∷ [])

-- 2001:db8::/32
abbrev pub ipv6_row : RowValue
ipv6_row = row 2 (record { addr = ipv6 184 0; mask_len = 32 }) 60

-- ---- each element of a list

module _ {X : Type 0} where
  pub at_head : (x : X) (xs : List X) → Contains (x ∷ xs) x
  at_head x xs = (0, omega arith, refl)

  pub each : (P : X → Type 0) (xs : List X) → AllByRecursion P xs → (x : X) → Contains xs x → P x
  each P [] all x (k, lt, is) = absurd (omega (arith, lt))
  each P (first ∷ xs) all x (zero, lt, is) = subst P is all.0
  each P (first ∷ xs) all x (suc k, lt, is) = each P xs all.1 x (k, omega (arith, lt), is)

  pub passes : (test : X → Bool) (xs : List X) → list_all test xs ≡ true → (x : X) → Contains xs x → test x ≡ true
  passes test [] all x (k, lt, is) = absurd (omega (arith, lt))
  passes test (first ∷ xs) all x (zero, lt, is) = subst (λ (y : X). test y ≡ true) is (and_parts (test first) (list_all test xs) all).0
  passes test (first ∷ xs) all x (suc k, lt, is) = passes test xs (and_parts (test first) (list_all test xs) all).1 x (k, omega (arith, lt), is)

  pub fails : (test : X → Bool) (xs : List X) → list_all (λ x. not (test x)) xs ≡ true → (x : X) → Contains xs x → test x ≡ false
  fails test xs all x has = not-true (test x) (passes (λ (y : X). not (test y)) xs all x has)

-- a test doesn't hold that computes to false
pub no : {P : Type 0} → false ≡ true → P
no is = absurd (true≢false (sym is))

-- of the rows that pass a test none passes another one
pub none_of : (may test : RowValue → Bool) (rows : List RowValue) → list_all (λ h. not (may h) || not (test h)) rows ≡ true → (h : RowValue) → Contains rows h → may h ≡ true → test h ≡ false
none_of may test rows all h has is = by (may h) (test h) (passes (λ (x : RowValue). not (may x) || not (test x)) rows all h has) is
  where
    by : (m t : Bool) → (not m || not t) ≡ true → m ≡ true → t ≡ false
    by m t both is = grind arith

-- each number below one passes a test
unfoldable pub all_below : ℕ → (ℕ → Bool) → Bool
all_below zero test = true
all_below (suc n) test = test n && all_below n test

pub below : (n : ℕ) (test : ℕ → Bool) → all_below n test ≡ true → (k : ℕ) → k < n → test k ≡ true
unfolding all_below
below zero test all k lt = absurd (omega (arith, lt))
below (suc n) test all k lt =
    let (here, rest) = and_parts (test n) (all_below n test) all in
    on_either (cases_eq k n) (λ is. subst (λ (m : ℕ). test m ≡ true) (sym is) here) (λ other. below n test rest k (omega (arith, lt, other)))

pub fails_below : (n : ℕ) (test : ℕ → Bool) → all_below n (λ k. not (test k)) ≡ true → (k : ℕ) → k < n → test k ≡ false
fails_below n test all k lt = not-true (test k) (below n (λ (j : ℕ). not (test j)) all k lt)

-- no row of a list that passes a test stands above one
abbrev pub is_at_most : (RowValue → Bool) → RowValue → RowValue → Bool
is_at_most may h other = not (may other) || not (is_gt (rank_cmp other h))

pub none_above : (may : RowValue → Bool) (h : RowValue) (rows : List RowValue) → list_all (is_at_most may h) rows ≡ true → (other : RowValue) → Contains rows other → may other ≡ true → rank_cmp other h ≢ Greater
none_above may h rows all other has is = by (may other) (rank_cmp other h) (passes (is_at_most may h) rows all other has) is
  where
    by : (m : Bool) (o : Ordering) → (not m || not (is_gt o)) ≡ true → m ≡ true → o ≢ Greater
    by m o test is above = grind arith

-- nor one that is alive and of its own prefix
pub best_of_own : (rows : List RowValue) (now : ℕ) (h : RowValue) → prefix_eq h.mapping.eid h.mapping.eid ≡ true → list_all (is_at_most (λ other. is_alive other now && prefix_eq other.mapping.eid h.mapping.eid) h) rows ≡ true → (other : RowValue) → Contains rows other → is_alive other now ≡ true → other.mapping.eid ≡ h.mapping.eid → rank_cmp other h ≢ Greater
best_of_own rows now h itself all other has alive same = none_above (λ (x : RowValue). is_alive x now && prefix_eq x.mapping.eid h.mapping.eid) h rows all other has (and_from (is_alive other now) (prefix_eq other.mapping.eid h.mapping.eid) alive (ap (λ (p : PrefixValue). prefix_eq p h.mapping.eid) same ∙ itself))
