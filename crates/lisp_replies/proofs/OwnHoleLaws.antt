-- What one message carries of a router's records: as much as of the records as configured, and never more for a wider prefix.
use Rattle.std.proofs.Common.{[], ◌≡◌, ℕ, ◌+◌, ◌<◌, ◌≤◌, Bool, true, false, nat_lt, nat_le, List, ◌∷◌, ◌++◌, length, map, Option, Some, refl, sym, ap, ◌∙◌, subst, true≢false, arith, length-append, ◌⊎◌, inl, inr}
use Rattle.std.proofs.lemmas.Bool.{and_from, and_parts, le-leb, leb-true}
use Rattle.std.proofs.lemmas.Bool.Decides.{nat_tests}
use Rattle.std.proofs.lemmas.List.{length-map}
use Rattle.std.proofs.lemmas.List.Elements.{All-contains, Contains-append_right, Contains-append_left, Contains-push, Contains-push_cases}
use Rattle.std.proofs.lemmas.List.Sums.{sum_by-append}
use Rattle.std.specs.List.{All, Contains, filter}
use Rattle.std.specs.Prelude.{◌↔◌, IfSome}
use Rattle.lisp_records.specs.declared.address.Addr.{Addr}
use Rattle.lisp_records.specs.declared.address.Addr.TheVariants.{V4, V6}
use Rattle.lisp_records.specs.declared.locator.Locator.{Locator}
use Rattle.lisp_records.specs.Address.{PrefixValue, IsPrefix, cleared, covers, max_len, octets, prefix_around}
use Rattle.lisp_records.specs.Parts.{fits_message, size}
use Rattle.lisp_records.specs.Record.{MapRecordValue}
use Rattle.lisp_records.specs.Written.{written, written_address, written_head, written_locator, written_locators}
use Rattle.lisp_records.proofs.AddressLemmas.{length-masked}
use Rattle.lisp_policy.proofs.Found.{not_true}
use Rattle.lisp_lookup.specs.Inside.{is_inside}
use Rattle.lisp_lookup.specs.Covering.{alone}
use Rattle.lisp_lookup.proofs.BestLaws.{same_family}
use Rattle.lisp_lookup.proofs.Blocks.{around_covers, covers_is, covers_through, in_wider}
use Rattle.lisp_lookup.proofs.InsideLaws.{is_wider}
use Rattle.lisp_replies.specs.Own.{AreOwnRecords, IsLongestFor, IsOwnNarrowed, OwnFitNot, OwnFitNowhere, OwnRepliesWith, own_inside, own_locator, own_record, IsOwnHole, NoneIsFor}
use Rattle.lisp_replies.specs.OwnSteps.{own_fit, IsWidestFit, FitsNowhere, IsLeastWithout}

-- ---- what is sent is of the same size

pub length-octets : (a : Addr) (n : ℕ) → length (octets (cleared a n)) ≡ length (octets a)
length-octets (V4 bytes) n = length-masked bytes n
length-octets (V6 bytes) n = length-masked bytes n

locator_long : (probed : Option Addr) (l : Locator) → length (written_locator (own_locator probed l)) ≡ length (written_locator l)
locator_long probed l = grind arith

locators_long : (probed : Option Addr) (ls : List Locator) → length (written_locators (map (own_locator probed) ls)) ≡ length (written_locators ls)
locators_long probed [] = refl
locators_long probed (l ∷ ls) =
    let one = length-append (written_locator (own_locator probed l)) (written_locators (map (own_locator probed) ls)) in
    let other = length-append (written_locator l) (written_locators ls) in
    omega (arith, one, other, locator_long probed l, locators_long probed ls)

abbrev AreAsLong : Addr → Addr → Type 0
AreAsLong a b = length (octets a) ≡ length (octets b)

pub record_long : (probed : Option Addr) (ttl : ℕ) (eid : PrefixValue) (m : MapRecordValue) → AreAsLong eid.addr m.eid.addr → length (written (own_record probed ttl eid m)) ≡ length (written m)
unfolding written
record_long probed ttl eid m same =
    let own = own_record probed ttl eid m in
    let one = length-append (written_head own) (written_address eid.addr ++ written_locators own.locators) in
    let two = length-append (written_address eid.addr) (written_locators own.locators) in
    let three = length-append (written_head m) (written_address m.eid.addr ++ written_locators m.locators) in
    let four = length-append (written_address m.eid.addr) (written_locators m.locators) in
    omega (arith, one, two, three, four, same, locators_long probed m.locators)

-- the size of a first record and of the rest
size-cons : (m : MapRecordValue) (ms : List MapRecordValue) → size (m ∷ ms) ≡ length (written m) + size ms
size-cons m ms =
    let more : size (m ∷ ms) ≡ size (m ∷ []) + size ms = sum_by-append (λ (x : MapRecordValue). length (written x)) (m ∷ []) ms in
    let one : size (m ∷ []) ≡ 0 + length (written m) = refl in
    omega (arith, more, one)

inside_size : (probed : Option Addr) (ttl : ℕ) (ms : List MapRecordValue) → size (map (λ m. own_record probed ttl m.eid m) ms) ≡ size ms
inside_size probed ttl [] = refl
inside_size probed ttl (m ∷ ms) =
    let own = own_record probed ttl m.eid m in
    omega (arith, size-cons own (map (λ x. own_record probed ttl x.eid x) ms), size-cons m ms, record_long probed ttl m.eid m refl, inside_size probed ttl ms)

-- so what is sent fits where the records as configured do
pub fits_alike : (database : List MapRecordValue) (probed : Option Addr) (eid : PrefixValue) (longest : MapRecordValue) (records : List MapRecordValue) → AreAsLong eid.addr longest.eid.addr → AreOwnRecords database probed eid longest records → fits_message records ≡ own_fit database longest eid
fits_alike database probed eid longest records same are =
    let inside = own_inside database eid in
    let sent = own_record probed are.ttl eid longest ∷ map (λ m. own_record probed are.ttl m.eid m) inside in
    let many : length sent ≡ length (longest ∷ inside) = omega (arith, length-map inside (λ (m : MapRecordValue). own_record probed are.ttl m.eid m)) in
    let large : size sent ≡ size (longest ∷ inside) = omega (arith, size-cons (own_record probed are.ttl eid longest) (map (λ m. own_record probed are.ttl m.eid m) inside), size-cons longest inside, record_long probed are.ttl eid longest same, inside_size probed are.ttl inside) in
    ap fits_message are.is ∙ rw (many, large) refl

-- ---- a wider prefix never needs less

abbrev Within : (MapRecordValue → Bool) → (MapRecordValue → Bool) → Type 0
Within p q = (m : MapRecordValue) → p m ≡ true → q m ≡ true

fewer : (p q : MapRecordValue → Bool) → Within p q → (ms : List MapRecordValue) → (length (filter p ms) ≤ length (filter q ms)) × (size (filter p ms) ≤ size (filter q ms))
fewer p q within [] = (omega arith, omega arith)
fewer p q within (m ∷ ms) = either (p m) (q m) refl refl (fewer p q within ms)
  where
    either : (a b : Bool) → p m ≡ a → q m ≡ b → (length (filter p ms) ≤ length (filter q ms)) × (size (filter p ms) ≤ size (filter q ms)) → (length (filter p (m ∷ ms)) ≤ length (filter q (m ∷ ms))) × (size (filter p (m ∷ ms)) ≤ size (filter q (m ∷ ms)))
    either true false in_p out_q rest = absurd (true≢false (sym (within m in_p) ∙ out_q))
    either true true in_p in_q rest = rw (in_p, in_q) (omega (arith, rest.0), omega (arith, size-cons m (filter p ms), size-cons m (filter q ms), rest.1))
    either false true out_p in_q rest = rw (out_p, in_q) (omega (arith, rest.0), omega (arith, size-cons m (filter q ms), rest.1))
    either false false out_p out_q rest = rw (out_p, out_q) rest

-- what is inside the longer is inside the shorter
pub inside_wider : (addr : Addr) (n k : ℕ) → n ≤ k → (eid : PrefixValue) → is_inside (prefix_around addr k) eid ≡ true → is_inside (prefix_around addr n) eid ≡ true
inside_wider addr n k le eid is =
    let (covered, long) = and_parts (covers (prefix_around addr k) eid) (nat_lt k eid.mask_len) is in
    and_from (covers (prefix_around addr n) eid) (nat_lt n eid.mask_len) (in_wider addr eid k n le covered) (grind (arith, nat_tests))

pub wider_fits_not : (database : List MapRecordValue) (longest : MapRecordValue) (addr : Addr) (n k : ℕ) → n ≤ k → own_fit database longest (prefix_around addr k) ≡ false → own_fit database longest (prefix_around addr n) ≡ false
wider_fits_not database longest addr n k le unfit = not_true (own_fit database longest (prefix_around addr n)) (λ fit.
    (let wide = longest ∷ own_inside database (prefix_around addr n) in
    let narrow = longest ∷ own_inside database (prefix_around addr k) in
    let parts = and_parts (nat_le (length wide) 255) (nat_le (size wide) 16384) fit in
    let less = fewer (λ m. is_inside (prefix_around addr k) m.eid) (λ m. is_inside (prefix_around addr n) m.eid) (λ m. inside_wider addr n k le m.eid) database in
    let many : length narrow ≤ 255 = omega (arith, less.0, leb-true (length wide) 255 parts.0) in
    let large : size narrow ≤ 16384 = omega (arith, less.1, size-cons longest (own_inside database (prefix_around addr n)), size-cons longest (own_inside database (prefix_around addr k)), leb-true (size wide) 16384 parts.1) in
    true≢false (sym (and_from (nat_le (length narrow) 255) (nat_le (size narrow) 16384) (le-leb (length narrow) 255 many) (le-leb (size narrow) 16384 large)) ∙ unfit)))

-- ---- the widest prefix for which they fit

most : (a : Addr) → max_len a ≤ 128
most a = grind arith

-- a prefix over another has at most the longest mask
pub few_bits : (one other : PrefixValue) → covers one other ≡ true → IsPrefix other → one.mask_len ≤ 128
few_bits one other over block = omega (arith, ((covers_is one other).0 over).0, block.0, most other.addr)

module _ (database : List MapRecordValue) (longest : MapRecordValue) (asked : PrefixValue) where
  abbrev fit_at : ℕ → Bool
  fit_at n = own_fit database longest (prefix_around asked.addr n)

  -- there is one where the mask fits the address
  pub nowhere_is : (n : ℕ) → n ≡ asked.mask_len → fit_at n ≡ false → FitsNowhere database longest asked
  nowhere_is n full unfit k from to = wider_fits_not database longest asked.addr k n (omega (arith, full, to)) unfit

  pub wider_next : (middle : ℕ) → fit_at middle ≡ false → (k : ℕ) → longest.eid.mask_len ≤ k → k < middle + 1 → fit_at k ≡ false
  wider_next middle unfit k from lt = wider_fits_not database longest asked.addr k middle (omega (arith, lt)) unfit

  pub itself : IsPrefix asked → prefix_around asked.addr asked.mask_len ≡ asked
  itself block = ap (λ (a : Addr). record { addr = a; mask_len = asked.mask_len }) block.1

  -- records are inside it where it doesn't fit
  pub some_inside : (n : ℕ) (fits : Bool) → n ≡ asked.mask_len → IsPrefix asked → (own_inside database (prefix_around asked.addr n) ≡ [] → fits ≡ true) → fits ≡ false → own_inside database asked ≡ [] → ⊥
  some_inside n fits full block some unfit none = true≢false (sym (some (ap (own_inside database) (ap (prefix_around asked.addr) full ∙ itself block) ∙ none)) ∙ unfit)

  -- ---- so of what is sent

  module _ (over : covers longest.eid asked ≡ true) where
    -- the longest record's address is that asked for, with bits cleared
    its_addr : cleared asked.addr longest.eid.mask_len ≡ longest.eid.addr
    its_addr = ((covers_is longest.eid asked).0 over).1

    pub as_long : (n : ℕ) → AreAsLong (cleared asked.addr n) longest.eid.addr
    as_long n = length-octets asked.addr n ∙ sym (length-octets asked.addr longest.eid.mask_len) ∙ ap (λ (a : Addr). length (octets a)) its_addr

    as_long_narrowed : (eid : PrefixValue) → IsOwnNarrowed asked longest eid → AreAsLong eid.addr longest.eid.addr
    as_long_narrowed eid narrowed = ap (λ (b : PrefixValue). length (octets b.addr)) narrowed.around ∙ as_long eid.mask_len

    -- where the records as configured don't fit, what is sent doesn't
    unfit_sent : (probed : Option Addr) (eid : PrefixValue) → IsOwnNarrowed asked longest eid → fit_at eid.mask_len ≡ false → OwnFitNot database probed eid longest
    unfit_sent probed eid narrowed unfit records are = fits_alike database probed eid longest records (as_long_narrowed eid narrowed) are ∙ ap (own_fit database longest) narrowed.around ∙ unfit

    pub nowhere_sent : (probed : Option Addr) → FitsNowhere database longest asked → OwnFitNowhere database probed asked longest
    nowhere_sent probed nowhere eid narrowed = unfit_sent probed eid narrowed (nowhere eid.mask_len narrowed.from narrowed.to)

    pub replies_with : (probed : Option Addr) (eid : PrefixValue) (records : List MapRecordValue) → IsLongestFor database asked longest → IsWidestFit database longest asked eid → AreOwnRecords database probed eid longest records → OwnRepliesWith database asked probed records
    replies_with probed eid records is_longest fit are = record {
      longest = longest;
      is_longest = is_longest;
      eid = eid;
      narrowed = fit.narrowed;
      are = are;
      fit = fits_alike database probed eid longest records (as_long_narrowed eid fit.narrowed) are ∙ fit.fit;
      widest = λ wider narrowed lt. unfit_sent probed wider narrowed (fit.widest wider.mask_len narrowed.from lt);
    }

-- ---- the prefix of one address has none inside

filter_none : (p : MapRecordValue → Bool) (ms : List MapRecordValue) → ((m : MapRecordValue) → Contains ms m → p m ≡ false) → filter p ms ≡ []
filter_none p [] none = refl
filter_none p (m ∷ ms) none =
    let first : p m ≡ false = none m (0, omega arith, refl) in
    rw first (filter_none p ms (λ x at. none x (Contains-append_right (m ∷ []) ms x at)))

not_inside : (asked : PrefixValue) (m : MapRecordValue) → asked.mask_len ≡ max_len asked.addr → IsPrefix m.eid → is_inside asked m.eid ≡ false
not_inside asked m full block = not_true (is_inside asked m.eid) (λ is. omega (arith, full, is_wider asked m.eid is block))

pub none_inside : (database : List MapRecordValue) (asked : PrefixValue) → All (λ m. IsPrefix m.eid) database → asked.mask_len ≡ max_len asked.addr → own_inside database asked ≡ []
none_inside database asked blocks full = filter_none (λ m. is_inside asked m.eid) database (λ m at. not_inside asked m full (All-contains (λ (x : MapRecordValue). IsPrefix x.eid) database m blocks at))

-- ---- The widest prefix around an address in which no record of a router's database lies.

-- ---- one prefix

module _ (other : PrefixValue) (addr : Addr) (from length : ℕ) (low : from ≤ length) (was : (n : ℕ) → from ≤ n → n < length → covers (prefix_around addr n) other ≡ true) where
  pub least_is : covers (prefix_around addr length) other ≡ false → IsLeastWithout other addr from length
  least_is stop n within = (
    λ out. omega (arith, λ (lt : n < length). true≢false (sym (was n out.0 lt) ∙ out.1)),
    λ le. (omega (arith, low, le), not_true (covers (prefix_around addr n) other) (λ is. true≢false (sym (in_wider addr other n length le is) ∙ stop))),
  )

-- ---- those so far

abbrev pub IsLeastFree : List MapRecordValue → Addr → ℕ → Type 0
IsLeastFree seen addr least = (least ≤ max_len addr) × ((n : ℕ) → n ≤ max_len addr → ((m : MapRecordValue) → Contains seen m → covers (prefix_around addr n) m.eid ≡ false) ↔ (least ≤ n))

pub free_next : (seen : List MapRecordValue) (m : MapRecordValue) (addr : Addr) (least next : ℕ) → IsLeastFree seen addr least → next ≤ max_len addr → IsLeastWithout m.eid addr least next → IsLeastFree (seen ++ m ∷ []) addr next
free_next seen m addr least next before fits its = (
  fits,
  λ n within. (
    λ each. (its n within).0 ((before.1 n within).0 (λ x at. each x (Contains-append_left seen (m ∷ []) x at)), each m (Contains-push seen m)),
    λ le x at. either n within ((its n within).1 le) x (Contains-push_cases seen m x at),
  ),
)
  where
    either : (n : ℕ) → n ≤ max_len addr → (least ≤ n) × (covers (prefix_around addr n) m.eid ≡ false) → (x : MapRecordValue) → Contains seen x ⊎ (m ≡ x) → covers (prefix_around addr n) x.eid ≡ false
    either n within known x (inl was) = (before.1 n within).1 known.0 x was
    either n within known x (inr same) = subst (λ (y : MapRecordValue). covers (prefix_around addr n) y.eid ≡ false) same known.1

-- ---- the hole

pub hole_is : (database : List MapRecordValue) (addr : Addr) (least : ℕ) → NoneIsFor database (alone addr) → IsLeastFree database addr least → IsOwnHole database addr (prefix_around addr least)
hole_is database addr least none is = record {
  around = (is.0, refl);
  free = λ m at. ((is.1 least is.0).1 (omega arith) m at, not_true (covers m.eid (prefix_around addr least)) (λ over. true≢false (sym (covers_through m.eid (prefix_around addr least) (alone addr) over (around_covers addr least (max_len addr) is.0)) ∙ none m at)));
  widest = λ n lt free. omega (arith, lt, (is.1 n (omega (arith, lt, is.0))).0 (λ m at. (free m at).0));
}

-- it is what was made
pub hole_made : (database : List MapRecordValue) (addr : Addr) (least : ℕ) (made : PrefixValue) → made ≡ prefix_around addr least → NoneIsFor database (alone addr) → IsLeastFree database addr least → IsOwnHole database addr made
hole_made database addr least made value none is = subst (λ (b : PrefixValue). IsOwnHole database addr b) (sym value) (hole_is database addr least none is)

-- ---- the prefix of the address alone, as it is made

pub alone_made : (made : Option PrefixValue) (p : PrefixValue) (addr : Addr) (n : ℕ) → made ≡ Some p → IfSome made (λ b. b ≡ prefix_around addr n) → n ≡ max_len addr → p ≡ alone addr
alone_made made p addr n is value full =
    let its : p ≡ prefix_around addr n = subst (λ (o : Option PrefixValue). IfSome o (λ b. b ≡ prefix_around addr n)) is value in
    its ∙ ap (prefix_around addr) full

pub alone_full : (p : PrefixValue) (addr : Addr) → p ≡ alone addr → p.mask_len ≡ max_len p.addr
alone_full p addr is = ap (λ (b : PrefixValue). b.mask_len) is ∙ sym (same_family addr (max_len addr)) ∙ ap (λ (b : PrefixValue). max_len b.addr) (sym is)
