-- How wide a prefix around an address is: tests that hold of it and of all longer ones.
use Rattle.std.proofs.Common.{◌≡◌, ◌≢◌, ◌⊎◌, inl, inr, ℕ, ◌+◌, ◌<◌, ◌≤◌, Bool, true, false, max, List, length, slice_index_or, sym, ap, ◌∙◌, subst, true≢false, arith, ◌↔◌, Option, Some, None, IfSome, refl}
use Rattle.std.proofs.lemmas.Bool.{cases_eq, and_from}
use Rattle.std.proofs.lemmas.List.{get_or_read}
use Rattle.std.proofs.lemmas.List.Elements.{All-contains}
use Rattle.std.specs.List.{All, Contains}
use Rattle.std.specs.Option.{IsSome, option_map, is_some}
use Rattle.lisp_policy.specs.Site.{SiteValue}
use Rattle.lisp_policy.specs.declared.site.SitePrefix.{SitePrefix}
use Rattle.lisp_policy.proofs.Found.{not_true}
use Rattle.lisp_records.specs.declared.address.Addr.{Addr}
use Rattle.lisp_records.specs.Address.{PrefixValue, IsPrefix, cleared, covers, holds, max_len, prefix_around}
use Rattle.lisp_records.specs.Row.{RowValue, is_alive}
use Rattle.lisp_records.proofs.AddressLemmas.{cleared-wider}
use Rattle.lisp_lookup.specs.Hole.{IsWidest, KeepsBeside, IsEmptyIn, IsHole, IsHoleOf, KeepsSites}
use Rattle.lisp_lookup.specs.Answer.{IsBestOf, NoneAnswers}
use Rattle.lisp_lookup.proofs.BestLaws.{same_family}
use Rattle.lisp_lookup.proofs.Blocks.{covers_is, holds_is}
pub use Rattle.lisp_lookup.proofs.Blocks.{in_wider}

-- what lies in the prefix of one address has it
pub in_longest : (addr : Addr) (other : PrefixValue) → IsPrefix other → covers (prefix_around addr (max_len addr)) other ≡ true → holds other addr ≡ true
in_longest addr other block covered =
    let (long, same) = (covers_is (prefix_around addr (max_len addr)) other).0 covered in
    let family : max_len other.addr ≡ max_len addr = sym (same_family other.addr (max_len addr)) ∙ ap max_len same ∙ same_family addr (max_len addr) in
    let full : max_len addr ≡ other.mask_len = omega (arith, long, block.0, family) in
    let own : cleared addr other.mask_len ≡ other.addr = ap (cleared addr) (sym full) ∙ sym same ∙ ap (cleared other.addr) full ∙ block.1 in
    (holds_is other addr).1 own

-- ---- another prefix doesn't lie in it

abbrev pub WasIn : Addr → PrefixValue → ℕ → Type 0
WasIn addr other length = (m : ℕ) → m < length → covers (prefix_around addr m) other ≡ true

pub without : (addr : Addr) (other : PrefixValue) (length : ℕ) → WasIn addr other length → covers (prefix_around addr length) other ≡ false → IsWidest (λ eid. covers eid other ≡ false) addr length
without addr other length was stop n within = (λ out. omega (arith, λ (lt : n < length). true≢false (sym (was n lt) ∙ out)), λ le. not_true (covers (prefix_around addr n) other) (λ is. true≢false (sym (in_wider addr other n length le is) ∙ stop)))

-- ---- beside one prefix of a site

beside_has : (of_site : PrefixValue) (addr : Addr) (configured : Bool) → configured ≡ true → holds of_site addr ≡ true → IsWidest (KeepsBeside of_site addr configured) addr of_site.mask_len
beside_has of_site addr configured is has n within = (
  λ keeps. ((covers_is of_site (prefix_around addr n)).0 (keeps.0 has)).0,
  λ le. (
    λ _. (covers_is of_site (prefix_around addr n)).1 (le, cleared-wider addr n of_site.mask_len le ∙ (holds_is of_site addr).0 has),
    λ none. absurd (true≢false (sym is ∙ none)),
  ),
)

pub beside_in : (of_site : PrefixValue) (addr : Addr) (configured : Bool) → (holds of_site addr ≡ true → configured ≡ true) → holds of_site addr ≡ true → IsWidest (KeepsBeside of_site addr configured) addr of_site.mask_len
beside_in of_site addr configured known has = beside_has of_site addr configured (known has) has

-- ---- beside all of some

-- those before a place
abbrev pub EachUpTo : {X : Type 0} → (X → Type 0) → List X → ℕ → Type 0
EachUpTo P xs upto = (i : ℕ) (d : _) → i < upto → P (slice_index_or xs i d)

-- of the prefixes around an address those of this length and longer ones are so beside all before a place
abbrev pub IsWidestUpTo : {X : Type 0} → (X → PrefixValue → Type 0) → List X → Addr → ℕ → ℕ → Type 0
IsWidestUpTo P xs addr upto widest = (widest ≤ max_len addr) × IsWidest (λ eid. EachUpTo (λ x. P x eid) xs upto) addr widest

module _ {X : Type 0} (P : X → PrefixValue → Type 0) (xs : List X) (addr : Addr) where
  pub widest_more : (k widest other : ℕ) (x : X) → ((d : X) → x ≡ slice_index_or xs k d) → IsWidestUpTo P xs addr k widest → other ≤ max_len addr → IsWidest (P x) addr other → IsWidestUpTo P xs addr (k + 1) (max widest other)
  widest_more k widest other x known before within its = (
    omega (arith, before.0, within),
    λ n fits. (
      λ each.
          (let low = (before.1 n fits).0 (λ i d lt. each i d (omega (arith, lt))) in
          let high = (its n fits).0 (subst (λ (y : X). P y (prefix_around addr n)) (sym (known x)) (each k x (omega arith))) in
          omega (arith, low, high)),
      λ le i d lt. either n fits (omega (arith, le)) (omega (arith, le)) i d lt (cases_eq i k),
    ),
  )
    where
      either : (n : ℕ) → n ≤ max_len addr → widest ≤ n → other ≤ n → (i : ℕ) (d : X) → i < k + 1 → (i ≡ k) ⊎ (i ≢ k) → P (slice_index_or xs i d) (prefix_around addr n)
      either n fits low high i d lt (inl same) = subst (λ (y : X). P y (prefix_around addr n)) (known d ∙ ap (λ (j : ℕ). slice_index_or xs j d) (sym same)) ((its n fits).1 high)
      either n fits low high i d lt (inr off) = (before.1 n fits).1 low i d (omega (arith, lt, off))

  pub widest_all : (k widest : ℕ) → k ≡ length xs → IsWidestUpTo P xs addr k widest → IsWidest (λ eid. All (λ x. P x eid) xs) addr widest
  widest_all k widest all is n within = (λ each. (is.1 n within).0 (λ i d lt. each i d (omega (arith, lt, all))), λ le i d lt. (is.1 n within).1 le i d (omega (arith, all, lt)))

-- by the prefixes of a site, and by the sites
abbrev pub by_prefix : Addr → Bool → SitePrefix → PrefixValue → Type 0
by_prefix addr configured p eid = KeepsBeside p.eid addr configured eid

abbrev pub by_site : Addr → Bool → SiteValue → PrefixValue → Type 0
by_site addr configured site eid = All (λ p. KeepsBeside p.eid addr configured eid) site.prefixes

-- the greater length, as it was found
pub widest_next : {X : Type 0} (P : X → PrefixValue → Type 0) (xs : List X) (addr : Addr) (k widest other next : ℕ) (x : X) → k < length xs → x ≡ slice_index_or xs k x → next ≡ max widest other → IsWidestUpTo P xs addr k widest → other ≤ max_len addr → IsWidest (P x) addr other → IsWidestUpTo P xs addr (k + 1) next
widest_next P xs addr k widest other next x lt read is before within its = subst (λ (n : ℕ). IsWidestUpTo P xs addr (k + 1) n) (sym is) (widest_more P xs addr k widest other x (get_or_read xs k x lt read) before within its)

pub widest_of_all : {X : Type 0} (P : X → PrefixValue → Type 0) (xs items : List X) (addr : Addr) (k widest : ℕ) → items ≡ xs → k ≤ length items → length items ≤ k → IsWidestUpTo P items addr k widest → IsWidest (λ eid. All (λ x. P x eid) xs) addr widest
widest_of_all P xs items addr k widest same low high is = widest_all P xs addr k widest (omega (arith, low, high, ap length same)) (subst (λ (ys : List _). IsWidestUpTo P ys addr k widest) same is)

-- ---- Prefixes around an address in which no live row has one.

module _ (rows : List RowValue) (addr : Addr) (now : ℕ) where
  -- where none has a prefix in one, none has in a longer one
  pub empty_longer : (n m : ℕ) → m ≤ n → IsEmptyIn rows (prefix_around addr m) now → IsEmptyIn rows (prefix_around addr n) now
  empty_longer n m le empty h held alive = not_true (covers (prefix_around addr n) h.mapping.eid) (λ is. true≢false (sym (in_wider addr h.mapping.eid n m le is) ∙ empty h held alive))

  -- where none has the address, none has a prefix in that of the address alone
  pub empty_alone : All (λ h. IsPrefix h.mapping.eid) rows → NoneAnswers rows addr now → (n : ℕ) → n ≡ max_len addr → IsEmptyIn rows (prefix_around addr n) now
  empty_alone blocks none n full h held alive = not_true (covers (prefix_around addr n) h.mapping.eid) (λ is.
      (let has = in_longest addr h.mapping.eid (All-contains (λ h. IsPrefix h.mapping.eid) rows h blocks held) (ap (λ (k : ℕ). covers (prefix_around addr k) h.mapping.eid) (sym full) ∙ is) in
      true≢false (sym (and_from (is_alive h now) (holds h.mapping.eid addr) alive has) ∙ none h held)))

  -- nor does one lie over a prefix around it
  pub bare : NoneAnswers rows addr now → (n : ℕ) (h : RowValue) → Contains rows h → is_alive h now ≡ true → covers h.mapping.eid (prefix_around addr n) ≡ false
  bare none n h held alive = not_true (covers h.mapping.eid (prefix_around addr n)) (λ is.
      (let (short, block) = (covers_is h.mapping.eid (prefix_around addr n)).0 is in
      let has = (holds_is h.mapping.eid addr).1 (sym (cleared-wider addr n h.mapping.eid.mask_len short) ∙ block) in
      true≢false (sym (and_from (is_alive h now) (holds h.mapping.eid addr) alive has) ∙ none h held)))

-- the middle of two lengths was looked at
abbrev pub Wider : List RowValue → Addr → ℕ → ℕ → ℕ → Type 0
Wider rows addr now least low = (n : ℕ) → least ≤ n → n < low → IsEmptyIn rows (prefix_around addr n) now → ⊥

pub wider_up : (rows : List RowValue) (addr : Addr) (now least middle : ℕ) → (IsEmptyIn rows (prefix_around addr middle) now → ⊥) → Wider rows addr now least (middle + 1)
wider_up rows addr now least middle some n low lt empty = some (empty_longer rows addr now middle n (omega (arith, lt)) empty)

module _ (rows : List RowValue) (sites : List SiteValue) (addr : Addr) (now : ℕ) where
  -- the hole
  pub hole_is : (least n : ℕ) → NoneAnswers rows addr now → IsWidest (KeepsSites sites addr) addr least → least ≤ n → n ≤ max_len addr → IsEmptyIn rows (prefix_around addr n) now → Wider rows addr now least n → IsHole rows sites addr now (prefix_around addr n)
  hole_is least n none by_sites low within empty wider = record {
    around = (within, refl);
    alike = record {
      empty = empty;
      bare = bare rows addr now none n;
      keeps = (by_sites n within).1 low;
    };
    widest = λ m lt alike. wider m ((by_sites m (omega (arith, lt, within))).0 alike.keeps) lt alike.empty;
  }

  pub hole_of : (n : ℕ) → n ≤ max_len addr → IsHole rows sites addr now (prefix_around addr n) → (made : Option PrefixValue) → IsSome made ↔ (n ≤ max_len addr) → IfSome made (λ eid. eid ≡ prefix_around addr n) → IsHoleOf rows sites addr now made
  hole_of n within hole None valid value = absurd (true≢false (sym (valid.1 within)))
  hole_of n within hole (Some eid) valid value = subst (λ (b : PrefixValue). IsHole rows sites addr now b) (sym value) hole

-- where none was found none has the address
pub none_of : {R : Type 0} (view : R → RowValue) (rows : List RowValue) (addr : Addr) (now : ℕ) (found : Option R) → IsBestOf rows addr now (option_map view found) → is_some found ≡ false → NoneAnswers rows addr now
none_of view rows addr now None none is = none
none_of view rows addr now (Some x) best is = absurd cc
