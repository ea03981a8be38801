-- The rows of the prefixes inside a prefix, in the order by prefix.
use Rattle.std.proofs.Common.{◌≡◌, ◌≢◌, ◌⊎◌, inl, inr, ℕ, ◌+◌, ◌<◌, ◌≤◌, Bool, true, false, ◌&&◌, List, length, slice_index, slice_index_or, Option, Some, None, refl, sym, ap, ◌∙◌, subst, true≢false, arith}
use Rattle.std.proofs.lemmas.Bool.{cases_eq, cases_lt, and_parts, and_from}
use Rattle.std.proofs.lemmas.Bool.Decides.{nat_tests}
use Rattle.std.proofs.lemmas.List.{get_or_default}
use Rattle.std.proofs.lemmas.List.Elements.{All-contains}
use Rattle.std.specs.List.{All, Contains}
use Rattle.std.specs.Cmp.{IsTotalOrder}
use Rattle.std.specs.Ordering.{is_lt, nat_cmp, ordering_reverse, ordering_then}
use Rattle.std.specs.declared.cmp.Ordering.{Ordering}
use Rattle.std.specs.declared.cmp.Ordering.TheVariants.{Less, Equal, Greater}
use Rattle.lisp_records.proofs.DatabaseLaws.{block_eq-Decides}
use Rattle.lisp_records.proofs.AddressLemmas.{cleared-wider}
use Rattle.lisp_records.specs.declared.address.Addr.{Addr}
use Rattle.lisp_records.specs.Address.{PrefixValue, IsPrefix, IsWhole, addr_cmp, cleared, covers, holds, max_len, prefix_cmp, prefix_eq, prefix_around}
use Rattle.lisp_records.specs.Router.{router_cmp}
use Rattle.lisp_records.specs.Row.{RowValue, is_alive}
use Rattle.lisp_policy.proofs.Found.{not_true}
use Rattle.lisp_lookup.specs.declared.probe.Probe.TheVariants.{Prefix}
use Rattle.lisp_lookup.specs.Answer.{may_answer, IsBestOfPrefix}
use Rattle.lisp_lookup.specs.Index.{row_prefix_cmp, row_at_place, IsBound, IsFirstOf, IsIndex}
use Rattle.lisp_lookup.specs.Hole.{IsEmptyIn}
use Rattle.lisp_lookup.specs.Inside.{is_inside, is_live_inside, IsWalk, NoneInside, IsNextInsideOf, HasNoRow}
use Rattle.lisp_lookup.specs.Covering.{may_answer_for}
use Rattle.lisp_lookup.proofs.Apart.{on_either}
use Rattle.lisp_lookup.proofs.AnswerLaws.{less}
use Rattle.lisp_lookup.proofs.BestLaws.{of_prefix, same_family, NoneLonger, block_of, for_address, its_block}
use Rattle.lisp_lookup.proofs.Blocks.{at_most_cleared, cleared-between, covers_is, holds_is, inside_is}
use Rattle.lisp_lookup.proofs.IndexLaws.{itself, number_at}
use Rattle.lisp_lookup.proofs.Orders.{block_total, addr_total}
use Rattle.lisp_lookup.proofs.TableLaws.{filtered_holds, filter_holds}

-- a live row of a prefix inside, behind a given prefix
abbrev pub is_hit : PrefixValue → PrefixValue → ℕ → RowValue → Bool
is_hit outer after now h = is_live_inside outer now h && is_lt (prefix_cmp after h.mapping.eid)

-- ---- what stands not before what

module _ {K : Type 0} {R : K → K → Ordering} (total : IsTotalOrder R) where
  -- what doesn't stand before something has it before itself, or ties with it
  pub not_less : (x y : K) → is_lt (R x y) ≡ false → R y x ≢ Greater
  not_less x y low above = grind (arith, total.antisymm y x)

  -- of two, not each stands before the other
  pub not_both : (x y : K) → R x y ≡ Less → R y x ≡ Less → ⊥
  not_both x y one other = absurd (let turned : R y x ≡ Greater = total.antisymm y x ∙ ap ordering_reverse one in cc)

pub less_equal : (o : Ordering) → o ≡ Equal → o ≢ Greater
less_equal o is above = absurd cc

pub less_is : (o : Ordering) → o ≡ Less → o ≢ Greater
less_is o is above = absurd cc

pub first_of : (one rest : Ordering) → ordering_then one rest ≢ Greater → one ≢ Greater
first_of one rest above is = grind arith

by_length : (one rest : Ordering) → one ≢ Greater → rest ≡ Less → ordering_then one rest ≡ Less
by_length one rest low is = grind arith

-- what lies inside a prefix stands behind it
pub inside_behind : (outer eid : PrefixValue) → is_inside outer eid ≡ true → prefix_cmp outer eid ≡ Less
inside_behind outer eid inside =
    let ((le, block), lt) = (inside_is outer eid).0 inside in
    by_length (addr_cmp outer.addr eid.addr) (nat_cmp outer.mask_len eid.mask_len) (at_most_cleared eid.addr outer.addr outer.mask_len block) (grind (arith, nat_tests))

-- ---- the run

hit_parts : (outer after : PrefixValue) (now : ℕ) (h : RowValue) → is_hit outer after now h ≡ true → (is_alive h now ≡ true) × ((is_inside outer h.mapping.eid ≡ true) × (prefix_cmp after h.mapping.eid ≡ Less))
hit_parts outer after now h hit =
    let parts = and_parts (is_live_inside outer now h) (is_lt (prefix_cmp after h.mapping.eid)) hit in
    let live = and_parts (is_alive h now) (is_inside outer h.mapping.eid) parts.0 in
    (live.0, (live.1, less (prefix_cmp after h.mapping.eid) parts.1))

is_hit_from : (outer after : PrefixValue) (now : ℕ) (h : RowValue) → is_live_inside outer now h ≡ true → prefix_cmp after h.mapping.eid ≡ Less → is_hit outer after now h ≡ true
is_hit_from outer after now h live behind = and_from (is_live_inside outer now h) (is_lt (prefix_cmp after h.mapping.eid)) live (ap is_lt behind)

pub row_rise : (a b : PrefixValue) (rest : Ordering) → ordering_then (prefix_cmp a b) rest ≡ Less → prefix_cmp a b ≢ Greater
row_rise a b rest rise = first_of (prefix_cmp a b) rest (less_is (ordering_then (prefix_cmp a b) rest) rise)

-- ---- rows that are sought among those whose address a prefix has, from a place on before which none is

pub record IsRun (rows : List RowValue) (numbers : List ℕ) (sought : RowValue → Bool) (outer : PrefixValue) (first : ℕ) : Type 0 where
  pub index : IsIndex row_prefix_cmp rows numbers
  pub has : (h : RowValue) → sought h ≡ true → holds outer h.mapping.eid.addr ≡ true
  pub passed : (k : ℕ) (d : RowValue) → k < first → sought (row_at_place rows numbers k d) ≡ false
  pub onward : (k : ℕ) (d : RowValue) → first ≤ k → k < length numbers → prefix_cmp outer (row_at_place rows numbers k d).mapping.eid ≢ Greater

module _ (rows : List RowValue) (numbers : List ℕ) (sought : RowValue → Bool) (outer : PrefixValue) (first : ℕ) (run : IsRun rows numbers sought outer first) where
  -- what was looked at isn't sought
  abbrev pub NoneSought : ℕ → Type 0
  NoneSought upto = (k : ℕ) (d : RowValue) → first ≤ k → k < upto → sought (row_at_place rows numbers k d) ≡ false

  -- where nothing is sought at any place none of the rows is
  pub none_sought : NoneSought (length numbers) → (h : RowValue) → Contains rows h → sought h ≡ false
  none_sought none h (n, lt, is) =
      let (k, lt_k, at) = run.index.each n lt in
      let here : row_at_place rows numbers k h ≡ h = ap (λ (m : ℕ). slice_index_or rows m h) (number_at numbers k n lt_k at) ∙ is in
      ap sought (sym here) ∙ either k lt_k (cases_lt k first)
    where
      either : (k : ℕ) → k < length numbers → (k < first) ⊎ (first ≤ k) → sought (row_at_place rows numbers k h) ≡ false
      either k lt (inl sooner) = run.passed k h sooner
      either k lt (inr later) = none k h later lt

  -- one place more was looked at
  pub one_more : (p : ℕ) (x : RowValue) → ((d : RowValue) → x ≡ row_at_place rows numbers p d) → sought x ≡ false → NoneSought p → NoneSought (p + 1)
  one_more p x known miss none k d low lt = grind (arith, cases_eq k p, known d, none k d)

  -- behind a row whose address is outside none is sought
  module _ (whole : IsWhole outer.addr) (p : ℕ) (x : RowValue) (le : first ≤ p) (within : p < length numbers) (known : (d : RowValue) → x ≡ row_at_place rows numbers p d) (x_whole : IsWhole x.mapping.eid.addr) (outside : holds outer x.mapping.eid.addr ≡ false) where
    behind_outer : prefix_cmp outer x.mapping.eid ≢ Greater
    behind_outer = subst (λ (h : RowValue). prefix_cmp outer h.mapping.eid ≢ Greater) (sym (known x)) (run.onward p x le within)

    not_in : (y : RowValue) → addr_cmp x.mapping.eid.addr y.mapping.eid.addr ≢ Greater → holds outer y.mapping.eid.addr ≡ true → ⊥
    not_in y high held =
        let under = first_of (addr_cmp outer.addr x.mapping.eid.addr) (nat_cmp outer.mask_len x.mapping.eid.mask_len) behind_outer in
        let same = cleared-between outer.addr x.mapping.eid.addr y.mapping.eid.addr outer.mask_len whole x_whole ((holds_is outer y.mapping.eid.addr).0 held) under high in
        true≢false (sym ((holds_is outer x.mapping.eid.addr).1 same) ∙ outside)

    stops : (k : ℕ) (d : RowValue) → p ≤ k → k < length numbers → sought (row_at_place rows numbers k d) ≡ false
    stops k d le lt = not_true (sought y) (λ is. either (cases_eq k p) (run.has y is))
      where
        y : RowValue
        y = row_at_place rows numbers k d

        either : (k ≡ p) ⊎ (k ≢ p) → holds outer y.mapping.eid.addr ≡ true → ⊥
        either (inl same) held = true≢false (sym held ∙ ap (λ (j : ℕ). holds outer (row_at_place rows numbers j d).mapping.eid.addr) same ∙ ap (λ (h : RowValue). holds outer h.mapping.eid.addr) (sym (known d)) ∙ outside)
        either (inr other) held =
            let rise = run.index.rises.rising p k d (omega (arith, le, other)) lt in
            let step = row_rise (row_at_place rows numbers p d).mapping.eid y.mapping.eid (router_cmp (row_at_place rows numbers p d).router y.router) rise in
            let own : prefix_cmp x.mapping.eid y.mapping.eid ≢ Greater = subst (λ (h : RowValue). prefix_cmp h.mapping.eid y.mapping.eid ≢ Greater) (sym (known d)) step in
            not_in y (first_of (addr_cmp x.mapping.eid.addr y.mapping.eid.addr) (nat_cmp x.mapping.eid.mask_len y.mapping.eid.mask_len) own) held

    -- so none is where none was before
    pub stopped : NoneSought p → (h : RowValue) → Contains rows h → sought h ≡ false
    stopped none = none_sought (λ k d low lt. on_either (cases_lt k p) (λ sooner. none k d low sooner) (λ later. stops k d later lt))

-- ---- the prefixes inside, behind one of them

hit_has : (outer after : PrefixValue) (now : ℕ) (h : RowValue) → is_hit outer after now h ≡ true → holds outer h.mapping.eid.addr ≡ true
hit_has outer after now h hit = (holds_is outer h.mapping.eid.addr).1 ((inside_is outer h.mapping.eid).0 (hit_parts outer after now h hit).1.0).0.1

pub inside_run : (rows : List RowValue) (numbers : List ℕ) (outer after : PrefixValue) (now first : ℕ) → IsWalk (record { rows = rows; outer = outer; moment = now; after = after }) numbers first → IsRun rows numbers (is_hit outer after now) outer first
inside_run rows numbers outer after now first walk = record {
  index = walk.index;
  has = hit_has outer after now;
  passed = λ k d lt. not_true (is_hit outer after now (row_at_place rows numbers k d)) (λ hit. walk.passed k d lt (and_parts (is_live_inside outer now (row_at_place rows numbers k d)) (is_lt (prefix_cmp after (row_at_place rows numbers k d).mapping.eid)) hit).0 (hit_parts outer after now (row_at_place rows numbers k d) hit).1.1);
  onward = walk.onward;
}

-- a walk that has shown none
pub walk_begins : (rows : List RowValue) (numbers : List ℕ) (outer : PrefixValue) (now first : ℕ) → All (λ h. IsPrefix h.mapping.eid) rows → IsIndex row_prefix_cmp rows numbers → IsFirstOf outer rows numbers first → IsWalk (record { rows = rows; outer = outer; moment = now; after = outer }) numbers first
walk_begins rows numbers outer now first eids index bound = record {
  eids = eids;
  index = index;
  within = bound.within;
  passed = λ k d lt _ behind. not_both block_total (row_at_place rows numbers k d).mapping.eid outer (less (prefix_cmp (row_at_place rows numbers k d).mapping.eid outer) (bound.before k d lt)) behind;
  onward = λ k d le lt. not_less block_total (row_at_place rows numbers k d).mapping.eid outer (bound.after k d le lt);
}

-- a prefix that another one is inside isn't one of a single address
pub is_wider : (outer eid : PrefixValue) → is_inside outer eid ≡ true → IsPrefix eid → outer.mask_len < max_len outer.addr
is_wider outer eid inside block =
    let ((le, same), lt) = (inside_is outer eid).0 inside in
    omega (arith, lt, block.0, ap max_len same, same_family eid.addr outer.mask_len)

-- so a walk inside one shows none
pub walk_of_one : (rows : List RowValue) (numbers : List ℕ) (outer : PrefixValue) (now : ℕ) → All (λ h. IsPrefix h.mapping.eid) rows → IsIndex row_prefix_cmp rows numbers → max_len outer.addr ≤ outer.mask_len → IsWalk (record { rows = rows; outer = outer; moment = now; after = outer }) numbers (length numbers)
walk_of_one rows numbers outer now eids index one = record {
  eids = eids;
  index = index;
  within = omega arith;
  passed = λ k d lt live _. none (row_at_place rows numbers k d) (slice_index numbers k, index.rises.below k lt, get_or_default rows (slice_index numbers k) (row_at_place rows numbers k d) d (index.rises.below k lt)) live;
  onward = λ k d le lt. absurd (omega (arith, le, lt));
}
  where
    none : (h : RowValue) → Contains rows h → is_live_inside outer now h ≡ true → ⊥
    none h held live = omega (arith, one, is_wider outer h.mapping.eid (and_parts (is_alive h now) (is_inside outer h.mapping.eid) live).1 (All-contains (λ h. IsPrefix h.mapping.eid) rows h eids held))

-- and one that has shown a row
pub walk_goes : (rows : List RowValue) (numbers : List ℕ) (outer after : PrefixValue) (now from : ℕ) → IsWalk (record { rows = rows; outer = outer; moment = now; after = after }) numbers from → (p : ℕ) (x : RowValue) → from ≤ p → p < length numbers → ((d : RowValue) → x ≡ row_at_place rows numbers p d) → (eid : PrefixValue) → eid ≡ x.mapping.eid → IsWalk (record { rows = rows; outer = outer; moment = now; after = eid }) numbers (p + 1)
walk_goes rows numbers outer after now from walk p x le within known eid own = record {
  eids = walk.eids;
  index = walk.index;
  within = omega (arith, within);
  passed = λ k d lt _ behind. either k d lt (ap (λ (b : PrefixValue). prefix_cmp b (row_at_place rows numbers k d).mapping.eid) (sym own) ∙ behind) (cases_eq k p);
  onward = λ k d low lt. walk.onward k d (omega (arith, le, low)) lt;
}
  where
    either : (k : ℕ) (d : RowValue) → k < p + 1 → prefix_cmp x.mapping.eid (row_at_place rows numbers k d).mapping.eid ≡ Less → (k ≡ p) ⊎ (k ≢ p) → ⊥
    either k d lt behind (inl same) = not_both block_total x.mapping.eid x.mapping.eid its its
      where
        its : prefix_cmp x.mapping.eid x.mapping.eid ≡ Less
        its = ap (λ (h : RowValue). prefix_cmp x.mapping.eid h.mapping.eid) (known d ∙ ap (λ (j : ℕ). row_at_place rows numbers j d) (sym same)) ∙ behind
    either k d lt behind (inr off) =
        let rise = walk.index.rises.rising k p d (omega (arith, lt, off)) within in
        let below = row_rise (row_at_place rows numbers k d).mapping.eid (row_at_place rows numbers p d).mapping.eid (router_cmp (row_at_place rows numbers k d).router (row_at_place rows numbers p d).router) rise in
        below (block_total.antisymm (row_at_place rows numbers k d).mapping.eid (row_at_place rows numbers p d).mapping.eid ∙ ap (λ (h : RowValue). ordering_reverse (prefix_cmp h.mapping.eid (row_at_place rows numbers k d).mapping.eid)) (sym (known d)) ∙ ap ordering_reverse behind)

-- the best row of a prefix has it
pub own_best : (rows : List RowValue) (eid : PrefixValue) (addr : Addr) (now : ℕ) (h : RowValue) → IsBestOfPrefix rows eid addr now (Some h) → h.mapping.eid ≡ eid
own_best rows eid addr now h is = (block_eq-Decides h.mapping.eid eid).0 (filtered_holds (λ z. prefix_eq z.mapping.eid eid) rows h is.held).1

pub none_hit : (rows : List RowValue) (outer after : PrefixValue) (now : ℕ) → ((h : RowValue) → Contains rows h → is_hit outer after now h ≡ false) → NoneInside rows outer after now
none_hit rows outer after now none h held live behind = true≢false (sym (is_hit_from outer after now h live behind) ∙ none h held)

-- the first that is sought
module _ (rows : List RowValue) (numbers : List ℕ) (outer after : PrefixValue) (now first : ℕ) (run : IsRun rows numbers (is_hit outer after now) outer first) where
  module _ (p : ℕ) (x : RowValue) (le : first ≤ p) (within : p < length numbers) (known : (d : RowValue) → x ≡ row_at_place rows numbers p d) (none : (k : ℕ) (d : RowValue) → first ≤ k → k < p → is_hit outer after now (row_at_place rows numbers k d) ≡ false) (block : IsPrefix x.mapping.eid) (hit : is_hit outer after now x ≡ true) where
    its : (is_alive x now ≡ true) × ((is_inside outer x.mapping.eid ≡ true) × (prefix_cmp after x.mapping.eid ≡ Less))
    its = hit_parts outer after now x hit

    may : (h : RowValue) → h.mapping.eid ≡ x.mapping.eid → is_alive h now ≡ true → may_answer x.mapping.eid.addr now h ≡ true
    may h own alive = and_from (is_alive h now) (holds h.mapping.eid x.mapping.eid.addr) alive (ap (λ (b : PrefixValue). holds b x.mapping.eid.addr) own ∙ (holds_is x.mapping.eid x.mapping.eid.addr).1 block.1)

    in_own : (h : RowValue) → Contains rows h → h.mapping.eid ≡ x.mapping.eid → Contains (of_prefix rows x.mapping.eid) h
    in_own h held own = filter_holds (λ z. prefix_eq z.mapping.eid x.mapping.eid) rows h held ((block_eq-Decides h.mapping.eid x.mapping.eid).1 own)

    held_x : Contains rows x
    held_x = (slice_index numbers p, run.index.rises.below p within, sym (known x))

    not_before : (other : RowValue) → Contains rows other → is_live_inside outer now other ≡ true → prefix_cmp after other.mapping.eid ≡ Less → prefix_cmp x.mapping.eid other.mapping.eid ≢ Greater
    not_before other (n, lt, is) live behind =
        let (k, lt_k, at) = run.index.each n lt in
        let here : row_at_place rows numbers k other ≡ other = ap (λ (m : ℕ). slice_index_or rows m other) (number_at numbers k n lt_k at) ∙ is in
        subst (λ (h : RowValue). prefix_cmp x.mapping.eid h.mapping.eid ≢ Greater) here (place k lt_k (ap (is_hit outer after now) here ∙ is_hit_from outer after now other live behind) (cases_lt k p))
      where
        at_p : (k : ℕ) → k < length numbers → p ≤ k → (k ≡ p) ⊎ (k ≢ p) → prefix_cmp x.mapping.eid (row_at_place rows numbers k other).mapping.eid ≢ Greater
        at_p k lt low (inl same) = subst (λ (h : RowValue). prefix_cmp x.mapping.eid h.mapping.eid ≢ Greater) (known other ∙ ap (λ (j : ℕ). row_at_place rows numbers j other) (sym same)) (less_equal (prefix_cmp x.mapping.eid x.mapping.eid) (itself prefix_cmp block_total x.mapping.eid))
        at_p k lt low (inr off) =
            let rise = run.index.rises.rising p k other (omega (arith, low, off)) lt in
            subst (λ (h : RowValue). prefix_cmp h.mapping.eid (row_at_place rows numbers k other).mapping.eid ≢ Greater) (sym (known other)) (row_rise (row_at_place rows numbers p other).mapping.eid (row_at_place rows numbers k other).mapping.eid (router_cmp (row_at_place rows numbers p other).router (row_at_place rows numbers k other).router) rise)

        unsought : (k : ℕ) → k < p → (k < first) ⊎ (first ≤ k) → is_hit outer after now (row_at_place rows numbers k other) ≡ false
        unsought k lt (inl sooner) = run.passed k other sooner
        unsought k lt (inr later) = none k other later lt

        place : (k : ℕ) → k < length numbers → is_hit outer after now (row_at_place rows numbers k other) ≡ true → (k < p) ⊎ (p ≤ k) → prefix_cmp x.mapping.eid (row_at_place rows numbers k other).mapping.eid ≢ Greater
        place k lt sought (inl sooner) = absurd (true≢false (sym sought ∙ unsought k sooner (cases_lt k first)))
        place k lt sought (inr later) = at_p k lt later (cases_eq k p)

    pub found_inside : (best : Option RowValue) → IsBestOfPrefix rows x.mapping.eid x.mapping.eid.addr now best → IsNextInsideOf rows outer after now best
    found_inside None is = absurd (true≢false (sym (may x refl its.0) ∙ is x (in_own x held_x refl)))
    found_inside (Some h) is =
        let was = filtered_holds (λ z. prefix_eq z.mapping.eid x.mapping.eid) rows h is.held in
        let own : h.mapping.eid ≡ x.mapping.eid = (block_eq-Decides h.mapping.eid x.mapping.eid).0 was.1 in
        record {
          best = record {
            held = was.0;
            alive = (and_parts (is_alive h now) (holds h.mapping.eid x.mapping.eid.addr) is.may).0;
            most = λ other held alive same. is.most other (in_own other held (same ∙ own)) (may other (same ∙ own) alive);
          };
          inside = ap (is_inside outer) own ∙ its.1.0;
          behind = ap (prefix_cmp after) own ∙ its.1.1;
          first = λ other held live behind. subst (λ (b : PrefixValue). prefix_cmp b other.mapping.eid ≢ Greater) (sym own) (not_before other held live behind);
        }

-- ---- the live rows of the prefixes that one covers

abbrev pub is_live_in : PrefixValue → ℕ → RowValue → Bool
is_live_in eid now h = is_alive h now && covers eid h.mapping.eid

in_has : (eid : PrefixValue) (now : ℕ) (h : RowValue) → is_live_in eid now h ≡ true → holds eid h.mapping.eid.addr ≡ true
in_has eid now h live = (holds_is eid h.mapping.eid.addr).1 ((covers_is eid h.mapping.eid).0 (and_parts (is_alive h now) (covers eid h.mapping.eid) live).1).1

-- what a prefix covers doesn't stand before it
both_at_most : (one two : Ordering) → one ≢ Greater → two ≢ Greater → ordering_then one two ≢ Greater
both_at_most one two low high above = grind arith

covered_behind : (eid other : PrefixValue) → covers eid other ≡ true → prefix_cmp eid other ≢ Greater
covered_behind eid other covered =
    let (short, block) = (covers_is eid other).0 covered in
    both_at_most (addr_cmp eid.addr other.addr) (nat_cmp eid.mask_len other.mask_len) (at_most_cleared other.addr eid.addr eid.mask_len block) (λ above. grind (arith, nat_tests))

in_before : (eid : PrefixValue) (now : ℕ) (h : RowValue) → prefix_cmp h.mapping.eid eid ≡ Less → is_live_in eid now h ≡ false
in_before eid now h low = not_true (is_live_in eid now h) (λ live.
    (let covered = (and_parts (is_alive h now) (covers eid h.mapping.eid) live).1 in
    covered_behind eid h.mapping.eid covered (block_total.antisymm eid h.mapping.eid ∙ ap ordering_reverse low)))

pub in_run : {A : Type 0} (rows : List RowValue) (numbers : List ℕ) (eid : PrefixValue) (now first : ℕ) → IsIndex row_prefix_cmp rows numbers → IsBound {A = A} (Prefix eid) rows numbers first → IsRun rows numbers (is_live_in eid now) eid first
in_run rows numbers eid now first index bound = record {
  index = index;
  has = in_has eid now;
  passed = λ k d lt. in_before eid now (row_at_place rows numbers k d) (less (prefix_cmp (row_at_place rows numbers k d).mapping.eid eid) (bound.before k d lt));
  onward = λ k d le lt. not_less block_total (row_at_place rows numbers k d).mapping.eid eid (bound.after k d le lt);
}

pub empty_in : (rows : List RowValue) (eid : PrefixValue) (now : ℕ) → ((h : RowValue) → Contains rows h → is_live_in eid now h ≡ false) → IsEmptyIn rows eid now
empty_in rows eid now none h held alive = not_true (covers eid h.mapping.eid) (λ covered. true≢false (sym (and_from (is_alive h now) (covers eid h.mapping.eid) alive covered) ∙ none h held))

pub not_empty_in : (rows : List RowValue) (eid : PrefixValue) (now : ℕ) (h : RowValue) → Contains rows h → is_live_in eid now h ≡ true → IsEmptyIn rows eid now → ⊥
not_empty_in rows eid now h held live empty =
    let parts = and_parts (is_alive h now) (covers eid h.mapping.eid) live in
    true≢false (sym parts.1 ∙ empty h held parts.0)

-- ---- Which prefixes around an address have a row: one that is wider than the one that was sought, only where the row before lies in it.

tied : (o : Ordering) → o ≢ Greater → ordering_reverse o ≢ Greater → o ≡ Equal
tied o low high = grind arith

by_rest : (one rest : Ordering) → ordering_then one rest ≢ Greater → one ≡ Equal → rest ≢ Greater
by_rest one rest above same is = grind arith

at_most_length : (a b : ℕ) → nat_cmp a b ≢ Greater → b < a → ⊥
at_most_length a b low lt = grind (arith, nat_tests)

-- what is wider, around one address, has the longer one inside
pub wider_has : (addr : Addr) (n m : ℕ) → n < m → is_inside (prefix_around addr n) (prefix_around addr m) ≡ true
wider_has addr n m lt = (inside_is (prefix_around addr n) (prefix_around addr m)).1 ((omega (arith, lt), cleared-wider addr m n (omega (arith, lt))), lt)

module _ (rows : List RowValue) (numbers : List ℕ) (index : IsIndex row_prefix_cmp rows numbers) (outer longer : PrefixValue) (whole : IsWhole outer.addr) (inside : is_inside outer longer ≡ true) (place : ℕ) (bound : IsFirstOf longer rows numbers place) where
  longer_in : cleared longer.addr outer.mask_len ≡ outer.addr
  longer_in = ((inside_is outer longer).0 inside).0.1

  -- rows of the wider prefix stand before the place
  stands_before : (k : ℕ) (d : RowValue) → k < length numbers → (row_at_place rows numbers k d).mapping.eid ≡ outer → k < place
  stands_before k d within own = on_either (cases_lt k place)
      (λ sooner. sooner) (λ later. absurd (true≢false (sym is_less ∙ bound.after k d later within)))
    where
      is_less : is_lt (prefix_cmp (row_at_place rows numbers k d).mapping.eid longer) ≡ true
      is_less = ap (λ (b : PrefixValue). is_lt (prefix_cmp b longer)) own ∙ ap is_lt (inside_behind outer longer inside)

  -- what stands between the wider one and the longer one lies in the wider one
  module _ (x : PrefixValue) (block : IsPrefix x) (x_whole : IsWhole x.addr) (low : prefix_cmp outer x ≢ Greater) (high : prefix_cmp x longer ≢ Greater) where
    x_in : cleared x.addr outer.mask_len ≡ outer.addr
    x_in = cleared-between outer.addr x.addr longer.addr outer.mask_len whole x_whole longer_in (first_of (addr_cmp outer.addr x.addr) (nat_cmp outer.mask_len x.mask_len) low) (first_of (addr_cmp x.addr longer.addr) (nat_cmp x.mask_len longer.mask_len) high)

    not_wider : x.mask_len < outer.mask_len → ⊥
    not_wider lt = at_most_length outer.mask_len x.mask_len (by_rest (addr_cmp outer.addr x.addr) (nat_cmp outer.mask_len x.mask_len) low same) lt
      where
        its : cleared outer.addr x.mask_len ≡ x.addr
        its = ap (λ (a : Addr). cleared a x.mask_len) (sym x_in) ∙ cleared-wider x.addr outer.mask_len x.mask_len (omega (arith, lt)) ∙ block.1

        same : addr_cmp outer.addr x.addr ≡ Equal
        same = tied (addr_cmp outer.addr x.addr) (at_most_cleared x.addr outer.addr outer.mask_len x_in) (subst (λ (o : Ordering). o ≢ Greater) (addr_total.antisymm x.addr outer.addr) (at_most_cleared outer.addr x.addr x.mask_len its))

    lies_in : covers outer x ≡ true
    lies_in = (covers_is outer x).1 (omega (arith, not_wider), x_in)

  -- each row has a place
  its_place : (h : RowValue) → Contains rows h → (k : ℕ) × (k < length numbers) × (row_at_place rows numbers k h ≡ h)
  its_place h (n, lt, is) =
      let (k, lt_k, at) = index.each n lt in
      (k, lt_k, ap (λ (m : ℕ). slice_index_or rows m h) (number_at numbers k n lt_k at) ∙ is)

  -- before the first place there is none
  pub none_first : place ≡ 0 → HasNoRow rows outer
  none_first first h held own =
      let (k, lt, at) = its_place h held in
      absurd (omega (arith, first, stands_before k h lt (ap (λ (r : RowValue). r.mapping.eid) at ∙ own)))

  -- the row before the place doesn't lie in the wider prefix
  module _ (before : ℕ) (last : place ≡ before + 1) (within : place ≤ length numbers) (x : RowValue) (known : (d : RowValue) → x ≡ row_at_place rows numbers before d) (block : IsPrefix x.mapping.eid) (x_whole : IsWhole x.mapping.eid.addr) (not_in : covers outer x.mapping.eid ≡ false) where
    pub none_before : HasNoRow rows outer
    none_before h held own =
        let (k, lt, at) = its_place h held in
        let its_own = ap (λ (r : RowValue). r.mapping.eid) at ∙ own in
        true≢false (sym (lies_in x.mapping.eid block x_whole (either k its_own (stands_before k h lt its_own) (cases_eq k before)) high) ∙ not_in)
      where
        high : prefix_cmp x.mapping.eid longer ≢ Greater
        high = less_is (prefix_cmp x.mapping.eid longer) (less (prefix_cmp x.mapping.eid longer) (ap (λ (r : RowValue). is_lt (prefix_cmp r.mapping.eid longer)) (known x) ∙ bound.before before x (omega (arith, last))))

        either : (k : ℕ) → (row_at_place rows numbers k h).mapping.eid ≡ outer → k < place → (k ≡ before) ⊎ (k ≢ before) → prefix_cmp outer x.mapping.eid ≢ Greater
        either k its_own sooner (inl same) = subst (λ (b : PrefixValue). prefix_cmp b x.mapping.eid ≢ Greater) (ap (λ (r : RowValue). r.mapping.eid) (known h) ∙ ap (λ (j : ℕ). (row_at_place rows numbers j h).mapping.eid) (sym same) ∙ its_own) (less_equal (prefix_cmp x.mapping.eid x.mapping.eid) (itself prefix_cmp block_total x.mapping.eid))
        either k its_own sooner (inr off) =
            let rise = index.rises.rising k before h (omega (arith, sooner, last, off)) (omega (arith, last, within)) in
            let at_k = row_at_place rows numbers k h in
            let at_x = row_at_place rows numbers before h in
            subst (λ (b : PrefixValue). prefix_cmp b x.mapping.eid ≢ Greater) its_own (subst (λ (r : RowValue). prefix_cmp at_k.mapping.eid r.mapping.eid ≢ Greater) (sym (known h)) (row_rise at_k.mapping.eid at_x.mapping.eid (router_cmp at_k.router at_x.router) rise))

-- where a prefix has no row, and no longer one has a row that may answer, the masks of those that may are shorter
pub missed_none : (rows : List RowValue) (asked : PrefixValue) (now mask_len : ℕ) → NoneLonger rows asked now mask_len → (addr : Addr) → addr ≡ asked.addr → HasNoRow rows (prefix_around addr mask_len) → (h : RowValue) → Contains rows h → may_answer_for asked now h ≡ true → h.mapping.eid.mask_len < mask_len
missed_none rows asked now mask_len longest addr own none h held may =
    let off : h.mapping.eid.mask_len ≢ mask_len = λ same. none h held (sym (its_block h asked.addr now (for_address h asked now may)) ∙ (λ i. block_of (sym own i) (same i))) in
    omega (arith, off, longest h held may)

-- a prefix is the one of its length around its address
pub itself_around : (eid : PrefixValue) → IsPrefix eid → (addr : Addr) (long : ℕ) → addr ≡ eid.addr → long ≡ eid.mask_len → eid ≡ prefix_around addr long
itself_around eid block addr long own is = (λ i. record { addr = sym block.1 i; mask_len = eid.mask_len }) ∙ (λ i. prefix_around (sym own i) (sym is i))
