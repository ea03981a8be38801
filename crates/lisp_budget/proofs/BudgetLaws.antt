-- What a budget lets go, by the rows as they are.
use Rattle.std.proofs.Common.{◌≡◌, ◌⊎◌, inl, inr, ℕ, ◌+◌, ◌<◌, ◌≤◌, ◌==◌, Bool, true, false, cond, ◌&&◌, ◌||◌, List, length, Option, None, Some, is_some, count_by, nat_le, nat_lt, refl, sym, ap, ◌∙◌, arith, true≢false}
use Rattle.std.specs.List.{filter}
use Rattle.std.proofs.lemmas.Bool.{and_parts, cond_both, leb-true, ltb-true, lt-ltb}
use Rattle.std.proofs.lemmas.List.{length-map}
use Rattle.std.proofs.lemmas.List.Sums.{length-filter}
use Rattle.lisp_records.specs.Address.{PrefixValue}
use Rattle.lisp_budget.specs.declared.rows.Row.{Row}
use Rattle.lisp_budget.specs.Budget.{BudgetState, most_known, slot_of, is_of, row_of, spent_on, passed, passed_rows, next, later, at_slot, may_send, counted_in, counted, takes, Differ, FewAreKnown}
use Rattle.lisp_budget.proofs.RowLaws.{once, passed_fewer, length_counted, before_passed, present_passed, was_known, stays_or_makes_room}

-- what it means that a message may be sent
pub record MaySend (b : BudgetState) (to : PrefixValue) (bytes : ℕ) : Type 0 where
  pub each : (spent_on b.rows to).before + (spent_on b.rows to).present + bytes ≤ b.each
  pub all : b.before + b.present + bytes ≤ b.all
  pub room : (is_some (row_of b.rows to) || nat_lt (length b.rows) most_known) ≡ true

pub may_parts : (b : BudgetState) (to : PrefixValue) (bytes : ℕ) → may_send b to bytes ≡ true → MaySend b to bytes
may_parts b to bytes may =
    let outer = and_parts (nat_le ((spent_on b.rows to).before + (spent_on b.rows to).present + bytes) b.each && nat_le (b.before + b.present + bytes) b.all) (is_some (row_of b.rows to) || nat_lt (length b.rows) most_known) may in
    let inner = and_parts (nat_le ((spent_on b.rows to).before + (spent_on b.rows to).present + bytes) b.each) (nat_le (b.before + b.present + bytes) b.all) outer.0 in
    record { each = leb-true _ _ inner.0; all = leb-true _ _ inner.1; room = outer.1 }

-- there is room for its row
pub room_left : (o : Option Row) (n : ℕ) → (is_some o || nat_lt n most_known) ≡ true → o ≡ None → n < most_known
room_left None n room none = ltb-true n most_known room
room_left (Some r) n room none = absurd (let clash : Some r ≡ None = none in cc)

within_room : (b : Bool) (n : ℕ) → n ≤ most_known → (b || nat_lt n most_known) ≡ true → n + cond b 0 1 ≤ most_known
within_room true n few room = omega arith
within_room false n few room = (let lt = ltb-true n most_known room in omega arith)

pub few_counted : (rows : List Row) (to : PrefixValue) (bytes : ℕ) → length rows ≤ most_known → (is_some (row_of rows to) || nat_lt (length rows) most_known) ≡ true → length (counted_in rows to bytes) ≤ most_known
few_counted rows to bytes few room = (let long = length_counted to bytes rows in let most = within_room (is_some (row_of rows to)) (length rows) few room in omega arith)

-- whether it may in the next slot, by the rows of the present one
abbrev pub may_begin : BudgetState → PrefixValue → ℕ → Bool
may_begin b to bytes = nat_le ((spent_on b.rows to).present + 0 + bytes) b.each
    && nat_le (b.present + 0 + bytes) b.all
    && (is_some (row_of b.rows to) || nat_lt (count_by (λ r. nat_lt 0 r.present) b.rows) most_known)

same_room : (was is : Bool) (n len : ℕ) → len ≤ most_known → (is ≡ true → was ≡ true) → (was ≡ true → (is ≡ true) ⊎ (n < len)) → (was || nat_lt n most_known) ≡ (is || nat_lt n most_known)
same_room true true n len few back forth = refl
same_room false false n len few back forth = refl
same_room false true n len few back forth = absurd (true≢false (sym (back refl)))
same_room true false n len few back forth = elim (forth refl) [ inl e ↦ absurd (true≢false (sym e)) | inr lt ↦ sym (lt-ltb n most_known (omega arith)) ]

alike : (x x' y y' bytes each : ℕ) (other r r' : Bool) → x ≡ x' → y ≡ y' → r ≡ r' → (nat_le (x + y + bytes) each && other && r) ≡ (nat_le (x' + y' + bytes) each && other && r')
alike x x' y y' bytes each other r r' same_x same_y same_r = cc

pub may_begin_next : (b : BudgetState) (to : PrefixValue) (bytes : ℕ) → Differ b.rows → length b.rows ≤ most_known → may_begin b to bytes ≡ may_send (next b) to bytes
may_begin_next b to bytes differ few =
    let zero_row : Row = record { to = to; before = 0; present = 0 } in
    let one = once b.rows differ to in
    let before = before_passed (is_of to) (λ _. refl) zero_row zero_row refl refl refl b.rows one in
    let present = present_passed (is_of to) (λ _. refl) zero_row zero_row refl refl refl b.rows in
    let rows : count_by (λ r. nat_lt 0 r.present) b.rows ≡ length (passed_rows b.rows) = sym (length-map (filter (λ r. nat_lt 0 r.present) b.rows) passed ∙ length-filter (λ r. nat_lt 0 r.present) b.rows) in
    let room = same_room (is_some (row_of b.rows to)) (is_some (row_of (passed_rows b.rows) to)) (length (passed_rows b.rows)) (length b.rows) few (was_known (is_of to) (λ _. refl) zero_row zero_row refl refl refl b.rows one) (stays_or_makes_room (is_of to) (λ _. refl) zero_row zero_row refl refl refl b.rows) in
    alike _ _ 0 _ bytes b.each (nat_le (b.present + 0 + bytes) b.all) _ _ (sym before) (sym present) (ap (λ n. is_some (row_of b.rows to) || nat_lt n most_known) rows ∙ room)

-- ---- how many are known

few_in : (b : BudgetState) (slot : ℕ) → length b.rows ≤ most_known → length (at_slot b slot).rows ≤ most_known
few_in b slot few =
    cond_both (nat_le slot b.slot) b (cond (slot == b.slot + 1) (next b) (later b slot)) (λ new. length new.rows ≤ most_known)
    (λ _. few)
    (λ _. cond_both (slot == b.slot + 1) (next b) (later b slot) (λ new. length new.rows ≤ most_known)
    (λ _. let fewer = passed_fewer b.rows in omega arith)
    (λ _. omega arith))

pub few_are_known : FewAreKnown
few_are_known old s few =
    cond_both (takes old s) (counted (at_slot old (slot_of s.at)) s.to s.bytes) old (λ new. length new.rows ≤ most_known)
    (λ may. few_counted (at_slot old (slot_of s.at)).rows s.to s.bytes (few_in old (slot_of s.at) few) (may_parts (at_slot old (slot_of s.at)) s.to s.bytes may).room)
    (λ _. few)
