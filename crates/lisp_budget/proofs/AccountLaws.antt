-- What a budget knows goes on being what was sent, and what was sent keeps to the budget.
use Rattle.std.proofs.Common.{◌≡◌, ◌≢◌, ◌⊎◌, inl, inr, ℕ, ◌+◌, ◌<◌, ◌≤◌, ◌==◌, Bool, true, false, cond, ◌&&◌, ◌||◌, List, [], ◌∷◌, ◌++◌, get_or, is_some, nat_le, nat_lt, refl, sym, ap, ◌∙◌, subst, arith, true≢false}
use Rattle.std.specs.List.{All, list_any}
use Rattle.std.proofs.lemmas.Bool.{and_parts, and_from, and_right, or_left, or_right, leb-true, leb-false, ltb-true, eqb-true, eqb-false, eq-eqb, ne_eqb, cond_both, cases_eq}
use Rattle.std.proofs.lemmas.Bool.Decides.{Decides-eqb, Decides-like, same_from_decides}
use Rattle.std.proofs.lemmas.List.Elements.{All-weaker, All-push}
use Rattle.std.proofs.lemmas.List.Folds.{Any-from_list_any, list_any-append}
use Rattle.lisp_records.specs.Address.{PrefixValue}
use Rattle.lisp_records.proofs.DatabaseLaws.{block_eq-Decides}
use Rattle.lisp_budget.specs.declared.rows.Row.{Row}
use Rattle.lisp_budget.specs.Sent.{SentValue, is_within, is_to, KeepsBudget}
use Rattle.lisp_budget.specs.Budget.{BudgetState, slot_of, is_of, row_of, spent_on, next, later, at_slot, may_send, counted, counted_in, is_in, is_before, is_recent, bytes_where, IsCountOf, Accounts}
use Rattle.lisp_budget.proofs.SumLaws.{where_push, where_agree, where_none, where_le, where_some}
use Rattle.lisp_budget.proofs.RowLaws.{once, before_passed, present_passed, known_passed, differ_passed, before_counted, present_counted, known_counted, differ_counted}
use Rattle.lisp_budget.proofs.BudgetLaws.{MaySend, may_parts}

everywhere : (P : SentValue → Type 0) → ((s : SentValue) → P s) → (xs : List SentValue) → All P xs
everywhere P f xs = λ k d lt. f (get_or xs k d)

same_number : (a b : ℕ) → (a == b) ≡ (a + 1 == b + 1)
same_number a b = same_from_decides (a == b) (a + 1 == b + 1) (Decides-eqb a b) (Decides-like (a + 1 == b + 1) (λ e. omega arith) (λ e. omega arith) (Decides-eqb (a + 1) (b + 1)))

-- ---- a slot passes

module _ (b : BudgetState) (sent : List SentValue) (counts : IsCountOf b sent) where
  -- nothing was sent in a later slot
  pub none_in : (slot : ℕ) → b.slot < slot → All (λ s. is_in slot s ≡ false) sent
  none_in slot after = All-weaker (λ s. slot_of s.at ≤ b.slot) (λ s. is_in slot s ≡ false) (λ s le. ne_eqb (slot_of s.at) slot (λ e. omega arith)) sent counts.past

  none_before : (slot : ℕ) → b.slot + 1 < slot → All (λ s. is_before slot s ≡ false) sent
  none_before slot after = All-weaker (λ s. slot_of s.at ≤ b.slot) (λ s. is_before slot s ≡ false) (λ s le. ne_eqb (slot_of s.at + 1) slot (λ e. omega arith)) sent counts.past

  none_to : (to : PrefixValue) (p : SentValue → Bool) → All (λ s. p s ≡ false) sent → bytes_where (λ s. is_to to s && p s) sent ≡ 0
  none_to to p none = where_none (λ s. is_to to s && p s) sent (All-weaker (λ s. p s ≡ false) (λ s. (is_to to s && p s) ≡ false) (λ s no. and_right (is_to to s) (p s) no) sent none)

  zero_row : PrefixValue → Row
  zero_row to = record { to = to; before = 0; present = 0 }

  seen_before : (to : PrefixValue) (s : SentValue) → (is_to to s && is_in b.slot s) ≡ true → (is_to to s && is_recent (b.slot + 1) s) ≡ true
  seen_before to s is =
      let parts = and_parts (is_to to s) (is_in b.slot s) is in
      and_from (is_to to s) (is_recent (b.slot + 1) s) parts.0 (or_left (is_before (b.slot + 1) s) (is_in (b.slot + 1) s) (sym (same_number (slot_of s.at) b.slot) ∙ parts.1))

  pub counts_next : IsCountOf (next b) sent
  counts_next = record {
    differ = differ_passed b.rows counts.differ;
    past = All-weaker (λ s. slot_of s.at ≤ b.slot) (λ s. slot_of s.at ≤ b.slot + 1) (λ s le. omega arith) sent counts.past;
    before_each = λ to. before_passed (is_of to) (λ _. refl) (record { to = to; before = 0; present = 0 }) (record { to = to; before = 0; present = 0 }) refl refl refl b.rows (once b.rows counts.differ to)
        ∙ (counts.present_each to ∙ where_agree (λ s. is_to to s && is_in b.slot s) (λ s. is_to to s && is_before (b.slot + 1) s) sent
        (everywhere (λ s. (is_to to s && is_in b.slot s) ≡ (is_to to s && is_before (b.slot + 1) s)) (λ s. ap (λ t. is_to to s && t) (same_number (slot_of s.at) b.slot)) sent));
    present_each = λ to. present_passed (is_of to) (λ _. refl) (record { to = to; before = 0; present = 0 }) (record { to = to; before = 0; present = 0 }) refl refl refl b.rows
        ∙ sym (none_to to (is_in (b.slot + 1)) (none_in (b.slot + 1) (omega arith)));
    known = λ to is.
        let some = known_passed (is_of to) (λ _. refl) (record { to = to; before = 0; present = 0 }) (record { to = to; before = 0; present = 0 }) refl refl refl b.rows (once b.rows counts.differ to) is in
        let bytes = counts.present_each to in
        where_some (λ s. is_to to s && is_in b.slot s) (λ s. is_to to s && is_recent (b.slot + 1) s) (seen_before to) sent (omega (arith, some, bytes));
    before_all = counts.present_all ∙ where_agree (is_in b.slot) (is_before (b.slot + 1)) sent (everywhere (λ s. is_in b.slot s ≡ is_before (b.slot + 1) s) (λ s. same_number (slot_of s.at) b.slot) sent);
    present_all = sym (where_none (is_in (b.slot + 1)) sent (none_in (b.slot + 1) (omega arith)));
  }

  pub counts_later : (slot : ℕ) → b.slot + 1 < slot → IsCountOf (later b slot) sent
  counts_later slot after = record {
    differ = tt;
    past = All-weaker (λ s. slot_of s.at ≤ b.slot) (λ s. slot_of s.at ≤ slot) (λ s le. omega arith) sent counts.past;
    before_each = λ to. sym (none_to to (is_before slot) (none_before slot after));
    present_each = λ to. sym (none_to to (is_in slot) (none_in slot (omega arith)));
    known = λ to is. absurd (true≢false (sym is));
    before_all = sym (where_none (is_before slot) sent (none_before slot after));
    present_all = sym (where_none (is_in slot) sent (none_in slot (omega arith)));
  }

-- what is known in a slot that isn't over
pub record KnownIn (b : BudgetState) (now : ℕ) (sent : List SentValue) (new : BudgetState) : Type 0 where
  pub counts : IsCountOf new sent
  pub slot : new.slot ≡ now
  pub each : new.each ≡ b.each
  pub all : new.all ≡ b.all

pub known_in : (b : BudgetState) (slot : ℕ) (sent : List SentValue) → IsCountOf b sent → b.slot ≤ slot → KnownIn b slot sent (at_slot b slot)
known_in b slot sent counts after =
    cond_both (nat_le slot b.slot) b (cond (slot == b.slot + 1) (next b) (later b slot)) (KnownIn b slot sent)
    (λ is. record { counts = counts; slot = (let le = leb-true slot b.slot is in omega arith); each = refl; all = refl })
    (λ above. cond_both (slot == b.slot + 1) (next b) (later b slot) (KnownIn b slot sent)
    (λ is. record { counts = counts_next b sent counts; slot = sym (eqb-true slot (b.slot + 1) is); each = refl; all = refl })
    (λ other. record {
      counts = counts_later b sent counts slot (let lt = leb-false slot b.slot above in let ne : slot ≢ b.slot + 1 = eqb-false slot (b.slot + 1) other in omega arith);
      slot = refl;
      each = refl;
      all = refl;
    }))

-- ---- a message is counted

unlike_push : (p : SentValue → Bool) (sent : List SentValue) (s : SentValue) → p s ≡ false → bytes_where p sent ≡ bytes_where p (sent ++ s ∷ [])
unlike_push p sent s fails = sym (where_push p sent s ∙ (ap (λ t. bytes_where p sent + cond t s.bytes 0) fails ∙ omega arith))

also_true : (x y : Bool) → y ≡ true → (x && y) ≡ x
also_true true y is = is
also_true false y is = refl

module _ (b : BudgetState) (sent : List SentValue) (s : SentValue) (counts : IsCountOf b sent) (now : slot_of s.at ≡ b.slot) where
  is_now : is_in b.slot s ≡ true
  is_now = eq-eqb (slot_of s.at) b.slot now

  not_before : is_before b.slot s ≡ false
  not_before = ne_eqb (slot_of s.at + 1) b.slot (λ e. omega arith)

  known_more : (to : PrefixValue) → is_some (row_of (counted_in b.rows s.to s.bytes) to) ≡ true → list_any (λ x. is_to to x && is_recent b.slot x) (sent ++ s ∷ []) ≡ true
  known_more to is =
      list_any-append (λ x. is_to to x && is_recent b.slot x) sent (s ∷ [])
      ∙ elim (known_counted s.to s.bytes to b.rows is) [
        | inl was ↦ or_left (list_any (λ x. is_to to x && is_recent b.slot x) sent) ((is_to to s && is_recent b.slot s) || false) (counts.known to was)
        | inr same ↦ or_right (list_any (λ x. is_to to x && is_recent b.slot x) sent) ((is_to to s && is_recent b.slot s) || false)
            (or_left (is_to to s && is_recent b.slot s) false (and_from (is_to to s) (is_recent b.slot s) same (or_right (is_before b.slot s) (is_in b.slot s) is_now)))
      ]

  pub counts_more : IsCountOf (counted b s.to s.bytes) (sent ++ s ∷ [])
  counts_more = record {
    differ = differ_counted s.to s.bytes b.rows counts.differ;
    past = All-push (λ x. slot_of x.at ≤ b.slot) sent s counts.past (omega arith);
    before_each = λ to. before_counted s.to s.bytes to b.rows ∙ (counts.before_each to ∙ unlike_push (λ x. is_to to x && is_before b.slot x) sent s (and_right (is_to to s) (is_before b.slot s) not_before));
    present_each = λ to. present_counted s.to s.bytes to b.rows
        ∙ (ap (λ n. n + cond (is_to to s) s.bytes 0) (counts.present_each to)
        ∙ (ap (λ t. bytes_where (λ x. is_to to x && is_in b.slot x) sent + cond t s.bytes 0) (sym (also_true (is_to to s) (is_in b.slot s) is_now))
        ∙ sym (where_push (λ x. is_to to x && is_in b.slot x) sent s)));
    known = known_more;
    before_all = counts.before_all ∙ unlike_push (is_before b.slot) sent s not_before;
    present_all = ap (λ n. n + s.bytes) counts.present_all
        ∙ (ap (λ t. bytes_where (is_in b.slot) sent + cond t s.bytes 0) (sym is_now) ∙ sym (where_push (is_in b.slot) sent s));
  }

  -- ---- what was sent keeps to the budget

  -- a message of the same second is of this slot, or of the one before
  in_two_slots : (from : ℕ) (x : SentValue) → is_within from s ≡ true → slot_of x.at ≤ b.slot → is_within from x ≡ true → (is_before b.slot x ≡ true) ⊎ (is_in b.slot x ≡ true)
  in_two_slots from x here past there =
      let its = and_parts (nat_le from s.at) (nat_lt s.at (from + 1000)) here in
      let other = and_parts (nat_le from x.at) (nat_lt x.at (from + 1000)) there in
      let ends : s.at < from + 1000 = ltb-true s.at (from + 1000) its.1 in
      let begins : from ≤ x.at = leb-true from x.at other.0 in
      elim (cases_eq (slot_of x.at) b.slot) [
        | inl e ↦ inr (eq-eqb (slot_of x.at) b.slot e)
        | inr ne ↦ inl (eq-eqb (slot_of x.at + 1) b.slot (omega arith))
      ]

  at_most : (yes : Bool) (old n most total : ℕ) → total ≡ old + cond yes n 0 → old ≤ most → (yes ≡ true → old + n ≤ most) → total ≤ most
  at_most true old n most total sum few more = (let le = more refl in omega arith)
  at_most false old n most total sum few more = omega arith

  module _ (may : MaySend b s.to s.bytes) (keeps : KeepsBudget sent b.each b.all) where
    each_recent : (to : PrefixValue) (from : ℕ) → is_within from s ≡ true →
        All (λ x. (is_to to x && is_within from x) ≡ true → ((is_to to x && is_before b.slot x) ≡ true) ⊎ ((is_to to x && is_in b.slot x) ≡ true)) sent
    each_recent to from here = All-weaker (λ x. slot_of x.at ≤ b.slot)
        (λ x. (is_to to x && is_within from x) ≡ true → ((is_to to x && is_before b.slot x) ≡ true) ⊎ ((is_to to x && is_in b.slot x) ≡ true))
        (λ x past is.
        let parts = and_parts (is_to to x) (is_within from x) is in
        elim (in_two_slots from x here past parts.1) [
          | inl e ↦ inl (and_from (is_to to x) (is_before b.slot x) parts.0 e)
          | inr e ↦ inr (and_from (is_to to x) (is_in b.slot x) parts.0 e)
        ])
        sent counts.past

    more_to : (to : PrefixValue) (from : ℕ) → (is_to to s && is_within from s) ≡ true → bytes_where (λ x. is_to to x && is_within from x) sent + s.bytes ≤ b.each
    more_to to from is =
        let parts = and_parts (is_to to s) (is_within from s) is in
        let same : s.to ≡ to = (block_eq-Decides s.to to).0 parts.0 in
        let within : (spent_on b.rows to).before + (spent_on b.rows to).present + s.bytes ≤ b.each =
        subst (λ (q : PrefixValue). (spent_on b.rows q).before + (spent_on b.rows q).present + s.bytes ≤ b.each) same may.each in
        let both = where_le (λ x. is_to to x && is_within from x) (λ x. is_to to x && is_before b.slot x) (λ x. is_to to x && is_in b.slot x) sent (each_recent to from parts.1) in
        let before = counts.before_each to in
        let present = counts.present_each to in
        omega (arith, within, both, before, present)

    more_in_all : (from : ℕ) → is_within from s ≡ true → bytes_where (is_within from) sent + s.bytes ≤ b.all
    more_in_all from is =
        let both = where_le (is_within from) (is_before b.slot) (is_in b.slot) sent
        (All-weaker (λ x. slot_of x.at ≤ b.slot) (λ x. is_within from x ≡ true → (is_before b.slot x ≡ true) ⊎ (is_in b.slot x ≡ true)) (λ x past there. in_two_slots from x is past there) sent counts.past) in
        let before = counts.before_all in
        let present = counts.present_all in
        let within = may.all in
        omega (arith, within, both, before, present)

    pub keeps_more : KeepsBudget (sent ++ s ∷ []) b.each b.all
    keeps_more = record {
      of_each = λ to from. at_most (is_to to s && is_within from s) (bytes_where (λ x. is_to to x && is_within from x) sent) s.bytes b.each _
          (where_push (λ x. is_to to x && is_within from x) sent s) (keeps.of_each to from) (more_to to from);
      of_all = λ from. at_most (is_within from s) (bytes_where (is_within from) sent) s.bytes b.all _
          (where_push (is_within from) sent s) (keeps.of_all from) (more_in_all from);
    }

-- ---- a message is taken

-- no slot is before that of the last message
pub not_over : (b : BudgetState) (sent : List SentValue) (now : ℕ) → Accounts b sent → All (λ x. x.at ≤ now) sent → b.slot ≤ slot_of now
not_over b sent now accounts early = elim accounts.last [
  | inl first ↦ omega arith
  | inr some ↦ (let any = Any-from_list_any (is_in b.slot) sent some in
      let e : slot_of (any.1).at ≡ b.slot = eqb-true (slot_of (any.1).at) b.slot any.4 in
      let was = early any.0 any.1 any.2 in
      let before : (any.1).at ≤ now = subst (λ (x : SentValue). x.at ≤ now) any.3 was in
      omega arith)
]

pub accounts_taken : (b : BudgetState) (sent : List SentValue) (s : SentValue) → Accounts b sent → All (λ x. x.at ≤ s.at) sent → may_send (at_slot b (slot_of s.at)) s.to s.bytes ≡ true → Accounts (counted (at_slot b (slot_of s.at)) s.to s.bytes) (sent ++ s ∷ [])
accounts_taken b sent s accounts early may =
    let known = known_in b (slot_of s.at) sent accounts.counts (not_over b sent s.at accounts early) in
    let keeps : KeepsBudget sent (at_slot b (slot_of s.at)).each (at_slot b (slot_of s.at)).all = rw known.each (rw known.all accounts.keeps) in
    record {
      counts = counts_more (at_slot b (slot_of s.at)) sent s known.counts (sym known.slot);
      last = inr (list_any-append (is_in (at_slot b (slot_of s.at)).slot) sent (s ∷ []) ∙ or_right (list_any (is_in (at_slot b (slot_of s.at)).slot) sent) (is_in (at_slot b (slot_of s.at)).slot s || false) (or_left (is_in (at_slot b (slot_of s.at)).slot s) false (eq-eqb (slot_of s.at) (at_slot b (slot_of s.at)).slot (sym known.slot))));
      keeps = keeps_more (at_slot b (slot_of s.at)) sent s known.counts (sym known.slot) (may_parts (at_slot b (slot_of s.at)) s.to s.bytes may) keeps;
    }
