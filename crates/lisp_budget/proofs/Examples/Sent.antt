-- What was sent, and the budgets that account for it.
use Rattle.std.proofs.Common.{◌≤◌, [], ◌∷◌, ◌≡◌, inl, inr, refl, sym, arith, true≢false}
use Rattle.std.proofs.lemmas.List.Elements.{All-nil, All-cons}
use Rattle.lisp_budget.specs.Sent.{KeepsBudget}
use Rattle.lisp_budget.specs.Budget.{Accounts, slot_of}
use Rattle.lisp_budget.proofs.AccountLaws.{accounts_taken}
use Rattle.lisp_budget.proofs.Examples.Slots.{one, other, sent, row, fresh, used}

-- ---- any second counts, wherever it begins

-- 60 bytes at 900 ms and 60 at 1,100 are too many for one destination, though they are of two slots
crowded : KeepsBudget (sent 900 one 60 ∷ sent 1100 one 60 ∷ []) 100 150 → ⊥
crowded keeps = absurd (omega (arith, keeps.of_each one 500))

crowded_to_all : KeepsBudget (sent 900 one 80 ∷ sent 1899 other 80 ∷ []) 100 150 → ⊥
crowded_to_all keeps = absurd (omega (arith, keeps.of_all 900))

-- ---- a run

nothing_sent : Accounts fresh []
nothing_sent = record {
  counts = record {
    differ = tt;
    past = All-nil (λ s. slot_of s.at ≤ 0);
    before_each = λ _. refl;
    present_each = λ _. refl;
    known = λ _ is. absurd (true≢false (sym is));
    before_all = refl;
    present_all = refl;
  };
  last = inl refl;
  keeps = record { of_each = λ _ _. omega arith; of_all = λ _. omega arith };
}

one_sent : Accounts used (sent 900 one 60 ∷ [])
one_sent = accounts_taken fresh [] (sent 900 one 60) nothing_sent (All-nil (λ x. x.at ≤ 900)) refl

two_sent : KeepsBudget (sent 900 one 60 ∷ sent 1100 one 40 ∷ []) 100 150
two_sent = (accounts_taken used (sent 900 one 60 ∷ []) (sent 1100 one 40) one_sent (All-cons (λ x. x.at ≤ 1100) (sent 900 one 60) [] (omega arith) (All-nil (λ x. x.at ≤ 1100))) refl).keeps

-- ---- what is no account

forgotten : Accounts (record used { rows = [] }) (sent 900 one 60 ∷ []) → ⊥
forgotten accounts = absurd (omega (arith, accounts.counts.present_each one))

sum_forgotten : Accounts (record used { present = 0 }) (sent 900 one 60 ∷ []) → ⊥
sum_forgotten accounts = absurd (omega (arith, accounts.counts.present_all))

of_the_slot_before : Accounts (record used { rows = row one 60 0 ∷ [] }) (sent 900 one 60 ∷ []) → ⊥
of_the_slot_before accounts = absurd (omega (arith, accounts.counts.present_each one))

nothing_was_sent_there : Accounts (record used { rows = row one 0 60 ∷ row other 0 0 ∷ [] }) (sent 900 one 60 ∷ []) → ⊥
nothing_was_sent_there accounts = true≢false (sym (accounts.counts.known other refl))

of_a_later_slot : Accounts (record used { slot = 2; rows = []; present = 0 }) (sent 900 one 60 ∷ []) → ⊥
of_a_later_slot accounts = elim accounts.last [ inl e ↦ absurd (let two : 2 ≡ 0 = e in omega arith) | inr e ↦ true≢false (sym e) ]
