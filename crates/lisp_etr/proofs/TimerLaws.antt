-- The gaps of a round, and what follows from them.
use Rattle.std.proofs.Common.{◌≡◌, ◌==◌, ◌⊎◌, inl, inr, true, false, ℕ, suc, ◌+◌, ◌*◌, ◌^◌, ◌<◌, ◌≤◌, min, [], ◌∷◌, length, arith, refl, sym, ◌∙◌, ap}
use Rattle.std.proofs.Math.Nat.{min-eq_left, min-eq_right, le-min, pow-suc}
use Rattle.std.proofs.Math.Pow.{pow_mono, suc_ones}
use Rattle.std.proofs.lemmas.Bool.{cases_lt, ne_eqb}
use Rattle.lisp_etr.specs.declared.round.Round.{Round}
use Rattle.lisp_records.specs.Moment.{second, minute}
use Rattle.lisp_etr.specs.Timers.{gap, due_after, IsPrompt, IsAfter, PromptSends}
use Rattle.lisp_etr.specs.Round.{round_after_count, KeepsRoundTime, KeepsTime}

-- from the seventh send on a minute
pub gap_late : (k : ℕ) → 6 ≤ k → gap k ≡ minute
gap_late k late = min-eq_right (let p : 64 ≤ 2 ^ k = pow_mono late in omega (arith, p))

-- before it a power of two, in seconds
pub gap_early : (k : ℕ) → k < 6 → gap k ≡ 2 ^ k * second
gap_early k early = min-eq_left (let within : k ≤ 5 = omega (arith, early) in let p : 2 ^ k ≤ 32 = pow_mono within in omega (arith, p))

-- six stands for more too
pub gap_min : (k : ℕ) → gap (min k 6) ≡ gap k
gap_min k = here (cases_lt k 6)
  where
    here : (k < 6) ⊎ (6 ≤ k) → gap (min k 6) ≡ gap k
    here (inl early) = ap gap (min-eq_left (omega (arith, early)))
    here (inr late) = ap gap (min-eq_right late) ∙ sym (gap_late k late)

-- the send after one that follows k others
after_next : (k elapsed : ℕ) → IsAfter k elapsed → (next : ℕ) × (elapsed * second + gap k ≡ next * second) × IsAfter (suc k) next
after_next k elapsed is = here (cases_lt k 6)
  where
    here : (k < 6) ⊎ (6 ≤ k) → (next : ℕ) × (elapsed * second + gap k ≡ next * second) × IsAfter (suc k) next
    here (inl early) =
        let g = gap_early k early in
        let e = is.early (omega (arith, early)) in
        let ones = suc_ones k in
        let double = pow-suc 2 k in (
          elapsed + 2 ^ k,
          omega (arith, g),
          record {
            early = λ within. omega (arith, e, ones, double);
            late = λ within. (let five : k ≡ 5 = omega (arith, early, within) in let p : 2 ^ k ≡ 32 = ap (λ n. 2 ^ n) five in omega (arith, e, five, p));
          },
        )
    here (inr late) =
        let g = gap_late k late in
        let e = is.late late in (
          elapsed + 60,
          omega (arith, g),
          record {
            early = λ within. absurd (omega (arith, late, within));
            late = λ within. omega (arith, e, late);
          },
        )

pub prompt_sends : PromptSends
unfolding due_after IsPrompt
prompt_sends begin last [] prompt = (0, prompt.0 ∙ omega arith, record { early = λ _. refl; late = λ none. absurd (omega (arith, none)) })
prompt_sends begin last (l ∷ before) prompt =
    let earlier = prompt_sends begin l before prompt.1 in
    let next = after_next (length before) earlier.0 earlier.2 in
    (next.0, omega (arith, prompt.0, earlier.1, next.1), next.2)

sends_min : (n : ℕ) → min (min n 6 + 1) 6 ≡ min (suc n) 6
sends_min n = here (cases_lt n 6)
  where
    here : (n < 6) ⊎ (6 ≤ n) → min (min n 6 + 1) 6 ≡ min (suc n) 6
    here (inl early) = ap (λ m. min (m + 1) 6) (min-eq_left (omega (arith, early))) ∙ ap (λ m. min m 6) (omega arith)
    here (inr late) = ap (λ m. min (m + 1) 6) (min-eq_right late) ∙ sym (min-eq_right (omega (arith, late)))

sends_some : (n k : ℕ) → k ≡ min (suc n) 6 → (k == 0) ≡ false
sends_some n k is = ne_eqb k 0 (λ none. let some : 1 ≤ min (suc n) 6 = le-min (omega arith) (omega arith) in absurd (omega (arith, is, none, some)))

renewed : (r : Round) (begin : ℕ) → (r.sends == 0) ≡ false → r.renewal ≡ begin → KeepsRoundTime (round_after_count r) begin []
unfolding due_after
renewed r begin some is = rw some (record { due = is; sends = refl; renewal = tt })

idle : (r : Round) (begin : ℕ) → (r.sends == 0) ≡ true → KeepsRoundTime r begin [] → KeepsRoundTime (round_after_count r) begin []
unfolding due_after
idle r begin none keeps = rw none (record { due = keeps.due; sends = keeps.sends; renewal = tt })

pub rounds_keep_time : KeepsTime
unfolding due_after
rounds_keep_time = record {
  start = λ now. record { due = refl; sends = refl; renewal = tt };
  begin = λ now r. record { due = refl; sends = refl; renewal = tt };
  rotate = λ now r. record { due = refl; sends = refl; renewal = tt };
  send = λ r begin moments nonce now keeps. record {
    due = ap (λ k. now + gap k) keeps.sends ∙ ap (λ g. now + g) (gap_min (length moments));
    sends = ap (λ k. min (k + 1) 6) keeps.sends ∙ sends_min (length moments);
    renewal = refl;
  };
  renew = λ r begin last before keeps. renewed r (last + minute) (sends_some (length before) r.sends keeps.sends) keeps.renewal;
  idle = λ r begin keeps. idle r begin (ap (λ k. k == 0) keeps.sends) keeps;
}
