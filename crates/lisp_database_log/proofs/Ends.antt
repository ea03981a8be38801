-- The end of a transaction that frames go on from.
use Rattle.std.proofs.Common.{◌≡◌, ◌↔◌, ◌⊎◌, inl, inr, ℕ, ◌+◌, ◌<◌, ◌≤◌, leb, true, false, List, arith, sym, subst}
use Rattle.std.proofs.lemmas.Bool.Decides.{leb_tells}
use Rattle.lisp_database_log.specs.Log.{AreTwoEnds, Commits, GoesOn, LosesTwo}

either : {A B C : Type 0} → A ⊎ B → (A → C) → (B → C) → C
either (inl a) f g = f a
either (inr b) f g = g b

-- one stands before a number, at the front or behind it, and all frames between go on
pub record HasEnd (log : List ℕ) (front number : ℕ) : Type 0 where
  pub end : ℕ
  pub behind : front ≤ end
  pub before : end < number
  pub commits : Commits log end
  pub goes_on : (i : ℕ) → end < i → i < number → GoesOn log i

-- no two stand there yet
abbrev pub NoTwo : List ℕ → ℕ → ℕ → Type 0
NoTwo log front number = (first second : ℕ) → front ≤ first → second < number → AreTwoEnds log first second → ⊥

-- a number below the next one is below this one, or it is this one
last_or : (i n : ℕ) → i < n + 1 → (i < n) ⊎ (i ≡ n)
last_or i n low = either (leb_tells n i)
    (λ over. let le : n ≤ i = over.1 in inr (omega (arith, low, le)))
    (λ under. let lt : i < n = under.1 in inl lt)

pub two_found : (log : List ℕ) (front number : ℕ) → HasEnd log front number → GoesOn log number → Commits log number → LosesTwo log front
two_found log front number has goes commits = (
  has.end,
  number,
  has.behind,
  record {
    later = has.before;
    ends = has.commits;
    ends_again = commits;
    goes_on = λ i low high. either (last_or i number (omega (arith, high)))
        (λ under. has.goes_on i low under)
        (λ same. subst (GoesOn log) (sym same) goes);
  },
)

-- an end goes on behind a frame
pub end_next : (log : List ℕ) (front number : ℕ) → front ≤ number → Commits log number ⊎ (HasEnd log front number × GoesOn log number) → HasEnd log front (number + 1)
end_next log front number low either_way = either either_way
    (λ commits. record {
      end = number;
      behind = low;
      before = omega arith;
      commits = commits;
      goes_on = λ i above below. absurd (omega (arith, above, below));
    })
    (λ both. record {
      end = both.0.end;
      behind = both.0.behind;
      before = let before : both.0.end < number = both.0.before in omega (arith, before);
      commits = both.0.commits;
      goes_on = λ i above below. either (last_or i number below)
          (λ under. both.0.goes_on i above under)
          (λ same. subst (GoesOn log) (sym same) both.1);
    })

-- and only so
pub end_back : (log : List ℕ) (front number : ℕ) → HasEnd log front (number + 1) → Commits log number ⊎ (HasEnd log front number × GoesOn log number)
end_back log front number has = either (last_or has.end number has.before)
    (λ under. inr (
      record {
        end = has.end;
        behind = has.behind;
        before = under;
        commits = has.commits;
        goes_on = λ i above below. has.goes_on i above (omega (arith, below));
      },
      has.goes_on number under (omega arith),
    ))
    (λ same. inl (subst (Commits log) same has.commits))

pub no_two_next : (log : List ℕ) (front number : ℕ) → NoTwo log front number → (HasEnd log front number → GoesOn log number → Commits log number → ⊥) → NoTwo log front (number + 1)
no_two_next log front number none this first second low below ends = either (last_or second number below)
    (λ under. none first second low under ends)
    (λ same. this
    (record {
      end = first;
      behind = low;
      before = let later : first < second = ends.later in omega (arith, later, same);
      commits = ends.ends;
      goes_on = λ i above under. ends.goes_on i above (omega (arith, under, same));
    })
    (subst (GoesOn log) same (ends.goes_on second ends.later (omega arith)))
    (subst (Commits log) same ends.ends_again))

-- what a loop knows of an end goes on with a frame
pub end_known : (log : List ℕ) (front number : ℕ) (before after : Type 0) → front ≤ number → (before ↔ HasEnd log front number)
    → (after ↔ (Commits log number ⊎ (before × GoesOn log number))) → after ↔ HasEnd log front (number + 1)
end_known log front number before after low is leads = (
  (λ known. end_next log front number low (either (leads.0 known) (λ commits. inl commits) (λ both. inr (is.0 both.0, both.1)))),
  (λ has. leads.1 (either (end_back log front number has) (λ commits. inl commits) (λ both. inr (is.1 both.0, both.1)))),
)
