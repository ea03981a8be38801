-- What a metric is called, and what helps to read it.
use Rattle.std.specs.Prelude.{ℕ, List}
use Rattle.std.specs.Borrow.{Bor}

-- its word in a line, its name, what helps to read it, its type, and what is behind its values
pub record Texts : Type 0 where
  pub word : List ℕ
  pub name : List ℕ
  pub help : List ℕ
  pub kind : List ℕ
  pub unit : List ℕ

-- those of a constant; and of a metric
abbrev pub texts : record { now : List ℕ } × record { now : List ℕ } × record { now : List ℕ } × record { now : List ℕ } × record { now : List ℕ } → Texts
texts m = record { word = m.0.now; name = m.1.now; help = m.2.now; kind = m.3.now; unit = m.4.now }

abbrev pub texts_of : Bor (List ℕ) × Bor (List ℕ) × Bor (List ℕ) × Bor (List ℕ) × Bor (List ℕ) → Texts
texts_of m = record { word = m.0.now; name = m.1.now; help = m.2.now; kind = m.3.now; unit = m.4.now }
