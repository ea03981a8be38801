-- What stands in a buffer that a message was written into.
use Rattle.std.proofs.Common.{◌≡◌, ℕ, Bool, true, false, cond, ltb, List, ◌++◌, length, drop, Ok, sym, ap, ◌∙◌}
use Rattle.lisp_registration.specs.Told.{left_by, put_in}

put_case : (t b : Bool) (buffer front new : List ℕ) (n : ℕ) → ◌≡◌ {A = Bool × List ℕ} (b, new) (cond t (false, buffer) (true, front)) → b ≡ true → ◌≡◌ {A = ℕ × List ℕ × ℕ} (0, new, n) (cond t (102, buffer, n) (0, front, n))
put_case true b buffer front new n is test = let clash : true ≡ false = sym test ∙ ap (λ (x : Bool × List ℕ). x.0) is in absurd cc
put_case false b buffer front new n is test = ap (λ (x : Bool × List ℕ). (0, x.1, n)) is

full_case : (t b : Bool) (buffer front new : List ℕ) (n : ℕ) → ◌≡◌ {A = Bool × List ℕ} (b, new) (cond t (false, buffer) (true, front)) → b ≡ false → ◌≡◌ {A = ℕ × List ℕ × ℕ} (102, new, n) (cond t (102, buffer, n) (0, front, n))
full_case true b buffer front new n is test = ap (λ (x : Bool × List ℕ). (102, x.1, n)) is
full_case false b buffer front new n is test = let clash : false ≡ true = sym test ∙ ap (λ (x : Bool × List ℕ). x.0) is in absurd cc

module _ (bytes buffer new : List ℕ) (b : Bool) (n old : ℕ) (put : ◌≡◌ {A = Bool × List ℕ} (b, new) (put_in bytes buffer)) (size : n ≡ length bytes) where
  -- there was room
  pub is_written : b ≡ true → ◌≡◌ {A = ℕ × List ℕ × ℕ} (0, new, n) (left_by (Ok bytes) buffer old)
  is_written test = rw size (put_case (ltb (length buffer) (length bytes)) b buffer (bytes ++ drop (length bytes) buffer) new (length bytes) put test)

  -- there was none
  pub is_full : b ≡ false → ◌≡◌ {A = ℕ × List ℕ × ℕ} (102, new, n) (left_by (Ok bytes) buffer old)
  is_full test = rw size (full_case (ltb (length buffer) (length bytes)) b buffer (bytes ++ drop (length bytes) buffer) new (length bytes) put test)
