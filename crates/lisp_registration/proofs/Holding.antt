-- What a call for a row or for an answer leaves, by its steps.
use Rattle.std.proofs.Common.{◌≡◌, ℕ, Bool, true, false, cond, nat_lt, List, length, Some, refl, sym, ap, ◌∙◌}
use Rattle.std.proofs.lemmas.List.{length-map}
use Rattle.lisp_records.specs.declared.locator.Locator.{Locator}
use Rattle.lisp_records.specs.Row.{RowValue}
use Rattle.lisp_registration.specs.declared.record.PlainLocator.{PlainLocator}
use Rattle.lisp_registration.specs.declared.held.PlainRow.{PlainRow}
use Rattle.lisp_registration.specs.Plain.{plain_locator, plain_locators}
use Rattle.lisp_registration.specs.Rows.{RowLeft, next_place, plain_row, told_row, with_front}
use Rattle.lisp_registration.specs.Told.{put_in}

module _ {X : Type 0} (buffer front new : List X) where
  -- there was no room
  full : (t b : Bool) → ◌≡◌ {A = Bool × List X} (b, new) (cond t (false, buffer) (true, front)) → b ≡ false → (t ≡ true) × (new ≡ buffer)
  full true b is test = (refl, ap (λ (x : Bool × List X). x.1) is)
  full false b is test = let clash : false ≡ true = sym test ∙ ap (λ (x : Bool × List X). x.0) is in absurd cc

  -- there was
  fits : (t b : Bool) → ◌≡◌ {A = Bool × List X} (b, new) (cond t (false, buffer) (true, front)) → b ≡ true → t ≡ false
  fits true b is test = let clash : true ≡ false = sym test ∙ ap (λ (x : Bool × List X). x.0) is in absurd cc
  fits false b is test = refl

module _ (ls : List Locator) (locators new : List PlainLocator) (b : Bool) (put : ◌≡◌ {A = Bool × List PlainLocator} (b, new) (put_in (plain_locators ls) locators)) where
  -- as many are told as there are
  count : nat_lt (length locators) (length ls) ≡ nat_lt (length locators) (length (plain_locators ls))
  count = ap (λ (n : ℕ). nat_lt (length locators) n) (sym (length-map ls (λ l. plain_locator l 0)))

  -- there was no room for the locators
  pub no_room : b ≡ false → (nat_lt (length locators) (length ls) ≡ true) × (new ≡ locators)
  no_room test = let found = full locators _ new (nat_lt (length locators) (length (plain_locators ls))) b put test in (count ∙ found.0, found.1)

  -- there was
  pub room : b ≡ true → (nat_lt (length locators) (length ls) ≡ false) × (new ≡ with_front ls locators)
  room test = (count ∙ fits locators _ new (nat_lt (length locators) (length (plain_locators ls))) b put test, ap (λ (x : Bool × List PlainLocator). x.1) put)

module _ (h : RowValue) (found place number : ℕ) (old row : PlainRow) (ls : List Locator) (locators new : List PlainLocator) (b : Bool)
    (are : ls ≡ h.mapping.locators) (put : ◌≡◌ {A = Bool × List PlainLocator} (b, new) (put_in (plain_locators ls) locators)) where
  put_h : ◌≡◌ {A = Bool × List PlainLocator} (b, new) (put_in (plain_locators h.mapping.locators) locators)
  put_h = put ∙ ap (λ (xs : List Locator). put_in (plain_locators xs) locators) are

  -- the row's locators had no room
  pub row_full : number ≡ 102 → b ≡ false → ◌≡◌ {A = RowLeft} (number, (place, (old, new))) (told_row (Some (found, h)) place old locators)
  row_full is test = let none = no_room h.mapping.locators locators new b put_h test in rw (is, none.0, none.1) refl

  -- they had
  pub row_told : row ≡ plain_row h → b ≡ true → ◌≡◌ {A = RowLeft} (0, (next_place found, (row, new))) (told_row (Some (found, h)) place old locators)
  row_told is test = let some = room h.mapping.locators locators new b put_h test in rw (is, some.0, some.1) refl
