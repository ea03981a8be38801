-- What a call makes of a table that it used.
use Rattle.std.proofs.Common.{◌≡◌, Option, Some, None, Result, Ok, Err, IfOk, refl, sym, subst}
use Rattle.std.specs.Prelude.{OnOk}
use Rattle.lisp_database_store.specs.Meaning.{Meaning}
use Rattle.lisp_database_store.specs.Table.{Uses}

-- what is said of an answer that is done, and of its value
pub of_value : {V F : Type 0} (R : Type 0) (Q : V → Type 0) (r : Result V F) → ((v : V) → r ≡ Ok v → R → Q v) → OnOk r R → IfOk r Q
of_value R Q (Ok v) f h = f v refl h
of_value R Q (Err e) f h = tt

pub of_done : {V F : Type 0} (R Q : Type 0) (r : Result V F) → ((v : V) → r ≡ Ok v → R → Q) → OnOk r R → OnOk r Q
of_done R Q (Ok v) f h = f v refl h
of_done R Q (Err e) f h = tt

-- the value of a result that is one
its_value : {C F : Type 0} (r : Result C F) (a b : C) → IfOk r (λ t. t ≡ b) → r ≡ Ok a → a ≡ b
its_value (Ok t) a b is was = cc
its_value (Err e) a b is was = absurd cc

is_its_value : {C F : Type 0} (r : Result C F) (b : C) → r ≡ Ok b → IfOk r (λ t. t ≡ b)
is_its_value (Ok t) b is = cc
is_its_value (Err e) b is = tt

-- the table that was there, or that was opened, is the one that was used, and the one that it became is there
pub uses_if : {C F : Type 0} (means : Meaning C) (before after : Option C) (opened : Result C F) (used became : C) (P : C → C → Type 0)
    → ((c : C) → before ≡ Some c → IfOk opened (λ t. t ≡ c)) → (before ≡ None → IfOk opened means.has_tables) → opened ≡ Ok used → after ≡ Some became → P used became
    → Uses means before after P
uses_if means before after opened used became P base tables was now h = record {
  used = used;
  same = λ t is. sym (its_value opened used t (base t is) was);
  anew = λ none. subst (λ r. IfOk r means.has_tables) was (tables none);
  left = (became, now, h);
}

pub uses : {C F : Type 0} (means : Meaning C) (before after : Option C) (opened : Result C F) (used became : C) (P : C → C → Type 0)
    → ((c : C) → before ≡ Some c → opened ≡ Ok c) → (before ≡ None → IfOk opened means.has_tables) → opened ≡ Ok used → after ≡ Some became → P used became
    → Uses means before after P
uses means before after opened used became P base = uses_if means before after opened used became P (λ c is. is_its_value opened c (base c is))
