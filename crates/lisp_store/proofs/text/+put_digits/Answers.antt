use Rattle.std.proofs.Common.{◌≡◌, ◌+◌, ◌%◌, [], ◌∷◌, ◌++◌, length, subst, refl, ap, sym, ◌∙◌}
use Rattle.std.proofs.lemmas.List.{nil_from_length}
use Rattle.lisp_store.specs.NonceText.{last_digits}
use Rattle.lisp_store.proofs.Digits.{next}
use Rattle.lisp_store.proofs.text.+put_digits.Goals as goal

pub returns-in-Some : goal.returns-in-Some
returns-in-Some t c = ap (λ front. front ++ (48 + c.args.number % 10) ∷ []) c.put_digits.ensures ∙ next (length c.in-Some.front.now) (length c.args.digits.now) c.args.number c.in-Some.ensures.cases.1

pub returns-in_default : goal.returns-in_default
unfolding last_digits
returns-in_default t c = subst (λ digits. digits ≡ last_digits (length digits) c.args.number) (sym (nil_from_length c.args.digits.now c.in_default.ensures.cases)) refl
