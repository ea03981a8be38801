use Rattle.std.proofs.Common.{◌≡◌, nat_eq, true, length, ap, subst, sym, ◌∙◌, arith}
use Rattle.std.specs.List.{slice_range}
use Rattle.std.specs.Str.{IsUtf8}
use Rattle.std.specs.Bool.{then_some}
use Rattle.std.specs.Cmp.Lexicographic.{pointwise}
use Rattle.std.proofs.lemmas.Cmp.{nat_list_eq_equiv}
use Rattle.lisp_store.specs.NonceText.{nonce_text}
use Rattle.lisp_store.proofs.Digits.{digits_of_text, length-nonce_text, digits_are_text, parsed}
use Rattle.lisp_store.proofs.text.nonce_from_text.Goals as goal

pub returns-in_err-digits-clause-only : goal.returns-in_err-digits-clause-only
returns-in_err-digits-clause-only c nonce lt is =
    let long = ap length is ∙ length-nonce_text nonce in
    absurd (omega (arith, c.in_err-digits.ensures.lookup.0, long))

pub returns-in_default-clause-only : goal.returns-in_default-clause-only
returns-in_default-clause-only c nonce lt is = absurd (c.in_default.ensures.cases.0 (subst IsUtf8 (sym (c.in_ok-digits.ensures.lookup.0.2 ∙ ap (λ t. slice_range t 6 26) is ∙ digits_of_text nonce)) (digits_are_text nonce)))

pub returns-in_default-parse-clause-only : goal.returns-in_default-parse-clause-only
returns-in_default-parse-clause-only c nonce lt is =
    let read = parsed nonce c.args.text.now c.in_ok-digits.digits.now c.in-Ok.digits.now c.parse.result lt is c.in_ok-digits.ensures.lookup.0.2 c.in-Ok.ensures.cases.0 c.parse.ensures.value.0 in
    cc (read, c.in_default-parse.is)

pub returns-clause-only : goal.returns-clause-only
returns-clause-only c nonce lt is =
    let read = parsed nonce c.args.text.now c.in_ok-digits.digits.now c.in-Ok.digits.now c.parse.result lt is c.in_ok-digits.ensures.lookup.0.2 c.in-Ok.ensures.cases.0 c.parse.ensures.value.0 in
    let same : c.in-Ok-parse.nonce ≡ nonce = cc (read, c.in-Ok-parse.is) in
    let written : c.as_slice.result.now ≡ nonce_text nonce = c.as_slice.ensures ∙ c.nonce_text.ensures ∙ ap nonce_text same in
    let equal : c.eq.result ≡ true = c.eq.ensures ∙ (λ i. pointwise nat_eq (is i) (written i)) ∙ nat_list_eq_equiv.refl (nonce_text nonce) in
    c.then_some.ensures ∙ (λ i. then_some (equal i) (same i))
