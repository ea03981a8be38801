use Rattle.std.proofs.Common.{◌≡◌, nat_eq, true, refl, ap, sym, ◌∙◌}
use Rattle.std.specs.List.{slice_range}
use Rattle.std.specs.Bool.{then_some}
use Rattle.std.specs.Cmp.Lexicographic.{pointwise}
use Rattle.std.proofs.lemmas.Cmp.{nat_list_eq_equiv}
use Rattle.lisp_store.specs.NonceText.{last_digits, nonce_text}
use Rattle.lisp_store.proofs.Digits.{digits_of_text, parsed}
use Rattle.lisp_database.proofs.columns.nonce_from_digits.Goals as goal

pub returns-in_default-clause-only : goal.returns-in_default-clause-only
returns-in_default-clause-only c nonce lt is =
    let read = parsed nonce (nonce_text nonce) (slice_range (nonce_text nonce) 6 26) c.args.digits.now c.parse.result lt refl refl (is ∙ sym (digits_of_text nonce)) c.parse.ensures.value.0 in
    cc (read, c.in_default.is)

pub returns-clause-only : goal.returns-clause-only
returns-clause-only c nonce lt is =
    let read = parsed nonce (nonce_text nonce) (slice_range (nonce_text nonce) 6 26) c.args.digits.now c.parse.result lt refl refl (is ∙ sym (digits_of_text nonce)) c.parse.ensures.value.0 in
    let same : c.in-Ok.nonce ≡ nonce = cc (read, c.in-Ok.is) in
    let written : c.as_slice.result.now ≡ last_digits 20 nonce = c.as_slice.ensures ∙ c.nonce_digits.ensures.digits ∙ ap (last_digits 20) same in
    let equal : c.eq.result ≡ true = c.eq.ensures ∙ (λ i. pointwise nat_eq ((c.as_bytes.ensures.value ∙ is) i) (written i)) ∙ nat_list_eq_equiv.refl (last_digits 20 nonce) in
    c.then_some.ensures ∙ (λ i. then_some (equal i) (same i))
