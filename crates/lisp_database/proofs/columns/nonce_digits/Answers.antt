use Rattle.std.proofs.Common.{ℕ, List, subst, sym, ap, ◌∙◌}
use Rattle.std.specs.List.{slice_range}
use Rattle.std.specs.Str.{IsUtf8}
use Rattle.lisp_database.proofs.Texts.{nonce_digits_are_text, nonce_digits_there}
use Rattle.lisp_database.proofs.columns.nonce_digits.Goals as goal

pub returns-clause-text : goal.returns-clause-text
returns-clause-text c = subst IsUtf8 (sym (c.copy_from_slice.ensures.after ∙ ap (λ (t : List ℕ). slice_range t 6 26) c.nonce_text.ensures ∙ nonce_digits_there c.args.nonce)) (nonce_digits_are_text c.args.nonce)

pub returns-clause-digits : goal.returns-clause-digits
returns-clause-digits c = c.copy_from_slice.ensures.after ∙ ap (λ (t : List ℕ). slice_range t 6 26) c.nonce_text.ensures ∙ nonce_digits_there c.args.nonce
