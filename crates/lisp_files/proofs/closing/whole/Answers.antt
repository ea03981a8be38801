use Rattle.std.proofs.Common.{◌∷◌, [], ◌++◌, arith, sym, ap, ◌∙◌, append_assoc}
use Rattle.std.specs.Option.{option_map}
use Rattle.std.proofs.lemmas.Str.Pattern.{strip_suffix_char}
use Rattle.lisp_files.specs.Closing.{closed, closing}
use Rattle.lisp_files.proofs.Closings.{is_cut, strips}
use Rattle.lisp_files.proofs.closing.whole.Goals as goal

pub returns-in_err-strip_suffix : goal.returns-in_err-strip_suffix
returns-in_err-strip_suffix c =
    ap (option_map (λ lines. lines.now)) c.from_residual.ensures
    ∙ sym (is_cut c.args.answer.now (λ front is. c.in_err-strip_suffix.ensures.cases (front ++ 10 ∷ []) (is ∙ sym (append_assoc front (10 ∷ []) closing))))

pub returns : goal.returns
returns c =
    let text = c.in_ok-strip_suffix.ensures.cases in
    strips c.args.answer.now c.in_ok-strip_suffix.field-0.now c.strip_suffix-2.result (text.1.1 ∙ ap closed (sym text.2))
    (strip_suffix_char 10 c.in_ok-strip_suffix.field-0.now c.strip_suffix-2.result c.strip_suffix-2.ensures.cases (omega arith))
