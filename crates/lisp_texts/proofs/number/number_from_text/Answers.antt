use Rattle.std.proofs.Common.{sym, ◌∙◌, arith}
use Rattle.std.proofs.lemmas.Bool.{eqb-false}
use Rattle.lisp_texts.proofs.Numbers.{parsed}
use Rattle.lisp_texts.proofs.number.number_from_text.Goals as goal

pub returns : goal.returns
returns c =
    let some = eqb-false _ _ (sym c.if-is_empty.ensures) in
    let all = rw c.as_bytes.ensures.value at c.if-not-are_digits.ensures in
    c.ok.ensures.value ∙ parsed c.args.text.now c.parse.result c.parse.ensures.value.0 (omega (arith, some)) (omega (arith, c.if-text-gt20.false)) (sym all)
