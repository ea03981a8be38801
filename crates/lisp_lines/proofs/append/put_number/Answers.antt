use Rattle.std.proofs.lemmas.Result.{err_from_is_err_and, on_err_weaker}
use Rattle.std.specs.Fmt.{decimal}
use Rattle.std.specs.String.{string_bytes}
use Rattle.lisp_lines.proofs.Fronts.{two_1, two_2}
use Rattle.lisp_lines.proofs.append.put_number.Goals as goal

pub returns-in_err-put_words-clause-front : goal.returns-in_err-put_words-clause-front
returns-in_err-put_words-clause-front g c =
    let p = err_from_is_err_and c.from_residual.result c.from_residual.ensures.1 in
    rw p.1 (two_1 (string_bytes c.args.text.now) c.args.what.now (decimal c.args.number) _ c.in_err-put_words.ensures.front)

pub returns-clause-front : goal.returns-clause-front
returns-clause-front g c =
    on_err_weaker c.put_decimal.result (two_2 (string_bytes c.args.text.now) c.args.what.now (decimal c.args.number) _ _ c.in_ok-put_words.ensures.text) c.put_decimal.ensures.front
