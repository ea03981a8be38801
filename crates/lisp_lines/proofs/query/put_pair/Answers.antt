use Rattle.std.proofs.Common.{codes}
use Rattle.std.proofs.lemmas.Result.{err_from_is_err_and, on_err_weaker}
use Rattle.std.specs.String.{string_bytes}
use Rattle.lisp_lines.proofs.Fronts.{three_1, three_2, three_3}
use Rattle.lisp_lines.proofs.query.put_pair.Goals as goal

pub returns-in_err-put_words-clause-front : goal.returns-in_err-put_words-clause-front
returns-in_err-put_words-clause-front g c =
    let p = err_from_is_err_and c.from_residual.result c.from_residual.ensures.1 in
    rw p.1 (three_1 (string_bytes c.args.text.now) c.args.one.now (codes " ") c.args.other.now _ c.in_err-put_words.ensures.front)

pub returns-in_err-put_words-2-clause-front : goal.returns-in_err-put_words-2-clause-front
returns-in_err-put_words-2-clause-front g c =
    let p = err_from_is_err_and c.from_residual-in_err-put_words-2.result c.from_residual-in_err-put_words-2.ensures.1 in
    rw p.1 (three_2 (string_bytes c.args.text.now) c.args.one.now (codes " ") c.args.other.now _ _ c.in_ok-put_words.ensures.text c.in_err-put_words-2.ensures.front)

pub returns-clause-front : goal.returns-clause-front
returns-clause-front g c =
    on_err_weaker c.put_words-3.result (three_3 (string_bytes c.args.text.now) c.args.one.now (codes " ") c.args.other.now _ _ _ c.in_ok-put_words.ensures.text c.in_ok-put_words-2.ensures.text) c.put_words-3.ensures.front
